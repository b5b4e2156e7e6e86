use Rattle.std.proofs.Common.{◌≡◌, ◌++◌, Option, Some, option_map, List, [], ◌∷◌, map, refl, ap, sym, ◌∙◌, ℕ, Vec, Global}
use Rattle.naga_oil_ir.specs.declared.tokens.Token.TheVariants.{Head, Use, Callee}
use Rattle.naga_oil_ir.specs.declared.statement.Statement.TheOpen as open_
use Rattle.naga_oil_ir.specs.Body.{inside, used, given_by, Tokens, block_tokens, statement_tokens, statement_step, block_step, case_step}
use Rattle.naga_oil_ir.specs.declared.statement.Block.{Block}
use Rattle.naga_oil_ir.specs.declared.statement.Statement.{fold-roll-Statement, Loop, Call, If, Block as Inner}
use Rattle.naga_oil_ir.specs.declared.statement.Statement.TheVariants.{rolls-Loop, rolls-Call, rolls-If, rolls-Block}
use Rattle.naga_oil_rename.specs.Renames.{Renames, rename_token}

-- `Some` of what `f` returns is `Some` with `f` mapped inside
pub map-Some-map : {A B : Type 0} (f : A → B) (xs : List A) → map Some (map f xs) ≡ map (option_map f) (map Some xs)
map-Some-map f [] = refl
map-Some-map f (x ∷ xs) = ap (λ ys. Some (f x) ∷ ys) (map-Some-map f xs)

pub map-Use-rename : (r : Renames) (hs : List ℕ) → map Use (map r.expression hs) ≡ map (rename_token r) (map Use hs)
map-Use-rename r [] = refl
map-Use-rename r (h ∷ hs) = ap (λ ts. Use (r.expression h) ∷ ts) (map-Use-rename r hs)

pub loop_tokens : (b c : Block) (k : Option ℕ) → statement_tokens (Loop b c k) ≡ (Head 4 ∷ []) ++ inside (block_tokens b) ++ inside (block_tokens c) ++ used k ∷ []
loop_tokens b c k =
    ap statement_tokens (sym (rolls-Loop b c k)) ∙ fold-roll-Statement Tokens Tokens Tokens statement_step block_step case_step (open_.Loop b c k)

pub call_tokens : (f : ℕ) (hs : Vec ℕ Global) (r : Option ℕ) → statement_tokens (Call f hs r) ≡ (Head 16 ∷ Callee f ∷ []) ++ map Use hs.items ++ given_by f r ∷ []
call_tokens f hs r =
    ap statement_tokens (sym (rolls-Call f hs r)) ∙ fold-roll-Statement Tokens Tokens Tokens statement_step block_step case_step (open_.Call f hs r)

pub block_inside_tokens : (b : Block) → statement_tokens (Inner b) ≡ (Head 1 ∷ []) ++ inside (block_tokens b)
block_inside_tokens b = ap statement_tokens (sym (rolls-Block b)) ∙ fold-roll-Statement Tokens Tokens Tokens statement_step block_step case_step (open_.Block b)

pub if_tokens : (k : ℕ) (b c : Block) → statement_tokens (If k b c) ≡ (Head 2 ∷ Use k ∷ []) ++ inside (block_tokens b) ++ inside (block_tokens c)
if_tokens k b c = ap statement_tokens (sym (rolls-If k b c)) ∙ fold-roll-Statement Tokens Tokens Tokens statement_step block_step case_step (open_.If k b c)
