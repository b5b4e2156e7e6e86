use Rattle.std.proofs.Common.{◌≡◌, ◌≤◌, ◌++◌, List, [], ◌∷◌, arith, length, take, map, refl, ap, sym, ◌∙◌, ℕ, Vec, Global}
use Rattle.naga_oil_ir.specs.declared.tokens.Token.TheVariants.{At, Head, Use}
use Rattle.naga_oil_ir.specs.declared.statement.Statement.TheOpen as open_
use Rattle.naga_oil_ir.specs.declared.statement.SwitchCase.{SwitchCase}
use Rattle.std.specs.List.{flat_map}
use Rattle.std.proofs.Math.Seq.{take-append_seam}
use Rattle.std.proofs.lemmas.List.{length-take, take-take}
use Rattle.naga_oil_ir.specs.Body.{spanned_tokens, Tokens, block_tokens, statement_tokens, case_tokens, statement_step, block_step, case_step}
use Rattle.naga_oil_ir.specs.declared.statement.Block.{Block, Block-F, out-Block, roll-Block, fold_out-Block, fold-roll-Block}
use Rattle.naga_oil_ir.specs.declared.statement.Statement.{Statement, fold-roll-Statement, Switch}
use Rattle.naga_oil_ir.specs.declared.statement.Statement.TheVariants.{rolls-Switch}

flat_map-map : {X Y A : Type 0} (f : Y → List A) (g : X → Y) (xs : List X) → flat_map f (map g xs) ≡ flat_map (λ x. f (g x)) xs
flat_map-map f g [] = refl
flat_map-map f g (x ∷ xs) = ap (λ t. f (g x) ++ t) (flat_map-map f g xs)

-- a body's tokens are those of its statements
pub block_tokens-out : (b : Block) → block_tokens b ≡ flat_map spanned_tokens (out-Block b).body.items
block_tokens-out b = fold_out-Block Tokens Tokens Tokens statement_step block_step case_step b ∙ flat_map-map (λ p. At p.1 ∷ p.0) (λ p. (statement_tokens p.0, p.1)) (out-Block b).body.items

-- the tokens of a body that is built from statements
pub block_tokens-roll : (d : Block-F Statement Block SwitchCase) → block_tokens (roll-Block d) ≡ flat_map spanned_tokens d.body.items
block_tokens-roll d =
    fold-roll-Block Tokens Tokens Tokens statement_step block_step case_step d ∙ flat_map-map (λ p. At p.1 ∷ p.0) (λ p. (statement_tokens p.0, p.1)) d.body.items

-- a switch's tokens end in those of its arms
pub switch_tokens : (h : ℕ) (cases : Vec SwitchCase Global) → statement_tokens (Switch h cases) ≡ (Head 3 ∷ Use h ∷ []) ++ flat_map case_tokens cases.items
switch_tokens h cases =
    ap statement_tokens (sym (rolls-Switch h cases)) ∙ fold-roll-Statement Tokens Tokens Tokens statement_step block_step case_step (open_.Switch h cases) ∙ ap (λ t. (Head 3 ∷ Use h ∷ []) ++ t) (flat_map-map (λ c. c) case_tokens cases.items)

-- a prefix stays a prefix when more is pushed after it
pub front_pushed : {A : Type 0} (x y a : List A) → y ≡ x ++ a → take (length x) y ≡ x
front_pushed x y a e = ap (λ t. take (length x) t) e ∙ take-append_seam x a

pub fronts : {A : Type 0} (x y z : List A) → take (length x) y ≡ x → take (length y) z ≡ y → take (length x) z ≡ x
fronts x y z p q =
    let within : length x ≤ length y = omega (arith, ap length p, length-take (length x) y) in
    sym (take-take (length x) (length y) z within) ∙ ap (λ t. take (length x) t) q ∙ p
