-- The tokens of statements that hold blocks or lists.
use Rattle.std.proofs.Common.{◌≡◌, ◌++◌, Option, [], ◌∷◌, map, ap, sym, ◌∙◌, ℕ, Vec, Global}
use Rattle.std.specs.List.{flat_map}
use Rattle.naga_oil_ir.proofs.BodyLemmas.{switch_tokens}
use Rattle.naga_oil_ir.specs.declared.tokens.Token.TheVariants.{Head, Plain, Flag, Use, Callee}
use Rattle.naga_oil_ir.specs.declared.statement.Statement.TheOpen as open_
use Rattle.naga_oil_ir.specs.Body.{inside, used, given_by, Tokens, block_tokens, statement_tokens, case_tokens, statement_step, block_step, case_step}
use Rattle.naga_oil_ir.specs.declared.statement.Block.{Block}
use Rattle.naga_oil_ir.specs.declared.statement.SwitchCase.{SwitchCase, SwitchCase-F, roll-SwitchCase, fold-roll-SwitchCase}
use Rattle.naga_oil_ir.specs.declared.statement.Statement.{fold-roll-Statement, Loop, Call, If, Switch, Block as Inner}
use Rattle.naga_oil_ir.specs.declared.statement.Statement.TheVariants.{rolls-Loop, rolls-Call, rolls-If, rolls-Block}

pub call_tokens : (f : ℕ) (hs : Vec ℕ Global) (r : Option ℕ) → statement_tokens (Call f hs r) ≡ (Head 16 ∷ Callee f ∷ []) ++ map Use hs.items ++ given_by f r ∷ []
call_tokens f hs r =
    ap statement_tokens (sym (rolls-Call f hs r)) ∙ fold-roll-Statement Tokens Tokens Tokens statement_step block_step case_step (open_.Call f hs r)

pub inner_tokens : (b : Block) → statement_tokens (Inner b) ≡ (Head 1 ∷ []) ++ inside (block_tokens b)
inner_tokens b = ap statement_tokens (sym (rolls-Block b)) ∙ fold-roll-Statement Tokens Tokens Tokens statement_step block_step case_step (open_.Block b)

pub if_tokens : (k : ℕ) (b c : Block) → statement_tokens (If k b c) ≡ (Head 2 ∷ Use k ∷ []) ++ inside (block_tokens b) ++ inside (block_tokens c)
if_tokens k b c = ap statement_tokens (sym (rolls-If k b c)) ∙ fold-roll-Statement Tokens Tokens Tokens statement_step block_step case_step (open_.If k b c)

pub loop_tokens : (b c : Block) (h : Option ℕ) → statement_tokens (Loop b c h) ≡ (Head 4 ∷ []) ++ inside (block_tokens b) ++ inside (block_tokens c) ++ used h ∷ []
loop_tokens b c h = ap statement_tokens (sym (rolls-Loop b c h)) ∙ fold-roll-Statement Tokens Tokens Tokens statement_step block_step case_step (open_.Loop b c h)

pub switch_of_arms : (h : ℕ) (cases : Vec SwitchCase Global) → statement_tokens (Switch h cases) ≡ (Head 3 ∷ Use h ∷ []) ++ flat_map case_tokens cases.items
switch_of_arms h cases = switch_tokens h cases

pub arm_tokens : (c : SwitchCase-F _ Block _) → case_tokens (roll-SwitchCase c) ≡ (Plain c.value ∷ Flag c.fall_through ∷ []) ++ inside (block_tokens c.body)
arm_tokens c = fold-roll-SwitchCase Tokens Tokens Tokens statement_step block_step case_step c
