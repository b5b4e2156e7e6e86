-- Functions that have neither local variables nor statements.
use Rattle.std.proofs.Common.{◌≡◌, ◌∙◌, refl, sym, ap, List, [], ◌∷◌, ◌++◌}
use Rattle.std.specs.List.{flat_map}
use Rattle.naga_oil_ir.specs.Body.{block_tokens, spanned_tokens, statement_tokens}
use Rattle.naga_oil_ir.specs.declared.tokens.Token.TheVariants.{At}
use Rattle.naga_oil_ir.specs.declared.span.Span.{Span}
use Rattle.naga_oil_ir.specs.declared.statement.Block.{Block, out-Block}
use Rattle.naga_oil_ir.specs.declared.statement.Statement.{Statement}
use Rattle.naga_oil_ir.proofs.BodyLemmas.{block_tokens-out}

cons≢nil : {A : Type 0} (x : A) (xs : List A) → x ∷ xs ≡ [] → ⊥
cons≢nil x xs e = cc

-- each statement has a token, that of its span
no_statements : (ps : List (Statement × Span)) → flat_map spanned_tokens ps ≡ [] → ps ≡ []
no_statements [] e = refl
no_statements (p ∷ ps) e = absurd (cons≢nil (At p.1) (statement_tokens p.0 ++ flat_map spanned_tokens ps) e)

pub no_tokens : (b : Block) → block_tokens b ≡ [] → (out-Block b).body.items ≡ []
no_tokens b e = no_statements (out-Block b).body.items (sym (block_tokens-out b) ∙ e)

pub without_tokens : (b : Block) → (out-Block b).body.items ≡ [] → block_tokens b ≡ []
without_tokens b e = block_tokens-out b ∙ ap (λ ps. flat_map spanned_tokens ps) e
