use Rattle.std.proofs.Common.{◌≡◌, ◌++◌, Option, None, IfSome, List, ℕ, sym, subst, rules}
use denote.Ref.{Bor}
use Rattle.std.specs.Char.{encode_utf8}
use Rattle.std.specs.Str.{chars}
use Rattle.naga_oil_lines.proofs.TokenLemmas.{suffix_more}
use Rattle.naga_oil_registry.proofs.KeywordsLemmas.{no_chars, no_spaces, then_holds}
use Rattle.naga_oil_registry.proofs.keywords.past_spaces.Goals as goal

pub returns-in_err-first-clause-chars : goal.returns-in_err-first-clause-chars
returns-in_err-first-clause-chars c =
    let none : c.from_residual.result ≡ None = search rules in
    rw none (no_spaces (chars c.args.text.now) (no_chars c.args.text.now c.in_err-first.ensures))

pub returns-clause-suffix : goal.returns-clause-suffix
returns-clause-suffix c =
    let suffix = c.after_whitespace.ensures.suffix in
    subst (λ (o : Option (Bor (List ℕ))). IfSome o (λ r. (x : List ℕ) × (c.args.text.now ≡ x ++ r.now))) (sym c.then_some.ensures)
    (then_holds {A = Bor (List ℕ)} c.is_whitespace.result c.after_whitespace.result (λ r. (x : List ℕ) × (c.args.text.now ≡ x ++ r.now)) (suffix_more c.args.text.now (encode_utf8 c.in_ok-first.first) c.in_ok-first.more.now suffix.0 c.after_whitespace.result.now c.in_ok-first.ensures.bytes suffix.1))
