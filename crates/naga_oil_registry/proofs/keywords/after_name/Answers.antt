use Rattle.std.proofs.Common.{◌≡◌, [], sym, refl, ◌∙◌, rules}
use Rattle.std.specs.Str.{chars}
use Rattle.naga_oil_lines.proofs.TextLemmas.{after_run, after_run_pass}
use Rattle.naga_oil_lines.proofs.TokenLemmas.{suffix_more}
use Rattle.naga_oil_registry.specs.Keywords.{is_name_char}
use Rattle.naga_oil_registry.proofs.KeywordsLemmas.{no_chars, name_char}
use Rattle.naga_oil_registry.proofs.keywords.after_name.Goals as goal

pub loop-first-preserved : goal.loop-first-preserved
loop-first-preserved c =
    let before = c.loop-first.invariant in
    let e = c.in-Some.ensures in
    let goes_on = name_char c.in-Some.first c.is_whitespace.result (search rules) (search rules) (search rules) in
    let step : after_run is_name_char (chars c.loop-first.rest.now) ≡ after_run is_name_char (chars c.in-Some.more.now) = rw e.spelled (after_run_pass is_name_char c.in-Some.first (chars c.in-Some.more.now) goes_on) in
    record { text = e.utf8; same = sym step ∙ before.same; left = suffix_more _ _ _ _ _ before.left.1 e.bytes }

pub returns-clause-chars : goal.returns-clause-chars
returns-clause-chars c =
    let none : chars c.loop-first.rest.now ≡ [] = no_chars c.loop-first.rest.now c.in_default.ensures in
    let step : after_run is_name_char (chars c.loop-first.rest.now) ≡ chars c.loop-first.rest.now = rw none refl in
    sym step ∙ c.loop-first.invariant.same
