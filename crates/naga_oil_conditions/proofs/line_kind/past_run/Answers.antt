use Rattle.std.proofs.Common.{◌≡◌, [], ap, sym, refl, ◌∙◌, rules}
use Rattle.std.specs.Str.{chars}
use Rattle.std.proofs.lemmas.Str.{chars-nil}
use Rattle.std.proofs.lemmas.List.{nil_from_length}
use Rattle.naga_oil_conditions.specs.KindView.{class_of}
use Rattle.naga_oil_lines.proofs.TokenLemmas.{suffix_more}
use Rattle.naga_oil_lines.proofs.TextLemmas.{after_run, after_run_pass}
use Rattle.naga_oil_conditions.proofs.line_kind.past_run.Goals as goal

pub loop-first-preserved : goal.loop-first-preserved
loop-first-preserved c =
    let before = c.loop-first.invariant in
    let e = c.in-Some.ensures in
    let step : after_run (class_of c.args.class) (chars c.loop-first.rest.now) ≡ after_run (class_of c.args.class) (chars c.in-Some.more.now) = rw e.spelled (after_run_pass (class_of c.args.class) _ _ (search rules)) in
    record { text = e.utf8; same = sym step ∙ before.same; suffix = suffix_more _ _ _ _ _ before.suffix.1 e.bytes }

pub returns-clause-chars : goal.returns-clause-chars
returns-clause-chars c =
    let none : chars c.loop-first.rest.now ≡ [] = ap chars (nil_from_length _ c.in_default.ensures) ∙ chars-nil in
    let step : after_run (class_of c.args.class) (chars c.loop-first.rest.now) ≡ chars c.loop-first.rest.now = rw none refl in
    sym step ∙ c.loop-first.invariant.same
