use Rattle.std.proofs.Common.{◌≡◌, ◌-◌, ◌||◌, Some, length, eqb, ap, ◌∙◌, sym}
use borrow.Author.Tests.{ne_eqb}
use Rattle.std.specs.List.{slice_get}
use Rattle.naga_oil_imports.proofs.GapLemmas.{keeps_by_last}
use Rattle.naga_oil_imports.proofs.substitute.gap_keeps.Goals as goal

pub returns-then-last-eq46 : goal.returns-then-last-eq46
returns-then-last-eq46 c =
    let last : Some c.in-Some.last.now ≡ slice_get c.args.gap.now (length c.args.gap.now - 1) = c.in-Some.ensures.value ∙ ap (λ bs. slice_get bs (length bs - 1)) c.as_bytes.ensures.value in
    ap (λ k. eqb k 46) c.if-last-eq46.true ∙ sym (ap (λ k. eqb k 46 || eqb k 64) c.if-last-eq46.true) ∙ keeps_by_last c.args.kept c.args.gap.now c.in-Some.last.now last

pub returns-else-last-eq46 : goal.returns-else-last-eq46
returns-else-last-eq46 c =
    let last : Some c.in-Some.last.now ≡ slice_get c.args.gap.now (length c.args.gap.now - 1) = c.in-Some.ensures.value ∙ ap (λ bs. slice_get bs (length bs - 1)) c.as_bytes.ensures.value in
    ap (λ b. b || eqb c.in-Some.last.now 64) (sym (ne_eqb c.in-Some.last.now 46 c.if-last-eq46.false)) ∙ keeps_by_last c.args.kept c.args.gap.now c.in-Some.last.now last
