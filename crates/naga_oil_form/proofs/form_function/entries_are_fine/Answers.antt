use Rattle.std.proofs.Common.{All, true, refl, subst, arith}
use Rattle.std.proofs.lemmas.List.{take_all}
use Rattle.std.proofs.lemmas.List.Elements.{All-more}
use Rattle.naga_oil_form.specs.WellFormed.{EntryForm}
use Rattle.naga_oil_form.proofs.FormLemmas.{decides_by}
use Rattle.naga_oil_form.proofs.form_function.entries_are_fine.Goals as goal

pub loop-entry-preserved : goal.loop-entry-preserved
loop-entry-preserved c =
    let P = EntryForm c.args.of.now c.args.text_len in
    All-more P c.deref-entry-items.result.now c.loop-entry.entry-index c.entry-item.result (omega arith) c.loop-entry.invariant (subst P c.entry-item.is (c.in_ok-entry_is_fine.ensures.0 c.if-not-branch.false))

pub returns : goal.returns
returns c =
    let P = All (EntryForm c.args.of.now c.args.text_len) in
    let es = c.deref-entry-items.result.now in
    decides_by P es c.args.of.now.entry_points.items true c.deref-entry-items.ensures.value (λ h. subst P (take_all c.loop-entry.entry-index es (omega arith)) c.loop-entry.invariant, λ a. refl)
