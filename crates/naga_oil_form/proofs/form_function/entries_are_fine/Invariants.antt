use Rattle.std.proofs.Common.{All, take}
use Rattle.naga_oil_form.specs.WellFormed.{EntryForm}
use Rattle.naga_oil_form.proofs.form_function.entries_are_fine.Given as goal

abbrev pub invariant-loop-entry : goal.invariant-loop-entry
invariant-loop-entry l = All (EntryForm l.of l.text_len) (take l.entry-index l.entry-items)
