use Rattle.std.proofs.Common.{map, take}
use Rattle.std.specs.Cow.{cow_str_bytes}
use Rattle.naga_oil_form.specs.NameForm.{entry_name}
use Rattle.naga_oil_words.specs.Marks.{with_decoration}
use Rattle.naga_oil_form.proofs.NameFormLemmas.{AreSeen}
use Rattle.naga_oil_form.proofs.form_names.entries_are_distinct.Given as goal

abbrev pub invariant-loop-entry : goal.invariant-loop-entry
invariant-loop-entry l = AreSeen cow_str_bytes l.names.keys (map (λ e. with_decoration l.decoration (entry_name e.function)) (take l.entry-index l.entries))
