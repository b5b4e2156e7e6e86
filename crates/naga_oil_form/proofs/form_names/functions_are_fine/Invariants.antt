use Rattle.std.proofs.Common.{◌≡◌, ◌<◌, ℕ, map, take, slice_get, Some}
use Rattle.std.specs.Cow.{cow_str_bytes}
use Rattle.naga_oil_ir.specs.declared.module.Function.{Function}
use Rattle.naga_oil_ir.specs.declared.span.Span.{Span}
use Rattle.naga_oil_form.specs.NameForm.{function_name}
use Rattle.naga_oil_form.specs.WellFormed.{NamedForm}
use Rattle.naga_oil_words.specs.Marks.{with_decoration}
use Rattle.naga_oil_form.proofs.NameFormLemmas.{AreSeen}
use Rattle.naga_oil_form.proofs.form_names.functions_are_fine.Given as goal

abbrev pub invariant-loop-place : goal.invariant-loop-place
invariant-loop-place l = record {
  each : (k : ℕ) (e : Function × Span) → k < l.place → slice_get l.functions k ≡ Some e → NamedForm l.of k l.text_len e;
  seen : AreSeen cow_str_bytes l.names.keys (map (λ e. with_decoration l.decoration (function_name e.0)) (take l.place l.functions));
}
