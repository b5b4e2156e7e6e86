-- A module's functions as values.
use Rattle.std.proofs.Common.{◌≡◌, ℕ, List, length, map, Option, Some, None, option_map, refl, ap, ◌∙◌}
use Rattle.std.specs.Prelude.{slice_get}
use Rattle.std.proofs.lemmas.Option.{slice_get-map}
use Rattle.std.proofs.lemmas.List.{length-map}
use Rattle.naga_oil_ir.specs.ModuleValue.{FunctionValue, function_value, argument_value}
use Rattle.naga_oil_ir.specs.declared.module.Function.{Function}
use Rattle.naga_oil_ir.specs.declared.span.Span.{Span}
use Rattle.naga_oil_mini_front.specs.Reader.{name_of}
use Rattle.naga_oil_mini_front.specs.Valid.{name_in}
use Rattle.naga_oil_mini_writer.specs.Writer.{function_values}

counted : (o : Option (Function × Span)) → option_map (λ e. length e.0.arguments) (option_map {T = Function × Span} {U = FunctionValue × Span} (λ f. (function_value f.0, f.1)) o) ≡ option_map (λ e. length e.0.arguments.items) o
counted None = refl
counted (Some e) = ap Some (length-map e.0.arguments.items argument_value)

pub parameter_count_value : (fs : List (Function × Span)) (k : ℕ) → option_map (λ e. length e.0.arguments) (slice_get (function_values fs) k) ≡ option_map (λ e. length e.0.arguments.items) (slice_get fs k)
parameter_count_value fs k = ap (option_map (λ e. length e.0.arguments)) (slice_get-map {A = Function × Span} {B = FunctionValue × Span} (λ f. (function_value f.0, f.1)) fs k) ∙ counted (slice_get fs k)

abbrev pub name_of_entry : Option (Function × Span) → List ℕ
name_of_entry None = Rattle.std.proofs.Common.[]
name_of_entry (Some e) = name_of (function_value e.0).name

named : (o : Option (Function × Span)) → name_in (option_map {T = Function × Span} {U = FunctionValue × Span} (λ f. (function_value f.0, f.1)) o) ≡ name_of_entry o
named None = refl
named (Some e) = refl

pub name_at_value : (fs : List (Function × Span)) (k : ℕ) → name_in (slice_get (function_values fs) k) ≡ name_of_entry (slice_get fs k)
name_at_value fs k = ap name_in (slice_get-map {A = Function × Span} {B = FunctionValue × Span} (λ f. (function_value f.0, f.1)) fs k) ∙ named (slice_get fs k)
