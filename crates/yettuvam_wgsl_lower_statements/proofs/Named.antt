-- Expressions and their names as plain data.
use Rattle.std.specs.Prelude.{◌≡◌, ℕ, nat_eq, List, slice_get, option_map, String, string_bytes}
use Rattle.std.specs.Global.{Global}
use Rattle.std.specs.Map.{lookup}
use Rattle.std.proofs.lemmas.Map.Made.{lookup-map_values}
use Rattle.std.proofs.lemmas.Option.{slice_get-map}
use Rattle.naga_oil_ir.specs.ModuleValue.{expression_values}
use Rattle.naga_oil_ir.specs.Parts.{parts}
use Rattle.naga_oil_ir.specs.declared.expression.Expression.{Expression}
use Rattle.naga_oil_ir.specs.declared.span.Span.{Span}
use Rattle.yettuvam_wgsl_values.specs.Body.{named_view}

-- the expression at a place, by its parts
pub get_of_values : (es : List (Expression × Span)) (i : ℕ) → slice_get (expression_values es) i ≡ option_map (λ e. (parts e.0, e.1)) (slice_get es i)
get_of_values es i = slice_get-map (λ e. (parts e.0, e.1)) es i

-- the name of an expression
pub lookup_of_names : (es : List (ℕ × String Global)) (i : ℕ) → lookup (nat_eq i) (named_view es) ≡ option_map string_bytes (lookup (nat_eq i) es)
lookup_of_names es i = lookup-map_values string_bytes (nat_eq i) es
