-- The names of expressions.
use Rattle.std.specs.Prelude.{ℕ, Bool, true, ◌&&◌, not, nat_eq, List, [], ◌∷◌, slice_get, Option, Some, None, is_some}
use Rattle.std.specs.List.{list_any}
use Rattle.std.specs.Map.{lookup}
use Rattle.naga_oil_ir.specs.Parts.{Parts, expr}
use Rattle.naga_oil_ir.specs.declared.parts.Named.TheVariants.{Nothing, TypeOf}
use Rattle.naga_oil_ir.specs.declared.span.Span.{Span}
use Rattle.yettuvam_wgsl_words.specs.Class.{Text}
use Rattle.yettuvam_wgsl_machine.specs.Machine.{Node}
use Rattle.yettuvam_wgsl_scope.specs.Refused.{Outcome, ◌>>=◌}
use Rattle.yettuvam_wgsl_shape.specs.declared.number.Number.{Number}
use Rattle.yettuvam_wgsl_types.specs.Types as types
use Rattle.yettuvam_wgsl_types.specs.declared.shape.Shape.{Shape}
use Rattle.yettuvam_wgsl_values.specs.Body.{State, Done, compute, flush, name_expression, know, in_types}
use Rattle.yettuvam_wgsl_values.specs.Value.{Value, handle_of}
use Rattle.yettuvam_wgsl_values.specs.declared.value.Meaning.TheVariants as means

-- the kinds of expressions that are never emitted, and are no results: literals, zeros, constants, overrides, global and local
-- variables, arguments
abbrev pub external_kinds : List ℕ
external_kinds = 0 ∷ 1 ∷ 2 ∷ 3 ∷ 4 ∷ 5 ∷ 6 ∷ []

abbrev pub is_external : Parts → Bool
is_external p = list_any (nat_eq p.kind) external_kinds

abbrev pub is_external_or_none : Option (Parts × Span) → Bool
is_external_or_none None = true
is_external_or_none (Some e) = is_external e.0

abbrev pub is_external_at : List (Parts × Span) → ℕ → Bool
is_external_at es place = is_external_or_none (slice_get es place)

abbrev pub has_name : List (ℕ × Text) → ℕ → Bool
has_name named place = is_some (lookup (nat_eq place) named)

-- an expression can have a name of its own: it is emitted or a result, and has none
abbrev pub takes_name : ℕ → State → Bool
takes_name place s = not (is_external_at s.expressions place) && not (has_name s.named place)

-- a copy of a value, under a name
unfoldable pub copy : Value → (convert : ℕ) → Node → State → Outcome State ℕ
copy v convert node s = compute (expr 28 (0 ∷ convert ∷ []) Nothing (Some (handle_of v) ∷ [])) node.span s

unfoldable pub mark_type : (base sign : ℕ) → State → Outcome State ℕ
mark_type base sign s = in_types (types.pointer base sign) s

unfoldable pub composed : (value ty : ℕ) → Node → State → Outcome State ℕ
composed value ty node s = compute (expr 13 [] (TypeOf ty) (Some value ∷ [])) node.span s

-- a value that is marked as of a type
unfoldable pub marked : Value → (base sign : ℕ) → Node → State → Outcome State ℕ
marked v base sign node s = mark_type base sign s >>= (λ ty. composed (handle_of v) ty node)

-- names an expression that is emitted before what follows
unfoldable pub named : (place : ℕ) → Shape → Option Number → Node → State → Done
named place shape number node s = name_expression place s >>= (λ _ t. flush node.span t >>= (λ _. know (means.Value place shape number)))
