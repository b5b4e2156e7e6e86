-- Values of types: conversions, composed values and zeros.
use Rattle.std.specs.Prelude.{ℕ, ◌-◌, ◌^◌, min, List, [], ◌∷◌, length, map, Option, Some, None, Err}
use Rattle.naga_oil_ir.specs.Parts.{Parts, expr, parts}
use Rattle.naga_oil_ir.specs.declared.parts.Named.TheVariants.{TypeOf}
use Rattle.naga_oil_ir.specs.declared.expression.Expression.TheVariants as expression
use Rattle.naga_oil_ir.specs.declared.types.ArraySize.TheVariants as size
use Rattle.yettuvam_wgsl_arguments.specs.Arguments.{conversion, handles}
use Rattle.yettuvam_wgsl_machine.specs.Machine.{Node}
use Rattle.yettuvam_wgsl_operators.specs.Operators.{give_computed}
use Rattle.yettuvam_wgsl_predeclared.specs.declared.words.Generic.{Generic}
use Rattle.yettuvam_wgsl_predeclared.specs.declared.words.Generic.TheVariants as generic
use Rattle.yettuvam_wgsl_scope.specs.Refused.{Outcome, ◌>>=◌, fault}
use Rattle.yettuvam_wgsl_scope.specs.declared.refusal.Reason.TheVariants as reason
use Rattle.yettuvam_wgsl_shape.specs.declared.number.Number.{Number}
use Rattle.yettuvam_wgsl_types.specs.Types as types
use Rattle.yettuvam_wgsl_types.specs.declared.shape.Shape.{Shape}
use Rattle.yettuvam_wgsl_types.specs.declared.types.PlainType.{PlainType}
use Rattle.yettuvam_wgsl_types.specs.declared.types.PlainType.TheVariants as plain
use Rattle.yettuvam_wgsl_values.specs.Body.{State, Done, in_types, put, compute, give, number_value}
use Rattle.yettuvam_wgsl_values.specs.Value.{Value, Plain, handle_of}

-- the kind of composed values: their type and their parts
abbrev pub compose_parts : (ty : ℕ) → List ℕ → Parts
compose_parts ty components = expr 13 [] (TypeOf ty) (map Some components)

unfoldable pub composed : (ty : ℕ) → List Value → Node → State → Outcome State ℕ
composed ty args node s = compute (compose_parts ty (handles args)) node.span s

-- a value of a type
unfoldable pub give_of : (place ty : ℕ) → Option Number → State → Done
give_of place ty n s = give (number_value (Plain place) (types.shape_of s.types ty) n) s

-- a value of a type, of its parts
unfoldable pub compose : (ty : ℕ) → List Value → Node → State → Done
compose ty args node s =
    let n = conversion (types.scalar_of s.types ty) args in
    composed ty args node s >>= (λ place. give_of place ty n)

-- the zero of a type
unfoldable pub zero : (ty : ℕ) → Node → State → Done
zero ty node s = put (parts (expression.ZeroValue ty)) node.span s >>= (λ place. give_of place ty None)

abbrev pub construct_of : List Value → (ty : ℕ) → Node → State → Done
construct_of [] ty node s = zero ty node s
construct_of (v ∷ vs) ty node s = compose ty (v ∷ vs) node s

-- a value of a type: without arguments its zero
unfoldable pub construct : (ty : ℕ) → List Value → Node → State → Done
construct ty args node s = construct_of args ty node s

-- a value of a predeclared type
unfoldable pub construct_plain : PlainType → List Value → Node → State → Done
construct_plain ty args node s = in_types (types.plain ty) s >>= (λ place. construct place args node)

abbrev pub count_of : List Value → ℕ
count_of args = min (length args) (2 ^ 32 - 1)

unfoldable pub array_of : Shape → List Value → Node → State → Done
array_of shape args node s =
    in_types (types.type_of shape) s >>= (λ base t.
    in_types (types.array base (size.Constant (count_of args))) t >>= (λ place. construct place args node))

abbrev pub construct_array_of : List Value → Node → State → Done
construct_array_of [] node s = Err (fault reason.Template node.span)
construct_array_of (v ∷ vs) node s = array_of v.shape (v ∷ vs) node s

-- array without a type: that of its first part
unfoldable pub construct_array : List Value → Node → State → Done
construct_array args node s = construct_array_of args node s

abbrev pub construct_by : Generic → List Value → Node → State → Done
construct_by (generic.Vector n) args node s = construct_plain (plain.Vector n) args node s
construct_by (generic.Matrix n) args node s = construct_plain (plain.Matrix n) args node s
construct_by generic.Array args node s = construct_array args node s
construct_by _ args node s = Err (fault reason.Template node.span)

-- a value of a type whose template arguments are left out
unfoldable pub construct_word : Generic → List Value → Node → State → Done
construct_word word args node s = construct_by word args node s

abbrev pub bitcast_of : List Value → (kind : ℕ) → Node → State → Done
bitcast_of (v ∷ []) kind node s = give_computed (parts (expression.As (handle_of v) kind 0)) None node s
bitcast_of [] kind node s = Err (fault reason.Arguments node.span)
bitcast_of (v ∷ w ∷ vs) kind node s = Err (fault reason.Arguments node.span)

-- the bits of a value as another type
unfoldable pub bitcast : (kind : ℕ) → List Value → Node → State → Done
bitcast kind args node s = bitcast_of args kind node s
