-- Types that words and template arguments mean.
use Rattle.std.specs.Prelude.{ℕ, if◌then◌else◌, List, [], ◌∷◌, ◌++◌, length, Option, Some, None, Ok, Err}
use Rattle.naga_oil_ir.specs.Rows.{Row, row, OverrideKind}
use Rattle.naga_oil_ir.specs.declared.names.ItemPlace.TheVariants.{TypeItem, ExpressionItem}
use Rattle.naga_oil_ir.specs.declared.types.ArraySize.{ArraySize}
use Rattle.naga_oil_ir.specs.declared.types.ArraySize.TheVariants as size
use Rattle.yettuvam_wgsl_arguments.specs.Arguments.{made, known_size}
use Rattle.yettuvam_wgsl_arguments.specs.Words.{argument}
use Rattle.yettuvam_wgsl_machine.specs.Machine.{Node}
use Rattle.yettuvam_wgsl_predeclared.specs.Words.{word_of, plain_type, generic_word}
use Rattle.yettuvam_wgsl_predeclared.specs.declared.words.Generic.{Generic}
use Rattle.yettuvam_wgsl_scope.specs.Items.{Name}
use Rattle.yettuvam_wgsl_scope.specs.Refused.{Outcome, ◌>>=◌, fault}
use Rattle.yettuvam_wgsl_scope.specs.declared.refusal.Reason.{Reason}
use Rattle.yettuvam_wgsl_scope.specs.declared.refusal.Reason.TheVariants as reason
use Rattle.yettuvam_wgsl_shape.specs.declared.number.Number.{Number}
use Rattle.yettuvam_wgsl_types.specs.Types as types
use Rattle.yettuvam_wgsl_types.specs.declared.types.PlainType.{PlainType}
use Rattle.yettuvam_wgsl_types.specs.declared.types.PlainType.TheVariants as plain
use Rattle.yettuvam_wgsl_types.specs.declared.types.TheConstants.{NOT_TOLD}
use Rattle.yettuvam_wgsl_values.specs.Body.{State, in_types, span_of, settle}
use Rattle.yettuvam_wgsl_values.specs.Value.{Value, What, TypeAt, Word, Override, handle_of}

abbrev pub why_by : Option Generic → Reason
why_by (Some word) = reason.Template
why_by None = reason.UnknownName

-- a word that is no type wants template arguments, or nothing has its name
unfoldable pub why_no_type : Name → Reason
why_no_type name = why_by (generic_word (word_of name.text))

abbrev pub named_by : Option PlainType → Name → State → Outcome State ℕ
named_by (Some ty) name s = in_types (types.plain ty) s
named_by None name s = Err (fault (why_no_type name) name.span)

-- the predeclared type that a word means
unfoldable pub named_type : Name → State → Outcome State ℕ
named_type name s = named_by (plain_type (word_of name.text)) name s

abbrev pub type_by : What → Node → State → Outcome State ℕ
type_by (TypeAt place) node s = Ok (place, s)
type_by (Word name) node s = named_type name s
type_by _ node s = Err (fault reason.NoType node.span)

-- the type that a value is
unfoldable pub type_of : Value → Node → State → Outcome State ℕ
type_of v node s = type_by v.what node s

-- the type that is an argument
unfoldable pub type_argument : List Value → ℕ → Node → State → Outcome State ℕ
type_argument args place node s = made (argument args place node) s >>= (λ v. type_of v node)

abbrev pub scalar_or_fault : Option ℕ → Node → State → Outcome State ℕ
scalar_or_fault (Some code) node s = Ok (code, s)
scalar_or_fault None node s = Err (fault reason.Template node.span)

-- the code of the scalar type that is the first argument
unfoldable pub scalar_argument : List Value → Node → State → Outcome State ℕ
scalar_argument args node s =
    type_argument args 0 node s >>= (λ place t. scalar_or_fault (types.scalar_of t.types place) node t)

-- ---- sizes of arrays

abbrev pub unnamed : (ty init : ℕ) → Row
unnamed ty init = row OverrideKind None (None ∷ []) [] (Some (TypeItem ty) ∷ Some (ExpressionItem init) ∷ [])

abbrev pub with_override : Row → Node → State → Outcome State ℕ
with_override r node s = Ok (length s.overrides, record s { overrides = s.overrides ++ (r, span_of node.span) ∷ [] })

-- an override without a name, of the value that a pipeline computes
unfoldable pub unnamed_override : (init : ℕ) → Node → State → Outcome State ℕ
unnamed_override init node s =
    in_types (types.plain (plain.Scalar NOT_TOLD)) s >>= (λ ty. with_override (unnamed ty init) node)

abbrev pub pending : ℕ → State → Outcome State ArraySize
pending place s = Ok (size.Pending place, s)

-- a size that a pipeline computes, outside of functions
unfoldable pub pending_size : Value → Node → State → Outcome State ArraySize
pending_size v node s =
    if s.is_global then settle v node s >>= (λ w t. unnamed_override (handle_of w) node t >>= pending)
    else Err (fault reason.NoConstant node.span)

abbrev pub unknown_by : What → Value → Node → State → Outcome State ArraySize
unknown_by (Override place) v node s = pending place s
unknown_by _ v node s = pending_size v node s

unfoldable pub unknown_size : Value → Node → State → Outcome State ArraySize
unknown_size v node s = unknown_by v.what v node s

abbrev pub size_by : Option Number → Value → Node → State → Outcome State ArraySize
size_by (Some n) v node s = made (known_size n node) s
size_by None v node s = unknown_size v node s

-- a number that is known, an override, or a value that a pipeline computes
unfoldable pub size_of : Value → Node → State → Outcome State ArraySize
size_of v node s = size_by v.number v node s

abbrev pub size_in : List Value → Node → State → Outcome State ArraySize
size_in (a ∷ b ∷ more) node s = size_of b node s
size_in (a ∷ []) node s = Ok (size.Dynamic, s)
size_in [] node s = Ok (size.Dynamic, s)

-- the size that is the second argument; without it the array has any length
unfoldable pub size_argument : List Value → Node → State → Outcome State ArraySize
size_argument args node s = size_in args node s
