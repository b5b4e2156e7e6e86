-- Lists of template arguments.
use Rattle.std.specs.Prelude.{ℕ, ◌+◌, ◌-◌, ◌*◌, ◌%◌, ◌^◌, Bool, false, nat_lt, if◌then◌else◌, List, [], ◌∷◌, ◌++◌, length, slice_index_or, Option, Some, None, Err}
use Rattle.yettuvam_wgsl_arguments.specs.Arguments.{made}
use Rattle.yettuvam_wgsl_arguments.specs.Words.{access_argument, format_argument, space_arguments}
use Rattle.yettuvam_wgsl_machine.specs.Machine.{Node}
use Rattle.yettuvam_wgsl_predeclared.specs.Words.{word_of, generic_word}
use Rattle.yettuvam_wgsl_predeclared.specs.declared.words.Generic.{Generic}
use Rattle.yettuvam_wgsl_predeclared.specs.declared.words.Generic.TheVariants as generic
use Rattle.yettuvam_wgsl_scope.specs.Items.{Name}
use Rattle.yettuvam_wgsl_scope.specs.Refused.{◌>>=◌, done, fault}
use Rattle.yettuvam_wgsl_scope.specs.declared.refusal.Reason.TheVariants as reason
use Rattle.yettuvam_wgsl_types.specs.Types as types
use Rattle.yettuvam_wgsl_types.specs.declared.types.PlainType.{PlainType}
use Rattle.yettuvam_wgsl_types.specs.declared.types.PlainType.TheVariants as plain_type
use Rattle.yettuvam_wgsl_values.specs.Blocks.{front}
use Rattle.yettuvam_wgsl_values.specs.Body.{State, Done, in_types, give, take_value, arguments}
use Rattle.yettuvam_wgsl_values.specs.Value.{Value, What, TypeAt, Word, Cast, NoSpace, Space, bare}
use Rattle.yettuvam_wgsl_values.specs.declared.value.Call.{Call}
use Rattle.yettuvam_wgsl_type_words.specs.Types.{type_argument, scalar_argument, size_argument}

abbrev pub call_after : (count : ℕ) (is_statement : Bool) → Call
call_after count is_statement = record { count = count; is_statement = is_statement }

-- a call or a list begins: its arguments are the values from here on
abbrev pub opened : (is_statement : Bool) → State → State
opened is_statement s = record s { calls = s.calls ++ call_after (length s.values) is_statement ∷ [] }

-- the arguments of a template begin
unfoldable pub template : State → Done
template s = done (opened false s)

abbrev pub no_call : Call
no_call = call_after 0 false

-- the last call or list that is open; of none, one of all values
abbrev pub last_call : List Call → Call
last_call calls = slice_index_or calls (length calls - 1) no_call

abbrev pub without_call : State → State
without_call s = record s { calls = front s.calls }

unfoldable pub give_type : ℕ → State → Done
give_type place s = give (bare (TypeAt place)) s

unfoldable pub plain : PlainType → State → Done
plain ty s = in_types (types.plain ty) s >>= give_type

-- a type, and a size if there is one
unfoldable pub array : List Value → Node → State → Done
array args node s =
    type_argument args 0 node s >>= (λ base t. size_argument args node t >>= (λ size u.
    in_types (types.array base size) u >>= give_type))

unfoldable pub binding_array : List Value → Node → State → Done
binding_array args node s =
    type_argument args 0 node s >>= (λ base t. size_argument args node t >>= (λ size u.
    in_types (types.binding_array base size) u >>= give_type))

-- an address space, a type and maybe an access mode
unfoldable pub pointer : List Value → Node → State → Done
pointer args node s =
    made (space_arguments args 2 node) s >>= (λ space t. type_argument args 1 node t >>= (λ base u.
    in_types (types.pointer base space) u >>= give_type))

abbrev pub cast_or_fault : Option ℕ → Node → State → Done
cast_or_fault (Some code) node s = give (bare (Cast code)) s
cast_or_fault None node s = Err (fault reason.Template node.span)

-- bitcast to a type
unfoldable pub cast : List Value → Node → State → Done
cast args node s = type_argument args 0 node s >>= (λ place t. cast_or_fault (types.bits_of t.types place) node t)

-- the code of a type that has another code above its own, in 64 bits
abbrev pub with_code : (code unit above : ℕ) → ℕ
with_code code unit above = ((above * unit) % 2 ^ 64 + code) % 2 ^ 64

-- a storage texture of a texel format and an access mode
unfoldable pub storage : (texture : ℕ) → List Value → Node → State → Done
storage texture args node s =
    made (format_argument args 0 node) s >>= (λ format t. made (access_argument args 1 node) t >>= (λ access.
    plain (plain_type.Image (with_code (with_code texture 256 format) 65536 access))))

-- a type of a scalar type
abbrev pub type_with : Generic → (scalar : ℕ) → PlainType
type_with (generic.Vector size) scalar = plain_type.Vector (with_code size 16 scalar)
type_with (generic.Matrix sizes) scalar = plain_type.Matrix (with_code sizes 256 scalar)
type_with (generic.Sampled texture) scalar = plain_type.Image (with_code texture 256 scalar)
type_with _ scalar = plain_type.Atomic scalar

unfoldable pub of_scalar : Generic → List Value → Node → State → Done
of_scalar word args node s = scalar_argument args node s >>= (λ scalar. plain (type_with word scalar))

abbrev pub template_by : Generic → List Value → Node → State → Done
template_by generic.Array args node s = array args node s
template_by generic.BindingArray args node s = binding_array args node s
template_by generic.Pointer args node s = pointer args node s
template_by generic.Bitcast args node s = cast args node s
template_by (generic.Storage texture) args node s = storage texture args node s
template_by (generic.Vector size) args node s = of_scalar (generic.Vector size) args node s
template_by (generic.Matrix sizes) args node s = of_scalar (generic.Matrix sizes) args node s
template_by (generic.Sampled texture) args node s = of_scalar (generic.Sampled texture) args node s
template_by generic.Atomic args node s = of_scalar generic.Atomic args node s

-- the most arguments of a list
abbrev pub most_arguments : Generic → ℕ
most_arguments generic.Pointer = 3
most_arguments generic.Array = 2
most_arguments generic.BindingArray = 2
most_arguments (generic.Storage texture) = 2
most_arguments _ = 1

unfoldable pub word_template : Generic → List Value → Node → State → Done
word_template word args node s =
    if nat_lt (most_arguments word) (length args) then Err (fault reason.Template node.span) else template_by word args node s

abbrev pub template_if : Option Generic → Name → List Value → Node → State → Done
template_if (Some word) name args node s = word_template word args node s
template_if None name args node s = Err (fault reason.Template name.span)

unfoldable pub named_template : Name → List Value → Node → State → Done
named_template name args node s = template_if (generic_word (word_of name.text)) name args node s

-- the address space of a variable, and maybe an access mode
unfoldable pub variable_space : List Value → Node → State → Done
variable_space args node s =
    if nat_lt 2 (length args) then Err (fault reason.Template node.span)
    else made (space_arguments args 1 node) s >>= (λ space. give (bare (Space space)))

abbrev pub headed : What → List Value → Node → State → Done
headed NoSpace args node s = variable_space args node s
headed (Word name) args node s = named_template name args node s
headed _ args node s = Err (fault reason.Template node.span)

unfoldable pub template_of : What → List Value → Node → State → Done
template_of head args node s = headed head args node s

-- the arguments of a template end: what takes them is the value before them
unfoldable pub template_end : Node → State → Done
template_end node s =
    arguments (last_call s.calls).count (without_call s) >>= (λ args t.
    take_value node t >>= (λ head. template_of head.what args node))
