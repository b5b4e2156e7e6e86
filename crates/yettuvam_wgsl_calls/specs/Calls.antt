-- Calls: what is called is the value before the arguments.
use Rattle.std.specs.Prelude.{ℕ, Bool, if◌then◌else◌, List, length, Option, Some, None, Err}
use Rattle.naga_oil_ir.specs.Parts.{parts}
use Rattle.naga_oil_ir.specs.declared.expression.Expression.TheVariants as expression
use Rattle.yettuvam_wgsl_arguments.specs.Arguments.{handles}
use Rattle.yettuvam_wgsl_machine.specs.Machine.{Node}
use Rattle.yettuvam_wgsl_operators.specs.Operators.{with_effect}
use Rattle.yettuvam_wgsl_predeclared.specs.Functions.{built_in_function, takes}
use Rattle.yettuvam_wgsl_predeclared.specs.Words.{word_of, plain_type, generic_word}
use Rattle.yettuvam_wgsl_predeclared.specs.declared.functions.Function.{Function}
use Rattle.yettuvam_wgsl_predeclared.specs.declared.words.Generic.{Generic}
use Rattle.yettuvam_wgsl_scope.specs.Items.{Name}
use Rattle.yettuvam_wgsl_scope.specs.Refused.{◌>>=◌, done, fault}
use Rattle.yettuvam_wgsl_scope.specs.declared.refusal.Reason.TheVariants as reason
use Rattle.yettuvam_wgsl_type_words.specs.Templates.{opened, last_call, without_call}
use Rattle.yettuvam_wgsl_types.specs.declared.shape.Shape.{Shape}
use Rattle.yettuvam_wgsl_types.specs.declared.types.PlainType.{PlainType}
use Rattle.yettuvam_wgsl_values.specs.Blocks as blocks
use Rattle.yettuvam_wgsl_values.specs.Body.{State, Done, put, state, give, take_value, flush, arguments}
use Rattle.yettuvam_wgsl_values.specs.Value.{Value, What, Plain, Callee, TypeAt, Cast, Word, Nothing, bare, shaped}
use Rattle.yettuvam_wgsl_values.specs.declared.value.Returns.{Returns}
use Rattle.yettuvam_wgsl_values.specs.declared.value.Returns.TheVariants as returns
use Rattle.yettuvam_wgsl_calls.specs.BuiltIns.{built_in}
use Rattle.yettuvam_wgsl_calls.specs.Constructors.{bitcast, construct, construct_plain, construct_word}

-- the arguments of a call begin
unfoldable pub call : (is_statement : Bool) → State → Done
call is_statement s = done (opened is_statement s)

-- a call of a function of the module, as a statement, with the expression of its result
unfoldable pub state_call : (function : ℕ) → Option ℕ → List Value → Node → State → Done
state_call function returned args node s = state (blocks.call_statement function (handles args) returned) node.span s

unfoldable pub call_value : (function : ℕ) → Shape → List Value → Node → State → Done
call_value function shape args node s =
    put (parts (expression.CallResult function)) node.span s >>= (λ place t.
    state_call function (Some place) args node t >>= (λ _. give (shaped (Plain place) shape)))

unfoldable pub call_nothing : (function : ℕ) → List Value → Node → State → Done
call_nothing function args node s = state_call function None args node s >>= (λ _. give (bare Nothing))

abbrev pub call_by : Returns → (function : ℕ) → List Value → Node → State → Done
call_by returns.Nothing function args node s = call_nothing function args node s
call_by (returns.Value shape) function args node s = call_value function shape args node s

-- a call of a function of the module
unfoldable pub call_function : (function : ℕ) → Returns → List Value → Node → State → Done
call_function function r args node s = call_by r function args node (with_effect s)

abbrev pub built_in_if : Option Function → Name → Bool → List Value → Node → State → Done
built_in_if (Some f) name is_statement args node s =
    if takes f (length args) then built_in f.code is_statement args node s else Err (fault reason.Arguments name.span)
built_in_if None name is_statement args node s = Err (fault reason.UnknownName name.span)

-- a call of a built-in function by its name, with a number of arguments that it takes
unfoldable pub call_built_in : Name → Bool → List Value → Node → State → Done
call_built_in name is_statement args node s = built_in_if (built_in_function (word_of name.text)) name is_statement args node s

abbrev pub named_if : Option PlainType → Name → Bool → List Value → Node → State → Done
named_if (Some ty) name is_statement args node s = construct_plain ty args node s
named_if None name is_statement args node s = call_built_in name is_statement args node s

unfoldable pub call_named : Name → Bool → List Value → Node → State → Done
call_named name is_statement args node s = named_if (plain_type (word_of name.text)) name is_statement args node s

abbrev pub word_if : Option Generic → Name → Bool → List Value → Node → State → Done
word_if (Some word) name is_statement args node s = construct_word word args node s
word_if None name is_statement args node s = call_named name is_statement args node s

-- a call of a word: a type, or a built-in function
unfoldable pub call_word : Name → Bool → List Value → Node → State → Done
call_word name is_statement args node s = word_if (generic_word (word_of name.text)) name is_statement args node s

abbrev pub called_by : What → Bool → List Value → Node → State → Done
called_by (Callee function r) is_statement args node s = call_function function r args node s
called_by (TypeAt place) is_statement args node s = construct place args node s
called_by (Cast kind) is_statement args node s = bitcast kind args node s
called_by (Word name) is_statement args node s = call_word name is_statement args node s
called_by _ is_statement args node s = Err (fault reason.NoFunction node.span)

unfoldable pub called : What → Bool → List Value → Node → State → Done
called head is_statement args node s = called_by head is_statement args node s

-- the arguments of a call end
unfoldable pub call_end : Node → State → Done
call_end node s =
    arguments (last_call s.calls).count (without_call s) >>= (λ args t.
    take_value node t >>= (λ head. called head.what (last_call s.calls).is_statement args node))

-- the result of a call isn't used
unfoldable pub call_statement : Node → State → Done
call_statement node s = take_value node s >>= (λ _. flush node.span)
