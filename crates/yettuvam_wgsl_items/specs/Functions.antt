-- Functions and entry points.
use Rattle.std.specs.Prelude.{ℕ, nat_lt, if◌then◌else◌, List, [], ◌∷◌, ◌++◌, length, Option, Some, None, Ok}
use Rattle.std.specs.Str.Lossy.{utf8_lossy}
use Rattle.naga_oil_ir.specs.ModuleValue.{ArgumentValue, FunctionValue, EntryValue}
use Rattle.naga_oil_ir.specs.declared.module.FunctionResult.{FunctionResult}
use Rattle.yettuvam_wgsl_attributes.specs.Declarations.{binding_code, computed_sizes, sizes_of}
use Rattle.yettuvam_wgsl_attributes.specs.declared.attributes.Attributes.{Attributes}
use Rattle.yettuvam_wgsl_machine.specs.Machine.{Node}
use Rattle.yettuvam_wgsl_scope.specs.Items.{Name, name_of}
use Rattle.yettuvam_wgsl_scope.specs.Refused.{Outcome, ◌>>=◌, done}
use Rattle.yettuvam_wgsl_types.specs.Types as types
use Rattle.yettuvam_wgsl_types.specs.declared.shape.Shape.{Shape}
use Rattle.yettuvam_wgsl_values.specs.Body as values
use Rattle.yettuvam_wgsl_values.specs.declared.value.Meaning.{Meaning}
use Rattle.yettuvam_wgsl_values.specs.declared.value.Meaning.TheVariants as means
use Rattle.yettuvam_wgsl_values.specs.declared.value.Returns.TheVariants as returns
use Rattle.yettuvam_wgsl_items.specs.Items.{State, Done, in_body, take_type, without_attributes}

-- a function begins: the attributes so far are its own
unfoldable pub function_name : Node → State → Done
function_name node s = done (record (without_attributes s) { function = name_of node; function_attributes = s.attributes; arguments = []; result = None; returns = returns.Nothing })

-- ---- arguments and results

-- the number of an argument, up to the greatest of 32 bits
abbrev pub argument_number : ℕ → ℕ
argument_number count = if nat_lt count 4294967296 then count else 4294967295

abbrev pub argument_of : Name → (ty : ℕ) → Attributes → ArgumentValue
argument_of name ty attributes = record { name = Some (utf8_lossy name.text); ty = ty; binding = binding_code attributes }

abbrev pub meaning_by : Option Shape → (number : ℕ) → Shape → Meaning
meaning_by (Some pointed) number shape = means.PointerArgument number pointed
meaning_by None number shape = means.Argument number shape

-- an argument whose type is a pointer is a place in memory
abbrev pub argument_meaning : (number ty : ℕ) → values.State → Meaning
argument_meaning number ty s = meaning_by (types.pointed s.types ty) number (types.shape_of s.types ty)

unfoldable pub push_argument : (ty : ℕ) → Attributes → State → Done
push_argument ty attributes s = done (record s { arguments = s.arguments ++ argument_of s.part ty attributes ∷ [] })

abbrev pub add_argument : (ty : ℕ) → State → Done
add_argument ty s = push_argument ty s.attributes (without_attributes s)
    >>= (λ _ t. in_body (values.know (argument_meaning (argument_number (length s.arguments)) ty t.body)) t)

-- an argument, with its attributes
unfoldable pub parameter : Node → State → Done
parameter node s = in_body (take_type node) s >>= add_argument

-- the body of a function begins
unfoldable pub no_result : State → Done
no_result s = done (record s { body = values.enter s.body })

abbrev pub result_of : (ty : ℕ) → Attributes → FunctionResult
result_of ty attributes = record { ty = ty; binding = binding_code attributes }

abbrev pub with_result : (ty : ℕ) → State → State
with_result ty s = record (without_attributes s) { result = Some (result_of ty s.attributes); returns = returns.Value (types.shape_of s.body.types ty) }

-- the result of a function, with its attributes
unfoldable pub function_result : Node → State → Done
function_result node s = in_body (take_type node) s >>= (λ ty t. no_result (with_result ty t))

-- ---- the end of a function

abbrev pub function_of : List ℕ → List ArgumentValue → Option FunctionResult → values.InsideValue → FunctionValue
function_of name arguments result inside = record {
  name = Some name;
  arguments = arguments;
  result = result;
  local_variables = inside.locals;
  expressions = inside.expressions;
  named_expressions = inside.named;
  body = inside.body;
  diagnostic_filter_leaf = None;
}

abbrev pub entry_of : List ℕ → (stage : ℕ) → Attributes → FunctionValue → EntryValue
entry_of name stage attributes function = record {
  name = name;
  stage = stage;
  early_depth_test = None;
  workgroup_size = sizes_of attributes stage;
  workgroup_size_overrides = computed_sizes attributes;
  function = function;
  mesh_info = None;
  task_payload = None;
}

unfoldable pub push_function : FunctionValue → State → Outcome State ℕ
push_function f s = Ok (length s.functions, record s { functions = s.functions ++ (f, values.span_of s.function.span) ∷ [] })

-- a function that other items may call
unfoldable pub add_function : FunctionValue → State → Done
add_function f s = push_function f s >>= (λ place t. in_body (values.know_item (means.Function place t.returns)) t)

unfoldable pub push_entry : FunctionValue → (stage : ℕ) → State → Done
push_entry f stage s = done (record s { entries = s.entries ++ entry_of (utf8_lossy s.function.text) stage s.function_attributes f ∷ [] })

-- an entry point, which nothing calls
unfoldable pub add_entry : FunctionValue → (stage : ℕ) → State → Done
add_entry f stage s = push_entry f stage s >>= (λ _. in_body (values.know_item means.Entry))

abbrev pub made_function : List ℕ → State → FunctionValue
made_function name s = function_of name s.arguments s.result (values.inside s.body)

abbrev pub after_function : State → State
after_function s = record (without_attributes s) { body = values.leave s.body; arguments = [] }

abbrev pub added : Option ℕ → FunctionValue → State → Done
added (Some stage) f s = add_entry f stage s
added None f s = add_function f s

unfoldable pub add_by_stage : FunctionValue → State → Done
add_by_stage f s = added s.function_attributes.stage f s

-- a function ends: with a stage it is an entry point
unfoldable pub function_end : State → Done
function_end s = add_by_stage (made_function (utf8_lossy s.function.text) s) (after_function s)
