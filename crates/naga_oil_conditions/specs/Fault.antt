-- The faults of a text, and the conditions that hold.
use Rattle.std.specs.Prelude.{ℕ, Bool, true, false, not, is_some, List, codes, Option, Some, None, option_map, Result, Ok, Err}
use Rattle.naga_oil_conditions.specs.declared.shader_def.ShaderDefValue.{ShaderDefValue}
use Rattle.naga_oil_conditions.specs.declared.shader_def.ShaderDefValue.TheVariants as def
use Rattle.std.specs.declared.cmp.Ordering.{Ordering}
use Rattle.std.specs.Ordering.{nat_cmp, int_cmp, bool_cmp}
use Rattle.naga_oil_ir.specs.declared.span.Span.{Span}
use Rattle.naga_oil_ir.specs.Backend.{FaultValue}
use Rattle.naga_oil_ir.specs.RedirectFault.{RedirectFault}
use Rattle.naga_oil_conditions.specs.Values.{read_bool, read_i32, read_u32, operator_holds}
use Rattle.naga_oil_conditions.specs.Line.{Line}
use Rattle.naga_oil_conditions.specs.Kind.{LineKind, condition, kind_of, Condition, defined, undefined, compares, otherwise}

-- a fault of a text or of a module made of it, with the place of its line
pub data Fault : Type 0 where
  import_not_found : (name : List ℕ) (at : ℕ) → Fault
  wgsl_parse : FaultValue → Fault
  glsl_parse : FaultValue → Fault
  wgsl_back : FaultValue → Fault
  glsl_back : FaultValue → Fault
  header_validation : FaultValue → Fault
  shader_validation : FaultValue → Fault
  inconsistent_def : (name : List ℕ) → Fault
  no_module_name : Fault
  decoration_in_source : (start end : ℕ) → Fault
  redirection : RedirectFault → Fault
  -- out of memory, as a redirection's fault; no call returns it
  redirection_memory : Fault
  not_virtual : (name : List ℕ) (at : ℕ) → Fault
  invalid_identifier : (original : List ℕ) (at : Span) → Fault
  too_many_modules : Fault
  bindings_exhausted : Fault
  text_too_large : Fault
  wrong_form : Fault
  unknown_def : (at : ℕ) (name : List ℕ) → Fault
  invalid_value : (at : ℕ) (name value expected : List ℕ) → Fault
  unknown_operator : (at : ℕ) (operator : List ℕ) → Fault
  else_without_condition : (at : ℕ) → Fault
  too_many_end_ifs : (at : ℕ) → Fault
  not_enough_end_ifs : (at : ℕ) → Fault
  invalid_version : (at : ℕ) → Fault
  invalid_definition : (at : ℕ) (name value : List ℕ) → Fault
  invalid_import : (text : List ℕ) (at : ℕ) → Fault
  -- the line without surrounding white space, and its index from 0
  invalid_directive : (text : List ℕ) (index : ℕ) (reason : List ℕ) → Fault
  define_in_module : (at : ℕ) → Fault

-- the value of each defined name
abbrev pub Definitions : Type 0
Definitions = List ℕ → Option ShaderDefValue

-- whether the operator holds, or the fault of an unknown operator at the place
abbrev pub ordered : ℕ → List ℕ → Option Bool → Result Bool Fault
ordered at operator (Some b) = Ok b
ordered at operator None = Err (unknown_operator at operator)

-- whether the operator holds for two values with this ordering, where the second could be read
abbrev pub compare : ℕ → (name operator value expected : List ℕ) → Option Ordering → Result Bool Fault
compare at name operator value expected (Some o) = ordered at operator (operator_holds operator o)
compare at name operator value expected None = Err (invalid_value at name value expected)

-- the ordering of a definition and a value, if the value can be read
abbrev pub order_of : ShaderDefValue → List ℕ → Option Ordering
order_of (def.Bool b) value = option_map (bool_cmp b) (read_bool value)
order_of (def.Int n) value = option_map (int_cmp n) (read_i32 value)
order_of (def.UInt n) value = option_map (nat_cmp n) (read_u32 value)

abbrev pub expected_by : ShaderDefValue → List ℕ
expected_by (def.Bool b) = codes "bool"
expected_by (def.Int n) = codes "int"
expected_by (def.UInt n) = codes "uint"

-- whether a comparison holds for a name with this definition, or the fault at the place; the
-- definition is the left side
unfoldable pub comparison : ℕ → (name operator value : List ℕ) → Option ShaderDefValue → Result Bool Fault
comparison at name operator value None = Err (unknown_def at name)
comparison at name operator value (Some d) = compare at name operator value (expected_by d) (order_of d value)

-- whether a condition at the place holds, or its fault
abbrev pub evaluated : Definitions → ℕ → Condition → Result Bool Fault
evaluated defs at (defined name) = Ok (is_some (defs name))
evaluated defs at (undefined name) = Ok (not (is_some (defs name)))
evaluated defs at (compares name operator value) = comparison at name operator value (defs name)
evaluated defs at otherwise = Ok true

-- whether the condition of the line holds, or its fault
abbrev pub outcome : Definitions → Line → LineKind → Result Bool Fault
outcome defs l (condition is_else c) = evaluated defs l.at c
outcome defs l _ = Ok false

abbrev pub is_met : Result Bool Fault → Bool
is_met (Ok holds) = holds
is_met (Err own) = false

-- whether the condition of an arm holds; a condition that can't be evaluated doesn't
abbrev pub holds : Definitions → Line → Bool
holds defs l = is_met (outcome defs l (kind_of l.covered))
