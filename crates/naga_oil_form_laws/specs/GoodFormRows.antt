-- The definitions of good form, computed for examples.
use Rattle.std.specs.Prelude.{◌≡◌, ℕ, true, false, List, [], ◌∷◌, Some, None, option_map, codes, refl}
use Rattle.naga_oil_words.specs.Marks.{with_decoration, has_module_mark}
use Rattle.naga_oil_ir.specs.ModuleValue.{ModuleValue, FunctionValue, no_items}
use Rattle.naga_oil_ir.specs.Rows.{Row, ConstantKind, TypeKind, row}
use Rattle.naga_oil_ir.specs.declared.names.ItemPlace.TheVariants.{TypeItem, ExpressionItem}
use Rattle.naga_oil_ir.specs.declared.span.Span.{Span}
use Rattle.naga_oil_ir.specs.declared.tokens.Token.TheVariants.{Head}
use Rattle.naga_oil_form_laws.specs.ItemsStand.{may_name_kind}
use Rattle.naga_oil_form_laws.specs.OwnedForm.{name_items, without_bindings, append_functions}
use Rattle.naga_oil_form_laws.specs.TurnForm.{stub}
use Rattle.naga_oil_ir.specs.Spans.{undefined}

-- ---- what kinds of items name: types 0, constants 1, overrides 2, globals 3, expressions 4

types_name_overrides : may_name_kind 0 2 ≡ true
types_name_overrides = refl

types_name_no_constants : may_name_kind 0 1 ≡ false
types_name_no_constants = refl

constants_name_expressions : may_name_kind 1 4 ≡ true
constants_name_expressions = refl

globals_name_no_overrides : may_name_kind 3 2 ≡ false
globals_name_no_overrides = refl

expressions_name_constants : may_name_kind 4 1 ≡ true
expressions_name_constants = refl

expressions_name_no_globals : may_name_kind 4 3 ≡ false
expressions_name_no_globals = refl

-- ---- other names

abbrev number_type : Row
number_type = row (TypeKind 0) None (Some 1 ∷ []) [] []

abbrev constant_named : List ℕ → Row
constant_named n = row ConstantKind (Some n) [] [] (Some (TypeItem 0) ∷ Some (ExpressionItem 0) ∷ [])

-- a function with a name and a body
abbrev function_named : List ℕ → FunctionValue
function_named n = record {
  name = Some n;
  arguments = (record { name = None; ty = 0; binding = Some 7 }) ∷ [];
  result = None;
  local_variables = [];
  expressions = [];
  named_expressions = [];
  body = Head 7 ∷ [];
  diagnostic_filter_leaf = None;
}

-- a module of a type, a constant and a function
abbrev module_named : List ℕ → List ℕ → ModuleValue
module_named c f = record no_items {
  types = (number_type, undefined) ∷ [];
  constants = (constant_named c, undefined) ∷ [];
  functions = (function_named f, undefined) ∷ [];
}

-- constants and functions are decorated, types aren't
decorated :
    name_items (option_map (with_decoration (codes "D"))) (module_named (codes "K") (codes "f")) ≡
    module_named (codes "KD") (codes "fD")
unfolding has_module_mark
decorated = refl

-- ---- functions without parts

-- no binding is left, and everything else stays
unbound :
    without_bindings (Some (codes "main")) (function_named (codes "f")) ≡
    record (function_named (codes "main")) { arguments = (record { name = None; ty = 0; binding = None }) ∷ [] }
unbound = refl

-- a stub has no body
stubbed : stub (function_named (codes "f"), undefined) ≡ (record (function_named (codes "f")) { body = [] }, undefined)
stubbed = refl

-- two functions
abbrev f_and_g : List (FunctionValue × Span)
f_and_g = (function_named (codes "f"), undefined) ∷ (function_named (codes "g"), undefined) ∷ []

-- a function comes after the others
appended :
    append_functions ((function_named (codes "g"), undefined) ∷ []) (module_named (codes "K") (codes "f")) ≡
    record (module_named (codes "K") (codes "f")) { functions = f_and_g }
appended = refl
