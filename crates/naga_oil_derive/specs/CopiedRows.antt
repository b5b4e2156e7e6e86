-- Copies of example functions and items, computed.
use Rattle.std.specs.Prelude.{ℕ, ◌≡◌, List, [], ◌∷◌, map, Some, None, codes, refl}
use Rattle.naga_oil_ir.specs.Kinds.{emit_head, return_head}
use Rattle.naga_oil_ir.specs.Body.{Tokens}
use Rattle.naga_oil_form.specs.Links as links
use Rattle.naga_oil_ir.specs.ModuleValue.{FunctionValue, expression_values}
use Rattle.naga_oil_ir.specs.declared.expression.Expression.{Expression}
use Rattle.naga_oil_ir.specs.declared.expression.Expression.TheVariants.{Literal, FunctionArgument, Splat, Unary, Binary}
use Rattle.naga_oil_ir.specs.declared.span.Span.{Span}
use Rattle.naga_oil_ir.specs.declared.tokens.Token.TheVariants.{Head, Use, Emitted}
use Rattle.naga_oil_rename.specs.Renames.{Renames}
use Rattle.naga_oil_derive.specs.World.{shifted}
use Rattle.naga_oil_derive.specs.Functions.{order_of}
use Rattle.naga_oil_derive.specs.CopiedFunction.{copy_function, expressions_upto}
use Rattle.naga_oil_derive.specs.Equal.{parts_eq}
use Rattle.naga_oil_ir.specs.Spans.{undefined}

-- ---- functions

-- a function of expressions, with the initialisers of its local variables, its names and its body
abbrev function_of : List Expression → List ℕ → List (ℕ × List ℕ) → Tokens → FunctionValue
function_of es locals names body = record {
  name = Some (codes "f");
  arguments = [];
  result = None;
  local_variables = map (λ h. (record { name = None; ty = 0; init = Some h }, undefined)) locals;
  expressions = expression_values (map (λ e. (e, undefined)) es);
  named_expressions = names;
  body = body;
  diagnostic_filter_leaf = Some 5;
}

-- that function without its diagnostic filter
abbrev copy_of : FunctionValue → FunctionValue
copy_of f = record f { diagnostic_filter_leaf = None }

-- items and functions stay where they are
abbrev staying : Renames
staying = record {
  ty = λ h. h;
  constant = λ h. h;
  pipeline_override = λ h. h;
  global = λ h. h;
  function = λ h. h;
  expression = λ h. h;
  range = λ r. r;
  span = shifted 0;
}

-- the sum of an argument and a number is emitted and returned; another number isn't reached
abbrev sum : FunctionValue
sum = function_of (Literal 1 7 ∷ FunctionArgument 0 ∷ Binary 1 1 0 ∷ Literal 1 9 ∷ []) [] ((2, codes "s") ∷ (3, codes "t") ∷ []) (Head emit_head ∷ Emitted (2, 3) ∷ Head return_head ∷ Use 2 ∷ [])

-- the operands come first, in order
sum_walk : order_of sum ≡ 1 ∷ 0 ∷ 2 ∷ []
unfolding links.trail
sum_walk = refl

-- what isn't reached is dropped with its name
sum_copy : copy_function staying sum ≡ copy_of (function_of (FunctionArgument 0 ∷ Literal 1 7 ∷ Binary 1 0 1 ∷ []) [] ((2, codes "s") ∷ []) (Head emit_head ∷ Emitted (2, 3) ∷ Head return_head ∷ Use 2 ∷ []))
unfolding copy_function expressions_upto links.trail parts_eq
sum_copy = refl

-- the initialiser of a local variable reaches what is emitted
abbrev initialised : FunctionValue
initialised = function_of (Literal 1 7 ∷ Splat 2 0 ∷ Unary 1 1 ∷ []) (1 ∷ []) [] (Head emit_head ∷ Emitted (1, 3) ∷ Head return_head ∷ Use 2 ∷ [])

initialised_walk : order_of initialised ≡ 0 ∷ 1 ∷ 2 ∷ []
unfolding links.trail
initialised_walk = refl

-- what the initialiser reaches is left out of the emitted range
initialised_copy : copy_function staying initialised ≡ copy_of (function_of (Literal 1 7 ∷ Splat 2 0 ∷ Unary 1 1 ∷ []) (1 ∷ []) [] (Head emit_head ∷ Emitted (2, 3) ∷ Head return_head ∷ Use 2 ∷ []))
unfolding copy_function expressions_upto links.trail parts_eq
initialised_copy = refl

-- two local variables with equal initialisers, each of which has a name
abbrev twins : FunctionValue
twins = function_of (Literal 1 7 ∷ Literal 1 7 ∷ []) (0 ∷ 1 ∷ []) ((0, codes "p") ∷ (1, codes "q") ∷ []) []

-- the initialisers get one copy, which keeps the last name
twins_copy :
    copy_function staying twins ≡
    copy_of (function_of (Literal 1 7 ∷ []) (0 ∷ 0 ∷ []) ((0, codes "q") ∷ []) [])
unfolding copy_function expressions_upto links.trail parts_eq
twins_copy = refl

-- an empty range stands where the next copy will
abbrev empty_range : FunctionValue
empty_range = function_of (Literal 1 7 ∷ Unary 1 0 ∷ []) [] [] (Head emit_head ∷ Emitted (7, 2) ∷ Head emit_head ∷ Emitted (1, 2) ∷ Head return_head ∷ Use 1 ∷ [])

empty_copy : copy_function staying empty_range ≡ copy_of (function_of (Literal 1 7 ∷ Unary 1 0 ∷ []) [] [] (Head emit_head ∷ Emitted (2, 2) ∷ Head emit_head ∷ Emitted (1, 2) ∷ Head return_head ∷ Use 1 ∷ []))
unfolding copy_function expressions_upto links.trail parts_eq
empty_copy = refl
