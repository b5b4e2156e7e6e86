-- Modules with their functions sorted, computed.
use Rattle.std.specs.Prelude.{◌≡◌, ℕ, List, [], ◌∷◌, map, Some, None, Ok, Err, codes, refl}
use Rattle.naga_oil_ir.specs.Kinds.{call_head}
use Rattle.naga_oil_ir.specs.Body.{Tokens}
use Rattle.naga_oil_form.specs.Links as links
use Rattle.naga_oil_ir.specs.ModuleValue.{ModuleValue, FunctionValue, expression_values, no_items}
use Rattle.naga_oil_ir.specs.RedirectFault.{circular_reference}
use Rattle.naga_oil_ir.specs.declared.expression.Expression.{Expression}
use Rattle.naga_oil_ir.specs.declared.expression.Expression.TheVariants.{CallResult}
use Rattle.naga_oil_ir.specs.declared.tokens.Token.TheVariants.{Head, Callee, GiveCall}
use Rattle.naga_oil_derive.specs.Answered.{import_callee}
use Rattle.naga_oil_derive.specs.CopiedFunction.{copy_function, expressions_upto}
use Rattle.naga_oil_derive.specs.Equal.{parts_eq}
use Rattle.naga_oil_redirect.specs.Level.{level_below}
use Rattle.naga_oil_redirect.specs.PutInOrder.{in_turn, put_in_order}
use Rattle.naga_oil_ir.specs.Spans.{undefined}

-- a function with a name, expressions and a body
abbrev pub function_of : List ℕ → List Expression → Tokens → FunctionValue
function_of name es body = record {
  name = Some name;
  arguments = [];
  result = None;
  local_variables = [];
  expressions = expression_values (map (λ e. (e, undefined)) es);
  named_expressions = [];
  body = body;
  diagnostic_filter_leaf = None;
}

-- a function that calls the function at a place
abbrev pub calling : List ℕ → ℕ → FunctionValue
calling name k = function_of name (CallResult k ∷ []) (Head call_head ∷ Callee k ∷ GiveCall k 0 ∷ [])

abbrev pub empty : List ℕ → FunctionValue
empty name = function_of name [] []

-- a module of functions, with an entry point
abbrev pub module_of : List FunctionValue → FunctionValue → ModuleValue
module_of fs main = record no_items {
  functions = map (λ f. (f, undefined)) fs;
  entry_points = record {
    name = codes "main";
    stage = 0;
    early_depth_test = None;
    workgroup_size = [];
    workgroup_size_overrides = None;
    function = main;
    mesh_info = None;
    task_payload = None;
  } ∷ [];
}

-- f calls g, which stands after it; the entry point calls f
turned :
    put_in_order
    (module_of (calling (codes "f") 1 ∷ empty (codes "g") ∷ []) (calling (codes "main") 0)) ≡
    Ok (module_of (empty (codes "g") ∷ calling (codes "f") 0 ∷ []) (calling (codes "main") 1))
unfolding in_turn level_below import_callee copy_function expressions_upto links.trail parts_eq
turned = refl

-- f and h call each other
circular :
    put_in_order
    (module_of (calling (codes "f") 2 ∷ empty (codes "g") ∷ calling (codes "h") 0 ∷ [])
    (calling (codes "main") 0)) ≡ Err (circular_reference (codes "f, h"))
unfolding level_below
circular = refl
