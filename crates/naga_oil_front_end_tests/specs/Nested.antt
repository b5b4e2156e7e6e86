-- What a front end says whose function holds blocks within blocks.
use Rattle.std.specs.Prelude.{ℕ, zero, suc, [], ◌∷◌, Some, None, codes}
use Rattle.naga_oil_ir.specs.Body.{Tokens, inside}
use Rattle.naga_oil_ir.specs.ModuleValue.{ModuleValue, FunctionValue, no_items}
use Rattle.naga_oil_ir.specs.Spans.{undefined}
use Rattle.naga_oil_ir.specs.declared.tokens.Token.TheVariants.{At, Head}

-- a block within this number of blocks
abbrev pub nested_tokens : (levels : ℕ) → Tokens
nested_tokens zero = []
nested_tokens (suc levels) = At undefined ∷ Head 1 ∷ inside (nested_tokens levels)

-- a function of such a body
abbrev pub nested_function : (levels : ℕ) → FunctionValue
nested_function levels = record {
  name = Some (codes "f");
  arguments = [];
  result = None;
  local_variables = [];
  expressions = [];
  named_expressions = [];
  body = nested_tokens levels;
  diagnostic_filter_leaf = None;
}

-- a module of this function
abbrev pub nested_said : (levels : ℕ) → ModuleValue
nested_said levels = record no_items { functions = (nested_function levels, undefined) ∷ [] }
