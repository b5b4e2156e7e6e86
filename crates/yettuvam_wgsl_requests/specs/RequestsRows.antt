-- Requests and calls of a body, worked by hand.
use Rattle.std.specs.Prelude.{◌≡◌, refl, ℕ, Bool, true, false, List, [], ◌∷◌, Option, Some, None, codes}
use Rattle.naga_oil_ir.specs.Spans.{undefined}
use Rattle.naga_oil_ir.specs.Parts.{parts}
use Rattle.naga_oil_ir.specs.declared.expression.Expression.TheVariants.{LocalVariable}
use Rattle.yettuvam_wgsl_counts.specs.Locals.{Expressions}
use Rattle.yettuvam_wgsl_counts.specs.declared.locals.Declared.TheVariants.{Nowhere, At, AtTop}
use Rattle.yettuvam_wgsl_counts.specs.declared.times.Times.TheVariants.{Never, Once}
use Rattle.yettuvam_wgsl_lines.specs.Line.{LineValue, Lines}
use Rattle.yettuvam_wgsl_lines.specs.declared.line.TheConstants.{EMIT, STORE, START}
use Rattle.yettuvam_wgsl_names.specs.declared.functions.TheConstants.{ABS, MIN}
use Rattle.yettuvam_wgsl_natures.specs.declared.called.TheConstants.{NO_FUNCTION}
use Rattle.yettuvam_wgsl_uses.specs.Uses.{Uses}
use Rattle.yettuvam_wgsl_requests.specs.Calls.{call, step, run, predeclared, calls_of, last}
use Rattle.yettuvam_wgsl_requests.specs.Requests.{request, top_requests, line_requests}
use Rattle.yettuvam_wgsl_requests.specs.declared.requests.Subject.TheVariants.{Local, Value}

-- a line whose number is that of its group and its first token
abbrev line : ℕ → ℕ → ℕ → List ℕ → Option ℕ → Bool → LineValue
line n kind function operands made named = record {
  kind = kind;
  at = n;
  number = n;
  block = 0;
  follows = true;
  function = function;
  operands = operands;
  made = made;
  is_named = named;
}

-- the expression 2 is a `let`, 3 is evaluated in the group 5, and the first local is declared by the store in the line 2
abbrev uses : Uses
uses = record {
  texts = Once ∷ Never ∷ Once ∷ Never ∷ [];
  last = 0 ∷ 0 ∷ 9 ∷ 5 ∷ [];
  is_let = false ∷ false ∷ true ∷ false ∷ [];
  locals = At 2 ∷ [];
  merged = [];
  groups = 0 ∷ 1 ∷ 2 ∷ 3 ∷ 4 ∷ 5 ∷ [];
}

-- `let x = abs(..);`, two stores to the local of the expression 0, results of calls without and with a name
abbrev lines : Lines
lines =
    line 0 START NO_FUNCTION [] None false ∷ line 1 EMIT ABS [] (Some 2) true
    ∷ line 2 STORE NO_FUNCTION (0 ∷ 2 ∷ []) None false ∷ line 3 STORE NO_FUNCTION (0 ∷ 2 ∷ []) None false
    ∷ line 4 16 ABS [] (Some 1) false ∷ line 5 16 NO_FUNCTION [] (Some 3) true ∷ []

abbrev expressions : Expressions
expressions = (parts (LocalVariable 0), undefined) ∷ []

top_row : top_requests (AtTop ∷ Nowhere ∷ At 3 ∷ AtTop ∷ []) ≡ request (Local 0) 0 ∷ request (Local 3) 0 ∷ []
top_row = refl

lines_row : line_requests uses expressions lines ≡ request (Value 2) 1 ∷ request (Local 0) 2 ∷ request (Value 3) 5 ∷ []
lines_row = refl

-- `abs` is called in the groups 1 and 4, and an expression that is no `let` calls `min` where it is evaluated
abbrev calls : Lines
calls = line 1 EMIT MIN [] (Some 3) false ∷ lines

calls_row : calls_of uses calls ≡ (MIN, 5) ∷ (ABS, 4) ∷ []
unfolding run step call
calls_row = refl

last_rows :
    (last ((ABS, 4) ∷ []) (codes "abs") ≡ 4)
    × (last ((ABS, 4) ∷ []) (codes "min") ≡ 0)
    × (last ((ABS, 4) ∷ []) (codes "x") ≡ 0)
unfolding predeclared
last_rows = (refl, refl, refl)
