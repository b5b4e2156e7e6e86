-- Uses of expressions and declarations of local variables, worked by hand.
use Rattle.std.specs.Prelude.{◌≡◌, refl, ℕ, true, false, List, [], ◌∷◌, Option, Some, None}
use Rattle.naga_oil_ir.specs.Parts.{parts}
use Rattle.naga_oil_ir.specs.Spans.{undefined}
use Rattle.naga_oil_ir.specs.declared.expression.Expression.TheVariants.{Literal, LocalVariable, Load}
use Rattle.yettuvam_wgsl_counts.specs.Locals.{Expressions, Variables, Ends, stored_local, declared_by}
use Rattle.yettuvam_wgsl_counts.specs.Times.{times_of, times_at, is_never}
use Rattle.yettuvam_wgsl_counts.specs.declared.locals.Declared.{Declared}
use Rattle.yettuvam_wgsl_counts.specs.declared.locals.Declared.TheVariants.{Nowhere, At, AtTop}
use Rattle.yettuvam_wgsl_counts.specs.declared.times.Times.TheVariants.{Never, Once, More}
use Rattle.yettuvam_wgsl_lines.specs.Line.{LineValue, Lines}
use Rattle.yettuvam_wgsl_lines.specs.declared.line.TheConstants.{EMIT, STORE}

-- a line in a block, whose first token has a place
abbrev line : ℕ → ℕ → ℕ → List ℕ → Option ℕ → LineValue
line at block kind operands made = record {
  kind = kind;
  at = at;
  number = at;
  block = block;
  follows = true;
  function = 0;
  operands = operands;
  made = made;
  is_named = false;
}

-- ---- times

times_row : times_of 3 (line 1 0 EMIT (0 ∷ 1 ∷ []) (Some 2) ∷ line 2 0 STORE (0 ∷ 5 ∷ []) None ∷ []) ≡ More ∷ Once ∷ Never ∷ []
times_row = refl

times_at_rows : (times_at (Once ∷ []) 0 ≡ Once) × (times_at (Once ∷ []) 1 ≡ Never) × (is_never Once ≡ false)
times_at_rows = (refl, refl, refl)

-- ---- local variables

-- the first local variable, the second, a number and a load of the first
abbrev expressions : Expressions
expressions = (parts (LocalVariable 0), undefined) ∷ (parts (LocalVariable 1), undefined) ∷ (parts (Literal 1 5), undefined) ∷ (parts (Load 0), undefined) ∷ []

-- two local variables, of which the second has a value if it is given
abbrev variables : Option ℕ → Variables
variables value = (record { name = None; ty = 0; init = None }, undefined) ∷ (record { name = None; ty = 0; init = value }, undefined) ∷ []

-- the scope of the block 1 ends at the token 8
abbrev ends : Ends
ends = None ∷ Some 8 ∷ []

abbrev declared : Option ℕ → Lines → List Declared
declared value ls = declared_by expressions (variables value) record { lines = ls; ends = ends }

-- a store to the first local variable, one to the second, and a load of the first
abbrev store : ℕ → ℕ → LineValue
store at block = line at block STORE (0 ∷ 2 ∷ []) None

abbrev store_second : ℕ → ℕ → LineValue
store_second at block = line at block STORE (1 ∷ 2 ∷ []) None

abbrev load : ℕ → ℕ → LineValue
load at block = line at block EMIT (0 ∷ []) (Some 3)

-- `var x = 5;` before and after its other uses; nothing names the second
first_rows :
    (declared None (store 2 0 ∷ load 4 0 ∷ store 5 0 ∷ []) ≡ At 2 ∷ Nowhere ∷ [])
    × (declared None (load 2 0 ∷ store 4 0 ∷ []) ≡ AtTop ∷ Nowhere ∷ [])
first_rows = (refl, refl)

-- a block declares a variable if all that names it is in the block
block_rows :
    (declared None (store 2 1 ∷ load 4 1 ∷ []) ≡ At 2 ∷ Nowhere ∷ [])
    × (declared None (store 2 1 ∷ load 9 0 ∷ []) ≡ AtTop ∷ Nowhere ∷ [])
    × (declared None (store 2 1 ∷ load 4 1 ∷ store 9 0 ∷ load 11 0 ∷ []) ≡ AtTop ∷ Nowhere ∷ [])
    × (declared None (store 2 0 ∷ store 4 1 ∷ load 9 0 ∷ []) ≡ At 2 ∷ Nowhere ∷ [])
block_rows = (refl, refl, refl, refl)

-- a variable with a value has it before the first statement
value_rows :
    (declared None (store_second 2 0 ∷ []) ≡ Nowhere ∷ At 2 ∷ [])
    × (declared (Some 2) (store_second 2 0 ∷ []) ≡ Nowhere ∷ AtTop ∷ [])
    × (declared (Some 2) [] ≡ Nowhere ∷ Nowhere ∷ [])
value_rows = (refl, refl, refl)

-- a store to another place, and a load, store no whole local variable
stored_rows :
    (stored_local expressions (store 2 0) ≡ Some 0)
    × (stored_local expressions (line 2 0 STORE (3 ∷ 2 ∷ []) None) ≡ None)
    × (stored_local expressions (load 2 0) ≡ None)
stored_rows = (refl, refl, refl)
