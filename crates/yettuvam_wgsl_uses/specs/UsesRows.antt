-- How small bodies are written, worked by hand.
use Rattle.std.specs.Prelude.{◌≡◌, refl, ℕ, Bool, true, false, List, [], ◌∷◌, length, Option, Some, None}
use Rattle.naga_oil_ir.specs.Spans.{undefined}
use Rattle.naga_oil_ir.specs.Parts.{parts}
use Rattle.naga_oil_ir.specs.declared.expression.Expression.TheVariants.{LocalVariable, Binary, Load}
use Rattle.yettuvam_wgsl_counts.specs.Locals.{Expressions}
use Rattle.yettuvam_wgsl_counts.specs.declared.times.Times.{Times}
use Rattle.yettuvam_wgsl_counts.specs.declared.times.Times.TheVariants.{Never, Once, More}
use Rattle.yettuvam_wgsl_lines.specs.Line.{LineValue, Lines}
use Rattle.yettuvam_wgsl_lines.specs.declared.line.TheConstants.{EMIT, STORE, START}
use Rattle.yettuvam_wgsl_natures.specs.declared.natures.Nature.{Nature}
use Rattle.yettuvam_wgsl_uses.specs.Choice.{lets_of, merged_of}
use Rattle.yettuvam_wgsl_uses.specs.Compounds.{binary_of, compound_by, loaded_by}
use Rattle.yettuvam_wgsl_uses.specs.Facts.{make_fact, plain}
use Rattle.yettuvam_wgsl_uses.specs.Order.{settle, pop, take_operand, begin, push, end_emitted, end_result, end, step, run, early_of}
use Rattle.yettuvam_wgsl_uses.specs.Texts.{last_of}
use Rattle.yettuvam_wgsl_uses.specs.Uses.{Uses, early_by, chosen}
use Rattle.yettuvam_wgsl_uses.specs.declared.facts.Fact.{Fact}

-- ---- facts

abbrev fact : Nature → Times → Fact
fact n ts = record { nature = n; times = ts; is_firm = false; is_short = false }

abbrev constant : Times → Fact
constant ts = fact (record plain { is_constant = true }) ts

abbrev place : Times → Fact
place ts = fact (record plain { is_place = true }) ts

abbrev load : Times → Fact
load ts = fact (record plain { is_timed = true }) ts

abbrev value : Times → Fact
value ts = fact plain ts

-- a sample of a texture, and `&&`
abbrev sample : Fact
sample = record (load Once) { is_firm = true }

abbrev short : Fact
short = record (value Once) { is_short = true }

-- ---- lines

-- whether it follows the line before it, and whether what it makes has a name
abbrev line : ℕ → ℕ → List ℕ → Option ℕ → Bool → Bool → LineValue
line n kind operands made follows named = record {
  kind = kind;
  at = n;
  number = n;
  block = 0;
  follows = follows;
  function = 0;
  operands = operands;
  made = made;
  is_named = named;
}

abbrev start : LineValue
start = line 0 START [] None false false

abbrev emit : ℕ → List ℕ → ℕ → LineValue
emit n operands made = line n EMIT operands (Some made) true false

abbrev call : ℕ → List ℕ → ℕ → LineValue
call n operands made = line n 16 operands (Some made) true false

abbrev store : ℕ → List ℕ → LineValue
store n operands = line n STORE operands None true false

abbrev lets : List Fact → Lines → List Bool
lets fs ls = lets_of fs (early_by fs ls) ls

abbrev merged : List Fact → Lines → List Bool
merged fs ls = merged_of fs (early_by fs ls) ls

-- ---- what is evaluated in the order of the lines

-- `x = a + b;`, where `x` is the expression 0, the loads are 1 and 2, and the sum is 3
abbrev loads : List Fact
loads = place Once ∷ load Once ∷ load Once ∷ value Once ∷ []

abbrev sum : Lines
sum = start ∷ emit 1 [] 1 ∷ emit 2 [] 2 ∷ emit 3 (1 ∷ 2 ∷ []) 3 ∷ store 4 (0 ∷ 3 ∷ []) ∷ []

sum_row : chosen loads [] sum [] ≡ record {
  texts = [];
  last = 1 ∷ 1 ∷ 1 ∷ 1 ∷ [];
  is_let = false ∷ false ∷ false ∷ false ∷ [];
  merged = false ∷ false ∷ false ∷ false ∷ [];
  groups = 0 ∷ 1 ∷ 1 ∷ 1 ∷ 1 ∷ [];
  locals = [];
}
unfolding settle pop take_operand begin push end_emitted end_result end step run early_of chosen
sum_row = refl

-- `x = a + f();` and `x = f() + a;`, where `a` is loaded before the call: the load comes first in both
abbrev called : List Fact
called = place Once ∷ load Once ∷ value Once ∷ value Once ∷ []

abbrev in_order : Lines
in_order = start ∷ emit 1 [] 1 ∷ call 2 [] 2 ∷ emit 3 (1 ∷ 2 ∷ []) 3 ∷ store 4 (0 ∷ 3 ∷ []) ∷ []

abbrev out_of_order : Lines
out_of_order = start ∷ emit 1 [] 1 ∷ call 2 [] 2 ∷ emit 3 (2 ∷ 1 ∷ []) 3 ∷ store 4 (0 ∷ 3 ∷ []) ∷ []

order_rows :
    (lets called in_order ≡ false ∷ false ∷ false ∷ false ∷ [])
    × (merged called in_order ≡ false ∷ false ∷ true ∷ false ∷ [])
    × (lets called out_of_order ≡ false ∷ true ∷ false ∷ false ∷ [])
    × (merged called out_of_order ≡ false ∷ false ∷ false ∷ false ∷ [])
unfolding settle pop take_operand begin push end_emitted end_result end step run early_of
order_rows = (refl, refl, refl, refl)

-- a load before another statement, before a `let` and before a block, used after it
abbrev statement_between : Lines
statement_between = start ∷ emit 1 [] 1 ∷ store 2 (0 ∷ []) ∷ store 3 (0 ∷ 1 ∷ []) ∷ []

abbrev let_between : Lines
let_between = start ∷ emit 1 [] 1 ∷ line 2 EMIT [] (Some 3) true true ∷ store 3 (0 ∷ 1 ∷ []) ∷ []

abbrev block_between : Lines
block_between = start ∷ emit 1 [] 1 ∷ line 2 STORE (0 ∷ 1 ∷ []) None false false ∷ []

between_rows :
    (lets loads statement_between ≡ false ∷ true ∷ false ∷ false ∷ [])
    × (lets loads let_between ≡ false ∷ true ∷ false ∷ true ∷ [])
    × (lets loads block_between ≡ false ∷ true ∷ false ∷ false ∷ [])
unfolding settle pop take_operand begin push end_emitted end_result end step run early_of
between_rows = (refl, refl, refl)

-- `b && textureSample(..)`, where the sample would not be evaluated, and `b && a`, where it may be left out
abbrev circuit : Lines
circuit = start ∷ emit 1 [] 1 ∷ emit 2 [] 2 ∷ emit 3 (1 ∷ 2 ∷ []) 3 ∷ store 4 (0 ∷ 3 ∷ []) ∷ []

circuit_rows :
    (lets (place Once ∷ load Once ∷ sample ∷ short ∷ []) circuit ≡ false ∷ true ∷ true ∷ false ∷ [])
    × (lets (place Once ∷ load Once ∷ load Once ∷ short ∷ []) circuit ≡ false ∷ false ∷ false ∷ false ∷ [])
    × (lets (place Once ∷ sample ∷ load Once ∷ short ∷ []) circuit ≡ false ∷ false ∷ false ∷ false ∷ [])
unfolding settle pop take_operand begin push end_emitted end_result end step run early_of
circuit_rows = (refl, refl, refl)

-- ---- what is used more than once or never, and what has a name

-- an expression 1 that is stored as often as it is used
abbrev twice : Lines
twice = start ∷ emit 1 [] 1 ∷ store 2 (0 ∷ 1 ∷ []) ∷ store 3 (0 ∷ 1 ∷ []) ∷ []

abbrev named : Lines
named = start ∷ line 1 EMIT [] (Some 1) true true ∷ []

times_rows :
    (lets (place More ∷ value More ∷ []) twice ≡ false ∷ true ∷ [])
    × (lets (place More ∷ constant More ∷ []) twice ≡ false ∷ false ∷ [])
    × (lets (place More ∷ place More ∷ []) twice ≡ false ∷ false ∷ [])
    × (lets (place Never ∷ load Never ∷ []) (start ∷ emit 1 [] 1 ∷ []) ≡ false ∷ false ∷ [])
    × (lets (place Never ∷ constant Never ∷ []) named ≡ false ∷ true ∷ [])
unfolding settle pop take_operand begin push end_emitted end_result end step run early_of
times_rows = (refl, refl, refl, refl, refl)

-- a result that has a name, one that is used twice, and one that nothing uses, are no part of another text
merged_rows :
    (merged (place Once ∷ value Once ∷ []) (start ∷ line 1 16 [] (Some 1) true true ∷ store 2 (0 ∷ 1 ∷ []) ∷ []) ≡ false ∷ false ∷ [])
    × (merged (place Once ∷ value More ∷ []) (start ∷ call 1 [] 1 ∷ store 2 (0 ∷ 1 ∷ []) ∷ store 3 (0 ∷ 1 ∷ []) ∷ []) ≡ false ∷ false ∷ [])
    × (merged (place Once ∷ value Never ∷ []) (start ∷ call 1 [] 1 ∷ []) ≡ false ∷ false ∷ [])
unfolding settle pop take_operand begin push end_emitted end_result end step run early_of
merged_rows = (refl, refl, refl)

-- ---- places

-- `x[i] = f();`, and `x[i] = x[i];` where both are one expression: 1 is the load of `i`, 2 the place
abbrev element : Lines
element = start ∷ emit 1 [] 1 ∷ emit 2 (0 ∷ 1 ∷ []) 2 ∷ call 3 [] 3 ∷ store 4 (2 ∷ 3 ∷ []) ∷ []

abbrev element_twice : Lines
element_twice = start ∷ emit 1 [] 1 ∷ emit 2 (0 ∷ 1 ∷ []) 2 ∷ emit 3 (2 ∷ []) 3 ∷ store 4 (2 ∷ 3 ∷ []) ∷ []

-- the place is used after a statement
abbrev element_later : Lines
element_later = start ∷ emit 1 [] 1 ∷ emit 2 (0 ∷ 1 ∷ []) 2 ∷ store 3 (0 ∷ []) ∷ store 4 (2 ∷ []) ∷ []

element_rows :
    (lets (place Once ∷ load Once ∷ place Once ∷ value Once ∷ []) element ≡ false ∷ false ∷ false ∷ false ∷ [])
    × (lets (place Once ∷ load Once ∷ place More ∷ load Once ∷ []) element_twice ≡ false ∷ true ∷ false ∷ false ∷ [])
    × (lets (place Once ∷ load Once ∷ place Once ∷ value Once ∷ []) element_later ≡ false ∷ true ∷ false ∷ false ∷ [])
unfolding settle pop take_operand begin push end_emitted end_result end step run early_of
element_rows = (refl, refl, refl)

-- ---- where texts are evaluated

-- the expression 1, which is no `let`, is part of 2, which is used in the group 3
last_rows :
    (last_of 3 [] (0 ∷ 1 ∷ 2 ∷ 3 ∷ []) (start ∷ emit 1 [] 1 ∷ emit 2 (1 ∷ []) 2 ∷ store 3 (0 ∷ 2 ∷ []) ∷ []) ≡ 3 ∷ 3 ∷ 3 ∷ [])
    × (last_of 3 (false ∷ false ∷ true ∷ []) (0 ∷ 1 ∷ 2 ∷ 3 ∷ []) (start ∷ emit 1 [] 1 ∷ emit 2 (1 ∷ []) 2 ∷ store 3 (0 ∷ 2 ∷ []) ∷ []) ≡ 3 ∷ 2 ∷ 3 ∷ [])
last_rows = (refl, refl)

-- ---- assignments by an operator

-- `x` and `y`, a load of `x`, the operator with a code and the load as its left operand
abbrev added : ℕ → Expressions
added op = (parts (LocalVariable 0), undefined) ∷ (parts (LocalVariable 1), undefined) ∷ (parts (Load 0), undefined) ∷ (parts (Binary op 2 1), undefined) ∷ []

-- `x = x + y;`, `x = x == y;`, `y = x + y;`, and the first where the sum or the load is a `let`
compound_rows :
    (compound_by (added 1) [] (store 1 (0 ∷ 3 ∷ [])) ≡ Some (1, 1))
    × (compound_by (added 11) [] (store 1 (0 ∷ 3 ∷ [])) ≡ None)
    × (compound_by (added 1) [] (store 1 (1 ∷ 3 ∷ [])) ≡ None)
    × (compound_by (added 1) (false ∷ false ∷ false ∷ true ∷ []) (store 1 (0 ∷ 3 ∷ [])) ≡ None)
    × (compound_by (added 1) (false ∷ false ∷ true ∷ []) (store 1 (0 ∷ 3 ∷ [])) ≡ None)
unfolding binary_of loaded_by
compound_rows = (refl, refl, refl, refl, refl)
