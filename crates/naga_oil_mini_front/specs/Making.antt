-- Locals and a sum become expressions and a body, from the left.
use Rattle.std.specs.Prelude.{ℕ, ◌+◌, zero, suc, min, if◌then◌else◌, List, [], ◌∷◌, ◌++◌, length, map, reverse, Option, Some, None, option_map, unwrap_or, Result, Ok, Err, bytes_eq, codes}
use Rattle.std.specs.List.{flat_map}
use Rattle.std.specs.Option.{option_or}
use Rattle.naga_oil_ir.specs.Kinds.{emit_head, return_head, call_head}
use Rattle.naga_oil_ir.specs.Parts.{Parts, expr}
use Rattle.naga_oil_ir.specs.Body.{Tokens, spanned_tokens, block_tokens}
use Rattle.naga_oil_ir.specs.declared.expression.Expression.{Expression}
use Rattle.naga_oil_ir.specs.declared.statement.Block.{Block}
use Rattle.naga_oil_ir.specs.ModuleValue.{expression_values, LocalValue, local_values}
use Rattle.naga_oil_ir.specs.declared.parts.Named.TheVariants.{Nothing, ConstantAt, GlobalAt, LocalAt, ArgumentAt, FunctionAt}
use Rattle.naga_oil_ir.specs.declared.span.Span.{Span}
use Rattle.naga_oil_ir.specs.declared.types.LocalVariable.{LocalVariable}
use Rattle.naga_oil_ir.specs.declared.tokens.Token.TheVariants.{At, Head, Use, GiveCall, Emitted, Callee}
use Rattle.naga_oil_ir.specs.Spans.{u32_max}
use Rattle.naga_oil_mini_symbols.specs.NameTable.{last_place}
use Rattle.naga_oil_mini_symbols.specs.Refused.{LineFault, not_understood, unknown, ◌>>◌}
use Rattle.naga_oil_mini_symbols.specs.Symbols.{Symbol, name, opens, number, equals, plus, comma, closes}
use Rattle.naga_oil_mini_front.specs.declared.making.OpenCall.{OpenCall as OpenCallOfCode}
use Rattle.naga_oil_mini_front.specs.declared.making.Making.{Making}
use Rattle.naga_oil_mini_front.specs.declared.making.Scope.{Scope as ScopeOfCode}
use Rattle.naga_oil_mini_front.specs.declared.making.Wanted.{Wanted as WantedOfCode}
use Rattle.naga_oil_mini_front.specs.declared.making.Wanted.TheVariants as code

-- the names that a sum may use: parameters, and the constants, globals and functions of earlier lines
pub record Scope : Type 0 where
  pub parameters : List (List ℕ)
  pub constants : List (List ℕ)
  pub globals : List (List ℕ)
  pub functions : List (List ℕ)

-- ---- expressions
abbrev pub literal : ℕ → Parts
literal n = expr 0 (1 ∷ n ∷ []) Nothing []

abbrev pub constant : ℕ → Parts
constant c = expr 2 [] (ConstantAt c) []

abbrev pub global : ℕ → Parts
global g = expr 4 [] (GlobalAt g) []

abbrev pub local : ℕ → Parts
local l = expr 5 [] (LocalAt l) []

-- a parameter, whose number is capped at the largest u32
abbrev pub argument_number : ℕ → ℕ
argument_number k = min k u32_max

abbrev pub parameter : ℕ → Parts
parameter k = expr 6 [] (ArgumentAt (argument_number k)) []

abbrev pub call_result : ℕ → Parts
call_result f = expr 7 [] (FunctionAt f) []

abbrev pub load : ℕ → Parts
load pointer = expr 18 [] Nothing (Some pointer ∷ [])

abbrev pub binary : (left right : ℕ) → Parts
binary l r = expr 23 (1 ∷ []) Nothing (Some l ∷ Some r ∷ [])

-- the parameters, by their number, which the terms of a line share
abbrev pub parameter_terms : ℕ → Span → List (Parts × Span)
parameter_terms zero at = []
parameter_terms (suc n) at = parameter_terms n at ++ (parameter n, at) ∷ []

-- ---- a sum that is being read
-- a call whose arguments are being read: its callee, the arguments so far, and the sum to the left of the `+` before it
pub record OpenCall : Type 0 where
  pub callee : ℕ
  pub arguments : List ℕ
  pub left : Option ℕ

-- the part that is expected next: the sum, a local's name, the `=` after its name, or its initialiser
pub data Wanted : Type 0 where
  a_sum : Wanted
  a_local : Wanted
  an_equals : List ℕ → Wanted
  an_initialiser : List ℕ → Wanted

-- the names that the line may use and its span; the names of the locals so far, the locals, the expressions and the body;
-- the expected part; the open calls (the innermost first), the sum to the left of the last `+`, the sum so far unless a term is
-- expected, and the first unknown name
pub record Made : Type 0 where
  pub scope : Scope
  pub span : Span
  pub names : List (List ℕ)
  pub locals : List (LocalValue × Span)
  pub expressions : List (Parts × Span)
  pub body : Tokens
  pub wanted : Wanted
  pub calls : List OpenCall
  pub left : Option ℕ
  pub sum : Option ℕ
  pub unknown_name : Option (List ℕ)

-- another expression
abbrev pub put : Parts → Made → Made
put p m = record m { expressions = m.expressions ++ (p, m.span) ∷ [] }

-- another statement
abbrev pub stated : Tokens → Made → Made
stated ts m = record m { body = m.body ++ At m.span ∷ ts }

-- the place of the next expression
abbrev pub next_place : Made → ℕ
next_place m = length m.expressions

-- another expression, which is emitted alone
abbrev pub emitted : Parts → Made → Made
emitted p m = stated (Head emit_head ∷ Emitted (next_place m, next_place m + 1) ∷ []) (put p m)

-- the sum with the term at a place: without `+` the term alone, else the sum of all before and the term
abbrev pub joined : Option ℕ → ℕ → Made → Made
joined None h m = record m { sum = Some h; left = None }
joined (Some l) h m = record (emitted (binary l h) m) { sum = Some (next_place m); left = None }

-- a term is added to the sum
abbrev pub with_term : Parts → Made → Made
with_term p m = joined m.left (next_place m) (put p m)

-- the load of a variable is added to the sum
abbrev pub with_variable : Parts → Made → Made
with_variable p m = joined m.left (next_place m + 1) (emitted (load (next_place m)) (put p m))

-- a name is met, which has a place or is unknown
abbrev pub met : List ℕ → Option ℕ → Made → Made
met n (Some k) m = m
met n None m = record m { unknown_name = option_or m.unknown_name (Some n) }

-- a constant is added to the sum
abbrev pub with_constant : List ℕ → Made → Made
with_constant n m = let c = last_place n m.scope.constants in with_term (constant (unwrap_or c 0)) (met n c m)

-- a name is added to the sum, by its places: a parameter, else a local, else a global, else a constant
abbrev pub with_named : (parameter local global : Option ℕ) → List ℕ → Made → Made
with_named (Some p) l g n m = joined m.left p m
with_named None (Some l) g n m = with_variable (local l) m
with_named None None (Some g) n m = with_variable (global g) m
with_named None None None n m = with_constant n m

abbrev pub with_name : List ℕ → Made → Made
with_name n m = with_named (last_place n m.scope.parameters) (last_place n m.names) (last_place n m.scope.globals) n m

-- a call begins
abbrev pub call_opened : ℕ → Made → Made
call_opened f m = record m { calls = record { callee = f; arguments = []; left = m.left } ∷ m.calls; left = None }

abbrev pub function_met : List ℕ → Made → Made
function_met n m = let k = last_place n m.scope.functions in call_opened (unwrap_or k 0) (met n k m)

-- the arguments of a call once a sum ends; only a call that just began has none
abbrev pub argument_ended : (sum left : Option ℕ) → List ℕ → Result (List ℕ) LineFault
argument_ended (Some h) l hs = Ok (hs ++ h ∷ [])
argument_ended None None [] = Ok []
argument_ended None l hs = Err not_understood

-- the innermost call with its last argument, and the state around the call
abbrev pub last_of : List OpenCall → Made → Result (OpenCall × Made) LineFault
last_of [] m = Err not_understood
last_of (c ∷ cs) m = argument_ended m.sum m.left c.arguments >> λ hs. Ok (record c { arguments = hs }, record m { calls = cs; sum = None })

abbrev pub last_call : Made → Result (OpenCall × Made) LineFault
last_call m = last_of m.calls m

-- the call continues
abbrev pub call_again : OpenCall × Made → Made
call_again r = record r.1 { calls = r.0 ∷ r.1.calls }

abbrev pub called : ℕ → List ℕ → ℕ → Tokens
called f arguments h = (Head call_head ∷ Callee f ∷ []) ++ map Use arguments ++ GiveCall f h ∷ []

-- the call's result is added to the sum before the call
abbrev pub call_ended : OpenCall → Made → Made
call_ended c m = with_term (call_result c.callee) (record (stated (called c.callee c.arguments (next_place m)) m) { left = c.left })

-- a `+` after a sum
abbrev pub added : ℕ → Made → Made
added h m = record m { left = Some h; sum = None }

-- the state after a symbol, where this is the sum so far
abbrev pub read_after : Option ℕ → Symbol → Made → Result Made LineFault
read_after None (number n) m = Ok (with_term (literal n) m)
read_after None (name n) m = Ok (with_name n m)
read_after None (opens f) m = Ok (function_met f m)
read_after (Some h) plus m = Ok (added h m)
read_after (Some h) comma m = last_call m >> λ r. Ok (call_again r)
read_after o closes m = last_call m >> λ r. Ok (call_ended r.0 r.1)
read_after o s m = Err not_understood

-- another local, with the initialiser at a place
abbrev pub with_local : List ℕ → ℕ → Wanted → Made → Made
with_local n h w m = record m { names = m.names ++ n ∷ []; locals = m.locals ++ (record { name = Some n; ty = 0; init = Some h }, m.span) ∷ []; wanted = w; sum = None }

-- the state after a symbol of a local's initialiser: terms are numbers and constants
abbrev pub read_initialiser : List ℕ → Option ℕ → Symbol → Made → Result Made LineFault
read_initialiser l None (number n) m = Ok (with_term (literal n) m)
read_initialiser l None (name n) m = Ok (with_constant n m)
read_initialiser l (Some h) plus m = Ok (added h m)
read_initialiser l (Some h) comma m = Ok (with_local l h a_local m)
read_initialiser l (Some h) equals m = Ok (with_local l h a_sum m)
read_initialiser l o s m = Err not_understood

-- the state after a symbol, where this part is expected
abbrev pub read_wanted : Wanted → Symbol → Made → Result Made LineFault
read_wanted a_sum s m = read_after m.sum s m
read_wanted a_local (name n) m = Ok (record m { wanted = an_equals n })
read_wanted (an_equals n) equals m = Ok (record m { wanted = an_initialiser n })
read_wanted (an_initialiser n) s m = read_initialiser n m.sum s m
read_wanted w s m = Err not_understood

abbrev pub read_symbol : Symbol → Made → Result Made LineFault
read_symbol s m = read_wanted m.wanted s m

abbrev pub read_symbols : List Symbol → Made → Result Made LineFault
read_symbols [] m = Ok m
read_symbols (x ∷ xs) m = read_symbol x m >> read_symbols xs

-- a sum may end where no call is open and no term is expected; its value is returned
abbrev pub ended : Wanted → List OpenCall → Option ℕ → Option (List ℕ) → Made → Result Made LineFault
ended a_sum [] (Some h) None m = Ok (stated (Head return_head ∷ Use h ∷ []) m)
ended a_sum [] (Some h) (Some n) m = Err (unknown n)
ended w cs o u m = Err not_understood

abbrev pub returned : Made → Result Made LineFault
returned m = ended m.wanted m.calls m.sum m.unknown_name m

-- a line's end begins: its arena begins with its parameters
abbrev pub begun : Wanted → Made → Made
begun w m = record m { wanted = w; expressions = parameter_terms (length m.scope.parameters) m.span }

abbrev pub begun_by : Symbol → Made → Result Made LineFault
begun_by equals m = Ok (begun a_sum m)
begun_by (name n) m = if bytes_eq n (codes "with") then Ok (begun a_local m) else Err not_understood
begun_by s m = Err not_understood

-- the end of a line: `=` and a sum, `with` and locals before them, or nothing for a stub
abbrev pub read_end : List Symbol → Made → Result Made LineFault
read_end [] m = Ok m
read_end (x ∷ xs) m = begun_by x m >> λ n. read_symbols xs n >> returned

-- nothing yet
abbrev pub nothing_made : Scope → Span → Made
nothing_made s at = record { scope = s; span = at; names = []; locals = []; expressions = []; body = []; wanted = a_sum; calls = []; left = None; sum = None; unknown_name = None }

-- the inside of a function: its locals, its expressions and its body
pub record Inside : Type 0 where
  pub locals : List (LocalValue × Span)
  pub expressions : List (Parts × Span)
  pub body : Tokens

abbrev pub inside : Made → Inside
inside m = record { locals = m.locals; expressions = m.expressions; body = m.body }

-- the inside of a function, by the end of its line
abbrev pub made : Scope → Span → List Symbol → Result Inside LineFault
made s at xs = read_end xs (nothing_made s at) >> λ m. Ok (inside m)

-- ---- as the code has them
abbrev pub inside_of : List (LocalVariable × Span) × List (Expression × Span) × Block → Inside
inside_of r = record { locals = local_values r.0; expressions = expression_values r.1; body = block_tokens r.2 }

abbrev pub open_call_of : OpenCallOfCode → OpenCall
open_call_of c = record { callee = c.callee; arguments = c.arguments.items; left = c.left }

abbrev pub scope_of : ScopeOfCode → Scope
scope_of s = record { parameters = s.parameters.now; constants = s.constants.now; globals = s.globals.now; functions = s.functions.now }

abbrev pub wanted_of : WantedOfCode → Wanted
wanted_of code.Sum = a_sum
wanted_of code.Local = a_local
wanted_of (code.Equals n) = an_equals n.now
wanted_of (code.Initialiser n) = an_initialiser n.now

abbrev pub made_of : Making → Made
made_of m = record {
  scope = scope_of m.scope;
  span = m.span;
  names = m.names;
  locals = local_values m.locals;
  expressions = expression_values m.expressions;
  body = flat_map spanned_tokens m.body.items;
  wanted = wanted_of m.wanted;
  calls = reverse (map open_call_of m.calls.items);
  left = m.left;
  sum = m.sum;
  unknown_name = option_map (λ n. n.now) m.unknown;
}
