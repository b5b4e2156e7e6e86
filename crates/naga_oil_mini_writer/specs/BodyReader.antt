-- A body is read as locals and a sum, from its end: each term before those to its left.
use Rattle.std.specs.Prelude.{ℕ, ◌+◌, ◌*◌, zero, suc, min, Bool, true, false, ◌==◌, ◌&&◌, ◌||◌, nat_le, if◌then◌else◌, List, [], ◌∷◌, ◌++◌, length, map, take, drop, replicate, reverse, slice_get, slice_set, Option, Some, None, option_map}
use Rattle.std.specs.List.{prefix_len}
use Rattle.std.specs.Borrow.{Bor}
use Rattle.naga_oil_ir.specs.Kinds.{literal_kind, load_kind, binary_kind, return_head}
use Rattle.naga_oil_ir.specs.Parts.{Parts}
use Rattle.naga_oil_ir.specs.Body.{Tokens}
use Rattle.naga_oil_ir.specs.ModuleValue.{expression_values}
use Rattle.naga_oil_ir.specs.declared.parts.Named.{Named}
use Rattle.naga_oil_ir.specs.declared.parts.Named.TheVariants.{ConstantAt, GlobalAt, LocalAt, ArgumentAt, FunctionAt}
use Rattle.naga_oil_ir.specs.declared.span.Span.{Span}
use Rattle.naga_oil_ir.specs.declared.tokens.Token.{Token}
use Rattle.naga_oil_ir.specs.declared.tokens.Token.TheVariants.{Head, Use, GiveCall, Emitted, Callee}
use Rattle.naga_oil_words.specs.OptionSteps.{◌>>=◌}
use Rattle.naga_oil_mini_symbols.specs.NameTable.{last_place}
use Rattle.naga_oil_mini_writer.specs.Order.{anywhere, name_used, bounds_used, place_from}
use Rattle.naga_oil_mini_symbols.specs.Symbols.{Symbol, name, opens, number, equals, plus, comma, closes, greatest_number, symbol_of, line_of}
use Rattle.naga_oil_mini_writer.specs.declared.body_reader.Shape.{Shape}
use Rattle.naga_oil_mini_writer.specs.declared.body_reader.Shape.TheVariants.{Number, Argument, Constant, Global, Local, CallOf, Load, Sum, Other}
use Rattle.naga_oil_mini_writer.specs.declared.body_reader.LinePart.{LinePart as PartOfCode}
use Rattle.naga_oil_mini_writer.specs.declared.body_reader.LinePart.TheVariants as code
use Rattle.naga_oil_mini_writer.specs.declared.body_reader.BodyReader.{BodyReader}
use Rattle.naga_oil_mini_writer.specs.declared.body_reader.OwnNames.{OwnNames}
use Rattle.naga_oil_mini_writer.specs.declared.order.Room.{Room}
use Rattle.naga_oil_mini_writer.specs.declared.order.Items.{Items}

-- ---- expressions
abbrev pub literal_shape : List ℕ → Shape
literal_shape (k ∷ n ∷ []) = if (k == 1) && nat_le n greatest_number then Number n else Other
literal_shape ns = Other

abbrev pub sum_shape : List ℕ → List (Option ℕ) → Shape
sum_shape (op ∷ []) (Some l ∷ Some r ∷ []) = if op == 1 then Sum l r else Other
sum_shape ns os = Other

abbrev pub load_shape : List (Option ℕ) → Shape
load_shape (Some p ∷ []) = Load p
load_shape os = Other

abbrev pub named_shape : Named → Shape
named_shape (ConstantAt c) = Constant c
named_shape (GlobalAt g) = Global g
named_shape (LocalAt l) = Local l
named_shape (ArgumentAt n) = Argument n
named_shape (FunctionAt f) = CallOf f
named_shape n = Other

-- what an expression is in a sum
abbrev pub shape : Parts → Shape
shape p =
    if p.kind == literal_kind then literal_shape p.plain
    else (if p.kind == load_kind then load_shape p.operands
    else (if p.kind == binary_kind then sum_shape p.plain p.operands else named_shape p.named))

abbrev pub shape_at : List (Parts × Span) → ℕ → Shape
shape_at es h = elim (slice_get es h) [ None ↦ Other | Some e ↦ shape e.0 ]

-- ---- a body's tokens, the last first
-- a range covers an expression alone, or nothing
abbrev pub is_alone : ℕ → ℕ × ℕ → Bool
is_alone h r = (r.0 == h) && (r.1 == h + 1)

abbrev pub is_alone_or_none : ℕ → ℕ × ℕ → Bool
is_alone_or_none h r = is_alone h r || nat_le r.1 r.0

-- after a statement that emits an expression alone
abbrev pub past_emit : ℕ → Tokens → Option Tokens
past_emit h (Emitted r ∷ k ∷ s ∷ ts) = if is_alone h r then Some ts else None
past_emit h ts = None

-- after a statement that emits an initialiser's sum alone, or nothing where an equal sum was emitted
abbrev pub past_initialiser : ℕ → Tokens → Option Tokens
past_initialiser h (Emitted r ∷ k ∷ s ∷ ts) = if is_alone_or_none h r then Some ts else None
past_initialiser h ts = None

abbrev pub is_use : Token → Bool
is_use (Use h) = true
is_use t = false

abbrev pub past_callee : Tokens → Tokens → Option (Tokens × Tokens)
past_callee xs (Callee f ∷ k ∷ s ∷ ts) = Some (xs, ts)
past_callee xs ts = None

-- after a call with this result, with the arguments
abbrev pub past_call : ℕ → ℕ → Tokens → Option (Tokens × Tokens)
past_call f h (GiveCall g i ∷ ts) = if (g == f) && (i == h) then past_callee (take (prefix_len is_use ts) ts) (drop (prefix_len is_use ts) ts) else None
past_call f h ts = None

-- after a return, with the value that is returned
abbrev pub past_return : Tokens → Option (ℕ × Tokens)
past_return (Use v ∷ Head k ∷ s ∷ ts) = if k == return_head then Some (v, ts) else None
past_return ts = None

-- ---- a line's end that is being read
-- a part that isn't read yet: a symbol, a sum, a term, the arguments of a call (the last first), an initialiser, or a term of one
pub data LinePart : Type 0 where
  shown : Symbol → LinePart
  sum_at : ℕ → LinePart
  term_at : ℕ → LinePart
  arguments : Tokens → LinePart
  initialiser_at : ℕ → LinePart
  initial_term_at : ℕ → LinePart

-- the expressions, the function's own names and the items that it may use
pub record Context : Type 0 where
  pub expressions : List (Parts × Span)
  pub names : OwnNames
  pub items : Items

-- the parts that aren't read yet (the last of the line first), the statements to their left (from the end), the
-- expressions that were met, the expression of each parameter, the symbols to their right, and the room of the items that
-- they name
pub record LineReading : Type 0 where
  pub context : Context
  pub parts : List LinePart
  pub tokens : Tokens
  pub met : List Bool
  pub parameters_met : List (Option ℕ)
  pub symbols : List Symbol
  pub room : Room

abbrev pub with_symbol : Symbol → LineReading → LineReading
with_symbol s r = record r { symbols = s ∷ r.symbols }

abbrev pub with_name : Option (List ℕ) → LineReading → Option LineReading
with_name o r = option_map (λ n. with_symbol (name n) r) o

-- ---- what names mean
-- a place is this one
abbrev pub is_place : ℕ → Option ℕ → Bool
is_place k None = false
is_place k (Some p) = p == k

abbrev pub is_absent : Option ℕ → Bool
is_absent None = true
is_absent (Some p) = false

-- the name of a parameter, unless a later one has it
abbrev pub parameter_name : OwnNames → ℕ → Option (List ℕ)
parameter_name x k = slice_get x.parameters k >>= λ n. if is_place k (last_place n x.parameters) then Some n else None

-- the name of a local, unless a later one or a parameter has it
abbrev pub local_name : OwnNames → ℕ → Option (List ℕ)
local_name x k = slice_get x.locals k >>= λ n. if is_place k (last_place n x.locals) && is_absent (last_place n x.parameters) then Some n else None

-- a name that no parameter and no local has
abbrev pub is_outer : OwnNames → List ℕ → Bool
is_outer x n = is_absent (last_place n x.parameters) && is_absent (last_place n x.locals)

abbrev pub outer_name : OwnNames → List ℕ → Option (List ℕ)
outer_name x n = if is_outer x n then Some n else None

-- ---- the room of a line
abbrev pub use_constant : ℕ → LineReading → LineReading
use_constant c r = record r { room = record r.room { constants = bounds_used r.context.items.constants c r.room.constants } }

abbrev pub use_global : ℕ → LineReading → LineReading
use_global g r = record r { room = record r.room { globals = bounds_used r.context.items.globals g r.room.globals } }

abbrev pub use_function : ℕ → LineReading → LineReading
use_function f r = record r { room = record r.room { functions = bounds_used r.context.items.functions f r.room.functions } }

-- before each global with a name
abbrev pub before_globals : List ℕ → LineReading → LineReading
before_globals n r = record r { room = record r.room { globals = record r.room.globals { most = min r.room.globals.most (place_from 0 n r.context.items.globals) } } }

-- ---- expressions
-- an expression is met for the first time
abbrev pub meet : ℕ → List Bool → Option (List Bool)
meet h ms = slice_get ms h >>= λ m. if m then None else Some (slice_set ms h true)

-- a parameter's expression is met; each parameter has one
abbrev pub is_free : ℕ → Option ℕ → Bool
is_free h None = true
is_free h (Some k) = k == h

abbrev pub meet_parameter : ℕ → ℕ → List (Option ℕ) → Option (List (Option ℕ))
meet_parameter k h ms = slice_get ms k >>= λ m. if is_free h m then Some (slice_set ms k (Some h)) else None

-- a sum: its last term, `+`, and the rest
abbrev pub with_sum : ℕ → ℕ → ℕ → LineReading → Option LineReading
with_sum h l x r = past_emit h r.tokens >>= λ ts. Some (record r { tokens = ts; parts = term_at x ∷ shown plus ∷ sum_at l ∷ r.parts })

-- a call: `)`, its arguments from the last on, and its name
abbrev pub with_call : ℕ → ℕ → LineReading → Option LineReading
with_call h f r = name_used r.context.items.functions f >>= λ n. past_call f h r.tokens >>= λ p.
    Some (record (with_symbol closes (use_function f r)) { tokens = p.1; parts = arguments p.0 ∷ shown (opens n) ∷ r.parts })

-- a parameter
abbrev pub with_parameter : ℕ → ℕ → LineReading → Option LineReading
with_parameter h k r = meet_parameter k h r.parameters_met >>= λ ms. with_name (parameter_name r.context.names k) (record r { parameters_met = ms })

-- a constant; its line is before each global with its name
abbrev pub with_constant : ℕ → LineReading → Option LineReading
with_constant c r = name_used r.context.items.constants c >>= λ n. with_name (outer_name r.context.names n) (before_globals n (use_constant c r))

abbrev pub with_global : ℕ → LineReading → Option LineReading
with_global g r = name_used r.context.items.globals g >>= λ n. with_name (outer_name r.context.names n) (use_global g r)

-- a local or a global by its shape
abbrev pub with_variable : Shape → LineReading → Option LineReading
with_variable (Local l) r = with_name (local_name r.context.names l) r
with_variable (Global g) r = with_global g r
with_variable s r = None

-- a load of a variable, which is emitted alone
abbrev pub with_load : ℕ → ℕ → LineReading → Option LineReading
with_load h p r = past_emit h r.tokens >>= λ ts. meet p r.met >>= λ ms. with_variable (shape_at r.context.expressions p) (record r { tokens = ts; met = ms })

-- an expression by its shape, where it may be a sum or not
abbrev pub with_shape : Bool → ℕ → Shape → LineReading → Option LineReading
with_shape b h (CallOf f) r = with_call h f r
with_shape true h (Sum l x) r = with_sum h l x r
with_shape b h (Load p) r = with_load h p r
with_shape b h (Number n) r = Some (with_symbol (number n) r)
with_shape b h (Constant c) r = with_constant c r
with_shape b h s r = None

-- an expression that occurs once
abbrev pub with_own : Bool → ℕ → Shape → LineReading → Option LineReading
with_own b h s r = meet h r.met >>= λ ms. with_shape b h s (record r { met = ms })

-- a parameter, or an expression that occurs once
abbrev pub with_either : Bool → ℕ → Shape → LineReading → Option LineReading
with_either b h (Argument k) r = with_parameter h k r
with_either b h s r = with_own b h s r

abbrev pub with_expression : Bool → ℕ → LineReading → Option LineReading
with_expression b h r = with_either b h (shape_at r.context.expressions h) r

-- ---- arguments: the last, and before it a `,` and the others
abbrev pub argument_parts : Tokens → List LinePart
argument_parts (Use h ∷ []) = sum_at h ∷ []
argument_parts (Use h ∷ t ∷ ts) = sum_at h ∷ shown comma ∷ arguments (t ∷ ts) ∷ []
argument_parts ts = []

abbrev pub with_argument : Tokens → LineReading → LineReading
with_argument ts r = record r { parts = argument_parts ts ++ r.parts }

-- ---- initialisers, which may share equal expressions, but none with the sum
abbrev pub with_initial_sum : ℕ → ℕ → ℕ → LineReading → Option LineReading
with_initial_sum h l x r = past_initialiser h r.tokens >>= λ ts. Some (record r { tokens = ts; parts = initial_term_at x ∷ shown plus ∷ initialiser_at l ∷ r.parts })

abbrev pub with_initial_constant : ℕ → LineReading → Option LineReading
with_initial_constant c r = with_name (name_used r.context.items.constants c) (use_constant c r)

abbrev pub with_initial_shape : Bool → ℕ → Shape → LineReading → Option LineReading
with_initial_shape b h (Number n) r = Some (with_symbol (number n) r)
with_initial_shape b h (Constant c) r = with_initial_constant c r
with_initial_shape true h (Sum l x) r = with_initial_sum h l x r
with_initial_shape b h s r = None

abbrev pub with_initialiser : Bool → ℕ → LineReading → Option LineReading
with_initialiser b h r = slice_get r.met h >>= λ m. if m then None else with_initial_shape b h (shape_at r.context.expressions h) r

-- ---- all parts
abbrev pub next_part : LinePart → LineReading → Option LineReading
next_part (shown x) r = Some (with_symbol x r)
next_part (sum_at h) r = with_expression true h r
next_part (term_at h) r = with_expression false h r
next_part (arguments ts) r = Some (with_argument ts r)
next_part (initialiser_at h) r = with_initialiser true h r
next_part (initial_term_at h) r = with_initialiser false h r

abbrev pub one_part : List LinePart → LineReading → Option LineReading
one_part [] r = Some r
one_part (p ∷ ps) r = next_part p (record r { parts = ps })

-- the first parts, by their number
abbrev pub parts_read : ℕ → LineReading → Option LineReading
parts_read zero r = Some r
parts_read (suc n) r = one_part r.parts r >>= λ q. parts_read n q

-- what was read, if nothing is left
abbrev pub when_done : LineReading → Option (List Symbol × Room)
when_done r = if (length r.parts == 0) && (length r.tokens == 0) then Some (r.symbols, r.room) else None

-- ---- a function's body
-- a local's name and the place of its initialiser
abbrev pub NamedInitialiser : Type 0
NamedInitialiser = List ℕ × ℕ

-- the `,` before each local but the first
abbrev pub separator : List LinePart → List LinePart
separator ps = if length ps == 0 then [] else shown comma ∷ []

-- the parts of locals, after the separator before the first
abbrev pub local_parts : List LinePart → List NamedInitialiser → List LinePart
local_parts sep [] = []
local_parts sep (l ∷ ls) = sep ++ (shown (name l.0) ∷ shown equals ∷ initialiser_at l.1 ∷ local_parts (shown comma ∷ []) ls)

-- the `=` after locals
abbrev pub after_locals : List LinePart → List LinePart
after_locals ps = if length ps == 0 then [] else shown equals ∷ []

-- locals and the sum that is returned
abbrev pub line_parts : List NamedInitialiser → ℕ → List LinePart
line_parts ls v = let ps = local_parts [] ls in ps ++ after_locals ps ++ sum_at v ∷ []

-- a bound of the number of parts: three for each token of the statements, and four for each local
abbrev pub part_count : Tokens → List NamedInitialiser → ℕ
part_count ts ls = length ts * 3 + length ls * 4

abbrev pub context : List (Parts × Span) → List (List ℕ) → List NamedInitialiser → Items → Context
context es ps ls i = record { expressions = es; names = record { parameters = ps; locals = map (λ l. l.0) ls }; items = i }

-- nothing is read yet
abbrev pub unread : Context → List NamedInitialiser → ℕ × Tokens → LineReading
unread x ls p = record {
  context = x;
  parts = reverse (line_parts ls p.0);
  tokens = p.1;
  met = replicate (length x.expressions) false;
  parameters_met = replicate (length x.names.parameters) None;
  symbols = [];
  room = anywhere;
}

-- the symbols of locals and a body, whose tokens are listed from the last on, and their room
unfoldable pub end_of : Context → List NamedInitialiser → Tokens → Option (List Symbol × Room)
end_of x ls ts = do
  p ← past_return ts
  r ← parts_read (part_count ts ls) (unread x ls p)
  when_done r

-- ---- as the code has them
abbrev pub part_of : PartOfCode → LinePart
part_of (code.Show s) = shown (symbol_of s)
part_of (code.Sum h) = sum_at h
part_of (code.Term h) = term_at h
part_of (code.Arguments ts) = arguments ts.now
part_of (code.Initialiser h) = initialiser_at h
part_of (code.InitialTerm h) = initial_term_at h

abbrev pub parts_of : List PartOfCode → List LinePart
parts_of ps = map part_of ps

-- locals with their names as texts
abbrev pub locals_of : List (Bor (List ℕ) × ℕ) → List NamedInitialiser
locals_of ls = map (λ l. (l.0.now, l.1)) ls

abbrev pub context_of : BodyReader → Context
context_of r = record { expressions = expression_values r.expressions.now; names = r.names.now; items = r.items.now }

abbrev pub reading_of : BodyReader → LineReading
reading_of r = record {
  context = context_of r;
  parts = reverse (parts_of r.parts.items);
  tokens = r.tokens.now;
  met = r.met.items;
  parameters_met = r.parameters_met.items;
  symbols = reverse (line_of r.symbols.items);
  room = r.room;
}
