-- What nodes make: the state, and the steps that every node's step is made of.
use Rattle.std.specs.Prelude.{◌≡◌, ℕ, ◌-◌, Bool, true, false, ◌&&◌, not, ◌==◌, nat_eq, if◌then◌else◌, List, [], ◌∷◌, ◌++◌, length, take, drop, map, slice_get, slice_index_or, Option, Some, None, option_and_then, Result, Ok, Err, String, string_bytes}
use Rattle.std.specs.List.{list_any}
use Rattle.std.specs.Global.{Global}
use Rattle.std.specs.Str.Lossy.{utf8_lossy}
use Rattle.indexmap.specs.IndexMap.{insert_entry}
use Rattle.naga_oil_ir.specs.Body.{Tokens, block_tokens}
use Rattle.naga_oil_ir.specs.Kinds.{emit_head}
use Rattle.naga_oil_ir.specs.ModuleValue.{LocalValue, local_values, expression_values}
use Rattle.naga_oil_ir.specs.Parts.{Parts, parts}
use Rattle.naga_oil_ir.specs.Rows.{Row, type_row, override_row}
use Rattle.naga_oil_ir.specs.declared.expression.Expression.TheVariants as expression
use Rattle.naga_oil_ir.specs.declared.span.Span.{Span}
use Rattle.naga_oil_ir.specs.declared.tokens.Token.TheVariants.{At, Head, Emitted}
use Rattle.naga_oil_ir.specs.declared.types.Override.{Override}
use Rattle.naga_oil_ir.specs.declared.types.Type.{«Type» as ModuleType}
use Rattle.yettuvam_wgsl_words.specs.Class.{Text}
use Rattle.yettuvam_wgsl_words.specs.declared.token.Span.{Span as SpanOfText}
use Rattle.yettuvam_wgsl_machine.specs.Machine.{Node}
use Rattle.yettuvam_wgsl_scope.specs.Items.{Name, name_view, name_of, no_name}
use Rattle.yettuvam_wgsl_scope.specs.Refused.{Outcome, ◌>>=◌, done, fault}
use Rattle.yettuvam_wgsl_scope.specs.declared.names.Binding.{Binding}
use Rattle.yettuvam_wgsl_scope.specs.declared.names.Binding.TheVariants as bound_to
use Rattle.yettuvam_wgsl_scope.specs.declared.refusal.Reason.TheVariants as reason
use Rattle.yettuvam_wgsl_scope.specs.declared.refusal.Refusal.{Refusal}
use Rattle.yettuvam_wgsl_scope.specs.declared.refusal.Refusal.TheVariants as refusal
use Rattle.yettuvam_wgsl_shape.specs.declared.number.Number.{Number}
use Rattle.yettuvam_wgsl_types.specs.Types as types
use Rattle.yettuvam_wgsl_types.specs.declared.shape.Shape.{Shape}
use Rattle.yettuvam_wgsl_values.specs.Blocks.{list_tokens, lists_tokens, last_tokens, front}
use Rattle.yettuvam_wgsl_values.specs.Value.{What, Place, Pointer, Plain, Literal, Constant, Override as OverrideAt, Callee, TypeAt, Word, Absent, Value, values_view, shaped, bare, handle_of}
use Rattle.yettuvam_wgsl_values.specs.declared.value.Arm.{Arm}
use Rattle.yettuvam_wgsl_values.specs.declared.value.Call.{Call}
use Rattle.yettuvam_wgsl_values.specs.declared.value.Meaning.{Meaning}
use Rattle.yettuvam_wgsl_values.specs.declared.value.Meaning.TheVariants as means
use Rattle.yettuvam_wgsl_values.specs.declared.body.Inside.{Inside}
use Rattle.yettuvam_wgsl_values.specs.declared.body.Body.{Body}

-- ---- the state

pub record State : Type 0 where
  pub types : types.State
  pub overrides : List (Row × Span)
  -- the place of each item in the order of lowering, and what the items so far mean
  pub ranks : List ℕ
  pub items : List Meaning
  -- what the declarations of the function mean
  pub known : List Meaning
  -- the name of what is being declared
  pub declared : Name
  pub locals : List (LocalValue × Span)
  pub expressions : List (Parts × Span)
  -- the expressions of the module, while a function is read
  pub globals : List (Parts × Span)
  pub named : List (ℕ × Text)
  -- whether no function is read
  pub is_global : Bool
  -- the first expression that isn't emitted
  pub from : ℕ
  pub values : List Value
  -- the calls and lists of template arguments that are open
  pub calls : List Call
  -- the number of things so far whose order matters, and that number at the start of each `&&` and `||` that is open
  pub effects : ℕ
  pub circuits : List ℕ
  -- the selectors of the switches that are open, and their number at the start of each
  pub arms : List Arm
  pub switches : List ℕ
  -- the statements of the innermost block, of those around it, and of blocks that stand in no statement yet
  pub body : Tokens
  pub outer : List Tokens
  pub whole : List Tokens

abbrev pub type_rows : List (ModuleType × Span) → List (Row × Span)
type_rows ts = map (λ t. (type_row t.0, t.1)) ts

abbrev pub override_rows : List (Override × Span) → List (Row × Span)
override_rows os = map (λ o. (override_row o.0, o.1)) os

abbrev pub named_view : List (ℕ × String Global) → List (ℕ × Text)
named_view es = map (λ e. (e.0, string_bytes e.1)) es

abbrev pub state_of : Body → State
state_of b = record {
  types = types.state_of b.types;
  overrides = override_rows b.overrides;
  ranks = b.ranks.items;
  items = b.items.items;
  known = b.known.items;
  declared = name_view b.declared;
  locals = local_values b.locals;
  expressions = expression_values b.expressions;
  globals = expression_values b.globals;
  named = named_view b.named.entries;
  is_global = b.is_global;
  from = b.from;
  values = values_view b.values.items;
  calls = b.calls.items;
  effects = b.effects;
  circuits = b.circuits.items;
  arms = b.arms.items;
  switches = b.switches.items;
  body = list_tokens b.body;
  outer = lists_tokens b.outer.items;
  whole = lists_tokens b.whole.items;
}

-- the state before the first item
abbrev pub begin : (ranks : List ℕ) → State
begin ranks = record {
  types = types.none;
  overrides = [];
  ranks = ranks;
  items = [];
  known = [];
  declared = no_name;
  locals = [];
  expressions = [];
  globals = [];
  named = [];
  is_global = true;
  from = 0;
  values = [];
  calls = [];
  effects = 0;
  circuits = [];
  arms = [];
  switches = [];
  body = [];
  outer = [];
  whole = [];
}

abbrev pub Done : Type 0
Done = Outcome State (Unit {0})

-- what a step ensures whose value is seen by view: its outcome, unless memory ran out
abbrev pub ReadsAs : {X A : Type 0} → (X → A) → Outcome State A → Result X Refusal → State → Type 0
ReadsAs view outcome (Ok x) new = outcome ≡ Ok (view x, new)
ReadsAs view outcome (Err (refusal.Fault f)) new = outcome ≡ Err f
ReadsAs view outcome (Err refusal.Memory) new = Unit {0}

abbrev pub with_types : {A : Type 0} → A × types.State → State → Outcome State A
with_types p s = Ok (p.0, record s { types = p.1 })

-- a step of the types
abbrev pub in_types : {A : Type 0} → (types.State → A × types.State) → State → Outcome State A
in_types step s = with_types (step s.types) s

abbrev pub span_of : SpanOfText → Span
span_of s = record { start = s.start; end = s.end }

-- ---- expressions and statements

-- the kinds of expressions that may stand outside of functions: literals, zeros, constants and overrides; composed values,
-- their parts and swizzles; unary and binary operations and choices; tests, mathematics and conversions
abbrev pub global_kinds : List ℕ
global_kinds = 0 ∷ 1 ∷ 2 ∷ 3 ∷ 13 ∷ 14 ∷ 15 ∷ 17 ∷ 22 ∷ 23 ∷ 24 ∷ 26 ∷ 27 ∷ 28 ∷ []

abbrev pub may_be_global : Parts → Bool
may_be_global p = list_any (nat_eq p.kind) global_kinds

abbrev pub is_misplaced : Parts → State → Bool
is_misplaced p s = s.is_global && not (may_be_global p)

abbrev pub emitted : Span → State → State
emitted at s = record s { body = s.body ++ At at ∷ Head emit_head ∷ Emitted (s.from, length s.expressions) ∷ []; from = length s.expressions }

-- what isn't emitted is emitted
unfoldable pub flush : SpanOfText → State → Done
flush at s = if s.from == length s.expressions then done s else done (emitted (span_of at) s)

-- a statement, after what was computed before it
unfoldable pub state : Tokens → SpanOfText → State → Done
state statement at s =
    if s.is_global then Err (fault reason.NoConstant at)
    else flush at s >>= (λ _ t. done (record t { body = t.body ++ At (span_of at) ∷ statement }))

-- an expression that is emitted later
unfoldable pub compute : Parts → SpanOfText → State → Outcome State ℕ
compute p at s =
    if is_misplaced p s then Err (fault reason.NoConstant at)
    else Ok (length s.expressions, record s { expressions = s.expressions ++ (p, span_of at) ∷ [] })

-- no expression so far waits to be emitted
abbrev pub nothing_waits : State → State
nothing_waits s = record s { from = length s.expressions }

-- an expression that is never emitted: what is before it is
unfoldable pub put : Parts → SpanOfText → State → Outcome State ℕ
put p at s = flush at s >>= (λ _ t. compute p at t >>= (λ place u. Ok (place, nothing_waits u)))

-- ---- values

unfoldable pub give : Value → State → Done
give v s = done (record s { values = s.values ++ v ∷ [] })

abbrev pub last_value : List Value → Value
last_value vs = slice_index_or vs (length vs - 1) (bare Absent)

unfoldable pub take_value : Node → State → Outcome State Value
take_value node s = if length s.values == 0 then Err (fault reason.Broken node.span) else Ok (last_value s.values, record s { values = front s.values })

-- the values after the first `count`, which are taken
unfoldable pub arguments : (count : ℕ) → State → Outcome State (List Value)
arguments count s = Ok (drop count s.values, record s { values = take count s.values })

-- a value that is now an expression, which is never emitted
unfoldable pub put_for : Parts → Value → Node → State → Outcome State Value
put_for p v node s = put p node.span s >>= (λ place t. Ok (record v { what = Plain place }, t))

unfoldable pub load : (pointer : ℕ) → Shape → Node → State → Outcome State Value
load pointer shape node s = compute (parts (expression.Load pointer)) node.span s >>= (λ place t. Ok (shaped (Plain place) shape, t))

abbrev pub settle_by : What → Value → Node → State → Outcome State Value
settle_by (Place pointer) v node s = load pointer v.shape node s
settle_by (Pointer place) v node s = Ok (v, s)
settle_by (Plain place) v node s = Ok (v, s)
settle_by (Literal kind bits) v node s = put_for (parts (expression.Literal kind bits)) v node s
settle_by (Constant place) v node s = put_for (parts (expression.Constant place)) v node s
settle_by (OverrideAt place) v node s = put_for (parts (expression.Override place)) v node s
settle_by (Word name) v node s = Err (fault reason.UnknownName name.span)
settle_by _ v node s = Err (fault reason.NoValue node.span)

-- the value as an expression: a place is read, a literal put
unfoldable pub settle : Value → Node → State → Outcome State Value
settle v node s = settle_by v.what v node s

-- the last value, read
unfoldable pub settled : Node → State → Outcome State Value
settled node s = take_value node s >>= (λ v. settle v node)

-- the expression of the last value, read
unfoldable pub operand : Node → State → Outcome State ℕ
operand node s = settled node s >>= (λ v t. Ok (handle_of v, t))

-- reads the last value where it stands
unfoldable pub left : Node → State → Done
left node s = settled node s >>= give

-- ---- names

abbrev pub number_value : What → Shape → Option Number → Value
number_value what shape number = record { what = what; shape = shape; number = number }

-- a place in memory
unfoldable pub put_place : Parts → Shape → Node → State → Done
put_place p shape node s = put p node.span s >>= (λ place. give (shaped (Place place) shape))

-- a value, and a pointer, that is no place in memory
unfoldable pub put_plain : Parts → Shape → Node → State → Done
put_plain p shape node s = put p node.span s >>= (λ place. give (shaped (Plain place) shape))

unfoldable pub put_pointer : Parts → Shape → Node → State → Done
put_pointer p shape node s = put p node.span s >>= (λ place. give (shaped (Pointer place) shape))

-- what a name gives, by what it means
abbrev pub meaning : Meaning → Node → State → Done
meaning (means.Value place shape number) node s = give (number_value (Plain place) shape number) s
meaning (means.Pointer place shape) node s = give (shaped (Pointer place) shape) s
meaning (means.Variable local shape) node s = put_place (parts (expression.LocalVariable local)) shape node s
meaning (means.Argument number shape) node s = put_plain (parts (expression.FunctionArgument number)) shape node s
meaning (means.PointerArgument number shape) node s = put_pointer (parts (expression.FunctionArgument number)) shape node s
meaning (means.Constant constant shape number) node s = give (number_value (Constant constant) shape number) s
meaning (means.Override place) node s = give (bare (OverrideAt place)) s
meaning (means.Global global shape) node s = put_place (parts (expression.GlobalVariable global)) shape node s
meaning (means.Handle global shape) node s = put_plain (parts (expression.GlobalVariable global)) shape node s
meaning (means.Function function returns) node s = give (bare (Callee function returns)) s
meaning means.Entry node s = Err (fault reason.NoFunction node.span)
meaning (means.«Type» place) node s = give (bare (TypeAt place)) s

-- what an item means, which the ranks find among the items so far
abbrev pub item_meaning : ℕ → State → Option Meaning
item_meaning item s = option_and_then (slice_get s.items) (slice_get s.ranks item)

abbrev pub declared_meaning : Binding → State → Option Meaning
declared_meaning (bound_to.Item item) s = item_meaning item s
declared_meaning (bound_to.Local number) s = slice_get s.known number
declared_meaning _ s = None

abbrev pub meant : Option Meaning → Node → State → Done
meant None node s = Err (fault reason.Broken node.span)
meant (Some m) node s = meaning m node s

abbrev pub name_by : Binding → Node → State → Done
name_by bound_to.Word node s = give (bare (Word (name_of node))) s
name_by binding node s = meant (declared_meaning binding s) node s

-- a name, by what it means
unfoldable pub name : Node → Binding → State → Done
name node binding s = name_by binding node s

abbrev pub declare : Node → State → State
declare node s = record s { declared = name_of node }

-- what the next declaration of the function means
unfoldable pub know : Meaning → State → Done
know m s = done (record s { known = s.known ++ m ∷ [] })

-- what the next item means
unfoldable pub know_item : Meaning → State → Done
know_item m s = done (record s { items = s.items ++ m ∷ [] })

-- the name of what is declared
abbrev pub declared_name : State → Text
declared_name s = utf8_lossy s.declared.text

-- names an expression
unfoldable pub name_expression : (place : ℕ) → State → Done
name_expression place s = done (record s { named = insert_entry nat_eq s.named place (declared_name s) })

-- ---- blocks

-- a block begins
unfoldable pub open_ : Node → State → Done
open_ node s = flush node.span s >>= (λ _ t. done (record t { outer = t.outer ++ t.body ∷ []; body = [] }))

-- a block ends; its statements stand in no statement yet
unfoldable pub close : Node → State → Done
close node s = flush node.span s >>= (λ _ t. done (record t { whole = t.whole ++ t.body ∷ []; body = last_tokens t.outer; outer = front t.outer }))

-- the last block that stands in no statement, which is taken
abbrev pub block : State → Tokens
block s = last_tokens s.whole

abbrev pub without_block : State → State
without_block s = record s { whole = front s.whole }

-- the statements of the innermost block follow those of the block around it
unfoldable pub unfold_ : Node → State → Done
unfold_ node s = flush node.span s >>= (λ _ t. done (record t { body = last_tokens t.outer ++ t.body; outer = front t.outer }))

-- ---- functions

-- a function begins
abbrev pub enter : State → State
enter s = record s { globals = s.expressions; expressions = []; from = 0; is_global = false }

-- what is computed outside of functions is emitted nowhere
abbrev pub settle_global : State → State
settle_global s = record s { from = length s.expressions; body = []; values = [] }

-- what stands in a function
pub record InsideValue : Type 0 where
  pub locals : List (LocalValue × Span)
  pub expressions : List (Parts × Span)
  pub named : List (ℕ × Text)
  pub body : Tokens

abbrev pub inside_view : Inside → InsideValue
inside_view i = record { locals = local_values i.locals; expressions = expression_values i.expressions; named = named_view i.named.entries; body = block_tokens i.body }

abbrev pub inside : State → InsideValue
inside s = record { locals = s.locals; expressions = s.expressions; named = s.named; body = block s }

-- the state after a function
abbrev pub leave : State → State
leave s = settle_global (record (without_block s) { known = []; locals = []; expressions = s.globals; globals = []; named = []; is_global = true })

-- ---- what a module takes out at its end

abbrev pub without_types : State → State
without_types s = record s { types = record s.types { types = [] } }

abbrev pub without_overrides : State → State
without_overrides s = record s { overrides = [] }

abbrev pub without_expressions : State → State
without_expressions s = record s { expressions = [] }
