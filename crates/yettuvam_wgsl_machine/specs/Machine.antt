-- How a table reads tokens.
use Rattle.std.specs.Prelude.{◌≡◌, ℕ, zero, suc, ◌+◌, ◌-◌, Bool, true, false, ◌==◌, nat_lt, if◌then◌else◌, List, [], ◌∷◌, ◌++◌, length, map, take, drop, slice_index_or, Option, Some, None, Result, Ok, Err}
use denote.Enum.Bare.{sameb}
use Rattle.yettuvam_wgsl_words.specs.declared.token.Kind.{Kind}
use Rattle.yettuvam_wgsl_words.specs.declared.token.Kind.TheVariants.{End}
use Rattle.yettuvam_wgsl_words.specs.declared.token.Span.{Span}
use Rattle.yettuvam_wgsl_words.specs.Class.{Text}
use Rattle.yettuvam_wgsl_words.specs.Scan.{Token, token_view, view, same_kind}
use Rattle.yettuvam_wgsl_machine.specs.declared.refusal.Fault.{Fault}
use Rattle.yettuvam_wgsl_machine.specs.declared.refusal.Reason.{Reason}
use Rattle.yettuvam_wgsl_machine.specs.declared.refusal.Reason.TheVariants as reason
use Rattle.yettuvam_wgsl_machine.specs.declared.refusal.Refusal.{Refusal}
use Rattle.yettuvam_wgsl_machine.specs.declared.refusal.Refusal.TheVariants as refusal
use Rattle.yettuvam_wgsl_machine.specs.contracts.symbol.Rule.{the_type}
use Rattle.yettuvam_wgsl_machine.specs.declared.symbol.Rule.{Rule}
use Rattle.yettuvam_wgsl_machine.specs.declared.symbol.Form.{Form}
use Rattle.yettuvam_wgsl_machine.specs.declared.symbol.Symbol.{Symbol}
use Rattle.yettuvam_wgsl_machine.specs.declared.symbol.Symbol.TheVariants as symbol_is
use Rattle.yettuvam_wgsl_machine.specs.declared.symbol.Node.{Node as NodeOfCode}
use Rattle.yettuvam_wgsl_machine.specs.declared.machine.Machine.{Machine}
use Rattle.yettuvam_wgsl_machine.specs.declared.machine.TheConstants.{MAX_BLOCKS, MAX_POSTPONED}
use Rattle.yettuvam_wgsl_machine.specs.Rules.{rule_number}

-- ---- nodes

-- A node, with the place and the text of the token before which it was made.
pub record Node : Type 0 where
  pub form : Form
  pub span : Span
  pub text : Text

abbrev pub node_view : NodeOfCode → Node
node_view node = record { form = node.form; span = node.span; text = node.text.now }

abbrev pub nodes_view : List NodeOfCode → List Node
nodes_view nodes = map node_view nodes

-- ---- the table

-- for a rule, where the next token is the one named, which is taken, or any: what is wanted then
abbrev pub Row : Type 0
Row = Rule × Option Kind × List Symbol

-- Rows, with the place of the first row of each rule.
pub record Table : Type 0 where
  pub rows : List Row
  pub places : List ℕ

abbrev pub table : List Row → (places : List ℕ) → Table
table rows places = record { rows = rows; places = places }

abbrev pub same_rule : Rule → Rule → Bool
same_rule a b = sameb the_type a b

abbrev pub fits : Option Kind → Kind → Bool
fits None kind = true
fits (Some wanted) kind = same_kind wanted kind

-- the first row of a rule that fits a token, if rows of the rule are at the front
abbrev pub first_fit : List Row → Rule → Kind → Option Row
first_fit [] rule kind = None
first_fit (row ∷ rows) rule kind = if same_rule row.0 rule then (if fits row.1 kind then Some row else first_fit rows rule kind) else None

-- the place of the first row of a rule
abbrev pub place_of : (places : List ℕ) → Rule → ℕ
place_of places rule = slice_index_or places (rule_number rule) 0

-- the row of a rule that fits a token
abbrev pub find : Table → Rule → Kind → Option Row
find table rule kind = first_fit (drop (place_of table.places rule) table.rows) rule kind

abbrev pub is_some : {X : Type 0} → Option X → Bool
is_some None = false
is_some (Some _) = true

-- ---- the state

pub record State : Type 0 where
  pub rest : List Token
  pub last : Token
  pub wanted : List Symbol
  -- what is wanted after that, the first at the end
  pub postponed : List (List Symbol)
  -- the number of open blocks
  pub blocks : ℕ
  pub nodes : List Node

abbrev pub state_of : Machine → State
state_of m = record { rest = view m.rest.now; last = token_view m.last; wanted = m.wanted.now; postponed = map (λ s. s.now) m.postponed.items; blocks = m.blocks; nodes = nodes_view m.nodes.items }

abbrev pub no_token : Token
no_token = record { kind = End; span = record { start = 0; end = 0 }; text = [] }

abbrev pub next : List Token → Token
next [] = no_token
next (token ∷ rest) = token

abbrev pub after : List Token → List Token
after [] = []
after (token ∷ rest) = rest

-- ---- steps

abbrev pub Outcome : Type 0 → Type 0
Outcome A = Result (A × State) Fault

infixl 10 ◌>>=◌
abbrev pub ◌>>=◌ : {A B : Type 0} → Outcome A → (A → State → Outcome B) → Outcome B
(Ok p) >>= f = f p.0 p.1
(Err fault) >>= f = Err fault

abbrev pub fault_at : Reason → State → Fault
fault_at why s = record { reason = why; span = (next s.rest).span }

abbrev pub refused : Reason → State → Refusal
refused why s = refusal.Fault (fault_at why s)

abbrev pub shift : State → State
shift s = record s { rest = after s.rest; last = next s.rest }

unfoldable pub token : Kind → State → Outcome (Unit {0})
token kind s = if same_kind (next s.rest).kind kind then Ok (tt, shift s) else Err (fault_at (reason.Wanted kind) s)

unfoldable pub node : Form → State → Outcome (Unit {0})
node form s = Ok (tt, record s { nodes = s.nodes ++ (record { form = form; span = s.last.span; text = s.last.text }) ∷ [] })

unfoldable pub enter : State → Outcome (Unit {0})
enter s = if nat_lt s.blocks MAX_BLOCKS then Ok (tt, record s { blocks = s.blocks + 1 }) else Err (fault_at reason.DeepBlocks s)

abbrev pub left : State → State
left s = record s { blocks = s.blocks - 1 }

-- what is wanted waits, if anything is
unfoldable pub postpone : State → Outcome (Unit {0})
postpone s =
    if length s.wanted == 0 then Ok (tt, s)
    else (if nat_lt (length s.postponed) MAX_POSTPONED then Ok (tt, record s { postponed = s.postponed ++ s.wanted ∷ [] })
    else Err (fault_at reason.DeepParts s))

abbrev pub taken : Bool → State → State
taken is_taken s = if is_taken then shift s else s

abbrev pub with_wanted : List Symbol → State → State
with_wanted symbols s = record s { wanted = symbols }

-- goes on with a row: takes its token, if it names one, and wants its symbols
abbrev pub go_on : Rule → Option Row → State → Outcome (Unit {0})
go_on rule None s = Err (fault_at (reason.Unexpected rule) s)
go_on rule (Some row) s = postpone s >>= (λ _ t. Ok (tt, with_wanted row.2 (taken (is_some row.1) t)))

unfoldable pub rule : Table → Rule → State → Outcome (Unit {0})
rule table r s = go_on r (find table r (next s.rest).kind) s

unfoldable pub symbol : Table → Symbol → State → Outcome (Unit {0})
symbol table (symbol_is.Token kind) s = token kind s
symbol table (symbol_is.Rule r) s = rule table r s
symbol table (symbol_is.Node form) s = node form s
symbol table symbol_is.Enter s = enter s
symbol table symbol_is.Leave s = Ok (tt, left s)

abbrev pub is_some_list : {X : Type 0} → List X → Bool
is_some_list [] = false
is_some_list (x ∷ xs) = true

abbrev pub is_postponed : State → Bool
is_postponed s = is_some_list s.postponed

-- what was postponed last is wanted again
unfoldable pub resumed : State → State
resumed s = if is_postponed s then record s { wanted = slice_index_or s.postponed (length s.postponed - 1) []; postponed = take (length s.postponed - 1) s.postponed } else s

abbrev pub first_step : Table → List Symbol → State → Outcome Bool
first_step table [] s = Ok (is_postponed s, resumed s)
first_step table (first ∷ more) s = symbol table first (with_wanted more s) >>= (λ _ t. Ok (true, t))

-- one step, and whether there was anything to do
unfoldable pub step : Table → State → Outcome Bool
step table s = first_step table s.wanted s

-- ---- a whole run

abbrev pub turn : (State → Result (List Node) Fault) → Outcome Bool → Result (List Node) Fault
turn go (Ok p) = if p.0 then go p.1 else Ok p.1.nodes
turn go (Err fault) = Err fault

unfoldable pub run : Table → (turns : ℕ) → State → Result (List Node) Fault
run table zero s = Err (fault_at reason.Endless s)
run table (suc turns) s = turn (run table turns) (step table s)

abbrev pub start : List Token → List Symbol → State
start tokens wanted = record { rest = tokens; last = no_token; wanted = wanted; postponed = []; blocks = 0; nodes = [] }

-- What a step ensures: its outcome, unless memory ran out.
abbrev pub Reads : {A : Type 0} → Outcome A → Result A Refusal → State → Type 0
Reads outcome (Ok a) new = outcome ≡ Ok (a, new)
Reads outcome (Err (refusal.Fault fault)) new = outcome ≡ Err fault
Reads outcome (Err refusal.Memory) new = Unit {0}

-- What a function returned, seen by view, is the value or the fault, unless memory ran out.
abbrev pub Gives : {X Y : Type 0} → (X → Y) → Result X Refusal → Result Y Fault → Type 0
Gives view (Ok x) expected = expected ≡ Ok (view x)
Gives view (Err (refusal.Fault fault)) expected = expected ≡ Err fault
Gives view (Err refusal.Memory) expected = Unit {0}
