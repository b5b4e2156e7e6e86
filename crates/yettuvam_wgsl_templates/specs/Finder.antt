-- Which `<` and `>` are brackets of template arguments: the discovery of template lists.
use Rattle.std.specs.Prelude.{◌≡◌, ℕ, ◌+◌, ◌-◌, min, Bool, true, false, if◌then◌else◌, nat_lt, List, [], ◌∷◌, ◌++◌, length, take, slice_index_or, slice_set, Result, Ok, Err}
use Rattle.yettuvam_wgsl_words.specs.declared.token.Kind.{Kind}
use Rattle.yettuvam_wgsl_words.specs.declared.token.Kind.TheVariants as k
use Rattle.yettuvam_wgsl_words.specs.declared.refusal.Fault.{Fault}
use Rattle.yettuvam_wgsl_words.specs.declared.refusal.Refusal.{Refusal}
use Rattle.yettuvam_wgsl_words.specs.declared.refusal.Refusal.TheVariants as refusal
use Rattle.yettuvam_wgsl_words.specs.Class.{after_byte, before}
use Rattle.yettuvam_wgsl_words.specs.Scan.{Token, view}
use Rattle.yettuvam_wgsl_templates.specs.declared.finder.Finder.{Finder}

pub record State : Type 0 where
  pub done : List Token
  -- the places of each `<` that may open a list, the innermost last
  pub pending : List ℕ
  -- for each bracket around the innermost open one, the number of `<` that were pending before it
  pub bases : List ℕ
  -- the number of `<` that were pending before the innermost open bracket
  pub base : ℕ
  pub is_after_name : Bool

abbrev pub state_of : Finder → State
state_of f = record { done = view f.done.items; pending = f.pending.items; bases = f.bases.items; base = f.base; is_after_name = f.is_after_name }

abbrev pub start : State
start = record { done = []; pending = []; bases = []; base = 0; is_after_name = false }

abbrev pub last : List ℕ → ℕ
last xs = slice_index_or xs (length xs - 1) 0

abbrev pub front : List ℕ → List ℕ
front xs = take (length xs - 1) xs

abbrev pub no_token : Token
no_token = record { kind = k.End; span = record { start = 0; end = 0 }; text = [] }

abbrev pub opened : Token → Token
opened token = record { kind = k.TemplateOpen; span = token.span; text = token.text }

-- the token at a place opens a list
abbrev pub marked : ℕ → List Token → List Token
marked place tokens = if nat_lt place (length tokens) then slice_set tokens place (opened (slice_index_or tokens place no_token)) else tokens

-- the place after another, of those that a span can have
abbrev pub next_place : ℕ → ℕ
next_place place = min (place + 1) 4294967295

-- the first byte of a token, as the closing of a list
abbrev pub bracket : Token → Token
bracket token = record { kind = k.TemplateClose; span = record { start = token.span.start; end = next_place token.span.start }; text = before token.text (after_byte token.text) }

-- a token without its first byte
abbrev pub after : Token → Kind → Token
after token kind = record { kind = kind; span = record { start = next_place token.span.start; end = token.span.end }; text = after_byte token.text }

-- a list may follow
abbrev pub may_be_followed : Kind → Bool
may_be_followed k.Name = true
may_be_followed k.Var = true
may_be_followed _ = false

-- ---- steps

abbrev pub Outcome : Type 0
Outcome = Result (Unit {0} × State) Fault

abbrev pub Step : Type 0
Step = State → Outcome

infixl 10 ◌>>◌
abbrev pub ◌>>◌ : Outcome → Step → Outcome
(Ok p) >> f = f p.1
(Err e) >> f = Err e

abbrev pub keep : Token → Step
keep token s = Ok (tt, record s { done = s.done ++ token ∷ [] })

abbrev pub is_open : State → Bool
is_open s = nat_lt s.base (length s.pending)

abbrev pub mark_last : State → State
mark_last s = record s { pending = front s.pending; done = marked (last s.pending) s.done }

abbrev pub cleared : State → State
cleared s = record s { pending = []; bases = []; base = 0 }

unfoldable pub close : Token → Step
close token s = keep (bracket token) (mark_last s)

unfoldable pub greater : Token → Step
greater token s = if is_open s then close token s else keep token s

unfoldable pub greater_equal : Token → Step
greater_equal token s = if is_open s then close token s >> (λ t. keep (after token k.Equal) (cleared t)) else keep token s

unfoldable pub shift_right : Token → Step
shift_right token s = if is_open s then close token s >> greater (after token k.Greater) else keep token s

unfoldable pub shift_right_equal : Token → Step
shift_right_equal token s = if is_open s then close token s >> greater_equal (after token k.GreaterEqual) else keep token (cleared s)

unfoldable pub less : Token → Step
less token s = keep token (if s.is_after_name then record s { pending = s.pending ++ length s.done ∷ [] } else s)

unfoldable pub opening : Token → Step
opening token s = keep token (record s { bases = s.bases ++ s.base ∷ []; base = length s.pending })

unfoldable pub closing : Token → Step
closing token s = keep token (record s { pending = take s.base s.pending; base = last s.bases; bases = front s.bases })

unfoldable pub logic : Token → Step
logic token s = keep token (record s { pending = take s.base s.pending })

unfoldable pub ending : Token → Step
ending token s = keep token (cleared s)

abbrev pub act_by : Kind → Token → Step
act_by k.Less = less
act_by k.Greater = greater
act_by k.GreaterEqual = greater_equal
act_by k.ShiftRight = shift_right
act_by k.ShiftRightEqual = shift_right_equal
act_by k.OpenParenthesis = opening
act_by k.OpenBracket = opening
act_by k.CloseParenthesis = closing
act_by k.CloseBracket = closing
act_by k.AndAnd = logic
act_by k.OrOr = logic
act_by k.Equal = ending
act_by k.Semicolon = ending
act_by k.Colon = ending
act_by k.OpenBrace = ending
act_by _ = keep

unfoldable pub act : Token → Step
act token = act_by token.kind token

unfoldable pub step : Token → Step
step token s = act token s >> (λ t. Ok (tt, record t { is_after_name = may_be_followed token.kind }))

abbrev pub and_then : Outcome → (State → Result (List Token) Fault) → Result (List Token) Fault
and_then (Ok p) go = go p.1
and_then (Err e) go = Err e

unfoldable pub run : List Token → State → Result (List Token) Fault
run [] s = Ok s.done
run (token ∷ more) s = and_then (step token s) (run more)

-- the tokens with their brackets marked
unfoldable pub with_templates : List Token → Result (List Token) Fault
with_templates tokens = run tokens start

-- What a step ensures: its outcome, unless memory ran out.
abbrev pub Reads : Outcome → Result (Unit {0}) Refusal → State → Type 0
Reads outcome (Ok a) new = outcome ≡ Ok (a, new)
Reads outcome (Err (refusal.Fault fault)) new = outcome ≡ Err fault
Reads outcome (Err refusal.Memory) new = Unit {0}
