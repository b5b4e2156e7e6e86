-- Which bodies may stand: the expressions that their statements use, emit and give.
use Rattle.std.specs.List.{flat_map}
use Rattle.std.specs.Prelude.{option_to_list, length, ◌≡◌, ◌<◌, ◌≤◌, ◌-◌, ℕ, zero, suc, Bool, true, false, List, [], ◌∷◌, ◌++◌, map, slice_get, slice_set, Option, Some, None, All, nat_lt, ◌||◌, ◌&&◌}
use Rattle.naga_oil_ir.specs.Kinds.{last_external_kind, first_result_kind, first_operation_kind}
use Rattle.naga_oil_ir.specs.Parts.{parts}
use Rattle.naga_oil_ir.specs.Body.{Tokens}
use Rattle.naga_oil_form.specs.Links.{Links, lists, linked, has, is_marked, started, AreEarlier}
use Rattle.naga_oil_form.specs.declared.form.ExpressionParts.{ExpressionParts}
use Rattle.naga_oil_ir.specs.declared.parts.Named.{Named}
use Rattle.naga_oil_ir.specs.declared.parts.Named.TheVariants.{Nothing, TypeOf, ConstantAt, OverrideAt, GlobalAt, LocalAt, ArgumentAt, FunctionAt}
use Rattle.naga_oil_ir.specs.declared.expression.Expression.{Expression}
use Rattle.naga_oil_ir.specs.declared.span.Span.{Span}
use Rattle.naga_oil_ir.specs.declared.tokens.Token.{Token}
use Rattle.naga_oil_ir.specs.declared.tokens.Token.TheVariants.{At, Use, Give, GiveCall, Emitted, Callee}

-- ---- facts about a function's expressions

-- the kinds of expressions
abbrev pub kinds : List (Expression × Span) → List ℕ
kinds es = map (λ e. (parts e.0).kind) es

-- the called function, if the name is that of a function
abbrev pub callee : Named → Option ℕ
callee Nothing = None
callee (TypeOf h) = None
callee (ConstantAt h) = None
callee (OverrideAt h) = None
callee (GlobalAt h) = None
callee (LocalAt h) = None
callee (ArgumentAt n) = None
callee (FunctionAt h) = Some h

-- for each expression the item that it names
abbrev pub named_of : List (Expression × Span) → List Named
named_of es = map (λ e. (parts e.0).named) es

-- for each expression the function whose result it is
abbrev pub callees : List (Expression × Span) → List (Option ℕ)
callees es = map callee (named_of es)

-- for each expression its operands that are present
abbrev pub operand_links : List (Expression × Span) → Links
operand_links es = map (λ e. flat_map option_to_list (parts e.0).operands) es

-- an expression of this kind is external
abbrev pub external_kind : Option ℕ → Bool
external_kind None = false
external_kind (Some k) = nat_lt k first_result_kind

abbrev pub is_external : List ℕ → ℕ → Bool
is_external ks h = external_kind (slice_get ks h)

-- an expression of this kind is a result
abbrev pub result_kind : Option ℕ → Bool
result_kind None = false
result_kind (Some k) = nat_lt last_external_kind k && nat_lt k first_operation_kind

abbrev pub is_result : List ℕ → ℕ → Bool
is_result ks h = result_kind (slice_get ks h)

-- ---- ranges

-- the n numbers from a on
abbrev pub run : ℕ → ℕ → List ℕ
run a zero = []
run a (suc n) = a ∷ run (suc a) n

-- the places of a range
abbrev pub places : ℕ × ℕ → List ℕ
places r = run r.0 (r.1 - r.0)

-- ---- the walk over a body: s are the places that initialisers reach, done those that were emitted or given

-- an operand may be used
abbrev pub is_known : List ℕ → List ℕ → List ℕ → ℕ → Bool
is_known ks s done h = is_external ks h || (has s h || has done h)

-- places may be emitted one after the other
abbrev pub AreEmitted : List ℕ → Links → List ℕ → List ℕ → List ℕ → Type 0
AreEmitted ks ls s done [] = Unit {0}
AreEmitted ks ls s done (k ∷ es) = ((is_external ks k ≡ false) × (is_result ks k ≡ false) × (has done k ≡ false) × All (λ h. is_known ks s done h ≡ true) (linked ls k)) × AreEmitted ks ls s (done ++ k ∷ []) es

-- the places that a part of a body emits or gives
abbrev pub made : Token → List ℕ
made (Give h) = h ∷ []
made (GiveCall f h) = h ∷ []
made (Emitted r) = places r
made _ = []

-- a result, one of n places, may be given once; the result of a call only by a call of its function
abbrev pub MayBeGiven : ℕ → List ℕ → List (Option ℕ) → List ℕ → Option ℕ → ℕ → Type 0
MayBeGiven n ks fs done o h = (h < n) × (is_result ks h ≡ true) × (slice_get fs h ≡ Some o) × (has done h ≡ false)

-- a part of a body may stand: handles and ranges lie within n places, operands are known, results may be given
abbrev pub IsFine : ℕ → List ℕ → List (Option ℕ) → Links → List ℕ → List ℕ → Token → Type 0
IsFine n ks fs ls s done (Use h) = (h < n) × (is_known ks s done h ≡ true)
IsFine n ks fs ls s done (Give h) = MayBeGiven n ks fs done None h
IsFine n ks fs ls s done (GiveCall f h) = MayBeGiven n ks fs done (Some f) h
IsFine n ks fs ls s done (Emitted r) = (r.0 ≤ r.1) × (r.1 ≤ n) × AreEmitted ks ls s done (places r)
IsFine n ks fs ls s done _ = Unit {0}

-- the parts of a body may stand one after the other
abbrev pub AreFine : ℕ → List ℕ → List (Option ℕ) → Links → List ℕ → List ℕ → Tokens → Type 0
AreFine n ks fs ls s done [] = Unit {0}
AreFine n ks fs ls s done (t ∷ ts) = IsFine n ks fs ls s done t × AreFine n ks fs ls s (done ++ made t) ts

-- the span of a statement lies in a text of n bytes, or is undefined, (0, 0), which lies in each
abbrev pub IsSpanFine : ℕ → Span → Type 0
IsSpanFine n s = (s.start ≤ s.end) × (s.end ≤ n)

-- a part of a body may stand by itself: a call is of one of the first c functions, a span lies in a text of n bytes
abbrev pub IsTokenFine : ℕ → ℕ → Token → Type 0
IsTokenFine c n (Callee f) = f < c
IsTokenFine c n (At s) = IsSpanFine n s
IsTokenFine c n _ = Unit {0}

-- expressions of these kinds, callees and operands may stand with the initialisers is and the body ts: each after its operands;
-- the initialisers exist and reach no result; and the parts of the body may stand one after the other
pub record MayStand (ks : List ℕ) (fs : List (Option ℕ)) (ls : Links) (is : List ℕ) (ts : Tokens) : Type 0 where
  pub earlier : AreEarlier ls
  pub there : All (λ h. h < length ls) is
  pub no_results : All (λ h. is_result ks h ≡ false) (started ls is)
  pub body : AreFine (length ls) ks fs ls (started ls is) [] ts

-- ---- the parts of expressions that the code reads

pub record IsReading (es : List (Expression × Span)) (r : ExpressionParts) : Type 0 where
  pub kinds : r.kinds.items ≡ kinds es
  pub named : r.named.items ≡ named_of es
  pub links : lists r.links.items ≡ operand_links es

-- ---- the walk over marks: fs of the places that initialisers reach, gs of those that were emitted or given

-- an operand may be used
abbrev pub known_by : List ℕ → List Bool → List Bool → ℕ → Bool
known_by ks fs gs h = is_external ks h || (is_marked fs h || is_marked gs h)

-- a place that names xs may be emitted
abbrev pub MayBeEmitted : List ℕ → List Bool → List Bool → List ℕ → ℕ → Type 0
MayBeEmitted ks fs gs xs k = (is_external ks k ≡ false) × ((is_result ks k ≡ false) × ((is_marked gs k ≡ false) × All (λ h. known_by ks fs gs h ≡ true) xs))

-- the marks after more places are marked
abbrev pub marks_after : List Bool → List ℕ → List Bool
marks_after gs [] = gs
marks_after gs (k ∷ ks) = marks_after (slice_set gs k true) ks

-- places may be emitted one after the other
abbrev pub AreEmittedBy : List ℕ → Links → List Bool → List Bool → List ℕ → Type 0
AreEmittedBy ks ls fs gs [] = Unit {0}
AreEmittedBy ks ls fs gs (k ∷ es) = MayBeEmitted ks fs gs (linked ls k) k × AreEmittedBy ks ls fs (slice_set gs k true) es

-- a result may be given
abbrev pub MayBeGivenBy : ℕ → List ℕ → List (Option ℕ) → List Bool → Option ℕ → ℕ → Type 0
MayBeGivenBy n ks fs gs o h = (h < n) × ((is_result ks h ≡ true) × ((slice_get fs h ≡ Some o) × (is_marked gs h ≡ false)))

-- a part of a body may stand
abbrev pub IsFineBy : ℕ → List ℕ → List (Option ℕ) → Links → List Bool → List Bool → Token → Type 0
IsFineBy n ks fs ls ss gs (Use h) = (h < n) × (known_by ks ss gs h ≡ true)
IsFineBy n ks fs ls ss gs (Give h) = MayBeGivenBy n ks fs gs None h
IsFineBy n ks fs ls ss gs (GiveCall f h) = MayBeGivenBy n ks fs gs (Some f) h
IsFineBy n ks fs ls ss gs (Emitted r) = (r.0 ≤ r.1) × ((r.1 ≤ n) × AreEmittedBy ks ls ss gs (places r))
IsFineBy n ks fs ls ss gs _ = Unit {0}

-- the parts of a body may stand one after the other
abbrev pub AreFineBy : ℕ → List ℕ → List (Option ℕ) → Links → List Bool → List Bool → Tokens → Type 0
AreFineBy n ks fs ls ss gs [] = Unit {0}
AreFineBy n ks fs ls ss gs (t ∷ ts) = IsFineBy n ks fs ls ss gs t × AreFineBy n ks fs ls ss (marks_after gs (made t)) ts

-- ---- the walk over expressions that were read

-- a result may be given
abbrev pub MayBeGivenOver : ExpressionParts → List Bool → Option ℕ → ℕ → Type 0
MayBeGivenOver r gs o h = MayBeGivenBy (length r.links.items) r.kinds.items (map callee r.named.items) gs o h

-- a part of a body may stand
abbrev pub IsFineOver : ExpressionParts → List Bool → List Bool → Token → Type 0
IsFineOver r ss gs t = IsFineBy (length r.links.items) r.kinds.items (map callee r.named.items) (lists r.links.items) ss gs t

-- the parts of a body may stand one after the other, where initialisers reach s
abbrev pub AreFineOver : ExpressionParts → List ℕ → Tokens → Type 0
AreFineOver r s ts = AreFine (length r.links.items) r.kinds.items (map callee r.named.items) (lists r.links.items) s [] ts

-- the expressions may stand with the initialisers is and a body
abbrev pub MayStandOver : ExpressionParts → List ℕ → Tokens → Type 0
MayStandOver r is ts = MayStand r.kinds.items (map callee r.named.items) (lists r.links.items) is ts
