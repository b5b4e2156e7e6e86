-- A function with a struct, initialisers and a call, copied by hand.
use Rattle.std.proofs.Common.{◌≡◌, ◌⊎◌, ℕ, zero, suc, ◌+◌, ◌<◌, true, List, [], ◌∷◌, ◌++◌, map, Some, None, option_map, slice_get, All, IfSome, codes, inl, inr, refl, ap, sym, ◌∙◌, subst, arith}
use Rattle.std.proofs.lemmas.List.Elements.{All-nil, All-cons}
use Rattle.std.proofs.lemmas.Option.{none-some, same_Some}
use Rattle.naga_oil_ir.specs.Body.{Tokens}
use Rattle.naga_oil_form.specs.BodyForm.{places}
use Rattle.naga_oil_form.specs.Links as links
use Rattle.naga_oil_form.specs.Links.{has}
use Rattle.naga_oil_ir.specs.ModuleValue.{ModuleValue, FunctionValue, LocalValue, expression_values, no_items}
use Rattle.naga_oil_ir.specs.Parts.{Parts}
use Rattle.naga_oil_ir.specs.Rows.{Kind, Row, row, TypeKind}
use Rattle.naga_oil_ir.specs.declared.expression.Expression.{Expression}
use Rattle.naga_oil_ir.specs.declared.expression.Expression.TheVariants.{Literal, CallResult, Unary}
use Rattle.naga_oil_ir.specs.declared.names.ItemPlace.TheVariants.{TypeItem}
use Rattle.naga_oil_ir.specs.declared.span.Span.{Span}
use Rattle.naga_oil_ir.specs.declared.tokens.Token.{Token}
use Rattle.naga_oil_ir.specs.declared.tokens.Token.TheVariants.{Head, Use, GiveCall, Emitted, Callee}
use Rattle.naga_oil_form.proofs.LinkLemmas.{All-has}
use Rattle.naga_oil_derive.specs.Copies.{place_under}
use Rattle.naga_oil_derive.specs.CopiedFunctionLaw.{EmitsAt}
use Rattle.naga_oil_derive.specs.Functions.{begun}
use Rattle.naga_oil_rename.specs.Renames.{Renames}
use Rattle.naga_oil_derive.specs.Tree as trees
use Rattle.naga_oil_derive.specs.World as worlds
use Rattle.naga_oil_walk.specs.Walk.{others}
use Rattle.naga_oil_derive.specs.World.{shifted}
use Rattle.naga_oil_copy_laws.specs.Scope.{ReadAlike, CalledAlike, scope_of}
use Rattle.naga_oil_copy_laws.specs.ByTree.{IsReached, IsBegun, HasCopy, HasSpan, IsNamed, NameComes, NamesAlike, callee_in, CopiesByTree}

-- ---- two modules

abbrev span_of : ℕ → Span
span_of k = record { start = k; end = k + 1 }

abbrev int_type : Row
int_type = row (TypeKind 0) None (Some 7 ∷ []) [] []

-- a struct whose one member has the type at a place
abbrev struct_type : ℕ → Row
struct_type k = row (TypeKind 10) (Some (codes "S")) (Some 4 ∷ []) (record { name = Some (codes "x"); binding = None; offset = 0 } ∷ []) (Some (TypeItem k) ∷ [])

abbrev function_of : List ℕ → (shift : ℕ) → List (ℕ × ℕ) → List (Expression × Span) → List (ℕ × List ℕ) → Tokens → FunctionValue
function_of name shift locals es names body = record {
  name = Some name;
  arguments = [];
  result = None;
  local_variables = map (λ l. (record { name = None; ty = l.0; init = Some l.1 }, span_of shift)) locals;
  expressions = expression_values es;
  named_expressions = names;
  body = body;
  diagnostic_filter_leaf = None;
}

abbrev called : FunctionValue
called = function_of (codes "c") 0 [] [] [] []

-- two equal initialisers, a call's result, an expression that is emitted, and a number that isn't reached
abbrev source : FunctionValue
source = function_of (codes "f") 0 ((1, 0) ∷ (0, 1) ∷ []) ((Literal 0 7, span_of 1) ∷ (Literal 0 7, span_of 3) ∷ (CallResult 0, span_of 5) ∷ (Unary 1 1, span_of 7) ∷ (Literal 0 9, span_of 9) ∷ []) ((3, codes "n") ∷ (4, codes "u") ∷ []) (Head 0 ∷ Emitted (3, 4) ∷ Head 16 ∷ Callee 0 ∷ GiveCall 0 2 ∷ Use 3 ∷ [])

abbrev copy_with : ℕ → FunctionValue
copy_with operand = function_of (codes "f") 10 ((2, 0) ∷ (1, 0) ∷ []) ((Literal 0 7, span_of 11) ∷ (Unary 1 operand, span_of 17) ∷ (CallResult 1, span_of 15) ∷ []) ((1, codes "n") ∷ []) (Head 0 ∷ Emitted (1, 2) ∷ Head 16 ∷ Callee 1 ∷ GiveCall 1 2 ∷ Use 1 ∷ [])

abbrev copy : FunctionValue
copy = copy_with 0

abbrev module_of : List Row → List FunctionValue → ModuleValue
module_of types fs = record no_items { types = map (λ t. (t, span_of 0)) types; functions = map (λ f. (f, span_of 0)) fs }

abbrev from : ModuleValue
from = module_of (int_type ∷ struct_type 0 ∷ []) (called ∷ source ∷ [])

abbrev to : ModuleValue
to = module_of (row (TypeKind 1) None [] [] [] ∷ int_type ∷ struct_type 1 ∷ []) (function_of (codes "o") 0 [] [] [] [] ∷ called ∷ copy ∷ [])

abbrev moved : Renames
moved = record {
  ty = λ k. k + 1;
  constant = λ k. k;
  pipeline_override = λ k. k;
  global = λ k. k;
  function = λ k. k + 1;
  expression = place_under (Some 0 ∷ Some 0 ∷ Some 2 ∷ Some 1 ∷ []);
  range = λ r. (1, 2);
  span = shifted 10;
}

-- ---- what is reached

reached_each : (P : ℕ → Type 0) → P 0 → P 1 → P 2 → P 3 → (k : ℕ) → IsReached source k → P k
unfolding links.trail
reached_each P a b c d k w =
    let all : All P (0 ∷ 1 ∷ 1 ∷ 3 ∷ 2 ∷ 1 ∷ 3 ∷ []) = All-cons P 0 (1 ∷ 1 ∷ 3 ∷ 2 ∷ 1 ∷ 3 ∷ []) a (All-cons P 1 (1 ∷ 3 ∷ 2 ∷ 1 ∷ 3 ∷ []) b (All-cons P 1 (3 ∷ 2 ∷ 1 ∷ 3 ∷ []) b (All-cons P 3 (2 ∷ 1 ∷ 3 ∷ []) d (All-cons P 2 (1 ∷ 3 ∷ []) c (All-cons P 1 (3 ∷ []) b (All-cons P 3 [] d (All-nil P))))))) in
    All-has P (0 ∷ 1 ∷ 1 ∷ 3 ∷ 2 ∷ 1 ∷ 3 ∷ []) k all w

copied_each : (P : ℕ → Type 0) → P 0 → P 1 → P 2 → (k : ℕ) → IsReached copy k → P k
unfolding links.trail
copied_each P a b c k w =
    let all : All P (0 ∷ 0 ∷ 0 ∷ 1 ∷ 2 ∷ 0 ∷ 1 ∷ []) = All-cons P 0 (0 ∷ 0 ∷ 1 ∷ 2 ∷ 0 ∷ 1 ∷ []) a (All-cons P 0 (0 ∷ 1 ∷ 2 ∷ 0 ∷ 1 ∷ []) a (All-cons P 0 (1 ∷ 2 ∷ 0 ∷ 1 ∷ []) a (All-cons P 1 (2 ∷ 0 ∷ 1 ∷ []) b (All-cons P 2 (0 ∷ 1 ∷ []) c (All-cons P 0 (1 ∷ []) a (All-cons P 1 [] b (All-nil P))))))) in
    All-has P (0 ∷ 0 ∷ 0 ∷ 1 ∷ 2 ∷ 0 ∷ 1 ∷ []) k all w

copies_at : (k : ℕ) → IsReached source k → HasCopy moved source copy k
copies_at = reached_each (HasCopy moved source copy)
    (record { source = _; copy = _; at_source = refl; at_copy = refl; reads = refl })
    (record { source = _; copy = _; at_source = refl; at_copy = refl; reads = refl })
    (record { source = _; copy = _; at_source = refl; at_copy = refl; reads = refl })
    (record { source = _; copy = _; at_source = refl; at_copy = refl; reads = refl })

one_span : (k : ℕ) (x y : Parts × Span) (a b : Parts × Span) → slice_get source.expressions k ≡ Some a → b.1 ≡ shifted 10 a.1 → slice_get source.expressions k ≡ Some x → Some b ≡ Some y → y.1 ≡ shifted 10 x.1
one_span k x y a b at e i j = ap (λ (z : Parts × Span). z.1) (sym (same_Some b y j)) ∙ e ∙ ap (λ (z : Parts × Span). shifted 10 z.1) (same_Some a x (sym at ∙ i))

-- the copy of the initialisers has the span of the first
spans_at : (k : ℕ) → IsReached source k → HasSpan (shifted 10) moved source copy k
unfolding links.trail
spans_at = reached_each (HasSpan (shifted 10) moved source copy)
    (record { first = 0; reached = refl; same = refl; spans = λ x y i j. one_span 0 x y _ _ refl refl i j })
    (record { first = 0; reached = refl; same = refl; spans = λ x y i j. one_span 0 x y _ _ refl refl i j })
    (record { first = 2; reached = refl; same = refl; spans = λ x y i j. one_span 2 x y _ _ refl refl i j })
    (record { first = 3; reached = refl; same = refl; spans = λ x y i j. one_span 3 x y _ _ refl refl i j })

onto_at : (h : ℕ) → IsReached copy h → (k : ℕ) × IsReached source k × (moved.expression k ≡ h)
unfolding links.trail
onto_at = copied_each (λ h. (k : ℕ) × IsReached source k × (moved.expression k ≡ h)) (0, refl, refl) (3, refl, refl) (2, refl, refl)

abbrev Shares : ℕ → ℕ → Type 0
Shares j k = moved.expression j ≡ moved.expression k → (j ≡ k) ⊎ (IsBegun source j × IsBegun source k)

shared_at : (j k : ℕ) → IsReached source j → IsReached source k → Shares j k
unfolding links.trail
shared_at j k v w =
    reached_each (λ j. (k : ℕ) → IsReached source k → Shares j k)
    (reached_each (Shares 0) (λ e. inl refl) (λ e. inr (refl, refl)) (λ e. absurd (omega (arith, e))) (λ e. absurd (omega (arith, e))))
    (reached_each (Shares 1) (λ e. inr (refl, refl)) (λ e. inl refl) (λ e. absurd (omega (arith, e))) (λ e. absurd (omega (arith, e))))
    (reached_each (Shares 2) (λ e. absurd (omega (arith, e))) (λ e. absurd (omega (arith, e))) (λ e. inl refl) (λ e. absurd (omega (arith, e))))
    (reached_each (Shares 3) (λ e. absurd (omega (arith, e))) (λ e. absurd (omega (arith, e))) (λ e. absurd (omega (arith, e))) (λ e. inl refl))
    j v k w

emits_at : (i : ℕ) (p : ℕ × ℕ) → EmitsAt source i p → places (moved.range p) ≡ map moved.expression (others (begun source) (places p))
unfolding links.trail
emits_at (suc zero) p e =
    let a : 3 ≡ p.0 = cc in
    let b : 4 ≡ p.1 = cc in
    let pair : ℕ → ℕ → ℕ × ℕ = λ x y. (x, y) in
    subst (λ (q : ℕ × ℕ). places (moved.range q) ≡ map moved.expression (others (begun source) (places q))) (ap (λ x. pair x 4) a ∙ ap (pair p.0) b) refl
emits_at zero p e = absurd cc
emits_at (suc (suc zero)) p e = absurd cc
emits_at (suc (suc (suc zero))) p e = absurd cc
emits_at (suc (suc (suc (suc zero)))) p e = absurd cc
emits_at (suc (suc (suc (suc (suc zero))))) p e = absurd cc
emits_at (suc (suc (suc (suc (suc (suc i)))))) p e = absurd (none-some (Emitted p) e)

-- ---- names

named_at : (h : ℕ) (n : List ℕ) → IsNamed copy h n → NameComes moved source h n
unfolding links.trail
named_at h n (zero, e) =
    let q : (1, codes "n") ≡ (h, n) = same_Some (1, codes "n") (h, n) e in
    record { place = 3; reached = refl; named = (0, ap (λ (x : ℕ × List ℕ). Some (3, x.1)) q); goes = ap (λ (x : ℕ × List ℕ). x.0) q }
named_at h n (suc i, e) = absurd (none-some (h, n) e)

-- ---- what is named reads alike

struct_alike : ReadAlike (scope_of from) (scope_of to) (TypeItem 1) (TypeItem 2)
unfolding trees.tree worlds.world
struct_alike zero = refl
struct_alike (suc zero) = refl
struct_alike (suc (suc n)) = refl

int_alike : ReadAlike (scope_of from) (scope_of to) (TypeItem 0) (TypeItem 1)
unfolding trees.tree worlds.world
int_alike zero = refl
int_alike (suc n) = refl

kind_in : Kind → ℕ
kind_in (TypeKind n) = n
kind_in _ = 99

kind_at : trees.Tree → ℕ
kind_at (trees.Item l ts) = kind_in l.kind
kind_at _ = 99

-- another type doesn't
other_type : ReadAlike (scope_of from) (scope_of to) (TypeItem 0) (TypeItem 0) → ⊥
unfolding trees.tree worlds.world kind_at kind_in
other_type a = let e : 1 ≡ 0 = ap kind_at (a 1) in absurd (omega (arith, e))

types_at : (k : ℕ) → has (1 ∷ 0 ∷ []) k ≡ true → ReadAlike (scope_of from) (scope_of to) (TypeItem k) (TypeItem (k + 1))
types_at k w =
    let P = λ (k : ℕ). ReadAlike (scope_of from) (scope_of to) (TypeItem k) (TypeItem (k + 1)) in
    All-has P (1 ∷ 0 ∷ []) k (All-cons P 1 (0 ∷ []) struct_alike (All-cons P 0 [] int_alike (All-nil P))) w

abbrev Alike : Parts × Span → Type 0
Alike e = NamesAlike (λ n. n) (scope_of from) (scope_of to) moved e.0.named

alike_one : (k : ℕ) (e a : Parts × Span) → slice_get source.expressions k ≡ Some a → Alike a → slice_get source.expressions k ≡ Some e → Alike e
alike_one k e a at w i = subst Alike (same_Some a e (sym at ∙ i)) w

expressions_at : (k : ℕ) → IsReached source k → (e : Parts × Span) → slice_get source.expressions k ≡ Some e → Alike e
expressions_at = reached_each (λ k. (e : Parts × Span) → slice_get source.expressions k ≡ Some e → Alike e)
    (λ e i. alike_one 0 e _ refl (tt, tt) i)
    (λ e i. alike_one 1 e _ refl (tt, tt) i)
    (λ e i. alike_one 2 e _ refl (tt, refl) i)
    (λ e i. alike_one 3 e _ refl (tt, tt) i)

abbrev Called : Token → Type 0
Called t = IfSome (callee_in t) (λ h. CalledAlike (λ n. n) (scope_of from) (scope_of to) h (h + 1))

callees_at : (i : ℕ) (t : Token) → slice_get source.body i ≡ Some t → Called t
callees_at zero t e = subst Called (same_Some (Head 0) t e) tt
callees_at (suc zero) t e = subst Called (same_Some (Emitted (3, 4)) t e) tt
callees_at (suc (suc zero)) t e = subst Called (same_Some (Head 16) t e) tt
callees_at (suc (suc (suc zero))) t e = subst Called (same_Some (Callee 0) t e) refl
callees_at (suc (suc (suc (suc zero)))) t e = subst Called (same_Some (GiveCall 0 2) t e) refl
callees_at (suc (suc (suc (suc (suc zero))))) t e = subst Called (same_Some (Use 3) t e) tt
callees_at (suc (suc (suc (suc (suc (suc i)))))) t e = absurd (none-some t e)

-- ---- nothing else

all_reached : (h : ℕ) → h < 3 → IsReached copy h
unfolding links.trail
all_reached zero l = refl
all_reached (suc zero) l = refl
all_reached (suc (suc zero)) l = refl
all_reached (suc (suc (suc h))) l = absurd (omega (arith, l))

names_reached : (i : ℕ) (e : ℕ × List ℕ) → slice_get copy.named_expressions i ≡ Some e → IsReached copy e.0
unfolding links.trail
names_reached zero e at = subst (λ (x : ℕ × List ℕ). IsReached copy x.0) (same_Some (1, codes "n") e at) refl
names_reached (suc i) e at = absurd (none-some e at)

-- ---- the copy

copied : CopiesByTree (shifted 10) (λ n. n) (scope_of from) source (scope_of to) copy
unfolding links.trail
copied = record {
  goes = moved;
  name = refl;
  arguments = refl;
  outcome = refl;
  locals = refl;
  body = refl;
  spans = λ s. refl;
  expressions = record { copies = copies_at; spans = spans_at; onto = onto_at; shared = shared_at };
  emits = emits_at;
  names = record { order = refl; each = λ h n w i. named_at h n i };
  alike = record { types = types_at; expressions = λ k e w i. expressions_at k w e i; callees = callees_at };
  nothing_else = record { expressions = all_reached; names = names_reached; leaf = refl };
}

-- an expression that nothing reaches makes no copy
unreached : CopiesByTree (shifted 10) (λ n. n) (scope_of from) source (scope_of to) (record copy { expressions = copy.expressions ++ expression_values ((Literal 0 9, span_of 19) ∷ []) }) → ⊥
unfolding links.trail
unreached c = let r = c.nothing_else.expressions 3 (omega arith) in cc

-- an operand that isn't mapped makes no copy
unmapped : CopiesByTree (shifted 10) (λ n. n) (scope_of from) source (scope_of to) (copy_with 1) → ⊥
unfolding links.trail
unmapped c =
    let h = c.goes.expression in
    let inits : Some 0 ∷ Some 0 ∷ [] ≡ Some (h 0) ∷ Some (h 1) ∷ [] = ap (map (λ (l : LocalValue × Span). l.0.init)) c.locals in
    let second : 0 ≡ h 1 = cc in
    let third : 1 ≡ h 3 = (let e = c.names.order in cc) in
    let x = c.expressions.copies 3 refl in
    let there : x.copy.0.operands ≡ Some 1 ∷ [] = ap (λ (e : Parts × Span). e.0.operands) (same_Some x.copy _ (sym x.at_copy ∙ ap (slice_get (copy_with 1).expressions) (sym third))) in
    let from_there : x.source.0.operands ≡ Some 1 ∷ [] = ap (λ (e : Parts × Span). e.0.operands) (same_Some x.source _ (sym x.at_source)) in
    let same : Some 1 ∷ [] ≡ Some (h 1) ∷ [] = sym there ∙ ap (λ (p : Parts). p.operands) x.reads ∙ ap (map (option_map h)) from_there in
    let one : 1 ≡ h 1 = cc in
    absurd (omega (arith, second, one))
