-- The items that visited expressions name are requested.
use Rattle.std.proofs.Common.{◌≡◌, ℕ, ◌+◌, ◌-◌, ◌<◌, ◌≤◌, true, false, cond, List, [], ◌∷◌, ◌++◌, length, take, get_or, slice_get, Option, Some, None, Result, Ok, Err, OnOk, refl, ap, sym, ◌∙◌, subst, arith}
use Rattle.std.specs.List.{flat_map}
use Rattle.std.proofs.lemmas.List.{append-nil, take_more}
use Rattle.std.proofs.lemmas.List.Elements.{filter-append}
use Rattle.naga_oil_form.specs.Links.{Links, linked, lists, has, added}
use Rattle.naga_oil_form.specs.BodyForm.{run, is_external, kinds, named_of, operand_links, IsReading}
use Rattle.naga_oil_ir.specs.Body.{Tokens, block_tokens}
use Rattle.naga_oil_ir.specs.declared.expression.Expression.{Expression}
use Rattle.naga_oil_ir.specs.declared.module.Function.{Function}
use Rattle.naga_oil_ir.specs.declared.types.LocalVariable.{LocalVariable}
use Rattle.naga_oil_form.specs.declared.form.ExpressionParts.{ExpressionParts}
use Rattle.naga_oil_ir.specs.declared.names.ItemPlace.{ItemPlace}
use Rattle.naga_oil_ir.specs.declared.parts.Named.{Named}
use Rattle.naga_oil_ir.specs.declared.span.Span.{Span}
use Rattle.naga_oil_ir.specs.declared.tokens.Token.{Token}
use Rattle.naga_oil_ir.specs.declared.tokens.Token.TheVariants.{At, Head, Plain, Flag, Absent, Open, Close, Use, Give, GiveCall, Emitted, Callee}
use Rattle.naga_oil_walk.specs.Walk.{Notes, externals, brief, notes_of}
use Rattle.naga_oil_walk.specs.Walks.{IsOver}
use Rattle.naga_oil_walk.specs.Naming.{item_of, requested, requests_at, local_names, token_names, signature_names, function_names, IsAmong, Thins, Adds}
use Rattle.naga_oil_walk.specs.declared.walk.Request.{Request}
use Rattle.naga_oil_walk.specs.declared.walk.Request.TheVariants.{Item}
use Rattle.naga_oil_walk.specs.declared.walk.Walk.{Walk}
use Rattle.naga_oil_walk.proofs.WalkLemmas.{run-next, flat_run}
use Rattle.naga_oil_walk.proofs.NamingLemmas.{among_left, covers_add, request_among, Adds-none, Adds-all, Adds-append, Adds-places}

pub ok_then : {A B : Type 0} (r : Result A B) (P Q : Type 0) → (P → Q) → OnOk r P → OnOk r Q
ok_then (Ok x) P Q f h = f h
ok_then (Err x) P Q f h = tt

-- ---- the items that listed places name are requested

-- more items are requested
pub over_asked : (of : ExpressionParts) (v w : Walk) (xs : List Request) → IsOver of v → w.places.items ≡ v.places.items → length w.marks.items ≡ length v.marks.items → w.requests.items ≡ v.requests.items ++ xs → IsOver of w
over_asked of v w xs o p m q = record {
  earlier = o.earlier;
  named = o.named;
  marks = m ∙ o.marks;
  covers = λ k x h e. subst (λ (rs : List Request). IsAmong rs (Item x)) (sym q) (among_left v.requests.items xs (Item x) (o.covers k x (ap (λ ps. has ps k) (sym p) ∙ h) e));
}

-- a place is listed whose item was requested
pub over_list : (of : ExpressionParts) (v w : Walk) (k : ℕ) → IsOver of v → w.places.items ≡ added v.places.items (k ∷ []) → length w.marks.items ≡ length v.marks.items → w.requests.items ≡ v.requests.items → ((x : ItemPlace) → item_of (slice_get of.named.items k) ≡ Some x → IsAmong v.requests.items (Item x)) → IsOver of w
over_list of v w k o p m q f = record {
  earlier = o.earlier;
  named = o.named;
  marks = m ∙ o.marks;
  covers = λ j x h e. subst (λ (rs : List Request). IsAmong rs (Item x)) (sym q) (covers_add of.named.items v.places.items v.requests.items v.requests.items k o.covers (λ y a. a) f j x (ap (λ ps. has ps j) (sym p) ∙ h) e);
}

-- a place's item is requested and the place is listed
pub over_add : (of : ExpressionParts) (v w : Walk) (k : ℕ) → IsOver of v → w.places.items ≡ added v.places.items (k ∷ []) → length w.marks.items ≡ length v.marks.items → w.requests.items ≡ v.requests.items ++ requests_at of.named.items k → IsOver of w
over_add of v w k o p m q = record {
  earlier = o.earlier;
  named = o.named;
  marks = m ∙ o.marks;
  covers = λ j x h e. covers_add of.named.items v.places.items v.requests.items w.requests.items k o.covers (λ y a. subst (λ (rs : List Request). IsAmong rs y) (sym q) (among_left v.requests.items (requests_at of.named.items k) y a)) (λ y i. request_among v.requests.items w.requests.items (item_of (slice_get of.named.items k)) y q i) j x (ap (λ ps. has ps j) (sym p) ∙ h) e;
}

pub adds_all : (s t xs : List Request) → t ≡ s ++ xs → Adds s xs t
adds_all s t xs e = subst (λ (q : List Request). Adds s xs q) (sym e) (Adds-all s xs)

-- ---- external places

one_place : (ks : List ℕ) (x : ℕ) → is_external ks x ≡ true → externals ks (x ∷ []) ≡ x ∷ []
one_place ks x h = ap (λ b. cond b (x ∷ []) []) h

no_place : (ks : List ℕ) (x : ℕ) → is_external ks x ≡ false → externals ks (x ∷ []) ≡ []
no_place ks x h = ap (λ b. let ys : List ℕ = cond b (x ∷ []) [] in ys) h

externals_take : (ks xs : List ℕ) (i : ℕ) → i < length xs → externals ks (take (i + 1) xs) ≡ externals ks (take i xs) ++ externals ks (get_or xs i 0 ∷ [])
externals_take ks xs i l = ap (externals ks) (take_more xs i 0 l) ∙ filter-append (is_external ks) (take i xs) (get_or xs i 0 ∷ [])

pub adds_external : (ks : List ℕ) (f : ℕ → List Request) (s t u : List Request) (xs : List ℕ) (i : ℕ) → i < length xs → is_external ks (get_or xs i 0) ≡ true → Adds s (flat_map f (externals ks (take i xs))) t → Adds t (f (get_or xs i 0)) u → Adds s (flat_map f (externals ks (take (i + 1) xs))) u
adds_external ks f s t u xs i l e a b =
    let x = get_or xs i 0 in
    let split = externals_take ks xs i l ∙ ap (λ ys. externals ks (take i xs) ++ ys) (one_place ks x e) in
    Adds-places f s t u (externals ks (take i xs)) (x ∷ []) (externals ks (take (i + 1) xs)) split a (subst (λ (rs : List Request). Adds t rs u) (sym (append-nil (f x))) b)

pub adds_internal : (ks : List ℕ) (f : ℕ → List Request) (s t : List Request) (xs : List ℕ) (i : ℕ) → i < length xs → is_external ks (get_or xs i 0) ≡ false → Adds s (flat_map f (externals ks (take i xs))) t → Adds s (flat_map f (externals ks (take (i + 1) xs))) t
adds_internal ks f s t xs i l e a =
    let same = externals_take ks xs i l ∙ ap (λ ys. externals ks (take i xs) ++ ys) (no_place ks (get_or xs i 0) e) ∙ append-nil (externals ks (take i xs)) in
    subst (λ ys. Adds s (flat_map f ys) t) (sym same) a

pub adds_externals : (ks : List ℕ) (ls : Links) (f : ℕ → List Request) (s t u : List Request) (a k : ℕ) → a ≤ k → Adds s (flat_map f (externals ks (flat_map (linked ls) (run a (k - a))))) t → Adds t (flat_map f (externals ks (linked ls k))) u → Adds s (flat_map f (externals ks (flat_map (linked ls) (run a (k + 1 - a))))) u
adds_externals ks ls f s t u a k l x y =
    let split = ap (externals ks) (sym (flat_run (linked ls) a k l)) ∙ filter-append (is_external ks) (flat_map (linked ls) (run a (k - a))) (linked ls k) in
    Adds-places f s t u (externals ks (flat_map (linked ls) (run a (k - a)))) (externals ks (linked ls k)) (externals ks (flat_map (linked ls) (run a (k + 1 - a)))) split x y

pub adds_run : (f : ℕ → List Request) (s t u : List Request) (a k : ℕ) → a ≤ k → Adds s (flat_map f (run a (k - a))) t → Adds t (f k) u → Adds s (flat_map f (run a (k + 1 - a))) u
adds_run f s t u a k l x y = Adds-places f s t u (run a (k - a)) (k ∷ []) (run a (k + 1 - a)) (run-next a k l) x (subst (λ (rs : List Request). Adds t rs u) (sym (append-nil (f k))) y)

-- nothing of an empty range
pub run_none : (a k : ℕ) → k ≡ a → run a (k - a) ≡ []
run_none a k h = let e : k - a ≡ 0 = omega arith in ap (run a) e

pub adds_start : (f : List ℕ → List Request) (s : List Request) (a k : ℕ) → k ≡ a → f [] ≡ [] → Adds s (f (run a (k - a))) s
adds_start f s a k h e = subst (λ (rs : List Request). Adds s rs s) (sym (ap f (run_none a k h) ∙ e)) (Adds-none s)

-- ---- local variables

pub adds_item : (f : ℕ → List Request) (x : Request) (s t u : List Request) (h : ℕ) → t ≡ s ++ x ∷ [] → Adds t (f h) u → Adds s (x ∷ flat_map f (h ∷ [])) u
adds_item f x s t u h e b = Adds-append s t u (x ∷ []) (flat_map f (h ∷ [])) (adds_all s t (x ∷ []) e) (subst (λ (rs : List Request). Adds t rs u) (sym (append-nil (f h))) b)

-- ---- the whole function

pub walk_requests : (f : Function) (rd : ExpressionParts) (xs : List (Expression × Span)) (ls : List (LocalVariable × Span)) (ts : Tokens) → xs ≡ f.expressions → IsReading xs rd → ls ≡ f.local_variables → ts ≡ block_tokens f.body → (s t u w : List Request) → s ≡ [] → t ≡ s ++ signature_names f → Adds t (flat_map (local_names rd.named.items (lists rd.links.items)) ls) u → Adds u (flat_map (token_names rd.kinds.items rd.named.items (lists rd.links.items)) ts) w → Thins [] (function_names f) w
walk_requests f rd xs ls ts ex i el et s t u w es et1 a b =
    let ks : rd.kinds.items ≡ kinds f.expressions = i.kinds ∙ ap kinds ex in
    let ns : rd.named.items ≡ named_of f.expressions = i.named ∙ ap named_of ex in
    let ks2 : lists rd.links.items ≡ operand_links f.expressions = i.links ∙ ap operand_links ex in
    let mine : List Named = named_of f.expressions in
    let links : Links = operand_links f.expressions in
    let first : Adds t (flat_map (local_names mine links) f.local_variables) u = subst (λ (ys : List (LocalVariable × Span)). Adds t (flat_map (local_names mine links) ys) u) el (subst (λ (q : Links). Adds t (flat_map (local_names mine q) ls) u) ks2 (subst (λ (q : List Named). Adds t (flat_map (local_names q (lists rd.links.items)) ls) u) ns a)) in
    let second : Adds u (flat_map (token_names (kinds f.expressions) mine links) (block_tokens f.body)) w = subst (λ (ys : Tokens). Adds u (flat_map (token_names (kinds f.expressions) mine links) ys) w) et (subst (λ (q : Links). Adds u (flat_map (token_names (kinds f.expressions) mine q) ts) w) ks2 (subst (λ (q : List Named). Adds u (flat_map (token_names (kinds f.expressions) q (lists rd.links.items)) ts) w) ns (subst (λ (q : List ℕ). Adds u (flat_map (token_names q rd.named.items (lists rd.links.items)) ts) w) ks b))) in
    let began : Adds [] (signature_names f) t = adds_all [] t (signature_names f) (et1 ∙ ap (λ (q : List Request). q ++ signature_names f) es) in
    let all : Adds [] (function_names f) w = Adds-append [] u w (signature_names f ++ flat_map (local_names mine links) f.local_variables) (flat_map (token_names (kinds f.expressions) mine links) (block_tokens f.body)) (Adds-append [] t u (signature_names f) (flat_map (local_names mine links) f.local_variables) began first) second in
    subst (λ (q : List Request). Thins [] (function_names f) q) (sym all.1) all.2

-- a function without local variables and statements names the types of its arguments and its result
pub stub_requests : (f : Function) → f.local_variables ≡ [] → block_tokens f.body ≡ [] → (s t : List Request) → s ≡ [] → t ≡ s ++ signature_names f → Thins [] (function_names f) t
stub_requests f no_locals no_tokens s t none asks =
    let names : List Request = signature_names f in
    let of_local : LocalVariable × Span → List Request = local_names (named_of f.expressions) (operand_links f.expressions) in
    let of_token : Token → List Request = token_names (kinds f.expressions) (named_of f.expressions) (operand_links f.expressions) in
    let all : Adds [] names t = adds_all [] t names (asks ∙ ap (λ (q : List Request). q ++ names) none) in
    let thin : Thins [] names t = subst (λ (q : List Request). Thins [] names q) (sym all.1) all.2 in
    let same : function_names f ≡ names = ap (λ (ls : List (LocalVariable × Span)). (names ++ flat_map of_local ls) ++ flat_map of_token (block_tokens f.body)) no_locals ∙ ap (λ (ts : Tokens). (names ++ []) ++ flat_map of_token ts) no_tokens ∙ ap (λ (q : List Request). q ++ []) (append-nil names) ∙ append-nil names in
    subst (λ (q : List Request). Thins [] q t) (sym same) thin

-- ---- the request of a name

-- nothing is requested if no item is named
pub none_asked : (s : List Request) (ns : List Named) (k : ℕ) → item_of (slice_get ns k) ≡ None → s ≡ s ++ requests_at ns k
none_asked s ns k e = sym (ap (λ (o : Option ItemPlace). s ++ requested o) e ∙ append-nil s)

-- ---- the other parts of a body

pub record NamesNothing (ks : List ℕ) (ns : List Named) (ls : Links) (o : List ℕ) (es : Notes) (t : Token) : Type 0 where
  pub listed_none : brief ks ls t ≡ []
  pub noted_none : notes_of ks ls o es t ≡ es
  pub named_none : token_names ks ns ls t ≡ []

pub names_nothing : (ks : List ℕ) (ns : List Named) (ls : Links) (o : List ℕ) (es : Notes) (t : Token) → ((h : ℕ) → t ≡ Use h → ⊥) → ((h : ℕ) → t ≡ Give h → ⊥) → ((f h : ℕ) → t ≡ GiveCall f h → ⊥) → ((r : ℕ × ℕ) → t ≡ Emitted r → ⊥) → ((f : ℕ) → t ≡ Callee f → ⊥) → NamesNothing ks ns ls o es t
names_nothing ks ns ls o es (At s) a b c d e = record { listed_none = refl; noted_none = refl; named_none = refl }
names_nothing ks ns ls o es (Head k) a b c d e = record { listed_none = refl; noted_none = refl; named_none = refl }
names_nothing ks ns ls o es (Plain k) a b c d e = record { listed_none = refl; noted_none = refl; named_none = refl }
names_nothing ks ns ls o es (Flag k) a b c d e = record { listed_none = refl; noted_none = refl; named_none = refl }
names_nothing ks ns ls o es Absent a b c d e = record { listed_none = refl; noted_none = refl; named_none = refl }
names_nothing ks ns ls o es Open a b c d e = record { listed_none = refl; noted_none = refl; named_none = refl }
names_nothing ks ns ls o es Close a b c d e = record { listed_none = refl; noted_none = refl; named_none = refl }
names_nothing ks ns ls o es (Use h) a b c d e = absurd (a h refl)
names_nothing ks ns ls o es (Give h) a b c d e = absurd (b h refl)
names_nothing ks ns ls o es (GiveCall f h) a b c d e = absurd (c f h refl)
names_nothing ks ns ls o es (Emitted r) a b c d e = absurd (d r refl)
names_nothing ks ns ls o es (Callee f) a b c d e = absurd (e f refl)
