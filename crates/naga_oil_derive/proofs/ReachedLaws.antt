-- Which expressions of a function are copied.
use Rattle.std.proofs.Common.{◌≡◌, ⊎_elim, ℕ, ◌<◌, ◌==◌, true, List, [], ◌∷◌, ◌++◌, length, map, slice_get, option_to_list, Some, refl, ap, sym, ◌∙◌, subst, arith}
use Rattle.std.specs.List.{flat_map}
use Rattle.std.proofs.lemmas.Bool.{false≢true, or_cases, or_left, or_right}
use Rattle.std.proofs.lemmas.List.{length-map}
use Rattle.std.proofs.lemmas.List.Concat.{flat_map-append}
use Rattle.std.proofs.lemmas.Option.{same_Some, slice_get_within}
use Rattle.naga_oil_ir.specs.Parts.{Parts}
use Rattle.naga_oil_ir.specs.Body.{Tokens}
use Rattle.naga_oil_form.specs.BodyForm.{places}
use Rattle.naga_oil_form.specs.Links.{Links, AreEarlier, trail, has}
use Rattle.naga_oil_ir.specs.ModuleValue.{FunctionValue}
use Rattle.naga_oil_ir.specs.declared.span.Span.{Span}
use Rattle.naga_oil_ir.specs.declared.tokens.Token.{Token}
use Rattle.naga_oil_ir.specs.declared.tokens.Token.TheVariants.{Use, Give, GiveCall, Emitted}
use Rattle.naga_oil_form.proofs.LinkLemmas.{same_bool, eqb_eq, eq_eqb, only, itself, All-has, has-append, has-added, has-started, in_one, in_all}
use Rattle.naga_oil_rename.specs.Renames.{Renames}
use Rattle.naga_oil_walk.specs.Walk.{externals, listed}
use Rattle.naga_oil_derive.specs.Copies.{Values, Table, place_under, copied, value_links, AreCopies}
use Rattle.naga_oil_derive.specs.CopiedFunction.{copy_expressions, copy_function}
use Rattle.naga_oil_derive.specs.CopiedFunctionLaw.{MayBeCopied, spoken, reached_in, ReachedLaw}
use Rattle.naga_oil_derive.specs.DerivedFunctions.{kinds_in, initialisers_in}
use Rattle.naga_oil_derive.specs.Functions.{begun, order_of}
use Rattle.naga_oil_derive.proofs.CopyLoops.{there}
use Rattle.naga_oil_derive.proofs.CopySteps.{has_copy}
use Rattle.naga_oil_derive.proofs.FunctionForm.{walk_of_value}
use Rattle.naga_oil_derive.proofs.FunctionLaws.{copied_value}
use Rattle.naga_oil_walk.proofs.WalkForm.{externals_in}
use Rattle.naga_oil_walk.proofs.WalkLemmas.{ends_trail, trail_in}

-- ---- what is listed is reached

trail_of_one : (ls : Links) (h k : ℕ) → has (trail ls h) k ≡ true → has (flat_map (trail ls) (h ∷ [])) k ≡ true
trail_of_one ls h k i = in_all (trail ls) (h ∷ []) h k (itself h) i

listed_reached : (ks : List ℕ) (ls : Links) → AreEarlier ls → (t : Token) (k : ℕ) → has (listed ks ls t) k ≡ true → has (flat_map (trail ls) (spoken t)) k ≡ true
listed_reached ks ls a (Use h) k i = trail_of_one ls h k i
listed_reached ks ls a (Give h) k i = trail_of_one ls h k i
listed_reached ks ls a (GiveCall f h) k i = trail_of_one ls h k i
listed_reached ks ls a (Emitted r) k i =
    let xs = flat_map (trail ls) (places r) in
    ⊎_elim (λ j. externals_in ks xs k j) (λ j. in_all (trail ls) (places r) k k j (ends_trail ls a k)) (or_cases (has (externals ks xs) k) (has (places r) k) (sym (has-append (externals ks xs) (places r) k) ∙ i))
listed_reached ks ls a _ k i = absurd (false≢true i)

body_reached : (ks : List ℕ) (ls : Links) → AreEarlier ls → (ts : Tokens) (k : ℕ) → has (flat_map (listed ks ls) ts) k ≡ true → has (flat_map (trail ls) (flat_map spoken ts)) k ≡ true
body_reached ks ls a [] k i = absurd (false≢true i)
body_reached ks ls a (t ∷ ts) k i =
    ap (λ xs. has xs k) (flat_map-append (trail ls) (spoken t) (flat_map spoken ts)) ∙ has-append (flat_map (trail ls) (spoken t)) (flat_map (trail ls) (flat_map spoken ts)) k ∙ ⊎_elim (λ j. or_left (has (flat_map (trail ls) (spoken t)) k) (has (flat_map (trail ls) (flat_map spoken ts)) k) (listed_reached ks ls a t k j)) (λ j. or_right (has (flat_map (trail ls) (spoken t)) k) (has (flat_map (trail ls) (flat_map spoken ts)) k) (body_reached ks ls a ts k j)) (or_cases (has (listed ks ls t) k) (has (flat_map (listed ks ls) ts) k) (sym (has-append (listed ks ls t) (flat_map (listed ks ls) ts) k) ∙ i))

-- ---- what is spoken of is listed

spoken_listed : (ks : List ℕ) (ls : Links) → AreEarlier ls → (t : Token) (k : ℕ) → has (spoken t) k ≡ true → has (listed ks ls t) k ≡ true
spoken_listed ks ls a (Use h) k i = subst (λ x. has (trail ls h) x ≡ true) (only h k i) (ends_trail ls a h)
spoken_listed ks ls a (Give h) k i = subst (λ x. has (trail ls h) x ≡ true) (only h k i) (ends_trail ls a h)
spoken_listed ks ls a (GiveCall f h) k i = subst (λ x. has (trail ls h) x ≡ true) (only h k i) (ends_trail ls a h)
spoken_listed ks ls a (Emitted r) k i =
    let xs = externals ks (flat_map (trail ls) (places r)) in
    has-append xs (places r) k ∙ or_right (has xs k) (has (places r) k) i
spoken_listed ks ls a _ k i = absurd (false≢true i)

body_listed : (ks : List ℕ) (ls : Links) → AreEarlier ls → (ts : Tokens) (k : ℕ) → has (flat_map spoken ts) k ≡ true → has (flat_map (listed ks ls) ts) k ≡ true
body_listed ks ls a [] k i = absurd (false≢true i)
body_listed ks ls a (t ∷ ts) k i =
    has-append (listed ks ls t) (flat_map (listed ks ls) ts) k ∙ ⊎_elim (λ j. or_left (has (listed ks ls t) k) (has (flat_map (listed ks ls) ts) k) (spoken_listed ks ls a t k j)) (λ j. or_right (has (listed ks ls t) k) (has (flat_map (listed ks ls) ts) k) (body_listed ks ls a ts k j)) (or_cases (has (spoken t) k) (has (flat_map spoken ts) k) (sym (has-append (spoken t) (flat_map spoken ts) k) ∙ i))

-- ---- the order has what is reached

abbrev links_of : FunctionValue → Links
links_of v = value_links v.expressions

abbrev body_list : FunctionValue → List ℕ
body_list v = flat_map (listed (kinds_in v) (links_of v)) v.body

roots_in : (v : FunctionValue) → MayBeCopied v → (x : ℕ) → has (initialisers_in v ++ flat_map spoken v.body) x ≡ true → has (order_of v) x ≡ true
roots_in v may x i =
    let ls = links_of v in
    let is = initialisers_in v in
    has-added (begun v) (body_list v) x ∙ ⊎_elim (λ j. or_left (has (begun v) x) (has (body_list v) x) (has-started ls is x ∙ in_all (trail ls) is x x j (ends_trail ls may.form.earlier x))) (λ j. or_right (has (begun v) x) (has (body_list v) x) (body_listed (kinds_in v) ls may.form.earlier v.body x j)) (or_cases (has is x) (has (flat_map spoken v.body) x) (sym (has-append is (flat_map spoken v.body) x) ∙ i))

reached_ordered : (v : FunctionValue) → MayBeCopied v → (k : ℕ) → has (reached_in v) k ≡ true → has (order_of v) k ≡ true
reached_ordered v may k i =
    let y = in_one (trail (links_of v)) (initialisers_in v ++ flat_map spoken v.body) k i in
    trail_in (links_of v) (order_of v) (walk_of_value v may).ready y.0 (roots_in v may y.0 y.1) k y.2

ordered_reached : (v : FunctionValue) → MayBeCopied v → (k : ℕ) → has (order_of v) k ≡ true → has (reached_in v) k ≡ true
ordered_reached v may k i =
    let ls = links_of v in
    let is = initialisers_in v in
    let a = flat_map (trail ls) is in
    let b = flat_map (trail ls) (flat_map spoken v.body) in
    ap (λ xs. has xs k) (flat_map-append (trail ls) is (flat_map spoken v.body)) ∙ has-append a b k ∙ ⊎_elim (λ j. or_left (has a k) (has b k) (sym (has-started ls is k) ∙ j)) (λ j. or_right (has a k) (has b k) (body_reached (kinds_in v) ls may.form.earlier v.body k j)) (or_cases (has (begun v) k) (has (body_list v) k) (sym (has-added (begun v) (body_list v) k) ∙ i))

pub order_reached : (v : FunctionValue) → MayBeCopied v → (k : ℕ) → has (order_of v) k ≡ has (reached_in v) k
order_reached v may k = same_bool (has (order_of v) k) (has (reached_in v) k) (ordered_reached v may k) (reached_ordered v may k)

-- ---- what has a copy

mapped : (f : ℕ → ℕ) (o : List ℕ) (h : ℕ) → has (map f o) h ≡ true → (k : ℕ) × (has o k ≡ true) × (f k ≡ h)
mapped f [] h i = absurd (false≢true i)
mapped f (x ∷ o) h i =
    ⊎_elim (λ j. (x, or_left (x == x) (has o x) (eq_eqb x x refl), eqb_eq (f x) h j)) (λ j. let y = mapped f o h j in (y.0, or_right (x == y.0) (has o y.0) y.1, y.2)) (or_cases (f x == h) (has (map f o) h) i)

-- each of the copies is that of an expression in the order
copied_from : (r : Renames) (es : Values) (s o : List ℕ) (t : Table) (v : Values) → AreCopies r es s o t v → ((k : ℕ) → has o k ≡ true → k < length es) → (h : ℕ) (e : Parts × Span) → slice_get v h ≡ Some e → (k : ℕ) × (a : Parts × Span) × (has o k ≡ true) × (slice_get es k ≡ Some a) × (place_under t k ≡ h) × (e.0 ≡ copied r t a.0)
copied_from r es s o t v c w h e at =
    let y = mapped (place_under t) o h (has_copy r es s o t v h c (slice_get_within v h e at)) in
    let k = y.0 in
    let a = there es k (w k y.1) in
    let b = c.reads k a.0 y.1 a.1 in
    let same : b.0 ≡ e = same_Some b.0 e (sym b.1 ∙ ap (slice_get v) y.2 ∙ at) in
    (k, a.0, y.1, a.1, y.2, ap (λ (x : Parts × Span). x.0) (sym same) ∙ b.2)

within_order : (v : FunctionValue) → MayBeCopied v → (k : ℕ) → has (order_of v) k ≡ true → k < length v.expressions
within_order v may k i =
    let size : length (links_of v) ≡ length v.expressions = length-map v.expressions (λ (e : Parts × Span). flat_map option_to_list e.0.operands) in
    let l = All-has (λ x. x < length (links_of v)) (order_of v) k (walk_of_value v may).within i in
    omega (arith, l, size)

pub reached : ReachedLaw
unfolding copy_function
reached r v may =
    let s = copy_expressions r v.expressions (order_of v) (length (begun v)) in
    let c = (copied_value r v may).copies in
    record {
      went = λ k. c.went k ∙ order_reached v may k;
      only = λ h e at. let y = copied_from r v.expressions (begun v) (order_of v) s.table s.values c (within_order v may) h e at in record { source = y.0; entry = y.1; reached = sym (order_reached v may y.0) ∙ y.2; at_source = y.3; place = y.4; reads = y.5 };
    }
