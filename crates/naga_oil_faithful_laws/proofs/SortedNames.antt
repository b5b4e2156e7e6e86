-- After functions are sorted each is there once, so that functions with names of their own still have them.
use Rattle.std.proofs.Common.{◌≡◌, ◌∙◌, ⊎_elim, ℕ, zero, suc, ◌+◌, ◌<◌, ◌≤◌, ◌==◌, Bool, true, false, cond, List, [], ◌∷◌, ◌++◌, map, length, take, get_or, slice_get, Option, Some, None, option_map, is_some, IsSome, Result, Ok, Err, All, refl, ap, sym, subst, arith, append_assoc, append-nil}
use Rattle.std.specs.List.{flat_map, range_with_len}
use Rattle.std.specs.Option.{option_flatten}
use Rattle.std.proofs.lemmas.Bool.{or_cases, false≢true}
use Rattle.std.proofs.lemmas.List.{length-map, map-append}
use Rattle.std.proofs.lemmas.List.Elements.{All-nil, All-head, All-tail}
use Rattle.std.proofs.lemmas.Option.{none-some, same_Some, slice_get-map}
use Rattle.naga_oil_form.specs.Links.{linked, has}
use Rattle.naga_oil_ir.specs.ModuleValue.{ModuleValue, FunctionValue, EntryValue}
use Rattle.naga_oil_ir.specs.RedirectFault.{RedirectFault}
use Rattle.naga_oil_ir.specs.Rows.{Text}
use Rattle.naga_oil_ir.specs.declared.names.ItemPlace.{ItemPlace}
use Rattle.naga_oil_ir.specs.declared.span.Span.{Span}
use Rattle.naga_oil_form.proofs.LinkLemmas.{All-has, has-append, only, linked-map, or_left, or_right, eqb_eq, eq_eqb}
use Rattle.naga_oil_rename.specs.Renames.{Renames}
use Rattle.naga_oil_derive.specs.Answered.{goes_by, answer_all, with_function}
use Rattle.naga_oil_derive.specs.CopiedEntry.{entry_names, import_items, EntriesState, entries_state, copy_entry, copy_entries, module_of, module_by, make_module}
use Rattle.naga_oil_derive.specs.Copied.{copy_item}
use Rattle.naga_oil_derive.specs.CopiedFunction.{copy_function}
use Rattle.naga_oil_derive.specs.Copying.{special_names}
use Rattle.naga_oil_derive.specs.World.{special_entries, shifted}
use Rattle.naga_oil_derive.specs.Derived.{Source, Derived, nothing}
use Rattle.naga_oil_derive.specs.DerivedFunctions.{Meanings, meant_at, meaning, requests_of}
use Rattle.naga_oil_derive.specs.DerivedValue.{by_source, copying_of, after_copying, importing_of, after_importing, import_item, import_function, answer_requests, set_source, first_places}
use Rattle.naga_oil_derive.proofs.MeaningLemmas.{meaning_same, meaning_more}
use Rattle.naga_oil_redirect.specs.Chain.{CallsWithin, HasNamedCalls}
use Rattle.naga_oil_redirect.specs.Level.{StayWithin, levels, passing, is_level, without_level, by_level}
use Rattle.naga_oil_redirect.specs.Ordered.{callees_of, calls_of, ordering, ordered}
use Rattle.naga_oil_redirect.specs.PutInOrder.{import_one, import_in_turn, in_turn, in_turn_if, put_in_order}
use Rattle.naga_oil_redirect.proofs.ChainNames.{name_at}
use Rattle.naga_oil_redirect.proofs.OrderLemmas.{passing_from, passing-cons}
use Rattle.naga_oil_redirect.proofs.TurnLemmas.{callees_before, each_in_order, order_within}
use Rattle.naga_oil_redirect.proofs.TurnNames.{answered, item_keeps, all_keeps}
use Rattle.naga_oil_faithful_laws.specs.OwnNames.{HaveOwnNames}

abbrev Function : Type 0
Function = FunctionValue × Span

-- ---- lists without repeats

Differ : List ℕ → Type 0
Differ [] = Unit {0}
Differ (x ∷ xs) = (has xs x ≡ false) × Differ xs

not_true : (b : Bool) → (b ≡ true → ⊥) → b ≡ false
not_true true f = absurd (f refl)
not_true false f = refl

differ_append : (xs ys : List ℕ) → Differ xs → Differ ys → ((k : ℕ) → has xs k ≡ true → has ys k ≡ true → ⊥) → Differ (xs ++ ys)
unfolding Differ
differ_append [] ys a b d = b
differ_append (x ∷ xs) ys a b d = (
  not_true (has (xs ++ ys) x) (λ e. ⊎_elim (λ (i : has xs x ≡ true). false≢true (sym a.0 ∙ i)) (λ (i : has ys x ≡ true). d x (or_left (x == x) (has xs x) (eq_eqb x x refl)) i) (or_cases (has xs x) (has ys x) (sym (has-append xs ys x) ∙ e))),
  differ_append xs ys a.1 b (λ k i j. d k (or_right (x == k) (has xs k) i) j),
)

has_at : (xs : List ℕ) (j k : ℕ) → slice_get xs j ≡ Some k → has xs k ≡ true
has_at [] j k e = absurd (none-some k e)
has_at (x ∷ xs) zero k e = or_left (x == k) (has xs k) (eq_eqb x k (same_Some x k e))
has_at (x ∷ xs) (suc j) k e = or_right (x == k) (has xs k) (has_at xs j k e)

differ_at : (xs : List ℕ) (i j k : ℕ) → Differ xs → slice_get xs i ≡ Some k → slice_get xs j ≡ Some k → i ≡ j
unfolding Differ
differ_at [] i j k d a b = absurd (none-some k a)
differ_at (x ∷ xs) zero zero k d a b = refl
differ_at (x ∷ xs) zero (suc j) k d a b = absurd (false≢true (sym d.0 ∙ ap (has xs) (same_Some x k a) ∙ has_at xs j k b))
differ_at (x ∷ xs) (suc i) zero k d a b = absurd (false≢true (sym d.0 ∙ ap (has xs) (same_Some x k b) ∙ has_at xs i k a))
differ_at (x ∷ xs) (suc i) (suc j) k d a b = ap suc (differ_at xs i j k d.1 a b)

-- ---- the order has each place once

-- what passes at a place, where places count from n
abbrev Passes : ℕ → (Option ℕ → Bool) → List (Option ℕ) → ℕ → Type 0
Passes n p xs k = (j : ℕ) × (o : Option ℕ) × (k ≡ n + j) × (slice_get xs j ≡ Some o) × (p o ≡ true)

passes_later : (n : ℕ) (p : Option ℕ → Bool) (x : Option ℕ) (xs : List (Option ℕ)) (k : ℕ) → Passes (n + 1) p xs k → Passes n p (x ∷ xs) k
passes_later n p x xs k r = (suc r.0, r.1, (let at = r.2 in omega (arith, at)), r.3, r.4)

passing_if : (n : ℕ) (p : Option ℕ → Bool) (x : Option ℕ) (xs : List (Option ℕ)) (k : ℕ) (b : Bool) → p x ≡ b → has (cond b (n ∷ passing_from (n + 1) p xs) (passing_from (n + 1) p xs)) k ≡ true → (has (passing_from (n + 1) p xs) k ≡ true → Passes (n + 1) p xs k) → Passes n p (x ∷ xs) k
passing_if n p x xs k true e h rest =
    ⊎_elim (λ i. (0, x, (let same = eqb_eq n k i in omega (arith, same)), refl, e)) (λ i. passes_later n p x xs k (rest i)) (or_cases (n == k) (has (passing_from (n + 1) p xs) k) h)
passing_if n p x xs k false e h rest = passes_later n p x xs k (rest h)

passing_is : (n : ℕ) (p : Option ℕ → Bool) (xs : List (Option ℕ)) (k : ℕ) → has (passing_from n p xs) k ≡ true → Passes n p xs k
passing_is n p [] k h = absurd (false≢true h)
passing_is n p (x ∷ xs) k h = passing_if n p x xs k (p x) refl (subst (λ ks. has ks k ≡ true) (passing-cons n p x xs) h) (passing_is (n + 1) p xs k)

passing_differ : (n : ℕ) (p : Option ℕ → Bool) (xs : List (Option ℕ)) → Differ (passing_from n p xs)
unfolding Differ
passing_differ n p [] = tt
passing_differ n p (x ∷ xs) = subst Differ (sym (passing-cons n p x xs)) (one (p x) (passing_differ (n + 1) p xs))
  where
    one : (b : Bool) → Differ (passing_from (n + 1) p xs) → Differ (cond b (n ∷ passing_from (n + 1) p xs) (passing_from (n + 1) p xs))
    one true d = (not_true (has (passing_from (n + 1) p xs) n) (λ i. let r = passing_is (n + 1) p xs n i in let e = r.2 in omega (arith, e)), d)
    one false d = d

flat_has : (f : ℕ → List ℕ) (a n k : ℕ) → has (flat_map f (range_with_len a n)) k ≡ true → (l : ℕ) × (a ≤ l) × (has (f l) k ≡ true)
flat_has f a zero k h = absurd (false≢true h)
flat_has f a (suc n) k h =
    let rest = flat_map f (range_with_len (a + 1) n) in
    ⊎_elim (λ i. (a, omega arith, i)) (λ i. (let r = flat_has f (a + 1) n k i in let low = r.1 in (r.0, omega (arith, low), r.2))) (or_cases (has (f a) k) (has rest k) (sym (has-append (f a) rest k) ∙ h))

is_that : (l : ℕ) (o : Option ℕ) → is_level l o ≡ true → o ≡ Some l
is_that l None h = absurd (false≢true h)
is_that l (Some m) h = ap Some (eqb_eq m l h)

-- a place has one level
one_level : (ls : List (Option ℕ)) (l m k : ℕ) → has (passing (is_level l) ls) k ≡ true → has (passing (is_level m) ls) k ≡ true → l ≡ m
one_level ls l m k a b =
    let r = passing_is 0 (is_level l) ls k a in
    let s = passing_is 0 (is_level m) ls k b in
    let e = r.2 in
    let f = s.2 in
    let place : r.0 ≡ s.0 = omega (arith, e, f) in
    let same : r.1 ≡ s.1 = same_Some r.1 s.1 (sym r.3 ∙ ap (slice_get ls) place ∙ s.3) in
    same_Some l m (sym (is_that l r.1 r.4) ∙ same ∙ is_that m s.1 s.4)

levels_differ : (ls : List (Option ℕ)) (a n : ℕ) → Differ (flat_map (λ l. passing (is_level l) ls) (range_with_len a n))
unfolding Differ
levels_differ ls a zero = tt
levels_differ ls a (suc n) =
    let f = λ (l : ℕ). passing (is_level l) ls in
    differ_append (f a) (flat_map f (range_with_len (a + 1) n)) (passing_differ 0 (is_level a) ls) (levels_differ ls (a + 1) n) (λ k i j. let r = flat_has f (a + 1) n k j in let low = r.1 in let same = one_level ls a r.0 k i r.2 in omega (arith, low, same))

order_is : (fs : List Function) (ls : List (Option ℕ)) (ks os : List ℕ) → ordering fs ls ks ≡ Ok os → os ≡ by_level ls
order_is fs ls [] os h = (let e : by_level ls ≡ os = cc in sym e)
order_is fs ls (k ∷ ks) os h = absurd cc

order_differs : (fs : List Function) (os : List ℕ) → ordered fs ≡ Ok os → Differ os
order_differs fs os e =
    let ls = levels (calls_of fs) in
    subst Differ (sym (order_is fs ls (without_level ls) os e)) (levels_differ ls 0 (length ls))

-- ---- one function after another

abbrev names_of : List Function → List Text
names_of fs = map (λ f. f.0.name) fs

copied_name : (r : Renames) (f : FunctionValue) → (copy_function r f).name ≡ f.name
unfolding copy_function
copied_name r f = refl

at_name : (fs : List Function) (k : ℕ) (f : Function) → slice_get fs k ≡ Some f → name_at fs k ≡ f.0.name
at_name fs k f e = ap (λ o. option_flatten (option_map (λ (f : Function). f.0.name) o)) e

something : (fs : List Function) (k : ℕ) → k < length fs → (e : Function) × (slice_get fs k ≡ Some e)
something [] k l = absurd (omega (arith, l))
something (e ∷ fs) zero l = (e, refl)
something (e ∷ fs) (suc k) l = something fs k (omega (arith, l))

module _ (m : ModuleValue) (h : HasNamedCalls m) where
  abbrev AreKnown : Meanings → List ℕ → Type 0
  AreKnown ns ks = (k : ℕ) → has ks k ≡ true → IsSome (meant_at ns (slice_get m.functions k))

  -- the functions so far are those at some places, in order
  record Turned (d : Derived) (ks : List ℕ) : Type 0 where
    source : Source
    is : d.source ≡ Some source
    value : source.value ≡ m
    known : AreKnown d.function_names ks
    names : names_of d.target.functions ≡ map (name_at m.functions) ks

  known_more : (ns : Meanings) (ks : List ℕ) (k : ℕ) (f : Function) (n : ℕ) → slice_get m.functions k ≡ Some f → AreKnown ns ks → AreKnown (meaning ns f.0.name n) (ks ++ k ∷ [])
  known_more ns ks k f n at known j among =
      ⊎_elim
      (λ a. later (slice_get m.functions j) (known j a))
      (λ a. subst (λ (o : Option Function). IsSome (meant_at (meaning ns f.0.name n) o)) (sym at ∙ ap (slice_get m.functions) (only k j a)) (ap is_some (meaning_same ns f.0.name n (h.named k f at))))
      (or_cases (has ks j) (has (k ∷ []) j) (sym (has-append ks (k ∷ []) j) ∙ among))
    where
      later : (o : Option Function) → IsSome (meant_at ns o) → IsSome (meant_at (meaning ns f.0.name n) o)
      later None i = absurd (false≢true i)
      later (Some e) i = meaning_more ns f.0.name n e.0.name i

  abbrev CallsKnown : Meanings → FunctionValue → Type 0
  CallsKnown ns f = AreKnown ns (callees_of f.body)

  turn_more : (d : Derived) (ks : List ℕ) (k : ℕ) (f : Function) → slice_get m.functions k ≡ Some f → CallsKnown d.function_names f.0 → Turned d ks → Turned (import_function d f.0 f.1) (ks ++ k ∷ [])
  turn_more d ks k f at calls t =
      let s = t.source in
      let i = answer_all (length s.value.functions) s.value s.offset (importing_of d s) (requests_of f.0) in
      let by_value = λ (c : ℕ) (a : has (callees_of f.0.body) c ≡ true). subst (λ (v : ModuleValue). IsSome (meant_at d.function_names (slice_get v.functions c))) (sym t.value) (calls c a) in
      let w = answered (length s.value.functions) s.value s.offset f.0 (importing_of d s) by_value in
      let r = goes_by s.value s.offset i in
      let g : Function = (copy_function r f.0, shifted s.offset f.1) in
      let last : names_of (i.functions ++ g ∷ []) ≡ map (name_at m.functions) (ks ++ k ∷ []) =
      map-append (λ (f : Function). f.0.name) i.functions (g ∷ [])
      ∙ ap (λ ns. ns ++ g.0.name ∷ []) (ap names_of w.functions ∙ t.names)
      ∙ ap (λ n. map (name_at m.functions) ks ++ n ∷ []) (copied_name r f.0 ∙ sym (at_name m.functions k f at))
      ∙ sym (map-append (name_at m.functions) ks (k ∷ [])) in
      let own : Turned (after_importing s (with_function s.value s.offset i f.0 f.1)) (ks ++ k ∷ []) = record {
        source = _;
        is = refl;
        value = t.value;
        known = known_more i.names ks k f (length i.functions) at (subst (λ ns. AreKnown ns ks) (sym w.names) t.known);
        names = last;
      } in
      subst (λ e. Turned e (ks ++ k ∷ [])) (sym (ap (by_source d (λ s. after_importing s (with_function s.value s.offset (answer_all (length s.value.functions) s.value s.offset (importing_of d s) (requests_of f.0)) f.0 f.1))) t.is)) own

  within_calls : (k : ℕ) (fs : List Function) → ((k : ℕ) (e : Function) → slice_get fs k ≡ Some e → CallsWithin m e.0) → All (λ c. c < length m.functions) (linked (calls_of fs) k)
  within_calls k [] all = All-nil (λ c. c < length m.functions)
  within_calls zero (f ∷ fs) all = all 0 f refl
  within_calls (suc k) (f ∷ fs) all = within_calls k fs (λ j e at. all (suc j) e at)

  stay_within : StayWithin (calls_of m.functions)
  stay_within k = subst (λ n. All (λ c. c < n) (linked (calls_of m.functions) k)) (sym (length-map m.functions (λ (f : Function). callees_of f.0.body))) (within_calls k m.functions h.functions)

  module _ (os : List ℕ) (order : ordered m.functions ≡ Ok os) where
    split_at : (done rest : List ℕ) (k : ℕ) → (get_or (done ++ k ∷ rest) (length done) 0 ≡ k) × (take (length done) (done ++ k ∷ rest) ≡ done) × (length done < length (done ++ k ∷ rest))
    split_at [] rest k = (refl, refl, omega arith)
    split_at (x ∷ done) rest k = let w = split_at done rest k in (w.0, ap (λ xs. x ∷ xs) w.1, (let l = w.2 in omega (arith, l)))

    called_before : (done rest : List ℕ) (k : ℕ) (f : Function) → os ≡ done ++ k ∷ rest → slice_get m.functions k ≡ Some f → (c : ℕ) → has (callees_of f.0.body) c ≡ true → has done c ≡ true
    called_before done rest k f e at c i =
        let w = split_at done rest k in
        let place : get_or os (length done) 0 ≡ k = ap (λ xs. get_or xs (length done) 0) e ∙ w.0 in
        let front : take (length done) os ≡ done = ap (take (length done)) e ∙ w.1 in
        let calls : linked (calls_of m.functions) k ≡ callees_of f.0.body = linked-map (λ (x : Function). callees_of x.0.body) m.functions k f at in
        ap (λ xs. has xs c) (sym front) ∙ callees_before m.functions stay_within os (length done) order (subst (λ xs. length done < length xs) (sym e) w.2) c (ap (λ j. has (linked (calls_of m.functions) j) c) place ∙ ap (λ xs. has xs c) calls ∙ i)

    turn_all : (rest done : List ℕ) (d : Derived) → os ≡ done ++ rest → All (λ k. k < length m.functions) rest → Turned d done → Turned (import_in_turn m d rest) os
    turn_all [] done d e a t = subst (Turned d) (sym (append-nil done) ∙ sym e) t
    turn_all (k ∷ rest) done d e a t =
        let f = something m.functions k (All-head (λ k. k < length m.functions) k rest a) in
        let more = turn_more d done k f.0 f.1 (λ c i. t.known c (called_before done rest k f.0 e f.1 c i)) t in
        let next = subst (λ x. Turned x (done ++ k ∷ [])) (sym (ap (import_one d) f.1)) more in
        turn_all rest (done ++ k ∷ []) (import_one d (slice_get m.functions k)) (e ∙ sym (append_assoc done (k ∷ []) rest)) (All-tail (λ k. k < length m.functions) k rest a) next

    begins : Turned (set_source nothing m 0) []
    begins = record {
      source = _;
      is = refl;
      value = refl;
      known = λ k i. absurd (false≢true i);
      names = ap names_of (all_keeps m 0 (record { places = first_places nothing m; target = nothing.target }) (special_names (special_entries m.special_types)));
    }

    -- ---- entry points

    same_answered : (d : Derived) (f : FunctionValue) → CallsKnown d.function_names f → Turned d os → Turned (answer_requests d (requests_of f)) os
    same_answered d f calls t =
        let s = t.source in
        let by_value = λ (c : ℕ) (a : has (callees_of f.body) c ≡ true). subst (λ (v : ModuleValue). IsSome (meant_at d.function_names (slice_get v.functions c))) (sym t.value) (calls c a) in
        let w = answered (length s.value.functions) s.value s.offset f (importing_of d s) by_value in
        let i = answer_all (length s.value.functions) s.value s.offset (importing_of d s) (requests_of f) in
        let own : Turned (after_importing s i) os = record { source = _; is = refl; value = t.value; known = subst (λ ns. AreKnown ns os) (sym w.names) t.known; names = ap names_of w.functions ∙ t.names } in
        subst (λ e. Turned e os) (sym (ap (by_source d (λ s. after_importing s (answer_all (length s.value.functions) s.value s.offset (importing_of d s) (requests_of f)))) t.is)) own

    same_item : (d : Derived) (p : ItemPlace) → Turned d os → Turned (import_item d p) os
    same_item d p t =
        let s = t.source in
        let c = copy_item s.value s.offset (copying_of d s) p in
        let own : Turned (after_copying d s c) os = record { source = _; is = refl; value = t.value; known = t.known; names = ap names_of (item_keeps s.value s.offset (copying_of d s) p) ∙ t.names } in
        subst (λ e. Turned e os) (sym (ap (by_source d (λ s. after_copying d s (copy_item s.value s.offset (copying_of d s) p))) t.is)) own

    same_items : (ps : List (Option ItemPlace)) (d : Derived) → Turned d os → Turned (import_items d ps) os
    same_items [] d t = t
    same_items (None ∷ ps) d t = same_items ps d t
    same_items (Some p ∷ ps) d t = same_items ps (import_item d p) (same_item d p t)

    same_entries : (vs : List EntryValue) (st : EntriesState) → ((i : ℕ) (v : EntryValue) → slice_get vs i ≡ Some v → CallsWithin m v.function) → Turned st.derived os → Turned (copy_entries st vs).derived os
    same_entries [] st ok t = t
    same_entries (v ∷ vs) st ok t =
        let d = st.derived in
        let calls = λ (c : ℕ) (i : has (callees_of v.function.body) c ≡ true). t.known c (each_in_order m.functions os order c (All-has (λ c. c < length m.functions) (callees_of v.function.body) c (ok 0 v refl) i)) in
        let e = answer_requests d (requests_of v.function) in
        same_entries vs (copy_entry st v) (λ i x at. ok (suc i) x at) (same_items (entry_names v) e (same_answered d v.function calls t))

    -- ---- the whole

    sorted_names : names_of (in_turn m os).functions ≡ map (name_at m.functions) os
    unfolding in_turn
    sorted_names =
        let d = import_in_turn m (set_source nothing m 0) os in
        let t = turn_all os [] (set_source nothing m 0) refl (order_within m.functions os (length m.functions) order refl) begins in
        let made : make_module d ≡ module_of (copy_entries (entries_state d []) m.entry_points) = ap (module_by d) t.is ∙ ap (λ (v : ModuleValue). module_of (copy_entries (entries_state d []) v.entry_points)) t.value in
        ap (λ (n : ModuleValue). names_of n.functions) made ∙ (same_entries m.entry_points (entries_state d []) h.entry_points t).names

    place_of : (o : Option ℕ) (n : Text) → option_map (name_at m.functions) o ≡ Some n → (k : ℕ) × (o ≡ Some k) × (name_at m.functions k ≡ n)
    place_of None n e = absurd (none-some n e)
    place_of (Some k) n e = (k, refl, same_Some (name_at m.functions k) n e)

    own_names : HaveOwnNames (in_turn m os)
    own_names j k e f at there same =
        let n = in_turn m os in
        let at_name = λ (i : ℕ) (x : Function) (is : slice_get n.functions i ≡ Some x). place_of (slice_get os i) x.0.name (sym (slice_get-map (name_at m.functions) os i) ∙ ap (λ xs. slice_get xs i) (sym sorted_names) ∙ slice_get-map (λ (f : Function). f.0.name) n.functions i ∙ ap (option_map (λ (f : Function). f.0.name)) is) in
        let a = at_name j e at in
        let b = at_name k f there in
        let within = λ (i o : ℕ) (is : slice_get os i ≡ Some o). something m.functions o (All-has (λ k. k < length m.functions) os o (order_within m.functions os (length m.functions) order refl) (has_at os i o is)) in
        let x = within j a.0 a.1 in
        let y = within k b.0 b.1 in
        let one : a.0 ≡ b.0 = h.distinct a.0 b.0 x.0 y.0 x.1 y.1 (sym (at_name_of a.0 x.0 x.1) ∙ a.2 ∙ same ∙ sym b.2 ∙ at_name_of b.0 y.0 y.1) in
        differ_at os j k b.0 (order_differs m.functions os order) (a.1 ∙ ap (λ o. Some o) one) b.1
      where
        at_name_of : (o : ℕ) (x : Function) → slice_get m.functions o ≡ Some x → name_at m.functions o ≡ x.0.name
        at_name_of o x is = at_name m.functions o x is

order_found : (m n : ModuleValue) (r : Result (List ℕ) RedirectFault) → in_turn_if m r ≡ Ok n → (os : List ℕ) × (r ≡ Ok os) × (in_turn m os ≡ n)
order_found m n (Ok os) e = (os, refl, (let q : in_turn m os ≡ n = cc in q))
order_found m n (Err f) e = absurd cc

-- a module whose functions have names of their own still has them when it is sorted
pub sorted_own_names : (m n : ModuleValue) → HasNamedCalls m → put_in_order m ≡ Ok n → HaveOwnNames n
sorted_own_names m n h e = let w = order_found m n (ordered m.functions) e in subst HaveOwnNames w.2 (own_names m h w.0 w.1)
