-- What a build holds has the functions that its names reach, each once, in the order of first reach.
use Rattle.std.proofs.Common.{◌≡◌, ⊎_elim, ◌⊎◌, inl, inr, ℕ, zero, suc, ◌<◌, Bool, true, false, ◌||◌, if◌then◌else◌, List, [], ◌∷◌, ◌++◌, fold, map, length, Option, Some, None, is_some, slice_get, All, refl, ap, sym, ◌∙◌, subst, arith}
use Rattle.std.specs.List.{filter, list_any}
use Rattle.std.proofs.lemmas.Bool.{false≢true}
use Rattle.std.proofs.lemmas.List.Elements.{All-head, All-tail}
use Rattle.std.proofs.lemmas.List.Folds.{list_any-append}
use Rattle.std.proofs.lemmas.Slice.Eq.{bytes_eq-Decides}
use Rattle.naga_oil_ir.specs.ModuleValue.{ModuleValue}
use Rattle.naga_oil_ir.specs.Rows.{Text}
use Rattle.naga_oil_ir.specs.declared.names.ItemPlace.{ItemPlace}
use Rattle.naga_oil_ir.specs.declared.names.ItemPlace.TheVariants.{TypeItem, ConstantItem, OverrideItem, GlobalItem, ExpressionItem}
use Rattle.naga_oil_form_laws.specs.FunctionForm.{AreFunctionsFormed}
use Rattle.naga_oil_form_laws.specs.TurnForm.{MayComeInTurn, IsNameBefore, import_functions, no_name}
use Rattle.naga_oil_form_laws.proofs.ImportLemmas.{each_comes}
use Rattle.naga_oil_form_laws.proofs.TurnLemmas.{passing_in_turn}
use Rattle.naga_oil_redirect.proofs.RedirectForm.{callees_below}
use Rattle.naga_oil_redirect.specs.Ordered.{callees_of}
use Rattle.naga_oil_derive.specs.Derived.{Derived, nothing}
use Rattle.naga_oil_derive.specs.DerivedFunctions.{meant}
use Rattle.naga_oil_derive.specs.DerivedValue.{import_function}
use Rattle.naga_oil_link.specs.CopiedBuild.{OwnCopies, import_own, copy_own, copy_other, copy_at, nothing_copied, copy_places, has_name_among, copy_with_body}
use Rattle.naga_oil_words.specs.Texts.{is_among}
use Rattle.naga_oil_link.specs.OwnPlaces.{OwnPlaces, is_own}
use Rattle.naga_oil_link.specs.Places.{places_of}
use Rattle.naga_oil_collected_laws.specs.CollectedLaw.{HeldFunctionsLaw}
use Rattle.naga_oil_collected_laws.specs.FirstReach.{Reached, from, is_named, has_name, is_named_so, Follow, follow_by, follow, follow_calls, reach}
use Rattle.naga_oil_collected_laws.proofs.Follows.{Function}
use Rattle.naga_oil_collected_laws.proofs.Requests.{filter_same, names_taken}
use Rattle.naga_oil_collected_laws.proofs.Imported.{HasFrom, source_set, item_imported, type_renamed, after_calls, function_imported, made_functions}

-- ---- items bring no functions

own_imported : (m : ModuleValue) (decoration : List ℕ) (rs : List Reached) (d : Derived) (p : ItemPlace) → HasFrom m 0 rs d → HasFrom m 0 rs (import_own m decoration d p)
own_imported m n rs d (TypeItem k) h = type_renamed m 0 rs d k _ h
own_imported m n rs d (ConstantItem k) h = item_imported m 0 rs d (ConstantItem k) h
own_imported m n rs d (OverrideItem k) h = item_imported m 0 rs d (OverrideItem k) h
own_imported m n rs d (GlobalItem k) h = item_imported m 0 rs d (GlobalItem k) h
own_imported m n rs d (ExpressionItem k) h = item_imported m 0 rs d (ExpressionItem k) h

other_imported : (m : ModuleValue) (all : Bool) (rs : List Reached) (c : OwnCopies) (p : ItemPlace) → HasFrom m 0 rs c.derived → HasFrom m 0 rs (copy_other all c p).derived
other_imported m false rs c p h = h
other_imported m true rs c (TypeItem k) h = item_imported m 0 rs c.derived (TypeItem k) h
other_imported m true rs c (ConstantItem k) h = h
other_imported m true rs c (OverrideItem k) h = h
other_imported m true rs c (GlobalItem k) h = h
other_imported m true rs c (ExpressionItem k) h = h

place_imported : (m : ModuleValue) (all : Bool) (decoration : List ℕ) (rs : List Reached) (c : OwnCopies) (p : ItemPlace) → HasFrom m 0 rs c.derived → (own : Bool) → HasFrom m 0 rs (if own then copy_own m decoration c p else copy_other all c p).derived
place_imported m all n rs c p h true = own_imported m n rs c.derived p h
place_imported m all n rs c p h false = other_imported m all rs c p h

places_imported : (m : ModuleValue) (all : Bool) (own : OwnPlaces) (decoration : List ℕ) (rs : List Reached) (ps : List ItemPlace) (c : OwnCopies) → HasFrom m 0 rs c.derived → HasFrom m 0 rs (fold (copy_at all m own decoration) c ps).derived
places_imported m all own n rs [] c h = h
places_imported m all own n rs (p ∷ ps) c h = places_imported m all own n rs ps (copy_at all m own n c p) (place_imported m all n rs c p h (is_own own p))

pub none_known : (n : Text) → is_some (meant [] n) ≡ has_name [] n
none_known None = refl
none_known (Some n) = refl

pub begun : (m : ModuleValue) (all : Bool) (own : OwnPlaces) (decoration : List ℕ) → HasFrom m 0 [] (copy_places all m own decoration).derived
unfolding copy_places
begun m all own n = places_imported m all own n [] (places_of m) (nothing_copied m) (source_set m 0 [] nothing (record { copies = tt; names = none_known }))

-- ---- what is reached stands before

or_either : (a b : Bool) → (a || b) ≡ true → (a ≡ true) ⊎ (b ≡ true)
or_either true b h = inl refl
or_either false b h = inr h

is_itself : (n : List ℕ) (t : Text) → is_named n t ≡ true → t ≡ Some n
is_itself n None h = absurd (false≢true h)
is_itself n (Some t) h = ap Some (sym ((bytes_eq-Decides n t).0 h))

-- a name after a function is one before, or the function's
pub name_after : (rs : List Reached) (r : Reached) (x : Text) → has_name (rs ++ r ∷ []) x ≡ true → (has_name rs x ≡ true) ⊎ (r.function.0.name ≡ x)
name_after rs r None h = absurd (false≢true h)
name_after rs r (Some n) h =
    let test = λ (y : Reached). is_named n y.function.0.name in
    ⊎_elim (λ (old : list_any test rs ≡ true). inl old) (λ (new : (is_named n r.function.0.name || false) ≡ true). inr (is_itself n r.function.0.name (⊎_elim (λ (y : is_named n r.function.0.name ≡ true). y) (λ (y : false ≡ true). absurd (false≢true y)) (or_either (is_named n r.function.0.name) false new)))) (or_either (list_any test rs) (is_named n r.function.0.name || false) (sym (list_any-append test rs (r ∷ [])) ∙ h))

module _ (m : ModuleValue) (form : AreFunctionsFormed m 4294967295) where
  -- what a function that stands before a place reaches is reached already, or stands before that place
  abbrev Before : ℕ → Follow → Type 0
  Before c f = (rs : List Reached) (k : ℕ) (x : Text) → k < c → has_name (f rs k) x ≡ true → (has_name rs x ≡ true) ⊎ IsNameBefore m c x

  each_before : (c : ℕ) (f : Follow) → Before c f → (ks : List ℕ) (rs : List Reached) (x : Text) → All (λ k. k < c) ks → has_name (fold f rs ks) x ≡ true → (has_name rs x ≡ true) ⊎ IsNameBefore m c x
  each_before c f b [] rs x a h = inl h
  each_before c f b (k ∷ ks) rs x a h = ⊎_elim (λ (old : has_name (f rs k) x ≡ true). b rs k x (All-head (λ k. k < c) k ks a) old) inr (each_before c f b ks (f rs k) x (All-tail (λ k. k < c) k ks a) h)

  earlier_still : (c k : ℕ) (x : Text) → k < c → IsNameBefore m k x → IsNameBefore m c x
  earlier_still c k x l h = (h.0, h.1, (let s = h.2 in let r : h.0 < c = omega (arith, s, l) in r), h.3, h.4)

  calls_below : (k : ℕ) (e : Function) → slice_get m.functions k ≡ Some e → All (λ j. j < k) (callees_of e.0.body)
  calls_below k e at = callees_below k 4294967295 e.0.body (each_comes m k e form at).form.statements

  follow_before : (n c : ℕ) → Before c (follow n m 0)
  unfolding follow
  follow_before zero c rs k x l h = inl h
  follow_before (suc n) c rs k x l h = one (follow_before n k) (slice_get m.functions k) refl h
    where
      one : Before k (follow n m 0) → (o : Option Function) → slice_get m.functions k ≡ o → has_name (follow_by (follow n m 0) m 0 rs o) x ≡ true → (has_name rs x ≡ true) ⊎ IsNameBefore m c x
      one earlier None at g = inl g
      one earlier (Some e) at g = new (has_name rs e.0.name) g
        where
          new : (b : Bool) → has_name (if b then rs else fold (follow n m 0) rs (callees_of e.0.body) ++ from m 0 e ∷ []) x ≡ true → (has_name rs x ≡ true) ⊎ IsNameBefore m c x
          new true g = inl g
          new false g =
              ⊎_elim
              (λ (old : has_name (fold (follow n m 0) rs (callees_of e.0.body)) x ≡ true). ⊎_elim inl (λ (y : IsNameBefore m k x). inr (earlier_still c k x l y)) (each_before k (follow n m 0) earlier (callees_of e.0.body) rs x (calls_below k e at) old))
              (λ (is : e.0.name ≡ x). inr (k, e, l, at, is))
              (name_after (fold (follow n m 0) rs (callees_of e.0.body)) (from m 0 e) x g)

  -- ---- one after another

  pub fewer : (K L : Text → Type 0) (vs : List Function) → ((x : Text) → L x → K x) → MayComeInTurn m K vs → MayComeInTurn m L vs
  fewer K L [] f h = tt
  fewer K L (v ∷ vs) f h =
      (h.0, h.1, (λ x. h.2 (f v.0.name x)), fewer (λ x. K x ⊎ (IsNameBefore m h.0 x ⊎ (x ≡ v.0.name))) (λ x. L x ⊎ (IsNameBefore m h.0 x ⊎ (x ≡ v.0.name))) vs (λ x y. ⊎_elim (λ l. inl (f x l)) inr y) h.3)

  abbrev pub Named : List Reached → Text → Type 0
  Named rs x = has_name rs x ≡ true

  -- the next function isn't reached yet
  pub is_fresh : (v : Function) (vs : List Function) (rs : List Reached) → MayComeInTurn m (Named rs) (v ∷ vs) → has_name rs v.0.name ≡ false
  is_fresh v vs rs t = is_not (has_name rs v.0.name) t.2
    where
      is_not : (b : Bool) → (b ≡ true → ⊥) → b ≡ false
      is_not true f = absurd (f refl)
      is_not false f = refl

  -- and those after it may come after what it calls
  pub turn_after : (v : Function) (vs : List Function) (rs : List Reached) → MayComeInTurn m (Named rs) (v ∷ vs) → MayComeInTurn m (Named (after_calls m 0 rs v)) vs
  turn_after v vs rs t =
      let after = after_calls m 0 rs v in
      let known : (x : Text) → Named after x → Named rs x ⊎ (IsNameBefore m t.0 x ⊎ (x ≡ v.0.name)) = λ x y.
      ⊎_elim
      (λ (old : has_name (follow_calls m 0 rs v.0.body) x ≡ true). ⊎_elim (λ (z : Named rs x). inl z) (λ (z : IsNameBefore m t.0 x). inr (inl z)) (each_before t.0 (follow (length m.functions) m 0) (follow_before (length m.functions) t.0) (callees_of v.0.body) rs x (callees_below t.0 4294967295 v.0.body t.1.form.statements) old))
      (λ (is : v.0.name ≡ x). inr (inr (sym is)))
      (name_after (follow_calls m 0 rs v.0.body) (from m 0 v) x y) in
      fewer (λ x. Named rs x ⊎ (IsNameBefore m t.0 x ⊎ (x ≡ v.0.name))) (Named after) vs known t.3

  in_turn : (vs : List Function) (rs : List Reached) (d : Derived) → MayComeInTurn m (Named rs) vs → HasFrom m 0 rs d → HasFrom m 0 (fold reach rs (map (from m 0) vs)) (import_functions d vs)
  in_turn [] rs d t h = h
  in_turn (v ∷ vs) rs d t h =
      let after = after_calls m 0 rs v in
      let same : reach rs (from m 0 v) ≡ after = ap (λ (b : Bool). if b then rs else after) (is_fresh v vs rs t) in
      subst (λ qs. HasFrom m 0 (fold reach qs (map (from m 0) vs)) (import_functions (import_function d v.0 v.1) vs)) (sym same)
      (in_turn vs after (import_function d v.0 v.1) (turn_after v vs rs t) (function_imported m 0 rs d v h))

-- ---- the functions with the names

abbrev pub among : List (List ℕ) → Function → Bool
among names f = has_name_among names f.0.name

pub bodies_imported : (names : List (List ℕ)) (fs : List Function) (d : Derived) → fold (copy_with_body names) d fs ≡ import_functions d (filter (among names) fs)
bodies_imported names [] d = refl
bodies_imported names (f ∷ fs) d = one (bodies_imported names fs) (among names f)
  where
    one : ((e : Derived) → fold (copy_with_body names) e fs ≡ import_functions e (filter (among names) fs)) → (b : Bool) → fold (copy_with_body names) (if b then import_function d f.0 f.1 else d) fs ≡ import_functions d (if b then f ∷ filter (among names) fs else filter (among names) fs)
    one rest true = rest (import_function d f.0 f.1)
    one rest false = rest d

pub no_name_yet : (x : Text) → has_name [] x ≡ true → no_name x
no_name_yet None h = absurd (false≢true h)
no_name_yet (Some n) h = absurd (false≢true h)

pub held_functions : HeldFunctionsLaw
held_functions m own decoration names form =
    let d = (copy_places true m own decoration).derived in
    let test = λ (f : Function). is_named_so (is_among names) f.0.name in
    let vs = filter test m.functions in
    let turn : MayComeInTurn m (λ x. has_name [] x ≡ true) vs = fewer m form.functions no_name (λ x. has_name [] x ≡ true) vs no_name_yet (passing_in_turn m test form) in
    let all = in_turn m form.functions vs [] d turn (begun m true own decoration) in
    let same : fold (copy_with_body names) d m.functions ≡ import_functions d vs = bodies_imported names m.functions d ∙ ap (import_functions d) (filter_same (among names) test (names_taken names) m.functions) in
    made_functions m (fold reach [] (map (from m 0) vs)) (fold (copy_with_body names) d m.functions) (subst (HasFrom m 0 (fold reach [] (map (from m 0) vs))) (sym same) all)
