-- What a link holds has the functions that are requested and what they call, each once, in the order of first reach.
use Rattle.std.proofs.Common.{◌≡◌, ⊎_elim, ◌⊎◌, inl, inr, ℕ, zero, suc, ◌*◌, Bool, true, false, ◌||◌, ◌&&◌, if◌then◌else◌, List, [], ◌∷◌, ◌++◌, fold, map, length, reverse, take, Option, Some, None, is_some, IsSome, slice_get, bytes_eq, All, refl, ap, sym, ◌∙◌, subst}
use Rattle.std.specs.List.{filter, flat_map, list_any}
use Rattle.std.proofs.lemmas.Bool.{false≢true}
use Rattle.std.proofs.lemmas.List.Elements.{All-nil, All-cons, All-append, All-weaker, All-head, All-tail}
use Rattle.std.proofs.lemmas.List.Folds.{list_any-append}
use Rattle.std.proofs.lemmas.List.Sums.{fold-append}
use Rattle.std.proofs.lemmas.Slice.Eq.{bytes_eq-Decides}
use Rattle.naga_oil_form.proofs.LinkLemmas.{or_left, or_right}
use Rattle.naga_oil_ir.specs.ModuleValue.{ModuleValue}
use Rattle.naga_oil_ir.specs.Rows.{Text}
use Rattle.naga_oil_ir.specs.Spans.{span_stride}
use Rattle.naga_oil_words.specs.Texts.{is_among}
use Rattle.naga_oil_imports.specs.Uses.{Import}
use Rattle.naga_oil_redirect.specs.Ordered.{callees_of}
use Rattle.naga_oil_derive.specs.Derived.{Derived, nothing}
use Rattle.naga_oil_derive.specs.DerivedFunctions.{meant}
use Rattle.naga_oil_derive.specs.DerivedValue.{import_item, set_source}
use Rattle.naga_oil_link.specs.BuiltModule.{BuiltModule, Builds}
use Rattle.naga_oil_link.specs.Linked.{LinkState, Asked, links_place, links_function, link_function, link_items, asked_of, enter, link_asked, link_within, link_import, link_imports, link_whole, nothing_linked}
use Rattle.naga_oil_link.specs.Places.{places_of}
use Rattle.naga_oil_link_laws.specs.Headers.{HaveOwnNames}
use Rattle.naga_oil_link_laws.proofs.Asks.{Entry, AllAfter}
use Rattle.naga_oil_link_laws.proofs.Imports.{HasBuild, not_back, gathered}
use Rattle.naga_oil_collected_laws.specs.CollectedLaw.{LinkedFunctionsLaw}
use Rattle.naga_oil_collected_laws.specs.FirstReach.{Reached, from, is_named, has_name, Follow, follow_new, follow_by, follow, reach, is_named_so, requested_of, import_names, all_names, import_requests, link_requests}
use Rattle.naga_oil_collected_laws.proofs.Follows.{Function}
use Rattle.naga_oil_collected_laws.proofs.Requests.{filter_same, is_requested, import_takes, all_taken}
use Rattle.naga_oil_collected_laws.proofs.Imported.{Has, source_set, items_imported, functions_linked, made_functions}

-- ---- names stay

abbrev Stay : List Reached → List Reached → Type 0
Stay rs qs = (n : Text) → has_name rs n ≡ true → has_name qs n ≡ true

pub stay_before : (rs : List Reached) (r : Reached) → Stay rs (rs ++ r ∷ [])
stay_before rs r None h = h
stay_before rs r (Some n) h =
    let test = λ (y : Reached). is_named n y.function.0.name in
    list_any-append test rs (r ∷ []) ∙ or_left (list_any test rs) (is_named n r.function.0.name || false) h

each_stay : (f : Follow) → ((rs : List Reached) (k : ℕ) → Stay rs (f rs k)) → (ks : List ℕ) (rs : List Reached) → Stay rs (fold f rs ks)
each_stay f h [] rs n y = y
each_stay f h (k ∷ ks) rs n y = each_stay f h ks (f rs k) n (h rs k n y)

new_stay : (f : Follow) → ((rs : List Reached) (k : ℕ) → Stay rs (f rs k)) → (rs : List Reached) (r : Reached) → Stay rs (follow_new f rs r)
new_stay f h rs r n y = one (has_name rs r.function.0.name)
  where
    one : (b : Bool) → has_name (if b then rs else fold f rs (callees_of r.function.0.body) ++ r ∷ []) n ≡ true
    one true = y
    one false = stay_before (fold f rs (callees_of r.function.0.body)) r n (each_stay f h (callees_of r.function.0.body) rs n y)

follow_stay : (n : ℕ) (m : ModuleValue) (shift : ℕ) (rs : List Reached) (k : ℕ) → Stay rs (follow n m shift rs k)
unfolding follow
follow_stay zero m shift rs k x y = y
follow_stay (suc n) m shift rs k x y = one (follow_stay n m shift) (slice_get m.functions k)
  where
    one : ((rs : List Reached) (k : ℕ) → Stay rs (follow n m shift rs k)) → (o : Option Function) → has_name (follow_by (follow n m shift) m shift rs o) x ≡ true
    one stay None = y
    one stay (Some e) = new_stay (follow n m shift) stay rs (from m shift e) x y

reach_stay : (rs : List Reached) (r : Reached) → Stay rs (reach rs r)
reach_stay rs r = new_stay (follow (length r.source.functions) r.source r.offset) (follow_stay (length r.source.functions) r.source r.offset) rs r

all_stay : (qs rs : List Reached) → Stay rs (fold reach rs qs)
all_stay [] rs n y = y
all_stay (q ∷ qs) rs n y = all_stay qs (reach rs q) n (reach_stay rs q n y)

-- ---- functions whose names are known

abbrev Known : List Reached → Reached → Type 0
Known rs r = has_name rs r.function.0.name ≡ true

-- they bring nothing
known_again : (qs rs : List Reached) → All (Known rs) qs → fold reach rs qs ≡ rs
known_again [] rs a = refl
known_again (q ∷ qs) rs a =
    let same : reach rs q ≡ rs = ap (λ (b : Bool). if b then rs else fold (follow (length q.source.functions) q.source q.offset) rs (callees_of q.function.0.body) ++ q ∷ []) (All-head (Known rs) q qs a) in
    ap (λ ps. fold reach ps qs) same ∙ known_again qs rs (All-tail (Known rs) q qs a)

known_later : (rs ps qs : List Reached) → Stay rs ps → All (Known rs) qs → All (Known ps) qs
known_later rs ps qs s a = All-weaker (Known rs) (Known ps) (λ (r : Reached) h. s r.function.0.name h) qs a

abbrev HasName : Reached → Type 0
HasName r = IsSome r.function.0.name

-- a function is known after it is reached
itself : (rs : List Reached) (r : Reached) → HasName r → Known (reach rs r) r
itself rs r s = one (has_name rs r.function.0.name) refl
  where
    last : (before : List Reached) (t : Text) → IsSome t → r.function.0.name ≡ t → has_name (before ++ r ∷ []) t ≡ true
    last before None h e = absurd (false≢true h)
    last before (Some n) h e =
        let test = λ (y : Reached). is_named n y.function.0.name in
        list_any-append test before (r ∷ []) ∙ or_right (list_any test before) (is_named n r.function.0.name || false) (or_left (is_named n r.function.0.name) false (ap (is_named n) e ∙ (bytes_eq-Decides n n).1 refl))

    one : (b : Bool) → has_name rs r.function.0.name ≡ b → has_name (if b then rs else fold (follow (length r.source.functions) r.source r.offset) rs (callees_of r.function.0.body) ++ r ∷ []) r.function.0.name ≡ true
    one true e = e
    one false e = last (fold (follow (length r.source.functions) r.source r.offset) rs (callees_of r.function.0.body)) r.function.0.name s refl

all_known : (qs rs : List Reached) → All HasName qs → All (Known (fold reach rs qs)) qs
all_known [] rs a = All-nil (Known rs)
all_known (q ∷ qs) rs a = All-cons (Known (fold reach (reach rs q) qs)) q qs (all_stay qs (reach rs q) q.function.0.name (itself rs q (All-head HasName q qs a))) (all_known qs (reach rs q) (All-tail HasName q qs a))

-- ---- what is requested has names

passing_named : (test : List ℕ → Bool) (t : Text) → is_named_so test t ≡ true → IsSome t
passing_named test None h = absurd (false≢true h)
passing_named test (Some n) h = refl

each_named : (b : BuiltModule) (test : List ℕ → Bool) (fs : List Function) → All HasName (map (from b.value (b.index * span_stride)) (filter (λ (f : Function). is_named_so test f.0.name) fs))
each_named b test [] = All-nil HasName
each_named b test (f ∷ fs) = one (each_named b test fs) (is_named_so test f.0.name) refl
  where
    one : All HasName (map (from b.value (b.index * span_stride)) (filter (λ (f : Function). is_named_so test f.0.name) fs)) → (c : Bool) → is_named_so test f.0.name ≡ c → All HasName (map (from b.value (b.index * span_stride)) (if c then f ∷ filter (λ (f : Function). is_named_so test f.0.name) fs else filter (λ (f : Function). is_named_so test f.0.name) fs))
    one rest true e = All-cons HasName (from b.value (b.index * span_stride) f) (map (from b.value (b.index * span_stride)) (filter (λ (f : Function). is_named_so test f.0.name) fs)) (passing_named test f.0.name e) rest
    one rest false e = rest

pub requested_named : (requests : List ℕ → Bool) (b : BuiltModule) → All HasName (requested_of requests b)
requested_named requests b = each_named b (λ n. requests n && is_among b.functions n) b.value.functions

flat_named : (f : Import → List Reached) → ((i : Import) → All HasName (f i)) → (is : List Import) → All HasName (flat_map f is)
flat_named f h [] = All-nil HasName
flat_named f h (i ∷ is) = All-append HasName (f i) (flat_map f is) (h i) (flat_named f h is)

import_named : (bs : Builds) (i : Import) → All HasName (import_requests bs i)
unfolding import_requests
import_named [] i = All-nil HasName
import_named (e ∷ bs) i = one (import_named bs) (bytes_eq i.import e.0)
  where
    one : ((i : Import) → All HasName (import_requests bs i)) → (b : Bool) → All HasName (if b then flat_map (import_requests bs) e.1.imports ++ requested_of (import_names i e.1) e.1 else import_requests bs i)
    one earlier true = All-append HasName (flat_map (import_requests bs) e.1.imports) (requested_of (import_names i e.1) e.1) (flat_named (import_requests bs) earlier e.1.imports) (requested_named (import_names i e.1) e.1)
    one earlier false = earlier i

-- ---- what is linked of one build

build_linked : (b : BuiltModule) (asked : Asked) (requests : List ℕ → Bool) → ((f : Function) → links_function b asked f ≡ is_requested requests b f) → (rs : List Reached) (d : Derived) → Has rs d → Has (fold reach rs (requested_of requests b)) (link_items false b asked d)
unfolding link_items
build_linked b asked requests takes rs d h =
    let m = b.value in
    let shift = b.index * span_stride in
    let fs = filter (links_function b asked) m.functions in
    let ps = filter (links_place b.own_in_value m asked) (places_of m) in
    let e = fold import_item (set_source d m shift) ps in
    let set = source_set m shift rs d h in
    let all = functions_linked m shift fs rs e (items_imported m shift rs ps (set_source d m shift) set) in
    let last : Has (fold reach rs (map (from m shift) fs)) (fold link_function e fs) = all.has in
    let same : fs ≡ filter (is_requested requests b) m.functions = filter_same (links_function b asked) (is_requested requests b) takes m.functions in
    let now : Has (fold reach rs (requested_of requests b)) (fold link_function e fs) = subst (λ (gs : List Function). Has (fold reach rs (map (from m shift) gs)) (fold link_function e fs)) same last in
    record { copies = now.copies; names = now.names }

-- ---- imports

-- if the imports of a build were entered, what they request is known
abbrev pub Closed : Builds → LinkState → List Reached → Type 0
Closed [] s rs = Unit {0}
Closed (e ∷ earlier) s rs = (is_among s.entered e.0 ≡ true → All (Known rs) (flat_map (import_requests earlier) e.1.imports)) × Closed earlier s rs

closed_later : (bs : Builds) (s u : LinkState) (rs qs : List Reached) → Stay rs qs → ((n : List ℕ) → HasBuild bs n → is_among u.entered n ≡ true → is_among s.entered n ≡ true) → Closed bs s rs → Closed bs u qs
closed_later [] s u rs qs stay entered c = tt
closed_later (e ∷ bs) s u rs qs stay entered c = (
  (λ is. known_later rs qs (flat_map (import_requests bs) e.1.imports) stay (c.0 (entered e.0 (inl refl) is))),
  closed_later bs s u rs qs stay (λ n h. entered n (inr h)) c.1,
)

-- after a link from some builds that reaches more functions
pub record Comes (bs : Builds) (s u : LinkState) (qs : List Reached) : Type 0 where
  pub has : Has qs u.derived
  entered : (n : List ℕ) → is_among u.entered n ≡ true → (is_among s.entered n ≡ true) ⊎ HasBuild bs n
  closed : Closed bs u qs

abbrev pub ComesSo : Builds → (LinkState → Import → LinkState) → (Import → List Reached) → Type 0
ComesSo bs f asks = (s : LinkState) (rs : List Reached) (i : Import) → Has rs s.derived → Closed bs s rs → Comes bs s (f s i) (fold reach rs (asks i))

pub each_comes : (bs : Builds) (f : LinkState → Import → LinkState) (asks : Import → List Reached) → ComesSo bs f asks → (is : List Import) (s : LinkState) (rs : List Reached) → Has rs s.derived → Closed bs s rs → Comes bs s (fold f s is) (fold reach rs (flat_map asks is))
each_comes bs f asks h [] s rs a c = record { has = a; entered = λ n is. inl is; closed = c }
each_comes bs f asks h (i ∷ is) s rs a c =
    let one = h s rs i a c in
    let t = f s i in
    let qs = fold reach rs (asks i) in
    let more = each_comes bs f asks h is t qs one.has one.closed in
    subst (Comes bs s (fold f t is)) (sym (fold-append reach rs (asks i) (flat_map asks is)))
    (record { has = more.has; entered = λ n is. ⊎_elim (one.entered n) (λ (x : HasBuild bs n). inr x) (more.entered n is); closed = more.closed })

or_split : (a b : Bool) → (a || b) ≡ true → (a ≡ true) ⊎ (b ≡ true)
or_split true b h = inl refl
or_split false b h = inr h

-- the imports of a build are entered
module _ (bs : Builds) (e : Entry) (apart : HasBuild bs e.0 → ⊥) (rest : ComesSo bs (link_import false bs) (import_requests bs)) where
  abbrev wants : List Reached
  wants = flat_map (import_requests bs) e.1.imports

  record Within (s u : LinkState) (qs : List Reached) : Type 0 where
    has : Has qs u.derived
    entered : (n : List ℕ) → is_among u.entered n ≡ true → (is_among s.entered n ≡ true) ⊎ HasBuild (e ∷ bs) n
    closed : Closed bs u qs
    known : All (Known qs) wants

  entering : (s : LinkState) (n : List ℕ) → is_among (enter e.0 s).entered n ≡ true → (is_among s.entered n ≡ true) ⊎ HasBuild (e ∷ bs) n
  entering s n is = ⊎_elim (λ (own : bytes_eq n e.0 ≡ true). inr (inl (sym ((bytes_eq-Decides n e.0).0 own)))) (λ (old : is_among s.entered n ≡ true). inl old) (or_split (bytes_eq n e.0) (is_among s.entered n) is)

  entered_other : (s : LinkState) (n : List ℕ) → HasBuild bs n → is_among (enter e.0 s).entered n ≡ true → is_among s.entered n ≡ true
  entered_other s n h is = ⊎_elim (λ (own : bytes_eq n e.0 ≡ true). absurd (apart (subst (HasBuild bs) ((bytes_eq-Decides n e.0).0 own) h))) (λ (old : is_among s.entered n ≡ true). old) (or_split (bytes_eq n e.0) (is_among s.entered n) is)

  within_comes : (s : LinkState) (rs : List Reached) → Has rs s.derived → Closed (e ∷ bs) s rs → Within s (link_within (link_import false bs) e s) (fold reach rs wants)
  within_comes s rs a c = one (is_among s.entered e.0) refl
    where
      one : (b : Bool) → is_among s.entered e.0 ≡ b → Within s (if b then s else fold (link_import false bs) (enter e.0 s) e.1.imports) (fold reach rs wants)
      one true q = subst (Within s s) (sym (known_again wants rs (c.0 q))) (record { has = a; entered = λ n is. inl is; closed = c.1; known = c.0 q })
      one false q =
          let start = enter e.0 s in
          let all = each_comes bs (link_import false bs) (import_requests bs) rest e.1.imports start rs a (closed_later bs s start rs rs (λ n h. h) (entered_other s) c.1) in
          record {
            has = all.has;
            entered = λ n is. ⊎_elim (entering s n) (λ (x : HasBuild bs n). inr (inr x)) (all.entered n is);
            closed = all.closed;
            known = all_known wants rs (flat_named (import_requests bs) (import_named bs) e.1.imports);
          }

  asked_comes : (s : LinkState) (rs : List Reached) (i : Import) → Has rs s.derived → Closed (e ∷ bs) s rs → Comes (e ∷ bs) s (link_asked false i e.1 (link_within (link_import false bs) e s)) (fold reach rs (wants ++ requested_of (import_names i e.1) e.1))
  asked_comes s rs i a c =
      let w = link_within (link_import false bs) e s in
      let k = within_comes s rs a c in
      let wanted = requested_of (import_names i e.1) e.1 in
      let mid = fold reach rs wants in
      let qs = fold reach mid wanted in
      let stay = all_stay wanted mid in
      let u = link_asked false i e.1 w in
      subst (Comes (e ∷ bs) s u) (sym (fold-append reach rs wants wanted))
      (record {
        has = build_linked e.1 (asked_of i e.1) (import_names i e.1) (import_takes i e.1) mid w.derived k.has;
        entered = k.entered;
        closed = ((λ is. known_later mid qs wants stay k.known), closed_later bs w u mid qs stay (λ n h is. is) k.closed);
      })

  other_comes : (s : LinkState) (rs : List Reached) (i : Import) → Has rs s.derived → Closed (e ∷ bs) s rs → Comes (e ∷ bs) s (link_import false bs s i) (fold reach rs (import_requests bs i))
  other_comes s rs i a c =
      let k = rest s rs i a c.1 in
      let qs = fold reach rs (import_requests bs i) in
      record {
        has = k.has;
        entered = λ n is. ⊎_elim (λ (x : is_among s.entered n ≡ true). inl x) (λ (x : HasBuild bs n). inr (inr x)) (k.entered n is);
        closed = ((λ is. ⊎_elim (λ (old : is_among s.entered e.0 ≡ true). known_later rs qs wants (all_stay (import_requests bs i) rs) (c.0 old)) (λ (y : HasBuild bs e.0). absurd (apart y)) (k.entered e.0 is)), k.closed);
      }

abbrev pub Apart : Builds → Entry → Type 0
Apart earlier e = HasBuild earlier e.0 → ⊥

pub import_comes : (bs : Builds) → AllAfter Apart bs → ComesSo bs (link_import false bs) (import_requests bs)
unfolding link_import import_requests
import_comes [] h s rs i a c = record { has = a; entered = λ n is. inl is; closed = tt }
import_comes (e ∷ bs) h s rs i a c = one (import_comes bs h.1) (bytes_eq i.import e.0)
  where
    one : ComesSo bs (link_import false bs) (import_requests bs) → (b : Bool) → Comes (e ∷ bs) s (if b then link_asked false i e.1 (link_within (link_import false bs) e s) else link_import false bs s i) (fold reach rs (if b then flat_map (import_requests bs) e.1.imports ++ requested_of (import_names i e.1) e.1 else import_requests bs i))
    one rest true = asked_comes bs e h.0 rest s rs i a c
    one rest false = other_comes bs e h.0 rest s rs i a c

-- ---- the whole

pub none_entered : (bs : Builds) → Closed bs nothing_linked []
none_entered [] = tt
none_entered (e ∷ bs) = ((λ is. absurd (false≢true is)), none_entered bs)

none_known : (n : Text) → is_some (meant [] n) ≡ has_name [] n
none_known None = refl
none_known (Some n) = refl

pub none_has : Has [] nothing
none_has = record { copies = tt; names = none_known }

pub all_apart : (bs : Builds) → HaveOwnNames bs → AllAfter Apart (reverse bs)
all_apart bs names = gathered Apart bs [] (λ k e at a. not_back (take k bs) e.0 (names k e at)) tt

pub linked_functions : LinkedFunctionsLaw
unfolding link_whole
linked_functions bs b names =
    let rev = reverse bs in
    let wants = flat_map (import_requests rev) b.imports in
    let imports = each_comes rev (link_import false rev) (import_requests rev) (import_comes rev (all_apart bs names)) b.imports nothing_linked [] none_has (none_entered rev) in
    let d = (link_imports false bs b.imports nothing_linked).derived in
    let mid = fold reach [] wants in
    let all : Has (fold reach mid (requested_of all_names b)) (link_items false b None d) = build_linked b None all_names (all_taken b) mid d imports.has in
    let same : fold reach [] (link_requests bs b) ≡ fold reach mid (requested_of all_names b) = fold-append reach [] wants (requested_of all_names b) in
    made_functions b.value (fold reach [] (link_requests bs b)) (set_source (link_items false b None d) b.value 0) (source_set b.value 0 (fold reach [] (link_requests bs b)) (link_items false b None d) (subst (λ qs. Has qs (link_items false b None d)) (sym same) all))
