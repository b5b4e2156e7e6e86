-- What a link makes has the items that it reaches, each once, in the order of first reach.
use Rattle.std.proofs.Common.{◌≡◌, ⊎_elim, ◌⊎◌, inl, inr, ℕ, ◌*◌, Bool, true, false, ◌&&◌, if◌then◌else◌, List, [], ◌∷◌, ◌++◌, fold, map, reverse, Some, None, is_some, IfSome, slice_get, bytes_eq, All, refl, ap, sym, ◌∙◌, subst, append-nil, append_assoc}
use Rattle.std.specs.List.{AllZip, filter, flat_map}
use Rattle.std.proofs.lemmas.Bool.{false≢true}
use Rattle.std.proofs.lemmas.List.Elements.{All-nil, All-cons, All-append, All-head, All-tail, All-filter}
use Rattle.std.proofs.lemmas.List.Sums.{fold-append}
use Rattle.std.proofs.lemmas.Option.{same_Some}
use Rattle.std.proofs.lemmas.Slice.Eq.{bytes_eq-Decides}
use Rattle.naga_oil_ir.specs.ModuleValue.{ModuleValue, EntryValue, SpecialValue}
use Rattle.naga_oil_ir.specs.Rows.{Text}
use Rattle.naga_oil_ir.specs.Spans.{span_stride}
use Rattle.naga_oil_ir.specs.declared.names.ItemPlace.{ItemPlace}
use Rattle.naga_oil_words.specs.Texts.{is_among}
use Rattle.naga_oil_imports.specs.Uses.{Import}
use Rattle.naga_oil_derive.specs.declared.special.SpecialKey.{SpecialKey}
use Rattle.naga_oil_derive.specs.CopiedEntry.{entries_state, entry_names, import_items, module_of}
use Rattle.naga_oil_derive.specs.CopiedLaw.{HasAt}
use Rattle.naga_oil_derive.specs.Derived.{Source, Derived, nothing}
use Rattle.naga_oil_derive.specs.DerivedFunctions.{requests_of}
use Rattle.naga_oil_derive.specs.DerivedLaw.{IsDerivation, IsSourceOf}
use Rattle.naga_oil_derive.specs.DerivedValue.{import_item, set_source}
use Rattle.naga_oil_derive.specs.Tree.{World, Kept}
use Rattle.naga_oil_derive.specs.World.{goes, special_at}
use Rattle.naga_oil_derive.proofs.DerivedLaws.{placed_law}
use Rattle.naga_oil_form_laws.specs.EntryForm.{IsModuleFormed}
use Rattle.naga_oil_form_laws.proofs.RequestLemmas.{from_at}
use Rattle.naga_oil_link.specs.BuiltModule.{BuiltModule, Builds}
use Rattle.naga_oil_link.specs.Linked.{LinkState, Asked, links_place, links_function, link_function, link_items, asked_of, enter, link_asked, link_within, link_import, link_imports, link_whole, nothing_linked}
use Rattle.naga_oil_link.specs.OwnPlaces.{is_own}
use Rattle.naga_oil_link.specs.Places.{places_of, name_at}
use Rattle.naga_oil_link.proofs.GoodFormLemmas.{has_places}
use Rattle.naga_oil_copy_laws.specs.Frame.{HasMore}
use Rattle.naga_oil_copy_laws.specs.InTurn.{CanCopyModule}
use Rattle.naga_oil_copy_laws.specs.ItemsByTree.{AsksThere}
use Rattle.naga_oil_copy_laws.specs.Scope.{scope_of, scope_from}
use Rattle.naga_oil_copy_laws.proofs.FrameLaws.{tree_stays, item_alike}
use Rattle.naga_oil_copy_laws.proofs.HeldLemmas.{comes_there}
use Rattle.naga_oil_copy_laws.proofs.TurnLaws.{nowhere}
use Rattle.naga_oil_link_laws.specs.ReadIn.{scope_in}
use Rattle.naga_oil_link_laws.proofs.Asks.{Entry, AllAfter}
use Rattle.naga_oil_link_laws.proofs.Entries.{end, made_with}
use Rattle.naga_oil_link_laws.proofs.FormedSources.{can_copy}
use Rattle.naga_oil_link_laws.proofs.Imports.{HasBuild}
use Rattle.naga_oil_link_laws.proofs.Links.{derived_of}
use Rattle.naga_oil_link_laws.proofs.Scopes.{alike_same, after_alike, in_alike, entries_in, entries_of, entries_world}
use Rattle.naga_oil_link_laws.proofs.Stages.{keys_stay, Setting, Stage, all_asked, following, read_after, stage_begins, stage_named}
use Rattle.naga_oil_collected_laws.specs.FirstReach.{Reached, from, import_names, all_names}
use Rattle.naga_oil_collected_laws.specs.ItemOrder.{AreAllOf, AreCopiesOf, IsLinkedCopy, LinkedOrderLaw}
use Rattle.naga_oil_collected_laws.specs.RequestedItems.{names_item, all_items}
use Rattle.naga_oil_collected_laws.specs.Trail.{PlaceIn, Trail, Visit, no_trail, is_special_for, with_item, with_source, with_function, with_visit, visit_of, import_visits, link_visits, link_trail}
use Rattle.naga_oil_collected_laws.proofs.Firsts.{all_known}
use Rattle.naga_oil_collected_laws.proofs.Followed.{Along, AskThere, places_in, along_items, along_functions, along_entries}
use Rattle.naga_oil_collected_laws.proofs.Follows.{Function}
use Rattle.naga_oil_collected_laws.proofs.HeldOrder.{all_entered, all_there, none_made, zip_placed}
use Rattle.naga_oil_collected_laws.proofs.Imported.{source_with}
use Rattle.naga_oil_collected_laws.proofs.Items.{IsGood, MayLink, all_may, asks_same, begins, build_brings, functions_linked, nothing_good, one_by_one, optional, places_same}
use Rattle.naga_oil_collected_laws.proofs.Linked.{requested_named}
use Rattle.naga_oil_collected_laws.proofs.Requests.{all_taken, filter_same, import_takes, is_requested}
use Rattle.naga_oil_collected_laws.proofs.Sources.{Made, kept_now, keys_now, keys_set, now, or_either, source_along}
use Rattle.naga_oil_collected_laws.proofs.Taken.{entries_stay}
use Rattle.naga_oil_collected_laws.proofs.Traces.{zip_append, zip_more}
use Rattle.naga_oil_collected_laws.proofs.Visits.{In, Done, IsFit, IsIdle, Later, done_later, idle_later, idle_visits, later_none, visit_later, visits_done, visits_later}

-- what is made so far has the items of a trail
pub record Has (t : Trail) (d : Derived) : Type 0 where
  pub places : List ItemPlace
  pub copies : AllZip (IsLinkedCopy d.target) t.items places
  pub made : Made t places d

copy_stays : (d : Derived) → IsGood d → (u : ModuleValue) → HasMore d.target u → (r : PlaceIn) (q : ItemPlace) → IsLinkedCopy d.target r q → IsLinkedCopy u r q
copy_stays d g u more r q c =
    let i : IsDerivation nowhere d = derived_of d g.formed nowhere in
    record {
      keys = keys_stay r.0 d.target u more c.keys;
      there = (c.there.0, more.items q c.there.0 c.there.1);
      alike = λ n. tree_stays d.target u i.sound.whole more q c.there n ∙ c.alike n ∙ sym ((in_alike r.0 d.target u i.sound.whole i.special c.keys more).reads r.1 n);
    }

-- ---- a trail with items that it had

zip_in : (R : PlaceIn → ItemPlace → Type 0) (rs : List PlaceIn) (qs : List ItemPlace) → AllZip R rs qs → (r : PlaceIn) → In rs r → (q : ItemPlace) × R r q
zip_in R [] qs z r h = absurd h
zip_in R (x ∷ rs) [] z r h = absurd z
zip_in R (x ∷ rs) (q ∷ qs) z r h = ⊎_elim (λ e. (q, subst (λ y. R y q) e z.0)) (λ o. zip_in R rs qs z.1 r o) h

record Old (u : ModuleValue) (es : List PlaceIn) (xs : List ItemPlace) : Type 0 where
  places : List ItemPlace
  copies : AllZip (IsLinkedCopy u) es places
  order : AreAllOf u (xs ++ places)

all_old : (u : ModuleValue) (rs : List PlaceIn) (qs : List ItemPlace) → AllZip (IsLinkedCopy u) rs qs → (es : List PlaceIn) → All (In rs) es → (xs : List ItemPlace) → AreAllOf u xs → Old u es xs
all_old u rs qs z [] a xs h = record { places = []; copies = tt; order = subst (AreAllOf u) (sym (append-nil xs)) h }
all_old u rs qs z (e ∷ es) a xs h =
    let q = zip_in (IsLinkedCopy u) rs qs z e (All-head (In rs) e es a) in
    let rest = all_old u rs qs z es (All-tail (In rs) e es a) (xs ++ q.0 ∷ []) (all_known u xs q.0 q.1.there h) in
    record { places = q.0 ∷ rest.places; copies = (q.1, rest.copies); order = subst (AreAllOf u) (append_assoc xs (q.0 ∷ []) rest.places) rest.order }

idle_has : (d : Derived) (t u : Trail) → IsIdle t u → Has t d → Has u d
idle_has d t u i h =
    let old = all_old d.target t.items h.places h.copies i.extra i.old h.places h.made.order in
    record {
      places = h.places ++ old.places;
      copies = subst (λ rs. AllZip (IsLinkedCopy d.target) rs (h.places ++ old.places)) (sym i.items) (zip_append (IsLinkedCopy d.target) t.items i.extra h.places old.places h.copies old.copies);
      made = record { order = old.order; names = λ n. h.made.names n ∙ sym (i.names n); keys = λ k. h.made.keys k ∙ sym (i.keys k) };
    }

-- ---- one source

module _ (m : ModuleValue) (shift : ℕ) (can : CanCopyModule m) (before : Derived) (g : IsGood before) (t : Trail) (has : Has t before) where
  abbrev there : AskThere m
  there = all_there m can

  abbrev derivation : IsDerivation nowhere before
  derivation = derived_of before g.formed nowhere

  abbrev kept : Kept
  kept = now nowhere before m shift derivation can.items can.special there t has.places has.made

  abbrev keys : SpecialKey → Bool
  keys = keys_now nowhere before m shift derivation can.items can.special there t has.places has.made

  abbrev same : (p : ItemPlace) → is_special_for keys m p ≡ is_some (kept p)
  same = kept_now nowhere before m shift derivation can.items can.special there t has.places has.made

  abbrev Follows : Trail → Derived → Type 0
  Follows v d = Along m shift kept keys same can.items there t has.places v d

  starts : Follows (with_source m t) (set_source before m shift)
  starts = source_along nowhere before m shift derivation can.items can.special there t has.places has.made

  abbrev x : Setting
  x = following before m shift

  abbrev w : World
  w = read_after before m

  -- what follows the trail has its items
  has_all : (v : Trail) (d : Derived) → Follows v d → Stage x w d → Has v d
  has_all v d a st =
      let s = st.source in
      let same_source = same_Some (source_with m shift a.maps) s (sym a.is ∙ st.is) in
      let went : AllZip (λ p q. goes s.places p ≡ Some q) a.reached a.places = subst (λ (y : Source). AllZip (λ p q. goes y.places p ≡ Some q) a.reached a.places) same_source a.went in
      let from_first : IsSourceOf x.first s d.target = comes_there d.source s (λ y. IsSourceOf x.first y d.target) st.is st.derivation.source in
      let copy = λ (p q : ItemPlace) (e : goes s.places p ≡ Some q). (let all : IsLinkedCopy d.target (m, p) q = record {
        keys = st.keys;
        there = from_first.midway.copied.there p q e;
        alike = item_alike (scope_from s d.target) (scope_of d.target) (scope_in m d.target) (scope_of d.target) p q (after_alike before m shift d st) (alike_same (scope_of d.target)) (placed_law x.first d s p q st.derivation st.is e).now;
      } in all) in
      let new = zip_placed m (λ p q. goes s.places p ≡ Some q) (IsLinkedCopy d.target) copy a.reached a.places went in
      let old = zip_more (IsLinkedCopy before.target) (IsLinkedCopy d.target) (copy_stays before g d.target st.more) t.items has.places has.copies in
      record {
        places = has.places ++ a.places;
        copies = subst (λ rs. AllZip (IsLinkedCopy d.target) rs (has.places ++ a.places)) (sym a.items) (zip_append (IsLinkedCopy d.target) t.items (places_in m a.reached) has.places a.places old new);
        made = record {
          order = a.order;
          names = a.names;
          keys = λ k. ap (λ (y : SpecialValue). is_some (special_at y k)) st.special ∙ keys_set nowhere before m shift derivation can.items can.special there t has.places has.made k ∙ ap (λ (f : SpecialKey → Bool). f k) (sym a.known_keys);
        };
      }

-- ---- one build

abbrev visit : ModuleValue → List ItemPlace → List Reached → Visit
visit m items functions = record { source = m; items = items; functions = functions }

-- what is linked of a build
abbrev asked_visit : BuiltModule → Asked → Visit
asked_visit b asked = visit b.value (filter (links_place b.own_in_value b.value asked) (places_of b.value)) (map (from b.value (b.index * span_stride)) (filter (links_function b asked) b.value.functions))

build_has : (b : BuiltModule) (form : IsModuleFormed b.value) (before : Derived) (g : IsGood before) (t : Trail) → Has t before → (asked : Asked) → Has (with_visit t (asked_visit b asked)) (link_items false b asked before)
unfolding link_items
build_has b form before g t has asked =
    let m = b.value in
    let shift = b.index * span_stride in
    let can = can_copy m form in
    let test = links_place b.own_in_value m asked in
    let ps = filter test (places_of m) in
    let os = map (λ p. Some p) ps in
    let fs = filter (links_function b asked) m.functions in
    let e = set_source before m shift in
    let places = All-filter test (HasAt m) (places_of m) (has_places m) in
    let StandsIn = λ (y : Function). (k : ℕ) × (slice_get m.functions k ≡ Some y) in
    let standing = All-filter (links_function b asked) StandsIn m.functions (from_at StandsIn m.functions (λ k y at. (k, at))) in
    let x = following before m shift in
    let w = read_after before m in
    let a = stage_named x can w os e (begins b form before g) (optional m ps places) in
    let f = functions_linked b form before g fs (import_items e os) a.stage standing in
    let last = fold link_function (fold import_item e ps) fs in
    let st : Stage x w last = subst (λ y. Stage x w (fold link_function y fs)) (one_by_one ps e) f.stage in
    let k = kept m shift can before g t has in
    let ks = keys m shift can before g t has in
    let same_kept = same m shift can before g t has in
    let asks = there m shift can before g t has in
    let s = with_source m t in
    let v = fold (with_item m) s ps in
    let items = along_items m shift k ks same_kept can.items asks t has.places ps places s e (starts m shift can before g t has) in
    let functions = along_functions m shift k ks same_kept can.items asks t has.places fs standing v (fold import_item e ps) items in
    let all = has_all m shift can before g t has (fold with_function v (map (from m shift) fs)) last functions st in
    record { places = all.places; copies = all.copies; made = record { order = all.made.order; names = all.made.names; keys = all.made.keys } }

-- what is linked of a build is what is requested of it
visit_same : (b : BuiltModule) (asked : Asked) (items : Text → Bool) (functions : List ℕ → Bool) → ((p : ItemPlace) → links_place b.own_in_value b.value asked p ≡ (items (name_at b.value p) && is_own b.own_in_value p)) → ((f : Function) → links_function b asked f ≡ is_requested functions b f) → asked_visit b asked ≡ visit_of items functions b
visit_same b asked items functions i f =
    let fs = map (from b.value (b.index * span_stride)) (filter (links_function b asked) b.value.functions) in
    let ps = filter (λ p. items (name_at b.value p) && is_own b.own_in_value p) (places_of b.value) in
    ap (λ ys. visit b.value ys fs) (places_same (links_place b.own_in_value b.value asked) (λ p. items (name_at b.value p) && is_own b.own_in_value p) i (places_of b.value))
    ∙ ap (λ ys. visit b.value ps (map (from b.value (b.index * span_stride)) ys)) (filter_same (links_function b asked) (is_requested functions b) f b.value.functions)

import_same : (i : Import) (b : BuiltModule) → asked_visit b (asked_of i b) ≡ visit_of (names_item i b) (import_names i b) b
import_same i b = visit_same b (asked_of i b) (names_item i b) (import_names i b) (λ p. ap (λ c. c && is_own b.own_in_value p) (asks_same i b (name_at b.value p))) (import_takes i b)

all_same : (b : BuiltModule) → asked_visit b None ≡ visit_of all_items all_names b
all_same b = visit_same b None all_items all_names (λ p. refl) (all_taken b)

visit_fit : (b : BuiltModule) (items : Text → Bool) (functions : List ℕ → Bool) → IsModuleFormed b.value → IsFit (visit_of items functions b)
visit_fit b items functions form = record { special = (can_copy b.value form).special; named = requested_named functions b }

flat_fit : (f : Import → List Visit) → ((i : Import) → All IsFit (f i)) → (is : List Import) → All IsFit (flat_map f is)
flat_fit f h [] = All-nil IsFit
flat_fit f h (i ∷ is) = All-append IsFit (f i) (flat_map f is) (h i) (flat_fit f h is)

import_fit : (bs : Builds) → AllAfter MayLink bs → (i : Import) → All IsFit (import_visits bs i)
unfolding import_visits
import_fit [] h i = All-nil IsFit
import_fit (e ∷ bs) h i = one (import_fit bs h.1) (bytes_eq i.import e.0)
  where
    one : ((i : Import) → All IsFit (import_visits bs i)) → (b : Bool) → All IsFit (if b then flat_map (import_visits bs) e.1.imports ++ visit_of (names_item i e.1) (import_names i e.1) e.1 ∷ [] else import_visits bs i)
    one earlier true = All-append IsFit (flat_map (import_visits bs) e.1.imports) (visit_of (names_item i e.1) (import_names i e.1) e.1 ∷ []) (flat_fit (import_visits bs) earlier e.1.imports) (All-cons IsFit (visit_of (names_item i e.1) (import_names i e.1) e.1) [] (visit_fit e.1 (names_item i e.1) (import_names i e.1) h.0.form) (All-nil IsFit))
    one earlier false = earlier i

-- ---- imports

-- if the imports of a build were entered, what they request adds nothing
abbrev pub Closed : Builds → LinkState → Trail → Type 0
Closed [] s t = Unit {0}
Closed (e ∷ earlier) s t = (is_among s.entered e.0 ≡ true → All (Done t) (flat_map (import_visits earlier) e.1.imports)) × Closed earlier s t

closed_later : (bs : Builds) (s u : LinkState) (t v : Trail) → Later t v → ((n : List ℕ) → HasBuild bs n → is_among u.entered n ≡ true → is_among s.entered n ≡ true) → Closed bs s t → Closed bs u v
closed_later [] s u t v l entered c = tt
closed_later (e ∷ bs) s u t v l entered c = (
  (λ is. done_later t v l (flat_map (import_visits bs) e.1.imports) (c.0 (entered e.0 (inl refl) is))),
  closed_later bs s u t v l (λ n h. entered n (inr h)) c.1,
)

-- after a link from some builds that goes on with a trail
pub record Comes (bs : Builds) (s u : LinkState) (v : Trail) : Type 0 where
  good : IsGood u.derived
  pub has : Has v u.derived
  entered : (n : List ℕ) → is_among u.entered n ≡ true → (is_among s.entered n ≡ true) ⊎ HasBuild bs n
  closed : Closed bs u v

abbrev pub ComesSo : Builds → (LinkState → Import → LinkState) → (Import → List Visit) → Type 0
ComesSo bs f asks = (s : LinkState) (t : Trail) (i : Import) → IsGood s.derived → Has t s.derived → Closed bs s t → Comes bs s (f s i) (fold with_visit t (asks i))

pub each_comes : (bs : Builds) (f : LinkState → Import → LinkState) (asks : Import → List Visit) → ComesSo bs f asks → (is : List Import) (s : LinkState) (t : Trail) → IsGood s.derived → Has t s.derived → Closed bs s t → Comes bs s (fold f s is) (fold with_visit t (flat_map asks is))
each_comes bs f asks h [] s t g a c = record { good = g; has = a; entered = λ n is. inl is; closed = c }
each_comes bs f asks h (i ∷ is) s t g a c =
    let one = h s t i g a c in
    let u = f s i in
    let v = fold with_visit t (asks i) in
    let more = each_comes bs f asks h is u v one.good one.has one.closed in
    subst (Comes bs s (fold f u is)) (sym (fold-append with_visit t (asks i) (flat_map asks is)))
    (record { good = more.good; has = more.has; entered = λ n is. ⊎_elim (one.entered n) (λ (x : HasBuild bs n). inr x) (more.entered n is); closed = more.closed })

module _ (bs : Builds) (e : Entry) (may : MayLink bs e) (all_before : AllAfter MayLink bs) (rest : ComesSo bs (link_import false bs) (import_visits bs)) where
  abbrev wants : List Visit
  wants = flat_map (import_visits bs) e.1.imports

  entering : (s : LinkState) (n : List ℕ) → is_among (enter e.0 s).entered n ≡ true → (is_among s.entered n ≡ true) ⊎ HasBuild (e ∷ bs) n
  entering s n is = ⊎_elim (λ (own : bytes_eq n e.0 ≡ true). inr (inl (sym ((bytes_eq-Decides n e.0).0 own)))) (λ (old : is_among s.entered n ≡ true). inl old) (or_either (bytes_eq n e.0) (is_among s.entered n) is)

  entered_other : (s : LinkState) (n : List ℕ) → HasBuild bs n → is_among (enter e.0 s).entered n ≡ true → is_among s.entered n ≡ true
  entered_other s n h is = ⊎_elim (λ (own : bytes_eq n e.0 ≡ true). absurd (may.apart (subst (HasBuild bs) ((bytes_eq-Decides n e.0).0 own) h))) (λ (old : is_among s.entered n ≡ true). old) (or_either (bytes_eq n e.0) (is_among s.entered n) is)

  record Within (s u : LinkState) (v : Trail) : Type 0 where
    good : IsGood u.derived
    has : Has v u.derived
    entered : (n : List ℕ) → is_among u.entered n ≡ true → (is_among s.entered n ≡ true) ⊎ HasBuild (e ∷ bs) n
    closed : Closed bs u v
    done : All (Done v) wants

  within_comes : (s : LinkState) (t : Trail) → IsGood s.derived → Has t s.derived → Closed (e ∷ bs) s t → Within s (link_within (link_import false bs) e s) (fold with_visit t wants)
  within_comes s t g a c = one (is_among s.entered e.0) refl
    where
      one : (b : Bool) → is_among s.entered e.0 ≡ b → Within s (if b then s else fold (link_import false bs) (enter e.0 s) e.1.imports) (fold with_visit t wants)
      one true q =
          let v = fold with_visit t wants in
          let idle = idle_visits wants t (c.0 q) in
          let later = idle_later t v idle in
          record {
            good = g;
            has = idle_has s.derived t v idle a;
            entered = λ n is. inl is;
            closed = closed_later bs s s t v later (λ n h is. is) c.1;
            done = done_later t v later wants (c.0 q);
          }
      one false q =
          let start = enter e.0 s in
          let all = each_comes bs (link_import false bs) (import_visits bs) rest e.1.imports start t g a (closed_later bs s start t t (later_none t) (entered_other s) c.1) in
          record {
            good = all.good;
            has = all.has;
            entered = λ n is. ⊎_elim (entering s n) (λ (x : HasBuild bs n). inr (inr x)) (all.entered n is);
            closed = all.closed;
            done = visits_done wants t (flat_fit (import_visits bs) (import_fit bs all_before) e.1.imports);
          }

  asked_comes : (s : LinkState) (t : Trail) (i : Import) → IsGood s.derived → Has t s.derived → Closed (e ∷ bs) s t → Comes (e ∷ bs) s (link_asked false i e.1 (link_within (link_import false bs) e s)) (fold with_visit t (wants ++ visit_of (names_item i e.1) (import_names i e.1) e.1 ∷ []))
  asked_comes s t i g a c =
      let w = link_within (link_import false bs) e s in
      let k = within_comes s t g a c in
      let b = e.1 in
      let v = visit_of (names_item i b) (import_names i b) b in
      let mid = fold with_visit t wants in
      let u = link_asked false i b w in
      let later = visit_later mid v in
      let has : Has (with_visit mid v) u.derived = subst (λ z. Has (with_visit mid z) (link_items false b (asked_of i b) w.derived)) (import_same i b) (build_has b may.form w.derived k.good mid k.has (asked_of i b)) in
      subst (Comes (e ∷ bs) s u) (sym (fold-append with_visit t wants (v ∷ [])))
      (record {
        good = (build_brings b may.form w.derived k.good (asked_of i b)).good;
        has = has;
        entered = k.entered;
        closed = ((λ is. done_later mid (with_visit mid v) later wants k.done), closed_later bs w u mid (with_visit mid v) later (λ n h is. is) k.closed);
      })

  other_comes : (s : LinkState) (t : Trail) (i : Import) → IsGood s.derived → Has t s.derived → Closed (e ∷ bs) s t → Comes (e ∷ bs) s (link_import false bs s i) (fold with_visit t (import_visits bs i))
  other_comes s t i g a c =
      let k = rest s t i g a c.1 in
      let v = fold with_visit t (import_visits bs i) in
      record {
        good = k.good;
        has = k.has;
        entered = λ n is. ⊎_elim (λ (x : is_among s.entered n ≡ true). inl x) (λ (x : HasBuild bs n). inr (inr x)) (k.entered n is);
        closed = ((λ is. ⊎_elim (λ (old : is_among s.entered e.0 ≡ true). done_later t v (visits_later (import_visits bs i) t) wants (c.0 old)) (λ (y : HasBuild bs e.0). absurd (may.apart y)) (k.entered e.0 is)), k.closed);
      }

pub import_comes : (bs : Builds) → AllAfter MayLink bs → ComesSo bs (link_import false bs) (import_visits bs)
unfolding link_import import_visits
import_comes [] h s t i g a c = record { good = g; has = a; entered = λ n is. inl is; closed = tt }
import_comes (e ∷ bs) h s t i g a c = one (import_comes bs h.1) (bytes_eq i.import e.0)
  where
    one : ComesSo bs (link_import false bs) (import_visits bs) → (b : Bool) → Comes (e ∷ bs) s (if b then link_asked false i e.1 (link_within (link_import false bs) e s) else link_import false bs s i) (fold with_visit t (if b then flat_map (import_visits bs) e.1.imports ++ visit_of (names_item i e.1) (import_names i e.1) e.1 ∷ [] else import_visits bs i))
    one rest true = asked_comes bs e h.0 h.1 rest s t i g a c
    one rest false = other_comes bs e h.0 h.1 rest s t i g a c

-- ---- the whole

pub nothing_entered : (bs : Builds) → Closed bs nothing_linked no_trail
nothing_entered [] = tt
nothing_entered (e ∷ bs) = ((λ is. absurd (false≢true is)), nothing_entered bs)

pub nothing_has : Has no_trail nothing
nothing_has = record { places = []; copies = tt; made = none_made }

-- entry points change no copies
entered_copy : (u : ModuleValue) (es : List EntryValue) (r : PlaceIn) (q : ItemPlace) → IsLinkedCopy u r q → IsLinkedCopy (record u { entry_points = es }) r q
entered_copy u es r q c = record {
  keys = c.keys;
  there = (c.there.0, ap (λ (z : World). z q) (entries_world u es) ∙ c.there.1);
  alike = item_alike (scope_in r.0 u) (scope_of u) (scope_in r.0 (record u { entry_points = es })) (scope_of (record u { entry_points = es })) r.1 q (entries_in r.0 u es) (entries_of u es) c.alike;
}

pub linked_order : LinkedOrderLaw
unfolding link_whole
linked_order bs b forms names form =
    let rev = reverse bs in
    let wants = flat_map (import_visits rev) b.imports in
    let imports = each_comes rev (link_import false rev) (import_visits rev) (import_comes rev (all_may bs forms names)) b.imports nothing_linked no_trail nothing_good nothing_has (nothing_entered rev) in
    let d = (link_imports false bs b.imports nothing_linked).derived in
    let own = visit_of all_items all_names b in
    let mid = fold with_visit no_trail wants in
    let before = link_items false b None d in
    let good = (build_brings b form d imports.good None).good in
    let linked : Has (with_visit mid own) before = subst (λ z. Has (with_visit mid z) before) (all_same b) (build_has b form d imports.good mid imports.has None) in
    let t = fold with_visit no_trail (link_visits bs b) in
    let has : Has t before = subst (λ y. Has y before) (sym (fold-append with_visit no_trail wants (own ∷ []))) linked in
    let m = b.value in
    let can = can_copy m form in
    let x = following before m 0 in
    let w = read_after before m in
    let e = set_source before m 0 in
    let begun : Stage x w e = stage_begins nowhere before m 0 can (derived_of before good.formed nowhere) good.are_true in
    let st = end x can w e in
    let last = entries_stay x can w m.entry_points (entries_state e []) begun can.entry_points in
    let asks = there m 0 can before good t has in
    let ok = λ (i : ℕ) (y : EntryValue) (at : slice_get m.entry_points i ≡ Some y). (let c = can.entry_points i y at in let all : All (AsksThere m) (requests_of y.function) × All (λ o. IfSome o (HasAt m)) (entry_names y) = (all_asked m y.function c.0, c.1) in all) in
    let follows = along_entries m (kept m 0 can before good t has) (keys m 0 can before good t has) (same m 0 can before good t has) can.items asks t has.places m.entry_points ok (with_source m t) (entries_state e []) (starts m 0 can before good t has) in
    let all = has_all m 0 can before good t has (link_trail bs b) st.derived follows last.stage in
    let still = λ (r : PlaceIn) (q : ItemPlace) (c : IsLinkedCopy st.derived.target r q). entered_copy st.derived.target st.entries r q c in
    let result : AreCopiesOf (IsLinkedCopy (module_of st)) (module_of st) (link_trail bs b).items = record {
      places = all.places;
      copies = zip_more (IsLinkedCopy st.derived.target) (IsLinkedCopy (module_of st)) still (link_trail bs b).items all.places all.copies;
      order = all_entered st.derived.target st.entries all.places all.made.order;
    } in
    subst (λ (u : ModuleValue). AreCopiesOf (IsLinkedCopy u) u (link_trail bs b).items) (sym (made_with x can w e begun)) result
