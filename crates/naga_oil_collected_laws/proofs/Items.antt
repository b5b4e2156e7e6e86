-- All requested items are copied into what is linked.
use Rattle.std.proofs.Common.{◌≡◌, ⊎_elim, ◌⊎◌, inl, inr, ℕ, ◌*◌, Bool, true, false, ◌||◌, ◌&&◌, if◌then◌else◌, List, [], ◌∷◌, ◌++◌, fold, map, reverse, take, Option, Some, None, IfSome, slice_get, bytes_eq, All, refl, ap, sym, ◌∙◌, subst}
use Rattle.std.specs.List.{filter, flat_map}
use Rattle.std.proofs.lemmas.Bool.{false≢true}
use Rattle.std.proofs.lemmas.List.Elements.{All-nil, All-cons, All-append, All-weaker, All-head, All-tail, All-filter}
use Rattle.std.proofs.lemmas.Slice.Eq.{bytes_eq-Decides}
use Rattle.naga_oil_form_laws.proofs.RequestLemmas.{from_at}
use Rattle.naga_oil_ir.specs.ModuleValue.{ModuleValue}
use Rattle.naga_oil_ir.specs.Rows.{Text}
use Rattle.naga_oil_ir.specs.Spans.{span_stride}
use Rattle.naga_oil_ir.specs.declared.names.ItemPlace.{ItemPlace}
use Rattle.naga_oil_words.specs.Texts.{is_among}
use Rattle.naga_oil_imports.specs.Uses.{Import}
use Rattle.naga_oil_derive.specs.CopiedEntry.{EntriesState, import_items, module_of}
use Rattle.naga_oil_derive.specs.CopiedLaw.{HasAt}
use Rattle.naga_oil_derive.specs.Derived.{Source, Derived, nothing}
use Rattle.naga_oil_derive.specs.DerivedLaw.{IsDerivation, IsSourceOf}
use Rattle.naga_oil_derive.specs.DerivedValue.{import_item, set_source}
use Rattle.naga_oil_derive.specs.Tree.{World}
use Rattle.naga_oil_derive.specs.World.{goes}
use Rattle.naga_oil_derive.proofs.DerivedLaws.{placed_law}
use Rattle.naga_oil_form_laws.specs.EntryForm.{IsModuleFormed}
use Rattle.naga_oil_link.specs.BuiltModule.{BuiltModule, Builds}
use Rattle.naga_oil_link.specs.Linked.{LinkState, Asked, is_wanted, links_place, links_function, link_function, link_items, asked_of, enter, link_asked, link_within, link_import, link_imports, link_whole, nothing_linked}
use Rattle.naga_oil_link.specs.LinkView.{IsLinkFormed}
use Rattle.naga_oil_link.specs.OwnPlaces.{is_own}
use Rattle.naga_oil_link.specs.Places.{places_of, name_at}
use Rattle.naga_oil_link.proofs.GoodFormLemmas.{has_places, nothing_formed_yet, source_formed}
use Rattle.naga_oil_link.proofs.NamesLemmas.{among-in_order}
use Rattle.naga_oil_copy_laws.specs.CopiedByTree.{AreTrueIn}
use Rattle.naga_oil_copy_laws.specs.Frame.{HasMore}
use Rattle.naga_oil_copy_laws.specs.InTurn.{CanCopyModule}
use Rattle.naga_oil_copy_laws.specs.Scope.{ReadAlike, scope_of, scope_from}
use Rattle.naga_oil_copy_laws.proofs.EntryLaws.{IsWent}
use Rattle.naga_oil_copy_laws.proofs.FrameLaws.{tree_stays, item_alike}
use Rattle.naga_oil_copy_laws.proofs.HeldLemmas.{comes_there}
use Rattle.naga_oil_copy_laws.proofs.TurnLaws.{nowhere, no_meaning}
use Rattle.naga_oil_link_laws.specs.Headers.{HaveOwnNames}
use Rattle.naga_oil_link_laws.specs.LinkedCopies.{AreFormedBuilds}
use Rattle.naga_oil_link_laws.specs.ReadIn.{scope_in}
use Rattle.naga_oil_link_laws.proofs.Asks.{Entry, AllAfter}
use Rattle.naga_oil_link_laws.proofs.Entries.{end, entries_come, made_with}
use Rattle.naga_oil_link_laws.proofs.FormedSources.{can_copy}
use Rattle.naga_oil_link_laws.proofs.Imports.{HasBuild, not_back, gathered}
use Rattle.naga_oil_link_laws.proofs.Links.{derived_of}
use Rattle.naga_oil_link_laws.proofs.Scopes.{alike_same, after_alike, in_alike, entries_world}
use Rattle.naga_oil_link_laws.proofs.Stages.{keys_stay, more_same, more_again, Setting, Stage, Stages, following, read_after, stage_begins, stage_same, stage_then, stage_new, stage_named, named_went}
use Rattle.naga_oil_collected_laws.specs.RequestedItems.{ItemOf, items_of, names_item, all_items, imported_items, requested_items, HasCopyOf, LinkedItemsLaw}
use Rattle.naga_oil_collected_laws.proofs.Follows.{Function}
use Rattle.naga_oil_collected_laws.proofs.Requests.{among_mapped}

-- ---- copies stay

-- what is linked so far is of good form, and its names mean functions that have them
pub record IsGood (d : Derived) : Type 0 where
  pub formed : IsLinkFormed d
  pub are_true : AreTrueIn d.target d.function_names

copy_stays : (d : Derived) → IsGood d → (u : ModuleValue) → HasMore d.target u → (r : ItemOf) → HasCopyOf d.target r → HasCopyOf u r
copy_stays d g u more r c =
    let i : IsDerivation nowhere d = derived_of d g.formed nowhere in
    let m = r.0.value in
    record {
      keys = keys_stay m d.target u more c.keys;
      place = c.place;
      there = (c.there.0, more.items c.place c.there.0 c.there.1);
      alike = λ n. tree_stays d.target u i.sound.whole more c.place c.there n ∙ c.alike n ∙ sym ((in_alike m d.target u i.sound.whole i.special c.keys more).reads r.1 n);
    }

all_stay : (d : Derived) → IsGood d → (u : ModuleValue) → HasMore d.target u → (rs : List ItemOf) → All (HasCopyOf d.target) rs → All (HasCopyOf u) rs
all_stay d g u more rs a = All-weaker (HasCopyOf d.target) (HasCopyOf u) (copy_stays d g u more) rs a

-- ---- one build

pub optional : (m : ModuleValue) (ps : List ItemPlace) → All (HasAt m) ps → All (λ o. IfSome o (HasAt m)) (map (λ p. Some p) ps)
optional m [] a = All-nil (λ o. IfSome o (HasAt m))
optional m (p ∷ ps) a = All-cons (λ o. IfSome o (HasAt m)) (Some p) (map (λ p. Some p) ps) (All-head (HasAt m) p ps a) (optional m ps (All-tail (HasAt m) p ps a))

pub one_by_one : (ps : List ItemPlace) (d : Derived) → import_items d (map (λ p. Some p) ps) ≡ fold import_item d ps
one_by_one [] d = refl
one_by_one (p ∷ ps) d = one_by_one ps (import_item d p)

-- after a build's items at some places are linked
pub record Brings (b : BuiltModule) (d e : Derived) (ps : List ItemPlace) : Type 0 where
  pub good : IsGood e
  pub more : HasMore d.target e.target
  pub items : All (HasCopyOf e.target) (map (λ p. (b, p)) ps)

module _ (b : BuiltModule) (form : IsModuleFormed b.value) (before : Derived) (g : IsGood before) where
  -- the same of a build whose items stand at some places
  record Linked (d : Derived) (ps : List ItemPlace) : Type 0 where
    are_true : AreTrueIn d.target d.function_names
    more : HasMore before.target d.target
    items : All (HasCopyOf d.target) (map (λ p. (b, p)) ps)

  abbrev m : ModuleValue
  m = b.value

  abbrev shift : ℕ
  shift = b.index * span_stride

  abbrev can : CanCopyModule m
  can = can_copy m form

  abbrev x : Setting
  x = following before m shift

  abbrev w : World
  w = read_after before m

  pub begins : Stage x w (set_source before m shift)
  begins = stage_begins nowhere before m shift can (derived_of before g.formed nowhere) g.are_true

  abbrev StandsIn : Function → Type 0
  StandsIn y = (k : ℕ) × (slice_get m.functions k ≡ Some y)

  pub functions_linked : (fs : List Function) (d : Derived) (t : Stage x w d) → All StandsIn fs → Stages x w d (fold link_function d fs) t.source
  functions_linked [] d t a = stage_same x can w d t
  functions_linked (y ∷ fs) d t a =
      let e = link_function d y in
      let at = All-head StandsIn y fs a in
      let one = stage_new x can w d at.0 y t at.1 in
      stage_then x can w w w d e (fold link_function e fs) t one (functions_linked fs e one.stage (All-tail StandsIn y fs a))

  -- what an item maps to is its copy
  copied : (d : Derived) (t : Stage x w d) (p : ItemPlace) → IsWent t.source p → HasCopyOf d.target (b, p)
  copied d t p q =
      let reads : ReadAlike (scope_from t.source d.target) (scope_of d.target) p q.0 = (placed_law x.first d t.source p q.0 t.derivation t.is q.1).now in
      let from_first : IsSourceOf x.first t.source d.target = comes_there d.source t.source (λ y. IsSourceOf x.first y d.target) t.is t.derivation.source in
      record {
        keys = t.keys;
        place = q.0;
        there = from_first.midway.copied.there p q.0 q.1;
        alike = item_alike (scope_from t.source d.target) (scope_of d.target) (scope_in m d.target) (scope_of d.target) p q.0 (after_alike before m shift d t) (alike_same (scope_of d.target)) reads;
      }

  all_copied : (d : Derived) (t : Stage x w d) (ps : List ItemPlace) → All (λ o. IfSome o (IsWent t.source)) (map (λ p. Some p) ps) → All (HasCopyOf d.target) (map (λ p. (b, p)) ps)
  all_copied d t [] a = All-nil (HasCopyOf d.target)
  all_copied d t (p ∷ ps) a = All-cons (HasCopyOf d.target) (b, p) (map (λ p. (b, p)) ps) (copied d t p (All-head (λ o. IfSome o (IsWent t.source)) (Some p) (map (λ p. Some p) ps) a)) (all_copied d t ps (All-tail (λ o. IfSome o (IsWent t.source)) (Some p) (map (λ p. Some p) ps) a))

  pub build_brings : (asked : Asked) → Brings b before (link_items false b asked before) (filter (links_place b.own_in_value m asked) (places_of m))
  unfolding link_items
  build_brings asked =
      let test = links_place b.own_in_value m asked in
      let ps = filter test (places_of m) in
      let os = map (λ p. Some p) ps in
      let fs = filter (links_function b asked) m.functions in
      let e = set_source before m shift in
      let there = optional m ps (All-filter test (HasAt m) (places_of m) (has_places m)) in
      let a = stage_named x can w os e begins there in
      let went = named_went x can w os e begins there in
      let d = import_items e os in
      let standing : All StandsIn m.functions = from_at StandsIn m.functions (λ k y at. (k, at)) in
      let f = functions_linked fs d a.stage (All-filter (links_function b asked) StandsIn m.functions standing) in
      let later = λ (o : Option ItemPlace) (h : IfSome o (IsWent a.stage.source)). still a.stage.source f.stage.source (λ p q. f.later.went p q) o h in
      let maps : All (λ o. IfSome o (IsWent f.stage.source)) os = All-weaker (λ o. IfSome o (IsWent a.stage.source)) (λ o. IfSome o (IsWent f.stage.source)) later os went in
      let items = all_copied (fold link_function d fs) f.stage ps maps in
      let all : Linked (fold link_function d fs) ps = record { are_true = f.stage.holds.are_true; more = f.stage.more; items = items } in
      let now : Linked (fold link_function (fold import_item e ps) fs) ps = subst (λ (y : Derived). Linked (fold link_function y fs) ps) (one_by_one ps e) all in
      record {
        good = record { formed = source_formed b b.own_in_value m asked before form g.formed; are_true = now.are_true };
        more = now.more;
        items = now.items;
      }
    where
      still : (s u : Source) → ((p q : ItemPlace) → goes s.places p ≡ Some q → goes u.places p ≡ Some q) → (o : Option ItemPlace) → IfSome o (IsWent s) → IfSome o (IsWent u)
      still s u f None h = h
      still s u f (Some p) h = (h.0, f p h.0 h.1)

-- ---- imports

abbrev Closed : Builds → LinkState → Type 0
Closed [] s = Unit {0}
Closed (e ∷ earlier) s = (is_among s.entered e.0 ≡ true → All (HasCopyOf s.derived.target) (flat_map (imported_items earlier) e.1.imports)) × Closed earlier s

closed_later : (bs : Builds) (s u : LinkState) → ((rs : List ItemOf) → All (HasCopyOf s.derived.target) rs → All (HasCopyOf u.derived.target) rs) → ((n : List ℕ) → HasBuild bs n → is_among u.entered n ≡ true → is_among s.entered n ≡ true) → Closed bs s → Closed bs u
closed_later [] s u stay entered c = tt
closed_later (e ∷ bs) s u stay entered c = (
  (λ is. stay (flat_map (imported_items bs) e.1.imports) (c.0 (entered e.0 (inl refl) is))),
  closed_later bs s u stay (λ n h. entered n (inr h)) c.1,
)

-- after a link from some builds, with copies of some items
record Comes (bs : Builds) (s u : LinkState) (rs : List ItemOf) : Type 0 where
  good : IsGood u.derived
  more : HasMore s.derived.target u.derived.target
  entered : (n : List ℕ) → is_among u.entered n ≡ true → (is_among s.entered n ≡ true) ⊎ HasBuild bs n
  closed : Closed bs u
  items : All (HasCopyOf u.derived.target) rs

abbrev ComesSo : Builds → (LinkState → Import → LinkState) → (Import → List ItemOf) → Type 0
ComesSo bs f asks = (s : LinkState) (i : Import) → IsGood s.derived → Closed bs s → Comes bs s (f s i) (asks i)

each_comes : (bs : Builds) (f : LinkState → Import → LinkState) (asks : Import → List ItemOf) → ComesSo bs f asks → (is : List Import) (s : LinkState) → IsGood s.derived → Closed bs s → Comes bs s (fold f s is) (flat_map asks is)
each_comes bs f asks h [] s g c = record { good = g; more = more_same s.derived.target; entered = λ n is. inl is; closed = c; items = All-nil (HasCopyOf s.derived.target) }
each_comes bs f asks h (i ∷ is) s g c =
    let one = h s i g c in
    let t = f s i in
    let rest = each_comes bs f asks h is t one.good one.closed in
    let u = fold f t is in
    record {
      good = rest.good;
      more = more_again s.derived.target t.derived.target u.derived.target one.more rest.more;
      entered = λ n is. ⊎_elim (one.entered n) (λ (x : HasBuild bs n). inr x) (rest.entered n is);
      closed = rest.closed;
      items = All-append (HasCopyOf u.derived.target) (asks i) (flat_map asks is) (all_stay t.derived one.good u.derived.target rest.more (asks i) one.items) rest.items;
    }

or_split : (a b : Bool) → (a || b) ≡ true → (a ≡ true) ⊎ (b ≡ true)
or_split true b h = inl refl
or_split false b h = inr h

-- a test of names that is an import's
pub asks_same : (i : Import) (b : BuiltModule) (t : Text) → is_wanted (asked_of i b) t ≡ names_item i b t
asks_same i b None = refl
asks_same i b (Some n) = among-in_order (map (λ item. item ++ b.decoration) i.items) n ∙ among_mapped b.decoration n i.items

pub places_same : (p q : ItemPlace → Bool) → ((x : ItemPlace) → p x ≡ q x) → (xs : List ItemPlace) → filter p xs ≡ filter q xs
places_same p q h [] = refl
places_same p q h (x ∷ xs) = ap (λ (c : Bool). if c then x ∷ filter p xs else filter p xs) (h x) ∙ ap (λ (ys : List ItemPlace). if q x then x ∷ ys else ys) (places_same p q h xs)

-- what a build may be: of good form, under a name that none before has
pub record MayLink (earlier : Builds) (e : Entry) : Type 0 where
  pub form : IsModuleFormed e.1.value
  pub apart : HasBuild earlier e.0 → ⊥

module _ (bs : Builds) (e : Entry) (may : MayLink bs e) (rest : ComesSo bs (link_import false bs) (imported_items bs)) where
  abbrev wants : List ItemOf
  wants = flat_map (imported_items bs) e.1.imports

  entering : (s : LinkState) (n : List ℕ) → is_among (enter e.0 s).entered n ≡ true → (is_among s.entered n ≡ true) ⊎ HasBuild (e ∷ bs) n
  entering s n is = ⊎_elim (λ (own : bytes_eq n e.0 ≡ true). inr (inl (sym ((bytes_eq-Decides n e.0).0 own)))) (λ (old : is_among s.entered n ≡ true). inl old) (or_split (bytes_eq n e.0) (is_among s.entered n) is)

  entered_other : (s : LinkState) (n : List ℕ) → HasBuild bs n → is_among (enter e.0 s).entered n ≡ true → is_among s.entered n ≡ true
  entered_other s n h is = ⊎_elim (λ (own : bytes_eq n e.0 ≡ true). absurd (may.apart (subst (HasBuild bs) ((bytes_eq-Decides n e.0).0 own) h))) (λ (old : is_among s.entered n ≡ true). old) (or_split (bytes_eq n e.0) (is_among s.entered n) is)

  record Within (s u : LinkState) : Type 0 where
    good : IsGood u.derived
    more : HasMore s.derived.target u.derived.target
    entered : (n : List ℕ) → is_among u.entered n ≡ true → (is_among s.entered n ≡ true) ⊎ HasBuild (e ∷ bs) n
    closed : Closed bs u
    items : All (HasCopyOf u.derived.target) wants

  within_comes : (s : LinkState) → IsGood s.derived → Closed (e ∷ bs) s → Within s (link_within (link_import false bs) e s)
  within_comes s g c = one (is_among s.entered e.0) refl
    where
      one : (b : Bool) → is_among s.entered e.0 ≡ b → Within s (if b then s else fold (link_import false bs) (enter e.0 s) e.1.imports)
      one true q = record { good = g; more = more_same s.derived.target; entered = λ n is. inl is; closed = c.1; items = c.0 q }
      one false q =
          let start = enter e.0 s in
          let all = each_comes bs (link_import false bs) (imported_items bs) rest e.1.imports start g (closed_later bs s start (λ rs a. a) (entered_other s) c.1) in
          record {
            good = all.good;
            more = all.more;
            entered = λ n is. ⊎_elim (entering s n) (λ (x : HasBuild bs n). inr (inr x)) (all.entered n is);
            closed = all.closed;
            items = all.items;
          }

  asked_comes : (s : LinkState) (i : Import) → IsGood s.derived → Closed (e ∷ bs) s → Comes (e ∷ bs) s (link_asked false i e.1 (link_within (link_import false bs) e s)) (wants ++ items_of (names_item i e.1) e.1)
  asked_comes s i g c =
      let v = link_within (link_import false bs) e s in
      let k = within_comes s g c in
      let b = e.1 in
      let asked = asked_of i b in
      let new = build_brings b may.form v.derived k.good asked in
      let u = link_asked false i b v in
      let stay = all_stay v.derived k.good u.derived.target new.more in
      let wanted = λ (p : ItemPlace). names_item i b (name_at b.value p) && is_own b.own_in_value p in
      let same : filter (links_place b.own_in_value b.value asked) (places_of b.value) ≡ filter wanted (places_of b.value) = places_same (links_place b.own_in_value b.value asked) wanted (λ p. ap (λ c. c && is_own b.own_in_value p) (asks_same i b (name_at b.value p))) (places_of b.value) in
      let own : All (HasCopyOf u.derived.target) (items_of (names_item i b) b) = subst (λ (ps : List ItemPlace). All (HasCopyOf u.derived.target) (map (λ p. (b, p)) ps)) same new.items in
      record {
        good = new.good;
        more = more_again s.derived.target v.derived.target u.derived.target k.more new.more;
        entered = k.entered;
        closed = ((λ is. stay wants k.items), closed_later bs v u stay (λ n h is. is) k.closed);
        items = All-append (HasCopyOf u.derived.target) wants (items_of (names_item i b) b) (stay wants k.items) own;
      }

  other_comes : (s : LinkState) (i : Import) → IsGood s.derived → Closed (e ∷ bs) s → Comes (e ∷ bs) s (link_import false bs s i) (imported_items bs i)
  other_comes s i g c =
      let k = rest s i g c.1 in
      let u = link_import false bs s i in
      record {
        good = k.good;
        more = k.more;
        entered = λ n is. ⊎_elim (λ (x : is_among s.entered n ≡ true). inl x) (λ (x : HasBuild bs n). inr (inr x)) (k.entered n is);
        closed = ((λ is. ⊎_elim (λ (old : is_among s.entered e.0 ≡ true). all_stay s.derived g u.derived.target k.more wants (c.0 old)) (λ (y : HasBuild bs e.0). absurd (may.apart y)) (k.entered e.0 is)), k.closed);
        items = k.items;
      }

import_comes : (bs : Builds) → AllAfter MayLink bs → ComesSo bs (link_import false bs) (imported_items bs)
unfolding link_import imported_items
import_comes [] h s i g c = record { good = g; more = more_same s.derived.target; entered = λ n is. inl is; closed = tt; items = All-nil (HasCopyOf s.derived.target) }
import_comes (e ∷ bs) h s i g c = one (import_comes bs h.1) (bytes_eq i.import e.0)
  where
    one : ComesSo bs (link_import false bs) (imported_items bs) → (b : Bool) → Comes (e ∷ bs) s (if b then link_asked false i e.1 (link_within (link_import false bs) e s) else link_import false bs s i) (if b then flat_map (imported_items bs) e.1.imports ++ items_of (names_item i e.1) e.1 else imported_items bs i)
    one rest true = asked_comes bs e h.0 rest s i g c
    one rest false = other_comes bs e h.0 rest s i g c

-- ---- the whole

nothing_entered : (bs : Builds) → Closed bs nothing_linked
nothing_entered [] = tt
nothing_entered (e ∷ bs) = ((λ is. absurd (false≢true is)), nothing_entered bs)

pub nothing_good : IsGood nothing
nothing_good = record { formed = nothing_formed_yet; are_true = λ n h e. absurd (no_meaning n h e) }

pub all_may : (bs : Builds) → AreFormedBuilds bs → HaveOwnNames bs → AllAfter MayLink (reverse bs)
all_may bs forms names = gathered MayLink bs [] (λ k e at a. record { form = forms k e at; apart = not_back (take k bs) e.0 (names k e at) }) tt

pub linked_items : LinkedItemsLaw
unfolding link_whole
linked_items bs b forms names form =
    let rev = reverse bs in
    let wants = flat_map (imported_items rev) b.imports in
    let imports = each_comes rev (link_import false rev) (imported_items rev) (import_comes rev (all_may bs forms names)) b.imports nothing_linked nothing_good (nothing_entered rev) in
    let d = (link_imports false bs b.imports nothing_linked).derived in
    let new = build_brings b form d imports.good None in
    let before = link_items false b None d in
    let all : All (HasCopyOf before.target) (requested_items bs b) = All-append (HasCopyOf before.target) wants (items_of all_items b) (all_stay d imports.good before.target new.more wants imports.items) new.items in
    let c = can_copy b.value form in
    let x = following before b.value 0 in
    let w = read_after before b.value in
    let e = set_source before b.value 0 in
    let begun : Stage x w e = stage_begins nowhere before b.value 0 c (derived_of before new.good.formed nowhere) new.good.are_true in
    let st : EntriesState = end x c w e in
    let came = entries_come x c w e begun in
    let more : HasMore before.target (module_of st) = record {
      items = λ p r at. ap (λ (z : World). z p) (entries_world st.derived.target st.entries) ∙ came.stage.more.items p r at;
      functions = came.stage.more.functions;
      special = came.stage.more.special;
    } in
    subst (λ (u : ModuleValue). All (HasCopyOf u) (requested_items bs b)) (sym (made_with x c w e begun)) (all_stay before new.good (module_of st) more (requested_items bs b) all)
