-- What a build holds has the items that the build reaches, each once, in the order of first reach.
use Rattle.std.proofs.Common.{◌≡◌, ℕ, Bool, true, false, ◌||◌, if◌then◌else◌, List, [], ◌∷◌, fold, map, length, Some, is_some, slice_get, IfSome, All, refl, ap, sym, ◌∙◌, subst}
use Rattle.std.specs.List.{AllZip, filter}
use Rattle.std.proofs.lemmas.List.Elements.{All-head, All-tail}
use Rattle.std.proofs.lemmas.Option.{same_Some}
use Rattle.naga_oil_words.specs.Texts.{is_among}
use Rattle.naga_oil_ir.specs.ModuleValue.{ModuleValue, EntryValue}
use Rattle.naga_oil_ir.specs.declared.names.ItemPlace.{ItemPlace}
use Rattle.naga_oil_ir.specs.declared.names.ItemPlace.TheVariants.{TypeItem, ConstantItem, OverrideItem, GlobalItem, ExpressionItem}
use Rattle.naga_oil_derive.specs.declared.special.SpecialKey.{SpecialKey}
use Rattle.naga_oil_derive.specs.CopiedEntry.{entry_names, entries_state, module_of}
use Rattle.naga_oil_derive.specs.CopiedLaw.{HasAt}
use Rattle.naga_oil_derive.specs.Derived.{Source, Derived, nothing}
use Rattle.naga_oil_derive.specs.DerivedFunctions.{requests_of}
use Rattle.naga_oil_derive.specs.DerivedValue.{import_function, import_item}
use Rattle.naga_oil_derive.specs.Tree.{Kept}
use Rattle.naga_oil_derive.specs.World.{goes}
use Rattle.naga_oil_derive.proofs.DerivedLaws.{nothing_derived}
use Rattle.naga_oil_derive.proofs.DeriveLemmas.{special_none}
use Rattle.naga_oil_form_laws.specs.FunctionForm.{AreFunctionsFormed}
use Rattle.naga_oil_form_laws.specs.TurnForm.{MayComeInTurn, import_functions, no_name}
use Rattle.naga_oil_form_laws.proofs.RequestLemmas.{from_at}
use Rattle.naga_oil_form_laws.proofs.TurnLemmas.{passing_in_turn}
use Rattle.std.proofs.lemmas.List.Elements.{All-filter}
use Rattle.naga_oil_link.specs.CopiedBuild.{OwnCopies, is_type, copy_own, copy_other, copy_at, nothing_copied, copy_places, copy_with_body}
use Rattle.naga_oil_link.specs.OwnPlaces.{OwnPlaces, is_own}
use Rattle.naga_oil_link.specs.Places.{places_of}
use Rattle.naga_oil_link.proofs.GoodFormLemmas.{has_places}
use Rattle.naga_oil_copy_laws.specs.InTurn.{CanCopyModule}
use Rattle.naga_oil_copy_laws.specs.ItemsByTree.{AsksThere}
use Rattle.naga_oil_copy_laws.proofs.TurnLaws.{nowhere}
use Rattle.naga_oil_link_laws.proofs.Decorates.{first_source, hold_begins, places_held}
use Rattle.naga_oil_link_laws.proofs.Entries.{end, made_with}
use Rattle.naga_oil_link_laws.proofs.FormedSources.{can_copy}
use Rattle.naga_oil_link_laws.proofs.Holds.{bodies_held}
use Rattle.naga_oil_link_laws.proofs.Stages.{all_asked}
use Rattle.naga_oil_collected_laws.specs.FirstReach.{Reached, from, has_name, is_named_so}
use Rattle.naga_oil_collected_laws.specs.HeldItems.{taken_items}
use Rattle.naga_oil_collected_laws.specs.ItemOrder.{AreAllOf, AreCopiesOf, IsHeldCopy, HoldsInOrder, HeldOrderLaw}
use Rattle.naga_oil_collected_laws.specs.Trail.{PlaceIn, Trail, no_trail, is_special_for, with_item, with_source, with_function, with_reached, with_request, with_call, held_trail}
use Rattle.naga_oil_collected_laws.proofs.Followed.{Along, AskThere, places_in, along_item, along_renamed, along_function, along_entries}
use Rattle.naga_oil_collected_laws.proofs.Follows.{Function}
use Rattle.naga_oil_collected_laws.proofs.Held.{Named, among, begun, bodies_imported, fewer, is_fresh, no_name_yet, none_known, turn_after}
use Rattle.naga_oil_collected_laws.proofs.Imported.{HasFrom, after_calls, function_imported, source_with}
use Rattle.naga_oil_collected_laws.proofs.Requests.{filter_same, names_taken}
use Rattle.naga_oil_collected_laws.proofs.Sources.{Made, kept_now, keys_now, now, source_along}
use Rattle.naga_oil_collected_laws.proofs.Taken.{entries_stay, reads_there}

-- where nothing stands yet
pub none_made : Made no_trail [] nothing
none_made = record {
  order = record { types = refl; constants = refl; overrides = refl; globals = refl; expressions = refl };
  names = none_known;
  keys = λ k. ap is_some (special_none k);
}

-- all that functions name is there
pub all_there : (m : ModuleValue) → CanCopyModule m → AskThere m
all_there m can k e at = all_asked m e.0 (can.functions k e at).0

-- entry points change no items
pub all_entered : (u : ModuleValue) (es : List EntryValue) (xs : List ItemPlace) → AreAllOf u xs → AreAllOf (record u { entry_points = es }) xs
all_entered u es xs a = record { types = a.types; constants = a.constants; overrides = a.overrides; globals = a.globals; expressions = a.expressions }

-- copies of a module's items
pub zip_placed : (m : ModuleValue) (R : ItemPlace → ItemPlace → Type 0) (S : PlaceIn → ItemPlace → Type 0) → ((p q : ItemPlace) → R p q → S (m, p) q) → (ps qs : List ItemPlace) → AllZip R ps qs → AllZip S (places_in m ps) qs
zip_placed m R S f [] [] z = tt
zip_placed m R S f [] (q ∷ qs) z = absurd z
zip_placed m R S f (p ∷ ps) [] z = absurd z
zip_placed m R S f (p ∷ ps) (q ∷ qs) z = (f p q z.0, zip_placed m R S f ps qs z.1)

module _ (m : ModuleValue) (own : OwnPlaces) (decoration : List ℕ) (can : CanCopyModule m) where
  abbrev there : AskThere m
  there = all_there m can

  abbrev kept : Kept
  kept = now nowhere nothing m 0 (nothing_derived nowhere) can.items can.special there no_trail [] none_made

  abbrev keys : SpecialKey → Bool
  keys = keys_now nowhere nothing m 0 (nothing_derived nowhere) can.items can.special there no_trail [] none_made

  abbrev same : (p : ItemPlace) → is_special_for keys m p ≡ is_some (kept p)
  same = kept_now nowhere nothing m 0 (nothing_derived nowhere) can.items can.special there no_trail [] none_made

  -- copies of the module follow a trail
  abbrev Follows : Trail → Derived → Type 0
  Follows t d = Along m 0 kept keys same can.items there no_trail [] t d

  begins : Follows (with_source m no_trail) (nothing_copied m).derived
  begins = source_along nowhere nothing m 0 (nothing_derived nowhere) can.items can.special there no_trail [] none_made

  -- ---- items

  abbrev taken : ItemPlace → Bool
  taken p = is_own own p || is_type p

  item_follows : (t : Trail) (d : Derived) (p : ItemPlace) → HasAt m p → Follows t d → Follows (with_item m t p) (import_item d p)
  item_follows t d p h a = along_item m 0 kept keys same can.items there no_trail [] t d p h a

  place_follows : (t : Trail) (c : OwnCopies) (p : ItemPlace) → HasAt m p → Follows t c.derived → (b : Bool) → Follows (if b || is_type p then with_item m t p else t) (if b then copy_own m decoration c p else copy_other true c p).derived
  place_follows t c (TypeItem k) h a true = along_renamed m 0 kept keys same can.items there no_trail [] t c.derived k _ h a
  place_follows t c (ConstantItem k) h a true = item_follows t c.derived (ConstantItem k) h a
  place_follows t c (OverrideItem k) h a true = item_follows t c.derived (OverrideItem k) h a
  place_follows t c (GlobalItem k) h a true = item_follows t c.derived (GlobalItem k) h a
  place_follows t c (ExpressionItem k) h a true = item_follows t c.derived (ExpressionItem k) h a
  place_follows t c (TypeItem k) h a false = item_follows t c.derived (TypeItem k) h a
  place_follows t c (ConstantItem k) h a false = a
  place_follows t c (OverrideItem k) h a false = a
  place_follows t c (GlobalItem k) h a false = a
  place_follows t c (ExpressionItem k) h a false = a

  places_follow : (ps : List ItemPlace) → All (HasAt m) ps → (t : Trail) (c : OwnCopies) → Follows t c.derived → Follows (fold (with_item m) t (filter taken ps)) (fold (copy_at true m own decoration) c ps).derived
  places_follow [] h t c a = a
  places_follow (p ∷ ps) h t c a =
      let e = copy_at true m own decoration c p in
      let v = if taken p then with_item m t p else t in
      let one : Follows v e.derived = place_follows t c p (All-head (HasAt m) p ps h) a (is_own own p) in
      subst (λ u. Follows u (fold (copy_at true m own decoration) e ps).derived) (choose (taken p)) (places_follow ps (All-tail (HasAt m) p ps h) v e one)
    where
      choose : (b : Bool) → fold (with_item m) (if b then with_item m t p else t) (filter taken ps) ≡ fold (with_item m) t (if b then p ∷ filter taken ps else filter taken ps)
      choose true = refl
      choose false = refl

  -- ---- functions

  functions_follow : (form : AreFunctionsFormed m 4294967295) (vs : List Function) → All (λ (v : Function). (k : ℕ) × (slice_get m.functions k ≡ Some v)) vs → (rs : List Reached) (t : Trail) (d : Derived) → MayComeInTurn m (Named m form rs) vs → HasFrom m 0 rs d → Follows t d → Follows (fold with_function t (map (from m 0) vs)) (import_functions d vs)
  functions_follow form [] all rs t d turn h a = a
  functions_follow form (v ∷ vs) all rs t d turn h a =
      let StandsIn = λ (y : Function). (k : ℕ) × (slice_get m.functions k ≡ Some y) in
      let at = All-head StandsIn v vs all in
      let fresh : has_name t.functions v.0.name ≡ false = sym (a.names v.0.name) ∙ h.has.names v.0.name ∙ is_fresh m form v vs rs turn in
      let w = with_reached (from m 0 v) (fold (with_request m (with_call (length m.functions) m 0)) t (requests_of v.0)) in
      let new : with_function t (from m 0 v) ≡ w = ap (λ (b : Bool). if b then t else w) fresh in
      let e = import_function d v.0 v.1 in
      let one : Follows w e = along_function m 0 kept keys same can.items there no_trail [] v (there at.0 v at.1) t d a in
      subst (λ u. Follows (fold with_function u (map (from m 0) vs)) (import_functions e vs)) (sym new)
      (functions_follow form vs (All-tail StandsIn v vs all) (after_calls m 0 rs v) w e (turn_after m form v vs rs turn) (function_imported m 0 rs d v h) one)

pub held_order : HeldOrderLaw
unfolding copy_places
held_order m own decoration names form =
    let can = can_copy m form in
    let x = first_source m in
    let held = places_held m own decoration can (hold_begins m can) in
    let w = held.reads in
    let c = copy_places true m own decoration in
    let StandsIn = λ (y : Function). (k : ℕ) × (slice_get m.functions k ≡ Some y) in
    let standing : All StandsIn m.functions = from_at StandsIn m.functions (λ k y at. (k, at)) in
    let fs = bodies_held m can w names m.functions c.derived held.stages.stage standing in
    let d = fold (copy_with_body names) c.derived m.functions in
    let st = end x can w d in
    let last = entries_stay x can w m.entry_points (entries_state d []) fs.stage can.entry_points in
    let u = module_of st in
    let test = λ (f : Function). is_named_so (is_among names) f.0.name in
    let vs = filter test m.functions in
    let turn : MayComeInTurn m (Named m form.functions []) vs = fewer m form.functions no_name (λ y. has_name [] y ≡ true) vs no_name_yet (passing_in_turn m test form) in
    let t = fold (with_item m) (with_source m no_trail) (taken_items m own) in
    let v = fold with_function t (map (from m 0) vs) in
    let items : Follows m own decoration can t c.derived = places_follow m own decoration can (places_of m) (has_places m) (with_source m no_trail) (nothing_copied m) (begins m own decoration can) in
    let functions : Follows m own decoration can v (import_functions c.derived vs) = functions_follow m own decoration can form.functions vs (All-filter test StandsIn m.functions standing) [] t c.derived turn (begun m true own decoration) items in
    let same_d : d ≡ import_functions c.derived vs = bodies_imported names m.functions c.derived ∙ ap (import_functions c.derived) (filter_same (among names) test (names_taken names) m.functions) in
    let here : Follows m own decoration can v d = subst (Follows m own decoration can v) (sym same_d) functions in
    let ok = λ (i : ℕ) (y : EntryValue) (at : slice_get m.entry_points i ≡ Some y). (let e = can.entry_points i y at in let all : All (AsksThere m) (requests_of y.function) × All (λ o. IfSome o (HasAt m)) (entry_names y) = (all_asked m y.function e.0, e.1) in all) in
    let all : Follows m own decoration can (held_trail m own names) st.derived = along_entries m (kept m own decoration can) (keys m own decoration can) (same m own decoration can) can.items (there m own decoration can) no_trail [] m.entry_points ok v (entries_state d []) here in
    let s = last.stage.source in
    let same_source : source_with m 0 all.maps ≡ s = same_Some (source_with m 0 all.maps) s (sym all.is ∙ last.stage.is) in
    let went : AllZip (λ p q. goes s.places p ≡ Some q) all.reached all.places = subst (λ (y : Source). AllZip (λ p q. goes y.places p ≡ Some q) all.reached all.places) same_source all.went in
    let copy = λ (p q : ItemPlace) (e : goes s.places p ≡ Some q). (let r = reads_there m own decoration can w st.derived last.stage st.entries p q e in let all : IsHeldCopy w u (m, p) q = record { there = r.0; alike = r.1 } in all) in
    let copies : AllZip (IsHeldCopy w u) (places_in m all.reached) all.places = zip_placed m (λ p q. goes s.places p ≡ Some q) (IsHeldCopy w u) copy all.reached all.places went in
    let collected : AreCopiesOf (IsHeldCopy w u) u (held_trail m own names).items = record {
      places = all.places;
      copies = subst (λ rs. AllZip (IsHeldCopy w u) rs all.places) (sym all.items) copies;
      order = all_entered st.derived.target st.entries all.places all.order;
    } in
    let result : HoldsInOrder m own decoration names u = record { reads = w; decorated = held.decorated; items = collected } in
    subst (HoldsInOrder m own decoration names) (sym (made_with x can w d fs.stage)) result
