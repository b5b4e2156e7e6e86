-- What a build holds has a copy of each item that the build takes.
use Rattle.std.proofs.Common.{◌≡◌, ℕ, suc, Bool, true, false, ◌||◌, if◌then◌else◌, List, [], ◌∷◌, fold, Option, Some, None, is_some, IfSome, slice_get, All, refl, ap, sym, ◌∙◌, subst}
use Rattle.std.specs.List.{filter}
use Rattle.std.proofs.lemmas.Bool.{false≢true}
use Rattle.std.proofs.lemmas.List.Elements.{All-nil, All-cons, All-head, All-tail, All-weaker}
use Rattle.std.proofs.lemmas.Option.{same_Some}
use Rattle.naga_oil_ir.specs.ModuleValue.{ModuleValue, FunctionValue, EntryValue}
use Rattle.naga_oil_ir.specs.Rows.{Text}
use Rattle.naga_oil_ir.specs.declared.names.ItemPlace.{ItemPlace}
use Rattle.naga_oil_ir.specs.declared.names.ItemPlace.TheVariants.{TypeItem, ConstantItem, OverrideItem, GlobalItem, ExpressionItem}
use Rattle.naga_oil_ir.specs.declared.span.Span.{Span}
use Rattle.naga_oil_derive.specs.CopiedEntry.{EntriesState, entry_names, copy_entry, copy_entries, entries_state, import_items, module_of}
use Rattle.naga_oil_derive.specs.CopiedLaw.{HasAt}
use Rattle.naga_oil_derive.specs.Derived.{Source, Derived, HasItem, Imports, as_read}
use Rattle.naga_oil_derive.specs.DerivedFunctions.{requests_of}
use Rattle.naga_oil_derive.specs.DerivedLaw.{IsSourceOf, type_place}
use Rattle.naga_oil_derive.specs.DerivedValue.{answer_requests, import_item, rename_type}
use Rattle.naga_oil_derive.specs.Tree.{World}
use Rattle.naga_oil_derive.specs.World.{goes, world, renamed_at}
use Rattle.naga_oil_derive.proofs.DerivedLaws.{rename_law}
use Rattle.naga_oil_form_laws.proofs.RequestLemmas.{from_at}
use Rattle.naga_oil_link.specs.CopiedBuild.{OwnCopies, is_type, copy_own, copy_other, copy_at, nothing_copied, copy_places, copy_with_body}
use Rattle.naga_oil_link.specs.OwnPlaces.{OwnPlaces, is_own}
use Rattle.naga_oil_link.specs.Places.{places_of}
use Rattle.naga_oil_link.proofs.GoodFormLemmas.{has_places}
use Rattle.naga_oil_copy_laws.specs.InTurn.{CanCopyWhole, CanCopyModule}
use Rattle.naga_oil_copy_laws.specs.Scope.{ReadAlike, scope_of}
use Rattle.naga_oil_copy_laws.proofs.EntryLaws.{IsWent}
use Rattle.naga_oil_copy_laws.proofs.FrameLaws.{item_alike}
use Rattle.naga_oil_copy_laws.proofs.HeldLemmas.{comes_there, later_again}
use Rattle.naga_oil_copy_laws.proofs.TurnLaws.{nowhere, into, of_value}
use Rattle.naga_oil_link_laws.specs.HeldBuild.{scope_reading}
use Rattle.naga_oil_link_laws.proofs.Decorates.{Renamed, first_source, hold_begins, places_held, stage_rename}
use Rattle.naga_oil_link_laws.proofs.Entries.{end, made_with}
use Rattle.naga_oil_link_laws.proofs.FormedSources.{can_copy}
use Rattle.naga_oil_link_laws.proofs.Holds.{bodies_held, placed_reads}
use Rattle.naga_oil_link_laws.proofs.Scopes.{alike_same, entries_of, entries_world}
use Rattle.naga_oil_link_laws.proofs.Stages.{Setting, Stage, Stages, stage_answers, stage_named, stage_same, stage_then, named_went}
use Rattle.naga_oil_collected_laws.specs.HeldItems.{taken_items, HasCopyAt, HasTaken, HeldItemsLaw}

-- ---- a source whose items are copied one after another

module _ (x : Setting) (can : CanCopyModule x.value) where
  abbrev m : ModuleValue
  m = x.value

  -- d becomes e, and the item at p is mapped then, if it is taken
  pub record Takes (d e : Derived) (s : Source) (p : ItemPlace) (taken : Bool) : Type 0 where
    pub reads : World
    pub stages : Stages x reads d e s
    pub went : taken ≡ true → IsWent stages.stage.source p

  abbrev IfThere : Option ItemPlace → Type 0
  IfThere o = IfSome o (HasAt m)

  item_taken : (w : World) (d : Derived) (p : ItemPlace) (t : Stage x w d) → HasAt m p → Takes d (import_item d p) t.source p true
  item_taken w d p t h =
      let a = All-cons IfThere (Some p) [] h (All-nil IfThere) in
      let s = stage_named x can w (Some p ∷ []) d t a in
      record {
        reads = w;
        stages = s;
        went = λ e. All-head (λ o. IfSome o (IsWent s.stage.source)) (Some p) [] (named_went x can w (Some p ∷ []) d t a);
      }

  -- a type is mapped after it was copied under a name
  renamed_went : (w : World) (d : Derived) (k : ℕ) (name : Option Text) (t : Stage x w d) (h : HasAt m (TypeItem k)) (r : Renamed x can w d k name t) → (o : Option ItemPlace) → goes t.source.places (TypeItem k) ≡ o → IsWent r.stages.stage.source (TypeItem k)
  renamed_went w d k name t h r (Some q) at = (q, r.stages.later.went (TypeItem k) q at)
  renamed_went w d k name t h r None at =
      let e = rename_type d k name in
      let there : HasItem d (TypeItem k) = (ap is_some t.is, into d.source t.source (λ s. HasAt s.value (TypeItem k)) t.is (of_value m t.source.value (λ v. HasAt v (TypeItem k)) t.value h)) in
      let law = rename_law x.first d k name t.derivation there in
      let i = (comes_there d.source t.source (λ y. goes y.places (TypeItem k) ≡ None → Imports y (renamed_at (as_read y d.target) k name) d e (TypeItem k) (TypeItem (type_place e k)) × IfSome e.source (λ z. as_read z e.target ≡ renamed_at (as_read y d.target) k name)) t.is law.renamed at).0 in
      (TypeItem (type_place e k), comes_there e.source r.stages.stage.source (λ y. goes y.places (TypeItem k) ≡ Some (TypeItem (type_place e k))) r.stages.stage.is i.goes)

  type_taken : (w : World) (d : Derived) (k : ℕ) (name : Option Text) (t : Stage x w d) → HasAt m (TypeItem k) → Takes d (rename_type d k name) t.source (TypeItem k) true
  type_taken w d k name t h =
      let r = stage_rename x can w d k name t h in
      record { reads = r.reads; stages = r.stages; went = λ e. renamed_went w d k name t h r (goes t.source.places (TypeItem k)) refl }

  none_taken : (w : World) (d : Derived) (p : ItemPlace) (t : Stage x w d) → Takes d d t.source p false
  none_taken w d p t = record { reads = w; stages = stage_same x can w d t; went = λ e. absurd (false≢true e) }

  -- ---- entry points

  abbrev EntriesCan : List EntryValue → Type 0
  EntriesCan vs = (i : ℕ) (v : EntryValue) → slice_get vs i ≡ Some v → CanCopyWhole m v.function × All IfThere (entry_names v)

  pub entries_stay : (w : World) (vs : List EntryValue) (st : EntriesState) (t : Stage x w st.derived) → EntriesCan vs → Stages x w st.derived (copy_entries st vs).derived t.source
  entries_stay w [] st t ok = stage_same x can w st.derived t
  entries_stay w (v ∷ vs) st t ok =
      let d = st.derived in
      let e = answer_requests d (requests_of v.function) in
      let f = import_items e (entry_names v) in
      let own = ok 0 v refl in
      let a = (stage_answers x can w d v.function t own.0).0 in
      let b = stage_named x can w (entry_names v) e a.stage own.1 in
      let one : Stages x w d f t.source = stage_then x can w w w d e f t a b in
      stage_then x can w w w d f (copy_entries (copy_entry st v) vs).derived t one (entries_stay w vs (copy_entry st v) one.stage (λ i y at. ok (suc i) y at))

-- ---- what a build holds

module _ (m : ModuleValue) (own : OwnPlaces) (decoration : List ℕ) (can : CanCopyModule m) where
  abbrev x : Setting
  x = first_source m

  abbrev taken : ItemPlace → Bool
  taken p = is_own own p || is_type p

  place_taken : (w : World) (c : OwnCopies) (p : ItemPlace) (t : Stage x w c.derived) → HasAt m p → (b : Bool) → Takes x can c.derived (if b then copy_own m decoration c p else copy_other true c p).derived t.source p (b || is_type p)
  place_taken w c (TypeItem k) t h true = type_taken x can w c.derived k _ t h
  place_taken w c (ConstantItem k) t h true = item_taken x can w c.derived (ConstantItem k) t h
  place_taken w c (OverrideItem k) t h true = item_taken x can w c.derived (OverrideItem k) t h
  place_taken w c (GlobalItem k) t h true = item_taken x can w c.derived (GlobalItem k) t h
  place_taken w c (ExpressionItem k) t h true = item_taken x can w c.derived (ExpressionItem k) t h
  place_taken w c (TypeItem k) t h false = item_taken x can w c.derived (TypeItem k) t h
  place_taken w c (ConstantItem k) t h false = none_taken x can w c.derived (ConstantItem k) t
  place_taken w c (OverrideItem k) t h false = none_taken x can w c.derived (OverrideItem k) t
  place_taken w c (GlobalItem k) t h false = none_taken x can w c.derived (GlobalItem k) t
  place_taken w c (ExpressionItem k) t h false = none_taken x can w c.derived (ExpressionItem k) t

  abbrev IfTaken : Source → ItemPlace → Type 0
  IfTaken s p = taken p ≡ true → IsWent s p

  record AllTaken (d e : Derived) (s : Source) (ps : List ItemPlace) : Type 0 where
    reads : World
    stages : Stages x reads d e s
    went : All (IfTaken stages.stage.source) ps

  all_taken : (ps : List ItemPlace) (w : World) (c : OwnCopies) (t : Stage x w c.derived) → All (HasAt m) ps → AllTaken c.derived (fold (copy_at true m own decoration) c ps).derived t.source ps
  all_taken [] w c t a = let s = stage_same x can w c.derived t in record { reads = w; stages = s; went = All-nil (IfTaken s.stage.source) }
  all_taken (p ∷ ps) w c t a =
      let e = copy_at true m own decoration c p in
      let f = fold (copy_at true m own decoration) e ps in
      let one = place_taken w c p t (All-head (HasAt m) p ps a) (is_own own p) in
      let rest = all_taken ps one.reads e one.stages.stage (All-tail (HasAt m) p ps a) in
      let both : Stages x rest.reads c.derived f.derived t.source = record {
        stage = rest.stages.stage;
        later = later_again t.source one.stages.stage.source rest.stages.stage.source one.stages.later rest.stages.later;
        stay = λ k y at. rest.stages.stay k y (one.stages.stay k y at);
      } in
      record {
        reads = rest.reads;
        stages = both;
        went = All-cons (IfTaken rest.stages.stage.source) p ps (λ y. let q = one.went y in (q.0, rest.stages.later.went p q.0 q.1)) rest.went;
      }

  only_taken : (P : ItemPlace → Type 0) (ps : List ItemPlace) → All (λ p. taken p ≡ true → P p) ps → All P (filter taken ps)
  only_taken P [] a = All-nil P
  only_taken P (p ∷ ps) a = one (only_taken P ps (All-tail (λ p. taken p ≡ true → P p) p ps a)) (taken p) refl
    where
      one : All P (filter taken ps) → (b : Bool) → taken p ≡ b → All P (if b then p ∷ filter taken ps else filter taken ps)
      one rest true e = All-cons P p (filter taken ps) (All-head (λ p. taken p ≡ true → P p) p ps a e) rest
      one rest false e = rest

  -- what is mapped reads in the finished module as it does in the source
  pub reads_there : (w : World) (d : Derived) (t : Stage x w d) (es : List EntryValue) (p q : ItemPlace) → goes t.source.places p ≡ Some q → (let u : ModuleValue = record d.target { entry_points = es } in HasAt u q × ReadAlike (scope_reading w m) (scope_of u) p q)
  reads_there w d t es p q e =
      let u = record d.target { entry_points = es } in
      let there = (comes_there d.source t.source (λ y. IsSourceOf nowhere y d.target) t.is t.derivation.source).midway.copied.there p q e in (
        (there.0, ap (λ (v : World). v q) (entries_world d.target es) ∙ there.1),
        item_alike (scope_reading w m) (scope_of d.target) (scope_reading w m) (scope_of u) p q (alike_same (scope_reading w m)) (entries_of d.target es) (placed_reads m w d t p q e),
      )

  has_copy : (w : World) (d : Derived) (t : Stage x w d) (es : List EntryValue) (p : ItemPlace) → IsWent t.source p → HasCopyAt w m (record d.target { entry_points = es }) p
  has_copy w d t es p q = let r = reads_there w d t es p q.0 q.1 in record { place = q.0; there = r.0; alike = r.1 }

pub held_items : HeldItemsLaw
unfolding copy_places
held_items m own decoration names form =
    let can = can_copy m form in
    let x = first_source m in
    let begun = hold_begins m can in
    let held = places_held m own decoration can begun in
    let w = held.reads in
    let c = copy_places true m own decoration in
    let walk = all_taken m own decoration can (places_of m) (world m) (nothing_copied m) begun (has_places m) in
    let StandsIn = λ (y : FunctionValue × Span). (k : ℕ) × (slice_get m.functions k ≡ Some y) in
    let fs = bodies_held m can w names m.functions c.derived held.stages.stage (from_at StandsIn m.functions (λ k y at. (k, at))) in
    let d = fold (copy_with_body names) c.derived m.functions in
    let st = end x can w d in
    let last = entries_stay x can w m.entry_points (entries_state d []) fs.stage can.entry_points in
    let u = module_of st in
    let same = same_Some walk.stages.stage.source held.stages.stage.source (sym walk.stages.stage.is ∙ held.stages.stage.is) in
    let at_places : All (IfTaken m own decoration can held.stages.stage.source) (places_of m) = subst (λ (s : Source). All (IfTaken m own decoration can s) (places_of m)) same walk.went in
    let went = only_taken m own decoration can (IsWent held.stages.stage.source) (places_of m) at_places in
    let copied = λ (p : ItemPlace) (q : IsWent held.stages.stage.source p). has_copy m own decoration can w st.derived last.stage st.entries p (q.0, last.later.went p q.0 (fs.later.went p q.0 q.1)) in
    let items : All (HasCopyAt w m u) (taken_items m own) = All-weaker (IsWent held.stages.stage.source) (HasCopyAt w m u) copied (taken_items m own) went in
    let all : HasTaken m own decoration u = record { reads = w; decorated = held.decorated; items = items } in
    subst (HasTaken m own decoration) (sym (made_with x can w d fs.stage)) all
