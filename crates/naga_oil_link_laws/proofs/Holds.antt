-- What a build holds copies what was parsed.
use Rattle.std.proofs.Common.{◌≡◌, ⊎_elim, ◌⊎◌, ℕ, if◌then◌else◌, List, [], ◌∷◌, fold, Option, Some, None, Bool, true, false, option_map, slice_get, All, refl, ap, sym, ◌∙◌, subst, zero-le}
use Rattle.std.proofs.lemmas.List.Elements.{All-head, All-tail, All-weaker}
use Rattle.std.proofs.lemmas.Option.{none-some}
use Rattle.std.specs.Option.{option_flatten}
use Rattle.naga_oil_ir.specs.ModuleValue.{ModuleValue, FunctionValue, EntryValue, no_items}
use Rattle.naga_oil_ir.specs.Rows.{Row, Text}
use Rattle.naga_oil_ir.specs.declared.names.ItemPlace.{ItemPlace}
use Rattle.naga_oil_ir.specs.declared.names.ItemPlace.TheVariants.{TypeItem, ConstantItem, OverrideItem, GlobalItem, ExpressionItem}
use Rattle.naga_oil_ir.specs.declared.span.Span.{Span}
use Rattle.naga_oil_rename.specs.Renames.{under_name}
use Rattle.naga_oil_derive.specs.declared.special.SpecialKey.{SpecialKey}
use Rattle.naga_oil_derive.specs.CopiedEntry.{EntriesState, module_of, make_module}
use Rattle.naga_oil_derive.specs.Collected.{depth}
use Rattle.naga_oil_derive.specs.CopiedLaw.{HasAt}
use Rattle.naga_oil_derive.specs.Copying.{IsWhole, IsSound}
use Rattle.naga_oil_derive.specs.Derived.{Source, Derived, nothing, as_read, kept, type_under}
use Rattle.naga_oil_derive.specs.DerivedLaw.{IsSourceOf, Settles, SetsOnly}
use Rattle.naga_oil_derive.specs.DerivedValue.{import_function, set_source, copy_special}
use Rattle.naga_oil_derive.specs.Tree.{World, tree}
use Rattle.naga_oil_derive.specs.World.{goes, world, kept_of, special_at, special_entries, with_specials, shifted}
use Rattle.naga_oil_derive.proofs.DerivedLaws.{nothing_derived, placed_law}
use Rattle.naga_oil_derive.proofs.SetLaws.{set_law}
use Rattle.naga_oil_form_laws.specs.EntryForm.{IsModuleFormed}
use Rattle.naga_oil_form_laws.proofs.RequestLemmas.{from_at}
use Rattle.naga_oil_link.specs.CopiedBuild.{decorated_type, copy_places, has_name_among, copy_with_body, copy_whole}
use Rattle.naga_oil_link.specs.OwnPlaces.{OwnPlaces, nothing_own}
use Rattle.naga_oil_copy_laws.specs.Scope.{ReadAlike, name_of_function, scope_of, scope_from}
use Rattle.naga_oil_copy_laws.specs.ByTree.{CopiesByTree}
use Rattle.naga_oil_copy_laws.specs.CopiedByTree.{IsMade}
use Rattle.naga_oil_copy_laws.specs.Frame.{AreAlike}
use Rattle.naga_oil_copy_laws.specs.HeldCopies.{IsCopyableFunction}
use Rattle.naga_oil_copy_laws.specs.InTurn.{CanCopyModule}
use Rattle.naga_oil_copy_laws.proofs.EntryLaws.{placed_entry}
use Rattle.naga_oil_copy_laws.proofs.FrameLaws.{alike, item_alike}
use Rattle.naga_oil_copy_laws.proofs.HeldLemmas.{comes_there}
use Rattle.naga_oil_copy_laws.proofs.TreeCopies.{made}
use Rattle.naga_oil_copy_laws.proofs.TurnLaws.{nowhere, plain_reading, kept_reading}
use Rattle.naga_oil_link_laws.specs.HeldBuild.{scope_reading, HasDecoratedName, DecoratesTypes, CopiesPlainly, CopiesAs, CopiesParse, HeldBuildLaw}
use Rattle.naga_oil_link_laws.proofs.FormedSources.{can_copy}
use Rattle.naga_oil_link_laws.proofs.Stages.{Setting, Stage, Stages, stage_same, stage_then, stage_function, stage_made}
use Rattle.naga_oil_link_laws.proofs.Scopes.{entries_world, entries_of, alike_same}
use Rattle.naga_oil_link_laws.proofs.Entries.{Entries, end, entries_come, made_with}
use Rattle.naga_oil_form_laws.proofs.SpecialLemmas.{at_key}
use Rattle.naga_oil_link_laws.proofs.Specials.{type_went}
use Rattle.naga_oil_link_laws.proofs.SpecialTypes.{specials_placed, special_placed}
use Rattle.naga_oil_link_laws.proofs.Decorates.{first_source, hold_begins, places_held}
use Rattle.naga_oil_link_laws.proofs.Links.{source_there}
use Rattle.naga_oil_link_laws.proofs.Lifts.{Alike, HasSpecialOf, ranked_whole}

-- ---- functions one after another

module _ (m : ModuleValue) (can : CanCopyModule m) where
  abbrev x : Setting
  x = first_source m

  abbrev StandsIn : FunctionValue × Span → Type 0
  StandsIn y = (k : ℕ) × (slice_get m.functions k ≡ Some y)

  pub body_held : (w : World) (names : List (List ℕ)) (d : Derived) (y : FunctionValue × Span) (t : Stage x w d) → StandsIn y → (b : Bool) → Stages x w d (if b then import_function d y.0 y.1 else d) t.source
  body_held w names d y t at true = stage_function x can w d at.0 y t at.1
  body_held w names d y t at false = stage_same x can w d t

  pub bodies_held : (w : World) (names : List (List ℕ)) (fs : List (FunctionValue × Span)) (d : Derived) (t : Stage x w d) → All StandsIn fs → Stages x w d (fold (copy_with_body names) d fs) t.source
  bodies_held w names [] d t a = stage_same x can w d t
  bodies_held w names (y ∷ fs) d t a =
      let e = copy_with_body names d y in
      let one = body_held w names d y t (All-head StandsIn y fs a) (has_name_among names y.0.name) in
      stage_then x can w w w d e (fold (copy_with_body names) e fs) t one (bodies_held w names fs e one.stage (All-tail StandsIn y fs a))

-- ---- how a source reads

module _ (m : ModuleValue) (w : World) (d : Derived) (t : Stage (first_source m) w d) where
  abbrev s : Source
  s = t.source

  stands : (p q : ItemPlace) → kept s d.target p ≡ Some q → goes s.places p ≡ Some q
  stands = (comes_there d.source s (λ y. IsSourceOf nowhere y d.target) t.is t.derivation.source).stand

  -- what is mapped reads plainly at its place
  pub placed_reads : (p q : ItemPlace) → goes s.places p ≡ Some q → ReadAlike (scope_reading w m) (scope_of d.target) p q
  placed_reads p q e n =
      let r = placed_law nowhere d s p q t.derivation t.is e in
      r.at_first n ∙ plain_reading (as_read s d.target) (world d.target) n p ∙ ap (λ (v : World). tree n v p) t.reads

  pub held_alike : AreAlike (scope_from s d.target) (scope_reading w m)
  held_alike =
      let v = as_read s d.target in
      let stays = λ (p q : ItemPlace) (n : ℕ) (e : kept s d.target p ≡ Some q). (let all : tree n (world d.target) q ≡ tree n v p = placed_reads p q (stands p q e) n ∙ ap (λ (u : World). tree n u p) (sym t.reads) in all) in
      record {
        reads = λ p n. sym (kept_reading v (world d.target) (kept s d.target) stays n p ∙ ap (λ (u : World). tree n u p) t.reads);
        names = λ k. ap (λ y. name_of_function y k) (sym t.value);
      }

  pub made_plainly : (f g : FunctionValue) (es : List EntryValue) → IsCopyableFunction f → IsMade s d.target f g → CopiesPlainly w m (record d.target { entry_points = es }) f g
  made_plainly f g es c h =
      let k = made nowhere d s f g t.derivation t.is c.may h in
      let u = record d.target { entry_points = es } in
      record {
        copies = subst (λ o. CopiesByTree (shifted o) (λ n. n) (scope_reading w m) f (scope_of u) g) t.offset (alike (shifted s.offset) (λ n. n) (scope_from s d.target) (scope_of d.target) (scope_reading w m) (scope_of u) f g held_alike (entries_of d.target es) k.0);
        earlier = k.1;
      }

nothing_there : (q : ItemPlace) (r : Row) → world no_items q ≡ Some r → ⊥
unfolding world
nothing_there (TypeItem k) r e = none-some r e
nothing_there (ConstantItem k) r e = none-some r e
nothing_there (OverrideItem k) r e = none-some r e
nothing_there (GlobalItem k) r e = none-some r e
nothing_there (ExpressionItem k) r e = none-some r e

-- ---- special types

names_under : (n : Option Text) (r : Row) → (under_name n r).names ≡ r.names
names_under None r = refl
names_under (Some t) r = refl

-- special types that read as those of a module, at whose places w reads
pub record SpecialPlaces (w : World) (m u : ModuleValue) : Type 0 where
  pub places : ℕ → ℕ
  pub keys : (key : SpecialKey) → special_at u.special_types key ≡ option_map places (special_at m.special_types key)
  pub alike : (key : SpecialKey) (k : ℕ) → special_at m.special_types key ≡ Some k → Alike (world u) w (TypeItem k) (TypeItem (places k))

-- a source's own names are those of its items, whatever these names are
decorated_names : (m : ModuleValue) (own : OwnPlaces) (decoration : List ℕ) (w : World) → DecoratesTypes m own decoration w → (p : ItemPlace) (r : Row) → world m p ≡ Some r → (s : Row) × (w p ≡ Some s) × (s.names ≡ r.names)
decorated_names m own decoration w a p r at =
    ⊎_elim
    (λ e. (r, e ∙ at, refl))
    (λ (e : HasDecoratedName m own decoration w p). let n = option_map Some (decorated_type m decoration p) in (under_name n r, e.row ∙ ap (option_map (under_name n)) at, names_under n r))
    (a.each p)

module _ (m : ModuleValue) (own : OwnPlaces) (decoration : List ℕ) (can : CanCopyModule m) (w : World) (decorated : DecoratesTypes m own decoration w) (d : Derived) (t : Stage (first_source m) w d) (es : List EntryValue) where
  abbrev u : ModuleValue
  u = record d.target { entry_points = es }

  abbrev begun : Derived
  begun = set_source nothing m 0

  abbrev begun_source : Source
  begun_source = record { value = m; offset = 0; places = (copy_special nothing m 0).places }

  abbrev law : SetsOnly m 0 nothing begun
  law = set_law nowhere nothing m 0 (nothing_derived nowhere) can.items can.special

  abbrev Entry : Type 0
  Entry = SpecialKey × ℕ

  abbrev at_place : ℕ → ℕ
  at_place k = type_under begun_source.places k

  kept_now : (e : Entry) → Settles nothing begun begun_source e → kept t.source d.target (TypeItem e.1) ≡ Some (TypeItem (at_place e.1))
  unfolding goes
  kept_now e h =
      let same : at_place e.1 ≡ h.at = type_went (option_flatten (slice_get begun_source.places.types e.1)) e.1 h.at h.went in
      ap (λ (v : ModuleValue). kept_of v.special_types d.target.special_types (TypeItem e.1)) t.value ∙ ap (λ v. kept_of m.special_types v (TypeItem e.1)) t.special ∙ h.stands ∙ ap (λ k. Some (TypeItem k)) (sym same)

  special_reads : (e : Entry) → Settles nothing begun begun_source e → Alike (world u) w (TypeItem e.1) (TypeItem (at_place e.1))
  special_reads e h n =
      let q = TypeItem (at_place e.1) in
      ap (λ (v : World). tree n v q) (entries_world d.target es) ∙ placed_reads m w d t (TypeItem e.1) q (stands m w d t (TypeItem e.1) q (kept_now e h)) n

  begins : begun.target.special_types ≡ with_specials no_items.special_types at_place (special_entries m.special_types)
  begins = law.set.1.special

  all_alike : All (λ (e : Entry). Alike (world u) w (TypeItem e.1) (TypeItem (at_place e.1))) (special_entries m.special_types)
  all_alike = All-weaker (Settles nothing begun begun_source) (λ (e : Entry). Alike (world u) w (TypeItem e.1) (TypeItem (at_place e.1))) special_reads (special_entries m.special_types) law.settles

  -- its special types are those of the module, at the places they map to
  pub keeps_special : SpecialPlaces w m u
  keeps_special = record {
    places = at_place;
    keys = λ key. ap (λ v. special_at v key) (t.special ∙ begins) ∙ special_placed at_place m.special_types can.special.distinct key;
    alike = λ key k at. at_key (λ (e : Entry). Alike (world u) w (TypeItem e.1) (TypeItem (at_place e.1))) m.special_types key k all_alike at;
  }

  special_whole : (e : Entry) → HasAt m (TypeItem e.1) → IsWhole (depth m) w (TypeItem e.1)
  special_whole e h = ranked_whole m w can.items.rank can.items.ranked (decorated_names m own decoration w decorated) (depth m) (TypeItem e.1) h (can.items.ranked.within (TypeItem e.1) h.0 h.1)

  pub has_special : HasSpecialOf w m u
  has_special =
      record {
        sound = subst IsSound (sym (entries_world d.target _)) t.derivation.sound;
        places = at_place;
        entries = ap special_entries (t.special ∙ begins) ∙ specials_placed at_place m.special_types can.special.distinct;
        alike = all_alike;
        whole = All-weaker (λ (e : Entry). HasAt m (TypeItem e.1)) (λ (e : Entry). IsWhole (depth m) w (TypeItem e.1)) special_whole (special_entries m.special_types) can.special.there;
      }

-- ---- the whole

-- what a build holds of a module copies the module, and has its special types
pub record HeldWhole (m : ModuleValue) (own : OwnPlaces) (decoration : List ℕ) (u : ModuleValue) : Type 0 where
  pub copies : CopiesParse m own decoration u
  pub special : HasSpecialOf copies.reads m u

-- the module that is made with the entry points of a source, once its items and functions were copied
module _ (m : ModuleValue) (can : CanCopyModule m) (w : World) (d : Derived) (t : Stage (first_source m) w d) where
  abbrev came : Entries (first_source m) w m.entry_points (end (first_source m) can w d)
  came = entries_come (first_source m) can w d t

  abbrev ended : EntriesState
  ended = end (first_source m) can w d

  pub ends : CopiesAs w m (module_of ended)
  ends =
      let st = ended in
      let u = module_of st in
      let v = came.stage in
      record {
        functions = λ k g at.
            let h = stage_made (first_source m) can w st.derived v k g zero-le at in
            record { place = h.place; function = h.function; at = h.at; copies = made_plainly m w st.derived v h.function.0 g.0 st.entries (can.functions h.place h.function h.at).0.copyable h.made; span = h.span ∙ ap (λ j. shifted j h.function.1) v.offset };
        items = λ q r at.
            ⊎_elim
            (λ o. absurd (nothing_there q r o))
            (λ (o : (p : ItemPlace) × (goes v.source.places p ≡ Some q)). (o.0, source_there nowhere st.derived v.source m o.0 q v.derivation v.is v.value o.1, item_alike (scope_reading w m) (scope_of st.derived.target) (scope_reading w m) (scope_of u) o.0 q (alike_same (scope_reading w m)) (entries_of st.derived.target st.entries) (placed_reads m w st.derived v o.0 q o.1)))
            (v.items q r (sym (ap (λ (z : World). z q) (entries_world st.derived.target st.entries)) ∙ at));
        entry_points = λ i y at.
            let e = came.each i y at in
            let reads = λ (p q : ItemPlace) (z : goes v.source.places p ≡ Some q). (let r : ReadAlike (scope_reading w m) (scope_of u) p q = item_alike (scope_reading w m) (scope_of st.derived.target) (scope_reading w m) (scope_of u) p q (alike_same (scope_reading w m)) (entries_of st.derived.target st.entries) (placed_reads m w st.derived v p q z) in r) in
            record {
              entry = e.entry;
              at = e.at;
              copies = made_plainly m w st.derived v e.entry.function y.function st.entries (can.entry_points i e.entry e.at).0.copyable e.made_of;
              whole = placed_entry (scope_reading w m) (scope_of u) v.source e.entry y reads (came.whole i y e.entry at e.at);
            };
        as_many = came.long;
      }

  -- the finished module copies the source, and has its special types
  pub made_copies_as : DecoratesTypes m nothing_own [] w → CopiesAs w m (make_module d) × SpecialPlaces w m (make_module d)
  made_copies_as plain = subst (λ u. CopiesAs w m u × SpecialPlaces w m u) (sym (made_with (first_source m) can w d t)) (ends, keeps_special m nothing_own [] can w plain ended.derived came.stage ended.entries)

pub held_whole : (m : ModuleValue) (own : OwnPlaces) (decoration : List ℕ) (functions : List (List ℕ)) → IsModuleFormed m → HeldWhole m own decoration (make_module (copy_whole m own decoration functions).derived)
held_whole m own decoration functions form =
    let can = can_copy m form in
    let x = first_source m in
    let ps = places_held m own decoration can (hold_begins m can) in
    let w = ps.reads in
    let c = copy_places true m own decoration in
    let Stands = λ (y : FunctionValue × Span). (k : ℕ) × (slice_get m.functions k ≡ Some y) in
    let fs = bodies_held m can w functions m.functions c.derived ps.stages.stage (from_at Stands m.functions (λ k y at. (k, at))) in
    let d = fold (copy_with_body functions) c.derived m.functions in
    let st = end x can w d in
    let v = (entries_come x can w d fs.stage).stage in
    let u = module_of st in
    let all : HeldWhole m own decoration u = record {
      copies = record { reads = w; decorated = ps.decorated; copies = ends m can w d fs.stage };
      special = has_special m own decoration can w ps.decorated st.derived v st.entries;
    } in
    subst (HeldWhole m own decoration) (sym (made_with x can w d fs.stage)) all

pub held_parse : HeldBuildLaw
held_parse m own decoration functions form = (held_whole m own decoration functions form).copies
