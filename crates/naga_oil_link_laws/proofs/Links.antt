-- What is linked of builds copies what they hold.
use Rattle.std.proofs.Common.{◌≡◌, ⊎_elim, ◌⊎◌, ℕ, zero, suc, ◌*◌, ◌<◌, ◌≤◌, if◌then◌else◌, List, [], ◌∷◌, length, fold, Option, Some, None, option_map, is_some, Bool, true, false, slice_get, All, inl, inr, refl, ap, sym, ◌∙◌, subst, arith, zero-le}
use Rattle.std.specs.List.{filter}
use Rattle.std.specs.Option.{option_flatten}
use Rattle.std.proofs.lemmas.Bool.{false≢true}
use Rattle.std.proofs.lemmas.List.Elements.{All-head, All-tail, All-filter, All-weaker}
use Rattle.std.proofs.lemmas.Option.{none-some, same_Some, slice_get_within}
use Rattle.naga_oil_ir.specs.ModuleValue.{ModuleValue, FunctionValue}
use Rattle.naga_oil_ir.specs.Rows.{Row, Text}
use Rattle.naga_oil_ir.specs.declared.names.ItemPlace.{ItemPlace}
use Rattle.naga_oil_ir.specs.declared.names.ItemPlace.TheVariants.{TypeItem}
use Rattle.naga_oil_ir.specs.declared.span.Span.{Span}
use Rattle.naga_oil_derive.specs.CopiedLaw.{HasAt}
use Rattle.naga_oil_derive.specs.Derived.{Source, Derived, as_read, kept, type_under}
use Rattle.naga_oil_derive.specs.DerivedFunctions.{Meanings, meant}
use Rattle.naga_oil_derive.specs.DerivedLaw.{IsDerivation, IsSourceOf, Settles, SetsOnly}
use Rattle.naga_oil_derive.specs.DerivedValue.{import_item, import_function, copy_special, set_source}
use Rattle.naga_oil_derive.specs.Tree.{World, Kept, tree, reading, row_tree}
use Rattle.naga_oil_derive.specs.World.{goes, world, shifted, kept_in, kept_of, special_at, special_entries}
use Rattle.naga_oil_derive.specs.declared.special.SpecialKey.{SpecialKey}
use Rattle.naga_oil_derive.proofs.DerivedLaws.{placed_law}
use Rattle.naga_oil_derive.proofs.SetLaws.{set_law}
use Rattle.naga_oil_derive.proofs.WorldLemmas.{named_names}
use Rattle.naga_oil_form_laws.specs.EntryForm.{IsModuleFormed}
use Rattle.naga_oil_form_laws.proofs.RequestLemmas.{from_at}
use Rattle.naga_oil_form_laws.proofs.SpecialLemmas.{at_key, with_all}
use Rattle.naga_oil_link.specs.BuiltModule.{BuiltModule}
use Rattle.naga_oil_link.specs.Linked.{Asked, links_place, links_function, link_function, link_source, link_items}
use Rattle.naga_oil_link.specs.LinkView.{IsLinkFormed}
use Rattle.naga_oil_link.specs.OwnPlaces.{OwnPlaces}
use Rattle.naga_oil_link.specs.Places.{places_of}
use Rattle.naga_oil_link.proofs.GoodFormLemmas.{has_places, source_formed}
use Rattle.naga_oil_copy_laws.specs.Scope.{ReadAlike, scope_of, scope_by, scope_from}
use Rattle.naga_oil_copy_laws.specs.ByTree.{CopiesByTree}
use Rattle.naga_oil_copy_laws.specs.ByTreeLaw.{HasEarlierOperands}
use Rattle.naga_oil_copy_laws.specs.CopiedByTree.{AreTrueIn, IsMade}
use Rattle.naga_oil_copy_laws.specs.Frame.{AreAlike, HasMore, IsAllThere}
use Rattle.naga_oil_copy_laws.specs.HeldCopies.{IsCopyableFunction}
use Rattle.naga_oil_copy_laws.specs.InTurn.{CanCopyModule}
use Rattle.naga_oil_copy_laws.proofs.FrameLaws.{alike, target, tree_stays, item_alike, item_more}
use Rattle.naga_oil_copy_laws.proofs.HeldLemmas.{FunctionsStay, comes_there}
use Rattle.naga_oil_copy_laws.proofs.ThereLaws.{all_there}
use Rattle.naga_oil_copy_laws.proofs.TreeCopies.{made}
use Rattle.naga_oil_copy_laws.proofs.TurnLaws.{nowhere, own_names}
use Rattle.naga_oil_link_laws.specs.Headers.{HasNamed}
use Rattle.naga_oil_link_laws.specs.ReadIn.{scope_in, HasKeysOf}
use Rattle.naga_oil_link_laws.specs.LinkedCopies.{CopiesOfBuild, HeaderOf, ReadsAsItemOf, IsBuildOf, ComesFromBuild}
use Rattle.naga_oil_link_laws.specs.SpecialComes.{IsTypeFrom, Copied, Shared}
use Rattle.naga_oil_link_laws.proofs.FormedSources.{can_copy}
use Rattle.naga_oil_link_laws.proofs.Names.{Function, named_stays, function_named}
use Rattle.naga_oil_link_laws.proofs.Stages.{keys_stay, Setting, Stage, Stages, following, read_after, stage_begins, stage_same, stage_then, stage_item, stage_new, stage_made}
use Rattle.naga_oil_link_laws.proofs.Scopes.{alike_same, after_alike, in_alike, kept_there}
use Rattle.naga_oil_link_laws.proofs.Specials.{Entry, entries_at, kept_entry, type_went, all_both, Carries, carried, kept_later, not_kept}
use Rattle.naga_oil_ir.specs.Spans.{span_stride}

-- ---- copies in what is linked so far

-- before the k-th function stands one with each name that a header has
abbrev pub HasBefore : (header t : ModuleValue) → ℕ → Type 0
HasBefore header t k = (n : Text) → HasNamed header n → (j : ℕ) × (y : Function) × (j < k) × (slice_get t.functions j ≡ Some y) × (y.0.name ≡ n)

-- g, the k-th function, copies one of a build, with its span, in a module that has all that g names and the keys of the build's
-- special types; what the build's header declares stands before g
pub record LinkCopy (P : BuiltModule → Type 0) (H : HeaderOf P) (t : ModuleValue) (k : ℕ) (g : FunctionValue × Span) : Type 0 where
  pub build : BuiltModule
  pub among : P build
  pub before : HasBefore (H build among) t k
  pub place : ℕ
  pub function : FunctionValue × Span
  pub at : slice_get build.value.functions place ≡ Some function
  pub source_earlier : HasEarlierOperands function.0
  pub copies : CopiesOfBuild build t function.0 g.0
  pub span : g.1 ≡ shifted (build.index * span_stride) function.1
  pub there : IsAllThere t g.0
  pub keys : HasKeysOf build.value t

-- an item reads as one of a build
pub record LinkItem (P : BuiltModule → Type 0) (t : ModuleValue) (q : ItemPlace) : Type 0 where
  pub build : BuiltModule
  pub among : P build
  pub item : ReadsAsItemOf build t q
  pub keys : HasKeysOf build.value t

-- everything that was linked so far
pub record Linked (P : BuiltModule → Type 0) (H : HeaderOf P) (d : Derived) : Type 0 where
  pub formed : IsLinkFormed d
  pub are_true : AreTrueIn d.target d.function_names
  pub functions : (k : ℕ) (g : FunctionValue × Span) → slice_get d.target.functions k ≡ Some g → LinkCopy P H d.target k g
  pub items : (q : ItemPlace) (r : Row) → world d.target q ≡ Some r → LinkItem P d.target q
  pub special : All (λ (e : Entry). ComesFromBuild P d.target e.0 e.1) (special_entries d.target.special_types)

pub derived_of : (d : Derived) → IsLinkFormed d → (first : Kept) → IsDerivation first d
unfolding IsLinkFormed
derived_of d l first = (l first).items.derivation

-- ---- where more is linked

module _ (P : BuiltModule → Type 0) (H : HeaderOf P) (first : Kept) (d : Derived) (i : IsDerivation first d) (u : ModuleValue) (more : HasMore d.target u) where
  abbrev t : ModuleValue
  t = d.target

  copy_stays : (k : ℕ) (g : FunctionValue × Span) → LinkCopy P H t k g → LinkCopy P H u k g
  copy_stays k g c =
      let m = c.build.value in
      let shift = shifted (c.build.index * span_stride) in
      let more_there = target shift (λ n. n) (scope_in m t) c.function.0 g.0 t u c.source_earlier c.copies.earlier i.sound.whole more c.there c.copies.copies in
      let now = alike shift (λ n. n) (scope_in m t) (scope_of u) (scope_in m u) (scope_of u) c.function.0 g.0 (in_alike m t u i.sound.whole i.special c.keys more) (alike_same (scope_of u)) more_there.0 in
      record {
        build = c.build;
        among = c.among;
        before = λ n h. (let o = c.before n h in (o.0, o.1, o.2, more.functions o.0 o.1 o.3, o.4));
        place = c.place;
        function = c.function;
        at = c.at;
        source_earlier = c.source_earlier;
        copies = record { copies = now; earlier = c.copies.earlier };
        span = c.span;
        there = more_there.1;
        keys = keys_stay m t u more c.keys;
      }

  item_stays : (q : ItemPlace) → HasAt t q → LinkItem P t q → LinkItem P u q
  item_stays q h c =
      let m = c.build.value in
      let same = in_alike m t u i.sound.whole i.special c.keys more in
      record {
        build = c.build;
        among = c.among;
        item = (c.item.0, c.item.1, λ n. tree_stays t u i.sound.whole more q h n ∙ c.item.2 n ∙ sym (same.reads c.item.0 n));
        keys = keys_stay m t u more c.keys;
      }

  -- a build still says where special types come from
  build_stays : (q : ℕ) (w : World) (m : ModuleValue) → IsBuildOf P t w m → Carries (IsBuildOf P u) (scope_by t) (scope_by u) t u q q w m
  build_stays q w m c =
      let same : AreAlike (scope_by t w m) (scope_by u w m) = subst (λ (w : World). AreAlike (scope_by t w m) (scope_by u w m)) c.reads (in_alike m t u i.sound.whole i.special c.keys more) in
      record {
        reads = w;
        value = m;
        of = record { build = c.build; among = c.among; value = c.value; reads = c.reads; keys = keys_stay m t u more c.keys };
        each = λ key k at. record {
          place = k;
          at = at;
          same = λ n. refl;
          copied = λ z. record {
            there = item_more t u more (TypeItem q) z.there;
            reads = λ n.
                let below : (λ p. (scope_by u w m).reads p n) ≡ (λ p. (scope_by t w m).reads p n) = λ i p. same.reads p n i in
                tree_stays t u i.sound.whole more (TypeItem q) z.there (suc n) ∙ z.reads n ∙ sym (ap (λ f. row_tree f (w (TypeItem k))) below);
          };
        };
      }

  special_stays : (key : SpecialKey) (q : ℕ) → ComesFromBuild P t key q → ComesFromBuild P u key q
  special_stays key q c = carried (IsBuildOf P t) (IsBuildOf P u) (scope_by t) (scope_by u) t u q q (build_stays q) (λ key at. more.special key q at) key c

-- a known name is that of a function
meant_named : (t : ModuleValue) (ns : Meanings) (n : Text) (h : ℕ) → AreTrueIn t ns → meant ns n ≡ Some h → HasNamed t n
meant_named t ns None h a e = absurd (none-some h e)
meant_named t ns (Some n) h a e = one (slice_get t.functions h) refl (a (Some n) h e)
  where
    one : (o : Option Function) → slice_get t.functions h ≡ o → option_flatten (option_map (λ (f : Function). f.0.name) o) ≡ Some n → HasNamed t (Some n)
    one None at same = absurd (none-some n same)
    one (Some f) at same = (h, f, at, same)

at_or_after : (fs : List (FunctionValue × Span)) (k : ℕ) → ((x : FunctionValue × Span) × (slice_get fs k ≡ Some x)) ⊎ (length fs ≤ k)
at_or_after [] k = inr zero-le
at_or_after (x ∷ fs) zero = inl (x, refl)
at_or_after (x ∷ fs) (suc k) = ⊎_elim inl (λ l. inr (omega (arith, l))) (at_or_after fs k)

-- what is mapped stands in the source
pub source_there : (first : Kept) (d : Derived) (s : Source) (m : ModuleValue) (p q : ItemPlace) → IsDerivation first d → d.source ≡ Some s → s.value ≡ m → goes s.places p ≡ Some q → HasAt m p
source_there first d s m p q i at is e =
    let own = comes_there d.source s (λ y. IsSourceOf first y d.target) at i.source in
    let k = own.midway.copied.known p q e in
    let r = named_names (world s.value) (world d.target) (goes s.places) p k.0 k.1 in
    (r.0, ap (λ (v : ModuleValue). world v p) (sym is) ∙ r.1)

-- ---- one source

-- a function of a build that is linked, or comes with the entry points, after what was linked
module _ (P : BuiltModule → Type 0) (H : HeaderOf P) (b : BuiltModule) (among : P b) (form : IsModuleFormed b.value) (before : Derived) (l : Linked P H before) (known : (n : Text) → HasNamed (H b among) n → HasNamed before.target n) (shift : ℕ) (moved : shift ≡ b.index * span_stride) where
  abbrev m : ModuleValue
  m = b.value

  abbrev x : Setting
  x = following before m shift

  abbrev w : World
  w = read_after before m

  pub can : CanCopyModule m
  can = can_copy m form

  pub source_begins : Stage x w (set_source before m shift)
  source_begins = stage_begins nowhere before m shift can (derived_of before l.formed nowhere) l.are_true

  module _ (d : Derived) (t : Stage x w d) where
    pub made_copies : (f g : FunctionValue) → IsCopyableFunction f → IsMade t.source d.target f g → CopiesOfBuild b d.target f g
    made_copies f g c h =
        let k = made x.first d t.source f g t.derivation t.is c.may h in
        let now = alike (shifted t.source.offset) (λ n. n) (scope_from t.source d.target) (scope_of d.target) (scope_in m d.target) (scope_of d.target) f g (after_alike before m shift d t) (alike_same (scope_of d.target)) k.0 in
        record { copies = subst (λ o. CopiesByTree (shifted o) (λ n. n) (scope_in m d.target) f (scope_of d.target) g) (t.offset ∙ moved) now; earlier = k.1 }

    new_function : (k : ℕ) (g : FunctionValue × Span) → length before.target.functions ≤ k → slice_get d.target.functions k ≡ Some g → LinkCopy P H d.target k g
    new_function k g n at =
        let h = stage_made x can w d t k g n at in
        let c = (can.functions h.place h.function h.at).0.copyable in
        record {
          build = b;
          among = among;
          before = λ name own. (let o = known name own in (o.0, o.1, (let inside = slice_get_within before.target.functions o.0 o.1 o.2 in let r : o.0 < k = omega (arith, inside, n) in r), t.more.functions o.0 o.1 o.2, o.3));
          place = h.place;
          function = h.function;
          at = h.at;
          source_earlier = c.may.form.earlier;
          copies = made_copies h.function.0 g.0 c h.made;
          span = h.span ∙ ap (λ j. shifted j h.function.1) (t.offset ∙ moved);
          there = all_there x.first d t.source h.function.0 g.0 t.derivation t.is c.may h.made;
          keys = t.keys;
        }

    pub each_function : (k : ℕ) (g : FunctionValue × Span) → slice_get d.target.functions k ≡ Some g → LinkCopy P H d.target k g
    each_function k g at =
        ⊎_elim
        (λ (o : (y : FunctionValue × Span) × (slice_get before.target.functions k ≡ Some y)). let same : o.0 ≡ g = same_Some o.0 g (sym (t.more.functions k o.0 o.1) ∙ at) in copy_stays P H nowhere before (derived_of before l.formed nowhere) d.target t.more k g (l.functions k g (o.1 ∙ ap Some same)))
        (λ n. new_function k g n at)
        (at_or_after before.target.functions k)

    pub each_item : (q : ItemPlace) (r : Row) → world d.target q ≡ Some r → LinkItem P d.target q
    each_item q r at =
        ⊎_elim
        (λ (o : world before.target q ≡ Some r). item_stays P H nowhere before (derived_of before l.formed nowhere) d.target t.more q (r, o) (l.items q r o))
        (λ (o : (p : ItemPlace) × (goes t.source.places p ≡ Some q)).
        let reads : ReadAlike (scope_from t.source d.target) (scope_of d.target) o.0 q = (placed_law x.first d t.source o.0 q t.derivation t.is o.1).now in
        record { build = b; among = among; item = (o.0, source_there x.first d t.source m o.0 q t.derivation t.is t.value o.1, item_alike (scope_from t.source d.target) (scope_of d.target) (scope_in m d.target) (scope_of d.target) o.0 q (after_alike before m shift d t) (alike_same (scope_of d.target)) reads); keys = t.keys })
        (t.items q r at)

    -- the source, which has its special types
    abbrev begun : Source
    begun = record { value = m; offset = shift; places = (copy_special before m shift).places }

    abbrev is_build : IsBuildOf P d.target (world m) m
    is_build = record { build = b; among = among; value = refl; reads = refl; keys = t.keys }

    abbrev from_first : IsSourceOf x.first t.source d.target
    from_first = comes_there d.source t.source (λ y. IsSourceOf x.first y d.target) t.is t.derivation.source

    -- what the source's items name reads as in the module
    reads_below : (n : ℕ) (p : ItemPlace) → reading n (as_read t.source d.target) (world d.target) x.first p ≡ (scope_by d.target (world m) m).reads p n
    reads_below n p =
        let s = t.source in
        sym (kept_later (as_read s d.target) (world d.target) x.first (kept s d.target) from_first.still (λ p q n e. (placed_law x.first d s p q t.derivation t.is (from_first.stand p q e)).at_first n) n p) ∙ sym ((after_alike before m shift d t).reads p n)

    -- a special type of the source that the module lacked
    type_copied : (k q : ℕ) → kept t.source d.target (TypeItem k) ≡ Some (TypeItem q) → x.first (TypeItem k) ≡ None → IsTypeFrom (world m) (scope_by d.target (world m) m) d.target k q
    type_copied k q now none =
        let s = t.source in
        let p = TypeItem k in
        let stood : kept_of m.special_types d.target.special_types p ≡ Some (TypeItem q) = ap (λ (v : ModuleValue). kept_of v.special_types d.target.special_types p) (sym t.value) ∙ now in
        let row : as_read s d.target p ≡ world m p = ap (λ (f : World). f p) t.reads ∙ own_names (world m) (world before.target) x.first p none in
        record {
          there = kept_there m d.target t.derivation.special p (TypeItem q) stood;
          reads = λ n.
              let below : reading n (as_read s d.target) (world d.target) x.first ≡ (λ p. (scope_by d.target (world m) m).reads p n) = λ i p. reads_below n p i in
              (placed_law x.first d s p (TypeItem q) t.derivation t.is (from_first.stand p (TypeItem q) now)).at_first (suc n)
              ∙ not_kept (as_read s d.target) (world d.target) x.first p none n
              ∙ ap (row_tree (reading n (as_read s d.target) (world d.target) x.first)) row
              ∙ ap (λ f. row_tree f (world m p)) below;
        }

    -- one that it had for another key
    type_shared : (key : SpecialKey) (k q : ℕ) → special_at m.special_types key ≡ Some k → kept_in (special_at before.target.special_types) (special_entries m.special_types) k ≡ Some q → ComesFromBuild P d.target key q
    type_shared key k q at had =
        let IsAt = λ (e : Entry). special_at m.special_types e.0 ≡ Some e.1 in
        let e = kept_entry IsAt (special_at before.target.special_types) (special_entries m.special_types) k q (entries_at m.special_types can.special.distinct) had in
        let stood = at_key (λ (e : Entry). ComesFromBuild P before.target e.0 e.1) before.target.special_types e.0.0 q l.special e.2 in
        let grown = special_stays P H nowhere before (derived_of before l.formed nowhere) d.target t.more e.0.0 q stood in
        Shared (world m) m k e.0.1 is_build at e.3 (λ n. ap (λ j. tree n (world m) (TypeItem j)) (sym e.1)) (t.more.special e.0.0 q e.2) grown

    special_comes : (e : Entry) → Settles before (set_source before m shift) begun e → special_at m.special_types e.0 ≡ Some e.1 → ComesFromBuild P d.target e.0 (type_under begun.places e.1)
    unfolding goes kept_of
    special_comes e h at =
        let same : type_under begun.places e.1 ≡ h.at = type_went (option_flatten (slice_get begun.places.types e.1)) e.1 h.at h.went in
        subst (ComesFromBuild P d.target e.0) (sym same) (one (kept_in (special_at before.target.special_types) (special_entries m.special_types) e.1) refl)
      where
        now : kept t.source d.target (TypeItem e.1) ≡ Some (TypeItem h.at)
        now = ap (λ (v : ModuleValue). kept_of v.special_types d.target.special_types (TypeItem e.1)) t.value ∙ ap (λ v. kept_of m.special_types v (TypeItem e.1)) t.special ∙ h.stands

        one : (o : Option ℕ) → kept_in (special_at before.target.special_types) (special_entries m.special_types) e.1 ≡ o → ComesFromBuild P d.target e.0 h.at
        one None f = Copied (world m) m e.1 is_build at (type_copied e.1 h.at now (ap (option_map TypeItem) f))
        one (Some q) f =
            let is : TypeItem q ≡ TypeItem h.at = h.had (TypeItem q) (ap (option_map TypeItem) f) in
            let q_is : q ≡ h.at = cc in
            subst (ComesFromBuild P d.target e.0) q_is (type_shared e.0 e.1 q at f)

    pub each_special : All (λ (e : Entry). ComesFromBuild P d.target e.0 e.1) (special_entries d.target.special_types)
    each_special =
        let Comes = λ (e : Entry). ComesFromBuild P d.target e.0 e.1 in
        let f = type_under begun.places in
        let es = special_entries m.special_types in
        let first = derived_of before l.formed nowhere in
        let law : SetsOnly m shift before (set_source before m shift) = set_law nowhere before m shift first can.items can.special in
        let IsAt = λ (e : Entry). special_at m.special_types e.0 ≡ Some e.1 in
        let grown = All-weaker (λ (e : Entry). ComesFromBuild P before.target e.0 e.1) Comes (λ e h. special_stays P H nowhere before first d.target t.more e.0 e.1 h) (special_entries before.target.special_types) l.special in
        let own = all_both (Settles before (set_source before m shift) begun) IsAt (λ (e : Entry). ComesFromBuild P d.target e.0 (f e.1)) special_comes es law.settles (entries_at m.special_types can.special.distinct) in
        subst (λ v. All Comes (special_entries v)) (sym (t.special ∙ law.set.1.special)) (with_all Comes before.target.special_types f es grown own)

  -- items and functions one after another
  places_linked : (ps : List ItemPlace) (d : Derived) (t : Stage x w d) → All (HasAt m) ps → Stages x w d (fold import_item d ps) t.source
  places_linked [] d t a = stage_same x can w d t
  places_linked (p ∷ ps) d t a =
      let e = import_item d p in
      let one = stage_item x can w d p t (All-head (HasAt m) p ps a) in
      stage_then x can w w w d e (fold import_item e ps) t one (places_linked ps e one.stage (All-tail (HasAt m) p ps a))

  -- a function stands in the module
  abbrev StandsIn : FunctionValue × Span → Type 0
  StandsIn y = (k : ℕ) × (slice_get m.functions k ≡ Some y)

  functions_linked : (fs : List (FunctionValue × Span)) (d : Derived) (t : Stage x w d) → All StandsIn fs → Stages x w d (fold link_function d fs) t.source
  functions_linked [] d t a = stage_same x can w d t
  functions_linked (y ∷ fs) d t a =
      let e = link_function d y in
      let at = All-head StandsIn y fs a in
      let one = stage_new x can w d at.0 y t at.1 in
      stage_then x can w w w d e (fold link_function e fs) t one (functions_linked fs e one.stage (All-tail StandsIn y fs a))

  -- the name of a function that is linked is there
  link_named : (d : Derived) (y : Function) (t : Stage x w d) → HasNamed (link_function d y).target y.0.name
  link_named d y t = one (meant d.function_names y.0.name) refl
    where
      one : (o : Option ℕ) → meant d.function_names y.0.name ≡ o → HasNamed (let r : Derived = if is_some o then d else import_function d y.0 y.1 in r.target) y.0.name
      one None e = function_named d y.0 y.1 (ap is_some t.is)
      one (Some h) e = meant_named d.target d.function_names y.0.name h t.holds.are_true e

  each_named : (test : Function → Bool) (fs : List Function) (d : Derived) (t : Stage x w d) → All StandsIn fs → (k : ℕ) (f : Function) → slice_get fs k ≡ Some f → test f ≡ true → HasNamed (fold link_function d (filter test fs)).target f.0.name
  each_named test [] d t a k f at p = absurd (none-some f at)
  each_named test (y ∷ fs) d t a k f at p = one (test y) refl k at (each_named test fs)
    where
      rest : All StandsIn fs
      rest = All-tail StandsIn y fs a

      one : (b : Bool) → test y ≡ b → (k : ℕ) → slice_get (y ∷ fs) k ≡ Some f → ((e : Derived) → Stage x w e → All StandsIn fs → (k : ℕ) (f : Function) → slice_get fs k ≡ Some f → test f ≡ true → HasNamed (fold link_function e (filter test fs)).target f.0.name) → HasNamed (let r : Derived = fold link_function d (if b then y ∷ filter test fs else filter test fs) in r.target) f.0.name
      one true q zero at again =
          let e = link_function d y in
          let own = All-head StandsIn y fs a in
          let stage = stage_new x can w d own.0 y t own.1 in
          let stays = functions_linked (filter test fs) e stage.stage (All-filter test StandsIn fs rest) in
          let same : y ≡ f = same_Some y f at in
          named_stays e.target (fold link_function e (filter test fs)).target f.0.name stays.stay (subst (λ (z : Function). HasNamed e.target z.0.name) same (link_named d y t))
      one true q (suc k) at again =
          let own = All-head StandsIn y fs a in
          again (link_function d y) (stage_new x can w d own.0 y t own.1).stage rest k f at p
      one false q zero at again = absurd (false≢true (sym q ∙ ap test (same_Some y f at) ∙ p))
      one false q (suc k) at again = again d t rest k f at p

-- what is linked of a build is everything requested of it, after what was linked
pub record Links (P : BuiltModule → Type 0) (H : HeaderOf P) (b : BuiltModule) (asked : Asked) (d e : Derived) : Type 0 where
  pub linked : Linked P H e
  pub stay : FunctionsStay d.target e.target
  pub named : (k : ℕ) (f : Function) → slice_get b.value.functions k ≡ Some f → links_function b asked f ≡ true → HasNamed e.target f.0.name

source_linked : (P : BuiltModule → Type 0) (H : HeaderOf P) (b : BuiltModule) (own : OwnPlaces) (asked : Asked) (d : Derived) (among : P b) → IsModuleFormed b.value → Linked P H d → ((n : Text) → HasNamed (H b among) n → HasNamed d.target n) → Links P H b asked d (link_source b own b.value asked d)
source_linked P H b own asked d among form l known =
    let m = b.value in
    let shift = b.index * span_stride in
    let x = following d m shift in
    let e = set_source d m shift in
    let ps = filter (links_place own m asked) (places_of m) in
    let fs = filter (links_function b asked) m.functions in
    let Stands = λ (y : FunctionValue × Span). (k : ℕ) × (slice_get m.functions k ≡ Some y) in
    let all : All Stands m.functions = from_at Stands m.functions (λ k y at. (k, at)) in
    let t = source_begins P H b among form d l known shift refl in
    let a = places_linked P H b among form d l known shift refl ps e t (All-filter (links_place own m asked) (HasAt m) (places_of m) (has_places m)) in
    let f = functions_linked P H b among form d l known shift refl fs (fold import_item e ps) a.stage (All-filter (links_function b asked) Stands m.functions all) in
    let u = fold link_function (fold import_item e ps) fs in
    record {
      linked = record {
        formed = source_formed b own m asked d form l.formed;
        are_true = f.stage.holds.are_true;
        functions = each_function P H b among form d l known shift refl u f.stage;
        items = each_item P H b among form d l known shift refl u f.stage;
        special = each_special P H b among form d l known shift refl u f.stage;
      };
      stay = f.stage.more.functions;
      named = each_named P H b among form d l known shift refl (links_function b asked) m.functions (fold import_item e ps) a.stage all;
    }

pub items_linked : (P : BuiltModule → Type 0) (H : HeaderOf P) (b : BuiltModule) (asked : Asked) (d : Derived) (among : P b) → IsModuleFormed b.value → Linked P H d → ((n : Text) → HasNamed (H b among) n → HasNamed d.target n) → Links P H b asked d (link_items false b asked d)
unfolding link_items
items_linked P H b asked d among form l known = source_linked P H b b.own_in_value asked d among form l known
