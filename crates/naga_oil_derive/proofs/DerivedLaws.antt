-- What the methods of a derived module do, over values alone.
use Rattle.std.proofs.Common.{inl, ◌≡◌, ℕ, List, Option, Some, None, refl, ap, sym, ◌∙◌, subst, IfSome}
use Rattle.std.proofs.lemmas.Bool.{false≢true}
use Rattle.naga_oil_ir.specs.Rows.{Text}
use Rattle.naga_oil_ir.specs.ModuleValue.{ModuleValue, no_items}
use Rattle.naga_oil_ir.specs.declared.names.ItemPlace.{ItemPlace}
use Rattle.naga_oil_ir.specs.declared.names.ItemPlace.TheVariants.{TypeItem}
use Rattle.naga_oil_ir.specs.declared.span.Span.{Span}
use Rattle.naga_oil_derive.specs.Tree.{World, Kept, ReadsAs}
use Rattle.naga_oil_derive.specs.World.{goes, world, Extends, renamed_at, kept_of, special_at}
use Rattle.naga_oil_derive.specs.Collected.{Collects, Done, Known, Fresh}
use Rattle.naga_oil_derive.specs.Copying.{handle_under}
use Rattle.naga_oil_derive.specs.Copied.{CopyState, copy_item, copy_named_type}
use Rattle.naga_oil_derive.specs.CopiedLaw.{HasAt, IsMidway, GrowsBy}
use Rattle.naga_oil_derive.specs.Derived.{Source, Derived, nothing, cleared, as_read, kept, HasItem, Keeps}
use Rattle.naga_oil_derive.specs.DerivedValue.{after_copying, import_item, rename_type}
use Rattle.naga_oil_derive.specs.DerivedLaw.{IsSourceOf, AreThere, IsDerivation, ReadsIn, ImportsOnly, RenamesOnly, type_place}
use Rattle.naga_oil_derive.proofs.TreeLemmas.{AreCopied-kept}
use Rattle.naga_oil_derive.proofs.WorldLemmas.{Extends-stays, Extends-refl, Extends-trans}
use Rattle.naga_oil_derive.proofs.CopyLemmas.{none_some}
use Rattle.naga_oil_derive.proofs.DeriveLemmas.{world_empty, nothing_some, special_none, no_place}
use Rattle.naga_oil_derive.proofs.PutLaws.{goes_renamed}
use Rattle.naga_oil_derive.proofs.PuttingLemmas.{IsLater}
use Rattle.naga_oil_derive.proofs.CopiedLaws.{placed_reads, copied_item, copied_named, type_again}

-- ---- what grows

pub Collects-extends : {w : World} {kept : Kept} {spans : ItemPlace → Option Span} {m n : ModuleValue} {ps : List ItemPlace} → Collects w kept spans m ps n → Extends m n
Collects-extends {m} Done = Extends-refl m
Collects-extends (Known s c) = Collects-extends c
Collects-extends {m} {n} (Fresh {l} s c) = Extends-trans m l n s.extends (Collects-extends c)

pub special_same : (m n : ModuleValue) → Extends m n → n.special_types ≡ m.special_types
special_same m n e = ap (λ (v : ModuleValue). v.special_types) e.rest

kept_as : (s : Source) (t u : ModuleValue) → Extends t u → kept s u ≡ kept s t
kept_as s t u e = ap (kept_of s.value.special_types) (special_same t u e)

-- ---- derivations

abbrev derivation : Option Source → ModuleValue → List (List ℕ × ℕ) → Derived
derivation o t ns = record { source = o; target = t; function_names = ns }

pub nothing_derived : (first : Kept) → IsDerivation first nothing
nothing_derived first = record {
  kinds = λ p r e. absurd (nothing_some (world no_items p) r (world_empty p) e);
  sound = record { whole = λ p r e. absurd (nothing_some (world no_items p) r (world_empty p) e); once = λ p q r e f. absurd (nothing_some (world no_items p) r (world_empty p) e) };
  special = λ k q e. absurd (no_place (special_at no_items.special_types k) q (special_none k) e);
  source = tt;
}

pub cleared_derived : (first later : Kept) (d : Derived) → IsDerivation first d → IsDerivation later (cleared d)
cleared_derived first later d i = record { kinds = i.kinds; sound = i.sound; special = i.special; source = tt }

some_first : (first now : Kept) → ((p q : ItemPlace) → first p ≡ Some q → now p ≡ Some q) → (p : ItemPlace) (o : Option ItemPlace) → first p ≡ o → now p ≡ None → first p ≡ None
some_first first now h p None e n = e
some_first first now h p (Some q) e n = absurd (none_some q (sym n ∙ h p q e))

-- the state of copying, by the special types that are kept now
pub midway_now : (first : Kept) (s : Source) (t : ModuleValue) → IsSourceOf first s t → IsMidway s.value (kept s t) (record { places = s.places; target = t })
midway_now first s t i = record {
  kinds = i.midway.kinds;
  roomy = i.midway.roomy;
  sound = i.midway.sound;
  copied = AreCopied-kept (as_read s t) (world t) first (kept s t) (goes s.places) i.midway.copied i.stand (λ p n. some_first first (kept s t) i.still p (first p) refl n);
}

placed_in : (first : Kept) (o : Option Source) (t : ModuleValue) (s : Source) (p q : ItemPlace) (ns : List (List ℕ × ℕ)) → IfSome o (λ x. IsSourceOf first x t) → o ≡ Some s → goes s.places p ≡ Some q → ReadsIn first (derivation o t ns) s p q
placed_in first o t s p q ns i e g =
    let k = subst (λ (x : Option Source). IfSome x (λ y. IsSourceOf first y t)) e i in
    let c : CopyState = record { places = s.places; target = t } in
    record {
      at_first = placed_reads s.value first (as_read s t) c p q k.midway refl g;
      now = placed_reads s.value (kept s t) (as_read s t) c p q (midway_now first s t k) refl g;
    }

pub placed_law : (first : Kept) (d : Derived) (s : Source) (p q : ItemPlace) → IsDerivation first d → d.source ≡ Some s → goes s.places p ≡ Some q → ReadsIn first d s p q
placed_law first d s p q i e g = placed_in first d.source d.target s p q d.function_names i.source e g

-- ---- a source of which some was copied

pub there_later : (t u : ModuleValue) → Extends t u → AreThere t → AreThere u
there_later t u e h k q w =
    let r = h k q (ap (λ s. special_at s k) (sym (special_same t u e)) ∙ w) in
    (r.0, Extends-stays t u e (TypeItem q) r.0 r.1)

-- items that come leave a derivation
pub later_derived : (first : Kept) (s : Source) (t : ModuleValue) (ns : List (List ℕ × ℕ)) (u : CopyState) → IsDerivation first (derivation (Some s) t ns) → IsLater s.value first (record { places = s.places; target = t }) u → IsDerivation first (after_copying (derivation (Some s) t ns) s u)
later_derived first s t ns u i g =
    let same = kept_as s t u.target g.extends in
    record {
      kinds = g.midway.kinds;
      sound = g.midway.sound;
      special = there_later t u.target g.extends i.special;
      source = record {
        copyable = i.source.copyable;
        midway = g.midway;
        stand = λ p q h. g.went p q (i.source.stand p q (ap (λ (f : Kept). f p) (sym same) ∙ h));
        still = λ p q h. ap (λ (f : Kept). f p) same ∙ i.source.still p q h;
      };
    }

-- so what was copied since leaves one
pub derived_after : (first : Kept) (s : Source) (t : ModuleValue) (ns : List (List ℕ × ℕ)) (w : World) (u : CopyState) (ps : List ItemPlace) → IsDerivation first (derivation (Some s) t ns) → GrowsBy s.value s.offset first w (record { places = s.places; target = t }) u ps → IsDerivation first (after_copying (derivation (Some s) t ns) s u)
derived_after first s t ns w u ps i g = later_derived first s t ns u i (record { midway = g.midway; went = g.went; extends = Collects-extends g.collects })

pub keeps_after : (first : Kept) (s : Source) (t : ModuleValue) (ns : List (List ℕ × ℕ)) (w : World) (u : CopyState) (ps : List ItemPlace) → GrowsBy s.value s.offset first w (record { places = s.places; target = t }) u ps → Keeps (derivation (Some s) t ns) (after_copying (derivation (Some s) t ns) s u)
keeps_after first s t ns w u ps g = record {
  items = Collects-extends g.collects;
  names = refl;
  source = record { value = refl; offset = refl; went = g.went };
}

-- ---- an item

import_some : (first : Kept) (s : Source) (t : ModuleValue) (ns : List (List ℕ × ℕ)) (p : ItemPlace) → IsDerivation first (derivation (Some s) t ns) → HasAt s.value p → ImportsOnly first (derivation (Some s) t ns) (import_item (derivation (Some s) t ns) p) p
import_some first s t ns p i r =
    let c : CopyState = record { places = s.places; target = t } in
    let a = copied_item s.value s.offset first c p i.source.copyable i.source.midway r in
    let b = copied_item s.value s.offset (kept s t) c p i.source.copyable (midway_now first s t i.source) r in
    record {
      derivation = derived_after first s t ns (as_read s t) (copy_item s.value s.offset c p) _ i a.0;
      places = b.0.places;
      imported = (b.1.0, record { reads = b.1.2; collects = b.0.collects; goes = b.1.1 });
      reads = a.0.reads;
      keeps = keeps_after first s t ns (as_read s t) (copy_item s.value s.offset c p) _ a.0;
    }

import_any : (first : Kept) (o : Option Source) (t : ModuleValue) (ns : List (List ℕ × ℕ)) (p : ItemPlace) → IsDerivation first (derivation o t ns) → HasItem (derivation o t ns) p → ImportsOnly first (derivation o t ns) (import_item (derivation o t ns) p) p
import_any first None t ns p i h = absurd (false≢true h.0)
import_any first (Some s) t ns p i h = import_some first s t ns p i h.1

pub import_law : (first : Kept) (d : Derived) (p : ItemPlace) → IsDerivation first d → HasItem d p → ImportsOnly first d (import_item d p) p
import_law first d p i h = import_any first d.source d.target d.function_names p i h

-- ---- a type under a name

same_place : (o : Option ItemPlace) (p q : ItemPlace) → o ≡ Some p → o ≡ Some q → p ≡ q
same_place o p q e f = let g : Some p ≡ Some q = sym e ∙ f in cc

some_place : (o : Option ItemPlace) (q : ItemPlace) → o ≡ None → o ≡ Some q → ⊥
some_place o q e f = none_some q (sym e ∙ f)

rename_known : (first : Kept) (s : Source) (t : ModuleValue) (ns : List (List ℕ × ℕ)) (k : ℕ) (name : Option Text) (q : ItemPlace) → IsDerivation first (derivation (Some s) t ns) → goes s.places (TypeItem k) ≡ Some q → RenamesOnly first (derivation (Some s) t ns) (rename_type (derivation (Some s) t ns) k name) k name (type_place (rename_type (derivation (Some s) t ns) k name) k)
rename_known first s t ns k name q i g =
    let d = derivation (Some s) t ns in
    let c : CopyState = record { places = s.places; target = t } in
    let same : rename_type d k name ≡ d = ap (after_copying d s) (type_again s.value s.offset c k name (q, g)) in
    subst (λ (e : Derived). RenamesOnly first d e k name (type_place e k)) (sym same) (record {
      derivation = i;
      places = λ p. inl refl;
      known = λ x h. (same_place (goes s.places (TypeItem k)) x (TypeItem (handle_under s.places.types k)) h (goes_renamed s.offset s.places (TypeItem k) x h), refl);
      renamed = λ n. absurd (some_place (goes s.places (TypeItem k)) q n g);
      keeps = record { items = Extends-refl t; names = refl; source = record { value = refl; offset = refl; went = λ x y h. h } };
    })

rename_fresh : (first : Kept) (s : Source) (t : ModuleValue) (ns : List (List ℕ × ℕ)) (k : ℕ) (name : Option Text) → IsDerivation first (derivation (Some s) t ns) → HasAt s.value (TypeItem k) → goes s.places (TypeItem k) ≡ None → RenamesOnly first (derivation (Some s) t ns) (rename_type (derivation (Some s) t ns) k name) k name (type_place (rename_type (derivation (Some s) t ns) k name) k)
rename_fresh first s t ns k name i r n =
    let c : CopyState = record { places = s.places; target = t } in
    let u = copy_named_type s.value s.offset name c k in
    let w = renamed_at (as_read s t) k name in
    let a = copied_named s.value s.offset first c k name i.source.copyable i.source.midway r n in
    let b = copied_named s.value s.offset (kept s t) c k name i.source.copyable (midway_now first s t i.source) r n in
    let q = TypeItem (handle_under u.places.types k) in
    let at = goes_renamed s.offset u.places (TypeItem k) b.1.0 b.1.1 in
    let is : b.1.0 ≡ q = same_place (goes u.places (TypeItem k)) b.1.0 q b.1.1 at in
    record {
      derivation = derived_after first s t ns w u _ i a.0;
      places = b.0.places;
      known = λ x h. absurd (some_place (goes s.places (TypeItem k)) x n h);
      renamed = λ m. (record { reads = subst (ReadsAs w (world u.target) (kept s t) (TypeItem k)) is b.1.2; collects = b.0.collects; goes = at }, a.0.reads);
      keeps = keeps_after first s t ns w u _ a.0;
    }

rename_by : (first : Kept) (s : Source) (t : ModuleValue) (ns : List (List ℕ × ℕ)) (k : ℕ) (name : Option Text) → IsDerivation first (derivation (Some s) t ns) → HasAt s.value (TypeItem k) → (o : Option ItemPlace) → goes s.places (TypeItem k) ≡ o → RenamesOnly first (derivation (Some s) t ns) (rename_type (derivation (Some s) t ns) k name) k name (type_place (rename_type (derivation (Some s) t ns) k name) k)
rename_by first s t ns k name i r None e = rename_fresh first s t ns k name i r e
rename_by first s t ns k name i r (Some q) e = rename_known first s t ns k name q i e

rename_any : (first : Kept) (o : Option Source) (t : ModuleValue) (ns : List (List ℕ × ℕ)) (k : ℕ) (name : Option Text) → IsDerivation first (derivation o t ns) → HasItem (derivation o t ns) (TypeItem k) → RenamesOnly first (derivation o t ns) (rename_type (derivation o t ns) k name) k name (type_place (rename_type (derivation o t ns) k name) k)
rename_any first None t ns k name i h = absurd (false≢true h.0)
rename_any first (Some s) t ns k name i h = rename_by first s t ns k name i h.1 (goes s.places (TypeItem k)) refl

pub rename_law : (first : Kept) (d : Derived) (k : ℕ) (name : Option Text) → IsDerivation first d → HasItem d (TypeItem k) → RenamesOnly first d (rename_type d k name) k name (type_place (rename_type d k name) k)
rename_law first d k name i h = rename_any first d.source d.target d.function_names k name i h
