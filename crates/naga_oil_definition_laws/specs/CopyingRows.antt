-- Worked rows: items that are copied with all that they name; and copies that are wrong in one thing.
use Rattle.std.proofs.Common.{◌≡◌, ◌⊎◌, inl, inr, ℕ, zero, suc, ◌<◌, List, [], ◌∷◌, length, Option, Some, None, All, IfSome, slice_get, refl, ap, sym, subst, ◌∙◌, arith}
use Rattle.std.proofs.lemmas.List.Elements.{All-nil, All-head}
use Rattle.std.proofs.lemmas.Option.{none-some, same_Some}
use Rattle.std.specs.Prelude.{codes}
use Rattle.naga_oil_ir.specs.ModuleValue.{ModuleValue, no_items}
use Rattle.naga_oil_ir.specs.Rows.{Row, Kind, TypeKind}
use Rattle.naga_oil_ir.specs.declared.names.ItemPlace.{ItemPlace}
use Rattle.naga_oil_ir.specs.declared.names.ItemPlace.TheVariants.{TypeItem, ConstantItem, OverrideItem, GlobalItem, ExpressionItem}
use Rattle.naga_oil_ir.specs.declared.span.Span.{Span}
use Rattle.naga_oil_derive.specs.Copied.{CopyState, put}
use Rattle.naga_oil_derive.specs.CopiedLaw.{AddsWith, AreRoomy, HasCopyNow, IsBelowIn, IsCopyable, IsKinded, IsMidway, IsRankedBy, PutsOne}
use Rattle.naga_oil_derive.specs.Collected.{Collects, Comes, Done, Fresh, Known, Stands, reached}
use Rattle.naga_oil_derive.specs.Copying.{AreCopied, AreWhole, Fetches, HasNoRepeats, IsCopyOf, IsSound, IsWhole, NameGoesTo, Puts, WentSomewhere}
use Rattle.naga_oil_derive.specs.Derived.{as_read, copied_spans, kept}
use Rattle.naga_oil_derive.specs.DerivedLaw.{IsDerivation}
use Rattle.naga_oil_derive.specs.Putting.{CanPut, ItemPut, NothingPut, Putting}
use Rattle.naga_oil_derive.specs.Tree.{Kept, ReadsAs, Tree, World, Cut, Absent, Missing, Item, tree, reading}
use Rattle.naga_oil_derive.specs.World.{Begins, Extends, HaveDistinctKeys, ItemMap, LacksKey, goes, kept_of, named_world, span_at, world}
use Rattle.naga_oil_derive.specs.declared.special.SpecialKey.TheVariants.{RayDesc, RayIntersection}
use Rattle.naga_oil_faithful_laws.specs.SmallMake.{number, struct}
use Rattle.naga_oil_definition_laws.specs.BodiesRows.{each_of_one}
use Rattle.naga_oil_definition_laws.specs.DerivedRows.{vector, ray, from, rank, ranked, places, source, first, begun, copied, imports}

-- rows of types of distinct kinds are distinct
kinds_differ : (r s : Row) (j k : ℕ) → r.label.kind ≡ TypeKind j → s.label.kind ≡ TypeKind k → (j ≡ k → ⊥) → r ≡ s → ⊥
kinds_differ r s j k rj sk differ e = differ (let kinds : TypeKind j ≡ TypeKind k = sym rj ∙ ap (λ (x : Row). x.label.kind) e ∙ sk in cc)

-- ---- whole items

abbrev Whole : ℕ → Option ItemPlace → Type 0
Whole n o = IfSome o (IsWhole n (world from))

number_is_whole : IsWhole 1 (world from) (TypeItem 1)
unfolding IsWhole world
number_is_whole = (number.0, refl, All-nil (Whole 0))

ray_is_whole : IsWhole 2 (world from) (TypeItem 2)
unfolding IsWhole world
ray_is_whole = ((ray 1).0, refl, each_of_one (Whole 1) (Some (TypeItem 1)) number_is_whole)

-- the ray has numbers
deeper_item_is_refused : IsWhole 1 (world from) (TypeItem 2) → ⊥
unfolding IsWhole world
deeper_item_is_refused h = All-head (Whole 0) (Some (TypeItem 1)) [] (subst (λ (r : Row). All (Whole 0) r.names) (sym (same_Some (ray 1).0 h.0 h.1)) h.2)

target_is_whole : AreWhole (world copied.target)
target_is_whole = imports.derivation.sound.whole

-- the ray without its numbers
abbrev lacking : ModuleValue
lacking = record no_items { types = ray 1 ∷ [] }

nothing_whole : (n : ℕ) → IsWhole n (world lacking) (TypeItem 1) → ⊥
unfolding IsWhole world
nothing_whole zero h = h
nothing_whole (suc n) h = absurd (none-some h.0 h.1)

ray_never_whole : (n : ℕ) → IsWhole n (world lacking) (TypeItem 0) → ⊥
unfolding IsWhole world
ray_never_whole zero h = h
ray_never_whole (suc n) h =
    let names = subst (λ (r : Row). All (λ (o : Option ItemPlace). IfSome o (IsWhole n (world lacking))) r.names) (sym (same_Some (ray 1).0 h.0 h.1)) h.2 in
    nothing_whole n (All-head (λ (o : Option ItemPlace). IfSome o (IsWhole n (world lacking))) (Some (TypeItem 1)) [] names)

ray_without_numbers_is_refused : IsCopyable lacking → ⊥
unfolding world
ray_without_numbers_is_refused h = let below = All-head (IsBelowIn lacking h.rank (TypeItem 0)) (Some (TypeItem 1)) [] (h.ranked.names (TypeItem 0) (ray 1).0 refl) in none-some below.0.0 below.0.1

missing_numbers_are_refused : AreWhole (world lacking) → ⊥
unfolding world
missing_numbers_are_refused h = let n = h (TypeItem 0) (ray 1).0 refl in ray_never_whole n.0 n.1

-- ---- no item twice

target_has_no_repeats : HasNoRepeats (world copied.target)
target_has_no_repeats = imports.derivation.sound.once

abbrev twice : ModuleValue
twice = record no_items { types = number ∷ number ∷ [] }

repeated_type_is_refused : HasNoRepeats (world twice) → ⊥
unfolding world
repeated_type_is_refused h = let e : TypeItem 0 ≡ TypeItem 1 = h (TypeItem 0) (TypeItem 1) number.0 refl refl in absurd cc

target_is_sound : IsSound (world copied.target)
target_is_sound = imports.derivation.sound

number_twice_in_target_is_refused : IsDerivation first (record begun { target = twice }) → ⊥
number_twice_in_target_is_refused h = repeated_type_is_refused h.sound.once

repeats_are_refused : IsSound (world twice) → ⊥
repeats_are_refused h = repeated_type_is_refused h.once

-- ---- the copy of an item

name_goes : NameGoesTo (goes (places None)) (Some (TypeItem 1)) (Some (TypeItem 0))
unfolding goes
name_goes = refl

name_elsewhere_is_refused : NameGoesTo (goes (places None)) (Some (TypeItem 1)) (Some (TypeItem 1)) → ⊥
unfolding goes
name_elsewhere_is_refused h = let e : Some (TypeItem 0) ≡ Some (TypeItem 1) = h in absurd cc

lost_name_is_refused : NameGoesTo (goes (places None)) (Some (TypeItem 1)) None → ⊥
lost_name_is_refused h = h

ray_is_copied : IsCopyOf (goes (places None)) (ray 1).0 (ray 0).0
unfolding goes
ray_is_copied = record { label = refl; names = (refl, tt) }

copy_of_other_numbers_is_refused : IsCopyOf (goes (places None)) (ray 1).0 (ray 1).0 → ⊥
unfolding goes
copy_of_other_numbers_is_refused h = let e : Some (TypeItem 0) ≡ Some (TypeItem 1) = h.names.0 in absurd cc

copy_with_another_name_is_refused : IsCopyOf (goes (places None)) (ray 1).0 (struct (codes "S")).0 → ⊥
copy_with_another_name_is_refused h = let e : Some (codes "S") ≡ Some (codes "Ray") = ap (λ l. l.name) h.label in absurd cc

-- ---- the copies of a module

abbrev state : Option ℕ → CopyState
state vector_at = record { places = places vector_at; target = copied.target }

are_copied : AreCopied (as_read (source (Some 2)) copied.target) (world copied.target) first (goes (places (Some 2)))
are_copied = imports.derivation.source.midway.copied

-- the vector's copy is a number
copy_of_another_is_refused : AreCopied (as_read (source (Some 0)) copied.target) (world copied.target) (λ p. None) (goes (places (Some 0))) → ⊥
unfolding goes world named_world
copy_of_another_is_refused h =
    let c = h.each (TypeItem 0) (TypeItem 0) vector.0 refl refl refl in
    let e : number.0.label ≡ vector.0.label = ap (λ (r : Row). r.label) (same_Some number.0 c.0 c.1) ∙ c.2.label in
    absurd cc

is_midway : IsMidway from first (state (Some 2))
is_midway = imports.derivation.source.midway

too_few_places_are_refused : IsMidway from first (record (state (Some 2)) { places = record (places None) { types = [] } }) → ⊥
too_few_places_are_refused h = let e : 0 ≡ 3 = h.roomy.types in absurd (omega (arith, e))

places_are_roomy : AreRoomy from (places None)
places_are_roomy = record { types = refl; constants = refl; overrides = refl; globals = refl; expressions = refl }

place_of_no_constant_is_refused : AreRoomy from (record (places None) { constants = None ∷ [] }) → ⊥
place_of_no_constant_is_refused h = let e : 1 ≡ 0 = h.constants in absurd (omega (arith, e))

-- ---- what an item reads as

number_reads : ReadsAs (world from) (world copied.target) (λ p. None) (TypeItem 1) (TypeItem 0)
unfolding tree reading world
number_reads zero = refl
number_reads (suc n) = refl

abbrev kind_of : Tree → Option Kind
kind_of Cut = None
kind_of Absent = None
kind_of Missing = None
kind_of (Item l more) = Some l.kind

vector_as_number_is_refused : ReadsAs (world from) (world copied.target) (λ p. None) (TypeItem 0) (TypeItem 0) → ⊥
unfolding tree reading world
vector_as_number_is_refused h = let e : Some (TypeKind 0) ≡ Some (TypeKind 1) = ap kind_of (h 1) in absurd cc

number_stands : Stands (world from) (λ p. None) (world copied.target) (TypeItem 1)
unfolding world
number_stands = (TypeItem 0, (number.0, refl), number_reads)

nothing_stands_in_no_items : Stands (world from) (λ p. None) (world no_items) (TypeItem 1) → ⊥
unfolding world
nothing_stands_in_no_items h = nowhere h.0 h.1.0 h.1.1
  where
    nowhere : (q : ItemPlace) (r : Row) → world no_items q ≡ Some r → ⊥
    nowhere (TypeItem k) r e = none-some r e
    nowhere (ConstantItem k) r e = none-some r e
    nowhere (OverrideItem k) r e = none-some r e
    nowhere (GlobalItem k) r e = none-some r e
    nowhere (ExpressionItem k) r e = none-some r e

-- ---- one more copy

vector_is_put : Puts (goes (places None)) (goes (places (Some 2))) (TypeItem 0) (TypeItem 2)
unfolding goes
vector_is_put = record { at = refl; others = others }
  where
    others : (x : ItemPlace) → (x ≡ TypeItem 0 → ⊥) → goes (places (Some 2)) x ≡ goes (places None) x
    others (TypeItem zero) other = absurd (other refl)
    others (TypeItem (suc k)) other = refl
    others (ConstantItem k) other = refl
    others (OverrideItem k) other = refl
    others (GlobalItem k) other = refl
    others (ExpressionItem k) other = refl

-- the number moves too
abbrev also_moved : ItemMap
also_moved = record (places (Some 2)) { types = Some 2 ∷ Some 1 ∷ Some 1 ∷ [] }

moved_number_is_refused : Puts (goes (places None)) (goes also_moved) (TypeItem 0) (TypeItem 2) → ⊥
unfolding goes
moved_number_is_refused h = let e : Some (TypeItem 1) ≡ Some (TypeItem 0) = h.others (TypeItem 1) (λ q. absurd cc) in absurd cc

-- a row stands nowhere in the target before
abbrev Lacks : Row → Type 0
Lacks r = (y : ItemPlace) → world begun.target y ≡ Some r → ⊥

vector_is_new : Fetches (world begun.target) (world copied.target) vector.0 (TypeItem 2)
unfolding world
vector_is_new = record { at = refl; stays = stays; only = only }
  where
    stays : (x : ItemPlace) (r : Row) → world begun.target x ≡ Some r → world copied.target x ≡ Some r
    stays (TypeItem zero) r e = e
    stays (TypeItem (suc zero)) r e = e
    stays x r e = absurd (none-some r e)

    lacking_before : Lacks vector.0
    lacking_before (TypeItem zero) e = kinds_differ number.0 vector.0 0 1 refl refl (λ q. absurd (omega (arith, q))) (same_Some number.0 vector.0 e)
    lacking_before (TypeItem (suc zero)) e = kinds_differ (ray 0).0 vector.0 10 1 refl refl (λ q. absurd (omega (arith, q))) (same_Some (ray 0).0 vector.0 e)
    lacking_before y e = absurd (none-some vector.0 e)

    only : (x : ItemPlace) (r : Row) → world copied.target x ≡ Some r → (world begun.target x ≡ Some r) ⊎ ((x ≡ TypeItem 2) × Lacks vector.0)
    only (TypeItem zero) r e = inl e
    only (TypeItem (suc zero)) r e = inl e
    only (TypeItem (suc (suc zero))) r e = inr (refl, lacking_before)
    only x r e = absurd (none-some r e)

-- a number is there already
second_number_is_refused : Fetches (world begun.target) (world (record begun.target { types = number ∷ ray 0 ∷ number ∷ [] })) number.0 (TypeItem 2) → ⊥
unfolding world
second_number_is_refused h = one (h.only (TypeItem 2) number.0 refl)
  where
    one : (None ≡ Some number.0) ⊎ ((TypeItem 2 ≡ TypeItem 2) × Lacks number.0) → ⊥
    one (inl e) = none-some number.0 e
    one (inr n) = n.1 (TypeItem 0) refl

vector_is_added : AddsWith begun.target copied.target (TypeItem 2) (Some vector.1)
unfolding world span_at
vector_is_added = inr (refl, refl)

another_span_is_refused : AddsWith begun.target copied.target (TypeItem 2) (Some (record { start = 1; end = 2 })) → ⊥
unfolding world span_at
another_span_is_refused (inl e) = let same : 3 ≡ 2 = ap (λ (m : ModuleValue). length m.types) e in absurd (omega (arith, same))
another_span_is_refused (inr s) = let start : 0 ≡ 1 = ap (λ (x : Span). x.start) (same_Some vector.1 (record { start = 1; end = 2 }) s.1) in absurd (omega (arith, start))

vector_can_be_put : CanPut from (state None) (TypeItem 0)
unfolding world goes
vector_can_be_put = record { row = vector.0; there = refl; nowhere = refl; names = All-nil (WentSomewhere (goes (places None))) }

put_again_is_refused : CanPut from (state (Some 2)) (TypeItem 0) → ⊥
unfolding goes
put_again_is_refused h = let e : Some (TypeItem 2) ≡ None = h.nowhere in absurd cc

abbrev before : CopyState
before = record { places = places None; target = begun.target }

vector_is_put_once : PutsOne from before (state (Some 2)) (TypeItem 0) vector.0 (Some vector.1)
vector_is_put_once = record {
  copy = vector.0;
  place = TypeItem 2;
  kind = refl;
  copies = record { label = refl; names = tt };
  puts = vector_is_put;
  fetches = vector_is_new;
  adds = vector_is_added;
  extends = imports.keeps.items;
  roomy = record { types = refl; constants = refl; overrides = refl; globals = refl; expressions = refl };
}

vector_put_as_number_is_refused : PutsOne from before (state (Some 2)) (TypeItem 0) number.0 (Some vector.1) → ⊥
unfolding goes world
vector_put_as_number_is_refused h =
    let place : TypeItem 2 ≡ h.place = same_Some (TypeItem 2) h.place h.puts.at in
    let copy : vector.0 ≡ h.copy = same_Some vector.0 h.copy (subst (λ (q : ItemPlace). world copied.target q ≡ Some h.copy) (sym place) h.fetches.at) in
    let kinds : TypeKind 1 ≡ TypeKind 0 = ap (λ (r : Row). r.label.kind) copy ∙ ap (λ l. l.kind) h.copies.label in
    absurd cc

number_has_its_copy : HasCopyNow (λ p. None) (world from) (state None) (TypeItem 1)
unfolding goes
number_has_its_copy = (TypeItem 0, refl, number_reads)

-- ---- kinds and ranks

-- a type among the constants
type_as_constant_is_refused : IsKinded (record no_items { constants = number ∷ [] }) → ⊥
unfolding world
type_as_constant_is_refused h = let e : 0 ≡ 1 = h (ConstantItem 0) number.0 refl in absurd (omega (arith, e))

numbers_are_below : IsBelowIn from rank (TypeItem 2) (Some (TypeItem 1))
unfolding world
numbers_are_below = ((number.0, refl), omega arith)

missing_item_is_refused : IsBelowIn from rank (TypeItem 9) (Some (TypeItem 3)) → ⊥
unfolding world
missing_item_is_refused h = absurd (none-some h.0.0 h.0.1)

types_are_ranked : IsRankedBy from rank
types_are_ranked = ranked

equal_ranks_are_refused : IsRankedBy from (λ p. 0) → ⊥
unfolding world
equal_ranks_are_refused h = let l : 0 < 0 = (All-head (IsBelowIn from (λ p. 0) (TypeItem 2)) (Some (TypeItem 1)) [] (h.names (TypeItem 2) (ray 1).0 refl)).1 in absurd (omega (arith, l))

-- ---- what a module begins with

one_more : Begins (number ∷ []) (number ∷ vector ∷ [])
one_more = (vector ∷ [], refl)

one_before_is_refused : Begins (number ∷ []) (vector ∷ number ∷ []) → ⊥
one_before_is_refused h =
    let e : vector ≡ number = same_Some vector number (ap (λ (xs : List (Row × Span)). slice_get xs 0) h.1) in
    kinds_differ vector.0 number.0 1 0 refl refl (λ q. absurd (omega (arith, q))) (ap (λ (x : Row × Span). x.0) e)

target_extends : Extends begun.target copied.target
target_extends = imports.keeps.items

lost_type_is_refused : Extends copied.target begun.target → ⊥
lost_type_is_refused h = let e : number ∷ ray 0 ∷ [] ≡ number ∷ ray 0 ∷ vector ∷ h.types.0 = h.types.1 in absurd cc

another_leaf_is_refused : Extends begun.target (record begun.target { diagnostic_filter_leaf = Some 1 }) → ⊥
another_leaf_is_refused h = let e : ◌≡◌ {A = Option ℕ} (Some 1) None = ap (λ (m : ModuleValue). m.diagnostic_filter_leaf) h.rest in absurd cc

-- ---- keys of special types

lacks_key : LacksKey RayDesc ((RayIntersection, 1) ∷ [])
lacks_key = ((λ e. absurd cc), tt)

key_twice_is_refused : LacksKey RayDesc ((RayIntersection, 1) ∷ (RayDesc, 0) ∷ []) → ⊥
key_twice_is_refused h = h.1.0 refl

keys_are_distinct : HaveDistinctKeys ((RayDesc, 0) ∷ (RayIntersection, 1) ∷ [])
keys_are_distinct = (((λ e. absurd cc), tt), (tt, tt))

equal_keys_are_refused : HaveDistinctKeys ((RayDesc, 0) ∷ (RayDesc, 1) ∷ []) → ⊥
equal_keys_are_refused h = h.0.0 refl

-- ---- items that are put one after another

vector_is_put_alone : Putting from 0 (state None) (put from 0 (state None) (TypeItem 0))
vector_is_put_alone = ItemPut (TypeItem 0) vector_can_be_put NothingPut

nothing_is_there : (p : ItemPlace) (r : Row) → world no_items p ≡ Some r → ⊥
unfolding world
nothing_is_there (TypeItem k) r e = none-some r e
nothing_is_there (ConstantItem k) r e = none-some r e
nothing_is_there (OverrideItem k) r e = none-some r e
nothing_is_there (GlobalItem k) r e = none-some r e
nothing_is_there (ExpressionItem k) r e = none-some r e

-- of a module without items nothing is put
nothing_is_put : {shift : ℕ} {s u : CopyState} → Putting no_items shift s u → u ≡ s
nothing_is_put NothingPut = refl
nothing_is_put (ItemPut p c more) = absurd (nothing_is_there p c.row c.there)

vector_from_no_items_is_refused : Putting no_items 0 (state None) (state (Some 2)) → ⊥
unfolding goes
vector_from_no_items_is_refused h = let e : Some (TypeItem 2) ≡ None = ap (λ (s : CopyState). goes s.places (TypeItem 0)) (nothing_is_put h) in absurd cc

-- ---- what is added for what items reach

vector_reads : ReadsAs (world from) (world copied.target) (λ p. None) (TypeItem 0) (TypeItem 2)
unfolding tree reading world
vector_reads zero = refl
vector_reads (suc n) = refl

number_reads_before : ReadsAs (world from) (world begun.target) (λ p. None) (TypeItem 1) (TypeItem 0)
unfolding tree reading world
number_reads_before zero = refl
number_reads_before (suc n) = refl

no_vector_before : (q : ItemPlace) (r : Row) → world begun.target q ≡ Some r → ReadsAs (world from) (world begun.target) (λ p. None) (TypeItem 0) q → ⊥
unfolding tree reading world
no_vector_before (TypeItem zero) r e h = let k : Some (TypeKind 0) ≡ Some (TypeKind 1) = ap kind_of (h 1) in absurd cc
no_vector_before (TypeItem (suc zero)) r e h = let k : Some (TypeKind 10) ≡ Some (TypeKind 1) = ap kind_of (h 1) in absurd cc
no_vector_before q r e h = none-some r e

vector_comes : Comes (world from) (λ p. None) (λ p. Some vector.1) begun.target copied.target (TypeItem 0)
unfolding world span_at
vector_comes = record {
  at = TypeItem 2;
  free = refl;
  extends = target_extends;
  others = others;
  reads = vector_reads;
  span = refl;
  first = λ h. no_vector_before h.0 h.1.0 h.1.1 h.2;
}
  where
    others : (x : ItemPlace) (r : Row) → world copied.target x ≡ Some r → (world begun.target x ≡ Some r) ⊎ (x ≡ TypeItem 2)
    others (TypeItem zero) r e = inl e
    others (TypeItem (suc zero)) r e = inl e
    others (TypeItem (suc (suc zero))) r e = inr refl
    others x r e = absurd (none-some r e)

-- a number is there before
number_that_comes_again_is_refused : Comes (world from) (λ p. None) (λ p. Some number.1) begun.target (record begun.target { types = number ∷ ray 0 ∷ number ∷ [] }) (TypeItem 1) → ⊥
unfolding world
number_that_comes_again_is_refused h = h.first (TypeItem 0, (number.0, refl), number_reads_before)

vector_is_collected : Collects (as_read (source None) begun.target) (kept (source None) begun.target) (copied_spans (source None)) begun.target (TypeItem 0 ∷ []) copied.target
unfolding goes reached world named_world kept_of
vector_is_collected = imports.imported.1.collects

number_is_collected : Collects (world from) (λ p. None) (λ p. Some number.1) copied.target (TypeItem 1 ∷ []) copied.target
unfolding world
number_is_collected = Known (TypeItem 0, (number.0, refl), number_reads) Done

-- of no items nothing is added
none_collected : {w : World} {k : Kept} {spans : ItemPlace → Option Span} {m n : ModuleValue} {ps : List ItemPlace} → Collects w k spans m ps n → ps ≡ [] → n ≡ m
none_collected Done e = refl
none_collected (Known s c) e = absurd cc
none_collected (Fresh s c) e = absurd cc

vector_of_nothing_is_refused : Collects (world from) (λ p. None) (λ p. Some vector.1) begun.target [] copied.target → ⊥
vector_of_nothing_is_refused h = let e : 3 ≡ 2 = ap (λ (m : ModuleValue). length m.types) (none_collected h refl) in absurd (omega (arith, e))
