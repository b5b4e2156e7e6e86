-- What setting a source does, over values alone.
use Rattle.std.proofs.Common.{◌≡◌, ⊎_elim, ℕ, ◌<◌, List, [], ◌∷◌, length, replicate, Option, Some, None, option_map, slice_get, unwrap_or, refl, ap, sym, ◌∙◌, subst, All, IfSome, ◌==◌, if◌then◌else◌}
use Rattle.std.specs.Option.{option_flatten}
use Rattle.std.proofs.lemmas.List.{length-replicate}
use Rattle.std.proofs.lemmas.List.Elements.{All-head, All-tail, All-cons, All-nil, All-weaker}
use Rattle.std.proofs.lemmas.Option.{slice_get_within}
use Rattle.naga_oil_ir.specs.Rows.{Row}
use Rattle.naga_oil_ir.specs.ModuleValue.{ModuleValue, SpecialValue}
use Rattle.naga_oil_ir.specs.declared.names.ItemPlace.{ItemPlace}
use Rattle.naga_oil_ir.specs.declared.names.ItemPlace.TheVariants.{TypeItem, ConstantItem, OverrideItem, GlobalItem, ExpressionItem}
use Rattle.naga_oil_ir.specs.declared.span.Span.{Span}
use Rattle.naga_oil_form.proofs.LinkLemmas.{eq_eqb}
use Rattle.naga_oil_derive.specs.declared.special.SpecialKey.{SpecialKey}
use Rattle.naga_oil_derive.specs.Tree.{Kept, ReadsAs}
use Rattle.naga_oil_derive.specs.World.{ItemMap, goes, world, Extends, named_world, kept_in, kept_of, special_at, special_entries, with_specials}
use Rattle.naga_oil_derive.specs.Collected.{Collects, depth, reached, names_trail}
use Rattle.naga_oil_derive.specs.Copying.{IsSound, AreCopied, WentSomewhere, handle_under, special_names}
use Rattle.naga_oil_derive.specs.Copied.{CopyState}
use Rattle.naga_oil_derive.specs.CopiedLaw.{HasAt, IsCopyable, AreSpecial, AreRoomy, reads_now, spans_by, IsMidway, PlacesAmong, trail_in}
use Rattle.naga_oil_derive.specs.Derived.{Source, Derived, as_read, kept, type_under, with_special_types, KeepsItems}
use Rattle.naga_oil_derive.specs.DerivedValue.{first_places, copy_special, set_source}
use Rattle.naga_oil_derive.specs.DerivedLaw.{AreThere, IsDerivation, Settles, SetsOnly}
use Rattle.naga_oil_derive.proofs.TreeLemmas.{AreCopied-start}
use Rattle.naga_oil_derive.proofs.CopyLemmas.{none_some, flat_none as nothing_there}
use Rattle.naga_oil_derive.proofs.SpecialLemmas.{Entry, EachEntry, IsSettled, kept_over_get, length-kept_over, settled, kept_settled, kept_none_more, specials_keep, or_none}
use Rattle.naga_oil_derive.proofs.DeriveLemmas.{kept_key, kept_handle, or_nothing, some_mapped, named_there, more_there, flat_some, mapped_none}
use Rattle.naga_oil_derive.proofs.PutLaws.{goes_renamed}
use Rattle.naga_oil_derive.proofs.CopiedLaws.{placed_reads, copied_all}
use Rattle.naga_oil_derive.proofs.DerivedLaws.{Collects-extends, special_same, there_later}

abbrev nothing_of : ℕ → List (Option ℕ)
nothing_of n = replicate n None

length-nothing : (n : ℕ) → length (nothing_of n) ≡ n
length-nothing n = length-replicate n None

abbrev entries_in : ModuleValue → List Entry
entries_in m = special_entries m.special_types

abbrev first_in : ModuleValue → ModuleValue → Kept
first_in m t = kept_of m.special_types t.special_types

-- ---- the special types of a source

within_by : (m : ModuleValue) (k : ℕ) (o : Option (Row × Span)) (r : Row) → slice_get m.types k ≡ o → option_map (λ (e : Row × Span). e.0) o ≡ Some r → k < length m.types
within_by m k None r h e = cc
within_by m k (Some x) r h e = slice_get_within m.types k x h

type_within : (m : ModuleValue) (k : ℕ) → HasAt m (TypeItem k) → k < length m.types
unfolding world
type_within m k h = within_by m k (slice_get m.types k) h.0 refl h.1

entries_within : (m : ModuleValue) → AreSpecial m → All (λ (e : Entry). e.1 < length m.types) (entries_in m)
entries_within m a = All-weaker (λ (e : Entry). HasAt m (TypeItem e.1)) (λ (e : Entry). e.1 < length m.types) (λ e h. type_within m e.1 h) (entries_in m) a.there

pub as_names : (P : ItemPlace → Type 0) (es : List Entry) → All (λ (e : Entry). P (TypeItem e.1)) es → All (λ o. IfSome o P) (special_names es)
as_names P [] a = All-nil (λ o. IfSome o P)
as_names P (e ∷ es) a = All-cons (λ o. IfSome o P) (Some (TypeItem e.1)) (special_names es) (All-head (λ (x : Entry). P (TypeItem x.1)) e es a) (as_names P es (All-tail (λ (x : Entry). P (TypeItem x.1)) e es a))

pub from_names : (P : ItemPlace → Type 0) (es : List Entry) → All (λ o. IfSome o P) (special_names es) → All (λ (e : Entry). P (TypeItem e.1)) es
from_names P [] a = All-nil (λ (e : Entry). P (TypeItem e.1))
from_names P (e ∷ es) a = All-cons (λ (x : Entry). P (TypeItem x.1)) e es (All-head (λ o. IfSome o P) (Some (TypeItem e.1)) (special_names es) a) (from_names P es (All-tail (λ o. IfSome o P) (Some (TypeItem e.1)) (special_names es) a))

-- ---- where the items of a source begin

kept_type : (d : Derived) (m : ModuleValue) → AreSpecial m → (j : ℕ) → option_flatten (slice_get (first_places d m).types j) ≡ kept_in (special_at d.target.special_types) (entries_in m) j
kept_type d m a j =
    let f = special_at d.target.special_types in
    let es = entries_in m in
    let n = length m.types in
    let none = nothing_of n in
    let room = subst (λ k. All (λ (e : Entry). e.1 < k) es) (sym (length-nothing n)) (entries_within m a) in
    kept_over_get f es none j room ∙ or_nothing (kept_in f es j) (option_flatten (slice_get none j)) (nothing_there n j)

nowhere : (C : ℕ → ItemPlace) (n k : ℕ) → option_map C (option_flatten (slice_get (nothing_of n) k)) ≡ None
nowhere C n k = ap (option_map C) (nothing_there n k)

goes_first : (d : Derived) (m : ModuleValue) → AreSpecial m → (p : ItemPlace) → goes (first_places d m) p ≡ first_in m d.target p
unfolding goes kept_of
goes_first d m a (TypeItem j) = ap (option_map TypeItem) (kept_type d m a j)
goes_first d m a (ConstantItem j) = nowhere ConstantItem (length m.constants) j
goes_first d m a (OverrideItem j) = nowhere OverrideItem (length m.overrides) j
goes_first d m a (GlobalItem j) = nowhere GlobalItem (length m.global_variables) j
goes_first d m a (ExpressionItem j) = nowhere ExpressionItem (length m.global_expressions) j

goes_as_first : (d : Derived) (m : ModuleValue) → AreSpecial m → goes (first_places d m) ≡ first_in m d.target
goes_as_first d m a = λ i p. goes_first d m a p i

first_roomy : (d : Derived) (m : ModuleValue) → AreRoomy m (first_places d m)
first_roomy d m = record {
  types = length-kept_over (special_at d.target.special_types) (entries_in m) (replicate (length m.types) None) ∙ length-nothing (length m.types);
  constants = length-nothing (length m.constants);
  overrides = length-nothing (length m.overrides);
  globals = length-nothing (length m.global_variables);
  expressions = length-nothing (length m.global_expressions);
}

first_there : (m t : ModuleValue) → AreThere t → (p q : ItemPlace) → first_in m t p ≡ Some q → HasAt t q
unfolding kept_of
first_there m t h (TypeItem j) q e =
    let k = some_mapped _ q e in
    let key = kept_key (special_at t.special_types) (entries_in m) j k.0 k.1 in
    subst (HasAt t) (sym k.2) (h key.0 k.0 key.1)
first_there m t h (ConstantItem j) q e = cc
first_there m t h (OverrideItem j) q e = cc
first_there m t h (GlobalItem j) q e = cc
first_there m t h (ExpressionItem j) q e = cc

first_known : (m t : ModuleValue) → AreSpecial m → (p q : ItemPlace) → first_in m t p ≡ Some q → HasAt m p
unfolding kept_of
first_known m t a (TypeItem j) q e =
    let k = some_mapped _ q e in
    kept_handle (λ h. HasAt m (TypeItem h)) (special_at t.special_types) (entries_in m) j k.0 a.there k.1
first_known m t a (ConstantItem j) q e = cc
first_known m t a (OverrideItem j) q e = cc
first_known m t a (GlobalItem j) q e = cc
first_known m t a (ExpressionItem j) q e = cc

abbrev pub start : Derived → ModuleValue → CopyState
start d m = record { places = first_places d m; target = d.target }

pub midway_first : (first : Kept) (d : Derived) (m : ModuleValue) → IsDerivation first d → AreSpecial m → IsMidway m (first_in m d.target) (start d m)
midway_first first d m i a =
    let f = first_in m d.target in
    let w = reads_now m (start d m) in
    let known = λ (p q : ItemPlace) (e : f p ≡ Some q). (let r = first_known m d.target a p q e in named_there (world m) (world d.target) (goes (first_places d m)) p r.0 r.1) in
    record {
      kinds = i.kinds;
      roomy = first_roomy d m;
      sound = i.sound;
      copied = subst (AreCopied w (world d.target) f) (sym (goes_as_first d m a)) (AreCopied-start w (world d.target) f (first_there m d.target i.special) known);
    }

-- ---- a module with other special types

abbrev pub having : ModuleValue → SpecialValue → ModuleValue
having t x = record t { special_types = x }

pub world_at : (t : ModuleValue) (x : SpecialValue) (p : ItemPlace) → world (having t x) p ≡ world t p
unfolding world
world_at t x (TypeItem k) = refl
world_at t x (ConstantItem k) = refl
world_at t x (OverrideItem k) = refl
world_at t x (GlobalItem k) = refl
world_at t x (ExpressionItem k) = refl

pub world_having : (t : ModuleValue) (x : SpecialValue) → world (having t x) ≡ world t
world_having t x = λ i p. world_at t x p i

midway_having : (m : ModuleValue) (kept : Kept) (u : CopyState) (x : SpecialValue) → IsMidway m kept u → IsMidway m kept (record { places = u.places; target = having u.target x })
midway_having m kept u x i = record {
  kinds = λ p r e. i.kinds p r (sym (world_at u.target x p) ∙ e);
  roomy = i.roomy;
  sound = subst IsSound (sym (world_having u.target x)) i.sound;
  copied = subst (λ v. AreCopied (named_world (world m) v (goes u.places)) v kept (goes u.places)) (sym (world_having u.target x)) i.copied;
}

-- ---- all keys are settled

handle_at : (m : ItemMap) (h q : ℕ) → goes m (TypeItem h) ≡ Some (TypeItem q) → handle_under m.types h ≡ q
unfolding goes
handle_at m h q e = ap (λ o. unwrap_or o h) (flat_some _ q e)

first_at : (m t : ModuleValue) (h q : ℕ) → kept_in (special_at t.special_types) (entries_in m) h ≡ Some q → first_in m t (TypeItem h) ≡ Some (TypeItem q)
unfolding kept_of
first_at m t h q e = ap (option_map TypeItem) e

-- the special types of the target before and after, and what those of a source map to
abbrev SetsTo : ModuleValue → SpecialValue → SpecialValue → ItemMap → Type 0
SetsTo m s x n = x ≡ with_specials s (type_under n) (entries_in m)

keeps_set : (m : ModuleValue) (s x : SpecialValue) (n : ItemMap) → SetsTo m s x n → (k : SpecialKey) (q : ℕ) → special_at s k ≡ Some q → special_at x k ≡ Some q
keeps_set m s x n is k q h = ap (λ v. special_at v k) is ∙ specials_keep s (type_under n) (entries_in m) k q h

each_set : (m : ModuleValue) (s x : SpecialValue) (n : ItemMap) → AreSpecial m → SetsTo m s x n → EachEntry (IsSettled s x (type_under n)) (entries_in m)
each_set m s x n a is = subst (λ v. EachEntry (IsSettled s v (type_under n)) (entries_in m)) (sym is) (settled s (type_under n) (entries_in m) a.distinct)

-- a kept place is what the type maps to
stands_set : (m t : ModuleValue) (x : SpecialValue) (n : ItemMap) → AreSpecial m → SetsTo m t.special_types x n → ((p q : ItemPlace) → first_in m t p ≡ Some q → goes n p ≡ Some q) → All (λ (e : Entry). WentSomewhere (goes n) (Some (TypeItem e.1))) (entries_in m) → (p q : ItemPlace) → kept_of m.special_types x p ≡ Some q → goes n p ≡ Some q
unfolding kept_of
stands_set m t x n a is stand went (TypeItem h) q e =
    let k = some_mapped _ q e in
    let same = kept_settled t.special_types x (type_under n) (entries_in m) (keeps_set m t.special_types x n is) (each_set m t.special_types x n a is) (λ y z g. handle_at n y z (stand (TypeItem y) (TypeItem z) (first_at m t y z g))) h k.0 k.1 in
    let w = kept_handle (λ z. WentSomewhere (goes n) (Some (TypeItem z))) (special_at x) (entries_in m) h k.0 went k.1 in
    goes_renamed 0 n (TypeItem h) w.0 w.1 ∙ ap (λ z. Some (TypeItem z)) same ∙ ap Some (sym k.2)
stands_set m t x n a is stand went (ConstantItem h) q e = cc
stands_set m t x n a is stand went (OverrideItem h) q e = cc
stands_set m t x n a is stand went (GlobalItem h) q e = cc
stands_set m t x n a is stand went (ExpressionItem h) q e = cc

none_before : (m : ModuleValue) (s x : SpecialValue) (n : ItemMap) → SetsTo m s x n → (p : ItemPlace) → kept_of m.special_types x p ≡ None → kept_of m.special_types s p ≡ None
unfolding kept_of
none_before m s x n is (TypeItem h) e = ap (option_map TypeItem) (kept_none_more s x (keeps_set m s x n is) (entries_in m) h (mapped_none _ e))
none_before m s x n is (ConstantItem h) e = refl
none_before m s x n is (OverrideItem h) e = refl
none_before m s x n is (GlobalItem h) e = refl
none_before m s x n is (ExpressionItem h) e = refl

same_place : (o : Option ItemPlace) (p q : ItemPlace) → o ≡ Some p → o ≡ Some q → p ≡ q
same_place o p q e f = let g : Some p ≡ Some q = sym e ∙ f in cc

-- what was kept first is kept still
still_by : (first now go : Kept) → ((p q : ItemPlace) → now p ≡ Some q → go p ≡ Some q) → ((p q : ItemPlace) → first p ≡ Some q → go p ≡ Some q) → ((p : ItemPlace) → now p ≡ None → first p ≡ None) → (p q : ItemPlace) → first p ≡ Some q → (o : Option ItemPlace) → now p ≡ o → now p ≡ Some q
still_by first now go a b c p q e None h = absurd (none_some q (sym (c p h) ∙ e))
still_by first now go a b c p q e (Some x) h = h ∙ ap Some (same_place (go p) x q (a p x h) (b p q e))

-- ---- a key of a source

no_number : (o : Option ℕ) (q : ℕ) → o ≡ None → o ≡ Some q → ⊥
no_number o q e f = let g : None ≡ Some q = sym e ∙ f in cc

-- a type that is kept nowhere has no key that is there
lacks_each : (f : SpecialKey → Option ℕ) (h : ℕ) (es : List Entry) → kept_in f es h ≡ None → EachEntry (λ e. e.1 ≡ h → f e.0 ≡ None) es
lacks_each f h [] n = tt
lacks_each f h (x ∷ es) n =
    let w = or_none (kept_in f es h) (if x.1 == h then f x.0 else None) n in
    (λ e. sym (ap (λ b. if b then f x.0 else None) (eq_eqb x.1 h e)) ∙ w.1, lacks_each f h es w.0)

-- a key that is settled has a type
has_type : (s t : SpecialValue) (f : ℕ → ℕ) (x : Entry) → IsSettled s t f x → (q : ℕ) × (special_at t x.0 ≡ Some q)
has_type s t f x w = ⊎_elim (λ e. (f x.1, e)) (λ e. (e.0, e.2)) w

stands_by : (e : Derived) (s : Source) (h at : ℕ) → ((p q : ItemPlace) → kept s e.target p ≡ Some q → goes s.places p ≡ Some q) → goes s.places (TypeItem h) ≡ Some (TypeItem at) → (o : Option ℕ) → kept_in (special_at e.target.special_types) (entries_in s.value) h ≡ o → (o ≡ None → ⊥) → kept s e.target (TypeItem h) ≡ Some (TypeItem at)
stands_by e s h at stand went None is n = absurd (n refl)
stands_by e s h at stand went (Some q) is n =
    let k = first_at s.value e.target h q is in
    k ∙ ap Some (same_place (goes s.places (TypeItem h)) (TypeItem q) (TypeItem at) (stand (TypeItem h) (TypeItem q) k) went)

settles_one : (d e : Derived) (s : Source) (x : Entry) → ((p q : ItemPlace) → kept s e.target p ≡ Some q → goes s.places p ≡ Some q) → ((p q : ItemPlace) → kept s d.target p ≡ Some q → goes s.places p ≡ Some q) → ((p q : ItemPlace) → goes s.places p ≡ Some q → ReadsAs (as_read s e.target) (world e.target) (kept s d.target) p q) → IsSettled d.target.special_types e.target.special_types (type_under s.places) x → WentSomewhere (goes s.places) (Some (TypeItem x.1)) → (kept_in (special_at e.target.special_types) (entries_in s.value) x.1 ≡ None → special_at e.target.special_types x.0 ≡ None) → Settles d e s x
settles_one d e s x stand had reads set went lacks =
    let at = type_under s.places x.1 in
    let gone : goes s.places (TypeItem x.1) ≡ Some (TypeItem at) = goes_renamed 0 s.places (TypeItem x.1) went.0 went.1 in
    let key = has_type d.target.special_types e.target.special_types (type_under s.places) x set in
    record {
      at = at;
      went = gone;
      stands = stands_by e s x.1 at stand gone _ refl (λ n. no_number (special_at e.target.special_types x.0) key.0 (lacks n) key.1);
      had = λ q k. same_place (goes s.places (TypeItem x.1)) q (TypeItem at) (had (TypeItem x.1) q k) gone;
      lacked = λ n. ⊎_elim (λ w. w) (λ w. absurd (no_number (special_at d.target.special_types x.0) w.0 n w.1)) set;
      reads = reads (TypeItem x.1) (TypeItem at) gone;
    }

settles_each : (d e : Derived) (s : Source) (es : List Entry) → ((p q : ItemPlace) → kept s e.target p ≡ Some q → goes s.places p ≡ Some q) → ((p q : ItemPlace) → kept s d.target p ≡ Some q → goes s.places p ≡ Some q) → ((p q : ItemPlace) → goes s.places p ≡ Some q → ReadsAs (as_read s e.target) (world e.target) (kept s d.target) p q) → EachEntry (IsSettled d.target.special_types e.target.special_types (type_under s.places)) es → All (λ (x : Entry). WentSomewhere (goes s.places) (Some (TypeItem x.1))) es → ((h : ℕ) → kept_in (special_at e.target.special_types) (entries_in s.value) h ≡ None → EachEntry (λ x. x.1 ≡ h → special_at e.target.special_types x.0 ≡ None) es) → All (Settles d e s) es
settles_each d e s [] stand had reads set went lacks = All-nil (Settles d e s)
settles_each d e s (x ∷ es) stand had reads set went lacks =
    All-cons (Settles d e s) x es (settles_one d e s x stand had reads set.0 (All-head (λ (y : Entry). WentSomewhere (goes s.places) (Some (TypeItem y.1))) x es went) (λ n. (lacks x.1 n).0 refl)) (settles_each d e s es stand had reads set.1 (All-tail (λ (y : Entry). WentSomewhere (goes s.places) (Some (TypeItem y.1))) x es went) (λ h n. (lacks h n).1))

-- ---- the source that is set

-- the types of the source map to types that are there
went_there : (m : ModuleValue) (kept : Kept) (u : CopyState) (e : Entry) → IsMidway m kept u → WentSomewhere (goes u.places) (Some (TypeItem e.1)) → HasAt u.target (TypeItem (type_under u.places e.1))
went_there m kept u e i w = i.copied.there (TypeItem e.1) (TypeItem (type_under u.places e.1)) (goes_renamed 0 u.places (TypeItem e.1) w.0 w.1)

pub there_set : (m : ModuleValue) (kept : Kept) (u : CopyState) (xs : List Entry) → IsMidway m kept u → All (λ (e : Entry). WentSomewhere (goes u.places) (Some (TypeItem e.1))) xs → AreThere u.target → AreThere (having u.target (with_specials u.target.special_types (type_under u.places) xs))
there_set m kept u xs i went h k q e =
    let f = type_under u.places in
    let all = All-weaker (λ (x : Entry). WentSomewhere (goes u.places) (Some (TypeItem x.1))) (λ (x : Entry). HasAt u.target (TypeItem (f x.1))) (λ x w. went_there m kept u x i w) xs went in
    let r = more_there (λ j. HasAt u.target (TypeItem j)) u.target.special_types f xs all h k q e in
    (r.0, world_at u.target (with_specials u.target.special_types f xs) (TypeItem q) ∙ r.1)

-- the special types aside, the target is as it was before they were set
aside : (t u : ModuleValue) (x : SpecialValue) → Extends t u → with_special_types (having u x) t ≡ u
aside t u x e = ap (having u) (sym (special_same t u e))

-- items come, and special types that were lacked
pub keeps_part : (d e : Derived) (u : ModuleValue) (f : ℕ → ℕ) (xs : List Entry) → Extends d.target u → e.target ≡ having u (with_specials u.special_types f xs) → e.function_names ≡ d.function_names → KeepsItems d e
keeps_part d e u f xs ext is names = record {
  items = subst (Extends d.target) (sym (ap (λ t. with_special_types t d.target) is ∙ aside d.target u (with_specials u.special_types f xs) ext)) ext;
  special = λ k q h. ap (λ (t : ModuleValue). special_at t.special_types k) is ∙ specials_keep u.special_types f xs k q (ap (λ s. special_at s k) (special_same d.target u ext) ∙ h);
  names = names;
}

pub set_law : (first : Kept) (d : Derived) (m : ModuleValue) (shift : ℕ) → IsDerivation first d → IsCopyable m → AreSpecial m → SetsOnly m shift d (set_source d m shift)
set_law first d m shift i c a =
    let f = first_in m d.target in
    let es = entries_in m in
    let begin = start d m in
    let w = reads_now m begin in
    let u = copy_special d m shift in
    let all = copied_all m shift f begin (special_names es) c (midway_first first d m i a) (as_names (HasAt m) es a.there) in
    let went = from_names (λ p. (q : ItemPlace) × (goes u.places p ≡ Some q)) es all.1 in
    let ext = Collects-extends all.0.collects in
    let same = special_same d.target u.target ext in
    let x = with_specials u.target.special_types (type_under u.places) es in
    let is : SetsTo m d.target.special_types x u.places = ap (λ v. with_specials v (type_under u.places) es) same in
    let e = set_source d m shift in
    let s : Source = record { value = m; offset = shift; places = u.places } in
    let begun = all.0.midway.copied.stand in
    let stand = stands_set m d.target x u.places a is begun went in
    let midway = midway_having m f u x all.0.midway in
    let worlds = world_having u.target x in
    let reads : as_read s e.target ≡ w = ap (λ v. named_world (world m) v (goes u.places)) worlds ∙ all.0.reads in
    let moved = subst (λ v. Collects v f (spans_by m shift) d.target (names_trail (reached (depth m) v f) (special_names es)) u.target) (sym reads) all.0.collects in
    record {
      derivation = record {
        kinds = midway.kinds;
        sound = midway.sound;
        special = there_set m f u es all.0.midway went (there_later d.target u.target ext i.special);
        source = record { copyable = c; midway = midway; stand = stand; still = λ p q h. still_by f (kept_of m.special_types x) (goes u.places) stand begun (none_before m d.target.special_types x u.places is) p q h (kept_of m.special_types x p) refl };
      };
      places = subst (λ v. PlacesAmong f (goes u.places) (names_trail (reached (depth m) v f) (special_names es))) (sym reads) (subst (λ v. PlacesAmong v (goes u.places) (names_trail (trail_in m f w) (special_names es))) (goes_as_first d m a) all.0.places);
      set = (
        refl,
        record {
          value = refl;
          offset = refl;
          stands = stand;
          reads = reads ∙ ap (λ v. named_world (world m) (world d.target) v) (goes_as_first d m a);
          special = is;
          collects = subst (λ v. Collects (as_read s e.target) f (spans_by m shift) d.target (names_trail (reached (depth m) (as_read s e.target) f) (special_names es)) v) (sym (aside d.target u.target x ext)) moved;
        },
      );
      settles = settles_each d e s es stand begun (λ p q g. placed_reads m f (as_read s e.target) (record { places = u.places; target = e.target }) p q midway refl g) (each_set m d.target.special_types x u.places a is) went (λ h n. lacks_each (special_at x) h es n);
      keeps = keeps_part d e u.target (type_under u.places) es ext refl refl;
    }
