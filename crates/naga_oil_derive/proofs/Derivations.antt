-- The laws of derivations, for the fields of a derived module.
use Rattle.std.proofs.Common.{◌≡◌, ℕ, List, [], Option, Some, None, refl, ap, sym, subst, All, IfSome, Vec, Global}
use Rattle.std.specs.Borrow.{Bor}
use Rattle.naga_oil_ir.specs.Rows.{Text}
use Rattle.naga_oil_ir.specs.ModuleValue.{ModuleValue, special_value, no_items}
use Rattle.naga_oil_ir.specs.declared.module.Module.{Module}
use Rattle.naga_oil_ir.specs.declared.module.SpecialTypes.{SpecialTypes}
use Rattle.naga_oil_ir.specs.declared.names.ItemPlace.{ItemPlace}
use Rattle.naga_oil_ir.specs.declared.names.ItemPlace.TheVariants.{TypeItem}
use Rattle.naga_oil_derive.specs.declared.maps.Maps.{Maps}
use Rattle.naga_oil_derive.specs.Tree.{Kept}
use Rattle.naga_oil_derive.specs.World.{value_of, world, Extends, kept_of, special_at, special_entries, HaveDistinctKeys, with_specials}
use Rattle.naga_oil_derive.specs.Copyable.{CopyableItems}
use Rattle.naga_oil_derive.specs.Copying.{IsSound, AreRanked, IsCopying, WentSomewhere, places_of, goes_under, handle_under, kept_between, kept_over, special_names}
use Rattle.naga_oil_derive.specs.Copied.{copy_state, copy_all}
use Rattle.naga_oil_derive.specs.CopiedLaw.{HasAt, IsMidway}
use Rattle.naga_oil_derive.specs.Putting.{Putting, TypePutting}
use Rattle.naga_oil_derive.specs.Derived.{Derived, cleared, Keeps, KeepsItems}
use Rattle.naga_oil_derive.specs.DerivedView.{source_of, derived_of, IsSpecialThere, IsDerived}
use Rattle.naga_oil_derive.specs.DerivedValue.{no_places, set_source}
use Rattle.naga_oil_derive.specs.DerivedLaw.{IsSourceOf, AreThere, IsDerivation}
use Rattle.naga_oil_derive.proofs.SpecialLemmas.{Entry}
use Rattle.naga_oil_derive.proofs.DeriveCalls.{Shader, FunctionNames, source_in, special_later, derived_later, keeps_one, left_source, derived_none}
use Rattle.naga_oil_derive.proofs.KindLaws.{value_kinds, ranked_copyable, value_copyable, value_special}
use Rattle.naga_oil_derive.proofs.DerivedLaws.{nothing_derived, midway_now}
use Rattle.naga_oil_derive.proofs.SetLaws.{as_names, from_names, midway_first, start, having, world_having, there_set, keeps_part, set_law}
use Rattle.naga_oil_derive.proofs.SourceValues.{copying_starts}
use Rattle.naga_oil_derive.proofs.PuttingLemmas.{midway_of, copying_of, putting_copying, putting_grows, type_putting_copying, type_putting_grows, names_went}

-- ---- what holds of the fields says that the value is a derivation

-- the places kept for the special types of the source, if one is set
abbrev kept_for : Shader → Module → Kept
kept_for None t = λ p. None
kept_for (Some s) t = kept_between s.now t

source_holds : (s : Bor Module) (m : Maps) (t : Module) → IsCopying s.now t m → AreRanked s.now → IsSourceOf (kept_between s.now t) (source_of m s) (value_of t)
unfolding kept_between goes_under value_of
source_holds s m t i a = record { copyable = ranked_copyable s.now a; midway = midway_of s.now t m i; stand = i.copied.stand; still = λ p q h. h }

special_seen : (t : Module) → IsSpecialThere t → AreThere (value_of t)
unfolding value_of
special_seen t h = h

special_unseen : (t : Module) → AreThere (value_of t) → IsSpecialThere t
unfolding value_of
special_unseen t h = h

derivation_of : (o : Shader) (m : Maps) (t : Module) (ns : FunctionNames) → IsDerived o m t → IsDerivation (kept_for o t) (derived_of o m t ns)
derivation_of None m t ns d = record { kinds = value_kinds t; sound = d.sound; special = special_seen t d.special; source = tt }
derivation_of (Some s) m t ns d = record { kinds = value_kinds t; sound = d.sound; special = special_seen t d.special; source = source_holds s m t d.source.0 d.source.1 }

derivation_seen : (o : Shader) (m : Maps) (t : Module) (ns : FunctionNames) (d : Derived) → derived_of o m t ns ≡ d → IsDerived o m t → IsDerivation (kept_for o t) d
derivation_seen o m t ns d v i = subst (IsDerivation (kept_for o t)) v (derivation_of o m t ns i)

midway_between : (first : Kept) (s : Bor Module) (n : Maps) (u : Module) → IsSourceOf first (source_of n s) (value_of u) → IsMidway (value_of s.now) (kept_between s.now u) (copy_state n u)
unfolding kept_between value_of
midway_between first s n u i = midway_now first (source_of n s) (value_of u) i

-- and the other way
pub derived_by : (first : Kept) (s : Bor Module) (n : Maps) (u : Module) (ns : FunctionNames) → AreRanked s.now → IsDerivation first (derived_of (Some s) n u ns) → IsDerived (Some s) n u
derived_by first s n u ns a d = record { sound = d.sound; special = special_unseen u d.special; source = (copying_of s.now u n (midway_between first s n u d.source), a) }

pub derived_nothing : (m : Maps) (t : Module) → value_of t ≡ no_items → IsDerived None m t
derived_nothing m t e =
    let d = nothing_derived (λ p. None) in
    record { sound = subst (λ v. IsSound (world v)) (sym e) d.sound; special = special_unseen t (subst AreThere (sym e) d.special); source = tt }

-- ---- items that are put

-- items were copied, also if memory ran out
pub record HasPut (o : Shader) (n : Maps) (u : Module) (ns : FunctionNames) (d : Derived) : Type 0 where
  pub derived : IsDerived o n u
  pub keeps : Keeps d (derived_of o n u ns)

pub putting_derived : (o : Shader) (s : Bor Module) (t u : Module) (m n : Maps) (ns : FunctionNames) (d : Derived) → o ≡ Some s → derived_of o m t ns ≡ d → IsDerived o m t → n.offset ≡ m.offset → Putting (value_of s.now) m.offset (copy_state m t) (copy_state n u) → HasPut o n u ns d
putting_derived o s t u m n ns d e v i offset p =
    let begun = (source_in o s m t e i).0 in
    let g = putting_grows s.now t u m n begun offset p in
    record { derived = derived_later o s t u m n e i (putting_copying s.now t u m n begun p) g; keeps = keeps_one o t u m n ns d v g }

pub type_putting_derived : (o : Shader) (s : Bor Module) (t u : Module) (m n : Maps) (ns : FunctionNames) (d : Derived) (k : ℕ) (name : Option Text) → o ≡ Some s → derived_of o m t ns ≡ d → IsDerived o m t → n.offset ≡ m.offset → TypePutting (value_of s.now) m.offset name k (copy_state m t) (copy_state n u) → HasPut o n u ns d
type_putting_derived o s t u m n ns d k name e v i offset p =
    let begun = (source_in o s m t e i).0 in
    let g = type_putting_grows s.now t u m n name k begun offset p in
    record { derived = derived_later o s t u m n e i (type_putting_copying s.now t u m n name k begun p) g; keeps = keeps_one o t u m n ns d v g }

-- ---- items that are imported

-- ---- types under a name

-- ---- a source

distinct_in : (m : Module) → HaveDistinctKeys (special_entries (special_value m.special_types)) → HaveDistinctKeys (special_entries (value_of m).special_types)
unfolding value_of
distinct_in m d = d

-- the source that is set, as callers see it
pub record HasSet (m : ModuleValue) (shift : ℕ) (d e : Derived) : Type 0 where
  pub derivation : IsDerivation (kept_of m.special_types d.target.special_types) e
  pub keeps : KeepsItems d e

pub sets_law : (o : Shader) (k : Maps) (t : Module) (ns : FunctionNames) (d e : Derived) (m : Module) (es : List Entry) (shift : ℕ) → derived_of o k t ns ≡ cleared d → IsDerived o k t → CopyableItems m → HaveDistinctKeys es → es ≡ special_entries (special_value m.special_types) → e ≡ set_source d (value_of m) shift → HasSet (value_of m) shift d e
sets_law o k t ns d e m es shift v i c distinct entries is =
    let law = set_law (kept_for o t) (cleared d) (value_of m) shift (derivation_seen o k t ns (cleared d) v i) (value_copyable m c) (value_special m c (distinct_in m (subst HaveDistinctKeys entries distinct))) in
    subst (HasSet (value_of m) shift d) (sym is) (record {
      derivation = law.derivation;
      keeps = record { items = law.keeps.items; special = law.keeps.special; names = law.keeps.names };
    })

pub derived_set : (s : Bor Module) (n : Maps) (u : Module) (ns : FunctionNames) (m : ModuleValue) (shift : ℕ) (d : Derived) → AreRanked s.now → HasSet m shift d (derived_of (Some s) n u ns) → IsDerived (Some s) n u
derived_set s n u ns m shift d a w = derived_by _ s n u ns a w.derivation

-- ---- while its special types are copied

begun_midway : (s : Module) (o : Shader) (k : Maps) (t : Module) → CopyableItems s → IsDerived o k t → HaveDistinctKeys (special_entries (special_value s.special_types)) → IsMidway (value_of s) (kept_between s t) (start (derived_of o k t []) (value_of s))
unfolding kept_between value_of
begun_midway s o k t c i distinct = midway_first (kept_for o t) (derived_of o k t []) (value_of s) (derivation_of o k t [] i) (value_special s c distinct)

-- the state from which they are copied
pub copying_begun : (s : Module) (o : Shader) (k m : Maps) (t : Module) (v : Vec (Option ℕ) Global) (es : List Entry) → CopyableItems s → IsDerived o k t → HaveDistinctKeys es → es ≡ special_entries (special_value s.special_types) → places_of m ≡ no_places (value_of s) → v.items ≡ kept_over (special_at (special_value t.special_types)) es m.types.items → IsCopying s t (record m { types = v })
copying_begun s o k m t v es c i distinct entries fresh kept =
    let n = record m { types = v } in
    copying_of s t n (subst (IsMidway (value_of s) (kept_between s t)) (sym (copying_starts s t m v es (derived_of o k t []) refl fresh entries kept)) (begun_midway s o k t c i (subst HaveDistinctKeys entries distinct)))

all_there : (s : Module) (es : List Entry) → CopyableItems s → HaveDistinctKeys es → es ≡ special_entries (special_value s.special_types) → All (λ o. IfSome o (HasAt (value_of s))) (special_names es)
unfolding value_of
all_there s es c distinct entries = subst (λ (xs : List Entry). All (λ o. IfSome o (HasAt (value_of s))) (special_names xs)) (sym entries) (as_names (HasAt (value_of s)) (special_entries (special_value s.special_types)) (value_special s c (subst HaveDistinctKeys entries distinct)).there)

pub special_went : (s t u : Module) (m n : Maps) (es : List Entry) → CopyableItems s → AreRanked s → HaveDistinctKeys es → es ≡ special_entries (special_value s.special_types) → IsCopying s t m → copy_state n u ≡ copy_all (value_of s) m.offset (copy_state m t) (special_names es) → All (λ (e : Entry). WentSomewhere (goes_under n) (Some (TypeItem e.1))) es
special_went s t u m n es c a distinct entries i is =
    from_names (λ p. (q : ItemPlace) × (goes_under n p ≡ Some q)) es (names_went s t u m n (special_names es) a i (all_there s es c distinct entries) is)

-- with some of the special types of a source set, and the source not
there_part : (s : Module) (n : Maps) (u : Module) (x : SpecialTypes) (xs : List Entry) → IsCopying s u n → IsSpecialThere u → All (λ (e : Entry). WentSomewhere (goes_under n) (Some (TypeItem e.1))) xs → special_value x ≡ with_specials (special_value u.special_types) (handle_under n.types.items) xs → IsSpecialThere (record u { special_types = x })
unfolding goes_under value_of
there_part s n u x xs i special went is =
    special_unseen (record u { special_types = x }) (subst (λ y. AreThere (having (value_of u) y)) (sym is) (there_set (value_of s) (kept_between s u) (copy_state n u) xs (midway_of s u n i) went (special_seen u special)))

sound_part : (u : Module) (x : SpecialTypes) → IsSound (world (value_of u)) → IsSound (world (value_of (record u { special_types = x })))
unfolding value_of
sound_part u x i = subst IsSound (sym (world_having (value_of u) (special_value x))) i

keeps_refused : (o : Shader) (k n : Maps) (t u : Module) (x : SpecialTypes) (f : ℕ → ℕ) (xs : List Entry) (ns : FunctionNames) (d : Derived) → derived_of o k t ns ≡ cleared d → Extends (value_of t) (value_of u) → special_value x ≡ with_specials (special_value u.special_types) f xs → KeepsItems d (derived_of o n (record u { special_types = x }) ns)
unfolding value_of
keeps_refused o k n t u x f xs ns d seen ext is =
    keeps_part d (derived_of o n (record u { special_types = x }) ns) (value_of u) f xs (subst (λ v. Extends v (value_of u)) (ap (λ (y : Derived). y.target) seen) ext) (ap (having (value_of u)) is) (ap (λ (y : Derived). y.function_names) seen)

-- where memory ran out while the special types were copied or set
pub record IsRefused (o : Shader) (n : Maps) (u : Module) (ns : FunctionNames) (d : Derived) : Type 0 where
  pub derived : IsDerived o n u
  pub keeps : KeepsItems d (derived_of o n u ns)

pub refused : (s : Module) (o : Shader) (k m n : Maps) (t u : Module) (x : SpecialTypes) (xs : List Entry) (ns : FunctionNames) (d : Derived) → IsDerived o k t → derived_of o k t ns ≡ cleared d → IsCopying s t m → n.offset ≡ m.offset → Putting (value_of s) m.offset (copy_state m t) (copy_state n u) → All (λ (e : Entry). WentSomewhere (goes_under n) (Some (TypeItem e.1))) xs → special_value x ≡ with_specials (special_value u.special_types) (handle_under n.types.items) xs → IsRefused o n (record u { special_types = x }) ns d
refused s o k m n t u x xs ns d i seen begun offset p went is =
    let g = putting_grows s t u m n begun offset p in
    let copying = putting_copying s t u m n begun p in
    record {
      derived = derived_none o n (record u { special_types = x }) (left_source o k (ap (λ (y : Derived). y.source) seen)) (sound_part u x copying.sound) (there_part s n u x xs copying (special_later t u g.extends g.special i.special) went is);
      keeps = keeps_refused o k n t u x (handle_under n.types.items) xs ns d seen g.extends is;
    }
