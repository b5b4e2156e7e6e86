-- What the calls of a derived module show their callers.
use Rattle.std.proofs.Common.{◌≡◌, ◌<◌, ℕ, List, [], length, map, Option, Some, None, option_map, refl, ap, sym, ◌∙◌, subst, All, IfSome, Global}
use Rattle.std.specs.Cow.{cow_str_bytes}
use Rattle.std.specs.declared.borrow.CowStr.{CowStr}
use Rattle.std.specs.Borrow.{Bor}
use Rattle.std.proofs.lemmas.List.Elements.{All-weaker}
use Rattle.naga_oil_form.specs.ItemForm.{special_types}
use Rattle.naga_oil_ir.specs.ModuleValue.{SpecialValue, special_value, no_items}
use Rattle.naga_oil_ir.specs.declared.module.Module.{Module}
use Rattle.naga_oil_ir.specs.declared.names.ItemPlace.TheVariants.{TypeItem}
use Rattle.naga_oil_derive.specs.declared.maps.Maps.{Maps}
use Rattle.naga_oil_derive.specs.World.{value_of, world, Extends, special_at, special_entries}
use Rattle.naga_oil_derive.specs.Copying.{IsSound, IsThere, AreRanked, AreLong, IsCopying, Grows, kept_over}
use Rattle.naga_oil_derive.specs.Copyable.{CopyableItems}
use Rattle.naga_oil_derive.specs.Derived.{Derived, nothing, KeepsSource, Keeps}
use Rattle.naga_oil_derive.specs.DerivedView.{source_of, derived_of, IsSpecialThere, IsDerived}
use Rattle.naga_oil_derive.proofs.WorldLemmas.{Extends-stays}
use Rattle.naga_oil_derive.proofs.SpecialLemmas.{Entry}
use Rattle.naga_oil_derive.proofs.RankLemmas.{place_there}
use Rattle.naga_oil_derive.proofs.DeriveLemmas.{later_source, entries_there, special_of}

abbrev pub Shader : Type 0
Shader = Option (Bor Module)

abbrev pub FunctionNames : Type 0
FunctionNames = List (CowStr Global × ℕ)

-- ---- a module of nothing, and what is seen of others

pub nothing_at : (m : Maps) (t : Module) (ns : FunctionNames) → value_of t ≡ no_items → ns ≡ [] → derived_of None m t ns ≡ nothing
nothing_at m t ns e f = λ i. record { source = None; target = e i; function_names = map (λ (x : CowStr Global × ℕ). (cow_str_bytes x.0, x.1)) (f i) }

pub entries_seen : (o : Shader) (m : Maps) (t : Module) (ns : FunctionNames) (d : Derived) → derived_of o m t ns ≡ d → special_entries (special_value t.special_types) ≡ special_entries d.target.special_types
entries_seen o m t ns d v = ap special_entries (special_of t) ∙ ap (λ (x : Derived). special_entries x.target.special_types) v

-- ---- what holds of a derived module

pub source_in : (o : Shader) (s : Bor Module) (m : Maps) (t : Module) → o ≡ Some s → IsDerived o m t → IsCopying s.now t m × AreRanked s.now
source_in o s m t e d = subst (λ (x : Shader). IfSome x (λ b. IsCopying b.now t m × AreRanked b.now)) e d.source

pub special_later : (t u : Module) → Extends (value_of t) (value_of u) → special_value u.special_types ≡ special_value t.special_types → IsSpecialThere t → IsSpecialThere u
special_later t u x e h = λ k q w. let r = h k q (ap (λ (s : SpecialValue). special_at s k) (sym e) ∙ w) in (r.0, Extends-stays (value_of t) (value_of u) x (TypeItem q) r.0 r.1)

pub derived_later : (o : Shader) (s : Bor Module) (t u : Module) (m n : Maps) → o ≡ Some s → IsDerived o m t → IsCopying s.now u n → Grows m n t u → IsDerived o n u
derived_later o s t u m n e d i g = record {
  sound = i.sound;
  special = special_later t u g.extends g.special d.special;
  source = subst (λ (x : Shader). IfSome x (λ b. IsCopying b.now u n × AreRanked b.now)) (sym e) (i, (source_in o s m t e d).1);
}

-- ---- items that are copied

keeps_source : (o : Shader) (t u : Module) (m n : Maps) → Grows m n t u → KeepsSource (option_map (source_of m) o) (option_map (source_of n) o)
keeps_source None t u m n g = tt
keeps_source (Some s) t u m n g = later_source s.now t u m n g

pub keeps_one : (o : Shader) (t u : Module) (m n : Maps) (ns : FunctionNames) (d : Derived) → derived_of o m t ns ≡ d → Grows m n t u → Keeps d (derived_of o n u ns)
keeps_one o t u m n ns d v g = subst (λ (x : Derived). Keeps x (derived_of o n u ns)) v (record { items = g.extends; names = refl; source = keeps_source o t u m n g })

-- ---- what items map to

-- ---- a source that is set

pub left_source : (o : Shader) (m : Maps) → option_map (source_of m) o ≡ None → o ≡ None
left_source None m e = refl
left_source (Some s) m e = cc

-- with no source
pub derived_none : (o : Shader) (m : Maps) (t : Module) → o ≡ None → IsSound (world (value_of t)) → IsSpecialThere t → IsDerived o m t
derived_none o m t e s h = record {
  sound = s;
  special = h;
  source = subst (λ (x : Shader). IfSome x (λ b. IsCopying b.now t m × AreRanked b.now)) (sym e) tt;
}

-- ---- what copying from a source may ask

pub entries_within : (s : Module) (m : Maps) (es : List Entry) → CopyableItems s → AreLong m s → es ≡ special_entries (special_value s.special_types) → All (λ e. e.1 < length m.types.items) es
entries_within s m es c long e =
    subst (All (λ (x : Entry). x.1 < length m.types.items)) (sym e) (entries_there (λ k. k < length m.types.items) s.special_types (subst (λ n. All (λ k. k < n) (special_types s.special_types)) (sym long.types) c.special))

pub entries_are_there : (s : Module) (es : List Entry) → CopyableItems s → es ≡ special_entries (special_value s.special_types) → All (λ e. IsThere s (TypeItem e.1)) es
entries_are_there s es c e =
    subst (All (λ (x : Entry). IsThere s (TypeItem x.1))) (sym e) (entries_there (λ k. IsThere s (TypeItem k)) s.special_types (All-weaker (λ k. k < length s.types) (λ k. IsThere s (TypeItem k)) (λ k h. place_there s (TypeItem k) h) (special_types s.special_types) c.special))

-- ---- a source that is set, by its entries as they were listed

abbrev pub places_kept : Module → List Entry → List (Option ℕ) → List (Option ℕ)
places_kept t es ts = kept_over (special_at (special_value t.special_types)) es ts
