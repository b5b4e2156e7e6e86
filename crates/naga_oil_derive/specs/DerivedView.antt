-- How the fields of a derived module are seen, and what holds of them.
use Rattle.std.specs.Prelude.{◌≡◌, ℕ, List, map, Option, Some, option_map, IfSome}
use Rattle.std.specs.Cow.{cow_str_bytes}
use Rattle.std.specs.Global.{Global}
use Rattle.std.specs.declared.borrow.CowStr.{CowStr}
use Rattle.std.specs.Borrow.{Bor}
use Rattle.naga_oil_ir.specs.ModuleValue.{special_value}
use Rattle.naga_oil_ir.specs.declared.module.Module.{Module}
use Rattle.naga_oil_ir.specs.declared.names.ItemPlace.TheVariants.{TypeItem}
use Rattle.naga_oil_derive.specs.declared.maps.Maps.{Maps}
use Rattle.naga_oil_derive.specs.declared.special.SpecialKey.{SpecialKey}
use Rattle.naga_oil_derive.specs.World.{value_of, world, special_at}
use Rattle.naga_oil_derive.specs.Copying.{IsThere, AreRanked, IsSound, IsCopying, places_of}
use Rattle.naga_oil_derive.specs.Derived.{Source, Derived}

abbrev pub source_of : Maps → Bor Module → Source
source_of m s = record { value = value_of s.now; offset = m.offset; places = places_of m }

abbrev pub derived_of : Option (Bor Module) → Maps → Module → List (CowStr Global × ℕ) → Derived
derived_of shader m t names = record {
  source = option_map (source_of m) shader;
  target = value_of t;
  function_names = map (λ e. (cow_str_bytes e.0, e.1)) names;
}

-- the special types are types that are there
abbrev pub IsSpecialThere : Module → Type 0
IsSpecialThere t =
    (k : SpecialKey) (q : ℕ) → special_at (special_value t.special_types) k ≡ Some q →
    IsThere t (TypeItem q)

-- what holds of each derived module
pub record IsDerived (shader : Option (Bor Module)) (m : Maps) (t : Module) : Type 0 where
  pub sound : IsSound (world (value_of t))
  pub special : IsSpecialThere t
  pub source : IfSome shader (λ s. IsCopying s.now t m × AreRanked s.now)
