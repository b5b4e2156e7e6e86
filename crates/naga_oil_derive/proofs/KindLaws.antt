-- A module whose items can be copied has a value that says so.
use Rattle.std.specs.List.{IsDistinct}
use Rattle.std.proofs.Common.{map, nat_eq, ◌≡◌, refl, ◌∙◌, All}
use Rattle.naga_oil_ir.specs.Rows.{Kind, TypeKind, ConstantKind, OverrideKind, GlobalKind, ExpressionKind}
use Rattle.naga_oil_ir.specs.ModuleValue.{special_value}
use Rattle.naga_oil_ir.specs.declared.module.Module.{Module}
use Rattle.naga_oil_ir.specs.declared.names.ItemPlace.{ItemPlace}
use Rattle.naga_oil_ir.specs.declared.names.ItemPlace.TheVariants.{TypeItem, ConstantItem, OverrideItem, GlobalItem, ExpressionItem}
use Rattle.naga_oil_derive.specs.World.{value_of, special_entries, HaveDistinctKeys}
use Rattle.naga_oil_derive.specs.Copying.{AreRanked, rank}
use Rattle.naga_oil_derive.specs.Copyable.{CopyableItems}
use Rattle.naga_oil_derive.specs.CopiedLaw.{kind_number, place_number, IsKinded, HasAt, IsCopyable, AreSpecial}
use Rattle.naga_oil_derive.proofs.WorldLemmas.{kind_code, place_code, world_code}
use Rattle.naga_oil_derive.proofs.RankLemmas.{ranked}
use Rattle.naga_oil_derive.proofs.SpecialLemmas.{Entry, entries_distinct}
use Rattle.naga_oil_derive.proofs.DeriveCalls.{entries_are_there}

kind_same : (k : Kind) → kind_number k ≡ kind_code k
kind_same (TypeKind n) = refl
kind_same ConstantKind = refl
kind_same OverrideKind = refl
kind_same GlobalKind = refl
kind_same (ExpressionKind n r) = refl

place_same : (p : ItemPlace) → place_code p ≡ place_number p
place_same (TypeItem k) = refl
place_same (ConstantItem k) = refl
place_same (OverrideItem k) = refl
place_same (GlobalItem k) = refl
place_same (ExpressionItem k) = refl

pub value_kinds : (m : Module) → IsKinded (value_of m)
value_kinds m p r e = kind_same r.label.kind ∙ world_code m p r e ∙ place_same p

special : (m : Module) → CopyableItems m → All (λ (e : Entry). HasAt (value_of m) (TypeItem e.1)) (special_entries (value_of m).special_types)
unfolding value_of
special m c = entries_are_there m (special_entries (special_value m.special_types)) c refl

-- the keys of a map are distinct
pub distinct_keys : (m : Module) → IsDistinct nat_eq (map (λ e. e.0) m.special_types.predeclared_types.entries) → HaveDistinctKeys (special_entries (value_of m).special_types)
unfolding value_of
distinct_keys m d = entries_distinct (special_value m.special_types) d

pub ranked_copyable : (m : Module) → AreRanked m → IsCopyable (value_of m)
ranked_copyable m a = record {
  kinds = value_kinds m;
  rank = rank m;
  ranked = record { names = λ p r e. a.names p r e; within = λ p r e. a.within p (r, e) };
}

pub value_copyable : (m : Module) → CopyableItems m → IsCopyable (value_of m)
value_copyable m c = ranked_copyable m (ranked m c)

pub value_special : (m : Module) → CopyableItems m → HaveDistinctKeys (special_entries (value_of m).special_types) → AreSpecial (value_of m)
value_special m c d = record { there = special m c; distinct = d }
