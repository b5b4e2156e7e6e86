-- What holds of the value of each derived module.
use Rattle.std.proofs.Common.{ℕ, List, Option, Some, None, sym, ◌∙◌, Global}
use Rattle.std.specs.declared.borrow.CowStr.{CowStr}
use Rattle.std.specs.Borrow.{Bor}
use Rattle.std.proofs.lemmas.List.{length-map}
use Rattle.naga_oil_ir.specs.declared.module.Module.{Module}
use Rattle.naga_oil_derive.specs.declared.maps.Maps.{Maps}
use Rattle.naga_oil_derive.specs.World.{value_of}
use Rattle.naga_oil_derive.specs.Copying.{AreLong, AreRanked, IsCopying, places_of, goes_under, source_world, kept_between}
use Rattle.naga_oil_derive.specs.CopiedLaw.{AreRoomy}
use Rattle.naga_oil_derive.specs.Derived.{kept}
use Rattle.naga_oil_derive.specs.DerivedView.{source_of, derived_of, IsSpecialThere, IsDerived}
use Rattle.naga_oil_derive.specs.DerivedLaw.{IsSourceOf, AreThere, IsDerivation, kept_by}
use Rattle.naga_oil_derive.proofs.KindLaws.{value_kinds, ranked_copyable}

roomy : (m : Maps) (s : Module) → AreLong m s → AreRoomy (value_of s) (places_of m)
unfolding value_of
roomy m s l = record {
  types = l.types ∙ sym (length-map s.types _);
  constants = l.constants ∙ sym (length-map s.constants _);
  overrides = l.overrides ∙ sym (length-map s.overrides _);
  globals = l.globals ∙ sym (length-map s.global_variables _);
  expressions = l.expressions ∙ sym (length-map s.global_expressions _);
}

special : (t : Module) → IsSpecialThere t → AreThere (value_of t)
unfolding value_of
special t h k q e = h k q e

source : (s : Bor Module) (m : Maps) (t : Module) → IsCopying s.now t m → AreRanked s.now → IsSourceOf (kept (source_of m s) (value_of t)) (source_of m s) (value_of t)
unfolding value_of source_world kept_between goes_under
source s m t i a = record {
  copyable = ranked_copyable s.now a;
  midway = record { kinds = value_kinds t; roomy = roomy m s.now i.long; sound = i.sound; copied = i.copied };
  stand = i.copied.stand;
  still = λ p q h. h;
}

pub view_derived : (o : Option (Bor Module)) (m : Maps) (t : Module) (ns : List (CowStr Global × ℕ)) → IsDerived o m t → IsDerivation (kept_by (derived_of o m t ns)) (derived_of o m t ns)
view_derived None m t ns i = record { kinds = value_kinds t; sound = i.sound; special = special t i.special; source = tt }
view_derived (Some s) m t ns i = record { kinds = value_kinds t; sound = i.sound; special = special t i.special; source = source s m t i.source.0 i.source.1 }
