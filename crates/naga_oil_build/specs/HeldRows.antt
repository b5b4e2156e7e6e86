-- Worked rows: when names must survive the round trip.
use Rattle.std.specs.Prelude.{◌≡◌, refl, true, false}
use Rattle.naga_oil_build.specs.Held.{is_tested}

a_shader_is_not_tested : is_tested 0 true false ≡ false
a_shader_is_not_tested = refl

special_types_are_not_tested : is_tested 3 true true ≡ false
special_types_are_not_tested = refl

a_module_is_tested : is_tested 3 true false ≡ true
a_module_is_tested = refl
