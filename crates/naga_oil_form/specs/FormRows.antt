-- The test of form, computed.
use Rattle.std.specs.Prelude.{◌≡◌, true, [], refl}
use Rattle.naga_oil_ir.specs.ModuleValue.{no_items}
use Rattle.naga_oil_form.specs.Form.{is_formed}

-- the module of nothing passes
nothing_passes : is_formed no_items [] 0 ≡ true
unfolding is_formed
nothing_passes = refl
