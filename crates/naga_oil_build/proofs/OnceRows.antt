-- A worked row: one function that is overridden by one.
use Rattle.std.specs.Prelude.{None, [], ◌∷◌, codes, refl}
use Rattle.naga_oil_lines.specs.Decorate.{letters}
use Rattle.naga_oil_build.specs.OverridingForm.{IsOverrideName, OverridesEachOnce}
use Rattle.naga_oil_build.proofs.OverridingFormLemmas.{one_more}

one : IsOverrideName (codes "fX_naga_oil_mod_XNUX") (codes "fX_naga_oil_vrt_XNUX")
unfolding letters
one = record { item = codes "f"; module_name = codes "m"; within = None; is = refl; named = refl }

one_is_there_once : OverridesEachOnce ((codes "fX_naga_oil_mod_XNUX", codes "fX_naga_oil_vrt_XNUX" ∷ []) ∷ [])
one_is_there_once = one_more (codes "fX_naga_oil_mod_XNUX") (codes "fX_naga_oil_vrt_XNUX") [] one tt
