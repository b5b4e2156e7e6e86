-- Worked rows: names of functions that override `f` of the module `m`.
use Rattle.std.specs.Prelude.{◌≡◌, true, false, [], ◌∷◌, Some, None, codes, refl}
use Rattle.naga_oil_lines.specs.Decorate.{letters}
use Rattle.naga_oil_build.specs.OverridingForm.{IsOverrideName, is_overridden, OverridesEachOnce, ShareNoName}

one_in_a_shader : IsOverrideName (codes "fX_naga_oil_mod_XNUX") (codes "fX_naga_oil_vrt_XNUX")
unfolding letters
one_in_a_shader = record { item = codes "f"; module_name = codes "m"; within = None; is = refl; named = refl }

one_in_a_module : IsOverrideName (codes "fX_naga_oil_mod_XNUX") (codes "fX_naga_oil_vrt_XNUXX_naga_oil_mod_XNYX")
unfolding letters
one_in_a_module = record { item = codes "f"; module_name = codes "m"; within = Some (codes "n"); is = refl; named = refl }

one_is_overridden : is_overridden ((codes "f", codes "g" ∷ []) ∷ []) (codes "f") ≡ true
one_is_overridden = refl

what_overrides_is_not : is_overridden ((codes "f", codes "g" ∷ []) ∷ []) (codes "g") ≡ false
what_overrides_is_not = refl

one_twice_is_refused : OverridesEachOnce ((codes "f", []) ∷ (codes "f", []) ∷ []) → ⊥
one_twice_is_refused h = (let e : true ≡ false = h.0 in absurd cc)

two_that_one_overrides_share_it : ShareNoName (codes "f", codes "h" ∷ []) (codes "g", codes "h" ∷ []) → ⊥
two_that_one_overrides_share_it s = (let e : true ≡ false = s.names (codes "h") refl in absurd cc)
