-- Worked rows: names that are owned, which items are own, and how entry points are named.
use Rattle.std.specs.Prelude.{◌≡◌, refl, ℕ, List, true, false, Some, None, [], ◌∷◌, codes}
use Rattle.naga_oil_ir.specs.ModuleValue.{ModuleValue, no_items}
use Rattle.naga_oil_ir.specs.Rows.{Row, ConstantKind, row}
use Rattle.naga_oil_ir.specs.Spans.{undefined}
use Rattle.naga_oil_ir.specs.declared.span.Span.{Span}
use Rattle.naga_oil_words.specs.Marks.{has_module_mark, with_decoration}
use Rattle.naga_oil_link.specs.OwnPlaces.{nothing_own}
use Rattle.naga_oil_link.specs.Owned.{with_owned, name_or_main, own_places, item_names, decorated_items}

no_mark : has_module_mark (codes "color") ≡ false
unfolding has_module_mark
no_mark = refl

a_mark : has_module_mark (codes "colorX_naga_oil_mod_XME") ≡ true
unfolding has_module_mark
a_mark = refl

another_mark : has_module_mark (codes "colorX_naga_oil_vrt_XME") ≡ false
unfolding has_module_mark
another_mark = refl

owned : with_decoration (codes "D") (codes "color") ≡ codes "colorD"
unfolding has_module_mark
owned = refl

not_owned : with_decoration (codes "D") (codes "aX_naga_oil_mod_XMEX") ≡ codes "aX_naga_oil_mod_XMEX"
unfolding has_module_mark
not_owned = refl

noted_in_order : with_owned (codes "D") (codes "aD" ∷ codes "cD" ∷ []) (Some (codes "b")) ≡ codes "aD" ∷ codes "bD" ∷ codes "cD" ∷ []
unfolding has_module_mark
noted_in_order = refl

no_name : name_or_main None ≡ codes "main"
no_name = refl

-- ---- a constant of the source has the name that another one gets

abbrev constant_named : List ℕ → Row × Span
constant_named n = (row ConstantKind (Some n) [] [] [], undefined)

abbrev hostile : ModuleValue
hostile = record no_items { constants = constant_named (codes "K") ∷ constant_named (codes "KX_naga_oil_mod_XMEX") ∷ [] }

-- both then have the same name
one_name : item_names (decorated_items (codes "X_naga_oil_mod_XMEX") hostile).constants ≡ Some (codes "KX_naga_oil_mod_XMEX") ∷ Some (codes "KX_naga_oil_mod_XMEX") ∷ []
unfolding has_module_mark
one_name = refl

-- but only the first is own
first_alone : own_places hostile ≡ record nothing_own { constants = 0 ∷ [] }
unfolding has_module_mark
first_alone = refl
