-- Rows of directives and their texts, computed.
use Rattle.std.specs.Prelude.{◌≡◌, [], ◌∷◌, codes, refl}
use Rattle.naga_oil_lines.specs.Directives.{Directives, no_directives}
use Rattle.naga_oil_words.specs.Texts.{in_order}
use Rattle.naga_oil_lines.specs.DirectivesText.{directives_text}

abbrev row_1 : Directives
row_1 = record {
  enables = record { names = codes "f16" ∷ codes "subgroups" ∷ []; line = 0 } ∷ record { names = codes "f16" ∷ []; line = 1 } ∷ [];
  requires = [];
  diagnostics = record { severity = codes "warn"; rule = codes "derivative_uniformity"; line = 2 } ∷ [];
}

abbrev row_2 : Directives
row_2 = record {
  enables = [];
  requires = record { names = codes "b" ∷ codes "a" ∷ codes "b" ∷ []; line = 0 } ∷ [];
  diagnostics = [];
}

shows_1 : directives_text row_1 ≡ codes "enable f16, subgroups;\ndiagnostic(warn, derivative_uniformity);\n\n"
unfolding in_order
shows_1 = refl

shows_2 : directives_text row_2 ≡ codes "requires a, b;\n\n"
unfolding in_order
shows_2 = refl

shows_3 : directives_text no_directives ≡ []
unfolding in_order
shows_3 = refl
