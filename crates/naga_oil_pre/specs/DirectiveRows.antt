-- Rows of directives, computed.
use lib.Utf8.{encode}
use Rattle.std.specs.Prelude.{◌≡◌, refl, [], ◌∷◌, codes, Ok, Err}
use Rattle.std.specs.Str.{chars, trim_start, trim_end}
use Rattle.naga_oil_lines.specs.Directives.{no_directives}
use Rattle.naga_oil_lines.specs.Text.{past_word}
use Rattle.naga_oil_conditions.specs.Fault.{invalid_directive}
use Rattle.naga_oil_pre.specs.DirectiveLines.{cut_at, listed, treated, directive_of}
use Rattle.naga_oil_pre.specs.Extracted.{taken_out, extracted}

-- `unfolding texts_extracted` lets `refl` compute the text without its directives
unfoldable pub texts_extracted : Unit {0}
unfolding extracted taken_out directive_of listed treated cut_at past_word trim_start trim_end chars encode
texts_extracted = tt

enable_row : extracted (codes "enable f16;\nfn a() {}\n") ≡ Ok (codes "\nfn a() {}", record no_directives { enables = record { names = codes "f16" ∷ []; line = 0 } ∷ [] })
unfolding texts_extracted
enable_row = refl

rest_of_line_row : extracted (codes "enable f16; fn x() {}") ≡ Ok ([], record no_directives { enables = record { names = codes "f16" ∷ []; line = 0 } ∷ [] })
unfolding texts_extracted
rest_of_line_row = refl

requires_row : extracted (codes "// x\n\nrequires a,b,,a;") ≡ Ok (codes "// x\n\n", record no_directives { requires = record { names = codes "a" ∷ codes "b" ∷ codes "a" ∷ []; line = 2 } ∷ [] })
unfolding texts_extracted
requires_row = refl

diagnostic_row : extracted (codes "diagnostic ( off ,x y);\r\n}\r\n") ≡ Ok (codes "\n}", record no_directives { diagnostics = record { severity = codes "off"; rule = codes "x y"; line = 0 } ∷ [] })
unfolding texts_extracted
diagnostic_row = refl

severity_row : extracted (codes "diagnostic(of, x);") ≡ Err (invalid_directive (codes "diagnostic(of, x);") 0 (codes "Invalid severity 'of'. Must be one of: off, info, warn, error"))
unfolding texts_extracted
severity_row = refl

short_row : extracted (codes "enable ;") ≡ Ok (codes "enable ;", no_directives)
unfolding texts_extracted
short_row = refl

nameless_row : extracted (codes "enable  ;") ≡ Err (invalid_directive (codes "enable  ;") 0 (codes "No extensions specified"))
unfolding texts_extracted
nameless_row = refl

end_row : extracted (codes "enablex\n}\nenable f16;") ≡ Ok (codes "enablex\n}\nenable f16;", no_directives)
unfolding texts_extracted
end_row = refl

first_fault_row : extracted (codes "\n requires , ;\ndiagnostic(of, x);") ≡ Err (invalid_directive (codes "requires , ;") 1 (codes "No extensions specified"))
unfolding texts_extracted
first_fault_row = refl
