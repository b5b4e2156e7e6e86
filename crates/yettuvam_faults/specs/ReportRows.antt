-- Worked rows: the whole report of each error.
use lib.Utf8.{encode}
use Rattle.std.specs.Prelude.{◌≡◌, refl, ℕ, List, [], ◌∷◌, ◌++◌, Some, None, codes}
use Rattle.std.specs.Fmt.{digits}
use Rattle.std.specs.List.{flat_map}
use Rattle.std.specs.Str.{chars, trim_end, trim_start}
use Rattle.naga_oil_conditions.specs.Computing.{line_kinds}
use Rattle.naga_oil_conditions.specs.Fault as fault
use Rattle.naga_oil_conditions.specs.Fault.{Fault}
use Rattle.naga_oil_ir.specs.Backend.{FaultValue}
use Rattle.naga_oil_ir.specs.RedirectFault.{not_found, argument_mismatch, return_type_mismatch, circular_reference}
use Rattle.naga_oil_ir.specs.declared.span.Span.{Span}
use Rattle.naga_oil_lines.specs.Cover.{cover}
use Rattle.naga_oil_lines.specs.UndecorateRows.{undecorating}
use Rattle.yettuvam_faults.specs.Lines.{in_file}
use Rattle.yettuvam_faults.specs.Marks.{Source, marks_of}
use Rattle.yettuvam_faults.specs.Open.{open_line}
use Rattle.yettuvam_faults.specs.Reports.{fault_report, write_report}
use Rattle.yettuvam_report.specs.Report.{report}

-- `unfolding reporting` lets `refl` compute a report
unfoldable reporting : Unit {0}
unfolding fault_report write_report report marks_of in_file open_line line_kinds cover undecorating digits trim_end trim_start chars encode
reporting = tt

-- the lines of a text
abbrev text : List (List ℕ) → List ℕ
text ls = flat_map (λ l. l ++ codes "\n") ls

abbrev span : (start end : ℕ) → Span
span start end = record { start = start; end = end }

-- a file from which nothing was taken out, and in which nothing was replaced
abbrev of_file : (file : List ℕ) → Source
of_file file = record { path = codes "a.wgsl"; file = file; cleaned = file; parsed = file; offset = 0 }

abbrev told : (file : List (List ℕ)) → Fault → List ℕ
told file f = fault_report (of_file (text file)) (Some f)

-- a report without a mark
abbrev markless : (message : List ℕ) (notes : List (List ℕ)) → List ℕ
markless message notes = text ((codes "error: " ++ message) ∷ codes "  --> a.wgsl" ∷ notes)

-- ---- imports

syntax_row :
    told (codes "#import a:b" ∷ []) (fault.invalid_import (codes "unexpected token") 9)
    ≡ text (codes "error: invalid import: unexpected token" ∷ codes "  --> a.wgsl:1:10" ∷ codes "   |" ∷ codes " 1 | #import a:b" ∷ codes "   |          ^^" ∷ [])
unfolding reporting
syntax_row = refl

ambiguous_row :
    told (codes "#import sea::height" ∷ codes "#import hills::height" ∷ codes "x = height(1)" ∷ []) (fault.invalid_import (codes "Ambiguous import path for item") 46)
    ≡ text (codes "error: a name stands for several imported items" ∷ codes "  --> a.wgsl:3:5" ∷ codes "   |" ∷ codes " 3 | x = height(1)" ∷ codes "   |     ^^^^^^ used here" ∷ codes "   = note: write the module that is meant too, as in `sea::height`" ∷ [])
unfolding reporting
ambiguous_row = refl

missing_row :
    told (codes "#import noise" ∷ codes "x = noise::swell(2);" ∷ []) (fault.import_not_found (codes "noise") 18)
    ≡ text (codes "error: no module `noise`" ∷ codes "  --> a.wgsl:2:5" ∷ codes "   |" ∷ codes " 2 | x = noise::swell(2);" ∷ codes "   |     ^^^^^^^^^^^^ used here" ∷ codes "   = note: a file with `#define_import_path noise` is needed" ∷ [])
unfolding reporting
missing_row = refl

-- an import that the text doesn't use
missing_addition_row : told (codes "x" ∷ []) (fault.import_not_found (codes "noise") 0) ≡ markless (codes "no module `noise`") (codes "   = note: a file with `#define_import_path noise` is needed" ∷ [])
unfolding reporting
missing_addition_row = refl

-- ---- the front end

-- a fault without spans
abbrev fault_with : (message : List ℕ) (spans : List (Span × List ℕ)) (notes : List (List ℕ)) → FaultValue
fault_with message spans notes = record { message = message; spans = spans; notes = notes }

-- a line of the file, and of the text that it became after a header of 5 bytes
abbrev swell : Source
swell = record (of_file (codes "let x = noise::swell(y);")) { parsed = codes "let x = swellX_naga_oil_mod_XNZXWS43FX(y);"; offset = 5 }

-- the span of `y`, in the module with index 1
wgsl_row :
    fault_report swell (Some (fault.wgsl_parse (fault_with (codes "no declaration of `y`") ((span 2097196 2097197, codes "not declared") ∷ []) (codes "declare it" ∷ []))))
    ≡ text (codes "error: no declaration of `y`" ∷ codes "  --> a.wgsl:1:22" ∷ codes "   |" ∷ codes " 1 | let x = noise::swell(y);" ∷ codes "   |                      ^ not declared" ∷ codes "   = note: declare it" ∷ [])
unfolding reporting
wgsl_row = refl

-- the span of a decorated name, whose part of the file is the path; a span in the header, and one that isn't known, have no mark
glsl_row :
    fault_report swell (Some (fault.glsl_parse (fault_with (codes "no `swellX_naga_oil_mod_XNZXWS43FX`") ((span 13 43, codes "not `swellX_naga_oil_mod_XNZXWS43FX`") ∷ (span 2 4, codes "a") ∷ (span 0 0, codes "b") ∷ []) [])))
    ≡ text (codes "error: no `noise::swell`" ∷ codes "  --> a.wgsl:1:9" ∷ codes "   |" ∷ codes " 1 | let x = noise::swell(y);" ∷ codes "   |         ^^^^^^^^^^^^ not `noise::swell`" ∷ [])
unfolding reporting
glsl_row = refl

valid_row :
    told (codes "const a = 1;" ∷ codes "const b = c;" ∷ []) (fault.shader_validation (fault_with (codes "m") ((span 23 24, []) ∷ []) []))
    ≡ text (codes "error: m" ∷ codes "  --> a.wgsl:2:11" ∷ codes "   |" ∷ codes " 2 | const b = c;" ∷ codes "   |           ^" ∷ [])
unfolding reporting
valid_row = refl

-- what is imported has no place in the importing text
header_rows :
    (told [] (fault.wgsl_back (fault_with (codes "m") ((span 1 2, []) ∷ []) [])) ≡ markless (codes "what is imported has no text in WGSL: m") [])
    × (told [] (fault.glsl_back (fault_with (codes "m") [] [])) ≡ markless (codes "what is imported has no text in GLSL: m") [])
    × (told [] (fault.header_validation (fault_with (codes "m") ((span 1 2, []) ∷ []) (codes "n" ∷ []))) ≡ markless (codes "what is imported isn't valid: m") (codes "   = note: n" ∷ []))
unfolding reporting
header_rows = (refl, refl, refl)

written_row : write_report (codes "a.wgsl") (fault_with (codes "`fX_naga_oil_mod_XMEX` has no text") ((span 1 2, []) ∷ []) (codes "n" ∷ [])) ≡ markless (codes "`a::f` has no text") (codes "   = note: n" ∷ [])
unfolding reporting
written_row = refl

-- ---- conditions

open_row :
    told (codes "  #ifdef A" ∷ []) (fault.not_enough_end_ifs 11)
    ≡ text (codes "error: a condition has no `#endif`" ∷ codes "  --> a.wgsl:1:3" ∷ codes "   |" ∷ codes " 1 |   #ifdef A" ∷ codes "   |   ^^^^^^^^ opened here" ∷ [])
unfolding reporting
open_row = refl

stray_rows :
    (told (codes "x" ∷ codes "#endif" ∷ []) (fault.too_many_end_ifs 2)
    ≡ text (codes "error: `#endif` without a condition" ∷ codes "  --> a.wgsl:2:1" ∷ codes "   |" ∷ codes " 2 | #endif" ∷ codes "   | ^^^^^^ no condition is open here" ∷ []))
    × (told (codes "#else" ∷ []) (fault.else_without_condition 0)
    ≡ text (codes "error: `#else` without a condition" ∷ codes "  --> a.wgsl:1:1" ∷ codes "   |" ∷ codes " 1 | #else" ∷ codes "   | ^^^^^ no condition is open here" ∷ []))
unfolding reporting
stray_rows = (refl, refl)

operator_row :
    told (codes "#if Q = 1" ∷ []) (fault.unknown_operator 0 (codes "="))
    ≡ text (codes "error: no operator `=`" ∷ codes "  --> a.wgsl:1:1" ∷ codes "   |" ∷ codes " 1 | #if Q = 1" ∷ codes "   | ^^^^^^^^^" ∷ codes "   = note: the operators are `==`, `!=`, `<`, `<=`, `>` and `>=`" ∷ [])
unfolding reporting
operator_row = refl

-- the second line of a file whose first is a directive, with `\r\n` at its ends
abbrev with_directive : Source
with_directive = record (of_file (codes "enable f16;\r\n #if Q > 2\r\n#endif\r\n")) { cleaned = codes "\n #if Q > 2\n#endif" }

undefined_row :
    fault_report with_directive (Some (fault.unknown_def 1 (codes "Q")))
    ≡ text (codes "error: `Q` isn't defined" ∷ codes "  --> a.wgsl:2:2" ∷ codes "   |" ∷ codes " 2 |  #if Q > 2" ∷ codes "   |  ^^^^^^^^^"
    ∷ codes "   = note: `#if NAME == VALUE` compares a defined name, and `#ifdef NAME` asks whether a name is defined" ∷ [])
unfolding reporting
undefined_row = refl

-- the line of a comparison with a text, and its marks
abbrev compared : (message note : List ℕ) → List ℕ
compared message note = text ((codes "error: " ++ message) ∷ codes "  --> a.wgsl:1:1" ∷ codes "   |" ∷ codes " 1 | #if Q > x" ∷ codes "   | ^^^^^^^^^" ∷ (codes "   = note: " ++ note) ∷ [])

value_rows :
    (told (codes "#if Q > x" ∷ []) (fault.invalid_value 0 (codes "Q") (codes "x") (codes "uint")) ≡ compared (codes "`Q` can't be compared with `x`") (codes "`Q` is compared with integers from 0 to 4294967295"))
    × (told (codes "#if Q > x" ∷ []) (fault.invalid_value 0 (codes "Q") (codes "x") (codes "int")) ≡ compared (codes "`Q` can't be compared with `x`") (codes "`Q` is compared with integers from -2147483648 to 2147483647"))
    × (told (codes "#if Q > x" ∷ []) (fault.invalid_value 0 (codes "Q") (codes "x") (codes "bool")) ≡ compared (codes "`Q` can't be compared with `x`") (codes "`Q` is compared with `true` and `false`"))
unfolding reporting
value_rows = (refl, refl, refl)

version_row :
    told (codes "#version 300" ∷ []) (fault.invalid_version 0)
    ≡ text (codes "error: only the versions 440 and 450 of GLSL are read" ∷ codes "  --> a.wgsl:1:1" ∷ codes "   |" ∷ codes " 1 | #version 300" ∷ codes "   | ^^^^^^^^^^^^" ∷ [])
unfolding reporting
version_row = refl

-- ---- definitions and directives

define_rows :
    (told (codes "#define Q x1" ∷ []) (fault.invalid_definition 0 (codes "Q") (codes "x1"))
    ≡ text (codes "error: `x1` is no value for `Q`" ∷ codes "  --> a.wgsl:1:1" ∷ codes "   |" ∷ codes " 1 | #define Q x1" ∷ codes "   | ^^^^^^^^^^^^" ∷ codes "   = note: a value is `true`, `false` or an integer" ∷ []))
    × (told (codes "#define Q" ∷ []) (fault.define_in_module 0)
    ≡ text (codes "error: `#define` in a module" ∷ codes "  --> a.wgsl:1:1" ∷ codes "   |" ∷ codes " 1 | #define Q" ∷ codes "   | ^^^^^^^^^" ∷ codes "   = note: only the shader's text defines names; `-D NAME=VALUE` defines them too" ∷ []))
    × (told [] (fault.inconsistent_def (codes "Q")) ≡ markless (codes "`Q` is defined with several values") (codes "   = note: a shader and the modules that it imports define a name alike" ∷ []))
unfolding reporting
define_rows = (refl, refl, refl)

directive_row :
    told (codes "" ∷ codes "enable ;" ∷ []) (fault.invalid_directive (codes "enable ;") 1 (codes "No extensions specified"))
    ≡ text (codes "error: invalid directive `enable ;`: No extensions specified" ∷ codes "  --> a.wgsl:2:1" ∷ codes "   |" ∷ codes " 2 | enable ;" ∷ codes "   | ^^^^^^^^" ∷ [])
unfolding reporting
directive_row = refl

-- ---- modules and names

-- the marked bytes stay as the file has them
mark_row :
    told (codes "x = fX_naga_oil_mod_XMEX;" ∷ []) (fault.decoration_in_source 5 21)
    ≡ text (codes "error: the text has the mark of a decorated name" ∷ codes "  --> a.wgsl:1:6" ∷ codes "   |" ∷ codes " 1 | x = fX_naga_oil_mod_XMEX;" ∷ codes "   |      ^^^^^^^^^^^^^^^^"
    ∷ codes "   = note: names of built shaders have this mark, and no source may have it" ∷ [])
unfolding reporting
mark_row = refl

identifier_row :
    told (codes "const a1 = 1;" ∷ []) (fault.invalid_identifier (codes "a1") (span 6 8))
    ≡ text (codes "error: `a1` can't name an item of a module" ∷ codes "  --> a.wgsl:1:7" ∷ codes "   |" ∷ codes " 1 | const a1 = 1;" ∷ codes "   |       ^^" ∷ codes "   = note: the front end reads back another name than it wrote" ∷ [])
unfolding reporting
identifier_row = refl

markless_rows :
    (told [] fault.no_module_name ≡ markless (codes "a module has no `#define_import_path`") (codes "   = note: a line such as `#define_import_path noise` names a module" ∷ []))
    × (told [] fault.too_many_modules ≡ markless (codes "too many modules") (codes "   = note: a build has at most 2047 modules" ∷ []))
    × (told [] fault.bindings_exhausted ≡ markless (codes "no number is left for `@binding(auto)`") [])
    × (told [] fault.text_too_large ≡ markless (codes "the text is too large") (codes "   = note: with what it imports it has to be smaller than 2 MiB" ∷ []))
    × (told [] fault.wrong_form ≡ markless (codes "the front end returned a malformed module") [])
    × (fault_report (of_file []) None ≡ markless (codes "out of memory") [])
unfolding reporting
markless_rows = (refl, refl, refl, refl, refl, refl)

-- ---- overrides

abbrev atten : Source
atten = record (of_file (codes "override fn lighting::atten() {}\n")) { parsed = codes "override fn attenX_naga_oil_mod_XNRUWO2DUNFXGOX() {}\n" }

virtual_row :
    fault_report atten (Some (fault.not_virtual (codes "atten") 12))
    ≡ text (codes "error: `atten` isn't virtual" ∷ codes "  --> a.wgsl:1:13" ∷ codes "   |" ∷ codes " 1 | override fn lighting::atten() {}" ∷ codes "   |             ^^^^^^^^^^^^^^^ overridden here"
    ∷ codes "   = note: write `virtual fn atten` in its module, or build with `--override-any`" ∷ [])
unfolding reporting
virtual_row = refl

abbrev alike : List (List ℕ)
alike = codes "   = note: an override has the parameters and the result of what it overrides" ∷ []

redirect_rows :
    (told [] (fault.redirection (not_found (codes "fX_naga_oil_mod_XMEX"))) ≡ markless (codes "no function `a::f` to override") [])
    × (told [] (fault.redirection (argument_mismatch (codes "g") (codes "fX_naga_oil_mod_XMEX"))) ≡ markless (codes "an override of `a::f` has other parameters") alike)
    × (told [] (fault.redirection (return_type_mismatch (codes "g") (codes "fX_naga_oil_mod_XMEX"))) ≡ markless (codes "an override of `a::f` has another result") alike)
    × (told [] (fault.redirection (circular_reference (codes "f, g"))) ≡ markless (codes "functions call themselves: f, g") [])
    × (told [] fault.redirection_memory ≡ markless (codes "out of memory") [])
unfolding reporting
redirect_rows = (refl, refl, refl, refl, refl)
