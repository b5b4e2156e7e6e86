-- Rows of texts and their findings, computed.
use Rattle.std.proofs.Common.{◌≡◌, ℕ, true, false, Bool, List, [], ◌∷◌, ◌++◌, refl, map, Option, Some, None, Result, Ok, Err}
use lib.Utf8.{encode}
use Rattle.std.specs.Prelude.{codes}
use Rattle.std.specs.Str.{chars}
use Rattle.ucd_perl.proofs.Computing.{ucd_perl}
use Rattle.unicode_ident.specs.Ident.{is_xid_start, is_xid_continue}
use Rattle.unicode_ident.proofs.Computing.{unicode_ident}
use Rattle.naga_oil_lines.specs.Cover.{cover}
use Rattle.naga_oil_imports.specs.Leaves.{parts, leaves_of, line_leaves}
use Rattle.naga_oil_imports.specs.Substituted.{paths_for, path_text, mentions_at}
use Rattle.naga_oil_lines.specs.Tokens.{lexemes, more_in_token, tail_len}
use Rattle.naga_oil_imports.specs.Uses.{Use}
use Rattle.naga_oil_conditions.specs.declared.shader_def.ShaderDefValue.{ShaderDefValue}
use Rattle.naga_oil_conditions.specs.declared.shader_def.ShaderDefValue.TheVariants as def
use Rattle.naga_oil_conditions.specs.Computing.{line_kinds}
use Rattle.naga_oil_conditions.specs.DefineValue.{defined_value}
use Rattle.naga_oil_conditions.specs.Fault.{Fault, define_in_module, invalid_definition, invalid_import}
use Rattle.naga_oil_conditions.specs.Line.{source_lines}
use Rattle.naga_oil_pre.specs.Metadata.{Found, nothing_found, found_in}
use Rattle.naga_oil_conditions.specs.Values.{read_u32, read_i32, read_bool}

-- a text of these lines
text : List (List ℕ) → List ℕ
text [] = []
text (l ∷ more) = l ++ 10 ∷ text more

finds : (allow_defines : Bool) → List (List ℕ) → Result Found Fault
finds allow_defines lines = found_in allow_defines nothing_found 0 (source_lines (text lines))

-- the import path, and the value of a name
name_of : Result Found Fault → Option (List ℕ)
name_of (Ok found) = found.name
name_of (Err f) = None

value_of : List ℕ → Result Found Fault → Option ShaderDefValue
value_of name (Ok found) = found.defines name
value_of name (Err f) = None

uses_of : Result Found Fault → List Use
uses_of (Ok found) = map (λ u. u.1) found.known.uses
uses_of (Err f) = []

not_allowed : finds false (codes "#define A" ∷ []) ≡ Err (define_in_module 0)
unfolding finds text cover line_kinds chars encode ucd_perl
not_allowed = refl

no_value : finds true (codes "" ∷ codes "#define A x1" ∷ []) ≡ Err (invalid_definition 1 (codes "A") (codes "x1"))
unfolding finds text cover line_kinds defined_value read_u32 read_i32 read_bool chars encode ucd_perl
no_value = refl

-- the last define of a name counts, also in arms that aren't active
last_define : value_of (codes "A") (finds true (codes "#define A 1" ∷ codes "#ifdef B" ∷ codes "#define A 2" ∷ codes "#endif" ∷ [])) ≡ Some (def.UInt 2)
unfolding finds value_of text cover line_kinds defined_value read_u32 read_i32 read_bool chars encode ucd_perl
last_define = refl

last_path : name_of (finds false (codes "#define_import_path a" ∷ codes "#define_import_path b" ∷ [])) ≡ Some (codes "b")
unfolding finds name_of text cover line_kinds chars encode ucd_perl
last_path = refl

-- a line that an import takes is no define
taken_define : finds false (codes "#import a::{" ∷ codes "#define A" ∷ []) ≡ Err (invalid_import (codes "unexpected token") 13)
unfolding finds text cover line_kinds chars encode ucd_perl unicode_ident is_xid_start is_xid_continue lexemes more_in_token tail_len line_leaves leaves_of parts
taken_define = refl

used : uses_of (finds false (codes "#import a::f" ∷ codes "// #C f" ∷ codes "#ifdef D" ∷ codes "f();" ∷ codes "#endif" ∷ [])) ≡ record { import = record { import = codes "a"; items = codes "f" ∷ [] }; offset = 30 } ∷ []
unfolding finds uses_of text cover line_kinds chars encode ucd_perl unicode_ident is_xid_start is_xid_continue lexemes more_in_token tail_len line_leaves leaves_of parts paths_for path_text mentions_at
used = refl
