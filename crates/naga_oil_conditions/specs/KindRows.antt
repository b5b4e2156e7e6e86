-- Rows of line kinds, computed.
use Rattle.std.specs.Prelude.{◌≡◌, refl, true, false, [], ◌∷◌, ◌++◌, codes, Some, None}
use Rattle.naga_oil_conditions.specs.Computing.{line_kinds}
use Rattle.naga_oil_conditions.specs.Kind.{kind_of, unversioned_kind_of, version, condition, endif, imports, import_path, define, other, defined, undefined, compares, otherwise}

version_row : kind_of (codes "#version 450") ≡ version true
unfolding line_kinds
version_row = refl

unknown_version_row : kind_of (codes "#version 4500 core") ≡ version false
unfolding line_kinds
unknown_version_row = refl

late_version_row : kind_of (codes " # version 450") ≡ other
unfolding line_kinds
late_version_row = refl

white_before_version_row : kind_of (codes "  #version  440x") ≡ version true
unfolding line_kinds
white_before_version_row = refl

ifdef_row : kind_of (codes "#ifdef A") ≡ condition false (defined (codes "A"))
unfolding line_kinds
ifdef_row = refl

else_ifndef_row : kind_of (codes "# else  ifndef B|C x") ≡ condition true (undefined (codes "B|C"))
unfolding line_kinds
else_ifndef_row = refl

if_without_operator_row : kind_of (codes "#if FOO") ≡ condition false (compares (codes "FO") [] (codes "O"))
unfolding line_kinds
if_without_operator_row = refl

short_if_row : kind_of (codes "#if X") ≡ other
unfolding line_kinds
short_if_row = refl

short_else_if_row : kind_of (codes "#else if X") ≡ condition true otherwise
unfolding line_kinds
short_else_if_row = refl

elsewhere_row : kind_of (codes "#elsewhere") ≡ condition true otherwise
unfolding line_kinds
elsewhere_row = refl

endif_row : kind_of (codes "#endifx") ≡ endif
unfolding line_kinds
endif_row = refl

import_row : kind_of (codes "#import a") ≡ imports
unfolding line_kinds
import_row = refl

bare_import_row : kind_of (codes "#import") ≡ other
unfolding line_kinds
bare_import_row = refl

longer_import_row : kind_of (codes "#importx") ≡ other
unfolding line_kinds
longer_import_row = refl

import_path_row : kind_of (codes "#define_import_path a::b") ≡ import_path (codes "a::b")
unfolding line_kinds
import_path_row = refl

define_row : kind_of (codes "#define A") ≡ define (codes "A") None
unfolding line_kinds
define_row = refl

define_negative_row : kind_of (codes "#define A -3") ≡ define (codes "A") (Some (codes "-3"))
unfolding line_kinds
define_negative_row = refl

define_any_row : kind_of (codes "#define A x1") ≡ define (codes "A") (Some (codes "x1"))
unfolding line_kinds
define_any_row = refl

unknown_operator_row : kind_of (codes "#if T !! true") ≡ condition false (compares (codes "T") (codes "!!") (codes "true"))
unfolding line_kinds
unknown_operator_row = refl

close_operator_row : kind_of (codes "#if A==-1") ≡ condition false (compares (codes "A") (codes "==") (codes "-1"))
unfolding line_kinds
close_operator_row = refl

no_operator_row : kind_of (codes "#if A B") ≡ condition false (compares (codes "A") [] (codes "B"))
unfolding line_kinds
no_operator_row = refl

-- metadata doesn't read versions
unversioned_row : unversioned_kind_of (codes "#version 450") ≡ other
unfolding line_kinds
unversioned_row = refl

-- a name begins with U+00E9, a letter
letter_row : kind_of (codes "#ifdef " ++ 195 ∷ 169 ∷ 65 ∷ 32 ∷ []) ≡ condition false (defined (195 ∷ 169 ∷ 65 ∷ []))
unfolding line_kinds
letter_row = refl

-- U+2014, a dash, is part of no name
dash_row : kind_of (codes "#ifdef " ++ 226 ∷ 128 ∷ 148 ∷ []) ≡ other
unfolding line_kinds
dash_row = refl

-- U+00A0, U+3000 and U+0085 are white space
white_row : kind_of (194 ∷ 160 ∷ 35 ∷ 227 ∷ 128 ∷ 128 ∷ codes "import" ++ 194 ∷ 133 ∷ []) ≡ imports
unfolding line_kinds
white_row = refl
