-- Rows of codes and undecorated texts, computed.
use lib.Utf8.{encode}
use Rattle.std.specs.Prelude.{◌≡◌, refl, Some, None, ◌++◌, ◌∷◌, [], codes}
use Rattle.std.specs.Str.{chars, is_utf8}
use Rattle.ucd_perl.proofs.Computing.{ucd_perl}
use Rattle.naga_oil_lines.specs.Decorate.{letters, bytes_of, decoded}
use Rattle.naga_oil_lines.specs.Text.{past_word}
use Rattle.naga_oil_lines.specs.Undecorate.{from_last_x, mark_code, from_last_mark, split_at_mark, with_module, with_modules, override_at, with_overrides, undecoration}

-- `unfolding undecorating` lets `refl` compute with marks
unfoldable pub undecorating : Unit {0}
unfolding letters bytes_of decoded past_word from_last_x mark_code from_last_mark split_at_mark with_module with_modules override_at with_overrides chars encode is_utf8 ucd_perl
undecorating = tt

of_a_path : decoded (codes "ME5DUYQ") ≡ Some (codes "a::b")
unfolding undecorating
of_a_path = refl

of_the_empty_name : decoded [] ≡ Some []
unfolding undecorating
of_the_empty_name = refl

padded : decoded (codes "ME======") ≡ None
unfolding undecorating
padded = refl

unused_bits : decoded (codes "MF") ≡ None
unfolding undecorating
unused_bits = refl

bits_of_no_byte : decoded (codes "A") ≡ None
unfolding undecorating
bits_of_no_byte = refl

small_letters : decoded (codes "me") ≡ None
unfolding undecorating
small_letters = refl

of_no_text : decoded (codes "74") ≡ None
unfolding undecorating
of_no_text = refl

a_module : undecoration (codes "fX_naga_oil_mod_XMEXYZ") ≡ codes "a::fYZ"
unfolding undecorating
a_module = refl

no_module : undecoration (codes "fX_naga_oil_mod_X1X") ≡ codes "fX_naga_oil_mod_X1X"
unfolding undecorating
no_module = refl

an_override : undecoration (codes "fX_naga_oil_vrt_XMEXX_naga_oil_mod_XMIX") ≡ codes "b::foverride fn a::"
unfolding undecorating
an_override = refl

in_a_text : undecoration (codes "of gX_naga_oil_mod_XNUX, h") ≡ codes "of m::g, h"
unfolding undecorating
in_a_text = refl

-- a mark with nothing before it is unchanged
first_in_its_run : undecoration (codes "-X_naga_oil_mod_XMEX") ≡ codes "-X_naga_oil_mod_XMEX"
unfolding undecorating
first_in_its_run = refl

-- only the code of the last mark is read
last_mark : undecoration (codes "fX_naga_oil_mod_XMEXX_naga_oil_mod_X1X") ≡ codes "fX_naga_oil_mod_XMEXX_naga_oil_mod_X1X"
unfolding undecorating
last_mark = refl

-- a letter of two bytes is a word character
in_two_bytes : undecoration (195 ∷ 169 ∷ codes "X_naga_oil_mod_XMEX") ≡ codes "a::" ++ 195 ∷ 169 ∷ []
unfolding undecorating
in_two_bytes = refl

-- a mark that can't be decoded is unchanged, and the scan continues after its first character
overlapping : undecoration (codes "X_naga_oil_vrt_X1X_naga_oil_vrt_XMEX") ≡ codes "X_naga_oil_vrt_X1override fn a::"
unfolding undecorating
overlapping = refl
