-- Rows of decorated names and base32 texts, computed.
use Rattle.std.specs.Prelude.{◌≡◌, refl, Some, None, codes, length}
use Rattle.naga_oil_lines.specs.Decorate.{letters, base32, decorated_name}
use Rattle.naga_oil_words.specs.Marks.{module_mark, override_mark}

of_one_byte : decorated_name (Some (codes "a")) (codes "f") ≡ codes "fX_naga_oil_mod_XMEX"
unfolding letters
of_one_byte = refl

of_a_path : decorated_name (Some (codes "a::b")) (codes "g") ≡ codes "gX_naga_oil_mod_XME5DUYQX"
unfolding letters
of_a_path = refl

of_no_module : decorated_name None (codes "f") ≡ codes "f"
of_no_module = refl

of_the_empty_name : decorated_name (Some (codes "")) (codes "f") ≡ codes "fX_naga_oil_mod_XX"
unfolding letters
of_the_empty_name = refl

-- the test vectors of RFC 4648 section 10, without their padding
vector_0 : base32 (codes "") ≡ codes ""
unfolding letters
vector_0 = refl

vector_1 : base32 (codes "f") ≡ codes "MY"
unfolding letters
vector_1 = refl

vector_2 : base32 (codes "fo") ≡ codes "MZXQ"
unfolding letters
vector_2 = refl

vector_3 : base32 (codes "foo") ≡ codes "MZXW6"
unfolding letters
vector_3 = refl

vector_4 : base32 (codes "foob") ≡ codes "MZXW6YQ"
unfolding letters
vector_4 = refl

vector_5 : base32 (codes "fooba") ≡ codes "MZXW6YTB"
unfolding letters
vector_5 = refl

vector_6 : base32 (codes "foobar") ≡ codes "MZXW6YTBOI"
unfolding letters
vector_6 = refl

marks_are_as_long : length module_mark ≡ length override_mark
marks_are_as_long = refl
