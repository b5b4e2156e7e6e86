-- What the name of an overriding function determines: an item, and the code of its module.
use Rattle.std.proofs.Common.{◌≡◌, ◌≢◌, ℕ, ◌<◌, Some, List, [], ◌∷◌, ◌++◌, refl, sym, ap, subst, lit<, ◌∙◌, arith, append_assoc}
use Rattle.std.specs.Prelude.{bytes_eq, codes}
use Rattle.std.specs.List.{flat_map}
use Rattle.std.proofs.lemmas.Bool.{true≢false}
use Rattle.std.proofs.lemmas.Bool.Decides.{nat_tests}
use Rattle.std.proofs.lemmas.List.{append_cancel_right}
use Rattle.naga_oil_lines.specs.Decorate.{bits, number, letter, letters, base32, decorated_name}
use Rattle.naga_oil_words.specs.Marks.{module_mark, override_mark}

-- ---- a code has no underscore

abbrev AreBits : List ℕ → Type 0
AreBits [] = Unit {0}
AreBits (b ∷ bs) = (b < 2) × AreBits bs

abbrev HasNoUnderscore : List ℕ → Type 0
HasNoUnderscore [] = Unit {0}
HasNoUnderscore (c ∷ cs) = (c ≢ 95) × HasNoUnderscore cs

zero_bit : 0 < 2
zero_bit = lit< tt

letter_is_none : (n : ℕ) → n < 32 → letter n ≢ 95
letter_is_none n few e = grind (arith, nat_tests)

one_letter : (a b c d e : ℕ) → AreBits (a ∷ b ∷ c ∷ d ∷ e ∷ []) → letter (number (a ∷ b ∷ c ∷ d ∷ e ∷ [])) ≢ 95
one_letter a b c d e (ha, (hb, (hc, (hd, (he, _))))) = letter_is_none (number (a ∷ b ∷ c ∷ d ∷ e ∷ [])) (omega arith)

last_letter : HasNoUnderscore (88 ∷ [])
last_letter = (λ e. omega arith, tt)

letters_end : (bs : List ℕ) → AreBits bs → HasNoUnderscore (letters bs ++ 88 ∷ [])
unfolding letters
letters_end [] h = last_letter
letters_end (a ∷ []) h = (one_letter a 0 0 0 0 (h.0, (zero_bit, (zero_bit, (zero_bit, (zero_bit, tt))))), last_letter)
letters_end (a ∷ b ∷ []) h = (one_letter a b 0 0 0 (h.0, (h.1.0, (zero_bit, (zero_bit, (zero_bit, tt))))), last_letter)
letters_end (a ∷ b ∷ c ∷ []) h = (one_letter a b c 0 0 (h.0, (h.1.0, (h.1.1.0, (zero_bit, (zero_bit, tt))))), last_letter)
letters_end (a ∷ b ∷ c ∷ d ∷ []) h = (one_letter a b c d 0 (h.0, (h.1.0, (h.1.1.0, (h.1.1.1.0, (zero_bit, tt))))), last_letter)
letters_end (a ∷ b ∷ c ∷ d ∷ e ∷ more) (ha, (hb, (hc, (hd, (he, h))))) = (one_letter a b c d e (ha, (hb, (hc, (hd, (he, tt))))), letters_end more h)

are_bits : (m : List ℕ) → AreBits (flat_map (bits 8) m)
are_bits [] = tt
are_bits (x ∷ m) =
    (omega arith, (omega arith, (omega arith, (omega arith, (omega arith, (omega arith, (omega arith, (omega arith, are_bits m))))))))

-- what follows the last underscore of a name with a code at its end
abbrev coded_end : List ℕ → List ℕ
coded_end m = 88 ∷ (base32 m ++ 88 ∷ [])

code_ends : (m : List ℕ) → HasNoUnderscore (coded_end m)
code_ends m = (λ e. omega arith, letters_end (flat_map (bits 8) m) (are_bits m))

-- ---- a text is split at its last underscore

one_there : (more y : List ℕ) → HasNoUnderscore (more ++ 95 ∷ y) → ⊥
one_there [] y h = h.0 refl
one_there (c ∷ more) y h = one_there more y h.1

pub one_split : (a b x y : List ℕ) → HasNoUnderscore x → HasNoUnderscore y → a ++ 95 ∷ x ≡ b ++ 95 ∷ y → (a ≡ b) × (x ≡ y)
one_split [] [] x y hx hy e = (refl, cc)
one_split [] (d ∷ b) x y hx hy e = let rest : x ≡ b ++ 95 ∷ y = cc in absurd (one_there b y (subst HasNoUnderscore rest hx))
one_split (c ∷ a) [] x y hx hy e = let rest : y ≡ a ++ 95 ∷ x = cc in absurd (one_there a x (subst HasNoUnderscore rest hy))
one_split (c ∷ a) (d ∷ b) x y hx hy e =
    let first : c ≡ d = cc in
    let rest : a ++ 95 ∷ x ≡ b ++ 95 ∷ y = cc in
    let q = one_split a b x y hx hy rest in
    (λ i. first i ∷ q.0 i, q.1)

-- a text that ends in the mark of a module doesn't end in that of an override
marks_differ : (a b : List ℕ) → a ++ codes "X_naga_oil_vrt" ≡ b ++ codes "X_naga_oil_mod" → ⊥
marks_differ a b e =
    let q = one_split (a ++ codes "X_naga_oil") (b ++ codes "X_naga_oil") (codes "vrt") (codes "mod")
    (λ e. omega arith, (λ e. omega arith, (λ e. omega arith, tt))) (λ e. omega arith, (λ e. omega arith, (λ e. omega arith, tt)))
    (append_assoc a (codes "X_naga_oil") (codes "_vrt") ∙ e ∙ sym (append_assoc b (codes "X_naga_oil") (codes "_mod"))) in
    true≢false (ap (bytes_eq (codes "vrt")) q.1)

-- ---- names

-- the name, in a shader, of a function that overrides an item of a module
abbrev pub plain_override : (item module_name : List ℕ) → List ℕ
plain_override item m = item ++ override_mark ++ base32 m ++ codes "X"

split_override : (item m : List ℕ) → plain_override item m ≡ (item ++ codes "X_naga_oil_vrt") ++ 95 ∷ coded_end m
split_override item m =
    append_assoc (item ++ override_mark) (base32 m) (88 ∷ []) ∙ append_assoc item override_mark (base32 m ++ 88 ∷ [])
    ∙ sym (append_assoc item (codes "X_naga_oil_vrt") (95 ∷ coded_end m))

-- the name in a module
split_decorated : (f m : List ℕ) → f ++ decorated_name (Some m) [] ≡ (f ++ codes "X_naga_oil_mod") ++ 95 ∷ coded_end m
split_decorated f m = ap (λ l. f ++ l) (append_assoc module_mark (base32 m) (88 ∷ [])) ∙ sym (append_assoc f (codes "X_naga_oil_mod") (95 ∷ coded_end m))

same_code : (m n : List ℕ) → coded_end m ≡ coded_end n → base32 m ≡ base32 n
same_code m n e = let ends : base32 m ++ 88 ∷ [] ≡ base32 n ++ 88 ∷ [] = cc in append_cancel_right (base32 m) (base32 n) (88 ∷ []) ends

-- both names are of a shader
pub plain_tells : (f g m n : List ℕ) → plain_override f m ≡ plain_override g n → (f ≡ g) × (base32 m ≡ base32 n)
plain_tells f g m n e =
    let q = one_split (f ++ codes "X_naga_oil_vrt") (g ++ codes "X_naga_oil_vrt") (coded_end m) (coded_end n) (code_ends m) (code_ends n) (sym (split_override f m) ∙ e ∙ split_override g n) in
    (append_cancel_right f g (codes "X_naga_oil_vrt") q.0, same_code m n q.1)

-- both names are of modules
pub decorated_tells : (f g k l : List ℕ) → f ++ decorated_name (Some k) [] ≡ g ++ decorated_name (Some l) [] → f ≡ g
decorated_tells f g k l e =
    let q = one_split (f ++ codes "X_naga_oil_mod") (g ++ codes "X_naga_oil_mod") (coded_end k) (coded_end l) (code_ends k) (code_ends l) (sym (split_decorated f k) ∙ e ∙ split_decorated g l) in
    append_cancel_right f g (codes "X_naga_oil_mod") q.0

-- one name is of a shader, and one of a module
pub never_alike : (f g m k : List ℕ) → plain_override f m ≡ g ++ decorated_name (Some k) [] → ⊥
never_alike f g m k e =
    let q = one_split (f ++ codes "X_naga_oil_vrt") (g ++ codes "X_naga_oil_mod") (coded_end m) (coded_end k) (code_ends m) (code_ends k) (sym (split_override f m) ∙ e ∙ split_decorated g k) in
    marks_differ f g q.0
