-- A decorated name determines its item and its module, and a code its text.
use Rattle.std.proofs.Common.{◌≡◌, ◌≢◌, ℕ, ◌+◌, ◌/◌, ◌%◌, ◌<◌, ◌&&◌, Bool, true, false, cond, Some, None, List, [], ◌∷◌, ◌++◌, length, refl, sym, ap, subst, lit<, ◌∙◌, arith, append_assoc, ⊎_elim}
use lib.Utf8.{scalar, scalar_cases, next}
use Rattle.std.specs.Prelude.{All, nat_lt, codes, bytes_eq}
use Rattle.std.specs.Char.{encode_utf8}
use Rattle.std.specs.List.{flat_map}
use Rattle.std.specs.Str.{IsUtf8, is_utf8, all_scalars, encode_utf8_all}
use Rattle.std.proofs.lemmas.Bool.{ltb-true}
use Rattle.std.proofs.lemmas.Bool.Decides.{nat_tests}
use Rattle.std.proofs.lemmas.List.{append_cancel_right}
use Rattle.std.proofs.lemmas.List.Elements.{All-nil, All-cons, All-head, All-tail, All-append}
use Rattle.std.proofs.lemmas.Slice.Eq.{bytes_eq-Decides}
use Rattle.std.proofs.lemmas.Str.{IsUtf8-from_is_utf8, is_utf8-from_IsUtf8}
use Rattle.naga_oil_lines.specs.Decorate.{bits, number, letter, letters, base32, value_of, bytes_of, decoded, decorated_name}
use Rattle.naga_oil_words.specs.Marks.{module_mark}

-- ---- the bits of letters
abbrev AreBits : List ℕ → Type 0
AreBits [] = Unit {0}
AreBits (b ∷ bs) = (b < 2) × AreBits bs

value_of-letter : (n : ℕ) → n < 32 → value_of (letter n) ≡ n
value_of-letter n few = grind (arith, nat_tests)

letter_is_no_underscore : (n : ℕ) → n < 32 → letter n ≢ 95
letter_is_no_underscore n few e = grind (arith, nat_tests)

five_low : (a b c d e : ℕ) → AreBits (a ∷ b ∷ c ∷ d ∷ e ∷ []) → number (a ∷ b ∷ c ∷ d ∷ e ∷ []) < 32
five_low a b c d e (ha, (hb, (hc, (hd, (he, _))))) = omega arith

five_back : (a b c d e : ℕ) → AreBits (a ∷ b ∷ c ∷ d ∷ e ∷ []) → bits 5 (number (a ∷ b ∷ c ∷ d ∷ e ∷ [])) ≡ a ∷ b ∷ c ∷ d ∷ e ∷ []
five_back a b c d e (ha, (hb, (hc, (hd, (he, _))))) =
    let n = number (a ∷ b ∷ c ∷ d ∷ e ∷ []) in
    let e4 : n / 16 % 2 ≡ a = omega arith in
    let e3 : n / 8 % 2 ≡ b = omega arith in
    let e2 : n / 4 % 2 ≡ c = omega arith in
    let e1 : n / 2 % 2 ≡ d = omega arith in
    let e0 : n / 1 % 2 ≡ e = omega arith in
    λ i. e4 i ∷ e3 i ∷ e2 i ∷ e1 i ∷ e0 i ∷ []

letter_back : (a b c d e : ℕ) → AreBits (a ∷ b ∷ c ∷ d ∷ e ∷ []) → bits 5 (value_of (letter (number (a ∷ b ∷ c ∷ d ∷ e ∷ [])))) ≡ a ∷ b ∷ c ∷ d ∷ e ∷ []
letter_back a b c d e h = ap (bits 5) (value_of-letter (number (a ∷ b ∷ c ∷ d ∷ e ∷ [])) (five_low a b c d e h)) ∙ five_back a b c d e h

bits_of : List ℕ → List ℕ
bits_of code = flat_map (λ c. bits 5 (value_of c)) code

zero_bit : 0 < 2
zero_bit = lit< tt

-- the letters give the bits, and fewer than five more
letters_back : (bs : List ℕ) → AreBits bs → (pad : List ℕ) × (length pad < 5) × (bits_of (letters bs) ≡ bs ++ pad)
unfolding letters bits_of
letters_back [] h = ([], omega arith, refl)
letters_back (a ∷ []) h = (0 ∷ 0 ∷ 0 ∷ 0 ∷ [], omega arith, ap (λ l. l ++ []) (letter_back a 0 0 0 0 (h.0, (zero_bit, (zero_bit, (zero_bit, (zero_bit, tt)))))))
letters_back (a ∷ b ∷ []) h = (0 ∷ 0 ∷ 0 ∷ [], omega arith, ap (λ l. l ++ []) (letter_back a b 0 0 0 (h.0, (h.1.0, (zero_bit, (zero_bit, (zero_bit, tt)))))))
letters_back (a ∷ b ∷ c ∷ []) h = (0 ∷ 0 ∷ [], omega arith, ap (λ l. l ++ []) (letter_back a b c 0 0 (h.0, (h.1.0, (h.1.1.0, (zero_bit, (zero_bit, tt)))))))
letters_back (a ∷ b ∷ c ∷ d ∷ []) h = (0 ∷ [], omega arith, ap (λ l. l ++ []) (letter_back a b c d 0 (h.0, (h.1.0, (h.1.1.0, (h.1.1.1.0, (zero_bit, tt)))))))
letters_back (a ∷ b ∷ c ∷ d ∷ e ∷ more) (ha, (hb, (hc, (hd, (he, h))))) =
    let q = letters_back more h in
    (q.0, q.1, λ i. letter_back a b c d e (ha, (hb, (hc, (hd, (he, tt))))) i ++ q.2 i)

-- ---- the bytes of bits
byte_back : (x : ℕ) → x < 256 → number (bits 8 x) ≡ x
byte_back x byte = omega arith

bytes_back : (m pad : List ℕ) → All (λ b. b < 256) m → length pad < 5 → bytes_of (flat_map (bits 8) m ++ pad) ≡ m
unfolding bytes_of
bytes_back [] [] bytes few = refl
bytes_back [] (a ∷ []) bytes few = refl
bytes_back [] (a ∷ b ∷ []) bytes few = refl
bytes_back [] (a ∷ b ∷ c ∷ []) bytes few = refl
bytes_back [] (a ∷ b ∷ c ∷ d ∷ []) bytes few = refl
bytes_back [] (a ∷ b ∷ c ∷ d ∷ e ∷ pad) bytes few = absurd (omega arith)
bytes_back (x ∷ m) pad bytes few =
    λ i. byte_back x (All-head (λ b. b < 256) x m bytes) i ∷ bytes_back m pad (All-tail (λ b. b < 256) x m bytes) few i

are_bits : (m : List ℕ) → AreBits (flat_map (bits 8) m)
are_bits [] = tt
are_bits (x ∷ m) =
    (omega arith, (omega arith, (omega arith, (omega arith, (omega arith, (omega arith, (omega arith, (omega arith, are_bits m))))))))

-- the bytes that a text in base32 stands for
pub bytes_of_code : List ℕ → List ℕ
bytes_of_code code = bytes_of (bits_of code)

pub bytes_of_code-base32 : (m : List ℕ) → All (λ b. b < 256) m → bytes_of_code (base32 m) ≡ m
unfolding bytes_of_code
bytes_of_code-base32 m bytes =
    let q = letters_back (flat_map (bits 8) m) (are_bits m) in
    ap bytes_of q.2 ∙ bytes_back m q.0 bytes q.1

-- ---- the text of a code
one_byte : (b : ℕ) (bs : List ℕ) → b < 256 → All (λ b. b < 256) bs → All (λ b. b < 256) (b ∷ bs)
one_byte b bs h hs = All-cons (λ b. b < 256) b bs h hs

encode_fits : (c : ℕ) → c < 1114112 → All (λ b. b < 256) (encode_utf8 c)
unfolding encode_utf8
encode_fits c fits = go (nat_lt c 128) (nat_lt c 2048) (nat_lt c 65536) refl refl refl
  where
    none : All (λ b. b < 256) []
    none = All-nil (λ b. b < 256)

    go : (x y z : Bool) → nat_lt c 128 ≡ x → nat_lt c 2048 ≡ y → nat_lt c 65536 ≡ z
        → All (λ b. b < 256) (cond x (c ∷ []) (cond y ((192 + c / 64) ∷ next c ∷ []) (cond z ((224 + c / 4096) ∷ next (c / 64) ∷ next c ∷ []) ((240 + c / 262144) ∷ next (c / 4096) ∷ next (c / 64) ∷ next c ∷ []))))
    go true y z hx hy hz = let small = ltb-true c 128 hx in one_byte c [] (omega arith) none
    go false true z hx hy hz = let small = ltb-true c 2048 hy in one_byte (192 + c / 64) (next c ∷ []) (omega arith) (one_byte (next c) [] (omega arith) none)
    go false false true hx hy hz =
        let small = ltb-true c 65536 hz in
        one_byte (224 + c / 4096) (next (c / 64) ∷ next c ∷ []) (omega arith) (one_byte (next (c / 64)) (next c ∷ []) (omega arith) (one_byte (next c) [] (omega arith) none))
    go false false false hx hy hz =
        one_byte (240 + c / 262144) (next (c / 4096) ∷ next (c / 64) ∷ next c ∷ []) (omega arith)
        (one_byte (next (c / 4096)) (next (c / 64) ∷ next c ∷ []) (omega arith) (one_byte (next (c / 64)) (next c ∷ []) (omega arith) (one_byte (next c) [] (omega arith) none)))

encodes_fit : (cs : List ℕ) → all_scalars cs ≡ true → All (λ b. b < 256) (encode_utf8_all cs)
encodes_fit [] h = All-nil (λ b. b < 256)
encodes_fit (c ∷ cs) h =
    All-append (λ b. b < 256) (encode_utf8 c) (encode_utf8_all cs) (encode_fits c (below c (first (scalar c) (all_scalars cs) h))) (encodes_fit cs (second (scalar c) (all_scalars cs) h))
  where
    first : (x y : Bool) → (x && y) ≡ true → x ≡ true
    first true y h = refl
    first false y h = h

    second : (x y : Bool) → (x && y) ≡ true → y ≡ true
    second true y h = h
    second false y h = cc

    below : (c : ℕ) → scalar c ≡ true → c < 1114112
    below c e = ⊎_elim (λ h. omega (arith, h)) (λ h. h.1) (scalar_cases c e)

pub text_fits : (text : List ℕ) → IsUtf8 text → All (λ b. b < 256) text
text_fits text (cs, (scalars, is)) = subst (All (λ b. b < 256)) is (encodes_fit cs scalars)

-- the base32 of a text stands for the text
pub decoded-base32 : (m : List ℕ) → IsUtf8 m → decoded (base32 m) ≡ Some m
unfolding decoded bytes_of_code bits_of
decoded-base32 m u =
    rw (bytes_of_code-base32 m (text_fits m u), (bytes_eq-Decides (base32 m) (base32 m)).1 refl, is_utf8-from_IsUtf8 m u) refl

-- a code that gives a text is the base32 of the text
pub coded_text : (code m : List ℕ) → decoded code ≡ Some m → (base32 m ≡ code) × IsUtf8 m
unfolding decoded
coded_text code m e =
    let bytes = bytes_of (flat_map (λ c. bits 5 (value_of c)) code) in
    go bytes (bytes_eq (base32 bytes) code) (is_utf8 bytes) refl refl e
  where
    go : (bytes : List ℕ) (x y : Bool) → bytes_eq (base32 bytes) code ≡ x → is_utf8 bytes ≡ y → cond (x && y) (Some bytes) None ≡ Some m → (base32 m ≡ code) × IsUtf8 m
    go bytes true true hx hy e =
        let same : bytes ≡ m = cc in
        subst (λ bs. (base32 bs ≡ code) × IsUtf8 bs) same ((bytes_eq-Decides (base32 bytes) code).0 hx, IsUtf8-from_is_utf8 bytes hy)
    go bytes true false hx hy e = cc
    go bytes false y hx hy e = cc

-- what the reader computes of a code: its bytes, and the base32 of these
pub read_code : (code bytes again : List ℕ) → bytes ≡ bytes_of (flat_map (λ c. bits 5 (value_of c)) code) → again ≡ base32 bytes → cond (bytes_eq again code && is_utf8 bytes) (Some bytes) None ≡ decoded code
unfolding decoded
read_code code bytes again e f = rw (f, e) refl

-- ---- the last underscore ends the mark
HasNoUnderscore : List ℕ → Type 0
HasNoUnderscore cs = All (λ c. c ≢ 95) cs

plain_letter : (a b c d e : ℕ) (more : List ℕ) → AreBits (a ∷ b ∷ c ∷ d ∷ e ∷ []) → HasNoUnderscore more → HasNoUnderscore (letter (number (a ∷ b ∷ c ∷ d ∷ e ∷ [])) ∷ more)
unfolding HasNoUnderscore
plain_letter a b c d e more h rest =
    let n = number (a ∷ b ∷ c ∷ d ∷ e ∷ []) in
    All-cons (λ c. c ≢ 95) (letter n) more (letter_is_no_underscore n (five_low a b c d e h)) rest

plain_last : HasNoUnderscore (88 ∷ [])
unfolding HasNoUnderscore
plain_last = All-cons (λ c. c ≢ 95) 88 [] (λ e. omega arith) (All-nil (λ c. c ≢ 95))

plain_code : (bs : List ℕ) → AreBits bs → HasNoUnderscore (letters bs ++ 88 ∷ [])
unfolding letters
plain_code [] h = plain_last
plain_code (a ∷ []) h = plain_letter a 0 0 0 0 (88 ∷ []) (h.0, (zero_bit, (zero_bit, (zero_bit, (zero_bit, tt))))) plain_last
plain_code (a ∷ b ∷ []) h = plain_letter a b 0 0 0 (88 ∷ []) (h.0, (h.1.0, (zero_bit, (zero_bit, (zero_bit, tt))))) plain_last
plain_code (a ∷ b ∷ c ∷ []) h = plain_letter a b c 0 0 (88 ∷ []) (h.0, (h.1.0, (h.1.1.0, (zero_bit, (zero_bit, tt))))) plain_last
plain_code (a ∷ b ∷ c ∷ d ∷ []) h = plain_letter a b c d 0 (88 ∷ []) (h.0, (h.1.0, (h.1.1.0, (h.1.1.1.0, (zero_bit, tt))))) plain_last
plain_code (a ∷ b ∷ c ∷ d ∷ e ∷ more) (ha, (hb, (hc, (hd, (he, h))))) =
    plain_letter a b c d e (letters more ++ 88 ∷ []) (ha, (hb, (hc, (hd, (he, tt))))) (plain_code more h)

one_underscore : (more y : List ℕ) → HasNoUnderscore (more ++ 95 ∷ y) → ⊥
unfolding HasNoUnderscore
one_underscore [] y h = All-head (λ c. c ≢ 95) 95 y h refl
one_underscore (c ∷ more) y h = one_underscore more y (All-tail (λ c. c ≢ 95) c (more ++ 95 ∷ y) h)

no_underscore_in : (x more y : List ℕ) → HasNoUnderscore x → x ≡ more ++ 95 ∷ y → ⊥
no_underscore_in x more y h e = one_underscore more y (subst HasNoUnderscore e h)

one_split : (a b x y : List ℕ) → HasNoUnderscore x → HasNoUnderscore y → a ++ 95 ∷ x ≡ b ++ 95 ∷ y → (a ≡ b) × (x ≡ y)
one_split [] [] x y hx hy e = (refl, cc)
one_split [] (d ∷ b) x y hx hy e = let rest : x ≡ b ++ 95 ∷ y = cc in absurd (no_underscore_in x b y hx rest)
one_split (c ∷ a) [] x y hx hy e = let rest : y ≡ a ++ 95 ∷ x = cc in absurd (no_underscore_in y a x hy rest)
one_split (c ∷ a) (d ∷ b) x y hx hy e =
    let first : c ≡ d = cc in
    let rest : a ++ 95 ∷ x ≡ b ++ 95 ∷ y = cc in
    let q = one_split a b x y hx hy rest in
    (λ i. first i ∷ q.0 i, q.1)

-- the name, split at its last underscore
split_name : (m f : List ℕ) → decorated_name (Some m) f ≡ (f ++ codes "X_naga_oil_mod") ++ 95 ∷ 88 ∷ (base32 m ++ 88 ∷ [])
split_name m f =
    append_assoc (f ++ module_mark) (base32 m) (88 ∷ []) ∙ append_assoc f module_mark (base32 m ++ 88 ∷ [])
    ∙ sym (append_assoc f (codes "X_naga_oil_mod") (95 ∷ 88 ∷ (base32 m ++ 88 ∷ [])))

-- the text after the last underscore
plain_end : (m : List ℕ) → HasNoUnderscore (88 ∷ (base32 m ++ 88 ∷ []))
unfolding HasNoUnderscore
plain_end m = All-cons (λ c. c ≢ 95) 88 (base32 m ++ 88 ∷ []) (λ e. omega arith) (plain_code (flat_map (bits 8) m) (are_bits m))

pub one_item_and_module : (f g m n : List ℕ) → All (λ b. b < 256) m → All (λ b. b < 256) n → decorated_name (Some m) f ≡ decorated_name (Some n) g → (f ≡ g) × (m ≡ n)
one_item_and_module f g m n hm hn e =
    let q = one_split (f ++ codes "X_naga_oil_mod") (g ++ codes "X_naga_oil_mod") (88 ∷ (base32 m ++ 88 ∷ [])) (88 ∷ (base32 n ++ 88 ∷ [])) (plain_end m) (plain_end n)
    (sym (split_name m f) ∙ e ∙ split_name n g) in
    let ends : base32 m ++ 88 ∷ [] ≡ base32 n ++ 88 ∷ [] = cc (q.1) in
    let code : base32 m ≡ base32 n = append_cancel_right (base32 m) (base32 n) (88 ∷ []) ends in
    (append_cancel_right f g (codes "X_naga_oil_mod") q.0, sym (bytes_of_code-base32 m hm) ∙ ap bytes_of_code code ∙ bytes_of_code-base32 n hn)
