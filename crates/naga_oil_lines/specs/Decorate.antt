-- How the items of a module are named in the composed shader. Bits, letters and padding are those
-- of base32 (RFC 4648 section 6).
use Rattle.std.specs.Prelude.{ℕ, zero, suc, ◌+◌, ◌-◌, ◌*◌, ◌/◌, ◌%◌, ◌^◌, ◌&&◌, if◌then◌else◌, nat_lt, bytes_eq, Option, Some, None, List, [], ◌∷◌, ◌++◌, fold, take, replicate, codes}
use Rattle.std.specs.List.{flat_map}
use Rattle.std.specs.Str.{is_utf8}
use Rattle.naga_oil_words.specs.Bytes.{letter_count, digit_two, capital_a}
use Rattle.naga_oil_words.specs.Marks.{module_mark}

-- the lowest bits of a number, highest first
abbrev pub bits : ℕ → ℕ → List ℕ
bits zero n = []
bits (suc k) n = n / 2 ^ k % 2 ∷ bits k n

-- the number with these bits
abbrev pub number : List ℕ → ℕ
number bs = fold (λ n b. 2 * n + b) 0 bs

-- the letter of five bits: A to Z, then 2 to 7
abbrev pub letter : ℕ → ℕ
letter n = if nat_lt n letter_count then capital_a + n else digit_two + (n - letter_count)

-- the letters of bits, five to a letter, the last five filled with zero bits
unfoldable pub letters : List ℕ → List ℕ
letters [] = []
letters (a ∷ b ∷ c ∷ d ∷ e ∷ more) = letter (number (a ∷ b ∷ c ∷ d ∷ e ∷ [])) ∷ letters more
letters few = letter (number (take 5 (few ++ replicate 4 0))) ∷ []

-- the bytes in base32, without padding
abbrev pub base32 : List ℕ → List ℕ
base32 bytes = letters (flat_map (bits 8) bytes)

-- the five bits of a letter
abbrev pub value_of : ℕ → ℕ
value_of c = if nat_lt c capital_a then c - (digit_two - letter_count) else c - capital_a

-- the bytes of bits, eight to a byte; fewer bits at the end are left out
unfoldable pub bytes_of : List ℕ → List ℕ
bytes_of (a ∷ b ∷ c ∷ d ∷ e ∷ f ∷ g ∷ h ∷ more) = number (a ∷ b ∷ c ∷ d ∷ e ∷ f ∷ g ∷ h ∷ []) ∷ bytes_of more
bytes_of few = []

-- the text whose base32 is the code, if there is one; any other code differs from the base32 of its
-- own bytes
unfoldable pub decoded : List ℕ → Option (List ℕ)
decoded code =
    let bytes = bytes_of (flat_map (λ c. bits 5 (value_of c)) code) in
    if bytes_eq (base32 bytes) code && is_utf8 bytes then Some bytes else None

-- the name of a module's item; an item of no module keeps its name
abbrev pub decorated_name : Option (List ℕ) → List ℕ → List ℕ
decorated_name None item = item
decorated_name (Some module_name) item = item ++ module_mark ++ base32 module_name ++ codes "X"
