-- The letters of vectors' components: `xyzw` and `rgba`.
use Rattle.std.specs.Prelude.{ℕ, ◌+◌, ◌*◌, ◌==◌, if◌then◌else◌, List, [], ◌∷◌, Option, Some, None}
use Rattle.yettuvam_wgsl_predeclared.specs.declared.letters.Letters.{Letters}
use Rattle.yettuvam_wgsl_predeclared.specs.declared.letters.Letters.TheVariants as letters

-- the place of a byte among four
abbrev pub number_among : (a b c d byte : ℕ) → Option ℕ
number_among a b c d byte =
    if byte == a then Some 0
    else (if byte == b then Some 1
    else (if byte == c then Some 2
    else (if byte == d then Some 3 else None)))

-- xyzw
abbrev pub place_number : ℕ → Option ℕ
place_number byte = number_among 120 121 122 119 byte

-- rgba
abbrev pub color_number : ℕ → Option ℕ
color_number byte = number_among 114 103 98 97 byte

abbrev pub number_in : Letters → ℕ → Option ℕ
number_in letters.Places byte = place_number byte
number_in letters.Colors byte = color_number byte

-- the first number and the second one, multiplied by a unit
abbrev pub with_second : ℕ → Option ℕ → Option ℕ → Option ℕ
with_second unit (Some a) (Some b) = Some (a + unit * b)
with_second unit (Some a) None = None
with_second unit None b = None

abbrev pub pair_pattern : Letters → (a b : ℕ) → Option ℕ
pair_pattern set a b = with_second 4 (number_in set a) (number_in set b)

abbrev pub triple_pattern : Letters → (a b c : ℕ) → Option ℕ
triple_pattern set a b c = with_second 16 (pair_pattern set a b) (number_in set c)

abbrev pub quad_pattern : Letters → (a b c d : ℕ) → Option ℕ
quad_pattern set a b c d = with_second 16 (pair_pattern set a b) (pair_pattern set c d)

abbrev pub pattern_in : Letters → List ℕ → Option ℕ
pattern_in set (a ∷ b ∷ []) = pair_pattern set a b
pattern_in set (a ∷ b ∷ c ∷ []) = triple_pattern set a b c
pattern_in set (a ∷ b ∷ c ∷ d ∷ []) = quad_pattern set a b c d
pattern_in set _ = None

-- what the set of letters adds to a pattern
abbrev pub of_colors : ℕ
of_colors = 256

abbrev pub color_pattern : Option ℕ → Option ℕ
color_pattern (Some pattern) = Some (of_colors + pattern)
color_pattern None = None

abbrev pub pattern_or : List ℕ → Option ℕ → Option ℕ
pattern_or text (Some pattern) = Some pattern
pattern_or text None = color_pattern (pattern_in letters.Colors text)

-- two to four letters of one set: two bits for each component, the first lowest, and the set above them
unfoldable pub swizzle_pattern : List ℕ → Option ℕ
swizzle_pattern text = pattern_or text (pattern_in letters.Places text)

abbrev pub color_from_4 : Option ℕ → Option ℕ
color_from_4 (Some n) = Some (4 + n)
color_from_4 None = None

abbrev pub number_or : ℕ → Option ℕ → Option ℕ
number_or byte (Some n) = Some n
number_or byte None = color_from_4 (color_number byte)

-- the number of the component that a letter names, of xyzw from 0 and of rgba from 4
unfoldable pub letter_number : ℕ → Option ℕ
letter_number byte = number_or byte (place_number byte)
