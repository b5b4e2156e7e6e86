-- Which bytes and characters belong to blanks, numbers and names.
use Rattle.std.specs.Prelude.{ℕ, ◌-◌, Bool, false, ◌||◌, ◌&&◌, if◌then◌else◌, ◌==◌, nat_le, nat_lt, List, [], ◌∷◌, take, length, Option, Some, None}
use Rattle.std.specs.Char.{is_ascii_digit, is_ascii_hexdigit, is_ascii_alphabetic, is_ascii_alphanumeric}
use Rattle.bstr.specs.Utf8.{decoded}
use Rattle.unicode_ident.specs.Ident.{is_xid_start, is_xid_continue}
use Rattle.yettuvam_wgsl_words.specs.declared.class.Class.{Class}
use Rattle.yettuvam_wgsl_words.specs.declared.class.Class.TheVariants as class

-- the bytes of a text
abbrev pub Text : Type 0
Text = List ℕ

abbrev pub underscore : ℕ
underscore = 95

-- the number of ASCII characters: each has a smaller code
abbrev pub ascii_count : ℕ
ascii_count = 128

-- the first byte that begins a character of several bytes
abbrev pub first_lead : ℕ
first_lead = 192

abbrev pub is_in : Class → ℕ → Bool
is_in class.Blank byte = byte == 32 || (nat_le 9 byte && nat_le byte 13)
is_in class.Digit byte = is_ascii_digit byte
is_in class.HexDigit byte = is_ascii_hexdigit byte
is_in class.Continuation byte = nat_le ascii_count byte && nat_lt byte first_lead

-- the rest after the bytes of a class
abbrev pub after : Class → Text → Text
after class [] = []
after class (byte ∷ rest) = if is_in class byte then after class rest else byte ∷ rest

abbrev pub begins_with : Class → Text → Bool
begins_with class [] = false
begins_with class (byte ∷ rest) = is_in class byte

abbrev pub after_byte : Text → Text
after_byte [] = []
after_byte (byte ∷ rest) = rest

-- the rest after the first character
abbrev pub after_character : Text → Text
after_character text = after class.Continuation (after_byte text)

-- the part of a text before a rest of it
abbrev pub before : (text rest : Text) → Text
before text rest = take (length text - length rest) text

-- ---- blanks

-- U+0085
abbrev pub begins_with_next_line : Text → Bool
begins_with_next_line (a ∷ b ∷ rest) = a == 0xC2 && b == 0x85
begins_with_next_line _ = false

-- a character of three bytes that begin with E2 80
abbrev pub begins_with_mark : (ℕ → Bool) → Text → Bool
begins_with_mark is_last (a ∷ b ∷ c ∷ rest) = a == 0xE2 && (b == 0x80 && is_last c)
begins_with_mark is_last _ = false

-- U+2028 and U+2029
abbrev pub ends_line_or_paragraph : ℕ → Bool
ends_line_or_paragraph c = c == 0xA8 || c == 0xA9

-- U+200E and U+200F
abbrev pub marks_direction : ℕ → Bool
marks_direction c = c == 0x8E || c == 0x8F

-- a blank or a line end that isn't ASCII
abbrev pub begins_with_wide_blank : Text → Bool
begins_with_wide_blank text = begins_with_next_line text || begins_with_mark (λ c. marks_direction c || ends_line_or_paragraph c) text

-- a line end: line feed, vertical tab, form feed, carriage return, U+0085, U+2028, U+2029
abbrev pub begins_with_line_end : Text → Bool
begins_with_line_end [] = false
begins_with_line_end (byte ∷ rest) = (nat_le 10 byte && nat_le byte 13) || (begins_with_next_line (byte ∷ rest) || begins_with_mark ends_line_or_paragraph (byte ∷ rest))

-- the rest from the first line end on
abbrev pub after_line : Text → Text
after_line [] = []
after_line (byte ∷ rest) = if begins_with_line_end (byte ∷ rest) then byte ∷ rest else after_line rest

-- ---- names

abbrev pub is_some_and : (ℕ → Bool) → Option ℕ → Bool
is_some_and holds (Some character) = holds character
is_some_and holds None = false

-- the first character of a text
unfoldable pub first_character : Text → Option ℕ
first_character text = (decoded text).char

abbrev pub starts_with_wide_letter : Text → Bool
starts_with_wide_letter text = is_some_and is_xid_start (first_character text)

abbrev pub continues_with_wide_letter : Text → Bool
continues_with_wide_letter text = is_some_and is_xid_continue (first_character text)

-- a name may begin with the first character
abbrev pub starts_name : Text → Bool
starts_name [] = false
starts_name (byte ∷ rest) =
    if nat_lt byte ascii_count then is_ascii_alphabetic byte || byte == underscore
    else starts_with_wide_letter (byte ∷ rest)

-- the first byte may continue a name; the first byte of a character speaks for the others
abbrev pub continues_name : Text → Bool
continues_name [] = false
continues_name (byte ∷ rest) =
    if nat_lt byte ascii_count then is_ascii_alphanumeric byte || byte == underscore
    else is_in class.Continuation byte || continues_with_wide_letter (byte ∷ rest)

-- the rest after the bytes that continue a name
abbrev pub after_name : Text → Text
after_name [] = []
after_name (byte ∷ rest) = if continues_name (byte ∷ rest) then after_name rest else byte ∷ rest
