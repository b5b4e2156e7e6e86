-- The names of bytes, and of the ASCII characters with these codes.
use Rattle.std.specs.Prelude.{ℕ, Bool, ◌==◌}

abbrev pub tab : ℕ
tab = 9

abbrev pub newline : ℕ
newline = 10

abbrev pub carriage_return : ℕ
carriage_return = 13

abbrev pub space : ℕ
space = 32

abbrev pub exclamation_mark : ℕ
exclamation_mark = 33

abbrev pub double_quote : ℕ
double_quote = 34

abbrev pub hash : ℕ
hash = 35

abbrev pub open_parenthesis : ℕ
open_parenthesis = 40

abbrev pub close_parenthesis : ℕ
close_parenthesis = 41

abbrev pub asterisk : ℕ
asterisk = 42

abbrev pub plus_sign : ℕ
plus_sign = 43

abbrev pub comma : ℕ
comma = 44

abbrev pub minus : ℕ
minus = 45

abbrev pub dot : ℕ
dot = 46

abbrev pub slash : ℕ
slash = 47

abbrev pub digit_two : ℕ
digit_two = 50

abbrev pub colon : ℕ
colon = 58

abbrev pub semicolon : ℕ
semicolon = 59

abbrev pub less_than : ℕ
less_than = 60

abbrev pub equals_sign : ℕ
equals_sign = 61

abbrev pub greater_than : ℕ
greater_than = 62

abbrev pub at_sign : ℕ
at_sign = 64

abbrev pub capital_a : ℕ
capital_a = 65

abbrev pub capital_x : ℕ
capital_x = 88

abbrev pub backslash : ℕ
backslash = 92

abbrev pub underscore : ℕ
underscore = 95

abbrev pub open_brace : ℕ
open_brace = 123

abbrev pub vertical_bar : ℕ
vertical_bar = 124

abbrev pub close_brace : ℕ
close_brace = 125

-- the number of ASCII characters: each has a smaller code
abbrev pub ascii_count : ℕ
ascii_count = 128

-- the number of letters from A to Z
abbrev pub letter_count : ℕ
letter_count = 26

-- whether a byte is `=`
abbrev pub is_equals : ℕ → Bool
is_equals b = b == equals_sign
