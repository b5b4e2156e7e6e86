-- The token at the front of a text, and the rest.
use Rattle.std.specs.Prelude.{ℕ, zero, suc, ◌+◌, ◌-◌, Bool, false, ◌&&◌, if◌then◌else◌, ◌==◌, bytes_eq, nat_eq, List, [], ◌∷◌, take, drop, length, map, Option, Some, None}
use Rattle.std.specs.Cmp.Lexicographic.{pointwise}
use Rattle.yettuvam_wgsl_words.specs.declared.class.Class.TheVariants as class
use Rattle.yettuvam_wgsl_words.specs.declared.cut.Piece.{Piece}
use Rattle.yettuvam_wgsl_words.specs.declared.cut.Piece.TheVariants.{Token, Blank, Bad}
use Rattle.yettuvam_wgsl_words.specs.declared.keywords.TheConstants.{WORDS}
use Rattle.yettuvam_wgsl_words.specs.declared.refusal.Reason.TheVariants as reason
use Rattle.yettuvam_wgsl_words.specs.declared.token.Kind.{Kind}
use Rattle.yettuvam_wgsl_words.specs.declared.token.Kind.TheVariants as kind
use Rattle.yettuvam_wgsl_words.specs.declared.token.TheConstants.{SIGNS}
use Rattle.yettuvam_wgsl_words.specs.Class.{Text, underscore, after, after_byte, after_character, after_line, after_name, before, begins_with, begins_with_wide_blank, continues_name, starts_name}
use Rattle.yettuvam_wgsl_words.specs.Number.{after_number, begins_number}

-- ---- comments

abbrev pub slash : ℕ
slash = 47

abbrev pub asterisk : ℕ
asterisk = 42

abbrev pub begins_with_both : (first second : ℕ) → Text → Bool
begins_with_both first second (a ∷ b ∷ rest) = a == first && b == second
begins_with_both first second _ = false

abbrev pub begins_line_comment : Text → Bool
begins_line_comment text = begins_with_both slash slash text

abbrev pub opens_comment : Text → Bool
opens_comment text = begins_with_both slash asterisk text

abbrev pub closes_comment : Text → Bool
closes_comment text = begins_with_both asterisk slash text

-- after the end of a comment in which `depth` others are open; each turn takes a byte, so their number is enough
unfoldable pub comment_from : (turns depth : ℕ) → Text → Option Text
comment_from zero depth text = None
comment_from (suc turns) depth text =
    if closes_comment text then (if depth == 0 then Some (after_byte (after_byte text)) else comment_from turns (depth - 1) (after_byte (after_byte text)))
    else (if opens_comment text then comment_from turns (depth + 1) (after_byte (after_byte text))
    else comment_from turns depth (after_byte text))

-- after the end of a comment that began before the text
unfoldable pub after_comment : Text → Option Text
after_comment text = comment_from (length text) 0 text

abbrev pub comment_by : Option Text → Text → Piece × Text
comment_by (Some rest) opened = (Blank, rest)
comment_by None opened = (Bad reason.OpenComment, opened)

abbrev pub block_comment : Text → Piece × Text
block_comment text = comment_by (after_comment (after_byte (after_byte text))) (after_byte (after_byte text))

-- ---- numbers

-- a letter after a number spoils it
abbrev pub number_by : Option Text → Text → Piece × Text
number_by (Some rest) text = if continues_name rest then (Bad reason.BadNumber, after_name rest) else (Token kind.Number, rest)
number_by None text = (Bad reason.BadNumber, after_name (after_byte text))

abbrev pub number : Text → Piece × Text
number text = number_by (after_number text) text

-- ---- words

abbrev pub same_bytes : Text → Text → Bool
same_bytes a b = bytes_eq a b

-- what a word means that stands in a group
abbrev pub find : List (Text × Option Kind) → Text → Option (Option Kind)
find [] word = None
find (entry ∷ entries) word = if same_bytes entry.0 word then Some entry.1 else find entries word

-- the group of the words that begin with a byte
abbrev pub find_group : List (ℕ × List (Text × Option Kind)) → (first : ℕ) → List (Text × Option Kind)
find_group [] first = []
find_group (group ∷ groups) first = if group.0 == first then group.1 else find_group groups first

-- the words of the language that begin with a byte
unfoldable pub group : (first : ℕ) → List (Text × Option Kind)
group first = find_group (map (λ g. (g.0, map (λ e. (e.0.now, e.1)) g.1.now)) WORDS) first

abbrev pub meaning : Option (Option Kind) → Piece
meaning (Some (Some kind)) = Token kind
meaning (Some None) = Bad reason.ReservedWord
meaning None = Token kind.Name

abbrev pub plain_word : Text → (first : ℕ) → Piece
plain_word word first = meaning (find (group first) word)

-- of a word, which a text begins with, its kind or its fault
abbrev pub word_piece : Text → Piece
word_piece [] = Blank
word_piece (first ∷ []) = if first == underscore then Token kind.Underscore else plain_word (first ∷ []) first
word_piece (first ∷ second ∷ rest) =
    if first == underscore && second == underscore then Bad reason.TwoUnderscores
    else plain_word (first ∷ second ∷ rest) first

abbrev pub word : Text → Piece × Text
word text = (word_piece (before text (after_name text)), after_name text)

-- ---- signs

abbrev pub has_prefix : (sign text : Text) → Bool
has_prefix sign text = pointwise nat_eq (take (length sign) text) sign

-- the first sign of a table that the text begins with
abbrev pub find_sign : List (ℕ × Text × Kind) → (first : ℕ) → Text → Piece × Text
find_sign [] first text = (Bad reason.UnknownCharacter, after_character text)
find_sign (entry ∷ entries) first text =
    if entry.0 == first && has_prefix entry.1 text then (Token entry.2, drop (length entry.1) text)
    else find_sign entries first text

-- the sign of the language
unfoldable pub sign : (first : ℕ) → Text → Piece × Text
sign first text = find_sign (map (λ e. (e.0, e.1.now, e.2)) SIGNS) first text

-- ---- all

abbrev pub begin : (first : ℕ) → Text → Piece × Text
begin first text =
    if begins_with class.Blank text then (Blank, after class.Blank text)
    else (if starts_name text then word text
    else (if begins_number text then number text
    else (if begins_line_comment text then (Blank, after_line text)
    else (if opens_comment text then block_comment text
    else (if begins_with_wide_blank text then (Blank, after_character text)
    else sign first text)))))

-- nothing stands at the front of nothing
unfoldable pub cut : Text → Piece × Text
cut [] = (Blank, [])
cut (first ∷ rest) = begin first (first ∷ rest)
