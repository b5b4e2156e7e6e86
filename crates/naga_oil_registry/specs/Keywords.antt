-- Functions after keywords, in the characters of a text, and edits of a text.
use Rattle.std.specs.Prelude.{ℕ, zero, suc, Bool, ◌+◌, ◌-◌, ◌==◌, nat_eq, ◌&&◌, not, if◌then◌else◌, Option, Some, None, option_map, unwrap_or, List, [], ◌∷◌, length, take, drop, codes}
use Rattle.std.specs.Char.{is_whitespace, encode_utf8}
use Rattle.std.specs.List.{flat_map, prefix_len, starts_with}
use Rattle.std.specs.Str.{chars, encode_utf8_all}
use Rattle.std.specs.Str.Lines.{lines}
use Rattle.naga_oil_lines.specs.CoveredLines.{covered_lines}
use Rattle.naga_oil_words.specs.OptionSteps.{◌>>=◌}
use Rattle.naga_oil_lines.specs.Text.{past_word}
use Rattle.naga_oil_lines.specs.declared.comment_strip_iter.CommentState.TheVariants.{Code}
use Rattle.naga_oil_registry.specs.Sanitized.{end_line}

-- a text with its comments covered, each line ended
abbrev pub covered_text : List ℕ → List ℕ
covered_text text = flat_map end_line (covered_lines Code (lines text))

-- the text after leading white space
abbrev pub after_spaces : List ℕ → List ℕ
after_spaces cs = drop (prefix_len is_whitespace cs) cs

-- the text after leading white space, if there is some
abbrev pub past_spaces : List ℕ → Option (List ℕ)
past_spaces [] = None
past_spaces (c ∷ cs) = if is_whitespace c then Some (after_spaces cs) else None

-- a name goes on up to white space or a `(`
abbrev pub is_name_char : ℕ → Bool
is_name_char c = not (is_whitespace c) && not (c == 40)

-- the name at the front of a text, the text, and that after the `(` that follows the name
abbrev pub name_at_front : List ℕ → Option (List ℕ × List ℕ × List ℕ)
name_at_front text =
    let size = prefix_len is_name_char text in
    past_word (codes "(") (after_spaces (drop size text)) >>= λ arguments. if length (take size text) == 0 then None else Some (take size text, text, arguments)

-- the name after ` fn `, with these texts
unfoldable pub marked_name : List ℕ → Option (List ℕ × List ℕ × List ℕ)
marked_name text = past_spaces text >>= past_word (codes "fn") >>= past_spaces >>= name_at_front

-- a function after a keyword: the keyword's place, its name, and the name's place
pub record MarkedFunction : Type 0 where
  pub keyword : ℕ
  pub name : List ℕ
  pub place : ℕ

-- the name of the function after a keyword, and the number of bytes from the name on and after the `(`
abbrev pub name_after : List ℕ → Option (List ℕ × ℕ × ℕ)
name_after text = option_map (λ m. (encode_utf8_all m.0, length (encode_utf8_all m.1), length (encode_utf8_all m.2))) (marked_name (chars text))

-- the function after a keyword at the place, in a text of this size from there on, and what is found after the `(`; without a
-- function, what is found after the keyword
abbrev pub marked_at : (keyword : List ℕ) → (at size : ℕ) → Option (List ℕ × ℕ × ℕ) → (on : ℕ → List MarkedFunction) → List MarkedFunction
marked_at keyword at size None on = on (length keyword)
marked_at keyword at size (Some found) on = record { keyword = at; name = found.0; place = at + (size - found.1) } ∷ on (size - found.2)

-- the functions after a keyword in a text that begins at the place, from left to right; the first few bytes were read before
unfoldable pub marked_after : (skip : ℕ) → (keyword : List ℕ) → (at : ℕ) → (text : List ℕ) → List MarkedFunction
marked_after skip keyword at [] = []
marked_after (suc skip) keyword at (b ∷ more) = marked_after skip keyword (at + 1) more
marked_after zero keyword at (b ∷ more) =
    if starts_with nat_eq (b ∷ more) keyword then marked_at keyword at (length (b ∷ more)) (name_after (drop (length keyword) (b ∷ more))) (λ passed. marked_after (passed - 1) keyword (at + 1) more)
    else marked_after zero keyword (at + 1) more

-- the functions after a keyword in a text
abbrev pub marked_in : (keyword text : List ℕ) → List MarkedFunction
marked_in keyword text = marked_after 0 keyword 0 text

-- edits with other characters from a place on
abbrev pub put : (edits : ℕ → Option ℕ) → (place : ℕ) → (other : List ℕ) → ℕ → Option ℕ
put edits place [] = edits
put edits place (c ∷ more) = put (λ at. if at == place then Some c else edits at) (place + 1) more

-- the characters with edits, whose places count bytes
unfoldable pub edited : (other : ℕ → Option ℕ) → (at : ℕ) → List ℕ → List ℕ
edited other at [] = []
edited other at (c ∷ cs) = unwrap_or (other at) c ∷ edited other (at + length (encode_utf8 c)) cs

-- a text with its edits applied
abbrev pub with_edits : (edits : ℕ → Option ℕ) → (text : List ℕ) → List ℕ
with_edits edits text = flat_map encode_utf8 (edited edits 0 (chars text))
