-- A line with the values of its `#` names.
use Rattle.std.specs.Prelude.{ℕ, zero, suc, ◌+◌, Bool, true, false, ◌==◌, nat_lt, if◌then◌else◌, List, [], ◌∷◌, take, drop, codes, encode_utf8, encode_utf8_all, decimal, Option, Some, None}
use Rattle.std.specs.Str.{chars}
use Rattle.std.specs.List.{prefix_len, flat_map}
use Rattle.std.specs.Char.{is_whitespace}
use Rattle.std.specs.Fmt.{signed_decimal}
use Rattle.naga_oil_words.specs.Bytes.{hash, open_brace, close_brace}
use Rattle.naga_oil_conditions.specs.declared.shader_def.ShaderDefValue.{ShaderDefValue}
use Rattle.naga_oil_conditions.specs.declared.shader_def.ShaderDefValue.TheVariants as def
use Rattle.naga_oil_conditions.specs.Fault.{Definitions}
use Rattle.naga_oil_conditions.specs.LineKinds.{is_name_char}

-- a name, and the number of characters after its `#` that it takes
pub record HashName : Type 0 where
  pub name : List ℕ
  pub taken : ℕ

-- whether the characters begin with this one
abbrev pub begins_with : ℕ → List ℕ → Bool
begins_with c [] = false
begins_with c (d ∷ ds) = d == c

-- the longest name that the characters begin with; it takes `before` characters before it and
-- `after` characters after it
unfoldable pub name_at : (before after : ℕ) → List ℕ → Option HashName
name_at before after cs =
    let size = prefix_len is_name_char cs in
    if nat_lt 0 size then Some (record { name = take size cs; taken = before + size + after }) else None

-- the name, if a closing brace follows it
unfoldable pub name_in_braces : (before : ℕ) → List ℕ → Option HashName
name_in_braces before cs = if begins_with close_brace (drop (prefix_len is_name_char cs) cs) then name_at before 1 cs else None

-- the name after a `#`: after white space, in braces or without
unfoldable pub hash_name : List ℕ → Option HashName
hash_name cs =
    let white = prefix_len is_whitespace cs in
    if begins_with open_brace (drop white cs) then name_in_braces (white + 1) (drop 1 (drop white cs)) else name_at white 0 (drop white cs)

-- a piece of a line: a character, or a `#` name with all of its characters
pub data Piece : Type 0 where
  plain : ℕ → Piece
  named : (name own : List ℕ) → Piece

-- the pieces of a line from the left; the first `skip` characters belong to a name already read
unfoldable pub pieces : (skip : ℕ) → List ℕ → List Piece
pieces skip [] = []
pieces (suc skip) (c ∷ cs) = pieces skip cs
pieces zero (c ∷ cs) = elim (if c == hash then hash_name cs else None) [
  | None ↦ plain c ∷ pieces zero cs
  | Some h ↦ named h.name (c ∷ take h.taken cs) ∷ pieces h.taken cs
]

-- the text of a value
abbrev pub value_text : ShaderDefValue → List ℕ
value_text (def.Bool true) = codes "true"
value_text (def.Bool false) = codes "false"
value_text (def.Int n) = signed_decimal n
value_text (def.UInt n) = decimal n

-- the value of a name, or its own text if it has none
abbrev pub value_or : Option ShaderDefValue → List ℕ → List ℕ
value_or (Some value) own = value_text value
value_or None own = own

-- the text written for a piece
abbrev pub piece_text : Definitions → Piece → List ℕ
piece_text defs (plain c) = encode_utf8 c
piece_text defs (named name own) = value_or (defs (encode_utf8_all name)) (encode_utf8_all own)

-- the characters with their `#` names replaced
unfoldable pub replaced_from : Definitions → List ℕ → List ℕ
replaced_from defs cs = flat_map (piece_text defs) (pieces 0 cs)

-- a line with its `#` names replaced
unfoldable pub replaced : Definitions → List ℕ → List ℕ
replaced defs line = replaced_from defs (chars line)

-- the name of a piece, if it is one
abbrev pub name_of : Piece → List (List ℕ)
name_of (plain c) = []
name_of (named name own) = encode_utf8_all name ∷ []

-- the `#` names of a line, in order, as bytes
unfoldable pub hash_names : List ℕ → List (List ℕ)
hash_names line = flat_map name_of (pieces 0 (chars line))
