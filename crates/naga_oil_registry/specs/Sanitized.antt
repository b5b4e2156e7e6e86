-- Preparing a source: marks that it may not contain, its line ends, and automatic bindings.
use Rattle.std.specs.Prelude.{ℕ, zero, suc, ◌+◌, ◌-◌, ◌==◌, ◌&&◌, ◌||◌, nat_eq, nat_lt, if◌then◌else◌, Option, Some, None, option_map, min, List, [], ◌∷◌, ◌++◌, length, map, codes}
use Rattle.std.specs.List.{onto_first, starts_with, ends_with}
use Rattle.std.specs.Fmt.{decimal}
use Rattle.naga_oil_ir.specs.Spans.{u32_max}
use Rattle.naga_oil_words.specs.Marks.{module_mark, override_mark}

-- the earlier of two places, if they are there
abbrev pub earlier : Option ℕ → Option ℕ → Option ℕ
earlier (Some a) (Some b) = Some (min a b)
earlier (Some a) None = Some a
earlier None b = b

-- the first place of either mark
abbrev pub first_of : (mark other text : List ℕ) → Option ℕ
first_of mark other [] = None
first_of mark other (c ∷ more) = if starts_with nat_eq (c ∷ more) mark || starts_with nat_eq (c ∷ more) other then Some 0 else option_map (λ at. suc at) (first_of mark other more)

-- the place of the first mark of a decoration
unfoldable pub first_decoration : List ℕ → Option ℕ
first_decoration text = first_of module_mark override_mark text

-- a text without the carriage returns that stand before a line feed
abbrev pub without_pairs : List ℕ → List ℕ
without_pairs [] = []
without_pairs (a ∷ []) = a ∷ []
without_pairs (a ∷ b ∷ more) = if (a == 13) && (b == 10) then without_pairs (b ∷ more) else a ∷ without_pairs (b ∷ more)

-- each carriage return is a line feed, and one before a line feed is left out
abbrev pub line_feeds : List ℕ → List ℕ
line_feeds text = map (λ c. if c == 13 then 10 else c) (without_pairs text)

-- a line with its line feed
abbrev pub end_line : List ℕ → List ℕ
end_line line = line ++ 10 ∷ []

-- a text whose last line ends in a line feed too
abbrev pub end_last_line : List ℕ → List ℕ
end_last_line text = if ends_with nat_eq text (10 ∷ []) then text else text ++ 10 ∷ []

-- the parts of a text between the places of a mark, from left to right; the first bytes may belong to an earlier mark
abbrev pub parts_after : (left : ℕ) → (mark text : List ℕ) → List (List ℕ)
parts_after left mark [] = [] ∷ []
parts_after (suc left) mark (c ∷ more) = parts_after left mark more
parts_after zero mark (c ∷ more) = if starts_with nat_eq (c ∷ more) mark then [] ∷ parts_after (length mark - 1) mark more else onto_first c (parts_after zero mark more)

abbrev pub parts_around : (mark text : List ℕ) → List (List ℕ)
parts_around mark text = parts_after 0 mark text

-- an automatic binding, and a binding with its number
abbrev pub auto_binding : List ℕ
auto_binding = codes "@binding(auto)"

abbrev pub binding : ℕ → List ℕ
binding number = codes "@binding(" ++ decimal number ++ codes ")"

-- the parts with a binding between each two, numbered from this number on
abbrev pub numbered : ℕ → List (List ℕ) → List ℕ
numbered number [] = []
numbered number (part ∷ []) = part
numbered number (part ∷ next ∷ more) = part ++ (binding number ++ numbered (number + 1) (next ∷ more))

-- the text of these parts and the counter after it, unless the counter exceeds the greatest number
abbrev pub within : (counter : ℕ) → List (List ℕ) → Option (List ℕ × ℕ)
within counter parts = if nat_lt u32_max (counter + (length parts - 1)) then None else Some (numbered counter parts, counter + (length parts - 1))

-- a prepared source and the counter after it; nothing if no number is left
unfoldable pub sanitized : (counter : ℕ) → (source : List ℕ) → Option (List ℕ × ℕ)
sanitized counter source = within counter (parts_around auto_binding (end_last_line (line_feeds source)))
