-- Marks that show, without a lookup among the declarations, that most names are undeclared.
use Rattle.std.specs.Prelude.{◌≡◌, ℕ, ◌+◌, ◌*◌, ◌%◌, Bool, true, false, ◌==◌, List, [], ◌∷◌, length, map, get_or}
use Rattle.std.specs.List.{list_all, list_any}
use Rattle.naga_oil_imports.specs.declared.declared_names.DeclaredNames.{DeclaredNames}
use Rattle.naga_oil_imports.specs.Declarations.{Declared}

-- the number of slots
abbrev pub slot_count : ℕ
slot_count = 64

-- the slot of a name, by its first byte and its length
abbrev pub slot_of : List ℕ → ℕ
slot_of [] = 0
slot_of (b ∷ bs) = (b + 8 * (length (b ∷ bs) % 8)) % slot_count

-- whether the slot of a name has its mark
abbrev pub has_mark : DeclaredNames → List ℕ → Bool
has_mark names name = get_or names.marks (slot_of name) false

-- whether one of these names has the slot of that one
abbrev pub shares_slot : List (List ℕ) → List ℕ → Bool
shares_slot names other = list_any (λ name. slot_of other == slot_of name) names

-- the names that are declared, in their order
abbrev pub keys_of : Declared → List (List ℕ)
keys_of declared = map (λ e. e.0) declared

-- each declared name has its mark
abbrev pub Covers : DeclaredNames → Declared → Type 0
Covers names declared = list_all (has_mark names) (keys_of declared) ≡ true
