-- The marks in the names of modules' items, and which names get a decoration.
use Rattle.std.specs.Prelude.{ℕ, Bool, List, [], ◌∷◌, ◌++◌, nat_eq, ◌||◌, if◌then◌else◌, codes}
use Rattle.std.specs.List.{starts_with}

-- the mark between an item and the code of its module
abbrev pub module_mark : List ℕ
module_mark = codes "X_naga_oil_mod_X"

-- the mark in place of `module_mark` in the name of a function that overrides the item
abbrev pub override_mark : List ℕ
override_mark = codes "X_naga_oil_vrt_X"

-- whether a part occurs anywhere in a text
abbrev pub is_within : (part text : List ℕ) → Bool
is_within part [] = starts_with nat_eq [] part
is_within part (b ∷ bs) = starts_with nat_eq (b ∷ bs) part || is_within part bs

-- whether a name has the mark of a module
unfoldable pub has_module_mark : (name : List ℕ) → Bool
has_module_mark name = is_within module_mark name

-- a name with its decoration; a name that has the mark of a module gets none
abbrev pub with_decoration : (decoration name : List ℕ) → List ℕ
with_decoration decoration name = if has_module_mark name then name else name ++ decoration
