-- Which texts have the form of a name.
use Rattle.std.specs.Prelude.{ℕ, ◌==◌, ◌&&◌, not, length, Bool, true, false, List, [], ◌∷◌}
use Rattle.yettuvam_wgsl_names.specs.Table.{Name}
use Rattle.yettuvam_wgsl_words.specs.Class.{starts_name, after_name, underscore}

-- `_` alone, or two of them in front
abbrev pub is_reserved : Name → Bool
is_reserved [] = false
is_reserved (a ∷ []) = a == underscore
is_reserved (a ∷ (b ∷ rest)) = a == underscore && b == underscore

-- letters, digits and `_`, the first no digit
abbrev pub is_name : Name → Bool
is_name n = starts_name n && ((length (after_name n) == 0) && not (is_reserved n))
