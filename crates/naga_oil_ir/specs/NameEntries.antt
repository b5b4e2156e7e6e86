-- The names of a function's expressions, as contracts see them.
use Rattle.std.specs.Prelude.{ℕ, List, String}
use Rattle.std.specs.Global.{Global}

-- each expression that has a name, with its name, in the order of their first naming
pub record NameEntries : Type 0 where
  pub entries : List (ℕ × String Global)
