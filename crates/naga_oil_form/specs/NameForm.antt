-- The names of functions, with their decoration.
use Rattle.std.specs.Prelude.{ℕ, List, [], map, option_map, unwrap_or, IsSome, All, nat_eq, string_bytes, codes}
use Rattle.std.specs.List.{IsDistinct}
use Rattle.std.specs.Cmp.Lexicographic.{pointwise}
use Rattle.naga_oil_words.specs.Marks.{with_decoration}
use Rattle.naga_oil_ir.specs.declared.module.Module.{Module}
use Rattle.naga_oil_ir.specs.declared.module.Function.{Function}
use Rattle.naga_oil_ir.specs.declared.span.Span.{Span}

-- the bytes of a name
abbrev pub Name : Type 0
Name = List ℕ

-- the name of an entry point's function, `main` if it has none
abbrev pub entry_name : Function → Name
entry_name f = unwrap_or (option_map string_bytes f.name) (codes "main")

-- the name of a function, empty if it has none
abbrev pub function_name : Function → Name
function_name f = unwrap_or (option_map string_bytes f.name) []

-- functions are named
abbrev pub AreNamed : List (Function × Span) → Type 0
AreNamed fs = All (λ e. IsSome e.0.name) fs

-- the decorated names of functions are distinct
abbrev pub AreNamesDistinct : Name → List (Function × Span) → Type 0
AreNamesDistinct d fs = IsDistinct (pointwise nat_eq) (map (λ e. with_decoration d (function_name e.0)) fs)

-- functions are named; their decorated names are distinct, and so are those of the entry points' functions
pub record NameForm (m : Module) (d : Name) : Type 0 where
  pub named : AreNamed m.functions
  pub functions : AreNamesDistinct d m.functions
  pub entry_points : IsDistinct (pointwise nat_eq) (map (λ e. with_decoration d (entry_name e.function)) m.entry_points.items)
