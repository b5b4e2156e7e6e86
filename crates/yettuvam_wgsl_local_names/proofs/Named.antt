-- Names of expressions, seen by their bytes.
use Rattle.std.proofs.Common.{◌≡◌, ℕ, Bool, true, false, cond, List, [], ◌∷◌, map, Option, Some, None, refl, Global, String, string_bytes}
use Rattle.std.specs.Prelude.{nat_eq, option_map}
use Rattle.std.specs.Map.{lookup}

abbrev named : List (ℕ × String Global) → List (ℕ × List ℕ)
named es = map (λ e. (e.0, string_bytes e.1)) es

pub name_of : (es : List (ℕ × String Global)) (k : ℕ) → lookup (nat_eq k) (named es) ≡ option_map string_bytes (lookup (nat_eq k) es)
name_of [] k = refl
name_of (e ∷ es) k = by (nat_eq k e.0) (name_of es k)
  where
    by : (b : Bool) → lookup (nat_eq k) (named es) ≡ option_map string_bytes (lookup (nat_eq k) es) → cond b (Some (string_bytes e.1)) (lookup (nat_eq k) (named es)) ≡ option_map string_bytes (cond b (Some e.1) (lookup (nat_eq k) es))
    by true h = refl
    by false h = h
