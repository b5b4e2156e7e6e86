-- Names of expressions, seen by their bytes.
use Rattle.std.proofs.Common.{◌≡◌, ℕ, Bool, true, false, cond, List, [], ◌∷◌, map, Option, Some, None, is_some, refl, Global, String, string_bytes}
use Rattle.std.specs.Prelude.{nat_eq}
use Rattle.std.specs.Map.{lookup}

abbrev named : List (ℕ × String Global) → List (ℕ × List ℕ)
named es = map (λ e. (e.0, string_bytes e.1)) es

pub has_name : (es : List (ℕ × String Global)) (k : ℕ) → is_some (lookup (nat_eq k) (named es)) ≡ is_some (lookup (nat_eq k) es)
has_name [] k = refl
has_name (e ∷ es) k = by (nat_eq k e.0) (has_name es k)
  where
    by : (b : Bool) → is_some (lookup (nat_eq k) (named es)) ≡ is_some (lookup (nat_eq k) es) → is_some (cond b (Some (string_bytes e.1)) (lookup (nat_eq k) (named es))) ≡ is_some (cond b (Some e.1) (lookup (nat_eq k) es))
    by true h = refl
    by false h = h
