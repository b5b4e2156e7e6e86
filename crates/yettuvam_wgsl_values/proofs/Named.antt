-- Names of expressions as texts.
use Rattle.std.proofs.Common.{◌≡◌, ℕ, Bool, true, false, List, [], ◌∷◌, cond, nat_eq, refl, ap, Global}
use Rattle.std.specs.Prelude.{String, string_bytes}
use Rattle.indexmap.specs.IndexMap.{insert_entry}
use Rattle.yettuvam_wgsl_values.specs.Body.{named_view}

either : (b : Bool) (e : ℕ × String Global) (n : String Global) (es more : List (ℕ × String Global)) (more_names : List (ℕ × List ℕ)) → named_view more ≡ more_names
    → named_view (cond b ((e.0, n) ∷ es) (e ∷ more)) ≡ cond b ((e.0, string_bytes n) ∷ named_view es) ((e.0, string_bytes e.1) ∷ more_names)
either true e n es more more_names q = refl
either false e n es more more_names q = ap (λ t. (e.0, string_bytes e.1) ∷ t) q

pub named_more : (es : List (ℕ × String Global)) (h : ℕ) (n : String Global) → named_view (insert_entry nat_eq es h n) ≡ insert_entry nat_eq (named_view es) h (string_bytes n)
named_more [] h n = refl
named_more (e ∷ es) h n = either (nat_eq h e.0) e n es (insert_entry nat_eq es h n) (insert_entry nat_eq (named_view es) h (string_bytes n)) (named_more es h n)
