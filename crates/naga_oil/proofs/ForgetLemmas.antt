-- The builds that are forgotten when modules are removed.
use Rattle.std.proofs.Common.{◌≡◌, ℕ, List, [], ◌∷◌, Bool, false, refl, ap, ◌∙◌}
use Rattle.naga_oil_registry.specs.Registered.{Registered}
use Rattle.naga_oil_registry.specs.Registry.{reaches, registered}
use Rattle.naga_oil_registry.proofs.RemovedLemmas.{reaches-unregistered}
use Rattle.naga_oil.specs.State.{forget_with}
use Rattle.naga_oil.specs.Store.{Kept, forget}

-- the same names are removed
pub forget_same : (f g : List ℕ → Bool) → ((other : List ℕ) → f other ≡ g other) → (kept : Kept) → forget f kept ≡ forget g kept
forget_same f g h kept = ap (λ (goes : List ℕ → Bool). forget goes kept) (λ i. λ other. h other i)

forget_none : (kept : Kept) → forget (λ other. false) kept ≡ kept
forget_none [] = refl
forget_none (e ∷ kept) = ap (λ xs. e ∷ xs) (forget_none kept)

-- nothing is removed with a module that isn't registered
pub forget_unknown : (ds : List Registered) (name : List ℕ) → registered name ds ≡ false → (kept : Kept) → forget_with ds name kept ≡ kept
forget_unknown ds name none kept = forget_same (λ other. reaches ds other name) (λ other. false) (λ other. reaches-unregistered name ds other none) kept ∙ forget_none kept
