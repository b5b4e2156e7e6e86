-- Worked rows: builds that stand alike.
use Rattle.std.specs.Prelude.{◌≡◌, refl, ℕ, Some, [], ◌∷◌, codes}
use Rattle.std.proofs.Common.{ap, rules}
use Rattle.std.proofs.lemmas.List.Elements.{All-cons, All-nil}
use Rattle.naga_oil_imports.specs.Uses.{Import}
use Rattle.naga_oil_link.specs.BuiltModule.{BuiltModule, Builds, nothing_built}
use Rattle.naga_oil.specs.LocalLaw.{newest, AlikeIn}

abbrev leaf : ℕ → BuiltModule
leaf index = nothing_built [] index

-- a module that imports a
abbrev of_a : Import
of_a = record { import = codes "a"; items = [] }

abbrev over_a : BuiltModule
over_a = record (nothing_built [] 2) { imports = of_a ∷ [] }

-- b over a, the newest first; and with others before, between and after these
abbrev short : Builds
short = (codes "b", over_a) ∷ (codes "a", leaf 1) ∷ []

abbrev long : Builds
long = (codes "z", leaf 9) ∷ (codes "b", over_a) ∷ (codes "y", leaf 8) ∷ (codes "a", leaf 1) ∷ (codes "x", leaf 7) ∷ []

-- b over another a
abbrev other : Builds
other = (codes "b", over_a) ∷ (codes "a", leaf 3) ∷ []

found : newest (codes "a") long ≡ Some (leaf 1, (codes "x", leaf 7) ∷ [])
found = refl

built_alike : AlikeIn short long (codes "a")
unfolding AlikeIn
built_alike = record { same = refl; imports = All-nil (λ i. AlikeIn [] ((codes "x", leaf 7) ∷ []) i.import) }

over_alike : AlikeIn short long (codes "b")
unfolding AlikeIn
over_alike = record { same = refl; imports = All-cons (λ i. AlikeIn ((codes "a", leaf 1) ∷ []) ((codes "y", leaf 8) ∷ (codes "a", leaf 1) ∷ (codes "x", leaf 7) ∷ []) i.import) of_a [] following (All-nil (λ i. AlikeIn ((codes "a", leaf 1) ∷ []) ((codes "y", leaf 8) ∷ (codes "a", leaf 1) ∷ (codes "x", leaf 7) ∷ []) i.import)) }
  where
    following : AlikeIn ((codes "a", leaf 1) ∷ []) ((codes "y", leaf 8) ∷ (codes "a", leaf 1) ∷ (codes "x", leaf 7) ∷ []) (codes "a")
    following = record { same = refl; imports = All-nil (λ i. AlikeIn [] ((codes "x", leaf 7) ∷ []) i.import) }

-- one build over imports that differ doesn't stand alike
over_another : AlikeIn short other (codes "b") → ⊥
unfolding AlikeIn
over_another h = let one : ◌≡◌ {A = ℕ} 1 3 = ap (λ (b : BuiltModule). b.index) (h.imports 0 of_a (search rules)).same in cc

-- a name that is built in neither stands alike, one that is built in only one doesn't
in_neither : AlikeIn short long (codes "c")
unfolding AlikeIn
in_neither = refl

in_second : AlikeIn short long (codes "z") → ⊥
unfolding AlikeIn
in_second h = cc

in_first : AlikeIn long short (codes "z") → ⊥
unfolding AlikeIn
in_first h = h
