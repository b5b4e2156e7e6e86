-- Overridden functions, each with those that override it.
use Rattle.std.specs.Prelude.{ℕ, List, [], ◌∷◌, ◌++◌, fold, if◌then◌else◌, bytes_eq, Option, Some, None}
use Rattle.std.specs.Map.{lookup}
use Rattle.naga_oil_imports.specs.Uses.{Import}
use Rattle.naga_oil_words.specs.Texts.{is_among}
pub use Rattle.naga_oil_link.specs.BuiltModule.{overriding_of}
use Rattle.naga_oil_link.specs.BuiltModule.{BuiltModule, Overriding, Builds}

-- one more name at the end, unless it is there
abbrev pub with_new : List (List ℕ) → List ℕ → List (List ℕ)
with_new names name = if is_among names name then names else names ++ name ∷ []

-- one more function that overrides another, unless it is known
abbrev pub overridden : Overriding → (base name : List ℕ) → Overriding
overridden [] base name = (base, name ∷ []) ∷ []
overridden (o ∷ more) base name = if bytes_eq base o.0 then (o.0, with_new o.1 name) ∷ more else o ∷ overridden more base name

-- several more functions that override another
abbrev pub overridden_by : Overriding → (base : List ℕ) → (names : List (List ℕ)) → Overriding
overridden_by all base names = fold (λ all name. overridden all base name) all names

-- with all that is overridden in another build
abbrev pub with_overriding : Overriding → Overriding → Overriding
with_overriding all others = fold (λ all o. overridden_by all o.0 o.1) all others

-- the build of a name
abbrev pub build_named : Builds → List ℕ → Option BuiltModule
build_named builds name = lookup (λ n. bytes_eq name n) builds

abbrev pub with_build : Overriding → Option BuiltModule → Overriding
with_build all None = all
with_build all (Some b) = with_overriding all b.overriding

-- with all that is overridden in the builds of imports, one after another
abbrev pub imported_overriding : Builds → Overriding → List Import → Overriding
imported_overriding builds all imports = fold (λ all i. with_build all (build_named builds i.import)) all imports
