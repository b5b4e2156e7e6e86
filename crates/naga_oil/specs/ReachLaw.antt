-- What the builds of a make depend on.
use Rattle.std.specs.Prelude.{◌≡◌, List, ℕ, true, Some}
use Rattle.naga_oil_words.specs.Texts.{is_among}
use Rattle.naga_oil_pre.specs.Recorded.{AgreeOn}
use Rattle.naga_oil_registry.specs.Registered.{Registered, Defs}
use Rattle.naga_oil_registry.specs.Registry.{IsRegistry, module_named, reaches, registered}
use Rattle.naga_oil_link.specs.BuiltModule.{Builds}
use Rattle.naga_oil_build.specs.Held.{Settings}
use Rattle.naga_oil.specs.Reach.{defined, reach}

-- two definitions have one projection on the effective names of a module: they define each of these names alike, or both not
abbrev pub HaveOneProjection : Registered → Defs → Defs → Type 0
HaveOneProjection m d e = AgreeOn (is_among m.effective) (defined d) (defined e)

-- LAW: the build of a module, or the fault in its place, depends on the definitions only through their projection
abbrev pub ProjectionLaw : Type 0
ProjectionLaw = (s : Settings) (ds : List Registered) (name : List ℕ) (m : Registered) (d e : Defs) (builds : Builds) →
    IsRegistry ds → module_named name ds ≡ Some m → HaveOneProjection m d e → reach s d ds name builds ≡ reach s e ds name builds

-- each module that a name reaches in one registry is registered alike in the other
abbrev pub AreRegisteredAlike : (ds es : List Registered) → (name : List ℕ) → Type 0
AreRegisteredAlike ds es name = (other : List ℕ) → reaches ds name other ≡ true → module_named other es ≡ module_named other ds

-- LAW: the build of a module, or the fault in its place, depends on the registry only through the modules that it reaches
abbrev pub RegistryLaw : Type 0
RegistryLaw = (s : Settings) (defs : Defs) (ds es : List Registered) (name : List ℕ) (builds : Builds) →
    IsRegistry ds → IsRegistry es → registered name ds ≡ true → AreRegisteredAlike ds es name → reach s defs ds name builds ≡ reach s defs es name builds
