-- Which builds give to a link: those that imports reach.
use Rattle.std.specs.Prelude.{ℕ, ◌≡◌, Bool, false, ◌||◌, List, [], ◌∷◌, reverse, bytes_eq, if◌then◌else◌}
use Rattle.std.specs.List.{filter, list_any}
use Rattle.naga_oil_imports.specs.Uses.{Import}
use Rattle.naga_oil_link.specs.BuiltModule.{BuiltModule, Builds}
use Rattle.naga_oil_link.specs.Linked.{link_header, link_whole}

-- whether an import reaches a name in builds, the newest first: its build has the name, or one of that build's imports reaches it in
-- the builds before
unfoldable pub reaches : Builds → (name : List ℕ) → Import → Bool
reaches [] name i = false
reaches (e ∷ earlier) name i = if bytes_eq i.import e.0 then bytes_eq name e.0 || list_any (reaches earlier name) e.1.imports else reaches earlier name i

-- the builds that imports reach
abbrev pub reached_builds : Builds → List Import → Builds
reached_builds bs imports = filter (λ e. list_any (reaches (reverse bs) e.0) imports) bs

-- LAW: what is linked of builds is what is linked of those that are reached
pub record ReachedBuildsLaw : Type 0 where
  pub header : (bs : Builds) (imports : List Import) → link_header bs imports ≡ link_header (reached_builds bs imports) imports
  pub whole : (bs : Builds) (b : BuiltModule) → link_whole bs b ≡ link_whole (reached_builds bs b.imports) b
