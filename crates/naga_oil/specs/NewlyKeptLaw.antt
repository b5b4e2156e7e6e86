-- Law: a make newly keeps exactly those of its builds that weren't kept yet.
use Rattle.std.specs.Prelude.{◌≡◌, List, ◌++◌, filter, not, option_map}
use Rattle.std.specs.List.{filter_map}
use Rattle.naga_oil_registry.specs.Registered.{Registered, Defs}
use Rattle.naga_oil_link.specs.BuiltModule.{Builds}
use Rattle.naga_oil.specs.LocalLaw.{BuildsDiffer}
use Rattle.naga_oil.specs.Store.{Kept, key_named, is_kept, keep_builds}

-- the builds of a make with their keys under definitions, in the order of building
abbrev pub with_keys : List Registered → Defs → Builds → Kept
with_keys ds defs builds = filter_map (λ e. option_map (λ k. (k, e.1)) (key_named ds defs e.0)) builds

-- those that aren't kept yet
abbrev pub not_in : (kept more : Kept) → Kept
not_in kept more = filter (λ e. not (is_kept kept e.0)) more

-- LAW: the builds of a make, whose names differ, are kept after the kept ones, in order, without those that are kept already
abbrev pub NewlyKeptLaw : Type 0
NewlyKeptLaw = (ds : List Registered) (defs : Defs) (kept : Kept) (builds : Builds) →
    BuildsDiffer builds → keep_builds ds defs kept builds ≡ kept ++ not_in kept (with_keys ds defs builds)
