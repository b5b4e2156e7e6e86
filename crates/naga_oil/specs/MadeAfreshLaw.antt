-- Law: a make builds what building it afresh gives, and of that it newly keeps what wasn't kept.
use Rattle.std.specs.Prelude.{◌≡◌, ℕ, List, ◌++◌}
use Rattle.naga_oil_registry.specs.Registered.{Registered}
use Rattle.naga_oil_registry.specs.Descriptor.{ShaderSource}
use Rattle.naga_oil_registry.specs.Registry.{IsRegistry}
use Rattle.naga_oil_build.specs.Held.{Settings}
use Rattle.naga_oil.specs.AfreshLaw.{AllStandAfresh}
use Rattle.naga_oil.specs.Answer.{answer}
use Rattle.naga_oil.specs.MakeDefs.{make_defs}
use Rattle.naga_oil.specs.NewlyKeptLaw.{with_keys, not_in}
use Rattle.naga_oil.specs.Store.{Kept, keep_builds}

-- LAW: each build of a make stands as it is built afresh under the definitions of the make, and none is built twice
abbrev pub MadeAfreshLaw : Type 0
MadeAfreshLaw = (s : Settings) (ds : List Registered) (counter : ℕ) (m : ShaderSource) → IsRegistry ds →
    AllStandAfresh s ds (make_defs ds counter m) (answer s ds counter m).builds

-- LAW: the builds of a make that aren't kept yet are kept after the kept ones, each once, in the order of building
abbrev pub MadeKeptLaw : Type 0
MadeKeptLaw = (s : Settings) (ds : List Registered) (counter : ℕ) (m : ShaderSource) (kept : Kept) → IsRegistry ds →
    keep_builds ds (make_defs ds counter m) kept (answer s ds counter m).builds ≡ kept ++ not_in kept (with_keys ds (make_defs ds counter m) (answer s ds counter m).builds)
