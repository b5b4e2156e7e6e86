-- What the steps of a build return.
use Rattle.std.proofs.Common.{◌≡◌, ◌++◌, List, map, Ok, refl}
use Rattle.naga_oil_imports.specs.Uses.{Use}
use Rattle.naga_oil_conditions.specs.Fault.{Definitions}
use Rattle.naga_oil_pre.specs.Preprocessed.{Output, preprocessed}
use Rattle.naga_oil_build.specs.Built.{preprocessed_of}
use Rattle.naga_oil_registry.specs.Registered.{Registered}
use Rattle.naga_oil_registry.specs.Merged.{used_at_start}

pub is_preprocessed : (defs : Definitions) (d : Registered) (out : Output) (uses : List Use) → preprocessed defs d.source ≡ Ok out → uses ≡ out.uses ++ map used_at_start d.additional
    → preprocessed_of defs d ≡ Ok (record { text = out.text; uses = uses })
is_preprocessed defs d out uses e u = rw (e, u) refl
