use Rattle.naga_oil_conditions.specs.View.{fault_of}
use Rattle.naga_oil_registry.specs.Registered.{defs_of}
use Rattle.naga_oil.specs.Refused.{place_of, in_module}
use Rattle.naga_oil.proofs.RefusedLemmas.{tells_nothing, none_is_memory, tells_fault}
use Rattle.naga_oil.proofs.compose.error.refused_in.Goals as goal

pub returns-in-Memory : goal.returns-in-Memory
returns-in-Memory c = tells_nothing _ _ _ c.memory.ensures.told c.memory.ensures.place

pub returns-in-Ok : goal.returns-in-Ok
returns-in-Ok c = tells_fault (fault_of c.args.inner) (place_of c.in-Ok.source) (in_module c.args.name.now c.args.offset (defs_of c.args.defs.now)) _ (λ e. absurd (c.in_default.not-Memory (none_is_memory c.args.inner e))) c.in-Ok.ensures

pub returns-in-Err : goal.returns-in-Err
returns-in-Err c = tells_nothing _ _ _ c.memory-in-Err.ensures.told c.memory-in-Err.ensures.place
