-- Faults, and what tests return.
use Rattle.std.specs.Prelude.{◌≡◌, ℕ, List, [], ◌∷◌, Result, Ok, Err, codes}
use Rattle.naga_oil_ir.specs.Backend.{FaultValue}
use Rattle.naga_oil_ir.specs.declared.span.Span.{Span}
use Rattle.yettuvam_wgsl_valid_items.specs.declared.faults.Fault.{Fault}
use Rattle.yettuvam_wgsl_valid_items.specs.declared.faults.Invalid.{Invalid}
use Rattle.yettuvam_wgsl_valid_items.specs.declared.faults.Invalid.TheVariants as invalid
use Rattle.yettuvam_wgsl_valid_items.specs.declared.faults.Reason.{Reason}
use Rattle.yettuvam_wgsl_valid_items.specs.declared.faults.Reason.TheVariants as reason

-- the message of a fault
abbrev pub message : Reason → List ℕ
message reason.ArgumentCount = codes "wrong number of arguments"
message reason.BoundTwice = codes "two variables that an entry point uses have this binding"
message reason.NoReturn = codes "a function with a result must return a value"
message reason.Unbound = codes "an input or output of an entry point needs @location or @builtin"
message reason.NoPosition = codes "a vertex shader must return @builtin(position)"
message reason.ComputeResult = codes "a compute shader has no result"
message reason.SpaceBinding = codes "only uniform, storage, texture and sampler variables have @group and @binding"
message reason.NoLoop = codes "no loop or switch to leave, or no loop to continue"
message reason.ReturnInContinuing = codes "a continuing block has no return"
message reason.MemberTwice = codes "two members of this struct have the same name"
message reason.NoTypeOrValue = codes "a variable or an override needs a type or a value"
message reason.SpaceValue = codes "only variables in the address space private have a value"
message reason.IdTwice = codes "another override has the same @id"
message reason.NoDefault = codes "a switch needs a default"
message reason.ArmTwice = codes "two cases of a switch have the same value"
message reason.ValueCount = codes "wrong number of values for a struct or an array"
message reason.WrongStage = codes "the stage of this entry point has no such input or output"
message reason.SlotTwice = codes "two inputs or two outputs of an entry point have the same location or built-in value"
message reason.WorkgroupSize = codes "a compute shader needs a workgroup size above 0, and other shaders have none"

-- a fault as that of a front end
abbrev pub fault_value : Fault → FaultValue
fault_value f = record { message = message f.reason; spans = (f.span, []) ∷ []; notes = [] }

-- what a test finds: nothing, or the first fault
abbrev pub Outcome : Type 0
Outcome = Result (Unit {0}) Fault

abbrev pub valid : Outcome
valid = Ok tt

abbrev pub fault : Reason → Span → Outcome
fault why at = Err (record { reason = why; span = at })

-- the first fault of two tests
abbrev pub and_then : Outcome → Outcome → Outcome
and_then (Ok u) next = next
and_then (Err e) next = Err e

-- the first fault of the tests of a list
abbrev pub each_valid : {X : Type 0} → (X → Outcome) → List X → Outcome
each_valid f [] = valid
each_valid f (x ∷ xs) = and_then (f x) (each_valid f xs)

-- a test returned what it finds, unless memory ran out
abbrev pub Tests : Outcome → Result (Unit {0}) Invalid → Type 0
Tests outcome (Ok u) = outcome ≡ valid
Tests outcome (Err (invalid.Fault f)) = outcome ≡ Err f
Tests outcome (Err invalid.Memory) = Unit {0}
