-- What the error of a refused call reports.
use Rattle.std.proofs.Common.{◌≡◌, Option, Some, None, MatchOption, option_map, refl}
use Rattle.naga_oil_conditions.specs.Fault.{Fault}
use Rattle.naga_oil_conditions.specs.View.{fault_of}
use Rattle.naga_oil_conditions.specs.declared.fault.ComposerErrorInner.{ComposerErrorInner}
use Rattle.naga_oil_conditions.specs.declared.fault.ComposerErrorInner.TheVariants as code
use Rattle.naga_oil.specs.Refused.{Refused, Place}

pub tells_nothing : (o : Option Refused) (P : Type 0) (Q : Refused → Type 0) → o ≡ None → P → MatchOption o P Q
tells_nothing None P Q e h = h
tells_nothing (Some r) P Q e h = absurd cc

pub none_is_memory : (e : ComposerErrorInner) → fault_of e ≡ None → e ≡ code.Memory
none_is_memory code.Memory h = refl
none_is_memory e h = absurd cc

pub tells_fault : (o : Option Fault) (here place : Place) (P : Type 0) → (o ≡ None → P) → here ≡ place → MatchOption (option_map (λ f. record { fault = f; place = here }) o) P (λ (r : Refused). (o ≡ Some r.fault) × (r.place ≡ place))
tells_fault None here place P h e = h refl
tells_fault (Some f) here place P h e = (refl, e)
