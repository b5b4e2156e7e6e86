-- Faults, and what steps return.
use Rattle.std.specs.Prelude.{◌≡◌, Some, None, Result, Ok, Err}
use Rattle.yettuvam_wgsl_words.specs.declared.token.Span.{Span}
use Rattle.yettuvam_wgsl_scope.specs.declared.refusal.Fault.{Fault}
use Rattle.yettuvam_wgsl_scope.specs.declared.refusal.Reason.{Reason}
use Rattle.yettuvam_wgsl_scope.specs.declared.refusal.Refusal.{Refusal}
use Rattle.yettuvam_wgsl_scope.specs.declared.refusal.Refusal.TheVariants as refusal

-- a fault at a span
abbrev pub fault : Reason → Span → Fault
fault why at = record { reason = why; span = at; first = None }

-- a fault at a span that has to do with an earlier one
abbrev pub fault_after : Reason → Span → Span → Fault
fault_after why at before = record { reason = why; span = at; first = Some before }

-- a value with the state after it, or a fault
abbrev pub Outcome : Type 0 → Type 0 → Type 0
Outcome S A = Result (A × S) Fault

infixl 10 ◌>>=◌
abbrev pub ◌>>=◌ : {S A B : Type 0} → Outcome S A → (A → S → Outcome S B) → Outcome S B
(Ok p) >>= f = f p.0 p.1
(Err e) >>= f = Err e

abbrev pub done : {S : Type 0} → S → Outcome S (Unit {0})
done s = Ok (tt, s)

-- what a step ensures: its outcome, unless memory ran out
abbrev pub Reads : {S A : Type 0} → Outcome S A → Result A Refusal → S → Type 0
Reads outcome (Ok a) new = outcome ≡ Ok (a, new)
Reads outcome (Err (refusal.Fault f)) new = outcome ≡ Err f
Reads outcome (Err refusal.Memory) new = Unit {0}

-- what a function returned, seen by view, is the value or the fault, unless memory ran out
abbrev pub Gives : {X Y : Type 0} → (X → Y) → Result X Refusal → Result Y Fault → Type 0
Gives view (Ok x) expected = expected ≡ Ok (view x)
Gives view (Err (refusal.Fault f)) expected = expected ≡ Err f
Gives view (Err refusal.Memory) expected = Unit {0}
