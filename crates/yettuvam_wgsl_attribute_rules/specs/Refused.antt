-- Faults, and what tests and steps return.
use Rattle.std.specs.Prelude.{◌≡◌, Some, None, Result, Ok, Err}
use Rattle.yettuvam_wgsl_words.specs.declared.token.Span.{Span}
use Rattle.yettuvam_wgsl_attribute_rules.specs.declared.refusal.Fault.{Fault}
use Rattle.yettuvam_wgsl_attribute_rules.specs.declared.refusal.Reason.{Reason}
use Rattle.yettuvam_wgsl_attribute_rules.specs.declared.refusal.Refusal.{Refusal}
use Rattle.yettuvam_wgsl_attribute_rules.specs.declared.refusal.Refusal.TheVariants as refusal

-- what a test finds: nothing, or the first fault
abbrev pub Tested : Type 0
Tested = Result (Unit {0}) Fault

-- the test of what is right
abbrev pub right : Tested
right = Ok tt

-- the test of what is wrong at a span
abbrev pub refused : Reason → Span → Tested
refused why at = Err (record { reason = why; span = at; first = None })

-- the test of what is wrong at a span because of an earlier one
abbrev pub refused_after : Reason → Span → Span → Tested
refused_after why at before = Err (record { reason = why; span = at; first = Some before })

-- one test after the other: the first fault ends them
infixl 10 ◌>>=◌
abbrev pub ◌>>=◌ : {A B : Type 0} → Result A Fault → (A → Result B Fault) → Result B Fault
(Ok a) >>= f = f a
(Err e) >>= f = Err e

-- what a step ensures: the state after it, or its fault, unless memory ran out
abbrev pub Reads : {S : Type 0} → Result S Fault → Result (Unit {0}) Refusal → S → Type 0
Reads outcome (Ok u) new = outcome ≡ Ok new
Reads outcome (Err (refusal.Fault f)) new = outcome ≡ Err f
Reads outcome (Err refusal.Memory) new = Unit {0}

-- a call returned what a test finds, unless memory ran out
abbrev pub Tests : Tested → Result (Unit {0}) Refusal → Type 0
Tests outcome (Ok u) = outcome ≡ right
Tests outcome (Err (refusal.Fault f)) = outcome ≡ Err f
Tests outcome (Err refusal.Memory) = Unit {0}
