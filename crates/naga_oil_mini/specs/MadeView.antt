-- The code of a make, seen by the words of `Made`.
use Rattle.std.specs.Prelude.{◌≡◌, ℕ, List, Option, Some, ⊤, String, string_bytes}
use Rattle.std.specs.Borrow.{Bor}
use Rattle.std.specs.declared.alloc.Global.{Global}
use Rattle.naga_oil_registry.specs.Registered.{Registered}
use Rattle.naga_oil_build.specs.BuildView.{settings_with}
use Rattle.naga_oil_build.specs.Held.{Settings}
use Rattle.naga_oil.specs.Refused.{Refused}
use Rattle.naga_oil.specs.Sources.{report_of}
use Rattle.naga_oil.specs.State.{State}
use Rattle.naga_oil_mini_front.specs.Front.{mini}
use Rattle.naga_oil_mini.specs.Made.{File, Modules}
use Rattle.naga_oil_mini.specs.declared.mini.refusal.Refusal.{Refusal}
use Rattle.naga_oil_mini.specs.declared.mini.refusal.Refusal.TheVariants.{Fault, Memory}

abbrev pub file_of : Bor (List ℕ) × String Global → File
file_of f = record { path = f.0.now; text = string_bytes f.1 }

-- the modules of a composer
abbrev pub modules_of : {B : Type 0} → State B → Modules
modules_of c = record { registry = c.registry; counter = c.counter }

-- its settings, over Mini
abbrev pub mini_settings : {B : Type 0} → State B → Settings
mini_settings c = settings_with (λ _. mini) c.settings

-- the refusal of an error over registered modules: its report, or out of memory
abbrev pub IsTold : List Registered → Option Refused → Refusal → Type 0
IsTold ds error (Fault report) = (r : Refused) × (error ≡ Some r) × (string_bytes report ≡ report_of ds r)
IsTold ds error Memory = ⊤
IsTold ds error e = ⊥
