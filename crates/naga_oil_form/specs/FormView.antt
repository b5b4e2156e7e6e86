-- What a call gives that tests the form of modules.
use Rattle.std.specs.Prelude.{◌≡◌, Option, Some, None, Result, Ok, Err}
use Rattle.naga_oil_form.specs.declared.check_form.FormFault.{FormFault}
use Rattle.naga_oil_form.specs.declared.check_form.FormFault.TheVariants.{WrongForm, Memory}

-- the result, seen by the view, is the value; or wrong form if there is none; or out of memory
abbrev pub GivesFormed : {X Y : Type 0} → (X → Y) → Result X FormFault → Option Y → Type 0
GivesFormed view (Ok x) value = value ≡ Some (view x)
GivesFormed view (Err WrongForm) value = value ≡ None
GivesFormed view (Err Memory) value = Unit {0}
