-- What a call gives that tests the form, by the value of the test.
use Rattle.std.proofs.Common.{◌≡◌, Bool, true, false, cond, Option, Some, None, Result, Ok, Err, OnOk, IfErr, Decides, refl, ap}
use Rattle.naga_oil_form.specs.declared.check_form.FormFault.{FormFault}
use Rattle.naga_oil_form.specs.declared.check_form.FormFault.TheVariants.{WrongForm, Memory}
use Rattle.naga_oil_form.specs.FormView.{GivesFormed}

-- what a call reports of a test
abbrev pub told_by : Bool → Option (Unit {0})
told_by b = cond b (Some tt) None

-- by what a call reports of the form
pub given_by : {P : Type 0} (r : Result (Unit {0}) FormFault) (b : Bool) → Decides b P → OnOk r P → IfErr r (λ e. e ≡ WrongForm → P → ⊥) → GivesFormed (λ done. done) r (told_by b)
given_by (Ok x) b d ok err = ap told_by (d.1 ok)
given_by (Err WrongForm) true d ok err = absurd (err refl (d.0 refl))
given_by (Err WrongForm) false d ok err = refl
given_by (Err Memory) b d ok err = tt
