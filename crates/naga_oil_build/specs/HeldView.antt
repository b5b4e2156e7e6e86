-- The result of the test of form, as an error of the composer.
use Rattle.std.specs.Prelude.{◌≡◌, Result, Ok, Err}
use Rattle.naga_oil_form.specs.declared.check_form.FormFault.{FormFault}
use Rattle.naga_oil_form.specs.declared.check_form.FormFault.TheVariants as form
use Rattle.naga_oil_conditions.specs.declared.fault.ComposerErrorInner.{ComposerErrorInner}
use Rattle.naga_oil_conditions.specs.declared.fault.ComposerErrorInner.TheVariants as code

-- the same result, where a wrong form is an error of the composer
abbrev pub FormedAs : {X : Type 0} → Result X FormFault → Result X ComposerErrorInner → Type 0
FormedAs (Ok x) r = r ≡ Ok x
FormedAs (Err form.WrongForm) r = r ≡ Err code.WrongForm
FormedAs (Err form.Memory) r = r ≡ Err code.Memory
