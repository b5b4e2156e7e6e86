use Rattle.std.proofs.Common.{◌≡◌, take}
use Rattle.naga_oil_form.specs.WellFormed.{initialisers_of}
use Rattle.naga_oil_form.proofs.form_function.initialisers.Given as goal

abbrev pub invariant-loop-local : goal.invariant-loop-local
invariant-loop-local l = l.inits.items ≡ initialisers_of (take l.local-index l.locals)
