use Rattle.std.proofs.Common.{◌≡◌, drop}
use Rattle.naga_oil_redirect.specs.Redirected.{function_values, found, found_from}
use Rattle.naga_oil_redirect.proofs.redirect.Redirector.find.Given as goal

abbrev pub invariant-loop-place : goal.invariant-loop-place
invariant-loop-place l = found_from l.place l.name (drop l.place (function_values l.functions)) ≡ found l.name (function_values l.functions)
