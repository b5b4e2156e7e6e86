use Rattle.std.proofs.Common.{◌≡◌, map, string_bytes}
use Rattle.naga_oil_pre.proofs.ExtensionLemmas.{names_in}
use Rattle.naga_oil_pre.proofs.directives.extensions.Given as goal

abbrev pub invariant-loop-part : goal.invariant-loop-part
invariant-loop-part l = map string_bytes l.names.items ≡ names_in l.yielded
