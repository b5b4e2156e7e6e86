use Rattle.std.proofs.Common.{◌≡◌, map, take}
use Rattle.naga_oil_ir.specs.ModuleValue.{argument_value}
use Rattle.naga_oil_derive.specs.Functions.{argument_under}
use Rattle.naga_oil_derive.proofs.localized.renamed_arguments.Given as goal

abbrev pub invariant-loop-of : goal.invariant-loop-of
invariant-loop-of g l =
    map argument_value l.copies.items ≡ map (argument_under (g.R.Renaming.renames l.names)) (map argument_value (take l.of-index l.arguments))
