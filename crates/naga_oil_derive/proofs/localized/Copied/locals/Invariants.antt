use Rattle.std.proofs.Common.{◌≡◌, map, take}
use Rattle.naga_oil_derive.specs.Functions.{local_under}
use Rattle.naga_oil_ir.specs.ModuleValue.{local_values}
use Rattle.naga_oil_derive.specs.Copies.{under_table, range_under}
use Rattle.naga_oil_derive.specs.Went.{went}
use Rattle.naga_oil_derive.proofs.localized.Copied.locals.Given as goal

abbrev pub invariant-loop-local : goal.invariant-loop-local
invariant-loop-local l = local_values l.copies ≡ map (local_under (under_table (went l.self.went) l.self.table.now (range_under l.self.emitted.now l.self.began l.self.merged l.self.count))) (local_values (take l.local-index l.locals))
