use Rattle.std.proofs.Common.{◌≡◌, length}
use Rattle.naga_oil_ir.specs.ModuleValue.{expression_values}
use Rattle.naga_oil_derive.specs.CopiedFunction.{expression_state, expressions_upto}
use Rattle.naga_oil_derive.specs.Went.{went}
use Rattle.naga_oil_derive.proofs.localized.copy_expressions.Given as goal

abbrev pub invariant-loop-at : goal.invariant-loop-at
invariant-loop-at l = record {
  room : length l.copies.table.items ≡ length l.source;
  state : expression_state l.copies.table.items l.copies.target ≡ expressions_upto (went l.fn.names) (expression_values l.source) l.walk.places.items l.walk.began l.at;
}
