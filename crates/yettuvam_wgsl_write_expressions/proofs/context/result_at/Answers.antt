use Rattle.std.proofs.Common.{Some, None, ap}
use Rattle.naga_oil_ir.specs.declared.module.Function.{Function}
use Rattle.yettuvam_wgsl_write_expressions.specs.Context.{result_by}
use Rattle.yettuvam_wgsl_write_expressions.proofs.Lent.{lent}
use Rattle.yettuvam_wgsl_write_expressions.proofs.context.result_at.Goals as goal

pub returns-in-Some : goal.returns-in-Some
returns-in-Some c = ap result_by (lent (λ (f : Function). f.result) c.args.context.now.of.now.functions c.args.place (Some c.in-Some.of) c.in-Some.ensures)

pub returns-in-None : goal.returns-in-None
returns-in-None c = ap result_by (lent (λ (f : Function). f.result) c.args.context.now.of.now.functions c.args.place None c.in-None.ensures)
