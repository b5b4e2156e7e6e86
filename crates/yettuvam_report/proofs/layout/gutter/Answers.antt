use Rattle.std.proofs.Common.{map, arith}
use Rattle.yettuvam_report.specs.Report.{mark_of}
use Rattle.yettuvam_report.proofs.TextLemmas.{gutter_least, gutter_of_none}
use Rattle.yettuvam_report.proofs.layout.gutter.Goals as goal

pub loop-rest-init : goal.loop-rest-init
loop-rest-init c = record { least = omega arith; same = omega (arith, gutter_least c.args.text.now (map mark_of c.args.marks.now)) }

pub returns : goal.returns
returns c = omega (arith, gutter_of_none c.args.text.now c.loop-rest.rest.now c.in_default.len_below, c.loop-rest.invariant.same, c.loop-rest.invariant.least)
