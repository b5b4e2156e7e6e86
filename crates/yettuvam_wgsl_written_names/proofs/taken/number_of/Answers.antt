use Rattle.std.proofs.Common.{sym, ◌∙◌}
use Rattle.yettuvam_wgsl_written_names.proofs.Numbers.{number_is}
use Rattle.yettuvam_wgsl_written_names.proofs.taken.number_of.Goals as goal

pub returns : goal.returns
returns c = c.copied.ensures ∙ c.get.ensures.value ∙ sym (number_is c.args.numbers.now c.args.name.now)
