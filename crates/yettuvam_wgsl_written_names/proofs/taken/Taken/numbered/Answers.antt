use Rattle.std.proofs.Common.{ap, ◌∙◌}
use Rattle.yettuvam_wgsl_written_names.specs.Taken.{has, numbered, taken_of}
use Rattle.yettuvam_wgsl_written_names.proofs.Free.{number_is_free}
use Rattle.yettuvam_wgsl_written_names.proofs.taken.Taken.numbered.Goals as goal

pub returns-clause-free : goal.returns-clause-free
returns-clause-free c =
    ap (has (taken_of c.args.self.now)) (c.in_ok-name.ensures ∙ ap (numbered c.args.base.now) c.in_ok-number.ensures.value)
    ∙ number_is_free (taken_of c.args.self.now) c.args.base.now c.in_ok-number.ensures.count
