use Rattle.std.proofs.Common.{◌∙◌}
use Rattle.yettuvam_wgsl_types.proofs.Same.{member_place}
use Rattle.yettuvam_wgsl_types.proofs.types.place_of.Goals as goal

pub returns : goal.returns
returns c = c.first_named.ensures ∙ member_place c.args.name.now c.args.members.now
