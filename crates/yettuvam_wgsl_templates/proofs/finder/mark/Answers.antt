use Rattle.std.proofs.Common.{◌<◌, length, rules, refl, arith}
use Rattle.std.proofs.lemmas.Grind.{common_steps}
use Rattle.yettuvam_wgsl_templates.proofs.Marks.{marks}
use Rattle.yettuvam_wgsl_templates.proofs.finder.mark.Goals as goal

pub returns-then-place-len : goal.returns-then-place-len
returns-then-place-len c =
    let below : c.args.place < length c.args.tokens.now.items = first_of (search rules, grind (arith, common_steps)) in
    marks c.args.tokens.now.items c.args.place c.index-token.result.now _ below c.index-token.ensures refl
