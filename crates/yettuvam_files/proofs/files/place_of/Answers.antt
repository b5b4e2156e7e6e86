use Rattle.std.proofs.Common.{sym, ◌∙◌}
use Rattle.yettuvam_files.proofs.Places.{place_is}
use Rattle.yettuvam_files.proofs.files.place_of.Goals as goal

pub returns : goal.returns
returns c = c.copied.ensures ∙ c.get.ensures.value ∙ sym (place_is c.args.places.now c.args.name.now)
