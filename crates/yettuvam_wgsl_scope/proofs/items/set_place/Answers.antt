use Rattle.yettuvam_wgsl_scope.proofs.Places.{place_put}
use Rattle.yettuvam_wgsl_scope.proofs.items.set_place.Goals as goal

pub returns : goal.returns
returns c = place_put c.args.name c.args.names.now c.insert.new.self c.args.place c.in_ok-insert.ensures.updates
