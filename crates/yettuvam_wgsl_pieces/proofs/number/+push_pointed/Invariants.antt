use Rattle.yettuvam_wgsl_pieces.proofs.number.+push_pointed.Given as goal

abbrev pub decreases-push_pointed : goal.decreases-push_pointed
decreases-push_pointed l = l.places
