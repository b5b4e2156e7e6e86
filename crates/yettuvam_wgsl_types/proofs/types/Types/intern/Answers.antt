use Rattle.std.proofs.Common.{refl}
use Rattle.yettuvam_wgsl_types.specs.Types.{intern}
use Rattle.yettuvam_wgsl_types.proofs.Same.{place_same, put_same}
use Rattle.yettuvam_wgsl_types.proofs.types.Types.intern.Goals as goal

pub returns : goal.returns
unfolding intern
returns c =
    let x = c.index.ensures in
    let p = c.in_ok-place.ensures.place in
    let i = c.in_ok-place.ensures.items in
    let place = place_same c.args.ty c.args.self.now.types in
    let put = put_same c.args.ty c.args.at c.args.self.now.types in
    rw (x, p, i, place, put) refl
