use Rattle.std.proofs.Common.{◌≡◌, length, map, slice_get, refl, option_map, None, Some, rules, arith}
use Rattle.std.proofs.lemmas.Grind.{common_steps}
use Rattle.std.proofs.lemmas.Option.{slice_get_read, slice_get_past, slice_get-map}
use Rattle.yettuvam_wgsl_pieces.specs.Pieces.{piece_of}
use Rattle.yettuvam_wgsl_write_expressions.proofs.context.push_text_in.Goals as goal

pub returns-in-Some : goal.returns-in-Some
returns-in-Some c =
    let types = c.args.types.now in
    let l = c.in-Some.ensures.lookup in
    let at = slice_get_read types (length types) c.args.ty c.in-Some.pieces.now refl l.3.0 l.1 in
    rw (slice_get-map (λ v. map piece_of v.items) types c.args.ty, at) (first_of (search rules, grind (arith, common_steps)))

pub returns-in-None : goal.returns-in-None
returns-in-None c =
    let types = c.args.types.now in
    rw (slice_get-map (λ v. map piece_of v.items) types c.args.ty, slice_get_past types c.args.ty c.in-None.ensures.lookup.3) refl
