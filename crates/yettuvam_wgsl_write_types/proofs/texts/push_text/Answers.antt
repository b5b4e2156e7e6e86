use Rattle.std.proofs.Common.{◌≡◌, length, map, slice_get, refl, option_map, None, Some, rules, arith}
use Rattle.std.proofs.lemmas.Grind.{common_steps}
use Rattle.std.proofs.lemmas.Option.{slice_get_read, slice_get_past, slice_get-map}
use Rattle.yettuvam_wgsl_pieces.specs.Pieces.{piece_of}
use Rattle.yettuvam_wgsl_write_types.proofs.texts.push_text.Goals as goal

pub returns-in_ok-extend_from_slice-in-Some : goal.returns-in_ok-extend_from_slice-in-Some
returns-in_ok-extend_from_slice-in-Some c =
    let l = c.in-Some.ensures.lookup in
    let at = slice_get_read c.args.types.now (length c.args.types.now) c.args.place c.in-Some.pieces.now refl l.3.0 l.1 in
    rw (slice_get-map (λ v. map piece_of v.items) c.args.types.now c.args.place, at) (first_of (search rules, grind (arith, common_steps)))

pub returns-in-None : goal.returns-in-None
returns-in-None c = rw (slice_get-map (λ v. map piece_of v.items) c.args.types.now c.args.place, slice_get_past c.args.types.now c.args.place c.in-None.ensures.lookup.3) refl
