use Rattle.std.proofs.Common.{arith, ◌∙◌, ap, option_map, string_bytes, Some, slice_set}
use Rattle.std.specs.Vec.{with_item}
use Rattle.naga_oil_derive.specs.World.{shifted}
use Rattle.naga_oil_derive.proofs.CopyOneLemmas.{found, not_found, fits, type_absent}
use Rattle.naga_oil_derive.proofs.PutLemmas.{type_put}
use Rattle.naga_oil_derive.proofs.copy.Copying.copy_type.Goals as goal

pub index_mut-requires : goal.index_mut-requires
index_mut-requires c =
    let room = fits c.args.source.now.types c.args.self.now.maps.types c.args.handle c.in-Some.item.now (found _ _ c.in-Some.item c.get_handle.ensures c.in-Some.is) c.requires.long.types in
    let e = c.index.ensures in
    omega (arith, room, e)

pub returns-in_default-clause-put : goal.returns-in_default-clause-put
returns-in_default-clause-put c = absurd (type_absent c.args.source.now c.args.handle (not_found _ _ c.get_handle.ensures c.in_default.not-Some) c.requires.there)

pub returns-clause-put : goal.returns-clause-put
returns-clause-put c =
    type_put c.args.source.now c.args.self.now.target c.args.self.now.maps c.args.handle c.in-Some.item.now c.in_ok-copy.copy (option_map (λ n. Some (string_bytes n)) c.args.name) c.span-span.result c.in_ok-place.place c.insert.new.self (with_item c.args.self.now.maps.types c.index.result (Some c.in_ok-place.place)) (found _ _ c.in-Some.item c.get_handle.ensures c.in-Some.is) c.in_ok-copy.ensures (c.span-span.ensures ∙ ap (shifted c.args.self.now.maps.offset) c.get_span.ensures) c.in_ok-place.ensures.place c.in_ok-place.ensures.items (ap (λ i. slice_set c.args.self.now.maps.types.items i (Some c.in_ok-place.place)) c.index.ensures)
