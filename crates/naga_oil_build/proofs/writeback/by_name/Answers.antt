use Rattle.std.proofs.Common.{◌+◌, ◌∷◌, map, drop, refl, sym, ap, ◌∙◌, arith}
use Rattle.std.proofs.lemmas.List.{at_drop_more}
use Rattle.std.specs.Option.{option_or}
use Rattle.naga_oil_build.specs.Writeback.{last_named}
use Rattle.naga_oil_build.specs.WritebackView.{named_of, held}
use Rattle.naga_oil_build.proofs.WritebackLemmas.{held_more}
use Rattle.naga_oil_build.proofs.writeback.by_name.Goals as goal

pub loop-item-preserved : goal.loop-item-preserved
loop-item-preserved c =
    let i = c.loop-item.item-index in
    let items = c.args.items.now in
    λ name. held_more c.loop-item.back c.insert.new.self c.item-item.result.name c.item-item.result (map named_of (drop (i + 1) items)) refl c.in_ok-insert.ensures.updates name
    ∙ ap (λ x. option_or (last_named (map named_of (x ∷ drop (i + 1) items)) name) (held c.loop-item.back name)) c.item-item.is
    ∙ sym (at_drop_more (λ xs. option_or (last_named (map named_of xs) name) (held c.loop-item.back name)) items i c.item-item.result (omega arith))
    ∙ c.loop-item.invariant name
