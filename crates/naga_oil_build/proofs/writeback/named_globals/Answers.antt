use Rattle.std.proofs.Common.{◌≡◌, List, Some, Vec, Global, length, map, slice_get, refl, sym, ap, ◌∙◌}
use Rattle.std.proofs.lemmas.Option.{slice_get_read}
use Rattle.naga_oil_ir.specs.Rows.{Row, global_row}
use Rattle.naga_oil_ir.specs.declared.span.Span.{Span}
use Rattle.naga_oil_ir.specs.declared.types.GlobalVariable.{GlobalVariable}
use Rattle.naga_oil_build.specs.WritebackView.{named_of}
use Rattle.naga_oil_build.specs.declared.writeback.NamedItem.{NamedItem}
use Rattle.naga_oil_build.proofs.WritebackLemmas.{item_named, item_unnamed}
use Rattle.naga_oil_build.proofs.writeback.named_globals.Goals.{then-is_asked+in_ok-push_named, else-is_asked}
use Rattle.naga_oil_build.proofs.writeback.named_globals.Goals as goal

pub loop-place-preserved : goal.loop-place-preserved
loop-place-preserved c =
    let row : GlobalVariable × Span → Row × Span = λ e. (global_row e.0, e.1) in
    let of = c.args.of.now in
    let xs = c.as_slice-item-items.result.now in
    let i = c.loop-place.place in
    let x = c.item-item.result in
    let there : slice_get of i ≡ Some x = ap (λ (ys : List (GlobalVariable × Span)). slice_get ys i) (sym c.as_slice-item-items.ensures) ∙ slice_get_read xs (length xs) i x refl c.loop-place-test.true c.item-item.is in
    let items = map named_of c.loop-place.items.items in
    elim c.if-is_asked.branch [
      | then-is_asked+in_ok-push_named w ↦ item_named row c.args.at of i x there items (map named_of c.if-is_asked.items.items) (sym c.is_asked.ensures ∙ w.if-is_asked.true) c.loop-place.invariant (ap (λ (v : Vec NamedItem Global). map named_of v.items) w.items-is ∙ w.in_ok-push_named.ensures)
      | else-is_asked w ↦ ap (λ (v : Vec NamedItem Global). map named_of v.items) w.items-is ∙ item_unnamed row c.args.at of i x there items (sym c.is_asked.ensures ∙ w.if-is_asked.false) c.loop-place.invariant
    ]
