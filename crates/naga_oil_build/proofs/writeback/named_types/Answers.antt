use Rattle.std.proofs.Common.{◌≡◌, ◌++◌, ◌∷◌, [], ℕ, List, Some, None, get_or, string_bytes, Vec, Global, length, map, slice_get, unwrap_or, option_map, refl, sym, ap, ◌∙◌}
use Rattle.std.proofs.lemmas.Option.{slice_get_read}
use Rattle.naga_oil_ir.specs.Rows.{Row, type_row}
use Rattle.naga_oil_ir.specs.Spans.{undefined}
use Rattle.naga_oil_ir.specs.declared.span.Span.{Span}
use Rattle.naga_oil_ir.specs.declared.types.Type.{«Type» as TypeOfShader}
use Rattle.naga_oil_link.proofs.PlaceLemmas.{types_named}
use Rattle.naga_oil_build.specs.Writeback.{named_item}
use Rattle.naga_oil_build.specs.WritebackView.{named_of}
use Rattle.naga_oil_build.specs.declared.writeback.NamedItem.{NamedItem}
use Rattle.naga_oil_build.proofs.WritebackLemmas.{type_there, item_named, item_unnamed}
use Rattle.naga_oil_build.proofs.writeback.named_types.Goals.{then-is_asked+in_ok-push_named, else-is_asked}
use Rattle.naga_oil_build.proofs.writeback.named_types.Goals as goal

pub loop-place-preserved : goal.loop-place-preserved
loop-place-preserved c =
    let row : TypeOfShader × Span → Row × Span = λ e. (type_row e.0, e.1) in
    let span_at : ℕ → Span = λ k. unwrap_or (option_map (λ (e : TypeOfShader × Span). e.1) (slice_get c.args.of.now k)) undefined in
    let of = c.args.of.now in
    let ts = c.items-ty-items.result.now in
    let i = c.loop-place.place in
    let ty = c.ty-item.result in
    let span : Span = span_at i in
    let named : slice_get (map (λ (e : TypeOfShader × Span). e.0) of) i ≡ Some ty = ap (λ (ys : List TypeOfShader). slice_get ys i) (sym c.items-ty-items.ensures.items) ∙ slice_get_read ts (length ts) i ty refl c.loop-place-test.true c.ty-item.is in
    let there : slice_get of i ≡ Some (ty, span) = type_there of i ty span named refl in
    let items = map named_of c.loop-place.items.items in
    elim c.if-is_asked.branch [
      | then-is_asked+in_ok-push_named w ↦
          let name : option_map string_bytes ty.name ≡ (type_row ty).label.name = ap (λ ns. get_or ns 0 None) (sym (types_named ((ty, span) ∷ []))) in
          let at : w.get_span-span.result ≡ span = w.get_span-span.ensures ∙ ap span_at w.new.ensures in
          item_named row c.args.at of i (ty, span) there items (map named_of c.if-is_asked.items.items) (sym c.is_asked.ensures ∙ w.if-is_asked.true) c.loop-place.invariant (ap (λ (v : Vec NamedItem Global). map named_of v.items) w.items-is ∙ w.in_ok-push_named.ensures ∙ (λ j. map named_of c.loop-place.items.items ++ named_item (name j) (w.members.ensures j) (at j)))
      | else-is_asked w ↦ ap (λ (v : Vec NamedItem Global). map named_of v.items) w.items-is ∙ item_unnamed row c.args.at of i (ty, span) there items (sym c.is_asked.ensures ∙ w.if-is_asked.false) c.loop-place.invariant
    ]
