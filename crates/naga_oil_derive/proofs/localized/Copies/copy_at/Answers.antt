use Rattle.std.proofs.Common.{◌≡◌, ◌∙◌, ap, get_or}
use Rattle.std.proofs.lemmas.Option.{get_or_from_slice_get}
use Rattle.naga_oil_ir.specs.Parts.{parts}
use Rattle.naga_oil_ir.specs.declared.span.Span.{Span}
use Rattle.naga_oil_ir.specs.declared.expression.Expression.{Expression}
use Rattle.naga_oil_derive.specs.World.{shifted}
use Rattle.naga_oil_derive.specs.Went.{went}
use Rattle.naga_oil_derive.specs.Copies.{Table, copied}
use Rattle.naga_oil_derive.proofs.localized.Copies.copy_at.Goals as goal

pub returns : goal.returns
returns c = λ s e.
    let xs = c.args.source.now in
    let k = c.args.place in
    let r = went c.args.names in
    let t = c.args.self.now.table.items in
    let moved = λ (x : Span). shifted c.args.names.maps.now.offset x in
    let entry : (x : Expression × Span) → get_or xs k x ≡ s = λ x. get_or_from_slice_get xs k s x e in
    let copy : parts c.in_ok-copy.copy ≡ copied r t (parts (get_or xs k c.index-source-place.result).0) = c.in_ok-copy.ensures ∙ ap (λ (u : Table). copied r u (parts (get_or xs k c.index-source-place.result).0)) c.deref.ensures.value in
    let span : c.span.result ≡ moved (get_or xs k c.index-source-place-2.result).1 = c.span.ensures in
    (copy ∙ ap (λ (x : Expression × Span). copied r t (parts x.0)) (entry c.index-source-place.result), span ∙ ap (λ (x : Expression × Span). moved x.1) (entry c.index-source-place-2.result))
