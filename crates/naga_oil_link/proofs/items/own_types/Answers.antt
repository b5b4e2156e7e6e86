use Rattle.std.proofs.Common.{◌≡◌, ◌+◌, Some, drop, fold, length, option_map, slice_get, string_bytes, refl, ap, sym, ◌∙◌, arith}
use Rattle.std.proofs.lemmas.Option.{slice_get_read}
use Rattle.naga_oil_ir.specs.ModuleValue.{module_value}
use Rattle.naga_oil_words.specs.Texts.{texts}
use Rattle.naga_oil_link.specs.Owned.{is_own_type, item_names, with_own_type}
use Rattle.naga_oil_link.proofs.ByNameLemmas.{place_left, place_put}
use Rattle.naga_oil_link.proofs.PlaceLemmas.{type_named, types_left}
use Rattle.naga_oil_link.proofs.items.own_types.Goals as goal
use Rattle.naga_oil_link.proofs.items.own_types.Goals.{then-branch+in_ok-insert, else-branch}

pub loop-at-preserved : goal.loop-at-preserved
loop-at-preserved c =
    let of = c.args.of.now in
    let m = module_value of in
    let d = c.args.suffix.now in
    let names = item_names m.types in
    let ts = c.items-ty-items.result.now in
    let i = c.loop-at.at in
    let t = c.ty-item.result in
    let here : slice_get ts i ≡ Some t = slice_get_read ts (length ts) i t refl (omega arith) c.ty-item.is in
    let same = type_named of ts i t c.items-ty-items.ensures.items here in
    let own : is_own_type m (option_map string_bytes t.name) ≡ c.in_ok-own_type.field-0 = sym (c.in_ok-own_type.ensures.own m c.in_ok-special.ensures) in
    record {
      owned = ap (λ ns. fold (with_own_type m d) ns (drop (i + 1) names)) (c.in_ok-own_type.ensures.owned m c.in_ok-special.ensures) ∙ ap (fold (with_own_type m d) (texts c.loop-at.owned.keys)) (sym (types_left of ts i t c.items-ty-items.ensures.items here)) ∙ c.loop-at.invariant.owned;
      places = elim c.if-branch.branch [
        | then-branch+in_ok-insert w ↦ ap (λ p. p.keys) w.places-is ∙ w.in_ok-insert.ensures.keys ∙ place_put (is_own_type m) names i c.loop-at.places.keys (ap (is_own_type m) same ∙ own ∙ w.if-branch.true) c.loop-at.invariant.places
        | else-branch w ↦ ap (λ p. p.keys) w.places-is ∙ place_left (is_own_type m) names i c.loop-at.places.keys (ap (is_own_type m) same ∙ own ∙ w.if-branch.false) c.loop-at.invariant.places
      ];
    }
