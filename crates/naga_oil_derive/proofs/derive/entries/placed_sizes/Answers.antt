use Rattle.std.proofs.Common.{◌≡◌, ◌∙◌, ℕ, List, Option, Some, map, option_map, ap, sym, length, arith, rules}
use Rattle.naga_oil_derive.specs.CopiedEntry.{place_expression}
use Rattle.naga_oil_derive.specs.DerivedView.{source_of}
use Rattle.naga_oil_derive.proofs.EntryValues.{three_placed}
use Rattle.naga_oil_derive.proofs.derive.entries.placed_sizes.Goals as goal

pub returns : goal.returns
returns c =
    let long : length c.in_ok-sizes.sizes ≡ 3 = omega arith in
    λ s. (let f = place_expression (Some (source_of c.args.maps.now s)) in
    let is : c.args.sizes ≡ Some c.in_ok-sizes.sizes = search rules in
    ap Some (three_placed f c.in_ok-sizes.sizes c.index-sizes-0.result c.index-sizes-1.result c.index-sizes-2.result _ _ _ long c.index-sizes-0.is c.index-sizes-1.is c.index-sizes-2.is (c.placed_expression-x.ensures s ∙ ap f (sym c.index-sizes-0.is)) (c.placed_expression-y.ensures s ∙ ap f (sym c.index-sizes-1.is)) (c.placed_expression-z.ensures s ∙ ap f (sym c.index-sizes-2.is))) ∙ ap (λ (o : Option (List (Option ℕ))). option_map (map f) o) (sym is))
