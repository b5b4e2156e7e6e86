use Rattle.std.proofs.Common.{◌≤◌, ◌∙◌, ap, sym, refl, arith, ◌-◌}
use Rattle.std.specs.List.{flat_map}
use Rattle.naga_oil_form.specs.Links.{lists, linked, added}
use Rattle.naga_oil_form.specs.BodyForm.{run}
use Rattle.naga_oil_walk.specs.Walk.{externals}
use Rattle.naga_oil_walk.proofs.WalkLemmas.{added-externals, flat_run}
use Rattle.naga_oil_walk.specs.Naming.{requests_at}
use Rattle.naga_oil_walk.proofs.ReachSteps.{run_none, adds_start, adds_externals}
use Rattle.naga_oil_walk.proofs.function_walk.add_all_externals.Goals as goal

pub loop-place-preserved : goal.loop-place-preserved
loop-place-preserved c =
    let ls = lists c.args.of.now.links.items in
    let ks = c.args.of.now.kinds.items in
    let o = c.args.walk.now.places.items in
    let a = c.args.range.0 in
    let k = c.loop-place.place in
    let l : a ≤ k = omega arith in
    record {
      so_far = c.in_ok-add_externals.ensures.order ∙ ap (λ p. added p (externals ks (linked ls k))) c.loop-place.invariant.so_far ∙ added-externals ks o (flat_map (linked ls) (run a (k - a))) (linked ls k) ∙ ap (λ xs. added o (externals ks xs)) (flat_run (linked ls) a k l);
      emitted = c.add_externals.ensures.emitted ∙ c.loop-place.invariant.emitted;
      requests = adds_externals ks ls (requests_at c.args.of.now.named.items) c.args.walk.now.requests.items c.loop-place.walk.requests.items c.add_externals.new.walk.requests.items a k l c.loop-place.invariant.requests c.in_ok-add_externals.ensures.requests;
      over = c.in_ok-add_externals.ensures.over;
    }

pub loop-place-init : goal.loop-place-init
loop-place-init c =
    let ls = lists c.args.of.now.links.items in
    let ks = c.args.of.now.kinds.items in
    let a = c.args.range.0 in
    let k = c.start-place.result in
    record {
      so_far = ap (λ xs. added c.args.walk.now.places.items (externals ks (flat_map (linked ls) xs))) (sym (run_none a k c.start-place.ensures));
      emitted = refl;
      requests = adds_start (λ xs. flat_map (requests_at c.args.of.now.named.items) (externals ks (flat_map (linked ls) xs))) c.args.walk.now.requests.items a k c.start-place.ensures refl;
      over = c.requires.over;
    }
