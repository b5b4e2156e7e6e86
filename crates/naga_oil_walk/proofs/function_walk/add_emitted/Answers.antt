use Rattle.std.proofs.Common.{◌≡◌, ◌≤◌, ◌-◌, ◌∙◌, ◌++◌, ◌∷◌, [], List, ℕ, sym, ap, subst, refl, arith}
use Rattle.std.specs.List.{flat_map}
use Rattle.naga_oil_form.specs.Links.{lists, linked, added}
use Rattle.naga_oil_form.specs.BodyForm.{places, run}
use Rattle.naga_oil_walk.specs.Walk.{externals}
use Rattle.naga_oil_walk.proofs.WalkLemmas.{added-append, added-run}
use Rattle.naga_oil_walk.specs.Naming.{requests_at, Adds}
use Rattle.naga_oil_walk.proofs.NamingLemmas.{Adds-places}
use Rattle.naga_oil_walk.proofs.ReachSteps.{run_none, adds_start, adds_run}
use Rattle.naga_oil_walk.proofs.function_walk.add_emitted.Goals as goal

pub loop-place-preserved : goal.loop-place-preserved
loop-place-preserved c =
    let a = c.args.range.0 in
    let k = c.loop-place.place in
    let w = c.add_all_externals.new.walk in
    let l : a ≤ k = omega arith in
    record {
      so_far = c.in_ok-add.ensures.order ∙ ap (λ p. added p (k ∷ [])) c.loop-place.invariant.so_far ∙ added-run w.places.items a k l;
      emitted = c.add.ensures.emitted ∙ c.loop-place.invariant.emitted;
      requests = adds_run (requests_at c.args.of.now.named.items) w.requests.items c.loop-place.walk.requests.items c.add.new.walk.requests.items a k l c.loop-place.invariant.requests c.in_ok-add.ensures.requests;
      over = c.in_ok-add.ensures.over;
    }

pub loop-place-init : goal.loop-place-init
loop-place-init c =
    let a = c.args.range.0 in
    let k = c.start-place.result in
    let w = c.add_all_externals.new.walk in
    record {
      so_far = ap (added w.places.items) (sym (run_none a k c.start-place.ensures));
      emitted = refl;
      requests = adds_start (flat_map (requests_at c.args.of.now.named.items)) w.requests.items a k c.start-place.ensures refl;
      over = c.in_ok-add_all_externals.ensures.over;
    }

pub returns-clause-order : goal.returns-clause-order
returns-clause-order c =
    let ls = lists c.args.of.now.links.items in
    let ks = c.args.of.now.kinds.items in
    let a = c.args.range.0 in
    let w = c.add_all_externals.new.walk in
    let end : c.loop-place.place ≡ c.args.range.1 = omega (arith, c.requires.in_range.0, c.start-place.ensures, c.end-place-end.ensures, c.loop-place-test.false, c.loop-place.auto.place-end) in
    let whole : run a (c.loop-place.place - a) ≡ places c.args.range = ap (λ n. run a (n - a)) end in
    c.loop-place.invariant.so_far ∙ ap (added w.places.items) whole ∙ ap (λ p. added p (places c.args.range)) c.in_ok-add_all_externals.ensures.order ∙ sym (added-append c.args.walk.now.places.items (externals ks (flat_map (linked ls) (places c.args.range))) (places c.args.range))

pub returns-clause-requests : goal.returns-clause-requests
returns-clause-requests c =
    let ls = lists c.args.of.now.links.items in
    let a = c.args.range.0 in
    let w = c.add_all_externals.new.walk in
    let names = requests_at c.args.of.now.named.items in
    let end : c.loop-place.place ≡ c.args.range.1 = omega (arith, c.requires.in_range.0, c.start-place.ensures, c.end-place-end.ensures, c.loop-place-test.false, c.loop-place.auto.place-end) in
    let whole : run a (c.loop-place.place - a) ≡ places c.args.range = ap (λ n. run a (n - a)) end in
    let added_last = subst (λ (ps : List ℕ). Adds w.requests.items (flat_map names ps) c.loop-place.walk.requests.items) whole c.loop-place.invariant.requests in
    let xs = externals c.args.of.now.kinds.items (flat_map (linked ls) (places c.args.range)) in
    Adds-places names c.args.walk.now.requests.items w.requests.items c.loop-place.walk.requests.items xs (places c.args.range) (xs ++ places c.args.range) refl c.in_ok-add_all_externals.ensures.requests added_last
