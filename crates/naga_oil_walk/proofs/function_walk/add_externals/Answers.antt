use Rattle.std.proofs.Common.{ℕ, List, All, ◌<◌, ◌≡◌, length, take, get_or, ◌∙◌, sym, ap, ◌∷◌, [], arith, subst, refl, ◌+◌}
use Rattle.std.proofs.lemmas.List.{take_all}
use Rattle.naga_oil_form.specs.Links.{lists, linked, added}
use Rattle.naga_oil_form.specs.BodyForm.{is_external}
use Rattle.naga_oil_form.proofs.LinkLemmas.{linked-at}
use Rattle.naga_oil_walk.specs.declared.walk.Walk.{Walk}
use Rattle.naga_oil_walk.specs.Walk.{externals}
use Rattle.naga_oil_walk.specs.Walks.{IsOver}
use Rattle.naga_oil_walk.proofs.WalkLemmas.{externals-more, one_external, no_external}
use Rattle.std.specs.List.{flat_map}
use Rattle.naga_oil_walk.specs.Naming.{requests_at, Adds}
use Rattle.naga_oil_walk.proofs.NamingLemmas.{Adds-none}
use Rattle.naga_oil_walk.proofs.ReachSteps.{adds_external, adds_internal}
use Rattle.naga_oil_walk.proofs.function_walk.add_externals.Goals as goal
use Rattle.naga_oil_walk.proofs.function_walk.add_externals.Goals.{then-is_external+in_ok-add, else-is_external}

pub loop-operand-preserved : goal.loop-operand-preserved
loop-operand-preserved c =
    let ks = c.args.of.now.kinds.items in
    let xs = c.deref-operand-items.result.now in
    let i = c.loop-operand.operand-index in
    let x = get_or xs i 0 in
    let o = c.args.walk.now.places.items in
    let p = c.loop-operand.walk.places.items in
    let ns = c.args.of.now.named.items in
    let asked = c.args.walk.now.requests.items in
    let so_far : p ≡ added o (externals ks (take i xs)) = c.loop-operand.invariant.so_far in
    let is : c.is_external.result ≡ is_external ks x = c.is_external.ensures ∙ ap (λ l. is_external l x) c.deref.ensures.value in
    elim c.if-is_external.branch [ then-is_external+in_ok-add w ↦ record { so_far = ap (λ (v : Walk). v.places.items) w.walk-is ∙ w.in_ok-add.ensures.order ∙ one_external ks p x (sym is ∙ w.if-is_external.true) ∙ ap (λ q. added q (externals ks (x ∷ []))) so_far ∙ externals-more ks o xs i c.loop-operand-test.true; emitted = ap (λ (v : Walk). v.emitted) w.walk-is ∙ w.add.ensures.emitted ∙ c.loop-operand.invariant.emitted; requests = subst (λ (v : Walk). Adds asked (flat_map (requests_at ns) (externals ks (take (i + 1) xs))) v.requests.items) (sym w.walk-is) (adds_external ks (requests_at ns) asked c.loop-operand.walk.requests.items w.add.new.walk.requests.items xs i c.loop-operand-test.true (sym is ∙ w.if-is_external.true) c.loop-operand.invariant.requests w.in_ok-add.ensures.requests); over = subst (IsOver c.args.of.now) (sym w.walk-is) w.in_ok-add.ensures.over } | else-is_external w ↦ record { so_far = ap (λ (v : Walk). v.places.items) w.walk-is ∙ no_external ks p x (sym is ∙ w.if-is_external.false) ∙ ap (λ q. added q (externals ks (x ∷ []))) so_far ∙ externals-more ks o xs i c.loop-operand-test.true; emitted = ap (λ (v : Walk). v.emitted) w.walk-is ∙ c.loop-operand.invariant.emitted; requests = subst (λ (v : Walk). Adds asked (flat_map (requests_at ns) (externals ks (take (i + 1) xs))) v.requests.items) (sym w.walk-is) (adds_internal ks (requests_at ns) asked c.loop-operand.walk.requests.items xs i c.loop-operand-test.true (sym is ∙ w.if-is_external.false) c.loop-operand.invariant.requests); over = subst (IsOver c.args.of.now) (sym w.walk-is) c.loop-operand.invariant.over } ]

pub returns-clause-order : goal.returns-clause-order
returns-clause-order c =
    let ls = lists c.args.of.now.links.items in
    let xs = c.deref-operand-items.result.now in
    let i = c.loop-operand.operand-index in
    let e : take i xs ≡ linked ls c.args.place = take_all i xs (omega arith) ∙ (c.deref-operand-items.ensures.value ∙ sym (linked-at c.args.of.now.links.items c.args.place c.index.result.now c.requires.in_range c.index.ensures)) in
    c.loop-operand.invariant.so_far ∙ ap (λ ys. added c.args.walk.now.places.items (externals c.args.of.now.kinds.items ys)) e

pub loop-operand-init : goal.loop-operand-init
loop-operand-init c = record { so_far = refl; emitted = refl; requests = Adds-none c.args.walk.now.requests.items; over = c.requires.over }

pub returns-clause-requests : goal.returns-clause-requests
returns-clause-requests c =
    let ls = lists c.args.of.now.links.items in
    let xs = c.deref-operand-items.result.now in
    let i = c.loop-operand.operand-index in
    let e : take i xs ≡ linked ls c.args.place = take_all i xs (omega arith) ∙ (c.deref-operand-items.ensures.value ∙ sym (linked-at c.args.of.now.links.items c.args.place c.index.result.now c.requires.in_range c.index.ensures)) in
    subst (λ ys. Adds c.args.walk.now.requests.items (flat_map (requests_at c.args.of.now.named.items) (externals c.args.of.now.kinds.items ys)) c.loop-operand.walk.requests.items) e c.loop-operand.invariant.requests

pub add-requires-clause-in_range : goal.add-requires-clause-in_range
add-requires-clause-in_range c =
    let xs = c.deref-operand-items.result.now in
    let here : xs ≡ linked (lists c.args.of.now.links.items) c.args.place = c.deref-operand-items.ensures.value ∙ sym (linked-at c.args.of.now.links.items c.args.place c.index.result.now c.requires.in_range c.index.ensures) in
    let below = subst (λ (ys : List ℕ). All (λ x. x < c.args.place) ys) (sym here) (c.requires.over.earlier c.args.place) in
    let less : get_or xs c.loop-operand.operand-index 0 < c.args.place = below c.loop-operand.operand-index 0 c.loop-operand-test.true in
    let within : get_or xs c.loop-operand.operand-index 0 < length c.args.of.now.links.items = omega (arith, less, c.requires.in_range) in
    within
