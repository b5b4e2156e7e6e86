use Rattle.std.proofs.Common.{rules, ◌≡◌, ◌∙◌, ◌++◌, ◌∷◌, [], List, refl, ap, sym, subst}
use Rattle.naga_oil_form.specs.Links.{lists}
use Rattle.naga_oil_walk.specs.Naming.{Adds}
use Rattle.naga_oil_walk.specs.Waiting.{AreWaiting, AsksOn, finish_all, names_left}
use Rattle.naga_oil_walk.specs.declared.function_walk.Waiting.{Waiting}
use Rattle.naga_oil_walk.proofs.NamingLemmas.{Adds-none}
use Rattle.naga_oil_walk.proofs.WaitingLemmas.{finish_last}
use Rattle.naga_oil_walk.proofs.function_walk.list_waiting.Goals as goal

pub loop-top-init : goal.loop-top-init
loop-top-init c = record { so_far = refl; emitted = refl; ready = c.requires.ready; requests = λ us a. a; over = c.requires.over; waiting = c.requires.waiting }

pub list_next-requires-clause-waiting : goal.list_next-requires-clause-waiting
list_next-requires-clause-waiting c = subst (λ (ws : List Waiting). AreWaiting c.args.of.now c.loop-top.walk.places.items c.loop-top.walk.requests.items ws) c.in-Some.ensures.items c.loop-top.invariant.waiting

pub loop-top-preserved : goal.loop-top-preserved
loop-top-preserved c =
    let i = c.loop-top.invariant in
    let ns = c.args.of.now.named.items in
    let ls = lists c.args.of.now.links.items in
    let rest = c.pop.new.self.items in
    let vs = c.list_next.new.waiting.items in
    let e = c.in_ok-list_next.ensures in
    let before : c.loop-top.waiting.items ≡ rest ++ c.in-Some.top ∷ [] = c.in-Some.ensures.items in
    let asks = subst (λ (ws : List Waiting). AsksOn ns ls c.loop-top.walk.requests.items ws c.list_next.new.walk.requests.items vs) (sym before) e.requests in
    record {
      so_far = e.order ∙ sym (finish_last ls c.loop-top.walk.places.items rest c.in-Some.top) ∙ ap (finish_all ls c.loop-top.walk.places.items) (sym before) ∙ i.so_far;
      emitted = c.list_next.ensures.emitted ∙ i.emitted;
      ready = e.ready;
      requests = λ us a. i.requests us (asks us a);
      over = e.over;
      waiting = e.waiting;
    }

pub returns-clause-requests : goal.returns-clause-requests
returns-clause-requests c =
    let ns = c.args.of.now.named.items in
    let ls = lists c.args.of.now.links.items in
    let ts = c.loop-top.walk.requests.items in
    let none : c.loop-top.waiting.items ≡ [] = search rules in
    c.loop-top.invariant.requests ts (subst (λ (ws : List Waiting). Adds ts (names_left ns ls ws) ts) (sym none) (Adds-none ts))
