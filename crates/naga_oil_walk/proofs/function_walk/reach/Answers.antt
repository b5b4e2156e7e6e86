use Rattle.std.proofs.Common.{◌≡◌, ◌∙◌, ◌++◌, ◌∷◌, [], ℕ, List, Bool, Vec, Global, length, ap, sym, subst}
use Rattle.naga_oil_form.specs.Links.{lists, added, trail}
use Rattle.naga_oil_walk.specs.Waiting.{AreWaiting, Awaits, finish_all, names_left}
use Rattle.naga_oil_walk.specs.Naming.{requests_at, names_from, Adds}
use Rattle.naga_oil_walk.specs.declared.function_walk.Waiting.{Waiting}
use Rattle.naga_oil_walk.specs.declared.walk.Request.{Request}
use Rattle.naga_oil_walk.proofs.WalkLemmas.{trail-known}
use Rattle.naga_oil_walk.proofs.NamingLemmas.{known_names}
use Rattle.naga_oil_walk.proofs.ReachSteps.{ok_then, over_asked}
use Rattle.naga_oil_walk.proofs.WaitingLemmas.{finish_new, asks_new, waits_new}
use Rattle.naga_oil_walk.proofs.function_walk.reach.Goals as goal

-- ---- the place is listed

pub returns-in_default-clause-order : goal.returns-in_default-clause-order
returns-in_default-clause-order c =
    let of = c.args.of.now in
    let old = c.args.walk.now in
    let o = old.places.items in
    let k = c.args.place in
    let known = subst (Awaits of.named.items o old.requests.items c.awaited.new.walk.requests.items k) c.in_default.is c.in_ok-first.ensures.waits in
    ap (λ (q : Vec ℕ Global). q.items) c.awaited.ensures.places ∙ trail-known (lists of.links.items) o k c.requires.ready known.0

pub returns-in_default-clause-requests : goal.returns-in_default-clause-requests
returns-in_default-clause-requests c =
    let of = c.args.of.now in
    let ns = of.named.items in
    let ls = lists of.links.items in
    let o = c.args.walk.now.places.items in
    let rs = c.args.walk.now.requests.items in
    let k = c.args.place in
    let known = subst (Awaits ns o rs c.awaited.new.walk.requests.items k) c.in_default.is c.in_ok-first.ensures.waits in
    subst (λ (q : List Request). Adds rs (names_from ns ls k) q) (sym known.1) (known_names ns ls o rs c.requires.ready c.requires.over.covers k known.0)

-- ---- the place waits

pub list_waiting-requires-clause-over : goal.list_waiting-requires-clause-over
list_waiting-requires-clause-over c =
    let of = c.args.of.now in
    let old = c.args.walk.now in
    let k = c.args.place in
    let new = subst (Awaits of.named.items old.places.items old.requests.items c.awaited.new.walk.requests.items k) c.in-Some.is c.in_ok-first.ensures.waits in
    over_asked of old c.awaited.new.walk (requests_at of.named.items k) c.requires.over (ap (λ (q : Vec ℕ Global). q.items) c.awaited.ensures.places) (ap (λ (q : Vec Bool Global). length q.items) c.awaited.ensures.marks) new.2

pub list_waiting-requires-clause-waiting : goal.list_waiting-requires-clause-waiting
list_waiting-requires-clause-waiting c =
    let of = c.args.of.now in
    let old = c.args.walk.now in
    let p = c.awaited.new.walk.places.items in
    let ts = c.awaited.new.walk.requests.items in
    let k = c.args.place in
    let w = c.in-Some.first in
    let new = subst (Awaits of.named.items old.places.items old.requests.items ts k) c.in-Some.is c.in_ok-first.ensures.waits in
    let items : c.push.new.self.items ≡ w ∷ [] = c.in_ok-push.ensures.items ∙ ap (λ (ws : List Waiting). ws ++ w ∷ []) c.new-waiting.ensures.items in
    subst (AreWaiting of p ts) (sym items) (waits_new of p old.requests.items ts w k c.requires.in_range new.0 new.1 new.2, tt)

pub returns-clause-order : goal.returns-clause-order
returns-clause-order c =
    let of = c.args.of.now in
    let ls = lists of.links.items in
    let old = c.args.walk.now in
    let end = c.list_waiting.new.walk in
    let k = c.args.place in
    let w = c.in-Some.first in
    let o = old.places.items in
    let vs = c.push.new.self.items in
    let new = subst (Awaits of.named.items o old.requests.items c.awaited.new.walk.requests.items k) c.in-Some.is c.in_ok-first.ensures.waits in
    let items : vs ≡ w ∷ [] = c.in_ok-push.ensures.items ∙ ap (λ (ws : List Waiting). ws ++ w ∷ []) c.new-waiting.ensures.items in
    let same : finish_all ls c.awaited.new.walk.places.items vs ≡ added o (trail ls k) = ap (λ (q : Vec ℕ Global). finish_all ls q.items vs) c.awaited.ensures.places ∙ ap (finish_all ls o) items ∙ finish_new ls c.requires.over.earlier o w new.1 ∙ ap (λ n. added o (trail ls n)) new.0 in
    ok_then c.list_waiting.result (end.places.items ≡ finish_all ls c.awaited.new.walk.places.items vs) (end.places.items ≡ added o (trail ls k)) (λ e. e ∙ same) c.list_waiting.ensures.order

pub returns-clause-requests : goal.returns-clause-requests
returns-clause-requests c =
    let of = c.args.of.now in
    let ns = of.named.items in
    let ls = lists of.links.items in
    let old = c.args.walk.now in
    let rs = old.requests.items in
    let ts = c.awaited.new.walk.requests.items in
    let us = c.list_waiting.new.walk.requests.items in
    let k = c.args.place in
    let w = c.in-Some.first in
    let vs = c.push.new.self.items in
    let new = subst (Awaits ns old.places.items rs ts k) c.in-Some.is c.in_ok-first.ensures.waits in
    let items : vs ≡ w ∷ [] = c.in_ok-push.ensures.items ∙ ap (λ (ws : List Waiting). ws ++ w ∷ []) c.new-waiting.ensures.items in
    let asks = asks_new ns ls c.requires.over.earlier w k rs ts us new.0 new.1 new.2 in
    ok_then c.list_waiting.result (Adds ts (names_left ns ls vs) us) (Adds rs (names_from ns ls k) us) (λ a. asks (subst (λ (ws : List Waiting). Adds ts (names_left ns ls ws) us) items a)) c.list_waiting.ensures.requests
