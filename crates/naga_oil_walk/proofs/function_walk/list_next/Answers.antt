use Rattle.std.proofs.Common.{◌≡◌, ◌<◌, ◌+◌, ◌∷◌, ◌++◌, ◌∙◌, ℕ, [], List, Vec, Global, Bool, length, ap, sym, subst, arith}
use Rattle.std.specs.List.{sum_by}
use Rattle.naga_oil_form.specs.Links.{lists, linked, added}
use Rattle.naga_oil_walk.specs.Walk.{IsReachOrder, Holds}
use Rattle.naga_oil_walk.specs.Walks.{IsOver}
use Rattle.naga_oil_walk.specs.Waiting.{AreWaiting, AsksOn, Awaits, finish, finish_all, steps}
use Rattle.naga_oil_walk.specs.Naming.{requests_at}
use Rattle.naga_oil_walk.specs.declared.function_walk.Waiting.{Waiting}
use Rattle.naga_oil_walk.specs.declared.walk.Request.{Request}
use Rattle.naga_oil_walk.proofs.WalkLemmas.{IsReachOrder-add}
use Rattle.naga_oil_walk.proofs.NamingLemmas.{known_names}
use Rattle.naga_oil_walk.proofs.ReachSteps.{ok_then, over_asked, over_list}
use Rattle.naga_oil_walk.proofs.WaitingLemmas.{next, left_next, none_left, finish_none, listed_gone, listed_more, asks_none, asks_gone, asks_more, waits_last, waits_listed, all_listed, gone_waits, more_waits, gone_fewer, more_fewer, operand_there, operand_at, operands_past}
use Rattle.naga_oil_walk.proofs.function_walk.list_next.Goals as goal

pub index-requires : goal.index-requires
index-requires c =
    let there = (waits_last c.args.of.now c.args.walk.now.places.items c.args.walk.now.requests.items c.args.waiting.now.items c.args.top c.requires.waiting).there in
    omega (arith, there)

-- ---- no operand is left

pub list-requires : goal.list-requires
list-requires c =
    let there = (waits_last c.args.of.now c.args.walk.now.places.items c.args.walk.now.requests.items c.args.waiting.now.items c.args.top c.requires.waiting).there in
    let long = c.requires.over.marks in
    omega (arith, there, long)

pub returns-in_default-clause-order : goal.returns-in_default-clause-order
returns-in_default-clause-order c =
    let of = c.args.of.now in
    let ls = lists of.links.items in
    let o = c.args.walk.now.places.items in
    let p = c.list.new.self.places.items in
    let top = c.args.top in
    let ws = c.args.waiting.now.items in
    let i = waits_last of o c.args.walk.now.requests.items ws top c.requires.waiting in
    let none = none_left ls top (operands_past of top c.index.result.now c.deref.result.now i.there c.index.ensures c.deref.ensures.value c.in_default.ensures.lookup.3) in
    ok_then c.list.result (p ≡ added o (top.place ∷ [])) (finish_all ls p ws ≡ finish_all ls (finish ls o top) ws) (λ e. ap (λ q. finish_all ls q ws) (e ∙ sym (finish_none ls o top none))) c.list.ensures.order

pub returns-in_default-clause-ready : goal.returns-in_default-clause-ready
returns-in_default-clause-ready c =
    let of = c.args.of.now in
    let ls = lists of.links.items in
    let o = c.args.walk.now.places.items in
    let p = c.list.new.self.places.items in
    let top = c.args.top in
    let rs = c.args.walk.now.requests.items in
    let i = waits_last of o rs c.args.waiting.now.items top c.requires.waiting in
    let past = operands_past of top c.index.result.now c.deref.result.now i.there c.index.ensures c.deref.ensures.value c.in_default.ensures.lookup.3 in
    let there : Holds o (linked ls top.place) = all_listed of o rs top i past in
    ok_then c.list.result (p ≡ added o (top.place ∷ [])) (IsReachOrder ls p) (λ e. subst (IsReachOrder ls) (sym e) (IsReachOrder-add ls o top.place c.requires.ready there)) c.list.ensures.order

pub returns-in_default-clause-requests : goal.returns-in_default-clause-requests
returns-in_default-clause-requests c =
    let of = c.args.of.now in
    let ls = lists of.links.items in
    let ns = of.named.items in
    let o = c.args.walk.now.places.items in
    let p = c.list.new.self.places.items in
    let rs = c.args.walk.now.requests.items in
    let ts = c.list.new.self.requests.items in
    let top = c.args.top in
    let ws = c.args.waiting.now.items in
    let i = waits_last of o rs ws top c.requires.waiting in
    let none = none_left ls top (operands_past of top c.index.result.now c.deref.result.now i.there c.index.ensures c.deref.ensures.value c.in_default.ensures.lookup.3) in
    ok_then c.list.result (p ≡ added o (top.place ∷ [])) (AsksOn ns ls rs (ws ++ top ∷ []) ts ws) (λ e. asks_none ns ls ws top rs ts none (ap (λ (v : Vec Request Global). v.items) c.list.ensures.requests)) c.list.ensures.order

pub returns-in_default-clause-over : goal.returns-in_default-clause-over
returns-in_default-clause-over c =
    let of = c.args.of.now in
    let old = c.args.walk.now in
    let new = c.list.new.self in
    let top = c.args.top in
    let i = waits_last of old.places.items old.requests.items c.args.waiting.now.items top c.requires.waiting in
    ok_then c.list.result (new.places.items ≡ added old.places.items (top.place ∷ [])) (IsOver of new) (λ e. over_list of old new top.place c.requires.over e c.list.ensures.marks (ap (λ (v : Vec Request Global). v.items) c.list.ensures.requests) i.asked) c.list.ensures.order

pub returns-in_default-clause-waiting : goal.returns-in_default-clause-waiting
returns-in_default-clause-waiting c =
    let of = c.args.of.now in
    let old = c.args.walk.now in
    let new = c.list.new.self in
    let top = c.args.top in
    let ws = c.args.waiting.now.items in
    ok_then c.list.result (new.places.items ≡ added old.places.items (top.place ∷ [])) (AreWaiting of new.places.items new.requests.items ws) (λ e. waits_listed of old.places.items new.places.items old.requests.items new.requests.items ws top e (ap (λ (v : Vec Request Global). v.items) c.list.ensures.requests) c.requires.waiting) c.list.ensures.order

-- ---- an operand waits next

pub returns-in_ok-push-2-clause-order : goal.returns-in_ok-push-2-clause-order
returns-in_ok-push-2-clause-order c =
    let of = c.args.of.now in
    let ls = lists of.links.items in
    let old = c.args.walk.now in
    let o = old.places.items in
    let top = c.args.top in
    let ws = c.args.waiting.now.items in
    let x = c.in-Some.operand.now in
    let v = c.in-Some-following.following in
    let vs = c.push-in-Some-following.new.self.items in
    let i = waits_last of o old.requests.items ws top c.requires.waiting in
    let f = operand_at of top c.index.result.now c.deref.result.now x i.there c.index.ensures c.deref.ensures.value c.in-Some.ensures.lookup.3.0 c.in-Some.ensures.lookup.1 in
    let new = subst (Awaits of.named.items o old.requests.items c.awaited.new.walk.requests.items x) c.in-Some-following.is c.in_ok-following.ensures.waits in
    let items : vs ≡ (ws ++ next top ∷ []) ++ v ∷ [] = c.in_ok-push-2.ensures.items ∙ ap (λ (xs : List Waiting). xs ++ v ∷ []) c.in_ok-push.ensures.items in
    ap (λ (q : Vec ℕ Global). finish_all ls q.items vs) c.awaited.ensures.places ∙ ap (finish_all ls o) items ∙ listed_more ls c.requires.over.earlier o ws top v x (left_next ls top x f.0 f.1) new.0 new.1

pub returns-in_ok-push-2-clause-requests : goal.returns-in_ok-push-2-clause-requests
returns-in_ok-push-2-clause-requests c =
    let of = c.args.of.now in
    let ls = lists of.links.items in
    let ns = of.named.items in
    let old = c.args.walk.now in
    let rs = old.requests.items in
    let ts = c.awaited.new.walk.requests.items in
    let top = c.args.top in
    let ws = c.args.waiting.now.items in
    let x = c.in-Some.operand.now in
    let v = c.in-Some-following.following in
    let vs = c.push-in-Some-following.new.self.items in
    let i = waits_last of old.places.items rs ws top c.requires.waiting in
    let f = operand_at of top c.index.result.now c.deref.result.now x i.there c.index.ensures c.deref.ensures.value c.in-Some.ensures.lookup.3.0 c.in-Some.ensures.lookup.1 in
    let new = subst (Awaits ns old.places.items rs ts x) c.in-Some-following.is c.in_ok-following.ensures.waits in
    let items : vs ≡ (ws ++ next top ∷ []) ++ v ∷ [] = c.in_ok-push-2.ensures.items ∙ ap (λ (xs : List Waiting). xs ++ v ∷ []) c.in_ok-push.ensures.items in
    subst (λ (xs : List Waiting). AsksOn ns ls rs (ws ++ top ∷ []) ts xs) (sym items) (asks_more ns ls c.requires.over.earlier ws top v x rs ts (left_next ls top x f.0 f.1) new.0 new.1 new.2)

pub returns-in_ok-push-2-clause-over : goal.returns-in_ok-push-2-clause-over
returns-in_ok-push-2-clause-over c =
    let of = c.args.of.now in
    let old = c.args.walk.now in
    let x = c.in-Some.operand.now in
    let new = subst (Awaits of.named.items old.places.items old.requests.items c.awaited.new.walk.requests.items x) c.in-Some-following.is c.in_ok-following.ensures.waits in
    over_asked of old c.awaited.new.walk (requests_at of.named.items x) c.requires.over (ap (λ (q : Vec ℕ Global). q.items) c.awaited.ensures.places) (ap (λ (q : Vec Bool Global). length q.items) c.awaited.ensures.marks) new.2

pub returns-in_ok-push-2-clause-waiting : goal.returns-in_ok-push-2-clause-waiting
returns-in_ok-push-2-clause-waiting c =
    let of = c.args.of.now in
    let ls = lists of.links.items in
    let old = c.args.walk.now in
    let o = old.places.items in
    let rs = old.requests.items in
    let ts = c.awaited.new.walk.requests.items in
    let top = c.args.top in
    let ws = c.args.waiting.now.items in
    let x = c.in-Some.operand.now in
    let v = c.in-Some-following.following in
    let vs = c.push-in-Some-following.new.self.items in
    let i = waits_last of o rs ws top c.requires.waiting in
    let f = operand_at of top c.index.result.now c.deref.result.now x i.there c.index.ensures c.deref.ensures.value c.in-Some.ensures.lookup.3.0 c.in-Some.ensures.lookup.1 in
    let new = subst (Awaits of.named.items o rs ts x) c.in-Some-following.is c.in_ok-following.ensures.waits in
    let items : vs ≡ (ws ++ next top ∷ []) ++ v ∷ [] = c.in_ok-push-2.ensures.items ∙ ap (λ (xs : List Waiting). xs ++ v ∷ []) c.in_ok-push.ensures.items in
    let there = operand_there of top x c.requires.over.earlier i.there f in
    subst (λ (q : Vec ℕ Global). AreWaiting of q.items ts vs) (sym c.awaited.ensures.places) (subst (AreWaiting of o ts) (sym items) (more_waits of o rs ts ws top v x c.requires.waiting f.0 f.1 there new.0 new.1 new.2))

pub returns-in_ok-push-2-clause-fewer : goal.returns-in_ok-push-2-clause-fewer
returns-in_ok-push-2-clause-fewer c =
    let of = c.args.of.now in
    let ls = lists of.links.items in
    let old = c.args.walk.now in
    let top = c.args.top in
    let ws = c.args.waiting.now.items in
    let x = c.in-Some.operand.now in
    let v = c.in-Some-following.following in
    let vs = c.push-in-Some-following.new.self.items in
    let i = waits_last of old.places.items old.requests.items ws top c.requires.waiting in
    let f = operand_at of top c.index.result.now c.deref.result.now x i.there c.index.ensures c.deref.ensures.value c.in-Some.ensures.lookup.3.0 c.in-Some.ensures.lookup.1 in
    let new = subst (Awaits of.named.items old.places.items old.requests.items c.awaited.new.walk.requests.items x) c.in-Some-following.is c.in_ok-following.ensures.waits in
    let items : vs ≡ (ws ++ next top ∷ []) ++ v ∷ [] = c.in_ok-push-2.ensures.items ∙ ap (λ (xs : List Waiting). xs ++ v ∷ []) c.in_ok-push.ensures.items in
    subst (λ (xs : List Waiting). sum_by (steps ls) xs < sum_by (steps ls) ws + steps ls top) (sym items) (more_fewer ls c.requires.over.earlier ws top v x (left_next ls top x f.0 f.1) new.0 new.1)

-- ---- the operand is listed

pub returns-in_default-following-clause-order : goal.returns-in_default-following-clause-order
returns-in_default-following-clause-order c =
    let of = c.args.of.now in
    let ls = lists of.links.items in
    let old = c.args.walk.now in
    let o = old.places.items in
    let top = c.args.top in
    let ws = c.args.waiting.now.items in
    let x = c.in-Some.operand.now in
    let i = waits_last of o old.requests.items ws top c.requires.waiting in
    let f = operand_at of top c.index.result.now c.deref.result.now x i.there c.index.ensures c.deref.ensures.value c.in-Some.ensures.lookup.3.0 c.in-Some.ensures.lookup.1 in
    let known = subst (Awaits of.named.items o old.requests.items c.awaited.new.walk.requests.items x) c.in_default-following.is c.in_ok-following.ensures.waits in
    ap (λ (q : Vec ℕ Global). finish_all ls q.items c.push.new.self.items) c.awaited.ensures.places ∙ ap (finish_all ls o) c.in_ok-push.ensures.items ∙ listed_gone ls o ws top x c.requires.ready (left_next ls top x f.0 f.1) known.0

pub returns-in_default-following-clause-requests : goal.returns-in_default-following-clause-requests
returns-in_default-following-clause-requests c =
    let of = c.args.of.now in
    let ls = lists of.links.items in
    let ns = of.named.items in
    let old = c.args.walk.now in
    let o = old.places.items in
    let rs = old.requests.items in
    let ts = c.awaited.new.walk.requests.items in
    let top = c.args.top in
    let ws = c.args.waiting.now.items in
    let x = c.in-Some.operand.now in
    let i = waits_last of o rs ws top c.requires.waiting in
    let f = operand_at of top c.index.result.now c.deref.result.now x i.there c.index.ensures c.deref.ensures.value c.in-Some.ensures.lookup.3.0 c.in-Some.ensures.lookup.1 in
    let known = subst (Awaits ns o rs ts x) c.in_default-following.is c.in_ok-following.ensures.waits in
    subst (λ (xs : List Waiting). AsksOn ns ls rs (ws ++ top ∷ []) ts xs) (sym c.in_ok-push.ensures.items) (asks_gone ns ls ws top x rs ts (left_next ls top x f.0 f.1) (known_names ns ls o rs c.requires.ready c.requires.over.covers x known.0) known.1)

pub returns-in_default-following-clause-waiting : goal.returns-in_default-following-clause-waiting
returns-in_default-following-clause-waiting c =
    let of = c.args.of.now in
    let old = c.args.walk.now in
    let o = old.places.items in
    let rs = old.requests.items in
    let ts = c.awaited.new.walk.requests.items in
    let top = c.args.top in
    let ws = c.args.waiting.now.items in
    let x = c.in-Some.operand.now in
    let i = waits_last of o rs ws top c.requires.waiting in
    let f = operand_at of top c.index.result.now c.deref.result.now x i.there c.index.ensures c.deref.ensures.value c.in-Some.ensures.lookup.3.0 c.in-Some.ensures.lookup.1 in
    let known = subst (Awaits of.named.items o rs ts x) c.in_default-following.is c.in_ok-following.ensures.waits in
    subst (λ (q : Vec ℕ Global). AreWaiting of q.items ts c.push.new.self.items) (sym c.awaited.ensures.places) (subst (AreWaiting of o ts) (sym c.in_ok-push.ensures.items) (gone_waits of o rs ts ws top x c.requires.waiting known.1 f.0 f.1 known.0))

pub returns-in_default-following-clause-fewer : goal.returns-in_default-following-clause-fewer
returns-in_default-following-clause-fewer c =
    let of = c.args.of.now in
    let ls = lists of.links.items in
    let old = c.args.walk.now in
    let top = c.args.top in
    let ws = c.args.waiting.now.items in
    let x = c.in-Some.operand.now in
    let i = waits_last of old.places.items old.requests.items ws top c.requires.waiting in
    let f = operand_at of top c.index.result.now c.deref.result.now x i.there c.index.ensures c.deref.ensures.value c.in-Some.ensures.lookup.3.0 c.in-Some.ensures.lookup.1 in
    subst (λ (xs : List Waiting). sum_by (steps ls) xs < sum_by (steps ls) ws + steps ls top) (sym c.in_ok-push.ensures.items) (gone_fewer ls c.requires.over.earlier ws top x (left_next ls top x f.0 f.1))
