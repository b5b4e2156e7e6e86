use Rattle.std.proofs.Common.{◌≡◌, ◌∙◌, ◌+◌, ◌<◌, ◌≤◌, ◌∷◌, ℕ, List, length, get_or, Option, Some, option_map, is_some, not, true, refl, ap, sym, subst, arith}
use Rattle.std.specs.Borrow.{Bor}
use Rattle.std.specs.Slice.{IsItemAt}
use Rattle.naga_oil_walk.specs.declared.walk.Request.{Request}
use Rattle.naga_oil_walk.specs.declared.walk.Request.TheVariants.{Item, Call}
use Rattle.naga_oil_derive.specs.World.{value_of}
use Rattle.naga_oil_derive.specs.Callees.{callee_at}
use Rattle.naga_oil_derive.specs.Copied.{CopyState, copy_state, copy_item}
use Rattle.naga_oil_derive.specs.Answered.{ImportState, import_state, import_callee}
use Rattle.naga_oil_derive.specs.Pending.{left_requests, complete, call_steps, pending_steps}
use Rattle.naga_oil_derive.specs.Putting.{Adding, NothingAdded}
use Rattle.naga_oil_derive.specs.declared.import.Pending.{Pending}
use Rattle.naga_oil_derive.proofs.AddingLemmas.{Adding-append, copying_added, items_added}
use Rattle.naga_oil_derive.proofs.AnsweredValues.{known}
use Rattle.naga_oil_derive.proofs.FoundLemmas.{item_found}
use Rattle.naga_oil_derive.proofs.FunctionValues.{callee_value}
use Rattle.naga_oil_derive.proofs.PendingLemmas.{next, left_next, finish_next, steps_next, call_some, request_asks, next_pending}
use Rattle.naga_oil_derive.proofs.import.answer_items.Goals as goal

-- a request stands at the place of the next one
abbrev AsksNext : Pending → Request → Type 0
AsksNext top q = (top.answered < length top.walk.requests.items) × (q ≡ get_or top.walk.requests.items top.answered q) × (left_requests top ≡ q ∷ left_requests (next top))

asked : (top : Pending) (xs : List Request) (b : Option (Bor Request)) (o : Option Request) (r q : Request) → xs ≡ top.walk.requests.items → IsItemAt xs top.answered b → o ≡ option_map (λ (y : Bor Request). y.now) b → o ≡ Some r → r ≡ q → AsksNext top q
asked top xs b o r q e h f g is =
    let found = subst (λ (ys : List Request). (top.answered < length ys) × (r ≡ get_or ys top.answered r)) e (item_found xs top.answered b o r h f g) in
    subst (AsksNext top) is (found.0, found.1, left_next top r found.0 found.1)

less_by : (a b k : ℕ) → b ≡ a + k → 0 < k → a < b
less_by a b k e l = omega (arith, e, l)

no_more : (a b k c : ℕ) → b ≡ a + k → b ≤ c → a ≤ c
no_more a b k c e l = omega (arith, e, l)

sum_no_more : (a b k c : ℕ) → b ≡ a + k → b ≤ c → a + k ≤ c
sum_no_more a b k c e l = omega (arith, e, l)

pub loop-request-init : goal.loop-request-init
loop-request-init c = record { pending = c.requires.top; value = refl; fewer = omega arith; adding = NothingAdded; offset = refl }

-- ---- an item

pub copy_item-requires-clause-there : goal.copy_item-requires-clause-there
copy_item-requires-clause-there c =
    let top = c.loop-request.top in
    let q : Request = Item c.in-Item.item in
    let a = asked top c.deref.result.now c.get.result c.copied.result c.in-Some.request q c.deref.ensures.value c.get.ensures.lookup c.copied.ensures c.in-Some.is c.in-Item.is in
    request_asks c.args.source.now c.args.functions.now top q c.loop-request.invariant.pending a.0 a.1

pub copy_item-requires-clause-copying : goal.copy_item-requires-clause-copying
copy_item-requires-clause-copying c =
    let old = c.args.copying.now in
    let now = c.loop-request.copying in
    let own = c.args.functions.now in
    copying_added c.args.source.now old.target now.target old.maps now.maps own own old.maps.offset c.requires.copying c.loop-request.invariant.adding

pub loop-request-smaller-in-Continue-1 : goal.loop-request-smaller-in-Continue-1
loop-request-smaller-in-Continue-1 c =
    let m = value_of c.args.source.now in
    let top = c.loop-request.top in
    let q : Request = Item c.in-Item.item in
    let a = asked top c.deref.result.now c.get.result c.copied.result c.in-Some.request q c.deref.ensures.value c.get.ensures.lookup c.copied.ensures c.in-Some.is c.in-Item.is in
    less_by (pending_steps m (next top)) (pending_steps m top) 1 (steps_next m top q a.2) (omega arith)

pub loop-request-preserved-in-Continue-1 : goal.loop-request-preserved-in-Continue-1
loop-request-preserved-in-Continue-1 c =
    let source = c.args.source.now in
    let own = c.args.functions.now in
    let m = value_of source in
    let i = c.loop-request.invariant in
    let e = c.in_ok-copy_item-in-Item.ensures in
    let old = c.args.copying.now in
    let now = c.loop-request.copying in
    let new = c.copy_item.new.self in
    let d = old.maps.offset in
    let s = import_state now.maps now.target own in
    let u = import_state new.maps new.target own in
    let top = c.loop-request.top in
    let p = c.in-Item.item in
    let q : Request = Item p in
    let a = asked top c.deref.result.now c.get.result c.copied.result c.in-Some.request q c.deref.ensures.value c.get.ensures.lookup c.copied.ensures c.in-Some.is c.in-Item.is in
    let copied : copy_state new.maps new.target ≡ copy_item m d (copy_state now.maps now.target) p = e.copied ∙ ap (λ z. copy_item m z (copy_state now.maps now.target) p) i.offset in
    record {
      pending = next_pending source own top i.pending;
      value = ap (λ (y : CopyState). complete m d (record s { copying = y }) (next top)) copied ∙ sym (finish_next m d s top q a.2) ∙ i.value;
      fewer = no_more (pending_steps m (next top)) (pending_steps m top) 1 (pending_steps m c.args.top.now) (steps_next m top q a.2) i.fewer;
      adding = Adding-append i.adding (subst (λ z. Adding m z s u) i.offset (items_added e.putting));
      offset = e.offset ∙ i.offset;
    }

pub returns-in_err-copy_item-in-Item-clause-adding : goal.returns-in_err-copy_item-in-Item-clause-adding
returns-in_err-copy_item-in-Item-clause-adding c =
    let own = c.args.functions.now in
    let i = c.loop-request.invariant in
    let now = c.loop-request.copying in
    let new = c.copy_item.new.self in
    Adding-append i.adding (subst (λ z. Adding (value_of c.args.source.now) z (import_state now.maps now.target own) (import_state new.maps new.target own)) i.offset (items_added c.copy_item.ensures.putting))

-- ---- a call of a function whose name isn't known

pub returns-then-is_none-clause-answered : goal.returns-then-is_none-clause-answered
returns-then-is_none-clause-answered c =
    let source = c.args.source.now in
    let own = c.args.functions.now in
    let m = value_of source in
    let i = c.loop-request.invariant in
    let now = c.loop-request.copying in
    let d = c.args.copying.now.maps.offset in
    let s = import_state now.maps now.target own in
    let top = c.loop-request.top in
    let k = c.in-Call.handle in
    let q : Request = Call k in
    let a = asked top c.deref.result.now c.get.result c.copied.result c.in-Some.request q c.deref.ensures.value c.get.ensures.lookup c.copied.ensures c.in-Some.is c.in-Call.is in
    record {
      answerable = request_asks source own top q i.pending a.0 a.1;
      value = sym (finish_next m d s top q a.2) ∙ i.value;
      fewer = sum_no_more (pending_steps m (next top)) (pending_steps m top) (call_steps top.depth m k) (pending_steps m c.args.top.now) (steps_next m top q a.2) i.fewer;
    }

-- ---- a call of one whose name is known

pub loop-request-smaller : goal.loop-request-smaller
loop-request-smaller c =
    let m = value_of c.args.source.now in
    let top = c.loop-request.top in
    let k = c.in-Call.handle in
    let q : Request = Call k in
    let a = asked top c.deref.result.now c.get.result c.copied.result c.in-Some.request q c.deref.ensures.value c.get.ensures.lookup c.copied.ensures c.in-Some.is c.in-Call.is in
    less_by (pending_steps m (next top)) (pending_steps m top) (call_steps top.depth m k) (steps_next m top q a.2) (call_some top.depth m k)

pub loop-request-preserved : goal.loop-request-preserved
loop-request-preserved c =
    let source = c.args.source.now in
    let own = c.args.functions.now in
    let m = value_of source in
    let i = c.loop-request.invariant in
    let now = c.loop-request.copying in
    let d = c.args.copying.now.maps.offset in
    let s = import_state now.maps now.target own in
    let top = c.loop-request.top in
    let k = c.in-Call.handle in
    let q : Request = Call k in
    let a = asked top c.deref.result.now c.get.result c.copied.result c.in-Some.request q c.deref.ensures.value c.get.ensures.lookup c.copied.ensures c.in-Some.is c.in-Call.is in
    let there : is_some (callee_at own.names source.functions k) ≡ true = ap is_some (sym c.callee_in.ensures) ∙ c.is_none.ensures ∙ ap not c.if-is_none.false in
    let same : s ≡ import_callee top.depth m d s k = known top.depth m d s k (ap is_some (callee_value source own k) ∙ there) in
    record {
      pending = next_pending source own top i.pending;
      value = ap (λ (u : ImportState). complete m d u (next top)) same ∙ sym (finish_next m d s top q a.2) ∙ i.value;
      fewer = no_more (pending_steps m (next top)) (pending_steps m top) (call_steps top.depth m k) (pending_steps m c.args.top.now) (steps_next m top q a.2) i.fewer;
      adding = i.adding;
      offset = i.offset;
    }
