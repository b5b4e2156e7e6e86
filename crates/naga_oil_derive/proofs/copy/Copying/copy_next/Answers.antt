use Rattle.std.proofs.Common.{◌≡◌, ◌∙◌, ◌+◌, ◌<◌, ◌≤◌, ◌++◌, ◌∷◌, [], Option, ap, sym, subst, List, length, get_or}
use Rattle.std.specs.List.{sum_by}
use Rattle.naga_oil_ir.specs.declared.names.ItemPlace.{ItemPlace}
use Rattle.naga_oil_derive.specs.World.{value_of}
use Rattle.naga_oil_derive.specs.Copying.{goes_under}
use Rattle.naga_oil_derive.specs.Copied.{copy_state, put}
use Rattle.naga_oil_derive.specs.Putting.{NothingPut}
use Rattle.naga_oil_derive.specs.Waiting.{AreItemsWaiting, AwaitsItem, finish_items, waiting_steps}
use Rattle.naga_oil_derive.specs.declared.copy.Waiting.{Waiting}
use Rattle.naga_oil_derive.proofs.FoundLemmas.{item_found, item_past, ok_then}
use Rattle.naga_oil_derive.proofs.WaitingLemmas.{next, left_next, waits_last, name_below, there_if, put_waits, put_either, gone_waits, gone_copied, gone_fewer, more_waits, more_copied, more_fewer}
use Rattle.naga_oil_derive.proofs.copy.Copying.copy_next.Goals as goal

-- ---- no name is left

pub copy_alone-requires-clause-there : goal.copy_alone-requires-clause-there
copy_alone-requires-clause-there c = (waits_last c.args.source.now (goes_under c.args.self.now.maps) c.args.waiting.now.items c.args.top c.requires.waiting).there

pub returns-in_default-clause-waiting : goal.returns-in_default-clause-waiting
returns-in_default-clause-waiting c =
    let source = c.args.source.now in
    let old = c.args.self.now in
    let new = c.copy_alone.new.self in
    let top = c.args.top in
    let past = subst (λ (xs : List (Option ItemPlace)). length xs ≤ top.copied) c.deref.ensures.value (item_past c.deref.result.now top.copied c.get.result c.copied.result c.get.ensures.lookup c.copied.ensures c.in_default.not-Some) in
    ok_then c.copy_alone.result (λ (e : copy_state new.maps new.target ≡ put (value_of source) old.maps.offset (copy_state old.maps old.target) top.item). put_waits source old.target new.target old.maps new.maps old.maps.offset c.args.waiting.now.items top c.requires.copying c.requires.waiting past e) c.copy_alone.ensures.put

pub returns-in_default-clause-putting : goal.returns-in_default-clause-putting
returns-in_default-clause-putting c =
    let source = c.args.source.now in
    let old = c.args.self.now in
    let new = c.copy_alone.new.self in
    let top = c.args.top in
    let past = subst (λ (xs : List (Option ItemPlace)). length xs ≤ top.copied) c.deref.ensures.value (item_past c.deref.result.now top.copied c.get.result c.copied.result c.get.ensures.lookup c.copied.ensures c.in_default.not-Some) in
    let last = waits_last source (goes_under old.maps) c.args.waiting.now.items top c.requires.waiting in
    put_either c.copy_alone.result source old.target new.target old.maps new.maps old.maps.offset top last past c.copy_alone.ensures.put c.copy_alone.ensures.err

-- ---- one is left

pub awaited-requires : goal.awaited-requires
awaited-requires c =
    let source = c.args.source.now in
    let g = goes_under c.args.self.now.maps in
    let top = c.args.top in
    let o = c.in-Some.name in
    let found = subst (λ (xs : List (Option ItemPlace)). (top.copied < length xs) × (o ≡ get_or xs top.copied o)) c.deref.ensures.value (item_found c.deref.result.now top.copied c.get.result c.copied.result o c.get.ensures.lookup c.copied.ensures c.in-Some.is) in
    there_if source top.item o (name_below source g top o c.requires.ranked (waits_last source g c.args.waiting.now.items top c.requires.waiting) found.0 found.1)

pub returns-in_err-following-clause-putting : goal.returns-in_err-following-clause-putting
returns-in_err-following-clause-putting c = NothingPut

pub returns-in_err-push-clause-putting : goal.returns-in_err-push-clause-putting
returns-in_err-push-clause-putting c = NothingPut

pub returns-in_err-push-2-clause-putting : goal.returns-in_err-push-2-clause-putting
returns-in_err-push-2-clause-putting c = NothingPut

-- ---- the named item waits next

pub returns-in_ok-push-2-clause-waiting : goal.returns-in_ok-push-2-clause-waiting
returns-in_ok-push-2-clause-waiting c =
    let source = c.args.source.now in
    let g = goes_under c.args.self.now.maps in
    let top = c.args.top in
    let ws = c.args.waiting.now.items in
    let o = c.in-Some.name in
    let v = c.in-Some-following.following in
    let found = subst (λ (xs : List (Option ItemPlace)). (top.copied < length xs) × (o ≡ get_or xs top.copied o)) c.deref.ensures.value (item_found c.deref.result.now top.copied c.get.result c.copied.result o c.get.ensures.lookup c.copied.ensures c.in-Some.is) in
    let new = subst (AwaitsItem source g o) c.in-Some-following.is c.in_ok-following.ensures in
    let items : c.push-in-Some-following.new.self.items ≡ (ws ++ next top ∷ []) ++ v ∷ [] = c.in_ok-push-2.ensures.items ∙ ap (λ (xs : List Waiting). xs ++ v ∷ []) c.in_ok-push.ensures.items in
    subst (AreItemsWaiting source g) (sym items) (more_waits source g ws top v o c.requires.ranked c.requires.waiting found.0 found.1 new.0 new.1)

pub returns-in_ok-push-2-clause-copied : goal.returns-in_ok-push-2-clause-copied
unfolding goes_under
returns-in_ok-push-2-clause-copied c =
    let source = c.args.source.now in
    let old = c.args.self.now in
    let g = goes_under old.maps in
    let top = c.args.top in
    let ws = c.args.waiting.now.items in
    let o = c.in-Some.name in
    let v = c.in-Some-following.following in
    let s = copy_state old.maps old.target in
    let found = subst (λ (xs : List (Option ItemPlace)). (top.copied < length xs) × (o ≡ get_or xs top.copied o)) c.deref.ensures.value (item_found c.deref.result.now top.copied c.get.result c.copied.result o c.get.ensures.lookup c.copied.ensures c.in-Some.is) in
    let new = subst (AwaitsItem source g o) c.in-Some-following.is c.in_ok-following.ensures in
    let items : c.push-in-Some-following.new.self.items ≡ (ws ++ next top ∷ []) ++ v ∷ [] = c.in_ok-push-2.ensures.items ∙ ap (λ (xs : List Waiting). xs ++ v ∷ []) c.in_ok-push.ensures.items in
    ap (finish_items (value_of source) old.maps.offset s) items ∙ more_copied source old.maps.offset s ws top v o c.requires.ranked (left_next top o found.0 found.1) new.0 new.1 new.2

pub returns-in_ok-push-2-clause-fewer : goal.returns-in_ok-push-2-clause-fewer
returns-in_ok-push-2-clause-fewer c =
    let source = c.args.source.now in
    let m = value_of source in
    let g = goes_under c.args.self.now.maps in
    let top = c.args.top in
    let ws = c.args.waiting.now.items in
    let o = c.in-Some.name in
    let v = c.in-Some-following.following in
    let found = subst (λ (xs : List (Option ItemPlace)). (top.copied < length xs) × (o ≡ get_or xs top.copied o)) c.deref.ensures.value (item_found c.deref.result.now top.copied c.get.result c.copied.result o c.get.ensures.lookup c.copied.ensures c.in-Some.is) in
    let new = subst (AwaitsItem source g o) c.in-Some-following.is c.in_ok-following.ensures in
    let items : c.push-in-Some-following.new.self.items ≡ (ws ++ next top ∷ []) ++ v ∷ [] = c.in_ok-push-2.ensures.items ∙ ap (λ (xs : List Waiting). xs ++ v ∷ []) c.in_ok-push.ensures.items in
    subst (λ (xs : List Waiting). sum_by (waiting_steps m) xs < sum_by (waiting_steps m) ws + waiting_steps m top) (sym items) (more_fewer source g ws top v o c.requires.ranked (left_next top o found.0 found.1) new.0 new.1 new.2)

pub returns-in_ok-push-2-clause-putting : goal.returns-in_ok-push-2-clause-putting
returns-in_ok-push-2-clause-putting c = NothingPut

-- ---- the named item is mapped

pub returns-in_default-following-clause-waiting : goal.returns-in_default-following-clause-waiting
returns-in_default-following-clause-waiting c =
    let source = c.args.source.now in
    let g = goes_under c.args.self.now.maps in
    let top = c.args.top in
    let ws = c.args.waiting.now.items in
    let o = c.in-Some.name in
    let found = subst (λ (xs : List (Option ItemPlace)). (top.copied < length xs) × (o ≡ get_or xs top.copied o)) c.deref.ensures.value (item_found c.deref.result.now top.copied c.get.result c.copied.result o c.get.ensures.lookup c.copied.ensures c.in-Some.is) in
    let went = subst (AwaitsItem source g o) c.in_default-following.is c.in_ok-following.ensures in
    subst (AreItemsWaiting source g) (sym c.in_ok-push.ensures.items) (gone_waits source g ws top o c.requires.waiting found.0 found.1 went)

pub returns-in_default-following-clause-copied : goal.returns-in_default-following-clause-copied
unfolding goes_under
returns-in_default-following-clause-copied c =
    let source = c.args.source.now in
    let old = c.args.self.now in
    let m = value_of source in
    let g = goes_under old.maps in
    let top = c.args.top in
    let ws = c.args.waiting.now.items in
    let o = c.in-Some.name in
    let s = copy_state old.maps old.target in
    let found = subst (λ (xs : List (Option ItemPlace)). (top.copied < length xs) × (o ≡ get_or xs top.copied o)) c.deref.ensures.value (item_found c.deref.result.now top.copied c.get.result c.copied.result o c.get.ensures.lookup c.copied.ensures c.in-Some.is) in
    let went = subst (AwaitsItem source g o) c.in_default-following.is c.in_ok-following.ensures in
    ap (finish_items m old.maps.offset s) c.in_ok-push.ensures.items ∙ gone_copied m old.maps.offset s ws top o (left_next top o found.0 found.1) went

pub returns-in_default-following-clause-fewer : goal.returns-in_default-following-clause-fewer
returns-in_default-following-clause-fewer c =
    let m = value_of c.args.source.now in
    let top = c.args.top in
    let ws = c.args.waiting.now.items in
    let o = c.in-Some.name in
    let found = subst (λ (xs : List (Option ItemPlace)). (top.copied < length xs) × (o ≡ get_or xs top.copied o)) c.deref.ensures.value (item_found c.deref.result.now top.copied c.get.result c.copied.result o c.get.ensures.lookup c.copied.ensures c.in-Some.is) in
    subst (λ (xs : List Waiting). sum_by (waiting_steps m) xs < sum_by (waiting_steps m) ws + waiting_steps m top) (sym c.in_ok-push.ensures.items) (gone_fewer m ws top o (left_next top o found.0 found.1))

pub returns-in_default-following-clause-putting : goal.returns-in_default-following-clause-putting
returns-in_default-following-clause-putting c = NothingPut
