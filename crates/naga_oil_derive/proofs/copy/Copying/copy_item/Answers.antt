use Rattle.std.proofs.Common.{◌≡◌, ◌∙◌, ◌++◌, ◌∷◌, [], Bool, true, Option, Some, None, is_some, refl, ap, sym, subst, List}
use Rattle.std.proofs.lemmas.Bool.{false≢true}
use Rattle.naga_oil_ir.specs.declared.names.ItemPlace.{ItemPlace}
use Rattle.std.proofs.lemmas.Option.{same_Some}
use Rattle.naga_oil_derive.specs.World.{value_of}
use Rattle.naga_oil_derive.specs.Copying.{goes_under}
use Rattle.naga_oil_derive.specs.Copied.{copy_state, copy_item}
use Rattle.naga_oil_derive.specs.Putting.{NothingPut}
use Rattle.naga_oil_derive.specs.Waiting.{AreItemsWaiting, AwaitsItem, finish_items}
use Rattle.naga_oil_derive.specs.declared.copy.Waiting.{Waiting}
use Rattle.naga_oil_derive.proofs.CopiedLaws.{copied_again}
use Rattle.naga_oil_derive.proofs.FoundLemmas.{ok_then}
use Rattle.naga_oil_derive.proofs.WaitingLemmas.{new_finish}
use Rattle.naga_oil_derive.proofs.copy.Copying.copy_item.Goals as goal

pub returns-in_err-first-clause-putting : goal.returns-in_err-first-clause-putting
returns-in_err-first-clause-putting c = NothingPut

-- ---- the item is mapped

gone_to : (o : Option ItemPlace) (b : Bool) → b ≡ is_some o → b ≡ true → (q : ItemPlace) × (o ≡ Some q)
gone_to None b e f = absurd (false≢true (sym e ∙ f))
gone_to (Some q) b e f = (q, refl)

pub returns-then-has_gone-clause-copied : goal.returns-then-has_gone-clause-copied
unfolding goes_under
returns-then-has_gone-clause-copied c =
    let old = c.args.self.now in
    sym (copied_again (value_of c.args.source.now) old.maps.offset (copy_state old.maps old.target) c.args.item.now (gone_to (goes_under old.maps c.args.item.now) c.has_gone.result c.has_gone.ensures c.if-has_gone.true))

pub returns-then-has_gone-clause-putting : goal.returns-then-has_gone-clause-putting
returns-then-has_gone-clause-putting c = NothingPut

pub returns-in_default-clause-copied : goal.returns-in_default-clause-copied
unfolding goes_under
returns-in_default-clause-copied c =
    let old = c.args.self.now in
    let p = c.args.item.now in
    sym (copied_again (value_of c.args.source.now) old.maps.offset (copy_state old.maps old.target) p (subst (AwaitsItem c.args.source.now (goes_under old.maps) (Some p)) c.in_default.is c.in_ok-first.ensures))

pub returns-in_default-clause-putting : goal.returns-in_default-clause-putting
returns-in_default-clause-putting c = NothingPut

-- ---- the item waits

pub returns-in_err-push-clause-putting : goal.returns-in_err-push-clause-putting
returns-in_err-push-clause-putting c = NothingPut

pub copy_waiting-requires-clause-waiting : goal.copy_waiting-requires-clause-waiting
copy_waiting-requires-clause-waiting c =
    let source = c.args.source.now in
    let g = goes_under c.args.self.now.maps in
    let w = c.in-Some.first in
    let new = subst (AwaitsItem source g (Some c.args.item.now)) c.in-Some.is c.in_ok-first.ensures in
    let items : c.push.new.self.items ≡ w ∷ [] = c.in_ok-push.ensures.items ∙ ap (λ (ws : List Waiting). ws ++ w ∷ []) c.new-waiting.ensures.items in
    subst (AreItemsWaiting source g) (sym items) (new.1, tt)

pub returns-clause-copied : goal.returns-clause-copied
unfolding goes_under
returns-clause-copied c =
    let source = c.args.source.now in
    let old = c.args.self.now in
    let end = c.copy_waiting.new.self in
    let m = value_of source in
    let d = old.maps.offset in
    let s = copy_state old.maps old.target in
    let p = c.args.item.now in
    let w = c.in-Some.first in
    let new = subst (AwaitsItem source (goes_under old.maps) (Some p)) c.in-Some.is c.in_ok-first.ensures in
    let items : c.push.new.self.items ≡ w ∷ [] = c.in_ok-push.ensures.items ∙ ap (λ (ws : List Waiting). ws ++ w ∷ []) c.new-waiting.ensures.items in
    let same : finish_items m d s c.push.new.self.items ≡ copy_item m d s p = ap (finish_items m d s) items ∙ new_finish source d s w c.requires.ranked new.1.nowhere new.1.there new.1.names new.2 ∙ ap (copy_item m d s) (sym (same_Some p w.item new.0)) in
    ok_then c.copy_waiting.result (λ (e : copy_state end.maps end.target ≡ finish_items m d s c.push.new.self.items). e ∙ same) c.copy_waiting.ensures.copied
