use Rattle.std.proofs.Common.{◌≡◌, ◌∙◌, ap, sym, subst, All}
use Rattle.std.proofs.lemmas.List.Elements.{All-push, All-weaker}
use Rattle.naga_oil_derive.specs.World.{value_of}
use Rattle.naga_oil_derive.specs.Answered.{import_state, import_callee}
use Rattle.naga_oil_derive.specs.Pending.{IsPending, IsAnswered, IsAnsweredTo, complete, complete_all}
use Rattle.naga_oil_derive.specs.Putting.{Adding}
use Rattle.naga_oil_derive.proofs.AddingLemmas.{Adding-append, copying_added, names_added}
use Rattle.naga_oil_derive.proofs.ImportSteps.{on_ok}
use Rattle.naga_oil_derive.proofs.PendingLemmas.{finish_last, pending_later}
use Rattle.naga_oil_derive.proofs.FoundLemmas.{ok_then}
use Rattle.naga_oil_derive.proofs.import.advance.Goals as goal

-- ---- none is left

pub returns-in_default-clause-pending : goal.returns-in_default-clause-pending
returns-in_default-clause-pending c =
    let source = c.args.source.now in
    let a = c.args.functions.now in
    let b = c.put.new.functions in
    let old = c.args.copying.now in
    let now = c.answer_items.new.copying in
    let ps = c.args.pending.now.items in
    let copying = copying_added source old.target now.target old.maps now.maps a a old.maps.offset c.requires.copying c.in_ok-called.ensures.adding in
    let known = names_added source now.target now.target now.maps now.maps a b now.maps.offset copying c.put.ensures.adding in
    on_ok c.put.result (All (IsPending source b) ps) (All-weaker (IsPending source a) (IsPending source b) (pending_later source a b known) ps c.requires.pending)

pub returns-in_default-clause-adding : goal.returns-in_default-clause-adding
returns-in_default-clause-adding c =
    let a = c.args.functions.now in
    let now = c.answer_items.new.copying in
    let e = c.in_ok-called.ensures in
    Adding-append e.adding (subst (λ z. Adding (value_of c.args.source.now) z (import_state now.maps now.target a) (import_state now.maps now.target c.put.new.functions)) e.offset c.put.ensures.adding)

-- ---- a call

pub open-requires-clause-copying : goal.open-requires-clause-copying
open-requires-clause-copying c =
    let old = c.args.copying.now in
    let now = c.answer_items.new.copying in
    let own = c.args.functions.now in
    copying_added c.args.source.now old.target now.target old.maps now.maps own own old.maps.offset c.requires.copying c.in_ok-called.ensures.adding

pub open-requires-clause-pending : goal.open-requires-clause-pending
open-requires-clause-pending c =
    let P = IsPending c.args.source.now c.args.functions.now in
    subst (All P) (sym c.in_ok-push.ensures.items) (All-push P c.args.pending.now.items c.answer_items.new.top c.requires.pending c.in_ok-called.ensures.top)

pub returns-clause-value : goal.returns-clause-value
returns-clause-value c =
    let source = c.args.source.now in
    let own = c.args.functions.now in
    let m = value_of source in
    let old = c.args.copying.now in
    let now = c.answer_items.new.copying in
    let d = old.maps.offset in
    let s = import_state old.maps old.target own in
    let t = import_state now.maps now.target own in
    let q = c.answer_items.new.top in
    let h = c.in-Some.handle in
    let ps = c.args.pending.now.items in
    let qs = c.push.new.self.items in
    let rs = c.open.new.pending.items in
    let g : IsAnsweredTo source own d s c.args.top t q h = subst (IsAnswered source own d s c.args.top t q) c.in-Some.is c.in_ok-called.ensures.answered in
    let x = import_callee q.depth m d t h in
    let same : complete_all m d x qs ≡ complete_all m d (complete m d s c.args.top) ps = ap (complete_all m d x) c.in_ok-push.ensures.items ∙ finish_last m d x ps q ∙ ap (λ y. complete_all m d y ps) g.value in
    ok_then c.open.result (λ (e : complete_all m now.maps.offset t rs ≡ complete_all m now.maps.offset (import_callee q.depth m now.maps.offset t h) qs). subst (λ z. complete_all m z t rs ≡ complete_all m z (import_callee q.depth m z t h) qs) c.in_ok-called.ensures.offset e ∙ same) c.open.ensures.value
