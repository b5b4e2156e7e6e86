use Rattle.std.proofs.Common.{◌≡◌, ◌∙◌, IsSome, ap, sym, subst}
use Rattle.naga_oil_derive.specs.World.{value_of}
use Rattle.naga_oil_derive.specs.Answered.{import_state, import_callee}
use Rattle.naga_oil_derive.specs.Pending.{complete_all}
use Rattle.naga_oil_derive.specs.Putting.{NothingAdded}
use Rattle.naga_oil_derive.proofs.PendingLemmas.{callee_known}
use Rattle.naga_oil_derive.proofs.import.import_callee.Goals as goal

pub unwrap-requires : goal.unwrap-requires
unwrap-requires c =
    let source = c.args.source.now in
    let own = c.args.functions.now in
    let old = c.args.copying.now in
    let new = c.copy_pending.new.copying in
    let m = value_of source in
    let d = old.maps.offset in
    let called = import_callee c.args.depth m d (import_state old.maps old.target own) c.args.handle in
    let made : import_state new.maps new.target c.copy_pending.new.functions ≡ called = c.in_ok-copy_pending.ensures.value ∙ c.in_ok-open.ensures.value ∙ ap (complete_all m d called) c.new-pending.ensures.items in
    subst (λ o. IsSome o) (sym c.callee.ensures) (callee_known source old.target new.target old.maps new.maps own c.copy_pending.new.functions d c.args.depth c.args.handle c.requires.ranked c.requires.copying c.requires.answerable made)

pub returns-clause-value : goal.returns-clause-value
returns-clause-value c =
    let old = c.args.copying.now in
    let m = value_of c.args.source.now in
    let d = old.maps.offset in
    let called = import_callee c.args.depth m d (import_state old.maps old.target c.args.functions.now) c.args.handle in
    c.in_ok-copy_pending.ensures.value ∙ c.in_ok-open.ensures.value ∙ ap (complete_all m d called) c.new-pending.ensures.items

pub returns-in_err-open-clause-adding : goal.returns-in_err-open-clause-adding
returns-in_err-open-clause-adding c = NothingAdded
