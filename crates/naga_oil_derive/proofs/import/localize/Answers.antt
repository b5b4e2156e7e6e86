use Rattle.std.proofs.Common.{refl, take, ◌+◌, ◌≡◌, ◌∙◌, ◌∷◌, [], rules, subst, is_some, sym, ap, take_all, List}
use Rattle.std.proofs.lemmas.Option.{none-some}
use Rattle.naga_oil_ir.specs.ModuleValue.{function_value}
use Rattle.naga_oil_derive.specs.World.{value_of}
use Rattle.naga_oil_derive.specs.Copying.{AreRanked, IsCopying, kept_between, renames_under}
use Rattle.naga_oil_derive.specs.CopiedFunction.{copy_function}
use Rattle.naga_oil_derive.specs.Went.{went_by}
use Rattle.naga_oil_derive.specs.Copied.{CopyState, copy_state, copy_item}
use Rattle.naga_oil_derive.specs.DerivedFunctions.{requests_of}
use Rattle.naga_oil_derive.specs.Imported.{IsAnswerable, IsCallable}
use Rattle.naga_oil_walk.specs.Naming.{function_names}
use Rattle.naga_oil_derive.specs.Answered.{ImportState, import_state, answer_one, answer_all, import_callee}
use Rattle.naga_oil_derive.specs.Putting.{Putting, Adding, NothingAdded}
use Rattle.naga_oil_derive.specs.declared.copy.Copying.{Copying}
use Rattle.naga_oil_derive.specs.declared.import.Functions.{Functions}
use Rattle.naga_oil_walk.specs.declared.walk.Request.{Request}
use Rattle.naga_oil_walk.specs.declared.walk.Request.TheVariants.{Call}
use Rattle.naga_oil_derive.proofs.KindLaws.{value_kinds}
use Rattle.naga_oil_derive.proofs.PuttingLemmas.{midway_of}
use Rattle.naga_oil_derive.proofs.AddingLemmas.{Added, adding_adds, Adding-append, items_added, copying_added}
use Rattle.naga_oil_derive.proofs.ImportSteps.{request_added, item_went, on_ok, if_ok_same}
use Rattle.naga_oil_derive.proofs.StubLemmas.{signature_there, stub_answered, stub_copied}
use Rattle.naga_oil_derive.proofs.FunctionValues.{requests_same, callee_value}
use Rattle.naga_oil_derive.proofs.AnsweredValues.{Trail, Still, Step, trail-more, was_later, thin_answered}
use Rattle.naga_oil_derive.proofs.import.localize.Goals as goal
use Rattle.naga_oil_derive.proofs.import.localize.Goals.{in-Item+in_ok-copy_item-in-Item, in-Call+in_ok-import_callee-in-Call}

-- ---- a function that names no more than the types of its signature

pub copy_signature-requires-clause-arguments : goal.copy_signature-requires-clause-arguments
copy_signature-requires-clause-arguments c =
    (signature_there c.args.source.now (IsCallable c.args.source.now c.args.functions.now c.args.depth) c.args.function.now c.requires.form.requests).0

pub copy_signature-requires-clause-outcome : goal.copy_signature-requires-clause-outcome
copy_signature-requires-clause-outcome c =
    (signature_there c.args.source.now (IsCallable c.args.source.now c.args.functions.now c.args.depth) c.args.function.now c.requires.form.requests).1

pub returns-in_err-copy_signature-clause-adding : goal.returns-in_err-copy_signature-clause-adding
returns-in_err-copy_signature-clause-adding c = items_added c.copy_signature.ensures.putting

pub returns-then-is_stub-clause-adding : goal.returns-then-is_stub-clause-adding
returns-then-is_stub-clause-adding c = items_added c.copy_signature.ensures.putting

pub returns-then-is_stub-clause-copied : goal.returns-then-is_stub-clause-copied
returns-then-is_stub-clause-copied c =
    let f = c.args.function.now in
    let is = c.is_stub.ensures.0 c.if-is_stub.true in
    let n = c.copy_signature.new.self.maps in
    let r = renames_under n in
    let went = went_by n c.args.source.now c.args.functions.now.names in
    if_ok_same c.localized_stub.result (λ g. function_value g ≡ copy_function r (function_value f)) (λ g. function_value g ≡ copy_function went (function_value f)) (λ g e. e ∙ stub_copied r f is ∙ sym (stub_copied went f is)) c.localized_stub.ensures

pub returns-then-is_stub-clause-value : goal.returns-then-is_stub-clause-value
returns-then-is_stub-clause-value c =
    let f = c.args.function.now in
    let m = value_of c.args.source.now in
    let old = c.args.copying.now in
    let new = c.copy_signature.new.self in
    let fs = c.args.functions.now in
    let s = import_state old.maps old.target fs in
    let is = ap (λ (y : CopyState). record s { copying = y }) c.in_ok-copy_signature.ensures.copied ∙ sym (stub_answered m c.args.depth old.maps.offset s f (c.is_stub.ensures.0 c.if-is_stub.true)) in
    on_ok c.localized_stub.result (import_state new.maps new.target fs ≡ answer_all c.args.depth m old.maps.offset s (requests_of (function_value f))) is

-- ---- one that is walked

pub copy_item-requires-clause-there : goal.copy_item-requires-clause-there
copy_item-requires-clause-there c =
    let source = c.args.source.now in
    let old = c.args.copying.now in
    let now = c.loop-request.copying in
    let fs = c.loop-request.functions in
    let r = request_added source old.target now.target old.maps now.maps c.args.functions.now fs old.maps.offset c.args.depth (function_names c.args.function.now) c.deref-request-items.result.now c.in_ok-walk.walk.requests.items c.loop-request.request-index c.request-item.result c.requires.copying c.loop-request.invariant.adding c.requires.form.requests c.in_ok-walk.ensures.requests c.deref-request-items.ensures.value c.loop-request-test.true c.request-item.is in
    subst (IsAnswerable source fs c.args.depth) c.in-Item.is r

pub copy_item-requires-clause-copying : goal.copy_item-requires-clause-copying
copy_item-requires-clause-copying c =
    let old = c.args.copying.now in
    let now = c.loop-request.copying in
    copying_added c.args.source.now old.target now.target old.maps now.maps c.args.functions.now c.loop-request.functions old.maps.offset c.requires.copying c.loop-request.invariant.adding

pub import_callee-requires : goal.import_callee-requires
import_callee-requires c =
    let source = c.args.source.now in
    let old = c.args.copying.now in
    let now = c.loop-request.copying in
    let fs = c.loop-request.functions in
    let own = c.args.functions.now in
    let r = request_added source old.target now.target old.maps now.maps own fs old.maps.offset c.args.depth (function_names c.args.function.now) c.deref-request-items.result.now c.in_ok-walk.walk.requests.items c.loop-request.request-index c.request-item.result c.requires.copying c.loop-request.invariant.adding c.requires.form.requests c.in_ok-walk.ensures.requests c.deref-request-items.ensures.value c.loop-request-test.true c.request-item.is in
    let one : IsAnswerable source fs c.args.depth (Call c.in-Call.handle) = subst (IsAnswerable source fs c.args.depth) c.in-Call.is r in
    let ranked : AreRanked source = c.requires.ranked in
    let copying : IsCopying source now.target now.maps = copying_added source old.target now.target old.maps now.maps own fs old.maps.offset c.requires.copying c.loop-request.invariant.adding in
    search rules

pub returns-in_err-walk-clause-adding : goal.returns-in_err-walk-clause-adding
returns-in_err-walk-clause-adding c = NothingAdded

pub returns-in_err-copy_item-in-Item-clause-adding :
    goal.returns-in_err-copy_item-in-Item-clause-adding
returns-in_err-copy_item-in-Item-clause-adding c =
    let i = c.loop-request.invariant in
    let now = c.loop-request.copying in
    let n = c.copy_item.new.self in
    Adding-append i.adding (items_added (subst (λ z. Putting (value_of c.args.source.now) z (copy_state now.maps now.target) (copy_state n.maps n.target)) i.offset c.copy_item.ensures.putting))

pub returns-in_err-import_callee-in-Call-clause-adding :
    goal.returns-in_err-import_callee-in-Call-clause-adding
returns-in_err-import_callee-in-Call-clause-adding c =
    let i = c.loop-request.invariant in
    let now = c.loop-request.copying in
    let n = c.import_callee.new.copying in
    Adding-append i.adding (subst (λ z. Adding (value_of c.args.source.now) z (import_state now.maps now.target c.loop-request.functions) (import_state n.maps n.target c.import_callee.new.functions)) i.offset c.import_callee.ensures.adding)

pub loop-request-init : goal.loop-request-init
loop-request-init c = record { adding = NothingAdded; offset = refl; trail = Still }

pub loop-request-preserved : goal.loop-request-preserved
loop-request-preserved c =
    let i = c.loop-request.invariant in
    let source = c.args.source.now in
    let old = c.args.copying.now in
    let now = c.loop-request.copying in
    let own = c.args.functions.now in
    let fs = c.loop-request.functions in
    let s = import_state old.maps old.target own in
    let m = import_state now.maps now.target fs in
    let xs = c.deref-request-items.result.now in
    let k = c.loop-request.request-index in
    let x = c.request-item.result in
    let v = value_of source in
    let d = old.maps.offset in
    let F = answer_one (import_callee c.args.depth v d) v d in
    let copying : IsCopying source now.target now.maps = copying_added source old.target now.target old.maps now.maps own fs d c.requires.copying i.adding in
    let kept = kept_between source now.target in
    let added : (u : ImportState) → Adding v d m u → Added v kept m u = λ u a. adding_adds kept (value_kinds source) a (midway_of source now.target now.maps copying) in
    let trail : (u : ImportState) → Trail v F m (x ∷ []) u → Trail v F s (take (k + 1) xs) u = λ u e. trail-more v F s m u xs k x c.loop-request-test.true c.request-item.is i.trail e in
    elim c.match-request.branch [
      | in-Item+in_ok-copy_item-in-Item w ↦
          let n = w.copy_item.new.self in
          let e = w.in_ok-copy_item-in-Item.ensures in
          let p = w.in-Item.item in
          let u = import_state n.maps n.target fs in
          let is : copy_state n.maps n.target ≡ copy_item v d (copy_state now.maps now.target) p = e.copied ∙ ap (λ z. copy_item v z (copy_state now.maps now.target) p) i.offset in
          let more : Adding v d m u = items_added (subst (λ z. Putting v z (copy_state now.maps now.target) (copy_state n.maps n.target)) i.offset e.putting) in
          let r = request_added source old.target now.target old.maps now.maps own fs d c.args.depth (function_names c.args.function.now) xs c.in_ok-walk.walk.requests.items k x c.requires.copying i.adding c.requires.form.requests c.in_ok-walk.ensures.requests c.deref-request-items.ensures.value c.loop-request-test.true c.request-item.is in
          let went = item_went source now.target n.target now.maps n.maps p c.requires.ranked copying (subst (IsAnswerable source fs c.args.depth) w.in-Item.is r) e.copied in
          let next : Trail v F m (x ∷ []) u = subst (λ (r : Request). Trail v F m (r ∷ []) u) (sym w.in-Item.is) (Step (ap (λ (y : CopyState). record m { copying = y }) is) (was_later v kept m u (added u more)) went Still) in
          record {
            adding = subst (λ (y : Copying). Adding v d s (import_state y.maps y.target c.match-request.functions)) (sym w.copying-is) (subst (λ (y : Functions). Adding v d s (import_state n.maps n.target y)) (sym w.functions-is) (Adding-append i.adding more));
            offset = ap (λ (y : Copying). y.maps.offset) w.copying-is ∙ e.offset ∙ i.offset;
            trail = subst (λ (y : Copying). Trail v F s (take (k + 1) xs) (import_state y.maps y.target c.match-request.functions)) (sym w.copying-is) (subst (λ (y : Functions). Trail v F s (take (k + 1) xs) (import_state n.maps n.target y)) (sym w.functions-is) (trail u next));
          }
      | in-Call+in_ok-import_callee-in-Call w ↦
          let n = w.import_callee.new.copying in
          let f = w.import_callee.new.functions in
          let e = w.in_ok-import_callee-in-Call.ensures in
          let h = w.in-Call.handle in
          let u = import_state n.maps n.target f in
          let is : u ≡ F m (Call h) = e.value ∙ ap (λ z. import_callee c.args.depth v z m h) i.offset in
          let more : Adding v d m u = subst (λ z. Adding v z m u) i.offset e.adding in
          let next : Trail v F m (x ∷ []) u = subst (λ (r : Request). Trail v F m (r ∷ []) u) (sym w.in-Call.is) (Step is (was_later v kept m u (added u more)) (ap is_some (callee_value source f h ∙ e.callee)) Still) in
          record {
            adding = subst (λ (y : Copying). Adding v d s (import_state y.maps y.target c.match-request.functions)) (sym w.copying-is) (subst (λ (y : Functions). Adding v d s (import_state n.maps n.target y)) (sym w.functions-is) (Adding-append i.adding more));
            offset = ap (λ (y : Copying). y.maps.offset) w.copying-is ∙ e.offset ∙ i.offset;
            trail = subst (λ (y : Copying). Trail v F s (take (k + 1) xs) (import_state y.maps y.target c.match-request.functions)) (sym w.copying-is) (subst (λ (y : Functions). Trail v F s (take (k + 1) xs) (import_state n.maps n.target y)) (sym w.functions-is) (trail u next));
          }
    ]

pub returns-clause-value : goal.returns-clause-value
returns-clause-value c =
    let source = c.args.source.now in
    let f = c.args.function.now in
    let v = value_of source in
    let d = c.args.copying.now.maps.offset in
    let s = import_state c.args.copying.now.maps c.args.copying.now.target c.args.functions.now in
    let m = import_state c.loop-request.copying.maps c.loop-request.copying.target c.loop-request.functions in
    let xs = c.deref-request-items.result.now in
    let F = answer_one (import_callee c.args.depth v d) v d in
    let all = take_all c.loop-request.request-index xs c.loop-request-test.false ∙ c.deref-request-items.ensures.value in
    let trail : Trail v F s c.in_ok-walk.walk.requests.items m = subst (λ (rs : List Request). Trail v F s rs m) all c.loop-request.invariant.trail in
    let is = thin_answered v c.args.depth d s m (function_names f) c.in_ok-walk.walk.requests.items c.in_ok-walk.ensures.requests (λ r a. absurd (none-some r a.1)) trail ∙ ap (answer_all c.args.depth v d s) (sym (requests_same f)) in
    on_ok c.localized.result (m ≡ answer_all c.args.depth v d s (requests_of (function_value f))) is

pub returns-clause-adding : goal.returns-clause-adding
returns-clause-adding c = c.loop-request.invariant.adding

pub returns-clause-offset : goal.returns-clause-offset
returns-clause-offset c = c.loop-request.invariant.offset
