use Rattle.std.proofs.Common.{◌≡◌, ◌∙◌, ◌+◌, ◌-◌, ◌∷◌, [], suc, Some, None, is_some, true, ap, sym, subst, arith, option_map, slice_get, All}
use Rattle.std.specs.List.{sum_by}
use Rattle.std.proofs.lemmas.List.Elements.{All-append, All-cons, All-nil}
use Rattle.std.proofs.lemmas.List.Sums.{sum_by_push}
use Rattle.naga_oil_ir.specs.ModuleValue.{function_value}
use Rattle.naga_oil_derive.specs.World.{value_of}
use Rattle.naga_oil_derive.specs.Callees.{known_as, callee_at}
use Rattle.naga_oil_derive.specs.Answered.{import_state}
use Rattle.naga_oil_derive.specs.Imported.{IsImportable}
use Rattle.naga_oil_derive.specs.Pending.{IsPending, complete_all, pending_steps}
use Rattle.naga_oil_walk.proofs.OptionLemmas.{none_of}
use Rattle.naga_oil_derive.proofs.AnsweredValues.{known, called_fresh}
use Rattle.naga_oil_derive.proofs.FunctionValues.{callee_value, functions_at, known_same, seen}
use Rattle.naga_oil_derive.proofs.ImportSteps.{entry_at, entry_of, callee_from, unknown_callee}
use Rattle.naga_oil_derive.proofs.PendingLemmas.{new_finish, new_pending, new_steps, finish_last, call_some}
use Rattle.naga_oil_derive.proofs.import.open.Goals as goal

-- ---- a name that is known

pub returns-then-is_some-clause-value : goal.returns-then-is_some-clause-value
returns-then-is_some-clause-value c =
    let source = c.args.source.now in
    let fs = c.args.functions.now in
    let k = c.args.handle in
    let m = value_of source in
    let d = c.args.copying.now.maps.offset in
    let s = import_state c.args.copying.now.maps c.args.copying.now.target fs in
    let there : is_some (callee_at fs.names source.functions k) ≡ true = ap is_some (callee_from fs.names source.functions k c.in-Some.callee.now c.in-Some.ensures ∙ sym c.known_as.ensures) ∙ sym c.is_some.ensures ∙ c.if-is_some.true in
    ap (λ u. complete_all m d u c.args.pending.now.items) (known c.args.depth m d s k (ap is_some (callee_value source fs k) ∙ there))

pub returns-then-is_some-clause-fewer : goal.returns-then-is_some-clause-fewer
returns-then-is_some-clause-fewer c = let h = call_some c.args.depth (value_of c.args.source.now) c.args.handle in omega (arith, h)

-- ---- one that isn't

pub new-requires : goal.new-requires
new-requires c =
    let fs = c.args.source.now.functions in
    let f = c.in-Some.callee.now in
    let k = c.args.handle in
    let at : slice_get fs k ≡ Some (f, c.get_span-span.result) = entry_at fs k f c.get_span-span.result c.in-Some.ensures c.get_span-span.ensures in
    let unknown = callee_from c.args.functions.now.names fs k f c.in-Some.ensures ∙ sym c.known_as.ensures ∙ none_of c.known_as.result c.is_some.result c.is_some.ensures c.if-is_some.false in
    (unknown_callee c.args.source.now c.args.functions.now c.args.depth k (f, c.get_span-span.result) unknown at c.requires.answerable.1).3.form

pub returns-clause-pending : goal.returns-clause-pending
returns-clause-pending c =
    let source = c.args.source.now in
    let own = c.args.functions.now in
    let fs = source.functions in
    let f = c.in-Some.callee.now in
    let k = c.args.handle in
    let span = c.get_span-span.result in
    let p = c.in_ok-added.added in
    let at : slice_get fs k ≡ Some (f, span) = entry_at fs k f span c.in-Some.ensures c.get_span-span.ensures in
    let unknown = callee_from own.names fs k f c.in-Some.ensures ∙ sym c.known_as.ensures ∙ none_of c.known_as.result c.is_some.result c.is_some.ensures c.if-is_some.false in
    let there = unknown_callee source own c.args.depth k (f, span) unknown at c.requires.answerable.1 in
    let same : there.0 ≡ c.args.depth - 1 = omega (arith, there.1) in
    let form : IsImportable source own (c.args.depth - 1) f = subst (λ n. IsImportable source own n f) same there.3 in
    let one : IsPending source own p = new_pending source own (c.args.depth - 1) f span p c.in_ok-added.ensures form there.2 in
    subst (All (IsPending source own)) (sym c.in_ok-push.ensures.items) (All-append (IsPending source own) c.args.pending.now.items (p ∷ []) c.requires.pending (All-cons (IsPending source own) p [] one (All-nil (IsPending source own))))

pub returns-clause-value : goal.returns-clause-value
returns-clause-value c =
    let source = c.args.source.now in
    let own = c.args.functions.now in
    let fs = source.functions in
    let f = c.in-Some.callee.now in
    let k = c.args.handle in
    let span = c.get_span-span.result in
    let p = c.in_ok-added.added in
    let ps = c.args.pending.now.items in
    let m = value_of source in
    let maps = c.args.copying.now.maps in
    let s = import_state maps c.args.copying.now.target own in
    let n = c.args.depth - 1 in
    let at : slice_get fs k ≡ Some (f, span) = entry_at fs k f span c.in-Some.ensures c.get_span-span.ensures in
    let none : known_as own.names f.name ≡ None = sym c.known_as.ensures ∙ none_of c.known_as.result c.is_some.result c.is_some.ensures c.if-is_some.false in
    let unknown = callee_from own.names fs k f c.in-Some.ensures ∙ none in
    let there = unknown_callee source own c.args.depth k (f, span) unknown at c.requires.answerable.1 in
    let same : there.0 ≡ n = omega (arith, there.1) in
    let deep : c.args.depth ≡ suc n = omega (arith, there.1) in
    let form : IsImportable source own n f = subst (λ x. IsImportable source own x f) same there.3 in
    let called = called_fresh c.args.depth n m maps.offset s k (entry_of (function_value f) span) deep (functions_at source k ∙ ap (option_map seen) at) (sym (known_same own.names f.name) ∙ none) in
    let new = new_finish source c.args.copying.now.target maps own maps.offset n f span p c.requires.ranked c.requires.copying form c.in_ok-added.ensures in
    ap (complete_all m maps.offset s) c.in_ok-push.ensures.items ∙ finish_last m maps.offset s ps p ∙ ap (λ u. complete_all m maps.offset u ps) (new ∙ sym called)

pub returns-clause-fewer : goal.returns-clause-fewer
returns-clause-fewer c =
    let source = c.args.source.now in
    let own = c.args.functions.now in
    let fs = source.functions in
    let f = c.in-Some.callee.now in
    let k = c.args.handle in
    let span = c.get_span-span.result in
    let p = c.in_ok-added.added in
    let ps = c.args.pending.now.items in
    let m = value_of source in
    let at : slice_get fs k ≡ Some (f, span) = entry_at fs k f span c.in-Some.ensures c.get_span-span.ensures in
    let unknown = callee_from own.names fs k f c.in-Some.ensures ∙ sym c.known_as.ensures ∙ none_of c.known_as.result c.is_some.result c.is_some.ensures c.if-is_some.false in
    let there = unknown_callee source own c.args.depth k (f, span) unknown at c.requires.answerable.1 in
    let deep : c.args.depth ≡ suc (c.args.depth - 1) = omega (arith, there.1) in
    let less = new_steps source (c.args.depth - 1) c.args.depth k f span p c.in_ok-added.ensures deep at in
    let all : sum_by (pending_steps m) c.push.new.self.items ≡ sum_by (pending_steps m) ps + pending_steps m p = ap (sum_by (pending_steps m)) c.in_ok-push.ensures.items ∙ sum_by_push (pending_steps m) ps p in
    omega (arith, less, all)
