use Rattle.std.proofs.Common.{arith, ◌∙◌, refl, sym, ap, subst, map, take, take_all, List, ℕ, nat_eq, ◌∷◌, ◌++◌, [], ◌≡◌, slice_get, Some}
use Rattle.std.specs.List.{IsDistinct}
use Rattle.std.specs.HashSet as bag
use Rattle.std.specs.Cow.{cow_str_bytes}
use Rattle.std.specs.Cmp.Lexicographic.{pointwise}
use Rattle.std.proofs.lemmas.List.{map_more}
use Rattle.std.proofs.lemmas.Bool.{false≢true}
use Rattle.naga_oil_ir.specs.declared.module.Function.{Function}
use Rattle.naga_oil_ir.specs.declared.span.Span.{Span}
use Rattle.naga_oil_form.specs.NameForm.{function_name}
use Rattle.naga_oil_form.specs.WellFormed.{NamedForm}
use Rattle.naga_oil_words.specs.Marks.{with_decoration}
use Rattle.naga_oil_form.proofs.FormLemmas.{at_place}
use Rattle.naga_oil_form.proofs.FunctionLemmas.{each_more, each_all, list_form, list_each}
use Rattle.naga_oil_form.proofs.NameFormLemmas.{AreSeen, seen_none, seen_push, seen_twice, divided, not_yes, not_no}
use Rattle.naga_oil_form.proofs.form_names.functions_are_fine.Goals as goal

pub loop-place-init : goal.loop-place-init
loop-place-init c = record { each = λ k e h at. absurd (omega arith); seen = subst (λ ks. AreSeen cow_str_bytes ks []) (sym c.in_ok-names.ensures.empty) (seen_none cow_str_bytes) }

pub returns-then-not-branch : goal.returns-then-not-branch
returns-then-not-branch c =
    let fs = c.as_slice-functions.result.now in
    let at = at_place fs c.loop-place.place c.index-functions-place.result (omega arith) c.index-functions-place.is in
    (λ h. absurd (false≢true h), λ r. sym c.if-not-branch.true ∙ c.in_ok-item_is_fine.ensures.1 (list_each c.args.of.now c.args.decoration.now c.args.text_len r c.loop-place.place c.index-functions-place.result (ap (λ xs. slice_get xs c.loop-place.place) (sym c.as_slice-functions.ensures) ∙ at)))

pub returns-then-not-branch-2 : goal.returns-then-not-branch-2
returns-then-not-branch-2 c =
    let d = c.args.decoration.now in
    let told : Function × Span → List ℕ = λ e. with_decoration d (function_name e.0) in
    let fs = c.as_slice-functions.result.now in
    let ts = map told (take c.loop-place.place fs) in
    let r = divided told fs c.loop-place.place c.index-functions-place.result (omega arith) in
    let text = c.in_ok-name.ensures ∙ ap (with_decoration d) c.name_or.ensures ∙ ap told c.index-functions-place.is in
    let whole = r.1 ∙ ap (λ t. ts ++ t ∷ r.0) (sym text) in
    let there = not_no _ _ c.in_ok-insert.ensures.added c.if-not-branch-2.true in
    (λ h. absurd (false≢true h), λ f. absurd (false≢true (sym (seen_twice cow_str_bytes c.loop-place.names.keys c.in_ok-name.name ts r.0 c.loop-place.invariant.seen there (subst (IsDistinct (pointwise nat_eq)) whole (subst (λ xs. IsDistinct (pointwise nat_eq) (map told xs)) (sym c.as_slice-functions.ensures) f.distinct))))))

pub loop-place-preserved : goal.loop-place-preserved
loop-place-preserved c =
    let d = c.args.decoration.now in
    let told : Function × Span → List ℕ = λ e. with_decoration d (function_name e.0) in
    let fs = c.as_slice-functions.result.now in
    let P : ℕ → Function × Span → Type 0 = λ k e. NamedForm c.args.of.now k c.args.text_len e in
    let ts = map told (take c.loop-place.place fs) in
    let more = map_more told fs c.loop-place.place c.index-functions-place.result (omega arith) in
    let text = c.in_ok-name.ensures ∙ ap (with_decoration d) c.name_or.ensures ∙ ap told c.index-functions-place.is in
    let absent = not_yes _ _ c.in_ok-insert.ensures.added c.if-not-branch-2.false in
    let put = subst (bag.PutsKey c.loop-place.names c.insert.new.self c.in_ok-name.name) c.if-not-branch-2.false c.in_ok-insert.ensures.keys in
    record {
      each = each_more P fs c.loop-place.place c.index-functions-place.result (omega arith) c.index-functions-place.is (c.in_ok-item_is_fine.ensures.0 c.if-not-branch.false) c.loop-place.invariant.each;
      seen = subst (AreSeen cow_str_bytes c.insert.new.self.keys) (ap (λ t. ts ++ t ∷ []) text ∙ sym more) (seen_push cow_str_bytes c.loop-place.names.keys c.insert.new.self.keys c.in_ok-name.name ts c.loop-place.invariant.seen absent put);
    }

pub returns : goal.returns
returns c =
    let m = c.args.of.now in
    let d = c.args.decoration.now in
    let n = c.args.text_len in
    let told : Function × Span → List ℕ = λ e. with_decoration d (function_name e.0) in
    let P : ℕ → Function × Span → Type 0 = λ k e. NamedForm m k n e in
    let fs = c.as_slice-functions.result.now in
    let i = c.loop-place.invariant in
    let each = each_all P fs c.loop-place.place i.each (omega arith) in
    let seen = subst (λ xs. IsDistinct (pointwise nat_eq) (map told xs)) (take_all c.loop-place.place fs (omega arith)) i.seen.distinct in
    let form = list_form m d n (subst (λ xs. (k : ℕ) (e : Function × Span) → slice_get xs k ≡ Some e → P k e) c.as_slice-functions.ensures each) (subst (λ xs. IsDistinct (pointwise nat_eq) (map told xs)) c.as_slice-functions.ensures seen) in
    (λ h. form, λ h. refl)
