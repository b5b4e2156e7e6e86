use Rattle.std.proofs.Common.{arith, ◌∙◌, sym, ap, subst, map, take, List, ℕ, nat_eq, ◌∷◌, ◌++◌, []}
use Rattle.std.specs.List.{IsDistinct}
use Rattle.std.specs.HashSet as bag
use Rattle.std.specs.Cow.{cow_str_bytes}
use Rattle.std.specs.Cmp.Lexicographic.{pointwise}
use Rattle.std.proofs.lemmas.List.{map_more}
use Rattle.std.proofs.lemmas.Bool.{false≢true}
use Rattle.naga_oil_ir.specs.declared.module.EntryPoint.{EntryPoint}
use Rattle.naga_oil_form.specs.NameForm.{entry_name}
use Rattle.naga_oil_words.specs.Marks.{with_decoration}
use Rattle.naga_oil_form.proofs.NameFormLemmas.{AreSeen, seen_none, seen_push, seen_twice, divided, not_yes, not_no}
use Rattle.naga_oil_form.proofs.form_names.entries_are_distinct.Goals as goal

pub loop-entry-init : goal.loop-entry-init
loop-entry-init c = subst (λ ks. AreSeen cow_str_bytes ks []) (sym c.in_ok-names.ensures.empty) (seen_none cow_str_bytes)

pub returns-then-not-branch : goal.returns-then-not-branch
returns-then-not-branch c =
    let told : EntryPoint → List ℕ = λ e. with_decoration c.args.decoration.now (entry_name e.function) in
    let ts = map told (take c.loop-entry.entry-index c.args.entries.now) in
    let r = divided told c.args.entries.now c.loop-entry.entry-index c.entry-item.result (omega arith) in
    let text = c.in_ok-name.ensures ∙ ap (with_decoration c.args.decoration.now) c.name_or.ensures ∙ ap told c.entry-item.is in
    let whole = r.1 ∙ ap (λ t. ts ++ t ∷ r.0) (sym text) in
    let there = not_no _ _ c.in_ok-insert.ensures.added c.if-not-branch.true in
    (λ h. absurd (false≢true h), λ d. absurd (false≢true (sym (seen_twice cow_str_bytes c.loop-entry.names.keys c.in_ok-name.name ts r.0 c.loop-entry.invariant there (subst (IsDistinct (pointwise nat_eq)) whole d)))))

pub loop-entry-preserved : goal.loop-entry-preserved
loop-entry-preserved c =
    let told : EntryPoint → List ℕ = λ e. with_decoration c.args.decoration.now (entry_name e.function) in
    let ts = map told (take c.loop-entry.entry-index c.args.entries.now) in
    let more = map_more told c.args.entries.now c.loop-entry.entry-index c.entry-item.result (omega arith) in
    let text = c.in_ok-name.ensures ∙ ap (with_decoration c.args.decoration.now) c.name_or.ensures ∙ ap told c.entry-item.is in
    let absent = not_yes _ _ c.in_ok-insert.ensures.added c.if-not-branch.false in
    let put = subst (bag.PutsKey c.loop-entry.names c.insert.new.self c.in_ok-name.name) c.if-not-branch.false c.in_ok-insert.ensures.keys in
    subst (AreSeen cow_str_bytes c.insert.new.self.keys) (ap (λ t. ts ++ t ∷ []) text ∙ sym more) (seen_push cow_str_bytes c.loop-entry.names.keys c.insert.new.self.keys c.in_ok-name.name ts c.loop-entry.invariant absent put)
