use Rattle.std.proofs.Common.{◌≡◌, ◌&&◌, ◌∷◌, Bool, true, false, List, Bor, Option, Some, None, not, is_some, option_map, sym, ap, ◌∙◌, String, Global, string_bytes}
use Rattle.std.proofs.lemmas.Map.Iter.{rest_more}
use Rattle.naga_oil_words.specs.Texts.{texts}
use Rattle.naga_oil_build.specs.Writeback.{NamedItem, have_come_back}
use Rattle.naga_oil_build.specs.WritebackView.{named_of, held}
use Rattle.naga_oil_build.specs.declared.writeback.NamedItem.{NamedItem as CodeItem}
use Rattle.naga_oil_build.proofs.WritebackLemmas.{copied_named}
use Rattle.naga_oil_build.proofs.writeback.have_come_back.Goals as goal

found : (o : Option (Bor CodeItem)) (h : Option NamedItem) (b : Bool) → option_map (λ i. named_of i.now) o ≡ h → is_some o ≡ b → is_some h ≡ b
found None h b e f = ap is_some (sym e) ∙ f
found (Some i) h b e f = ap is_some (sym e) ∙ f

pub returns-then-is_none : goal.returns-then-is_none
returns-then-is_none c =
    let back = c.args.back.now in
    let next = c.next.new.self in
    let step : c.loop-name.name-iterator ≡ c.in-Some.name.now ∷ next = rest_more (λ x. x.now) _ _ _ _ c.in-Some.is c.next.ensures.steps in
    let at : is_some (held back (string_bytes c.in-Some.name.now)) ≡ false = ap (λ n. is_some (held back n)) (sym c.as_str.ensures.value) ∙ found c.get.result (held back c.as_str.result.now) false (copied_named c.get.result ∙ ap (option_map named_of) c.get.ensures.value) (c.is_none.ensures ∙ ap not c.if-is_none.true) in
    sym (ap (λ (b : Bool). b && have_come_back (held back) (texts next)) at) ∙ ap (λ (ks : List (String Global)). have_come_back (held back) (texts ks)) (sym step) ∙ c.loop-name.invariant

pub loop-name-preserved : goal.loop-name-preserved
loop-name-preserved c =
    let back = c.args.back.now in
    let next = c.next.new.self in
    let step : c.loop-name.name-iterator ≡ c.in-Some.name.now ∷ next = rest_more (λ x. x.now) _ _ _ _ c.in-Some.is c.next.ensures.steps in
    let at : is_some (held back (string_bytes c.in-Some.name.now)) ≡ true = ap (λ n. is_some (held back n)) (sym c.as_str.ensures.value) ∙ found c.get.result (held back c.as_str.result.now) true (copied_named c.get.result ∙ ap (option_map named_of) c.get.ensures.value) (c.is_none.ensures ∙ ap not c.if-is_none.false) in
    sym (ap (λ (b : Bool). b && have_come_back (held back) (texts next)) at) ∙ ap (λ (ks : List (String Global)). have_come_back (held back) (texts ks)) (sym step) ∙ c.loop-name.invariant
