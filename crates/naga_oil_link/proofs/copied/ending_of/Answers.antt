use Rattle.std.proofs.Common.{◌≡◌, ℕ, nat_eq, Bool, true, List, [], ◌∷◌, ◌&&◌, if◌then◌else◌, sym, ap, ◌∙◌, String, Global, string_bytes}
use Rattle.std.proofs.lemmas.Map.Iter.{rest_more}
use Rattle.std.specs.List.{ends_with, list_all}
use Rattle.naga_oil_words.specs.Texts.{texts}
use Rattle.naga_oil_link.specs.CopiedBuild.{ending_of}
use Rattle.naga_oil_link.proofs.copied.ending_of.Goals as goal

pub loop-name-preserved : goal.loop-name-preserved
loop-name-preserved c =
    let d = c.args.decoration.now in
    let name = string_bytes c.in-Some.name.now in
    let next = c.next.new.self in
    let all = list_all (λ (n : List ℕ). ends_with nat_eq n d) (texts next) in
    let step : c.loop-name.name-iterator ≡ c.in-Some.name.now ∷ next = rest_more (λ x. x.now) _ _ _ _ c.in-Some.is c.next.ensures.steps in
    let ends : ends_with nat_eq name d ≡ true = ap (λ ys. ends_with nat_eq ys d) (sym (c.as_bytes.ensures.value ∙ c.as_str.ensures.value)) ∙ ap (ends_with nat_eq c.as_bytes.result.now) (sym c.as_bytes-in-loop-name.ensures.value) ∙ sym c.if-not-ends_with.ensures.value in
    ap (λ (b : Bool). if b && all then d else []) (sym ends) ∙ ap (λ (ks : List (String Global)). ending_of (texts ks) d) (sym step) ∙ c.loop-name.invariant
