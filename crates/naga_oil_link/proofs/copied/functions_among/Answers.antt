use Rattle.std.proofs.Common.{Bool, Vec, Global, Bor, All, sym, ap, subst, ◌∙◌, arith}
use Rattle.std.proofs.lemmas.List.{map-append}
use Rattle.std.proofs.lemmas.List.Elements.{All-push}
use Rattle.naga_oil_ir.specs.ModuleValue.{FunctionValue}
use Rattle.naga_oil_ir.specs.declared.module.Function.{Function}
use Rattle.naga_oil_ir.specs.declared.span.Span.{Span}
use Rattle.naga_oil_words.specs.Texts.{texts}
use Rattle.naga_oil_link.specs.CopiedBuild.{has_name_among}
use Rattle.naga_oil_link.specs.CopySources.{IsFunctionOf, shown_function, shown_functions}
use Rattle.naga_oil_link.proofs.CopiedLemmas.{passing_more, passing_left}
use Rattle.naga_oil_link.proofs.SourceLemmas.{item_at}
use Rattle.naga_oil_link.proofs.copied.functions_among.Goals.{then-has_name_ending+in_ok-push, else-has_name_ending}
use Rattle.naga_oil_link.proofs.copied.functions_among.Goals as goal

pub loop-item-preserved : goal.loop-item-preserved
loop-item-preserved c =
    let named : FunctionValue × Span → Bool = λ f. has_name_among (texts c.args.names.now.keys) f.0.name in
    let IsHere : Bor (Function × Span) → Type 0 = λ f. IsFunctionOf c.args.source.now f.now in
    let fs = c.as_slice-item-items.result.now in
    let i = c.loop-item.item-index in
    let x = c.item-item.result in
    let before = c.loop-item.functions.items in
    elim c.if-has_name_ending.branch [
      | then-has_name_ending+in_ok-push w ↦
          let pushed = ap (λ (v : Vec (Bor (Function × Span)) Global). v.items) w.functions-is ∙ w.in_ok-push.ensures.items in
          record {
            there = subst (All IsHere) (sym pushed) (All-push IsHere before _ c.loop-item.invariant.there (item_at c.args.source.now fs i x c.as_slice-item-items.ensures (omega arith) c.item-item.is));
            functions = passing_more shown_function named fs i x (omega arith) c.item-item.is (shown_functions before) _ (sym c.has_name_ending.ensures ∙ w.if-has_name_ending.true) c.loop-item.invariant.functions (ap shown_functions pushed ∙ map-append (λ (f : Bor (Function × Span)). shown_function f.now) before _);
          }
      | else-has_name_ending w ↦
          let same = ap (λ (v : Vec (Bor (Function × Span)) Global). v.items) w.functions-is in
          record {
            there = subst (All IsHere) (sym same) c.loop-item.invariant.there;
            functions = ap shown_functions same ∙ passing_left shown_function named fs i x (omega arith) c.item-item.is (shown_functions before) (sym c.has_name_ending.ensures ∙ w.if-has_name_ending.false) c.loop-item.invariant.functions;
          }
    ]
