use Rattle.std.proofs.Common.{◌≡◌, ◌∙◌, true, false, map, nat_eq, Ok, Err, string_bytes, refl, ap, sym}
use Rattle.std.specs.Cmp.Lexicographic.{pointwise}
use Rattle.std.proofs.lemmas.Bool.{false≢true}
use Rattle.naga_oil_ir.specs.ModuleValue.{function_value}
use Rattle.naga_oil_ir.specs.declared.module.FunctionArgument.{FunctionArgument}
use Rattle.naga_oil_redirect.specs.Redirected.{same_arguments}
use Rattle.naga_oil_ir.specs.RedirectFault.{argument_mismatch, return_type_mismatch}
use Rattle.naga_oil_redirect.proofs.RedirectLemmas.{matched_found, arguments_of, compared_as}
use Rattle.naga_oil_redirect.proofs.redirect.Redirector.matched.Goals as goal
use Rattle.naga_oil_redirect.proofs.redirect.Redirector.matched.Goals.{else-arguments-via-then-arguments+else-same_results, else-arguments-via-else-arguments, then-arguments-2, else-arguments-2}

pub returns-then-same_results-clause-matched : goal.returns-then-same_results-clause-matched
returns-then-same_results-clause-matched c =
    let f = c.in_ok-from.function.now in
    let g = c.in_ok-to.other.now in
    let alike : same_arguments (function_value f) (function_value g) ≡ true = arguments_of f g ∙ ap (λ xs. pointwise nat_eq (map (λ (a : FunctionArgument). a.ty) xs) (map (λ (a : FunctionArgument). a.ty) g.arguments.items)) (sym c.deref.ensures.value) ∙ ap (λ ys. pointwise nat_eq (map (λ (a : FunctionArgument). a.ty) c.deref.result.now) (map (λ (a : FunctionArgument). a.ty) ys)) (sym c.deref-2.ensures.value) ∙ sym c.same_arguments-arguments.ensures ∙ c.if-arguments.true in
    let found = matched_found c.args.self.now.functions c.args.original.now c.args.replacement.now (c.in_ok-from.from, function_value f) (c.in_ok-to.to, function_value g) c.in_ok-from.ensures.found c.in_ok-to.ensures.found in
    found ∙ compared_as c.args.original.now c.args.replacement.now (c.in_ok-from.from, function_value f) (c.in_ok-to.to, function_value g) true true alike (sym c.same_results.ensures ∙ c.if-same_results.true) ∙ ap (λ i. Ok (i, c.in_ok-to.to)) (sym c.new.ensures) ∙ ap (λ k. Ok (c.new.result, k)) (sym c.new-then-same_results.ensures)

pub returns-clause-matched : goal.returns-clause-matched
returns-clause-matched c =
    let f = c.in_ok-from.function.now in
    let g = c.in_ok-to.other.now in
    let o = c.args.original.now in
    let r = c.args.replacement.now in
    let alike : same_arguments (function_value f) (function_value g) ≡ c.same_arguments-arguments.result = arguments_of f g ∙ ap (λ xs. pointwise nat_eq (map (λ (a : FunctionArgument). a.ty) xs) (map (λ (a : FunctionArgument). a.ty) g.arguments.items)) (sym c.deref.ensures.value) ∙ ap (λ ys. pointwise nat_eq (map (λ (a : FunctionArgument). a.ty) c.deref.result.now) (map (λ (a : FunctionArgument). a.ty) ys)) (sym c.deref-2.ensures.value) ∙ sym c.same_arguments-arguments.ensures in
    let found = matched_found c.args.self.now.functions o r (c.in_ok-from.from, function_value f) (c.in_ok-to.to, function_value g) c.in_ok-from.ensures.found c.in_ok-to.ensures.found in
    elim c.if-arguments-2.branch [
      | then-arguments-2 w ↦ elim c.else-arguments.branch [
        | else-arguments-via-then-arguments+else-same_results v ↦ rw w.result-is (found ∙ compared_as o r (c.in_ok-from.from, function_value f) (c.in_ok-to.to, function_value g) true false (alike ∙ w.if-arguments-2.true) (sym v.same_results.ensures ∙ v.if-same_results.false) ∙ ap (λ n. Err (return_type_mismatch n o)) (sym c.in_ok-replacement.ensures.ok) ∙ ap (λ n. Err (return_type_mismatch (string_bytes c.in_ok-replacement.replacement) n)) (sym c.in_ok-original.ensures.ok))
        | else-arguments-via-else-arguments v ↦ absurd (false≢true (sym v.if-arguments.false ∙ w.if-arguments-2.true))
      ]
      | else-arguments-2 w ↦ rw w.result-is (found ∙ compared_as o r (c.in_ok-from.from, function_value f) (c.in_ok-to.to, function_value g) false _ (alike ∙ w.if-arguments-2.false) refl ∙ ap (λ n. Err (argument_mismatch n o)) (sym c.in_ok-replacement.ensures.ok) ∙ ap (λ n. Err (argument_mismatch (string_bytes c.in_ok-replacement.replacement) n)) (sym c.in_ok-original.ensures.ok))
    ]
