use Rattle.std.proofs.Common.{◌≡◌, ◌+◌, ◌∷◌, [], suc, drop, Some, option_map, string_bytes, true, false, ap, sym, ◌∙◌, arith, drop-cons}
use Rattle.std.proofs.lemmas.Grind.{common_steps}
use Rattle.std.proofs.lemmas.Result.{err_from_is_err_and}
use Rattle.naga_oil_ir.specs.ModuleValue.{function_value}
use Rattle.naga_oil_mini_writer.specs.Writer.{counted, function_values, is_empty, one_more, stub_text, stubs_text}
use Rattle.naga_oil_mini_writer.proofs.WriterLemmas.{block_is_empty, next_stub, stub_lacks, stubs_end, stubs_more}
use Rattle.naga_oil_mini_writer.proofs.writer.Writer.push_stubs.Goals as goal

pub returns-then-not-is_empty-clause-text : goal.returns-then-not-is_empty-clause-text
returns-then-not-is_empty-clause-text c =
    let fs = c.as_slice-function-items.result.now in
    let i = c.loop-function.function-index in
    let x = c.function-item.result in
    let next : suc i ≡ i + 1 = omega arith in
    let cut : drop i fs ≡ x ∷ drop (i + 1) fs = drop-cons fs i x c.loop-function-test.true ∙ (λ j. sym c.function-item.is j ∷ drop (next j) fs) in
    let tokens = block_is_empty x.0.body in
    let some : is_empty (function_value x.0).body ≡ false = grind (arith, common_steps) in
    let ended : stubs_text (function_values (drop i fs)) ≡ Some ([], 0) = ap (λ xs. stubs_text (function_values xs)) cut ∙ stubs_end (function_value x.0, x.1) (function_values (drop (i + 1) fs)) some in
    grind (arith, common_steps)

pub returns-in_err-push_stub_line-clause-text : goal.returns-in_err-push_stub_line-clause-text
returns-in_err-push_stub_line-clause-text c =
    let fs = c.as_slice-function-items.result.now in
    let i = c.loop-function.function-index in
    let x = c.function-item.result in
    let f = function_value x.0 in
    let rest = stubs_text (function_values (drop (i + 1) fs)) in
    let text = string_bytes c.loop-function.self.text in
    let next : suc i ≡ i + 1 = omega arith in
    let cut : drop i fs ≡ x ∷ drop (i + 1) fs = drop-cons fs i x c.loop-function-test.true ∙ (λ j. sym c.function-item.is j ∷ drop (next j) fs) in
    let tokens = block_is_empty x.0.body in
    let none : is_empty f.body ≡ true = grind (arith, common_steps) in
    let more : stubs_text (function_values (drop i fs)) ≡ one_more (stub_text f) rest = ap (λ xs. stubs_text (function_values xs)) cut ∙ stubs_more (f, x.1) (function_values (drop (i + 1) fs)) none in
    let p = err_from_is_err_and c.from_residual.result c.from_residual.ensures.1 in
    rw (p.1, p.2) (stub_lacks text (string_bytes c.args.self.now.text) c.loop-function.count (stub_text f) rest (stubs_text (function_values c.args.of.now.functions)) (ap (option_map (counted (text, c.loop-function.count))) (sym more) ∙ c.loop-function.invariant.text) c.in_err-push_stub_line.field-0.0 c.in_err-push_stub_line.ensures.text)

pub loop-function-preserved : goal.loop-function-preserved
loop-function-preserved c =
    let fs = c.as_slice-function-items.result.now in
    let i = c.loop-function.function-index in
    let x = c.function-item.result in
    let f = function_value x.0 in
    let rest = stubs_text (function_values (drop (i + 1) fs)) in
    let text = string_bytes c.loop-function.self.text in
    let next : suc i ≡ i + 1 = omega arith in
    let cut : drop i fs ≡ x ∷ drop (i + 1) fs = drop-cons fs i x c.loop-function-test.true ∙ (λ j. sym c.function-item.is j ∷ drop (next j) fs) in
    let tokens = block_is_empty x.0.body in
    let none : is_empty f.body ≡ true = grind (arith, common_steps) in
    let more : stubs_text (function_values (drop i fs)) ≡ one_more (stub_text f) rest = ap (λ xs. stubs_text (function_values xs)) cut ∙ stubs_more (f, x.1) (function_values (drop (i + 1) fs)) none in
    let written = next_stub text (string_bytes c.push_stub_line.new.self.text) c.loop-function.count (stub_text f) rest c.in_ok-push_stub_line.ensures.text ∙ ap (option_map (counted (text, c.loop-function.count))) (sym more) ∙ c.loop-function.invariant.text in
    record { text = written; items = grind (arith, common_steps); count = grind (arith, common_steps) }
