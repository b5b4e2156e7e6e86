use Rattle.std.proofs.Common.{◌≡◌, ◌≤◌, ◌++◌, Some, length, option_map, string_bytes, true, ap, sym, subst, ◌∙◌, arith}
use Rattle.std.specs.Option.{IfSome}
use Rattle.std.proofs.lemmas.Grind.{common_steps}
use Rattle.std.proofs.lemmas.Result.{err_from_is_err_and}
use Rattle.naga_oil_ir.specs.ModuleValue.{module_value}
use Rattle.naga_oil_mini_writer.specs.NotWritten.{Finds}
use Rattle.naga_oil_mini_writer.specs.Order.{greatest_count}
use Rattle.naga_oil_mini_writer.specs.Writer.{rest_text, module_text, is_plain_module, ends_with_stubs}
use Rattle.naga_oil_mini_writer.proofs.WriterLemmas.{module_told, module_stubs, begin_lacks, stubs_lack, stubs_within}
use Rattle.naga_oil_mini_writer.proofs.writer.module_text.Goals as goal

pub returns-in_err-writer : goal.returns-in_err-writer
returns-in_err-writer c =
    let m = module_value c.args.of.now in
    let plain : is_plain_module m ≡ true = grind (arith, common_steps) in
    let p = err_from_is_err_and c.from_residual.result c.from_residual.ensures.1 in
    rw (p.1, p.2) (begin_lacks m plain c.in_err-writer.field-0.0 c.in_err-writer.ensures)

pub returns-in_err-stubs : goal.returns-in_err-stubs
returns-in_err-stubs c =
    let m = module_value c.args.of.now in
    let plain : is_plain_module m ≡ true = grind (arith, common_steps) in
    let p = err_from_is_err_and c.from_residual-in_err-stubs.result c.from_residual-in_err-stubs.ensures.1 in
    rw (p.1, p.2) (stubs_lack m plain c.in_err-stubs.field-0.0 c.in_err-stubs.ensures.text)

pub returns-then-ends_with_stubs : goal.returns-then-ends_with_stubs
returns-then-ends_with_stubs c =
    let m = module_value c.args.of.now in
    let w = c.in_ok-writer.writer in
    let plain : is_plain_module m ≡ true = grind (arith, common_steps) in
    let s = c.in_ok-stubs.ensures.text in
    let ends : ends_with_stubs m c.in_ok-stubs.stubs ≡ true = grind (arith, common_steps) in
    let few : c.in_ok-stubs.stubs ≤ greatest_count = omega arith in
    module_stubs m (string_bytes w.text, w.items) s.0 c.in_ok-stubs.stubs plain c.in_ok-writer.ensures s.1 ends few ∙ ap Some (sym s.2)

pub finished-requires : goal.finished-requires
finished-requires c =
    let m = module_value c.args.of.now in
    subst (λ o. IfSome o (λ s. s.1 ≤ length m.functions)) c.in_ok-stubs.ensures.text.1 (stubs_within m.functions)

pub returns : goal.returns
returns c =
    let m = module_value c.args.of.now in
    let w = c.in_ok-writer.writer in
    let plain : is_plain_module m ≡ true = grind (arith, common_steps) in
    let s = c.in_ok-stubs.ensures.text in
    let told = module_told m (string_bytes w.text, w.items) s.0 c.in_ok-stubs.stubs plain c.in_ok-writer.ensures s.1 in
    let v = c.push_stubs.new.self in
    let n = c.in_ok-stubs.stubs in
    let same : option_map (λ u. string_bytes v.text ++ u) (rest_text v.items m n) ≡ module_text m =
    ap (λ t. option_map (λ u. t ++ u) (rest_text v.items m n)) s.2 ∙ ap (λ i. option_map (λ u. (string_bytes w.text ++ s.0) ++ u) (rest_text i m n)) c.in_ok-stubs.ensures.items ∙ sym told in
    subst (λ o. Finds string_bytes c.finished.result o) same c.finished.ensures
