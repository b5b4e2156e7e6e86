use Rattle.std.proofs.Common.{◌≡◌, reverse, string_bytes, false, sym, ap, subst, ◌∙◌, arith}
use Rattle.std.proofs.lemmas.Grind.{common_steps}
use Rattle.naga_oil_ir.specs.ModuleValue.{function_value}
use Rattle.naga_oil_mini_writer.specs.NotWritten.{Writes}
use Rattle.naga_oil_mini_writer.specs.Writer.{is_empty, end_text}
use Rattle.naga_oil_mini_writer.proofs.WriterLemmas.{block_is_empty, some_body}
use Rattle.naga_oil_mini_writer.proofs.writer.Writer.push_body.Goals as goal

pub push_stub-requires : goal.push_stub-requires
push_stub-requires c = let tokens = block_is_empty c.args.function.now.body in grind (arith, common_steps)

pub returns-then-is_empty-clause-text : goal.returns-then-is_empty-clause-text
returns-then-is_empty-clause-text c = c.push_stub.ensures.text c.args.parameters

pub returns-clause-text : goal.returns-clause-text
returns-clause-text c =
    let i = c.args.self.now.items in
    let ps = c.args.parameters in
    let f = function_value c.args.function.now in
    let plain = sym c.is_plain_function.ensures ∙ c.if-not-is_plain_function.false in
    let tokens = block_is_empty c.args.function.now.body in
    let some : is_empty f.body ≡ false = grind (arith, common_steps) in
    let line = some_body i ps f some plain in
    let turned : c.deref.result.now ≡ reverse f.body = c.deref.ensures.value ∙ c.reverse.ensures.items ∙ ap reverse c.in_ok-tokens.ensures in
    subst (λ o. Writes (λ r. r) c.push_end.result o (string_bytes c.args.self.now.text) (string_bytes c.push_end.new.self.text)) (ap (end_text i ps f) turned ∙ sym line) c.push_end.ensures.text
