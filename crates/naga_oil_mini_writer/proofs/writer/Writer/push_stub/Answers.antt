use Rattle.std.proofs.Common.{◌≡◌, ◌∷◌, [], sym, ◌∙◌, arith}
use Rattle.std.proofs.lemmas.Grind.{common_steps}
use Rattle.naga_oil_ir.specs.ModuleValue.{function_value}
use Rattle.naga_oil_mini_writer.specs.Order.{anywhere}
use Rattle.naga_oil_mini_writer.specs.Writer.{when, is_empty, body_line}
use Rattle.naga_oil_mini_writer.proofs.WriterLemmas.{no_body}
use Rattle.naga_oil_mini_writer.proofs.writer.Writer.push_stub.Goals as goal

pub returns-then-len-ne0-clause-text : goal.returns-then-len-ne0-clause-text
returns-then-len-ne0-clause-text c ps =
    let f = function_value c.args.function.now in
    let plain = sym c.is_plain_function.ensures ∙ c.if-not-is_plain_function.false in
    let line : body_line c.args.self.now.items ps f ≡ when (is_empty f.local_variables) (10 ∷ [], anywhere) = no_body c.args.self.now.items ps f c.requires.stub plain in
    rw line (grind (arith, common_steps))

pub returns-clause-text : goal.returns-clause-text
returns-clause-text c ps =
    let f = function_value c.args.function.now in
    let plain = sym c.is_plain_function.ensures ∙ c.if-not-is_plain_function.false in
    let line : body_line c.args.self.now.items ps f ≡ when (is_empty f.local_variables) (10 ∷ [], anywhere) = no_body c.args.self.now.items ps f c.requires.stub plain in
    (10 ∷ [], rw line (grind (arith, common_steps)), grind (arith, common_steps))
