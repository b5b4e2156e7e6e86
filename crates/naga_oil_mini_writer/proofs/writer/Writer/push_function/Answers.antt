use Rattle.std.proofs.Common.{◌≡◌, [], Some, map, string_bytes, true, false, cond, sym, ap, ◌∙◌, arith}
use Rattle.std.proofs.lemmas.Grind.{common_steps}
use Rattle.naga_oil_ir.specs.ModuleValue.{argument_value, function_value}
use Rattle.naga_oil_mini_writer.specs.Writer.{body_words, is_empty, parameter_words, with_header}
use Rattle.naga_oil_mini_writer.proofs.WriterLemmas.{block_is_empty, line_written}
use Rattle.naga_oil_mini_writer.proofs.writer.Writer.push_function.Goals as goal

pub push_stub-requires : goal.push_stub-requires
push_stub-requires c = let tokens = block_is_empty c.args.function.now.body in grind (arith, common_steps)

pub returns-then-is_empty-clause-text : goal.returns-then-is_empty-clause-text
returns-then-is_empty-clause-text c =
    let f = function_value c.args.function.now in
    let n = c.known_name-name.result.now in
    let old = string_bytes c.args.self.now.text in
    let header : with_header old n f.arguments ≡ Some (string_bytes c.push_header.new.out) = ap (λ xs. with_header old n (map argument_value xs)) (sym c.as_slice.ensures.value) ∙ c.in_ok-push_header.ensures in
    let tokens = block_is_empty c.args.function.now.body in
    let none : is_empty f.body ≡ true = grind (arith, common_steps) in
    let used : body_words f ≡ Some [] = ap (λ b. cond b (Some []) (parameter_words f.arguments)) none in
    line_written _ f n c.known_name-name.ensures [] used old _ _ header _ (c.push_stub.ensures.text [])

pub returns-clause-text : goal.returns-clause-text
returns-clause-text c =
    let f = function_value c.args.function.now in
    let n = c.known_name-name.result.now in
    let ps = c.in_ok-parameters.parameters in
    let old = string_bytes c.args.self.now.text in
    let header : with_header old n f.arguments ≡ Some (string_bytes c.push_header.new.out) = ap (λ xs. with_header old n (map argument_value xs)) (sym c.as_slice.ensures.value) ∙ c.in_ok-push_header.ensures in
    let tokens = block_is_empty c.args.function.now.body in
    let some : is_empty f.body ≡ false = grind (arith, common_steps) in
    let words : parameter_words f.arguments ≡ Some ps = grind (arith, common_steps) in
    let used : body_words f ≡ Some ps = ap (λ b. cond b (Some []) (parameter_words f.arguments)) some ∙ words in
    line_written _ f n c.known_name-name.ensures ps used old _ _ header _ c.push_body.ensures.text
