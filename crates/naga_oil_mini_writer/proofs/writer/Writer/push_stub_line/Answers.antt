use Rattle.std.proofs.Common.{◌≡◌, [], Some, Ok, Err, map, string_bytes, cond, sym, ap, ◌∙◌}
use Rattle.std.proofs.lemmas.Result.{err_from_is_err_and}
use Rattle.naga_oil_ir.specs.ModuleValue.{argument_value, function_value}
use Rattle.naga_oil_mini_writer.specs.Writer.{body_words, parameter_words, with_header}
use Rattle.naga_oil_mini_writer.proofs.WriterLemmas.{line_written, stub_written}
use Rattle.naga_oil_mini_writer.proofs.writer.Writer.push_stub_line.Goals as goal

pub returns-in_err-push_stub-clause-text : goal.returns-in_err-push_stub-clause-text
returns-in_err-push_stub-clause-text c =
    let f = function_value c.args.function.now in
    let i = c.args.self.now.items in
    let n = c.in_ok-name.name.now in
    let old = string_bytes c.args.self.now.text in
    let e = c.in_err-push_stub.field-0.0 in
    let header : with_header old n f.arguments ≡ Some (string_bytes c.push_header.new.out) = ap (λ xs. with_header old n (map argument_value xs)) (sym c.as_slice.ensures.value) ∙ c.in_ok-push_header.ensures in
    let used : body_words f ≡ Some [] = ap (λ b. cond b (Some []) (parameter_words f.arguments)) c.requires.stub in
    let p = err_from_is_err_and c.from_residual-in_err-push_stub.result c.from_residual-in_err-push_stub.ensures.1 in
    rw (p.1, p.2) (stub_written i f old (string_bytes c.push_stub.new.self.text) c.requires.stub (Err e) (line_written i f n c.in_ok-name.ensures [] used old (string_bytes c.push_header.new.out) (string_bytes c.push_stub.new.self.text) header (Err e) (c.in_err-push_stub.ensures.text [])))

pub returns-clause-text : goal.returns-clause-text
returns-clause-text c =
    let f = function_value c.args.function.now in
    let i = c.args.self.now.items in
    let n = c.in_ok-name.name.now in
    let old = string_bytes c.args.self.now.text in
    let header : with_header old n f.arguments ≡ Some (string_bytes c.push_header.new.out) = ap (λ xs. with_header old n (map argument_value xs)) (sym c.as_slice.ensures.value) ∙ c.in_ok-push_header.ensures in
    let used : body_words f ≡ Some [] = ap (λ b. cond b (Some []) (parameter_words f.arguments)) c.requires.stub in
    let r = Ok c.in_ok-push_stub.field-0 in
    stub_written i f old (string_bytes c.push_stub.new.self.text) c.requires.stub r (line_written i f n c.in_ok-name.ensures [] used old (string_bytes c.push_header.new.out) (string_bytes c.push_stub.new.self.text) header r (c.in_ok-push_stub.ensures.text []))
