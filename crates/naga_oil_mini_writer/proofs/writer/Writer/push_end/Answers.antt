use Rattle.std.proofs.Common.{◌≡◌, ◌++◌, ◌∷◌, [], map, reverse, Some, string_bytes, arith}
use Rattle.std.proofs.lemmas.Grind.{common_steps}
use Rattle.naga_oil_ir.specs.ModuleValue.{function_value}
use Rattle.naga_oil_mini_symbols.specs.Symbols.{line_of}
use Rattle.naga_oil_mini_writer.specs.BodyReader.{locals_of, end_of}
use Rattle.naga_oil_mini_writer.specs.Writer.{local_words, opening, symbols_text}
use Rattle.naga_oil_mini_writer.proofs.WriterLemmas.{end_written}
use Rattle.naga_oil_mini_writer.proofs.writer.Writer.push_end.Goals as goal

pub returns-clause-text : goal.returns-clause-text
returns-clause-text c =
    let f = function_value c.args.function.now in
    let ls = locals_of c.in_ok-locals.locals.items in
    let ss = reverse (line_of c.in_ok-symbols.symbols.items) in
    let words : local_words f.local_variables ≡ Some ls = grind (arith, common_steps) in
    let named : c.in_ok-local_names.field-0 ≡ map (λ l. l.0) ls = grind (arith, common_steps) in
    let read : end_of (record { expressions = f.expressions; names = record { parameters = c.args.parameters; locals = c.in_ok-local_names.field-0 }; items = c.args.self.now.items }) ls c.args.tokens.now ≡ Some (ss, c.in_ok-symbols.room) = grind (arith, common_steps) in
    let text : string_bytes c.push.new.self ≡ string_bytes c.args.self.now.text ++ (opening ls ++ symbols_text ss ++ 10 ∷ []) = grind (arith, common_steps) in
    (opening ls ++ symbols_text ss ++ 10 ∷ [], end_written _ _ f _ ls _ ss _ words named read, text)
