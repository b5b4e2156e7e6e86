use Rattle.std.proofs.Common.{subst, sym}
use Rattle.naga_oil_ir.specs.ModuleValue.{module_value, function_value}
use Rattle.naga_oil_mini_symbols.specs.Symbols.{line_of}
use Rattle.naga_oil_mini_front.specs.Making.{made}
use Rattle.naga_oil_mini_front.specs.Reader.{scope, Knows}
use Rattle.naga_oil_mini_front.proofs.ReaderLemmas.{function_named, names_with_function}
use Rattle.naga_oil_mini_front.proofs.reader.Reader.add_function.Goals as goal

pub returns-clause-known : goal.returns-clause-known
returns-clause-known c =
    let n = c.in-Opens.name.now in
    let at = c.args.self.now.span in
    let m = module_value c.args.self.now.module_ in
    let ps = c.read_parameters.new.names in
    let named = function_named n ps (made (scope m ps) at (line_of c.in_ok-body.body.now)) (function_value c.in_ok-function.function) c.in_ok-function.ensures in
    let room = c.make_room.new.self in
    let known : Knows room = subst Knows (sym c.make_room.ensures) c.requires.known in
    (known.0, known.1, names_with_function room.module_.functions c.append.new.self c.in_ok-function.function room.span n _ _ known.2 c.in_ok-push.ensures.names c.in_ok-append.ensures.appended named)
