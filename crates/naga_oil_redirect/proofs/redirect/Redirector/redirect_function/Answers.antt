use Rattle.std.proofs.Common.{◌<◌, length, map, ap, arith}
use Rattle.std.specs.BTreeSet.{contains_text}
use Rattle.std.proofs.lemmas.List.{length-map}
use Rattle.naga_oil_ir.specs.ModuleValue.{ModuleValue, FunctionValue, function_value, entry_value}
use Rattle.naga_oil_ir.specs.declared.module.Function.{Function}
use Rattle.naga_oil_ir.specs.declared.span.Span.{Span}
use Rattle.naga_oil_redirect.specs.Redirected.{function_values}
use Rattle.naga_oil_redirect.proofs.NamedCalls.{sends}
use Rattle.naga_oil_redirect.proofs.SentForm.{redirectable-sent}
use Rattle.naga_oil_redirect.proofs.redirect.Redirector.redirect_function.Goals as goal

pub invariant_of-self : goal.invariant_of-self
invariant_of-self c =
    let m = c.self.inside.module in
    let value : Function × Span → FunctionValue × Span = λ e. (function_value e.0, e.1) in
    let within : c.in_ok-from.to < length m.functions = omega (arith, c.in_ok-from.ensures.within, ap (λ (v : ModuleValue). length v.functions) c.self.view_is, length-map m.functions value) in
    redirectable-sent m c.send_functions.new.arena c.send_entries.new.entries c.in_ok-from.from c.in_ok-from.to (contains_text c.args.omit.now) within c.self.invariant c.send_functions.ensures c.send_entries.ensures

pub returns-clause-chain : goal.returns-clause-chain
returns-clause-chain c =
    (sends c.self.inside.module c.args.self.now c.args.original.now c.args.replacement.now (contains_text c.args.omit.now) (c.in_ok-from.from, c.in_ok-from.to) (function_values c.send_functions.new.arena) (map entry_value c.send_entries.new.entries.items) c.self.invariant c.self.view_is c.in_ok-from.ensures.matched c.send_functions.ensures c.send_entries.ensures).0

pub returns-clause-apart : goal.returns-clause-apart
returns-clause-apart c =
    (sends c.self.inside.module c.args.self.now c.args.original.now c.args.replacement.now (contains_text c.args.omit.now) (c.in_ok-from.from, c.in_ok-from.to) (function_values c.send_functions.new.arena) (map entry_value c.send_entries.new.entries.items) c.self.invariant c.self.view_is c.in_ok-from.ensures.matched c.send_functions.ensures c.send_entries.ensures).1
