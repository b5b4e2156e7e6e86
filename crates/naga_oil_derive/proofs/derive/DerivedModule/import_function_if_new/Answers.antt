use Rattle.std.proofs.Common.{◌≡◌, ap}
use Rattle.naga_oil_derive.proofs.FunctionCalls.{meant_in}
use Rattle.std.proofs.Common.{◌∙◌, sym, subst, OnOk, is_some, if◌then◌else◌}
use Rattle.naga_oil_ir.specs.ModuleValue.{function_value}
use Rattle.naga_oil_derive.specs.DerivedValue.{import_function}
use Rattle.naga_oil_derive.proofs.derive.DerivedModule.import_function_if_new.Goals as goal

pub returns-in-Some-clause-value : goal.returns-in-Some-clause-value
returns-in-Some-clause-value c =
    let s = c.self.inside in
    let d = c.args.self.now in
    let o = c.args.func.now.name in
    let is = c.in-Some.ensures ∙ meant_in s.shader s.copying.maps s.copying.target s.function_names d o c.self.view_is in
    ap (λ x. if is_some x then d else import_function d (function_value c.args.func.now) c.args.span) is

pub returns-in-Some-clause-means : goal.returns-in-Some-clause-means
returns-in-Some-clause-means c =
    let s = c.self.inside in
    sym (c.in-Some.ensures ∙ meant_in s.shader s.copying.maps s.copying.target s.function_names c.args.self.now c.args.func.now.name c.self.view_is)

pub returns-in-None-clause-value : goal.returns-in-None-clause-value
returns-in-None-clause-value c =
    let s = c.self.inside in
    let d = c.args.self.now in
    let o = c.args.func.now.name in
    let e = c.put_function.new.self in
    let is = c.in-None.ensures ∙ meant_in s.shader s.copying.maps s.copying.target s.function_names d o c.self.view_is in
    subst (λ x. OnOk c.put_function.result (e ≡ if is_some x then d else import_function d (function_value c.args.func.now) c.args.span)) is c.put_function.ensures.value
