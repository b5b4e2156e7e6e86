use Rattle.std.proofs.Common.{◌≡◌, ◌∙◌, map, ap, subst}
use Rattle.std.proofs.lemmas.Result.{err_from_is_err_and}
use Rattle.naga_oil_ir.specs.ModuleValue.{module_value}
use Rattle.naga_oil_registry.specs.Registered.{defs_of}
use Rattle.yettuvam_build.specs.Built.{made_ordered}
use Rattle.yettuvam_build.specs.Files.{file_of}
use Rattle.yettuvam_build.specs.Refusals.{Gives}
use Rattle.yettuvam_build.specs.Words.{request_view}
use Rattle.yettuvam_build.proofs.BuiltLemmas.{order_found, order_not_found}
use Rattle.yettuvam_build.proofs.make.make_module.Goals as goal

pub returns : goal.returns
returns g c =
    let front = g.B.Backend.front c.args.front in
    let r = request_view c.args.request.now in
    let defs = defs_of c.args.definitions in
    let top = file_of c.args.top.now in
    let others = map file_of c.args.others.now in
    let same : made_ordered front r defs top others c.deref.result.now ≡ made_ordered front r defs top others c.in_ok-order.order.items =
    ap (made_ordered front r defs top others) c.deref.ensures.value in
    subst (Gives module_value c.make_ordered.result) (same ∙ order_found front r defs top others c.in_ok-order.order.items c.in_ok-order.ensures) c.make_ordered.ensures

pub returns-in_err-order : goal.returns-in_err-order
returns-in_err-order g c =
    let p = err_from_is_err_and c.from_residual.result c.from_residual.ensures.1 in
    rw (p.1, p.2) (order_not_found (g.B.Backend.front c.args.front) (request_view c.args.request.now) (defs_of c.args.definitions) (file_of c.args.top.now) (map file_of c.args.others.now) c.in_err-order.field-0.0 c.in_err-order.ensures)
