use Rattle.std.proofs.Common.{◌≡◌, ◌∙◌, map, ap, subst}
use Rattle.std.proofs.lemmas.Result.{err_from_is_err_and}
use Rattle.naga_oil.specs.State.{State, nothing_registered}
use Rattle.naga_oil_ir.specs.ModuleValue.{module_value}
use Rattle.naga_oil_registry.specs.Registered.{defs_of}
use Rattle.yettuvam_files.specs.Files.{texts_of}
use Rattle.yettuvam_build.specs.Files.{file_of}
use Rattle.yettuvam_build.specs.Refusals.{Gives}
use Rattle.yettuvam_build.specs.Words.{Request, request_view}
use Rattle.yettuvam_build.proofs.BuiltLemmas.{module_made, module_not_made}
use Rattle.yettuvam_build.proofs.make.make_ordered.Goals as goal

pub returns : goal.returns
returns g c =
    let r : Request = request_view c.args.request.now in
    let imports : texts_of c.deref.result.now ≡ r.imports = ap texts_of c.deref.ensures.value in
    let begins = c.with_override_any-composer.ensures ∙ ap (λ (s : State _). nothing_registered (record s.settings { override_any = r.override_any })) c.new.ensures in
    subst (Gives module_value c.make_shader.result) (module_made g.B.Backend.front c.args.front c.with_override_any-composer.result c.add_files.new.composer r (defs_of c.args.definitions) (file_of c.args.top.now) (map file_of c.args.others.now) c.args.order.now begins _ c.in_ok-add_files.ensures.added c.in_ok-add_files.ensures.settings imports) c.make_shader.ensures

pub returns-in_err-add_files : goal.returns-in_err-add_files
returns-in_err-add_files g c =
    let r : Request = request_view c.args.request.now in
    let begins = c.with_override_any-composer.ensures ∙ ap (λ (s : State _). nothing_registered (record s.settings { override_any = r.override_any })) c.new.ensures in
    let p = err_from_is_err_and c.from_residual.result c.from_residual.ensures.1 in
    rw (p.1, p.2) (module_not_made g.B.Backend.front c.args.front c.with_override_any-composer.result c.add_files.new.composer r (defs_of c.args.definitions) (file_of c.args.top.now) (map file_of c.args.others.now) c.args.order.now begins c.in_err-add_files.field-0.0 c.in_err-add_files.ensures.added)
