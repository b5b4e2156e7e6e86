use Rattle.std.proofs.Common.{map, subst, string_bytes}
use Rattle.std.proofs.lemmas.Result.{err_from_is_err_and}
use Rattle.naga_oil_registry.specs.Registered.{defs_of}
use Rattle.yettuvam_build.specs.Files.{file_of}
use Rattle.yettuvam_build.specs.Refusals.{Gives}
use Rattle.yettuvam_build.specs.Words.{request_view}
use Rattle.yettuvam_build.proofs.BuiltLemmas.{text_made, text_not_made}
use Rattle.yettuvam_build.proofs.text.built_text.Goals as goal

pub returns : goal.returns
returns g c = subst (Gives string_bytes c.shader_text.result) (text_made (g.B.Backend.front c.args.front) (request_view c.args.request.now) (defs_of c.args.definitions) (file_of c.args.top.now) (map file_of c.args.others.now) _ c.in_ok-module_.ensures) c.shader_text.ensures

pub returns-in_err-module_ : goal.returns-in_err-module_
returns-in_err-module_ g c =
    let p = err_from_is_err_and c.from_residual.result c.from_residual.ensures.1 in
    rw (p.1, p.2) (text_not_made (g.B.Backend.front c.args.front) (request_view c.args.request.now) (defs_of c.args.definitions) (file_of c.args.top.now) (map file_of c.args.others.now) c.in_err-module_.field-0.0 c.in_err-module_.ensures)
