use Rattle.std.proofs.Common.{◌≡◌, ◌∙◌, ◌++◌, Ok, ap, sym, string_bytes, rules}
use Rattle.std.proofs.lemmas.Result.{err_from_is_err_and}
use Rattle.naga_oil_ir.specs.ModuleValue.{module_value}
use Rattle.yettuvam_build.specs.Files.{file_of}
use Rattle.yettuvam_build.proofs.BuiltLemmas.{no_body, no_start, whole_text}
use Rattle.yettuvam_build.proofs.text.shader_text.Goals as goal

pub returns-in_err-text : goal.returns-in_err-text
returns-in_err-text g c =
    let p = err_from_is_err_and c.from_residual.result c.from_residual.ensures.1 in
    rw (p.1, p.2) (no_start (g.B.Backend.front c.args.front.now) (file_of c.args.top.now) (module_value c.args.of.now) c.in_err-text.field-0.0 c.in_err-text.ensures)

pub returns-in_err-body : goal.returns-in_err-body
returns-in_err-body g c =
    let p = err_from_is_err_and c.from_residual-in_err-body.result c.from_residual-in_err-body.ensures.1 in
    rw (p.1, p.2) (no_body (g.B.Backend.front c.args.front.now) (file_of c.args.top.now) (module_value c.args.of.now) (string_bytes c.in_ok-text.text) c.in_err-body.field-0.0 c.in_ok-text.ensures c.in_err-body.ensures)

pub returns : goal.returns
returns g c =
    let start = string_bytes c.in_ok-text.text in
    let body = string_bytes c.in_ok-body.body in
    let same : string_bytes c.push_str.new.self ≡ start ++ body = search rules in
    whole_text (g.B.Backend.front c.args.front.now) (file_of c.args.top.now) (module_value c.args.of.now) start body c.in_ok-text.ensures c.in_ok-body.ensures ∙ ap Ok (sym same)
