use Rattle.std.proofs.Common.{map, subst, string_bytes}
use Rattle.std.proofs.lemmas.Result.{err_from_is_err_and}
use Rattle.naga_oil_registry.specs.Registered.{defs_of}
use Rattle.naga_oil_mini.specs.MadeView.{file_of}
use Rattle.naga_oil_mini.specs.Shown.{Gives}
use Rattle.naga_oil_mini.specs.Words.{asked_of}
use Rattle.naga_oil_mini.proofs.MadeLemmas.{text_made, text_not_made}
use Rattle.naga_oil_mini.proofs.mini.make.made.Goals as goal

pub returns : goal.returns
returns c = subst (Gives string_bytes c.written.result) (text_made (asked_of c.args.asked.now) (defs_of c.args.definitions) (file_of c.args.top.now) (map file_of c.args.modules.now) _ c.in_ok-module_.ensures) c.written.ensures

pub returns-in_err-module_ : goal.returns-in_err-module_
returns-in_err-module_ c =
    let p = err_from_is_err_and c.from_residual.result c.from_residual.ensures.1 in
    rw (p.1, p.2) (text_not_made (asked_of c.args.asked.now) (defs_of c.args.definitions) (file_of c.args.top.now) (map file_of c.args.modules.now) c.in_err-module_.field-0.0 c.in_err-module_.ensures)
