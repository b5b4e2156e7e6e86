use Rattle.std.proofs.Common.{◌≡◌, ◌∙◌, map, ap, subst}
use Rattle.std.proofs.lemmas.Result.{err_from_is_err_and}
use Rattle.naga_oil_ir.specs.ModuleValue.{module_value}
use Rattle.naga_oil_registry.specs.Registered.{defs_of}
use Rattle.naga_oil.specs.State.{State, nothing_registered}
use Rattle.naga_oil_mini.specs.MadeView.{file_of}
use Rattle.naga_oil_mini.specs.Shown.{Gives}
use Rattle.naga_oil_mini.specs.Words.{Asked, asked_of}
use Rattle.naga_oil_mini_symbols.specs.NameTable.{texts_of}
use Rattle.naga_oil_mini.proofs.MadeLemmas.{module_made, module_not_made}
use Rattle.naga_oil_mini.proofs.mini.make.make_module.Goals as goal

pub returns : goal.returns
returns c =
    let a : Asked = asked_of c.args.asked.now in
    let imports : texts_of c.deref.result.now ≡ a.imports = ap texts_of c.deref.ensures.value in
    let begins = c.with_override_any-composer.ensures ∙ ap (λ (s : State _). nothing_registered (record s.settings { override_any = a.override_any })) c.new.ensures in
    subst (Gives module_value c.make_shader.result) (module_made _ c.with_override_any-composer.result c.add_files.new.composer a (defs_of c.args.definitions) (file_of c.args.top.now) (map file_of c.args.modules.now) begins _ c.in_ok-add_files.ensures.added c.in_ok-add_files.ensures.settings imports) c.make_shader.ensures

pub returns-in_err-add_files : goal.returns-in_err-add_files
returns-in_err-add_files c =
    let a : Asked = asked_of c.args.asked.now in
    let begins = c.with_override_any-composer.ensures ∙ ap (λ (s : State _). nothing_registered (record s.settings { override_any = a.override_any })) c.new.ensures in
    let p = err_from_is_err_and c.from_residual.result c.from_residual.ensures.1 in
    rw (p.1, p.2) (module_not_made _ c.with_override_any-composer.result c.add_files.new.composer a (defs_of c.args.definitions) (file_of c.args.top.now) (map file_of c.args.modules.now) begins c.in_err-add_files.field-0.0 c.in_err-add_files.ensures.added)
