use Rattle.std.proofs.lemmas.Result.{err_from_is_err_and}
use Rattle.std.specs.BTreeMap.{get_by_text}
use Rattle.naga_oil_pre.specs.KnownView.{known_of}
use Rattle.naga_oil_conditions.specs.SourceView.{line_of}
use Rattle.naga_oil_pre.proofs.LoopLemmas.{line_fails, import_fails, shown_fails, if_err}
use Rattle.naga_oil_pre.proofs.preprocess.write_line.Goals as goal

pub returns-in_err-read_line-clause-err : goal.returns-in_err-read_line-clause-err
returns-in_err-read_line-clause-err c =
    let p = err_from_is_err_and c.from_residual.result c.from_residual.ensures.1 in
    rw (p.1, p.2) (λ end. line_fails _ _ end _ _ _ _ c.in_err-read_line.ensures.err)

pub returns-in-Import-clause-err : goal.returns-in-Import-clause-err
returns-in-Import-clause-err c =
    let defs = get_by_text c.args.definitions.now in
    if_err c.write_import.result _ _ c.write_import.ensures.err
    (λ error fails end.
    import_fails defs (known_of c.args.imports.now) end c.args.scope.now c.read_line.new.scope (line_of c.args.line) c.args.source.now.left c.in_ok-read_line.field-0 c.in-Import.braces error
    c.in_ok-read_line.ensures.ok c.in_ok-read_line.ensures.opened c.in-Import.is (fails defs))

pub returns-in_err-show_line-in-Show-clause-err : goal.returns-in_err-show_line-in-Show-clause-err
returns-in_err-show_line-in-Show-clause-err c =
    let p = err_from_is_err_and c.from_residual-in_err-show_line-in-Show.result c.from_residual-in_err-show_line-in-Show.ensures.1 in
    let known = known_of c.args.imports.now in
    rw (p.1, p.2) (λ end.
    shown_fails (get_by_text c.args.definitions.now) known end c.args.scope.now c.read_line.new.scope (line_of c.args.line) c.args.source.now.left c.in_ok-read_line.field-0 c.in_err-show_line-in-Show.field-0.0
    c.in_ok-read_line.ensures.ok c.in_ok-read_line.ensures.opened c.in-Show.is (c.in_err-show_line-in-Show.ensures.err known))
