use Rattle.std.proofs.Common.{[], ◌∷◌, ◌++◌, ◌∙◌, ap}
use Rattle.naga_oil_imports.proofs.DeclarationLemmas.{found, not_found, set_stays, set_pushes, insert_pushes, shown, paths_more, on_err}
use Rattle.naga_oil_imports.proofs.parse_imports.push_path.Goals as goal

pub returns-in_err-push-clause-err : goal.returns-in_err-push-clause-err
returns-in_err-push-clause-err c =
    on_err c.from_residual-in_err-push.result (set_stays c.args.declared.now.entries c.in-Some.index c.index_mut.result.now c.push.new.self c.index_mut.ensures.value c.in_err-push.ensures.items)

pub returns-in-Some-clause-ok : goal.returns-in-Some-clause-ok
returns-in-Some-clause-ok c =
    let here = found c.args.key.now c.args.declared.now.entries c.in-Some.index c.in-Some.ensures.index c.in-Some.ensures.within in
    set_pushes c.args.key.now c.args.path.now c.args.declared.now.entries c.in-Some.index c.index_mut.result.now c.push.new.self here c.index_mut.ensures.value
    (paths_more _ _ _ _ c.in_ok-push.ensures.items c.in_ok-path.ensures.ok)

pub returns-clause-ok : goal.returns-clause-ok
returns-clause-ok c =
    let none = not_found c.args.key.now c.args.declared.now.entries c.in_default.ensures.index in
    let one = paths_more [] c.push-2.new.self.items c.in_ok-path.path c.args.path.now (c.in_ok-push-2.ensures.items ∙ ap (λ xs. xs ++ c.in_ok-path.path ∷ []) c.new-paths.ensures.items) c.in_ok-path.ensures.ok in
    ap shown c.in_ok-insert.ensures.entries ∙ insert_pushes c.args.key.now c.args.path.now c.args.declared.now.entries c.in_ok-key.key c.push-2.new.self none c.in_ok-key.ensures.ok one
