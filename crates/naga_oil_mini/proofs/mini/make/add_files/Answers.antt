use Rattle.std.proofs.Common.{◌≡◌, ◌∙◌, ◌+◌, ◌∷◌, map, drop, ap, sym, subst}
use Rattle.std.proofs.lemmas.List.{at_drop_more, at_drop_all}
use Rattle.std.proofs.lemmas.Result.{err_from_is_err_and}
use Rattle.naga_oil_mini.specs.Made.{with_files}
use Rattle.naga_oil_mini.specs.MadeView.{file_of, modules_of}
use Rattle.naga_oil_mini.specs.Shown.{Fails}
use Rattle.naga_oil_mini.proofs.MadeLemmas.{more_added, none_added, not_all_added}
use Rattle.naga_oil_mini.proofs.mini.make.add_files.Goals as goal

pub loop-file-preserved : goal.loop-file-preserved
loop-file-preserved c =
    let i = c.loop-file.file-index in
    let files = c.args.files.now in
    let ms = modules_of c.loop-file.composer in
    let file = c.file-item.result in
    let next : with_files ms (map file_of (drop i files)) ≡ with_files ms (file_of file ∷ map file_of (drop (i + 1) files)) =
    at_drop_more (λ fs. with_files ms (map file_of fs)) files i file c.loop-file-test.true ∙ ap (λ f. with_files ms (file_of f ∷ map file_of (drop (i + 1) files))) (sym c.file-item.is) in
    record {
      added = c.loop-file.invariant.added ∙ next ∙ more_added ms (modules_of c.add_file.new.composer) (file_of file) (map file_of (drop (i + 1) files)) c.in_ok-add_file.ensures.added;
      settings = c.add_file.ensures.settings ∙ c.loop-file.invariant.settings;
    }

pub returns-clause-added : goal.returns-clause-added
returns-clause-added c =
    let ms = modules_of c.loop-file.composer in
    c.loop-file.invariant.added ∙ at_drop_all (λ fs. with_files ms (map file_of fs)) c.args.files.now c.loop-file.file-index c.loop-file-test.false ∙ none_added ms

pub returns-in_err-add_file-clause-added : goal.returns-in_err-add_file-clause-added
returns-in_err-add_file-clause-added c =
    let i = c.loop-file.file-index in
    let files = c.args.files.now in
    let ms = modules_of c.loop-file.composer in
    let file = c.file-item.result in
    let more = map file_of (drop (i + 1) files) in
    let next : with_files ms (map file_of (drop i files)) ≡ with_files ms (file_of file ∷ more) =
    at_drop_more (λ fs. with_files ms (map file_of fs)) files i file c.loop-file-test.true ∙ ap (λ f. with_files ms (file_of f ∷ more)) (sym c.file-item.is) in
    let all = c.loop-file.invariant.added ∙ next in
    let p = err_from_is_err_and c.from_residual.result c.from_residual.ensures.1 in
    rw (p.1, p.2) (subst (Fails c.in_err-add_file.field-0.0) (sym all) (not_all_added ms (file_of file) more c.in_err-add_file.field-0.0 c.in_err-add_file.ensures.added))
