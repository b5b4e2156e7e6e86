use denote.Param.Always.{mut_next}
use Rattle.std.proofs.Common.{◌≡◌, ℕ, suc, zero, ◌<◌, List, [], ◌∷◌, ◌++◌, length, map, true, Some, Ok, Err, refl, sym, ap, ◌∙◌, subst, string_bytes, rules, arith, get_or, Bor}
use Rattle.std.specs.Prelude.{Contains}
use Rattle.std.specs.List.{FoldsTo}
use Rattle.std.specs.Option.{ok_or}
use Rattle.std.specs.Result.{is_ok}
use Rattle.std.proofs.lemmas.Grind.{common_steps}
use Rattle.std.proofs.lemmas.Fn.{FoldsTo-push}
use Rattle.std.proofs.lemmas.List.{map-append}
use Rattle.std.proofs.lemmas.Result.{err_from_is_err_and}
use Rattle.yettuvam_files.specs.Files.{texts_of}
use Rattle.yettuvam_build.specs.Files.{Calls, ReadsFile}
use Rattle.yettuvam_build.specs.Files.{file_of}
use Rattle.yettuvam_build.proofs.FileLemmas.{CodeFile}
use Rattle.yettuvam_build.specs.declared.refusal.Refusal.TheVariants.{CannotRead}
use Rattle.yettuvam_build.proofs.files.read_files.Goals as goal

-- a file is among the texts of all
stands : (files : List (Bor (List ℕ))) (i : ℕ) (d : Bor (List ℕ)) → i < length files → Contains (texts_of files) (get_or files i d).now
stands [] i d h = absurd (omega arith)
stands (f ∷ fs) zero d h = (0, omega arith, refl)
stands (f ∷ fs) (suc i) d h = let more = stands fs i d (omega arith) in (suc more.0, omega (arith, more.1), more.2)

-- a file that is read after others
read_more : {F : Type 0} (calls : Calls F) (first reader next : F) (before after : List CodeFile) (f : CodeFile) → after ≡ before ++ (f ∷ []) → FoldsTo (ReadsFile calls) first (map file_of before) reader → ReadsFile calls reader (file_of f) next → FoldsTo (ReadsFile calls) first (map file_of after) next
read_more calls first reader next before after f is so_far call =
    subst (λ fs. FoldsTo (ReadsFile calls) first fs next) (sym (ap (map file_of) is ∙ map-append file_of before (f ∷ [])))
    (FoldsTo-push (ReadsFile calls) first (map file_of before) reader (file_of f) next so_far call)

pub loop-file-preserved : goal.loop-file-preserved
loop-file-preserved g c =
    let ok : is_ok c.push.result ≡ true = sym c.in_ok-map_err.ensures.variant in
    record {
      callable = λ h. mut_next g.F.FnMut c.loop-file.read _ _ c.read.new.self c.read.new.self (record { met = c.read.ensures.met }) refl (c.loop-file.invariant.callable h);
      named = grind (arith, common_steps);
      read =
          let file : Bor (List ℕ) = get_or c.args.files.now c.loop-file.file-index (record { ref_ptr = (0, 0); now = [] }) in
          let pushed : c.push.new.self.items ≡ c.loop-file.texts.items ++ ((file, c.in_ok-text.text) ∷ []) = search rules in
          let text : string_bytes c.in_ok-text.text ≡ c.in_ok-bytes.bytes.items = search rules in
          let some : c.read.result ≡ Ok (Some c.in_ok-bytes.bytes) = search rules in
          let returned : goal.F-step g c.loop-file.read file (Ok (Some c.in_ok-bytes.bytes)) c.read.new.self = subst (λ r. goal.F-step g c.loop-file.read file r c.read.new.self) some (record { met = c.read.ensures.met }) in
          let call : ReadsFile (goal.F-step g) c.loop-file.read (file_of (file, c.in_ok-text.text)) c.read.new.self = record { path = file; bytes = c.in_ok-bytes.bytes; is_path = refl; returned = returned; is_text = sym text } in
          read_more (goal.F-step g) _ c.loop-file.read c.read.new.self c.loop-file.texts.items c.push.new.self.items (file, c.in_ok-text.text) pushed c.loop-file.invariant.read call;
    }

pub returns-in_err-text-clause-err : goal.returns-in_err-text-clause-err
returns-in_err-text-clause-err g c =
    let file = get_or c.args.files.now c.loop-file.file-index _ in
    let refused : Err c.in_err-text.field-0.0 ≡ Err (CannotRead file) = c.in_err-text.ensures.value ∙ ap (λ o. ok_or o (CannotRead file)) c.in_err-text.ensures.ok_part in
    let is : c.in_err-text.field-0.0 ≡ CannotRead file = cc in
    let p = err_from_is_err_and c.from_residual-in_err-text.result c.from_residual-in_err-text.ensures.1 in
    rw (p.1, p.2, is) (stands c.args.files.now c.loop-file.file-index _ c.loop-file-test.true)
