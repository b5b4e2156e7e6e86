use Rattle.std.proofs.Common.{◌≡◌, map, sym, subst, string_bytes, rules}
use Rattle.naga_oil_registry.specs.Registered.{defs_of}
use Rattle.naga_oil_mini.specs.MadeView.{file_of}
use Rattle.naga_oil_mini.specs.Shown.{Gives, task_text}
use Rattle.naga_oil_mini.specs.Words.{asked_of}
use Rattle.naga_oil_mini.proofs.GivenLemmas.{text_printed}
use Rattle.naga_oil_mini.proofs.mini.task_text.Goals as goal

pub returns-in-Preprocess : goal.returns-in-Preprocess
returns-in-Preprocess c =
    let f = file_of c.args.top.now in
    let others = map file_of c.args.others.now in
    subst (λ t. Gives string_bytes c.shown_file.result (task_text t (asked_of c.args.asked.now) (defs_of c.args.definitions) f others)) (sym c.in-Preprocess.is)
    (text_printed f c.args.definitions c.shown_file.result (search rules) (search rules))

pub returns-in-Make : goal.returns-in-Make
returns-in-Make c =
    let f = file_of c.args.top.now in
    let others = map file_of c.args.others.now in
    subst (λ t. Gives string_bytes c.made.result (task_text t (asked_of c.args.asked.now) (defs_of c.args.definitions) f others)) (sym c.in-Make.is) c.made.ensures
