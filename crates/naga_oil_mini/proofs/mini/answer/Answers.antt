use Rattle.std.proofs.Common.{◌≡◌, ◌∷◌, ◌∙◌, Ok, map, drop, ap, string_bytes, rules}
use Rattle.std.proofs.lemmas.Result.{err_from_is_err_and}
use Rattle.naga_oil_registry.specs.Registered.{defs_of}
use Rattle.naga_oil_words.specs.Texts.{texts}
use Rattle.naga_oil_mini.specs.Defined.{definitions_among}
use Rattle.naga_oil_mini.specs.Files.{Reads}
use Rattle.naga_oil_mini.specs.Shown.{shown_of}
use Rattle.naga_oil_mini.specs.Words.{asked_of}
use Rattle.naga_oil_mini.proofs.GivenLemmas.{given, refused_task}
use Rattle.naga_oil_mini.proofs.mini.answer.Goals as goal

pub returns-in-Ok-clause-written : goal.returns-in-Ok-clause-written
returns-in-Ok-clause-written g c =
    let defines : definitions_among (drop 1 (texts c.args.words.now)) ≡ Ok (defs_of c.in_ok-definitions.definitions) = search rules in
    let parts : c.in_ok-texts.texts.items ≡ c.in_ok-top.top.now ∷ c.in_ok-top.modules.now = search rules in
    let named : map (λ f. f.0.now) c.in_ok-texts.texts.items ≡ (asked_of c.in_ok-asked.asked).files = search rules in
    let of = given (Reads (goal.F-step g) c.args.read) (texts c.args.words.now) (asked_of c.in_ok-asked.asked) (defs_of c.in_ok-definitions.definitions) c.in_ok-texts.texts.items c.in_ok-top.top.now c.in_ok-top.modules.now c.in_ok-asked.ensures.value defines parts named c.in_ok-texts.ensures.read in
    let same : string_bytes c.in_ok-source.source ≡ c.as_bytes.result.now = search rules in
    let shown : shown_of of ≡ Ok c.as_bytes.result.now = c.in_ok-source.ensures ∙ ap Ok same in
    (c.as_bytes.result.now, (of, shown), c.in-Ok.ensures)

pub returns-clause-err : goal.returns-clause-err
returns-clause-err g c =
    let defines : definitions_among (drop 1 (texts c.args.words.now)) ≡ Ok (defs_of c.in_ok-definitions.definitions) = search rules in
    let parts : c.in_ok-texts.texts.items ≡ c.in_ok-top.top.now ∷ c.in_ok-top.modules.now = search rules in
    let named : map (λ f. f.0.now) c.in_ok-texts.texts.items ≡ (asked_of c.in_ok-asked.asked).files = search rules in
    let of = given (Reads (goal.F-step g) c.args.read) (texts c.args.words.now) (asked_of c.in_ok-asked.asked) (defs_of c.in_ok-definitions.definitions) c.in_ok-texts.texts.items c.in_ok-top.top.now c.in_ok-top.modules.now c.in_ok-asked.ensures.value defines parts named c.in_ok-texts.ensures.read in
    let same : string_bytes c.in_ok-source.source ≡ c.as_bytes.result.now = search rules in
    let shown : shown_of of ≡ Ok c.as_bytes.result.now = c.in_ok-source.ensures ∙ ap Ok same in
    (c.as_bytes.result.now, (of, shown))

pub returns-in_err-source-clause-err : goal.returns-in_err-source-clause-err
returns-in_err-source-clause-err g c =
    let defines : definitions_among (drop 1 (texts c.args.words.now)) ≡ Ok (defs_of c.in_ok-definitions.definitions) = search rules in
    let parts : c.in_ok-texts.texts.items ≡ c.in_ok-top.top.now ∷ c.in_ok-top.modules.now = search rules in
    let named : map (λ f. f.0.now) c.in_ok-texts.texts.items ≡ (asked_of c.in_ok-asked.asked).files = search rules in
    let of = given (Reads (goal.F-step g) c.args.read) (texts c.args.words.now) (asked_of c.in_ok-asked.asked) (defs_of c.in_ok-definitions.definitions) c.in_ok-texts.texts.items c.in_ok-top.top.now c.in_ok-top.modules.now c.in_ok-asked.ensures.value defines parts named c.in_ok-texts.ensures.read in
    let p = err_from_is_err_and c.from_residual-in_err-source.result c.from_residual-in_err-source.ensures.1 in
    rw (p.1, p.2) (refused_task (Reads (goal.F-step g) c.args.read) (texts c.args.words.now) of c.in_err-source.field-0.0 c.in_err-source.ensures)
