use Rattle.std.proofs.Common.{◌≡◌, ◌∷◌, subst, string_bytes, rules}
use Rattle.naga_oil_mini.specs.Extra.{HasText}
use Rattle.naga_oil_mini.specs.Files.{Reads}
use Rattle.naga_oil_mini.proofs.GivenLemmas.{one_read, listed_read, refused_read}
use Rattle.naga_oil_mini.proofs.mini.program.listed.Goals as goal

pub returns-clause-ok : goal.returns-clause-ok
returns-clause-ok g c =
    let parts : c.in_ok-texts.texts.items ≡ c.in_ok-first.first.now ∷ c.in_ok-first.field-0-1.now = search rules in
    let is : string_bytes c.in_ok-first.first.now.1 ≡ c.as_str.result.now = search rules in
    let read = one_read (Reads (goal.F-step g) c.args.read) c.args.file.now c.in_ok-texts.texts.items c.in_ok-first.field-0-1.now c.in_ok-first.first.now parts c.in_ok-texts.ensures.ok c.in_ok-texts.ensures.read in
    listed_read (Reads (goal.F-step g) c.args.read) c.args.file.now c.as_str.result.now c.listed_file.result (subst (HasText (Reads (goal.F-step g) c.args.read) c.args.file.now) is read) c.listed_file.ensures.ok

pub returns-clause-err : goal.returns-clause-err
returns-clause-err g c =
    let parts : c.in_ok-texts.texts.items ≡ c.in_ok-first.first.now ∷ c.in_ok-first.field-0-1.now = search rules in
    let is : string_bytes c.in_ok-first.first.now.1 ≡ c.as_str.result.now = search rules in
    let read = one_read (Reads (goal.F-step g) c.args.read) c.args.file.now c.in_ok-texts.texts.items c.in_ok-first.field-0-1.now c.in_ok-first.first.now parts c.in_ok-texts.ensures.ok c.in_ok-texts.ensures.read in
    refused_read (Reads (goal.F-step g) c.args.read) c.args.file.now c.as_str.result.now c.listed_file.result (subst (HasText (Reads (goal.F-step g) c.args.read) c.args.file.now) is read) c.listed_file.ensures.err
