use Rattle.std.proofs.Common.{◌≡◌, ◌∷◌, Ok, map, rules}
use Rattle.naga_oil_registry.specs.Registered.{defs_of}
use Rattle.yettuvam_build.specs.Defined.{definitions_of}
use Rattle.yettuvam_build.specs.Files.{Reads}
use Rattle.yettuvam_build.specs.Words.{request_view}
use Rattle.yettuvam_build.proofs.GivenLemmas.{given, text_refused, text_shown}
use Rattle.yettuvam_build.proofs.program.built.Goals as goal

pub returns-clause-ok : goal.returns-clause-ok
returns-clause-ok g c =
    let reads = Reads (goal.F-step g) c.args.read in
    let r = request_view c.args.request.now in
    let defs = defs_of c.in_ok-definitions.definitions in
    let all = c.in_ok-texts.texts.items in
    let defines : definitions_of r.definitions ≡ Ok defs = search rules in
    let parts : all ≡ c.unwrap.result.0.now ∷ c.unwrap.result.1.now = search rules in
    let named : map (λ f. f.0.now) all ≡ r.files = search rules in
    text_shown (g.B.Backend.front c.args.front) reads r (given reads r defs all c.unwrap.result.0.now c.unwrap.result.1.now defines parts named c.in_ok-texts.ensures.read) c.built_text.result c.built_text.ensures

pub returns-clause-err : goal.returns-clause-err
returns-clause-err g c =
    let reads = Reads (goal.F-step g) c.args.read in
    let r = request_view c.args.request.now in
    let defs = defs_of c.in_ok-definitions.definitions in
    let all = c.in_ok-texts.texts.items in
    let defines : definitions_of r.definitions ≡ Ok defs = search rules in
    let parts : all ≡ c.unwrap.result.0.now ∷ c.unwrap.result.1.now = search rules in
    let named : map (λ f. f.0.now) all ≡ r.files = search rules in
    text_refused (g.B.Backend.front c.args.front) reads r (given reads r defs all c.unwrap.result.0.now c.unwrap.result.1.now defines parts named c.in_ok-texts.ensures.read) c.built_text.result c.built_text.ensures
