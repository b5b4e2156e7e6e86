use Rattle.std.proofs.Common.{◌≡◌, subst, sym, string_bytes, rules}
use Rattle.yettuvam_build.specs.Files.{Reads}
use Rattle.yettuvam_build.specs.Shown.{IsBuilt, Shows}
use Rattle.yettuvam_build.specs.Words.{build, command_view, request_view}
use Rattle.yettuvam_build.proofs.GivenLemmas.{text_unwritten, text_written}
use Rattle.yettuvam_build.proofs.program.answer.Goals as goal

pub returns-in-Text-clause-err : goal.returns-in-Text-clause-err
returns-in-Text-clause-err g c =
    let front = g.B.Backend.front c.args.front in
    let reads = Reads (goal.F-step g) c.args.read in
    let shown = c.as_bytes.result.now in
    text_unwritten front reads (command_view c.args.command.now) shown c.show.result (subst (λ k. Shows front reads (command_view k) shown) (sym c.in-Text.is) c.as_bytes.ensures.value) c.show.ensures.err

pub returns-in_ok-text-in-Build-clause-written : goal.returns-in_ok-text-in-Build-clause-written
returns-in_ok-text-in-Build-clause-written g c =
    let front = g.B.Backend.front c.args.front in
    let reads = Reads (goal.F-step g) c.args.read in
    let r = request_view c.in-Build.request in
    let shown = c.as_bytes-in-Build.result.now in
    let same : string_bytes c.in_ok-text-in-Build.text ≡ shown = search rules in
    let is : Shows front reads (build r) shown = subst (IsBuilt front reads r) same c.in_ok-text-in-Build.ensures.ok in
    text_written front reads (command_view c.args.command.now) shown c.show-in-Build.result _ _ (subst (λ k. Shows front reads (command_view k) shown) (sym c.in-Build.is) is) c.show-in-Build.ensures.written
