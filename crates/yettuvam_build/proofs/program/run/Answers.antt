use Rattle.std.proofs.lemmas.Result.{err_from_is_err_and}
use Rattle.naga_oil_words.specs.Texts.{texts}
use Rattle.yettuvam_build.specs.Files.{Reads}
use Rattle.yettuvam_build.specs.Words.{command_of, command_view}
use Rattle.yettuvam_build.proofs.GivenLemmas.{refused_for, refused_words, written_for}
use Rattle.yettuvam_build.proofs.program.run.Goals as goal

pub returns-clause-written : goal.returns-clause-written
returns-clause-written g c = written_for (g.B.Backend.front c.args.front) (Reads (goal.F-step g) c.args.read) (command_of (texts c.args.words.now)) (command_view c.in_ok-command.command) c.answer.result _ _ c.in_ok-command.ensures.value c.answer.ensures.written

pub returns-clause-err : goal.returns-clause-err
returns-clause-err g c = refused_for (g.B.Backend.front c.args.front) (Reads (goal.F-step g) c.args.read) (command_of (texts c.args.words.now)) (command_view c.in_ok-command.command) c.answer.result c.in_ok-command.ensures.value c.answer.ensures.err

pub returns-in_err-command-clause-err : goal.returns-in_err-command-clause-err
returns-in_err-command-clause-err g c =
    let p = err_from_is_err_and c.from_residual.result c.from_residual.ensures.1 in
    rw (p.1, p.2) (refused_words (g.B.Backend.front c.args.front) (Reads (goal.F-step g) c.args.read) (command_of (texts c.args.words.now)) c.in_err-command.field-0.0 c.in_err-command.ensures.err)
