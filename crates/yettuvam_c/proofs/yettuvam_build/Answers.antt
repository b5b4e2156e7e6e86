use Rattle.yettuvam_c.proofs.AnswerLemmas as lemma
use Rattle.yettuvam_c.specs.Built.{IsBuilt, RefusesTask}
use Rattle.yettuvam_c.proofs.yettuvam_build.Goals as goal

pub returns-clause-known : goal.returns-clause-known
returns-clause-known c = lemma.known (IsBuilt c.args.task.now) (RefusesTask c.args.task.now) (lemma.built_low c.args.task.now) c.put.result c.args.page.now c.put.new.page c.built.result c.built.ensures.ok c.put.ensures

pub returns-clause-reply : goal.returns-clause-reply
returns-clause-reply c = λ h. lemma.reply (IsBuilt c.args.task.now) (RefusesTask c.args.task.now) (lemma.built_low c.args.task.now) c.put.result c.args.page.now c.put.new.page c.built.result c.built.ensures.ok c.put.ensures h

pub returns-clause-not_utf8 : goal.returns-clause-not_utf8
returns-clause-not_utf8 c = λ h. lemma.not_utf8 (IsBuilt c.args.task.now) (RefusesTask c.args.task.now) (lemma.built_low c.args.task.now) c.put.result c.args.page.now c.put.new.page c.built.result c.built.ensures.ok c.built.ensures.err c.put.ensures h

pub returns-clause-bad : goal.returns-clause-bad
returns-clause-bad c = λ h. lemma.bad (IsBuilt c.args.task.now) (RefusesTask c.args.task.now) (lemma.built_low c.args.task.now) c.put.result c.args.page.now c.put.new.page c.built.result c.built.ensures.ok c.built.ensures.err c.put.ensures h

pub returns-clause-no_room : goal.returns-clause-no_room
returns-clause-no_room c = λ h. lemma.no_room (IsBuilt c.args.task.now) (RefusesTask c.args.task.now) (lemma.built_low c.args.task.now) c.put.result c.args.page.now c.put.new.page c.built.result c.built.ensures.ok c.put.ensures h

pub returns-clause-unwritten : goal.returns-clause-unwritten
returns-clause-unwritten c = λ h. lemma.unwritten (IsBuilt c.args.task.now) (RefusesTask c.args.task.now) (lemma.built_low c.args.task.now) c.put.result c.args.page.now c.put.new.page c.built.result c.built.ensures.ok c.put.ensures h
