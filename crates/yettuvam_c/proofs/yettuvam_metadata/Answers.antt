use Rattle.yettuvam_c.proofs.AnswerLemmas as lemma
use Rattle.yettuvam_c.specs.Answer.{IsMetadata}
use Rattle.yettuvam_c.specs.Given.{RefusesSource}
use Rattle.yettuvam_c.proofs.yettuvam_metadata.Goals as goal

pub returns-clause-known : goal.returns-clause-known
returns-clause-known c = lemma.known (IsMetadata c.args.source.now c.args.allow_defines) (RefusesSource c.args.source.now) (lemma.metadata_low c.args.source.now c.args.allow_defines) c.put.result c.args.page.now c.put.new.page c.metadata.result c.metadata.ensures.ok c.put.ensures

pub returns-clause-reply : goal.returns-clause-reply
returns-clause-reply c = λ h. lemma.reply (IsMetadata c.args.source.now c.args.allow_defines) (RefusesSource c.args.source.now) (lemma.metadata_low c.args.source.now c.args.allow_defines) c.put.result c.args.page.now c.put.new.page c.metadata.result c.metadata.ensures.ok c.put.ensures h

pub returns-clause-not_utf8 : goal.returns-clause-not_utf8
returns-clause-not_utf8 c = λ h. lemma.not_utf8 (IsMetadata c.args.source.now c.args.allow_defines) (RefusesSource c.args.source.now) (lemma.metadata_low c.args.source.now c.args.allow_defines) c.put.result c.args.page.now c.put.new.page c.metadata.result c.metadata.ensures.ok c.metadata.ensures.err c.put.ensures h

pub returns-clause-good : goal.returns-clause-good
returns-clause-good c = λ h. lemma.bad (IsMetadata c.args.source.now c.args.allow_defines) (RefusesSource c.args.source.now) (lemma.metadata_low c.args.source.now c.args.allow_defines) c.put.result c.args.page.now c.put.new.page c.metadata.result c.metadata.ensures.ok c.metadata.ensures.err c.put.ensures h

pub returns-clause-no_room : goal.returns-clause-no_room
returns-clause-no_room c = λ h. lemma.no_room (IsMetadata c.args.source.now c.args.allow_defines) (RefusesSource c.args.source.now) (lemma.metadata_low c.args.source.now c.args.allow_defines) c.put.result c.args.page.now c.put.new.page c.metadata.result c.metadata.ensures.ok c.put.ensures h

pub returns-clause-unwritten : goal.returns-clause-unwritten
returns-clause-unwritten c = λ h. lemma.unwritten (IsMetadata c.args.source.now c.args.allow_defines) (RefusesSource c.args.source.now) (lemma.metadata_low c.args.source.now c.args.allow_defines) c.put.result c.args.page.now c.put.new.page c.metadata.result c.metadata.ensures.ok c.put.ensures h
