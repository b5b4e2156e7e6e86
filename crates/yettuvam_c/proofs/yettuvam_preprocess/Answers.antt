use Rattle.yettuvam_c.proofs.AnswerLemmas as lemma
use Rattle.yettuvam_c.specs.Answer.{IsPreprocessed}
use Rattle.yettuvam_c.specs.Given.{Refuses}
use Rattle.yettuvam_c.proofs.yettuvam_preprocess.Goals as goal

pub returns-clause-known : goal.returns-clause-known
returns-clause-known c = lemma.known (IsPreprocessed c.args.source.now c.args.definitions.now) (Refuses c.args.source.now c.args.definitions.now) (lemma.preprocess_low c.args.source.now c.args.definitions.now) c.put.result c.args.page.now c.put.new.page c.preprocessed.result c.preprocessed.ensures.ok c.put.ensures

pub returns-clause-reply : goal.returns-clause-reply
returns-clause-reply c = λ h. lemma.reply (IsPreprocessed c.args.source.now c.args.definitions.now) (Refuses c.args.source.now c.args.definitions.now) (lemma.preprocess_low c.args.source.now c.args.definitions.now) c.put.result c.args.page.now c.put.new.page c.preprocessed.result c.preprocessed.ensures.ok c.put.ensures h

pub returns-clause-not_utf8 : goal.returns-clause-not_utf8
returns-clause-not_utf8 c = λ h. lemma.not_utf8 (IsPreprocessed c.args.source.now c.args.definitions.now) (Refuses c.args.source.now c.args.definitions.now) (lemma.preprocess_low c.args.source.now c.args.definitions.now) c.put.result c.args.page.now c.put.new.page c.preprocessed.result c.preprocessed.ensures.ok c.preprocessed.ensures.err c.put.ensures h

pub returns-clause-bad : goal.returns-clause-bad
returns-clause-bad c = λ h. lemma.bad (IsPreprocessed c.args.source.now c.args.definitions.now) (Refuses c.args.source.now c.args.definitions.now) (lemma.preprocess_low c.args.source.now c.args.definitions.now) c.put.result c.args.page.now c.put.new.page c.preprocessed.result c.preprocessed.ensures.ok c.preprocessed.ensures.err c.put.ensures h

pub returns-clause-no_room : goal.returns-clause-no_room
returns-clause-no_room c = λ h. lemma.no_room (IsPreprocessed c.args.source.now c.args.definitions.now) (Refuses c.args.source.now c.args.definitions.now) (lemma.preprocess_low c.args.source.now c.args.definitions.now) c.put.result c.args.page.now c.put.new.page c.preprocessed.result c.preprocessed.ensures.ok c.put.ensures h

pub returns-clause-unwritten : goal.returns-clause-unwritten
returns-clause-unwritten c = λ h. lemma.unwritten (IsPreprocessed c.args.source.now c.args.definitions.now) (Refuses c.args.source.now c.args.definitions.now) (lemma.preprocess_low c.args.source.now c.args.definitions.now) c.put.result c.args.page.now c.put.new.page c.preprocessed.result c.preprocessed.ensures.ok c.put.ensures h
