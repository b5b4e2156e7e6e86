use Rattle.std.proofs.Common.{rules}
use Rattle.naga_oil_pre.specs.Metadata.{metadata}
use Rattle.yettuvam_c.specs.Answer.{reply_of}
use Rattle.yettuvam_c.proofs.AnswerLemmas.{metadata_is_reply}
use Rattle.yettuvam_c.proofs.answer.metadata_reply.Goals as goal

pub returns : goal.returns
returns c = metadata_is_reply c.args.path.now c.args.text.now (metadata c.args.allow_defines c.args.text.now) c.in-Ok.found (reply_of (0, c.push_metadata.new.sheet)) c.in-Ok.ensures.value (search rules)
