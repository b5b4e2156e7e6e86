use Rattle.yettuvam_wgsl_names.proofs.NameLaws.{order_law}
use Rattle.yettuvam_wgsl_names.proofs.words.read_word.Goals as goal

pub find-requires : goal.find-requires
find-requires c = order_law.words
