use Rattle.std.proofs.Common.{sym, option_map, string_bytes}
use Rattle.naga_oil_words.specs.Texts.{texts}
use Rattle.naga_oil_build.specs.WritebackView.{held}
use Rattle.naga_oil_build.proofs.WritebackLemmas.{unowned_function}
use Rattle.naga_oil_build.proofs.writeback.lost_function.Goals as goal

pub returns-then-not-has_name_ending : goal.returns-then-not-has_name_ending
returns-then-not-has_name_ending c = sym (unowned_function (texts c.args.owned.now.keys) (held c.args.back.now) (option_map string_bytes c.args.function.now.name) c.args.span (sym c.if-not-has_name_ending.ensures))
