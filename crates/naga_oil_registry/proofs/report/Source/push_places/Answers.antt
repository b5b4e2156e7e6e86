use Rattle.std.proofs.Common.{◌+◌, ◌++◌, ap, ◌∙◌, string_bytes}
use Rattle.std.proofs.lemmas.Result.{on_ok_weaker}
use Rattle.naga_oil_registry.proofs.WritingLemmas.{start_of_line}
use Rattle.naga_oil_registry.proofs.report.Source.push_places.Goals as goal

pub returns-in-Line : goal.returns-in-Line
returns-in-Line c = rw c.in-Line.is (on_ok_weaker c.write-in-Line.result (λ h. h ∙ ap (λ t. string_bytes c.args.out.now ++ t) (start_of_line c.args.self.path.now (c.in-Line.index + 1))) c.write-in-Line.ensures.bytes)
