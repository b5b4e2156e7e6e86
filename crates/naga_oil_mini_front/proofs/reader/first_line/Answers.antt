use Rattle.std.proofs.Common.{◌≡◌, ap, ◌∙◌, arith}
use Rattle.std.specs.Str.Lines.{strip_carriage_return}
use Rattle.naga_oil_mini_front.proofs.LineLemmas.{return_stripped, cut_first}
use Rattle.naga_oil_mini_front.proofs.reader.first_line.Goals as goal

pub returns-in-Some : goal.returns-in-Some
returns-in-Some c =
    let cut = c.in-Some.ensures.byte (omega arith) (λ w o h. h) in
    let line : c.unwrap_or.result.now ≡ strip_carriage_return c.in-Some.line.now = return_stripped c.in-Some.line c.unwrap_or.result c.strip_suffix.result c.strip_suffix.ensures.cases c.unwrap_or.ensures in
    ap (λ l. (l, c.in-Some.rest.now)) line ∙ cut_first c.args.text.now c.in-Some.line.now c.in-Some.rest.now cut.0 cut.1 cut.2
