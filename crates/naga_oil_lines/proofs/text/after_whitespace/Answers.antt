use Rattle.std.proofs.Common.{◌++◌, ◌∙◌, sym, ap, take}
use Rattle.std.proofs.lemmas.List.{take-append-drop}
use Rattle.naga_oil_lines.proofs.TextLemmas.{chars_trimmed}
use Rattle.naga_oil_lines.proofs.text.after_whitespace.Goals as goal

pub returns-clause-chars : goal.returns-clause-chars
returns-clause-chars c = chars_trimmed _ _ c.trim_start.utf8 c.trim_start.ensures.trim

pub returns-clause-suffix : goal.returns-clause-suffix
returns-clause-suffix c =
    let v = c.trim_start.ensures.value in
    (take v.0 c.args.text.now, sym (take-append-drop v.0 c.args.text.now) ∙ ap (λ l. take v.0 c.args.text.now ++ l) (sym v.1))
