use Rattle.std.proofs.Common.{Some, None, ap, ◌∙◌, sym, arith}
use Rattle.naga_oil_registry.specs.Sanitized.{first_decoration, earlier}
use Rattle.naga_oil_words.specs.Marks.{module_mark, override_mark}
use Rattle.naga_oil_registry.proofs.SanitizedLemmas.{first_of_finds}
use Rattle.naga_oil_registry.proofs.sanitize.first_decoration.Goals as goal

pub returns-in-Some-Some : goal.returns-in-Some-Some
unfolding first_decoration
returns-in-Some-Some c =
    ap (λ n. Some n) c.min.ensures
    ∙ sym (first_of_finds module_mark override_mark c.args.source.now (Some c.in-Some-Some.of_item) (Some c.in-Some-Some.of_override) (omega arith) (omega arith) c.in-Some-Some.ensures.cases c.in-Some-Some.ensures'.cases)

pub returns-in-Some-None : goal.returns-in-Some-None
unfolding first_decoration
returns-in-Some-None c =
    sym (first_of_finds module_mark override_mark c.args.source.now (Some c.in-Some-None.of_item) None (omega arith) (omega arith) c.in-Some-None.ensures.cases c.in-Some-None.ensures'.cases)

pub returns-in-None-default : goal.returns-in-None-default
unfolding first_decoration
returns-in-None-default c =
    ap (λ a. earlier a c.find-2.result) (sym c.in-None-default.is-0)
    ∙ sym (first_of_finds module_mark override_mark c.args.source.now c.find.result c.find-2.result (omega arith) (omega arith) c.find.ensures.cases c.find-2.ensures.cases)
