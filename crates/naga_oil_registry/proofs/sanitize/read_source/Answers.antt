use Rattle.std.proofs.Common.{◌≤◌, sym, length, arith}
use Rattle.naga_oil_registry.specs.Sanitized.{first_decoration}
use Rattle.naga_oil_words.specs.Marks.{module_mark, override_mark}
use Rattle.naga_oil_registry.proofs.SanitizedLemmas.{first-within}
use Rattle.naga_oil_registry.proofs.sanitize.read_source.Goals as goal

pub overflow_add-result : goal.overflow_add-result
unfolding first_decoration
overflow_add-result c =
    let within : c.in-Some.start ≤ length c.args.source.now = first-within module_mark override_mark c.args.source.now c.in-Some.start (sym c.in-Some.ensures) in
    omega arith
