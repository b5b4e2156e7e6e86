use Rattle.std.proofs.Common.{◌++◌, Ok, rules, ap, sym, ◌∙◌}
use Rattle.naga_oil_mini_symbols.specs.Refused.{◌>>◌}
use Rattle.naga_oil_mini_front.proofs.ReaderLemmas.{parameters_unclosed, parameters_unfinished, same_then}
use Rattle.naga_oil_mini_front.proofs.reader.read_parameters.Goals as goal
use Rattle.naga_oil_mini_front.proofs.reader.read_parameters.Goals.{then-symbols-lt1, else-symbols-lt1+in-Name-1, in_default-rest, in_default-rest-2, in_default-rest-3, in_default-rest-2-via-then-rest-lt2-2, in_default-rest-2-via-else-rest-lt2-2+in-Name+in-Name-rest-offset24-2, in_default-rest-2-via-else-rest-lt2-2+in-Opens-1}

pub loop-rest-init : goal.loop-rest-init
loop-rest-init c = rw c.clear.ensures (same_then _ ∙ sym (parameters_unclosed c.args.symbols.now (λ rest e. elim c.if-symbols-lt1.branch [ then-symbols-lt1 w ↦ search rules | else-symbols-lt1+in-Name-1 w ↦ search rules ])))

pub returns-in_default-rest-2 : goal.returns-in_default-rest-2
returns-in_default-rest-2 c =
    sym c.loop-rest.invariant ∙ ap (λ r. r >> λ p. Ok (c.loop-rest.names ++ p.0, p.1)) (parameters_unfinished c.loop-rest.rest.now
    (λ n rest e. elim c.if-rest-lt2.branch [
      | in_default-rest w ↦ search rules
      | in_default-rest-2 w ↦ search rules
      | in_default-rest-3 w ↦ search rules
    ])
    (λ n rest e. elim c.in_default-rest-2.branch [
      | in_default-rest-2-via-then-rest-lt2-2 w ↦ search rules
      | in_default-rest-2-via-else-rest-lt2-2+in-Name+in-Name-rest-offset24-2 w ↦ search rules
      | in_default-rest-2-via-else-rest-lt2-2+in-Opens-1 w ↦ search rules
    ]))
