use Rattle.std.proofs.Common.{◌≡◌}
use Rattle.naga_oil_ir.specs.Body.{block_tokens}
use Rattle.naga_oil_front_end_tests.specs.Nested.{nested_tokens}
use Rattle.naga_oil_front_end_tests.proofs.nested.blocks.Given as goal

abbrev pub invariant-loop : goal.invariant-loop
invariant-loop l = block_tokens l.block ≡ nested_tokens l.counter
