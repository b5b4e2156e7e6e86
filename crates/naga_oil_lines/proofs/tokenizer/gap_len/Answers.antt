use Rattle.std.proofs.Common.{length, sym, ◌∙◌, arith, below_more}
use Rattle.std.proofs.lemmas.List.Sums.{prefix_len_is}
use Rattle.naga_oil_lines.specs.Words.{is_gap_byte}
use Rattle.naga_oil_lines.proofs.tokenizer.gap_len.Goals as goal

pub loop-i-preserved : goal.loop-i-preserved
loop-i-preserved c = below_more _ _ c.loop-i.invariant (sym c.is_gap_byte.ensures ∙ c.if-not-is_gap_byte.false)

pub returns-then-not-is_gap_byte : goal.returns-then-not-is_gap_byte
returns-then-not-is_gap_byte c =
    sym (prefix_len_is is_gap_byte c.args.bytes.now c.loop-i.i 0 (omega arith) c.loop-i.invariant (λ h. sym c.is_gap_byte.ensures ∙ c.if-not-is_gap_byte.true))

pub returns : goal.returns
returns c = sym (prefix_len_is is_gap_byte c.args.bytes.now (length c.args.bytes.now) 0 (omega arith) (λ k h. c.loop-i.invariant k (omega arith)) (λ h. absurd (omega arith)))
