use Rattle.std.proofs.Common.{length, sym, ◌∙◌, arith, below_more}
use Rattle.std.proofs.lemmas.List.Sums.{prefix_len_is}
use Rattle.naga_oil_mini_symbols.specs.Symbols.{is_name_char}
use Rattle.naga_oil_mini_symbols.proofs.symbol.run_len.Goals as goal

pub loop-i-preserved : goal.loop-i-preserved
loop-i-preserved c = below_more _ _ c.loop-i.invariant (sym c.is_name_byte.ensures ∙ c.if-not-is_name_byte.false)

pub returns-then-not-is_name_byte : goal.returns-then-not-is_name_byte
returns-then-not-is_name_byte c =
    sym (prefix_len_is is_name_char c.args.bytes.now c.loop-i.i 0 (omega arith) c.loop-i.invariant (λ h. sym c.is_name_byte.ensures ∙ c.if-not-is_name_byte.true))

pub returns : goal.returns
returns c = sym (prefix_len_is is_name_char c.args.bytes.now (length c.args.bytes.now) 0 (omega arith) (λ k h. c.loop-i.invariant k (omega arith)) (λ h. absurd (omega arith)))
