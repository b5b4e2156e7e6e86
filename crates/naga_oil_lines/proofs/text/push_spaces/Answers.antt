use Rattle.std.proofs.Common.{◌≡◌, ◌++◌, string_bytes, ℕ, length, ap, ◌∙◌, arith, rules}
use Rattle.std.proofs.lemmas.List.{length-replicate}
use Rattle.naga_oil_lines.proofs.TextLemmas.{cut_spaces, spaces_more, spaces_last}
use Rattle.naga_oil_lines.proofs.text.push_spaces.Goals as goal

pub loop-left-preserved : goal.loop-left-preserved
loop-left-preserved c =
    let spaces = c.spaces-spaces.result.now in
    let size : length spaces ≡ 64 = ap length c.spaces-spaces.ensures ∙ length-replicate {A = ℕ} 64 32 in
    record {
      within = omega (arith, c.loop-left.invariant.within);
      pushed = rw size (spaces_more _ _ _ spaces c.args.count c.loop-left.left 64 c.spaces-spaces.ensures c.loop-left.invariant.within (omega (arith, size)) c.loop-left.invariant.pushed c.in_ok-push_str.ensures.bytes);
    }

pub range-requires-clause-end_boundary : goal.range-requires-clause-end_boundary
range-requires-clause-end_boundary c = cut_spaces c.spaces-spaces.result.now 64 c.loop-left.left c.spaces-spaces.ensures (omega arith)

pub returns : goal.returns
returns c =
    let spaces = c.spaces-spaces.result.now in
    let size : length spaces ≡ 64 = ap length c.spaces-spaces.ensures ∙ length-replicate {A = ℕ} 64 32 in
    spaces_last _ _ _ spaces c.args.count c.loop-left.left 64 c.spaces-spaces.ensures c.loop-left.invariant.within (omega (arith, size)) c.loop-left.invariant.pushed
    (c.in_ok-push_str-2.ensures.bytes ∙ ap (λ l. string_bytes c.loop-left.out ++ l) (search rules))
