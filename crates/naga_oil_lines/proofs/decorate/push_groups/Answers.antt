use Rattle.std.proofs.Common.{◌≡◌, ℕ, ◌+◌, ◌-◌, ◌/◌, ◌%◌, ◌^◌, ◌≤◌, ◌++◌, List, [], ◌∷◌, ap, sym, ◌∙◌, arith, append_assoc}
use Rattle.std.specs.String.{string_bytes}
use Rattle.naga_oil_lines.specs.Decorate.{bits, letter, letters}
use Rattle.naga_oil_lines.proofs.Base32Lemmas.{letters_step}
use Rattle.naga_oil_lines.proofs.decorate.push_groups.Goals as goal

-- one more letter is written, and five bits fewer are left
pushed_more : (out new goal : List ℕ) (left count v ch : ℕ) (more : List ℕ) → 5 ≤ left → new ≡ out ++ ch ∷ [] → ch ≡ letter (v / 2 ^ (left - 5) % 32)
    → out ++ letters (bits left v ++ more) ≡ goal → new ++ letters (bits (left - 5) v ++ more) ≡ goal
pushed_more out new goal left count v ch more le is letter_is before =
    let n = left - 5 in
    let back : n + 5 ≡ left = omega arith in
    ap (λ l. l ++ letters (bits n v ++ more)) is ∙ append_assoc out (ch ∷ []) (letters (bits n v ++ more))
    ∙ ap (λ c. out ++ c ∷ letters (bits n v ++ more)) letter_is
    ∙ ap (λ l. out ++ l) (sym (letters_step n v more))
    ∙ ap (λ k. out ++ letters (bits k v ++ more)) back ∙ before

pub loop-left-preserved : goal.loop-left-preserved
loop-left-preserved c = record {
  pushed = λ more. pushed_more _ _ _ _ 0 _ _ more (omega arith) (c.in_ok-push.ensures.bytes ∙ ap (λ l. string_bytes c.loop-left.out ++ l) (c.in_ok-push.ensures.ascii c.letter.ensures.ascii)) c.letter.ensures.value (c.loop-left.invariant.pushed more);
  bound = omega arith;
}
