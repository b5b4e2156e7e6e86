use Rattle.std.proofs.Common.{◌≡◌, ℕ, ◌+◌, ◌-◌, ◌/◌, ◌%◌, ◌^◌, ◌≤◌, ◌++◌, List, [], ◌∷◌, ap, sym, ◌∙◌, arith, append_assoc, refl}
use Rattle.naga_oil_lines.specs.Decorate.{bits, bytes_of}
use Rattle.naga_oil_lines.proofs.Base32Lemmas.{bytes_step}
use Rattle.naga_oil_lines.proofs.decorate.push_byte.Goals as goal

-- one more byte is written, and eight bits fewer are left
pushed_byte : (old new : List ℕ) (count v byte : ℕ) (more : List ℕ) → 8 ≤ count → new ≡ old ++ byte ∷ [] → byte ≡ v / 2 ^ (count - 8) % 256
    → new ++ bytes_of (bits (count - 8) v ++ more) ≡ old ++ bytes_of (bits count v ++ more)
pushed_byte old new count v byte more le is byte_is =
    let n = count - 8 in
    let back : n + 8 ≡ count = omega arith in
    ap (λ l. l ++ bytes_of (bits n v ++ more)) is ∙ append_assoc old (byte ∷ []) (bytes_of (bits n v ++ more))
    ∙ ap (λ b. old ++ b ∷ bytes_of (bits n v ++ more)) byte_is
    ∙ ap (λ l. old ++ l) (sym (bytes_step n v more))
    ∙ ap (λ k. old ++ bytes_of (bits k v ++ more)) back

pub returns-clause-pushed : goal.returns-clause-pushed
returns-clause-pushed c = λ more. pushed_byte _ _ c.args.count c.args.number _ more c.if-count-lt8.false c.in_ok-push.ensures.items refl
