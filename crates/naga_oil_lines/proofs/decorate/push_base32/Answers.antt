use Rattle.std.proofs.Common.{◌≡◌, ℕ, ◌+◌, ◌*◌, ◌%◌, ◌<◌, ◌≤◌, ◌++◌, List, [], ◌∷◌, length, drop, get_or, ap, sym, ◌∙◌, arith, append_assoc, append-nil, add-one}
use Rattle.std.proofs.Math.Seq.{drop-cons}
use Rattle.std.proofs.lemmas.List.{drop_all}
use Rattle.std.specs.String.{string_bytes}
use Rattle.std.specs.List.{flat_map}
use Rattle.naga_oil_lines.specs.Decorate.{bits, letters}
use Rattle.naga_oil_lines.proofs.Base32Lemmas.{bits_after, last_letter}
use Rattle.naga_oil_lines.proofs.decorate.push_base32.Goals as goal

-- the bits that are left, and those of the byte at a place, before those of the later bytes
next_byte : (bytes : List ℕ) (i count pending byte : ℕ) → count < 5 → byte < 256 → i < length bytes → byte ≡ get_or bytes i 0
    → bits (count + 8) (pending % 32 * 256 + byte) ++ flat_map (bits 8) (drop (i + 1) bytes) ≡ bits count pending ++ flat_map (bits 8) (drop i bytes)
next_byte bytes i count pending byte few fits within is =
    let rest = flat_map (bits 8) (drop (i + 1) bytes) in
    let taken : drop i bytes ≡ byte ∷ drop (i + 1) bytes = drop-cons bytes i 0 within ∙ (λ k. sym is k ∷ drop (sym (add-one i) k) bytes) in
    ap (λ l. l ++ rest) (bits_after count pending byte few fits) ∙ append_assoc (bits count pending) (bits 8 byte) rest
    ∙ ap (λ l. bits count pending ++ flat_map (bits 8) l) (sym taken)

pub loop-byte-preserved : goal.loop-byte-preserved
loop-byte-preserved c =
    let more = next_byte c.args.bytes.now c.loop-byte.byte-index c.loop-byte.count c.loop-byte.pending c.from.result c.loop-byte.invariant.few
    (omega (arith, c.from.ensures, c.type_inv.bytes c.loop-byte.byte-index)) c.loop-byte-test.true c.from.ensures in
    record {
      pushed = c.in_ok-count.ensures.pushed _ ∙ ap (λ l. string_bytes c.loop-byte.out ++ letters l) more ∙ c.loop-byte.invariant.pushed;
      few = c.in_ok-count.ensures.few;
    }

-- after the last byte, the bits that are left make the last letter
at_end : (out goal bytes : List ℕ) (i count pending : ℕ) → length bytes ≤ i → out ++ letters (bits count pending ++ flat_map (bits 8) (drop i bytes)) ≡ goal → out ++ letters (bits count pending ++ []) ≡ goal
at_end out goal bytes i count pending le h = ap (λ l. out ++ letters (bits count pending ++ flat_map (bits 8) l)) (sym (drop_all i bytes le)) ∙ h

pub returns-in_ok-push : goal.returns-in_ok-push
returns-in_ok-push c =
    c.in_ok-push.ensures.bytes ∙ ap (λ l. string_bytes c.loop-byte.out ++ l) (c.in_ok-push.ensures.ascii c.letter.ensures.ascii)
    ∙ ap (λ ch. string_bytes c.loop-byte.out ++ ch ∷ []) c.letter.ensures.value
    ∙ ap (λ l. string_bytes c.loop-byte.out ++ l) (sym (last_letter c.loop-byte.count c.loop-byte.pending c.if-count-gt0.true c.loop-byte.invariant.few))
    ∙ at_end _ _ c.args.bytes.now c.loop-byte.byte-index _ _ c.loop-byte-test.false c.loop-byte.invariant.pushed

none_left : (out : List ℕ) (count pending : ℕ) → count ≤ 0 → out ≡ out ++ letters (bits count pending ++ [])
unfolding letters
none_left out count pending le = let none : count ≡ 0 = omega arith in rw none (sym (append-nil out))

pub returns-else-count-gt0 : goal.returns-else-count-gt0
returns-else-count-gt0 c =
    none_left (string_bytes c.loop-byte.out) c.loop-byte.count c.loop-byte.pending c.if-count-gt0.false
    ∙ at_end _ _ c.args.bytes.now c.loop-byte.byte-index _ _ c.loop-byte-test.false c.loop-byte.invariant.pushed
