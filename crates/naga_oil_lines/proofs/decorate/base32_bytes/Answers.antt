use Rattle.std.proofs.Common.{◌≡◌, ℕ, ◌+◌, ◌*◌, ◌%◌, ◌<◌, ◌++◌, List, [], ◌∷◌, length, drop, get_or, ap, refl, sym, ◌∙◌, arith, append_assoc, append-nil, add-one}
use Rattle.std.proofs.Math.Seq.{drop-cons}
use Rattle.std.proofs.lemmas.List.{drop_all}
use Rattle.std.specs.List.{flat_map}
use Rattle.naga_oil_lines.specs.Decorate.{bits, value_of, bytes_of}
use Rattle.naga_oil_lines.proofs.Base32Lemmas.{letter_after, no_byte}
use Rattle.naga_oil_lines.proofs.decorate.base32_bytes.Goals as goal

-- the bits that are left, and those of the letter at a place, before those of the later letters
next_letter : (code : List ℕ) (i count pending letter v : ℕ) → count < 8 → i < length code → letter ≡ get_or code i 0 → v ≡ value_of letter
    → bits (count + 5) (pending % 256 * 32 + v % 32) ++ flat_map (λ c. bits 5 (value_of c)) (drop (i + 1) code) ≡ bits count pending ++ flat_map (λ c. bits 5 (value_of c)) (drop i code)
next_letter code i count pending letter v few within is read =
    let rest = flat_map (λ c. bits 5 (value_of c)) (drop (i + 1) code) in
    let taken : drop i code ≡ letter ∷ drop (i + 1) code = drop-cons code i 0 within ∙ (λ k. sym is k ∷ drop (sym (add-one i) k) code) in
    ap (λ l. l ++ rest) (letter_after pending v count (omega arith)) ∙ append_assoc (bits count pending) (bits 5 v) rest
    ∙ ap (λ w. bits count pending ++ (bits 5 w ++ rest)) read
    ∙ ap (λ l. bits count pending ++ flat_map (λ c. bits 5 (value_of c)) l) (sym taken)

pub loop-letter-preserved : goal.loop-letter-preserved
loop-letter-preserved c =
    let more = next_letter c.args.code.now c.loop-letter.letter-index c.loop-letter.count c.loop-letter.pending _ c.value_of.result c.loop-letter.invariant.few c.loop-letter-test.true refl c.value_of.ensures in
    record {
      pushed = c.in_ok-count.ensures.pushed _ ∙ ap (λ l. c.loop-letter.bytes.items ++ bytes_of l) more ∙ c.loop-letter.invariant.pushed;
      few = c.in_ok-count.ensures.few;
    }

pub returns : goal.returns
returns c =
    let bytes = c.loop-letter.bytes.items in
    let count = c.loop-letter.count in
    let pending = c.loop-letter.pending in
    let done : drop c.loop-letter.letter-index c.args.code.now ≡ [] = drop_all c.loop-letter.letter-index c.args.code.now c.loop-letter-test.false in
    sym (append-nil bytes) ∙ ap (λ l. bytes ++ l) (sym (no_byte count pending c.loop-letter.invariant.few))
    ∙ ap (λ l. bytes ++ bytes_of (bits count pending ++ flat_map (λ c. bits 5 (value_of c)) l)) (sym done) ∙ c.loop-letter.invariant.pushed
