-- ASCII bytes that begin no identifier, one after another.
use Rattle.std.proofs.Common.{◌≡◌, ℕ, suc, ◌+◌, ◌-◌, ◌<◌, Bool, true, false, cond, eqb, ◌||◌, Some, List, [], ◌∷◌, ◌++◌, length, take, drop, get_or, refl, sym, ap, subst, ◌∙◌, arith}
use Rattle.std.specs.Char.{encode_utf8}
use Rattle.std.specs.List.{prefix_len, slice_get}
use Rattle.std.specs.Str.{IsUtf8}
use borrow.Author.Tests.{ne_eqb}
use Rattle.std.proofs.lemmas.Option.{get_or_from_slice_get}
use Rattle.std.proofs.lemmas.Bool.Decides.{nat_tests}
use Rattle.std.proofs.lemmas.Str.{encode_ascii}
use Rattle.unicode_ident.proofs.IdentLemmas.{is_xid_start-ascii}
use Rattle.naga_oil_imports.specs.Sites.{Passes, gap_keeps}
use Rattle.naga_oil_lines.specs.Text.{BeginsWithChar}
use Rattle.naga_oil_lines.specs.Tokens.{starts_identifier}
use Rattle.naga_oil_lines.specs.Words.{is_gap_byte}
use Rattle.naga_oil_imports.proofs.PassLemmas.{passes_none, passes_more, other_passes}
use Rattle.naga_oil_lines.proofs.TextLemmas.{first_char}
use Rattle.naga_oil_lines.proofs.WordLemmas.{gap_ascii}

-- the last of the bytes decides
last_decides : (kept : Bool) (b : ℕ) (bs : List ℕ) → gap_keeps kept (b ∷ bs) ≡ (eqb (get_or (b ∷ bs) (length bs) 0) 46 || eqb (get_or (b ∷ bs) (length bs) 0) 64)
last_decides kept b [] = refl
last_decides kept b (c ∷ bs) = last_decides (eqb b 46 || eqb b 64) c bs

pub keeps_by_last : (kept : Bool) (gap : List ℕ) (last : ℕ) → Some last ≡ slice_get gap (length gap - 1) → (eqb last 46 || eqb last 64) ≡ gap_keeps kept gap
keeps_by_last kept [] last e = cc
keeps_by_last kept (b ∷ bs) last e =
    let at : length (b ∷ bs) - 1 ≡ length bs = omega arith in
    let is : get_or (b ∷ bs) (length bs) 0 ≡ last = get_or_from_slice_get (b ∷ bs) (length bs) last 0 (ap (slice_get (b ∷ bs)) (sym at) ∙ sym e) in
    sym (last_decides kept b bs ∙ ap (λ k. eqb k 46 || eqb k 64) is)

gap_starts_none : (b : ℕ) → is_gap_byte b ≡ true → starts_identifier b ≡ false
gap_starts_none b e = rw (is_xid_start-ascii b (gap_ascii b e)) (grind (arith, nat_tests, e))

gap_first : (b : ℕ) (bs : List ℕ) → IsUtf8 (b ∷ bs) → is_gap_byte b ≡ true → BeginsWithChar (b ∷ bs) b bs
gap_first b bs u e = first_char (b ∷ bs) bs b u (ap (λ l. l ++ bs) (sym (encode_ascii b (gap_ascii b e))))

-- the bytes before the first other byte are written as they are
pub gap_passes : (kept : Bool) (bs : List ℕ) → IsUtf8 bs → Passes kept bs (gap_keeps kept (take (prefix_len is_gap_byte bs) bs)) (drop (prefix_len is_gap_byte bs) bs)
gap_passes kept [] u = passes_none kept [] u
gap_passes kept (b ∷ bs) u =
    let n = prefix_len is_gap_byte bs in
    let one : 1 + n ≡ suc n = omega arith in
    elim (is_gap_byte b) as (λ w. is_gap_byte b ≡ w → Passes kept (b ∷ bs) (gap_keeps kept (take (cond w (1 + n) 0) (b ∷ bs))) (drop (cond w (1 + n) 0) (b ∷ bs))) [
      | true ↦ λ e.
          let first = gap_first b bs u e in
          let next = eqb b 46 || eqb b 64 in
          rw one (passes_more kept next (gap_keeps next (take n bs)) (b ∷ bs) bs (drop n bs) (other_passes kept (b ∷ bs) b bs first (gap_starts_none b e)) (gap_passes next bs first.utf8))
      | false ↦ λ e. passes_none kept (b ∷ bs) u
    ] refl

-- another byte at the front belongs to no character of these
not_first : (b : ℕ) (bs : List ℕ) (c : ℕ) (more : List ℕ) → BeginsWithChar (b ∷ bs) c more → is_gap_byte b ≡ false → (k : ℕ) → is_gap_byte k ≡ true → eqb c k ≡ false
not_first b bs c more first stop k gap =
    ne_eqb c k (λ e.
    let same : b ∷ bs ≡ k ∷ more = first.bytes ∙ ap (λ c. encode_utf8 c ++ more) e ∙ ap (λ l. l ++ more) (encode_ascii k (gap_ascii k gap)) in
    let is : b ≡ k = cc in
    let both : true ≡ false = sym gap ∙ ap is_gap_byte (sym is) ∙ stop in
    cc)

-- after such bytes neither `.` nor `@` comes
pub none_keeps : (bs : List ℕ) (c : ℕ) (more : List ℕ) → BeginsWithChar (drop (prefix_len is_gap_byte bs) bs) c more → (eqb c 46 || eqb c 64) ≡ false
none_keeps [] c more first = absurd (omega (arith, first.shorter))
none_keeps (b ∷ bs) c more first =
    let n = prefix_len is_gap_byte bs in
    let one : 1 + n ≡ suc n = omega arith in
    elim (is_gap_byte b) as (λ w. is_gap_byte b ≡ w → BeginsWithChar (drop (cond w (1 + n) 0) (b ∷ bs)) c more → (eqb c 46 || eqb c 64) ≡ false) [
      | true ↦ rw one (λ e f. none_keeps bs c more f)
      | false ↦ λ e f. rw (not_first b bs c more f e 46 refl, not_first b bs c more f e 64 refl) refl
    ] refl first

-- after such bytes each ASCII character begins an identifier
pub ascii_starts : (bs : List ℕ) (c : ℕ) (more : List ℕ) → BeginsWithChar (drop (prefix_len is_gap_byte bs) bs) c more → c < 128 → starts_identifier c ≡ true
ascii_starts [] c more first ascii = absurd (omega (arith, first.shorter))
ascii_starts (b ∷ bs) c more first ascii =
    let n = prefix_len is_gap_byte bs in
    let one : 1 + n ≡ suc n = omega arith in
    elim (is_gap_byte b) as (λ w. is_gap_byte b ≡ w → BeginsWithChar (drop (cond w (1 + n) 0) (b ∷ bs)) c more → starts_identifier c ≡ true) [
      | true ↦ rw one (λ e f. ascii_starts bs c more f ascii)
      | false ↦ λ e f.
          let same : b ∷ bs ≡ c ∷ more = f.bytes ∙ ap (λ l. l ++ more) (encode_ascii c ascii) in
          let is : b ≡ c = cc in
          let stop : is_gap_byte c ≡ false = subst (λ k. is_gap_byte k ≡ false) is e in
          rw (is_xid_start-ascii c ascii) (grind (arith, nat_tests, stop))
    ] refl first

-- the same after earlier text that was passed, with a character after it
module _ (bs gap from : List ℕ) (g : gap ≡ take (prefix_len is_gap_byte bs) bs) (f : from ≡ drop (prefix_len is_gap_byte bs) bs) where
  pub passes_gap : (text : List ℕ) (kept next : Bool) → IsUtf8 bs → next ≡ gap_keeps kept gap → Passes false text kept bs → Passes false text next from
  passes_gap text kept next u n before = passes_more false kept next text bs from before (rw (n, g, f) (gap_passes kept bs u))

  pub passes_after_gap : (kept : Bool) (c : ℕ) (more : List ℕ) → BeginsWithChar from c more → starts_identifier c ≡ false → Passes kept from false more
  passes_after_gap kept c more first starts =
      subst (λ k. Passes kept from k more) (none_keeps bs c more (subst (λ l. BeginsWithChar l c more) f first)) (other_passes kept from c more first starts)
