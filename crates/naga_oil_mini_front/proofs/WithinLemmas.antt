-- `)with` within a text, found after its `)`.
use Rattle.std.proofs.Common.{◌≡◌, ℕ, suc, ◌+◌, ◌<◌, ◌≤◌, Bool, true, false, cond, eqb, not, ◌&&◌, ◌||◌, List, [], ◌∷◌, length, drop, codes, refl, ap, sym, ◌∙◌, arith}
use Rattle.std.proofs.lemmas.Bool.Decides.{nat_tests}
use Rattle.std.specs.List.{starts_with, position_or_len, after_first}
use Rattle.naga_oil_mini_front.specs.Reader.{lacks_space}

-- a `)`
abbrev pub closes : ℕ → Bool
closes b = eqb b 41

closes_swapped : (b : ℕ) → eqb 41 b ≡ eqb b 41
closes_swapped b = grind (arith, nat_tests)

-- a text after its first byte, where that is a `)` or not
lacks_more : (b : ℕ) (w : List ℕ) (t : Bool) → eqb b 41 ≡ t → lacks_space (b ∷ w) ≡ ((t && starts_with eqb w (codes "with")) || lacks_space w)
lacks_more b w t e = ap (λ s. (s && starts_with eqb w (codes "with")) || lacks_space w) (closes_swapped b ∙ e)

-- a text without `)`
pub lacks_none : (w : List ℕ) → length w ≤ position_or_len closes w → lacks_space w ≡ false
lacks_none [] h = refl
lacks_none (b ∷ w) h =
    elim (eqb b 41) as (λ t. eqb b 41 ≡ t → suc (length w) ≤ cond (not t) (1 + position_or_len closes w) 0 → lacks_space (b ∷ w) ≡ false) [
      | true ↦ λ e k. absurd (omega arith)
      | false ↦ λ e k. lacks_more b w false e ∙ lacks_none w (omega arith)
    ] refl h

-- after the first `)`
pub lacks_after : (w : List ℕ) → position_or_len closes w < length w → lacks_space w ≡ (starts_with eqb (after_first closes w) (codes "with") || lacks_space (after_first closes w))
lacks_after [] h = absurd (omega arith)
lacks_after (b ∷ w) h =
    let n = position_or_len closes w in
    let next : 1 + n + 1 ≡ suc (n + 1) = omega arith in
    elim (eqb b 41) as (λ t. eqb b 41 ≡ t → cond (not t) (1 + n) 0 < suc (length w)
    → lacks_space (b ∷ w) ≡ (starts_with eqb (drop (cond (not t) (1 + n) 0 + 1) (b ∷ w)) (codes "with") || lacks_space (drop (cond (not t) (1 + n) 0 + 1) (b ∷ w)))) [
      | true ↦ λ e k. lacks_more b w true e
      | false ↦ λ e k. lacks_more b w false e ∙ lacks_after w (omega arith) ∙ ap (λ t. starts_with eqb t (codes "with") || lacks_space t) (ap (λ i. drop i (b ∷ w)) (sym next))
    ] refl h
