-- The table of classes agrees with a test at each of the 256 bytes, by computing.
use Rattle.std.proofs.Common.{List, [], ◌∷◌, length, ◌≤◌, refl, ◌≡◌, ℕ, ◌<◌, Bool, false, not, nat_eq, bit_and, map, get_or, sym, ap, ◌∙◌, arith}
use Rattle.std.specs.List.{range_with_len}
use Rattle.std.proofs.lemmas.List.FromFn.{get_or-map-range_with_len}
use Rattle.naga_oil_lines.specs.Words.{ends_identifier}
use Rattle.naga_oil_lines.specs.declared.tokenizer.TheConstants.{CLASS}

abbrev pub has_flag : ℕ → ℕ → Bool
has_flag flag b = not (nat_eq (bit_and (get_or CLASS b 0) flag) 0)

pub from_table : (flag : ℕ) (test : ℕ → Bool) (b : ℕ) → b < 256 → map (has_flag flag) (range_with_len 0 256) ≡ map test (range_with_len 0 256) → has_flag flag b ≡ test b
from_table flag test b h e =
    sym (get_or-map-range_with_len (has_flag flag) 0 256 b b false h (omega arith)) ∙ ap (λ l. get_or l b false) e
    ∙ get_or-map-range_with_len test 0 256 b b false h (omega arith)

-- the first byte of a text decides whether an identifier ends before it
pub ends_by_class : (bs : List ℕ) → 1 ≤ length bs → get_or bs 0 0 < 256 → has_flag 4 (get_or bs 0 0) ≡ ends_identifier bs
ends_by_class [] some lt = absurd (omega arith)
ends_by_class (b ∷ bs) some lt = from_table 4 (λ b. ends_identifier (b ∷ [])) b lt refl
