-- The index of an arena by the hashes of its items.
use Rattle.std.specs.Prelude.{◌≡◌, ℕ, suc, ◌<◌, ◌≤◌, List, length, Some, slice_get, unwrap_or, nat_eq}
use Rattle.std.specs.List.{fold}
use Rattle.std.specs.Map.{lookup}
use Rattle.std.specs.Hash.FoldHasher.{initial, write, finish}
use Rattle.naga_oil_ir.specs.declared.span.Span.{Span}

-- the hash of a value that writes these bytes to a hasher
abbrev pub hashed : List (List ℕ) → ℕ
hashed writes = finish (fold write initial writes)

-- the first n items are covered: there are at least n, and the entries map the digest of each of them to its place or an earlier one
abbrev pub Covers : {T : Type 0} → (T → ℕ) → List (T × Span) → ℕ → List (ℕ × ℕ) → Type 0
Covers {T} digest items n entries =
    (n ≤ length items) × ((i : ℕ) (e : T × Span) → i < n → slice_get items i ≡ Some e → unwrap_or (lookup (nat_eq (digest e.0)) entries) (suc i) ≤ i)
