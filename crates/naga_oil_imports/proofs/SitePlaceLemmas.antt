-- Places of identifiers that fit in a `usize`.
use Rattle.std.proofs.Common.{◌≡◌, ℕ, ◌+◌, ◌<◌, ◌≤◌, ◌^◌, Bool, true, false, List, [], ◌∷◌, length, refl, ap, arith}
use Rattle.std.specs.Prelude.{All}
use Rattle.std.specs.Str.{chars, IsUtf8}
use Rattle.std.proofs.Math.Nat.{min-eq_left}
use Rattle.std.proofs.lemmas.Str.{encodes-chars}
use Rattle.std.proofs.lemmas.List.Elements.{All-head, All-tail}
use Rattle.naga_oil_lines.specs.Tokens.{Lexeme, identifier, other, whitespace, lexemes}
use Rattle.naga_oil_imports.specs.Substituted.{sites_from, sites, keeps_next, usize_place, usize_sites}
use Rattle.naga_oil_imports.proofs.ImportPlaceLemmas.{Within, lexemes_within}

place_counts : (place : ℕ) → place < 2 ^ 64 → usize_place place ≡ place
place_counts place h = min-eq_left (omega (arith, h))

tokens_count : (offset end : ℕ) → offset + end < 2 ^ 64 → (kept : Bool) (ts : List Lexeme) → All (Within end) ts → usize_sites (sites_from offset kept ts) ≡ sites_from offset kept ts
tokens_count offset end h kept [] w = refl
tokens_count offset end h true (identifier text at ∷ ts) w = tokens_count offset end h false ts (All-tail (Within end) _ _ w)
tokens_count offset end h false (identifier text at ∷ ts) w =
    let within : at ≤ end = All-head (Within end) _ _ w in
    let place : usize_place (offset + at) ≡ offset + at = place_counts (offset + at) (omega (arith, h, within)) in
    let more = tokens_count offset end h false ts (All-tail (Within end) _ _ w) in
    λ i. record { name = text; place = place i } ∷ more i
tokens_count offset end h kept (other c at ∷ ts) w = tokens_count offset end h (keeps_next (other c at)) ts (All-tail (Within end) _ _ w)
tokens_count offset end h kept (whitespace text at ∷ ts) w = tokens_count offset end h false ts (All-tail (Within end) _ _ w)

-- the identifiers of a text whose end fits in a `usize`
pub sites_count : (offset : ℕ) (text : List ℕ) → IsUtf8 text → offset + length text < 2 ^ 64 → usize_sites (sites offset (lexemes 0 0 (chars text))) ≡ sites offset (lexemes 0 0 (chars text))
sites_count offset text u h =
    tokens_count offset (length text) h false (lexemes 0 0 (chars text)) (lexemes_within 0 0 (length text) (chars text) (omega (arith, ap length (encodes-chars text u))))
