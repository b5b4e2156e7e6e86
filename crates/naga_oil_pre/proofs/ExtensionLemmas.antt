-- The names of a list, part by part.
use Rattle.std.proofs.Common.{◌≡◌, ℕ, ◌==◌, cond, not, true, false, List, [], ◌∷◌, ◌++◌, map, length, string_bytes, String, Global, sym, ap, ◌∙◌, append-nil}
use denote.Ref.{Bor}
use Rattle.std.specs.List.{filter}
use Rattle.std.specs.Str.{trim}
use Rattle.std.proofs.lemmas.List.{map-append}
use Rattle.std.proofs.lemmas.List.Elements.{filter-append}

-- the names of the parts so far
abbrev pub names_in : List (Bor (List ℕ)) → List (List ℕ)
names_in parts = filter (λ name. not (length name == 0)) (map trim (map (λ p. p.now) parts))

names_more : (parts : List (Bor (List ℕ))) (part : Bor (List ℕ)) → names_in (parts ++ part ∷ []) ≡ names_in parts ++ names_in (part ∷ [])
names_more parts part =
    ap (λ l. filter (λ name. not (length name == 0)) (map trim l)) (map-append (λ (p : Bor (List ℕ)). p.now) parts (part ∷ []))
    ∙ ap (filter (λ name. not (length name == 0))) (map-append trim (map (λ p. p.now) parts) (part.now ∷ []))
    ∙ filter-append (λ name. not (length name == 0)) (map trim (map (λ p. p.now) parts)) (trim part.now ∷ [])

module _ (parts : List (Bor (List ℕ))) (part : Bor (List ℕ)) (name : List ℕ) (names : List (String Global)) (so_far : map string_bytes names ≡ names_in parts) (is : name ≡ trim part.now) where
  pub name_left_out : true ≡ (length name == 0) → map string_bytes names ≡ names_in (parts ++ part ∷ [])
  name_left_out none =
      let alone : names_in (part ∷ []) ≡ [] = ap (λ n. cond (not (length n == 0)) (n ∷ []) []) (sym is) ∙ ap (λ b. cond (not b) (name ∷ []) []) (sym none) in
      so_far ∙ sym (append-nil (names_in parts)) ∙ ap (λ l. names_in parts ++ l) (sym alone) ∙ sym (names_more parts part)

  pub name_taken : (text : String Global) (more : List (String Global)) → more ≡ names ++ text ∷ [] → string_bytes text ≡ name → false ≡ (length name == 0) → map string_bytes more ≡ names_in (parts ++ part ∷ [])
  name_taken text more pushed same some =
      let alone : names_in (part ∷ []) ≡ name ∷ [] = ap (λ n. cond (not (length n == 0)) (n ∷ []) []) (sym is) ∙ ap (λ b. cond (not b) (name ∷ []) []) (sym some) in
      ap (map string_bytes) pushed ∙ map-append string_bytes names (text ∷ []) ∙ (λ i. so_far i ++ same i ∷ []) ∙ ap (λ l. names_in parts ++ l) (sym alone) ∙ sym (names_more parts part)
