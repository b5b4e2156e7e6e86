-- The places of names.
use Rattle.std.proofs.Common.{◌≡◌, ℕ, suc, ◌+◌, ◌-◌, ◌<◌, ◌≤◌, true, false, cond, List, [], ◌∷◌, ◌++◌, length, get_or, take, Some, None, option_map, refl, sym, ap, ◌∙◌, bytes_eq, Bor, arith}
use Rattle.std.proofs.lemmas.List.{length-map, length-take-le, map-append, take_more}
use Rattle.std.specs.Option.{option_or}
use Rattle.std.specs.HashMap as hash
use Rattle.std.specs.HashMap.{HashMap}
use Rattle.std.proofs.lemmas.Map.Text.{hash_map_updates_str}
use Rattle.naga_oil_mini_symbols.specs.NameTable.{last_place, place_in, texts_of}

-- another name
pub last_place-push : (q n : List ℕ) (ns : List (List ℕ)) → last_place q (ns ++ n ∷ []) ≡ cond (bytes_eq n q) (Some (length ns)) (last_place q ns)
last_place-push q n [] = refl
last_place-push q n (m ∷ ns) =
    ap (λ o. option_or (option_map suc o) (cond (bytes_eq m q) (Some 0) None)) (last_place-push q n ns)
    ∙ elim (bytes_eq n q) as (λ b. option_or (option_map suc (cond b (Some (length ns)) (last_place q ns))) (cond (bytes_eq m q) (Some 0) None)
    ≡ cond b (Some (suc (length ns))) (option_or (option_map suc (last_place q ns)) (cond (bytes_eq m q) (Some 0) None))) [ true ↦ refl | false ↦ refl ]

-- the last place among the first names, by the last of them
pub last_place-take : (q : List ℕ) (ts : List (Bor (List ℕ))) (k : ℕ) (d : Bor (List ℕ)) → 0 < k → k ≤ length ts
    → last_place q (texts_of (take k ts)) ≡ cond (bytes_eq (get_or ts (k - 1) d).now q) (Some (k - 1)) (last_place q (texts_of (take (k - 1) ts)))
last_place-take q ts k d some within =
    let one : k ≡ k - 1 + 1 = omega arith in
    let front = take (k - 1) ts in
    let last = get_or ts (k - 1) d in
    let cut : take k ts ≡ front ++ last ∷ [] = ap (λ n. take n ts) one ∙ take_more ts (k - 1) d (omega arith) in
    let many : length (texts_of front) ≡ k - 1 = length-map front (λ t. t.now) ∙ length-take-le (k - 1) ts (omega arith) in
    ap (λ l. last_place q (texts_of l)) cut ∙ ap (last_place q) (map-append (λ t. t.now) front (last ∷ [])) ∙ last_place-push q last.now (texts_of front)
    ∙ ap (λ n. cond (bytes_eq last.now q) (Some n) (last_place q (texts_of front))) many

-- the map with another name
pub place_in-insert : {S : Type 0} (name : Bor (List ℕ)) (ts : List (Bor (List ℕ))) (m n : HashMap (Bor (List ℕ)) ℕ S) (place : ℕ)
    → hash.UpdatesBy (λ x y. bytes_eq x.now y.now) (λ k. bytes_eq name.now k.now) m n (Some place)
    → place ≡ length ts → ((q : List ℕ) → place_in m q ≡ last_place q (texts_of ts))
    → (q : List ℕ) → place_in n q ≡ last_place q (texts_of (ts ++ name ∷ []))
place_in-insert name ts m n place updates last known q =
    hash_map_updates_str name.now m n (Some place) updates q
    ∙ ap (λ o. cond (bytes_eq name.now q) (Some place) o) (known q)
    ∙ ap (λ k. cond (bytes_eq name.now q) (Some k) (last_place q (texts_of ts))) (last ∙ sym (length-map ts (λ t. t.now)))
    ∙ sym (last_place-push q name.now (texts_of ts))
    ∙ ap (last_place q) (sym (map-append (λ t. t.now) ts (name ∷ [])))
