-- The functions of each level, by place.
use Rattle.std.proofs.Common.{◌≡◌, ◌≢◌, ⊎_elim, ℕ, suc, ◌+◌, ◌<◌, Bool, true, false, cond, List, [], ◌∷◌, ◌++◌, length, map, take, get_or, slice_set, Option, Some, None, Vec, Global, refl, ap, sym, ◌∙◌, arith, append-nil}
use Rattle.std.specs.List.{flat_map, filter, enumerate_from, range_with_len}
use Rattle.std.proofs.lemmas.Bool.{cases_eq}
use Rattle.std.proofs.lemmas.List.{take_more, length-take-le}
use Rattle.naga_oil_form.specs.Links.{Links, lists, linked}
use Rattle.naga_oil_form.proofs.LinkLemmas.{eq_eqb}
use Rattle.naga_oil_redirect.specs.Level.{passing, is_level, by_level}
use Rattle.naga_oil_redirect.proofs.CountLemmas.{differs}
use Rattle.naga_oil_redirect.proofs.LevelLoops.{linked-set_same, linked-set_other}

-- those that pass, where places count from n
abbrev pub passing_from : ℕ → (Option ℕ → Bool) → List (Option ℕ) → List ℕ
passing_from n p xs = map (λ e. e.0) (filter (λ e. p e.1) (enumerate_from n xs))

front : (n : ℕ) (o : Option ℕ) (es : List (ℕ × Option ℕ)) (b : Bool) → map (λ e. e.0) (cond b ((n, o) ∷ es) es) ≡ cond b (n ∷ map (λ e. e.0) es) (map (λ e. e.0) es)
front n o es true = refl
front n o es false = refl

pub passing-cons : (n : ℕ) (p : Option ℕ → Bool) (o : Option ℕ) (xs : List (Option ℕ)) → passing_from n p (o ∷ xs) ≡ cond (p o) (n ∷ passing_from (n + 1) p xs) (passing_from (n + 1) p xs)
passing-cons n p o xs = front n o (filter (λ e. p e.1) (enumerate_from (n + 1) xs)) (p o)

joined : (n : ℕ) (xs ys zs : List ℕ) (b : Bool) → xs ≡ ys ++ zs → cond b (n ∷ xs) xs ≡ cond b (n ∷ ys) ys ++ zs
joined n xs ys zs true e = ap (λ v. n ∷ v) e
joined n xs ys zs false e = e

passing_from-push : (n : ℕ) (p : Option ℕ → Bool) (xs : List (Option ℕ)) (o : Option ℕ) → passing_from n p (xs ++ o ∷ []) ≡ passing_from n p xs ++ cond (p o) ((n + length xs) ∷ []) []
passing_from-push n p [] o = passing-cons n p o [] ∙ ap (λ m. cond (p o) (m ∷ []) []) (omega arith)
passing_from-push n p (x ∷ xs) o =
    let rest = passing_from-push (n + 1) p xs o ∙ ap (λ m. passing_from (n + 1) p xs ++ cond (p o) (m ∷ []) []) (omega arith) in
    passing-cons n p x (xs ++ o ∷ []) ∙ joined n _ (passing_from (n + 1) p xs) (cond (p o) ((n + suc (length xs)) ∷ []) []) (p x) rest ∙ ap (λ v. v ++ cond (p o) ((n + suc (length xs)) ∷ []) []) (sym (passing-cons n p x xs))

-- one function more
passing_more : (p : Option ℕ → Bool) (levels : List (Option ℕ)) (i : ℕ) (o : Option ℕ) → i < length levels → get_or levels i None ≡ o → passing p (take (i + 1) levels) ≡ passing p (take i levels) ++ cond (p o) (i ∷ []) []
passing_more p levels i o h e =
    ap (passing p) (take_more levels i None h) ∙ passing_from-push 0 p (take i levels) (get_or levels i None) ∙ ap (λ q. passing p (take i levels) ++ cond (p q) ((0 + length (take i levels)) ∷ []) []) e ∙ ap (λ m. passing p (take i levels) ++ cond (p o) (m ∷ []) []) (omega (arith, length-take-le i levels (omega (arith, h))))

-- the rounds hold the functions before one, each in its level's
abbrev pub AreRounds : List (List ℕ) → List (Option ℕ) → Type 0
AreRounds rounds levels = (k : ℕ) → linked rounds k ≡ passing (is_level k) levels

pub rounds_none : (rounds : Links) (levels : List (Option ℕ)) (i : ℕ) → i < length levels → get_or levels i None ≡ None → AreRounds rounds (take i levels) → AreRounds rounds (take (i + 1) levels)
rounds_none rounds levels i h e so_far k = so_far k ∙ sym (append-nil (passing (is_level k) (take i levels))) ∙ sym (passing_more (is_level k) levels i None h e)

pub rounds_some : (vs : List (Vec ℕ Global)) (levels : List (Option ℕ)) (i l : ℕ) (v : Vec ℕ Global) → i < length levels → get_or levels i None ≡ Some l → l < length vs → v.items ≡ linked (lists vs) l ++ i ∷ [] → AreRounds (lists vs) (take i levels) → AreRounds (lists (slice_set vs l v)) (take (i + 1) levels)
rounds_some vs levels i l v h e j items so_far k =
    let more = passing_more (is_level k) levels i (Some l) h e in
    ⊎_elim (λ (s : k ≡ l). ap (linked (lists (slice_set vs l v))) s ∙ linked-set_same vs l v j ∙ items ∙ ap (λ xs. xs ++ i ∷ []) (ap (linked (lists vs)) (sym s) ∙ so_far k) ∙ ap (λ b. passing (is_level k) (take i levels) ++ cond b (i ∷ []) []) (sym (eq_eqb l k (sym s))) ∙ sym more) (λ (d : k ≢ l). linked-set_other vs l k v d ∙ so_far k ∙ sym (append-nil (passing (is_level k) (take i levels))) ∙ ap (λ b. passing (is_level k) (take i levels) ++ cond b (i ∷ []) []) (sym (differs l k (λ s. d (sym s)))) ∙ sym more) (cases_eq k l)

-- lists that are given by their places, joined
flat_places : (vs : List (Vec ℕ Global)) (F : ℕ → List ℕ) (a : ℕ) → ((k : ℕ) → k < length vs → linked (lists vs) k ≡ F (a + k)) → flat_map (λ v. v.items) vs ≡ flat_map F (range_with_len a (length vs))
flat_places [] F a h = refl
flat_places (v ∷ vs) F a h =
    let rest = flat_places vs F (a + 1) (λ k i. h (suc k) (omega (arith, i)) ∙ ap F (omega arith)) in
    ap (λ xs. xs ++ flat_map (λ v. v.items) vs) (h 0 (omega arith) ∙ ap F (omega arith)) ∙ ap (λ xs. F a ++ xs) rest

pub all_rounds : (vs : List (Vec ℕ Global)) (levels : List (Option ℕ)) → length vs ≡ length levels → AreRounds (lists vs) levels → flat_map (λ v. v.items) vs ≡ by_level levels
all_rounds vs levels long rounds =
    flat_places vs (λ l. passing (is_level l) levels) 0 (λ k h. rounds k ∙ ap (λ m. passing (is_level m) levels) (omega arith)) ∙ ap (λ n. flat_map (λ l. passing (is_level l) levels) (range_with_len 0 n)) long
