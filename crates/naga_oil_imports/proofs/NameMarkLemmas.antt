-- The marks cover the declared names.
use Rattle.std.proofs.Common.{◌≡◌, ℕ, zero, suc, ◌+◌, ◌<◌, Bool, true, false, cond, ◌&&◌, ◌||◌, eqb, List, [], ◌∷◌, ◌++◌, length, map, drop, Some, None, String, Vec, string_bytes, bytes_eq, Result, Ok, Err, refl, sym, ap, subst, ◌∙◌, arith, append_assoc, append-nil}
use Rattle.std.specs.declared.alloc.Global.{Global}
use Rattle.std.specs.List.{list_all, slice_get}
use Rattle.std.proofs.Math.Seq.{drop-append_seam}
use Rattle.std.proofs.lemmas.List.{length-map}
use Rattle.std.proofs.lemmas.List.Folds.{list_all-append}
use Rattle.std.proofs.lemmas.Slice.Eq.{bytes_eq-Decides}
use Rattle.std.proofs.lemmas.Bool.Decides.{nat_tests}
use Rattle.naga_oil_imports.specs.declared.declared_names.DeclaredNames.{DeclaredNames}
use Rattle.naga_oil_imports.specs.Declarations.{Declared, paths_of, with_path}
use Rattle.naga_oil_imports.specs.Leaves.{Leaf, SyntaxFault, with_leaves, with_import}
use Rattle.naga_oil_imports.specs.NameMarks.{slot_of, has_mark, shares_slot, keys_of, Covers}

-- a slot is one of 64
pub slot_small : (name : List ℕ) → slot_of name < 64
slot_small [] = omega arith
slot_small (b ∷ bs) = omega arith

and_left : (a b : Bool) → (a && b) ≡ true → a ≡ true
and_left true b e = refl
and_left false b e = e

and_right : (a b : Bool) → (a && b) ≡ true → b ≡ true
and_right true b e = e
and_right false b e = absurd (cc)

and_both : (a b : Bool) → a ≡ true → b ≡ true → (a && b) ≡ true
and_both a b e f = rw (e, f) refl

or_left : (a b : Bool) → a ≡ true → (a || b) ≡ true
or_left a b e = rw e refl

or_right : (a b : Bool) → b ≡ true → (a || b) ≡ true
or_right true b e = refl
or_right false b e = e

same_slot : (n : ℕ) → eqb n n ≡ true
same_slot n = grind (arith, nat_tests)

or_three : (a b c : Bool) → ((a || b) || c) ≡ (a || (b || c))
or_three true b c = refl
or_three false b c = refl

-- ---- marking
-- the entries of the code's map
abbrev pub Entry : Type 0
Entry = String Global × Vec (String Global) Global

abbrev pub entry_keys : List Entry → List (List ℕ)
entry_keys es = keys_of (map (λ e. (string_bytes e.0, map string_bytes e.1.items)) es)

-- the names from a place on, where there is an entry
next_key : (es : List Entry) (at : ℕ) (e : Entry) → Some e ≡ slice_get es at → drop at (entry_keys es) ≡ string_bytes e.0 ∷ drop (suc at) (entry_keys es)
next_key [] at e is = absurd (cc)
next_key (x ∷ es) zero e is =
    let same : e ≡ x = cc in
    ap (λ y. string_bytes y.0 ∷ entry_keys es) (sym same)
next_key (x ∷ es) (suc at) e is = next_key es at e is

-- the names from a place on, where there is no entry
no_key : (es : List Entry) (at : ℕ) → None ≡ slice_get es at → drop at (entry_keys es) ≡ []
no_key [] zero is = refl
no_key [] (suc at) is = refl
no_key (x ∷ es) zero is = absurd (cc)
no_key (x ∷ es) (suc at) is = no_key es at is

no_more : (es : List Entry) (at : ℕ) → None ≡ slice_get es at → drop (suc at) (entry_keys es) ≡ []
no_more [] at is = refl
no_more (x ∷ es) zero is = absurd (cc)
no_more (x ∷ es) (suc at) is = no_more es at is

-- a name is marked, and those after it are left
pub marks_next : (es : List Entry) (at : ℕ) (e : Entry) (name other : List ℕ) (old new whole : Bool) → Some e ≡ slice_get es at → name ≡ string_bytes e.0
    → new ≡ (old || eqb (slot_of other) (slot_of name)) → (old || shares_slot (drop at (entry_keys es)) other) ≡ whole
    → (new || shares_slot (drop (at + 1) (entry_keys es)) other) ≡ whole
marks_next es at e name other old new whole is named marked before =
    let next : at + 1 ≡ suc at = omega arith in
    ap (λ n. new || shares_slot (drop n (entry_keys es)) other) next
    ∙ ap (λ b. b || shares_slot (drop (suc at) (entry_keys es)) other) (marked ∙ ap (λ n. old || eqb (slot_of other) (slot_of n)) named)
    ∙ or_three old (eqb (slot_of other) (slot_of (string_bytes e.0))) (shares_slot (drop (suc at) (entry_keys es)) other)
    ∙ ap (λ names. old || shares_slot names other) (sym (next_key es at e is))
    ∙ before

-- no name is left
pub marks_past : (es : List Entry) (at : ℕ) (other : List ℕ) (old whole : Bool) → None ≡ slice_get es at
    → (old || shares_slot (drop at (entry_keys es)) other) ≡ whole → (old || shares_slot (drop (at + 1) (entry_keys es)) other) ≡ whole
marks_past es at other old whole is before =
    let next : at + 1 ≡ suc at = omega arith in
    ap (λ n. old || shares_slot (drop n (entry_keys es)) other) next
    ∙ ap (λ names. old || shares_slot names other) (no_more es at is ∙ sym (no_key es at is))
    ∙ before

-- ---- names without a mark
-- a name without its mark is not declared
pub not_declared : (names : DeclaredNames) (declared : Declared) (name : List ℕ) → Covers names declared → has_mark names name ≡ false → paths_of declared name ≡ []
not_declared names [] name covers unmarked = refl
not_declared names ((k, paths) ∷ more) name covers unmarked =
    elim (bytes_eq k name) as (λ b. bytes_eq k name ≡ b → cond b paths (paths_of more name) ≡ []) [
      | true ↦ λ e. (let marked : has_mark names name ≡ true = subst (λ l. has_mark names l ≡ true) ((bytes_eq-Decides k name).0 e) (and_left _ _ covers) in absurd (cc))
      | false ↦ λ e. not_declared names more name (and_right _ _ covers) unmarked
    ] refl

-- ---- covering
all_kept : (p q : List ℕ → Bool) (xs : List (List ℕ)) → ((x : List ℕ) → p x ≡ true → q x ≡ true) → list_all p xs ≡ true → list_all q xs ≡ true
all_kept p q [] keeps all = refl
all_kept p q (x ∷ xs) keeps all = and_both _ _ (keeps x (and_left _ _ all)) (all_kept p q xs keeps (and_right _ _ all))

-- each name has its own slot
all_own : (q : List ℕ → Bool) (xs : List (List ℕ)) → ((x : List ℕ) → shares_slot xs x ≡ true → q x ≡ true) → list_all q xs ≡ true
all_own q [] own = refl
all_own q (x ∷ xs) own = and_both _ _ (own x (or_left _ _ (same_slot (slot_of x)))) (all_own q xs (λ y shares. own y (or_right _ _ shares)))

-- marks of all names cover what is declared
pub covers_all : (old new : DeclaredNames) (declared : Declared) → ((other : List ℕ) → has_mark new other ≡ (has_mark old other || shares_slot (drop 0 (keys_of declared)) other)) → Covers new declared
covers_all old new declared marked = all_own (has_mark new) (keys_of declared) (λ x shares. marked x ∙ or_right _ _ shares)

-- one more path keeps the names, or appends one
keys_more : (declared : Declared) (key path : List ℕ) → (more : List (List ℕ)) × (keys_of (with_path declared key path) ≡ keys_of declared ++ more)
keys_more [] key path = (key ∷ [], refl)
keys_more ((k, paths) ∷ rest) key path =
    elim (bytes_eq k key) as (λ b. (more : List (List ℕ)) × (keys_of (cond b ((k, paths ++ path ∷ []) ∷ rest) ((k, paths) ∷ with_path rest key path)) ≡ k ∷ (keys_of rest ++ more))) [
      | true ↦ ([], ap (λ l. k ∷ l) (sym (append-nil (keys_of rest))))
      | false ↦ (let m = keys_more rest key path in (m.0, ap (λ l. k ∷ l) m.1))
    ]

keys_leaves : (declared : Declared) (leaves : List Leaf) → (more : List (List ℕ)) × (keys_of (with_leaves declared leaves) ≡ keys_of declared ++ more)
keys_leaves declared [] = ([], sym (append-nil (keys_of declared)))
keys_leaves declared ((key, path) ∷ leaves) =
    let one = keys_more declared key path in
    let rest = keys_leaves (with_path declared key path) leaves in
    (one.0 ++ rest.0, rest.1 ∙ ap (λ l. l ++ rest.0) one.1 ∙ append_assoc (keys_of declared) one.0 rest.0)

-- the names after those declared before are marked
covers_after : (old new : DeclaredNames) (before after : Declared) (more : List (List ℕ)) → keys_of after ≡ keys_of before ++ more → Covers old before
    → ((other : List ℕ) → has_mark new other ≡ (has_mark old other || shares_slot (drop (length before) (keys_of after)) other)) → Covers new after
covers_after old new before after more keys covers marked =
    let following : drop (length before) (keys_of after) ≡ more =
    ap (λ l. drop (length before) l) keys ∙ ap (λ n. drop n (keys_of before ++ more)) (sym (length-map before (λ e. e.0))) ∙ drop-append_seam (keys_of before) more in
    ap (list_all (has_mark new)) keys ∙ list_all-append (has_mark new) (keys_of before) more
    ∙ and_both _ _ (all_kept (has_mark old) (has_mark new) (keys_of before) (λ x e. marked x ∙ or_left _ _ e) covers)
    (all_own (has_mark new) more (λ x shares. marked x ∙ or_right _ _ (ap (λ l. shares_slot l x) following ∙ shares)))

-- marks cover the declarations after an import line once the names after the earlier ones are
-- marked
pub covers_import : (old new : DeclaredNames) (before after : Declared) (leaves : Result (List Leaf) SyntaxFault) → Covers old before → with_import before leaves ≡ Ok after
    → ((other : List ℕ) → has_mark new other ≡ (has_mark old other || shares_slot (drop (length before) (keys_of after)) other)) → Covers new after
covers_import old new before after (Ok leaves) covers import marked =
    let same : with_leaves before leaves ≡ after = cc in
    let keys = keys_leaves before leaves in
    covers_after old new before after keys.0 (ap keys_of (sym same) ∙ keys.1) covers marked
covers_import old new before after (Err f) covers import marked = absurd (cc)
