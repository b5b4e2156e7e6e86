-- The declarations of a map of the code after a path is appended at a key or removed.
use Rattle.std.proofs.Common.{◌≡◌, ℕ, zero, suc, ◌+◌, ◌-◌, ◌<◌, ◌≤◌, Bool, true, false, not, cond, List, [], ◌∷◌, ◌++◌, length, take, map, Option, Some, None, unwrap_or, string_bytes, String, Vec, refl, sym, ap, subst, ◌∙◌, arith, slice_get, get_or, ltb, Result, Ok, Err, OnErr, MatchOption, length-append}
use Rattle.std.specs.Prelude.{bytes_eq}
use Rattle.std.specs.declared.alloc.Global.{Global}
use Rattle.std.specs.List.{position, position_or_len}
use Rattle.std.specs.Option.{option_to_list}
use Rattle.std.proofs.lemmas.List.{map-append, take_more, take-map, length-map, nil_from_length, take_all}
use Rattle.std.proofs.lemmas.Bool.Decides.{nat_tests}
use Rattle.std.specs.Map.{keys_of, values_of}
use Rattle.indexmap.specs.IndexMap.{set_value_at, insert_entry}
use Rattle.std.specs.String.{string_eq}
use Rattle.std.specs.Cmp.Lexicographic.{nat_list_eq_equiv}
use Rattle.naga_oil_imports.specs.Declarations.{Declared, with_path}
use Rattle.naga_oil_imports.specs.Leaves.{Leaf, SyntaxFault, with_leaves}
use Rattle.naga_oil_imports.specs.declared.parse_imports.Leaf as code
use Rattle.naga_oil_imports.specs.declared.parse_imports.ImportFault.{ImportFault}
use Rattle.naga_oil_imports.specs.declared.parse_imports.ImportFault.TheVariants.{Syntax, Memory}
use Rattle.naga_oil_imports.specs.ImportView.{leaf_of, RefusesImport}
use Rattle.naga_oil_imports.specs.ImportReader.{without_path}

abbrev pub Paths : Type 0
Paths = Vec (String Global) Global

abbrev pub Entries : Type 0
Entries = List (String Global × Paths)

-- the declarations of entries
abbrev pub shown : Entries → Declared
shown es = map (λ e. (string_bytes e.0, map string_bytes e.1.items)) es

-- the test of the map: whether the key has these bytes
abbrev pub is_key : List ℕ → String Global → Bool
is_key key k = bytes_eq key (string_bytes k)

same_way : (a b : List ℕ) → bytes_eq a b ≡ bytes_eq b a
same_way a b = nat_list_eq_equiv.symm a b

-- the key's place, and that it has none
abbrev pub IsAt : List ℕ → Entries → ℕ → Type 0
IsAt key [] i = ⊥
IsAt key (e ∷ es) zero = bytes_eq (string_bytes e.0) key ≡ true
IsAt key (e ∷ es) (suc i) = (bytes_eq (string_bytes e.0) key ≡ false) × IsAt key es i

abbrev pub IsNowhere : List ℕ → Entries → Type 0
IsNowhere key [] = Unit {0}
IsNowhere key (e ∷ es) = (bytes_eq (string_bytes e.0) key ≡ false) × IsNowhere key es

abbrev place_or_len : List ℕ → Entries → ℕ
place_or_len key es = position_or_len (is_key key) (keys_of es)

place_by : (key : List ℕ) (x : String Global × Paths) (es : Entries) → ((j : ℕ) → place_or_len key es ≡ j → j < length es → IsAt key es j)
    → (b : Bool) → bytes_eq key (string_bytes x.0) ≡ b → (i : ℕ) → place_or_len key (x ∷ es) ≡ i → i < length (x ∷ es) → IsAt key (x ∷ es) i
place_by key x es more true t zero e h = same_way (string_bytes x.0) key ∙ t
place_by key x es more true t (suc i) e h = absurd (let n : 0 ≡ suc i = sym (ap (λ b. cond (not b) (1 + place_or_len key es) 0) t) ∙ e in omega arith)
place_by key x es more false t zero e h = absurd (let n : 1 + place_or_len key es ≡ 0 = sym (ap (λ b. cond (not b) (1 + place_or_len key es) 0) t) ∙ e in omega arith)
place_by key x es more false t (suc i) e h =
    let n : 1 + place_or_len key es ≡ suc i = sym (ap (λ b. cond (not b) (1 + place_or_len key es) 0) t) ∙ e in
    (same_way (string_bytes x.0) key ∙ t, more i (omega arith) (omega arith))

at_place : (key : List ℕ) (es : Entries) (i : ℕ) → place_or_len key es ≡ i → i < length es → IsAt key es i
at_place key [] i e h = absurd (omega arith)
at_place key (x ∷ es) i e h = place_by key x es (at_place key es) (bytes_eq key (string_bytes x.0)) refl i e h

nowhere_by : (key : List ℕ) (x : String Global × Paths) (es : Entries) → (length es ≤ place_or_len key es → IsNowhere key es)
    → (b : Bool) → bytes_eq key (string_bytes x.0) ≡ b → length (x ∷ es) ≤ place_or_len key (x ∷ es) → IsNowhere key (x ∷ es)
nowhere_by key x es more true t h = absurd (let n : place_or_len key (x ∷ es) ≡ 0 = ap (λ b. cond (not b) (1 + place_or_len key es) 0) t in omega arith)
nowhere_by key x es more false t h =
    let n : place_or_len key (x ∷ es) ≡ 1 + place_or_len key es = ap (λ b. cond (not b) (1 + place_or_len key es) 0) t in
    (same_way (string_bytes x.0) key ∙ t, more (omega arith))

nowhere_above : (key : List ℕ) (es : Entries) → length es ≤ place_or_len key es → IsNowhere key es
nowhere_above key [] h = tt
nowhere_above key (x ∷ es) h = nowhere_by key x es (nowhere_above key es) (bytes_eq key (string_bytes x.0)) refl h

-- the value at a place is changed: nothing changes, or the first key with these bytes has these
-- paths
pub set_stays : (es : Entries) (i : ℕ) (v w : Paths) → slice_get (values_of es) i ≡ Some v → w.items ≡ v.items → shown (set_value_at es i w) ≡ shown es
set_stays [] i v w at same = refl
set_stays (x ∷ es) zero v w at same =
    let is : x.1 ≡ v = cc in
    ap (λ ps. (string_bytes x.0, map string_bytes ps) ∷ shown es) (same ∙ ap (λ (u : Paths). u.items) (sym is))
set_stays (x ∷ es) (suc i) v w at same = ap (λ ds. (string_bytes x.0, map string_bytes x.1.items) ∷ ds) (set_stays es i v w at same)

pub set_pushes : (key path : List ℕ) (es : Entries) (i : ℕ) (v w : Paths) → IsAt key es i → slice_get (values_of es) i ≡ Some v → map string_bytes w.items ≡ map string_bytes v.items ++ path ∷ []
    → shown (set_value_at es i w) ≡ with_path (shown es) key path
set_pushes key path [] i v w here at more = absurd here
set_pushes key path (x ∷ es) zero v w here at more =
    let is : x.1 ≡ v = cc in
    ap (λ ps. (string_bytes x.0, ps) ∷ shown es) (more ∙ ap (λ (u : Paths). map string_bytes u.items ++ path ∷ []) (sym is))
    ∙ sym (ap (λ b. cond b ((string_bytes x.0, map string_bytes x.1.items ++ path ∷ []) ∷ shown es) ((string_bytes x.0, map string_bytes x.1.items) ∷ with_path (shown es) key path)) here)
set_pushes key path (x ∷ es) (suc i) v w here at more =
    ap (λ ds. (string_bytes x.0, map string_bytes x.1.items) ∷ ds) (set_pushes key path es i v w here.1 at more)
    ∙ sym (ap (λ b. cond b ((string_bytes x.0, map string_bytes x.1.items ++ path ∷ []) ∷ shown es) ((string_bytes x.0, map string_bytes x.1.items) ∷ with_path (shown es) key path)) here.0)

pub set_pops : (key : List ℕ) (es : Entries) (i : ℕ) (v w : Paths) → IsAt key es i → slice_get (values_of es) i ≡ Some v → map string_bytes w.items ≡ take (length (map string_bytes v.items) - 1) (map string_bytes v.items)
    → shown (set_value_at es i w) ≡ without_path (shown es) key
set_pops key [] i v w here at less = absurd here
set_pops key (x ∷ es) zero v w here at less =
    let is : x.1 ≡ v = cc in
    ap (λ ps. (string_bytes x.0, ps) ∷ shown es) (less ∙ ap (λ (u : Paths). take (length (map string_bytes u.items) - 1) (map string_bytes u.items)) (sym is))
    ∙ sym (ap (λ b. cond b ((string_bytes x.0, take (length (map string_bytes x.1.items) - 1) (map string_bytes x.1.items)) ∷ shown es) ((string_bytes x.0, map string_bytes x.1.items) ∷ without_path (shown es) key)) here)
set_pops key (x ∷ es) (suc i) v w here at less =
    ap (λ ds. (string_bytes x.0, map string_bytes x.1.items) ∷ ds) (set_pops key es i v w here.1 at less)
    ∙ sym (ap (λ b. cond b ((string_bytes x.0, take (length (map string_bytes x.1.items) - 1) (map string_bytes x.1.items)) ∷ shown es) ((string_bytes x.0, map string_bytes x.1.items) ∷ without_path (shown es) key)) here.0)

pub nothing_pops : (key : List ℕ) (es : Entries) → IsNowhere key es → shown es ≡ without_path (shown es) key
nothing_pops key [] none = refl
nothing_pops key (x ∷ es) none =
    ap (λ ds. (string_bytes x.0, map string_bytes x.1.items) ∷ ds) (nothing_pops key es none.1)
    ∙ sym (ap (λ b. cond b ((string_bytes x.0, take (length (map string_bytes x.1.items) - 1) (map string_bytes x.1.items)) ∷ shown es) ((string_bytes x.0, map string_bytes x.1.items) ∷ without_path (shown es) key)) none.0)

-- a new key is appended last
pub insert_pushes : (key path : List ℕ) (es : Entries) (k : String Global) (w : Paths) → IsNowhere key es → string_bytes k ≡ key → map string_bytes w.items ≡ path ∷ []
    → shown (insert_entry string_eq es k w) ≡ with_path (shown es) key path
insert_pushes key path [] k w none is one = λ j. (is j, one j) ∷ []
insert_pushes key path (x ∷ es) k w none is one =
    let apart : string_eq k x.0 ≡ false = ap (λ bs. bytes_eq bs (string_bytes x.0)) is ∙ same_way key (string_bytes x.0) ∙ none.0 in
    ap (λ b. shown (cond b ((x.0, w) ∷ es) (x ∷ insert_entry string_eq es k w))) apart
    ∙ ap (λ ds. (string_bytes x.0, map string_bytes x.1.items) ∷ ds) (insert_pushes key path es k w none.1 is one)
    ∙ sym (ap (λ b. cond b ((string_bytes x.0, map string_bytes x.1.items ++ path ∷ []) ∷ shown es) ((string_bytes x.0, map string_bytes x.1.items) ∷ with_path (shown es) key path)) none.0)

-- where a look-up found the key, or did not
some_place : (b : Bool) (n i : ℕ) → Some i ≡ cond b (Some n) None → n ≡ i
some_place true n i e = ap (λ o. unwrap_or o 0) (sym e)
some_place false n i e = cc

no_place : (b : Bool) (n : ℕ) → None ≡ cond b (Some n) None → b ≡ false
no_place true n e = cc
no_place false n e = refl

not_below : (n m : ℕ) → ltb n m ≡ false → m ≤ n
not_below n m e = grind (arith, nat_tests)

pub found : (key : List ℕ) (es : Entries) (i : ℕ) → Some i ≡ position (is_key key) (keys_of es) → i < length es → IsAt key es i
found key es i e h = at_place key es i (some_place (ltb (place_or_len key es) (length (keys_of es))) _ i e) h

pub not_found : (key : List ℕ) (es : Entries) → None ≡ position (is_key key) (keys_of es) → IsNowhere key es
not_found key es e =
    let above : length (keys_of es) ≤ place_or_len key es = not_below _ _ (no_place _ _ e) in
    nowhere_above key es (subst (λ n. n ≤ place_or_len key es) (length-map es (λ e. e.0)) above)

pub on_err : {X E : Type 0} (r : Result X E) {P : Type 0} → P → OnErr r P
on_err (Ok x) p = tt
on_err (Err e) p = p

-- one path more, and one less
pub paths_more : (xs ys : List (String Global)) (x : String Global) (path : List ℕ) → ys ≡ xs ++ x ∷ [] → string_bytes x ≡ path → map string_bytes ys ≡ map string_bytes xs ++ path ∷ []
paths_more xs ys x path e is = ap (map string_bytes) e ∙ map-append string_bytes xs (x ∷ []) ∙ ap (λ p. map string_bytes xs ++ p ∷ []) is

take_len : {X : Type 0} (xs ys : List X) → take (length xs) (xs ++ ys) ≡ xs
take_len [] ys = refl
take_len (x ∷ xs) ys = ap (λ zs. x ∷ zs) (take_len xs ys)

front_one : {X : Type 0} (xs : List X) (x : X) → take (length (xs ++ x ∷ []) - 1) (xs ++ x ∷ []) ≡ xs
front_one xs x =
    let n : length (xs ++ x ∷ []) - 1 ≡ length xs = omega (arith, length-append xs (x ∷ [])) in
    ap (λ k. take k (xs ++ x ∷ [])) n ∙ take_len xs (x ∷ [])

pub paths_less : (xs ys : List (String Global)) (n m : ℕ) (o : Option (String Global)) → xs ≡ ys ++ option_to_list o → ys ≡ take (n - 1) xs → MatchOption o ((n ≡ 0) × (m ≡ 0)) (λ _. m + 1 ≡ n)
    → map string_bytes ys ≡ take (length (map string_bytes xs) - 1) (map string_bytes xs)
paths_less xs ys n m None all front none =
    let nil : ys ≡ [] = front ∙ ap (λ k. take (k - 1) xs) none.0 in
    let nil_too : xs ≡ [] = all ∙ ap (λ zs. zs ++ []) nil in
    ap (map string_bytes) nil ∙ sym (ap (λ zs. take (length (map string_bytes zs) - 1) (map string_bytes zs)) nil_too)
paths_less xs ys n m (Some x) all front some =
    let seen : map string_bytes xs ≡ map string_bytes ys ++ string_bytes x ∷ [] = ap (map string_bytes) all ∙ map-append string_bytes ys (x ∷ []) in
    sym (ap (λ zs. take (length zs - 1) zs) seen ∙ front_one (map string_bytes ys) (string_bytes x))

-- leaves appended one after another
with_leaves-append : (d : Declared) (ls : List Leaf) (key path : List ℕ) → with_leaves d (ls ++ (key, path) ∷ []) ≡ with_path (with_leaves d ls) key path
with_leaves-append d [] key path = refl
with_leaves-append d ((k, p) ∷ ls) key path = with_leaves-append (with_path d k p) ls key path

pub leaves_more : (d : Declared) (xs : List code.Leaf) (i : ℕ) (x : code.Leaf) → i < length xs → x ≡ get_or xs i x
    → with_leaves d (map leaf_of (take (i + 1) xs)) ≡ with_path (with_leaves d (map leaf_of (take i xs))) (string_bytes x.key) (string_bytes x.path)
leaves_more d xs i x h e =
    ap (λ ys. with_leaves d (map leaf_of ys)) (take_more xs i x h ∙ ap (λ y. take i xs ++ y ∷ []) (sym e))
    ∙ ap (with_leaves d) (map-append leaf_of (take i xs) (x ∷ []))
    ∙ with_leaves-append d (map leaf_of (take i xs)) (string_bytes x.key) (string_bytes x.path)

longer_path : (d : Declared) (key path : List ℕ) → length d ≤ length (with_path d key path)
longer_path [] key path = omega arith
longer_path ((k, ps) ∷ d) key path = by (bytes_eq k key) (longer_path d key path)
  where
    by : (b : Bool) → length d ≤ length (with_path d key path) → length ((k, ps) ∷ d) ≤ length (cond b ((k, ps ++ path ∷ []) ∷ d) ((k, ps) ∷ with_path d key path))
    by true h = omega arith
    by false h = omega arith

longer : (d : Declared) (ls : List Leaf) → length d ≤ length (with_leaves d ls)
longer d [] = omega arith
longer d ((k, p) ∷ ls) = omega (arith, longer_path d k p, longer (with_path d k p) ls)

-- a path that is appended and removed again, among the first keys
taken_by : (n : ℕ) (k key path : List ℕ) (ps : List (List ℕ)) (d u : Declared) (c : List ℕ × List (List ℕ)) → (take n u ≡ take n (with_path d key path) → take n (without_path u key) ≡ take n d)
    → (b : Bool) → bytes_eq k key ≡ b → c ∷ take n u ≡ take (suc n) (cond b ((k, ps ++ path ∷ []) ∷ d) ((k, ps) ∷ with_path d key path))
    → take (suc n) (without_path (c ∷ u) key) ≡ (k, ps) ∷ take n d
taken_by n k key path ps d u c more true t e =
    let first : c ≡ (k, ps ++ path ∷ []) = cc in
    let rest : take n u ≡ take n d = cc in
    ap (λ (x : List ℕ × List (List ℕ)). take (suc n) (without_path (x ∷ u) key)) first
    ∙ ap (λ b. take (suc n) (cond b ((k, take (length (ps ++ path ∷ []) - 1) (ps ++ path ∷ [])) ∷ u) ((k, ps ++ path ∷ []) ∷ without_path u key))) t
    ∙ (λ j. (k, front_one ps path j) ∷ rest j)
taken_by n k key path ps d u c more false t e =
    let first : c ≡ (k, ps) = cc in
    let rest : take n u ≡ take n (with_path d key path) = cc in
    ap (λ (x : List ℕ × List (List ℕ)). take (suc n) (without_path (x ∷ u) key)) first
    ∙ ap (λ b. take (suc n) (cond b ((k, take (length ps - 1) ps) ∷ u) ((k, ps) ∷ without_path u key))) t
    ∙ ap (λ x. (k, ps) ∷ x) (more rest)

taken : (n : ℕ) (key path : List ℕ) (d u : Declared) → n ≤ length d → take n u ≡ take n (with_path d key path) → take n (without_path u key) ≡ take n d
taken zero key path d u h e = refl
taken (suc n) key path [] u h e = absurd (omega arith)
taken (suc n) key path ((k, ps) ∷ d) [] h e = absurd (by (bytes_eq k key) e)
  where
    by : (b : Bool) → [] ≡ take (suc n) (cond b ((k, ps ++ path ∷ []) ∷ d) ((k, ps) ∷ with_path d key path)) → ⊥
    by true e = cc
    by false e = cc
taken (suc n) key path ((k, ps) ∷ d) (c ∷ u) h e = taken_by n k key path ps d u c (taken n key path d u (omega arith)) (bytes_eq k key) refl e

-- one leaf is removed
pub leaf_back : (before : Declared) (n : ℕ) (all front : List code.Leaf) (last : code.Leaf) (key : List ℕ) (u v : Declared) → length before ≡ n → all ≡ front ++ last ∷ [] → key ≡ string_bytes last.key
    → v ≡ without_path u key → take n u ≡ take n (with_leaves before (map leaf_of all)) → take n v ≡ take n (with_leaves before (map leaf_of front))
leaf_back before n all front last key u v long split is popped same =
    let pushed : with_leaves before (map leaf_of all) ≡ with_path (with_leaves before (map leaf_of front)) (string_bytes last.key) (string_bytes last.path) =
    ap (λ ls. with_leaves before (map leaf_of ls)) split ∙ ap (with_leaves before) (map-append leaf_of front (last ∷ [])) ∙ with_leaves-append before (map leaf_of front) (string_bytes last.key) (string_bytes last.path) in
    ap (take n) (popped ∙ ap (without_path u) is)
    ∙ taken n (string_bytes last.key) (string_bytes last.path) (with_leaves before (map leaf_of front)) u (omega (arith, longer before (map leaf_of front))) (same ∙ ap (take n) pushed)

-- all leaves have been removed
pub all_back : (before : Declared) (n : ℕ) (es kept : Entries) (rest : List code.Leaf) → length before ≡ n → length rest ≡ 0 → kept ≡ take n es → take n (shown es) ≡ take n (with_leaves before (map leaf_of rest)) → shown kept ≡ before
all_back before n es kept rest long none cut same =
    ap shown cut ∙ sym (take-map (λ e. (string_bytes e.0, map string_bytes e.1.items)) n es) ∙ same
    ∙ ap (λ ls. take n (with_leaves before (map leaf_of ls))) (nil_from_length rest none) ∙ take_all n before (omega arith)

-- a fault of a part of a reading is one of the whole
pub refuses_by : {X Y : Type 0} (e : ImportFault) (x : Result X SyntaxFault) (y : Result Y SyntaxFault) → ((f : SyntaxFault) → x ≡ Err f → y ≡ Err f) → RefusesImport e x → RefusesImport e y
refuses_by (Syntax text at) x y by h = by (text.now, at) h
refuses_by Memory x y by h = tt
