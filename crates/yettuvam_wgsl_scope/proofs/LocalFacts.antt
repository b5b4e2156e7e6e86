-- The newest declaration of a name.
use Rattle.std.proofs.Common.{◌≡◌, ℕ, zero, suc, lt-ltb, le-ltb, ltb-true, ltb-false, length-append, take_all, ◌+◌, ◌-◌, ◌<◌, ◌≤◌, Bool, true, false, cond, List, [], ◌∷◌, ◌++◌, length, map, take, drop, reverse, Option, Some, None, option_map, bytes_eq, refl, sym, ap, subst, ◌∙◌, arith, Bor}
use Rattle.std.specs.Prelude.{nat_lt, slice_get}
use Rattle.std.specs.Option.{option_and_then}
use Rattle.std.specs.Cmp.Lexicographic.{bytes_decides}
use Rattle.std.specs.HashMap as hash
use Rattle.std.specs.HashMap.{HashMap, get_by}
use Rattle.std.proofs.lemmas.List.{length-map, length-reverse, map-append, reverse-append, reverse-reverse, take_more, drop-append-le, drop_all}
use Rattle.std.proofs.lemmas.Option.{get_or_from_slice_get, none-some, same_Some, slice_get_within}
use Rattle.std.proofs.lemmas.Map.Text.{hash_map_updates_str}
use Rattle.yettuvam_wgsl_words.specs.Class.{Text}
use Rattle.yettuvam_wgsl_scope.specs.LocalTable.{newest_place, name_in, names_in, newest_first, locals_in, place_in, HaveBefores, IsTable, chosen}
use Rattle.yettuvam_wgsl_scope.specs.Names.{Local, find, find_from, local_view, locals_view, same_text}
use Rattle.yettuvam_wgsl_scope.specs.declared.locals.Entry.{Entry}
use Rattle.yettuvam_wgsl_scope.specs.declared.locals.Local.{Local as LocalOfCode}

-- a list seen by f, last first
map_reversed : {X Y : Type 0} (f : X → Y) (xs : List X) → reverse (map f xs) ≡ map f (reverse xs)
map_reversed f [] = refl
map_reversed f (x ∷ xs) =
    reverse-append (f x ∷ []) (map f xs)
    ∙ ap (λ l. l ++ f x ∷ []) (map_reversed f xs)
    ∙ sym (map-append f (reverse xs) (x ∷ []))
    ∙ ap (map f) (sym (reverse-append (x ∷ []) xs))

names_of_locals : (es : List Entry) → map (λ (l : LocalOfCode). l.name.text.now) (locals_in es) ≡ names_in es
names_of_locals [] = refl
names_of_locals (e ∷ es) = ap (λ ns. name_in e ∷ ns) (names_of_locals es)

-- the names of declarations, the newest first
pub names_reversed : (es : List Entry) → newest_first (locals_in es) ≡ names_in (reverse es)
names_reversed es = ap reverse (names_of_locals es) ∙ map_reversed name_in es

-- a map with another place of a name
pub place_put : {S : Type 0} (name : Bor (List ℕ)) (m n : HashMap (Bor (List ℕ)) (Option ℕ) S) (place : Option ℕ)
    → hash.UpdatesBy (λ x y. bytes_eq x.now y.now) (λ k. bytes_eq name.now k.now) m n (Some place)
    → (q : Text) → place_in n q ≡ cond (bytes_eq name.now q) place (place_in m q)
place_put name m n place updates q =
    ap (λ (o : Option (Option ℕ)). option_and_then (λ p. p) o) (hash_map_updates_str name.now m n (Some place) updates q)
    ∙ elim (bytes_eq name.now q) as (λ b. option_and_then (λ p. p) (cond b (Some place) (get_by (λ k. bytes_eq q k.now) m))
    ≡ cond b place (option_and_then (λ p. p) (get_by (λ k. bytes_eq q k.now) m))) [ true ↦ refl | false ↦ refl ]

pushed_last : (e : Entry) (es : List Entry) → reverse (es ++ e ∷ []) ≡ e ∷ reverse es
pushed_last e es = reverse-append es (e ∷ [])

count_of_names : (es : List Entry) → length (names_in (reverse es)) ≡ length es
count_of_names es = length-map (reverse es) name_in ∙ length-reverse es

-- ---- the table after a declaration more, and after one less

pub table_push : {S : Type 0} (es : List Entry) (m n : HashMap (Bor (List ℕ)) (Option ℕ) S) (e : Entry) (place : ℕ) → IsTable es m → place ≡ length es
    → hash.UpdatesBy (λ x y. bytes_eq x.now y.now) (λ k. bytes_eq e.local.name.text.now k.now) m n (Some (Some place))
    → e.before ≡ newest_place (name_in e) (names_in (reverse es)) → IsTable (es ++ e ∷ []) n
table_push es m n e place table last updates before = record {
  newest = λ q.
      place_put e.local.name.text m n (Some place) updates q
      ∙ ap (cond (bytes_eq (name_in e) q) (Some place)) (table.newest q)
      ∙ ap (λ k. cond (bytes_eq (name_in e) q) (Some k) (newest_place q (names_in (reverse es)))) (last ∙ sym (count_of_names es))
      ∙ ap (λ r. newest_place q (names_in r)) (sym (pushed_last e es));
  befores = subst HaveBefores (sym (pushed_last e es)) (before, table.befores);
}

split_last : (es : List Entry) (e : Entry) → slice_get es (length es - 1) ≡ Some e → es ≡ take (length es - 1) es ++ e ∷ []
split_last es e h =
    let k = length es - 1 in
    let within : k < length es = slice_get_within es k e h in
    sym (take_all (k + 1) es (omega arith)) ∙ take_more es k e within ∙ ap (λ x. take k es ++ x ∷ []) (get_or_from_slice_get es k e e h)

without : (e : Entry) (names : List Text) (q : Text) (k : ℕ) (b : Bool) → bytes_eq (name_in e) q ≡ b → e.before ≡ newest_place (name_in e) names
    → cond b e.before (cond b (Some k) (newest_place q names)) ≡ newest_place q names
without e names q k true same before = before ∙ ap (λ n. newest_place n names) ((bytes_decides (name_in e) q).0 same)
without e names q k false other before = refl

table_without : {S : Type 0} (front : List Entry) (m n : HashMap (Bor (List ℕ)) (Option ℕ) S) (e : Entry) → IsTable (front ++ e ∷ []) m
    → hash.UpdatesBy (λ x y. bytes_eq x.now y.now) (λ k. bytes_eq e.local.name.text.now k.now) m n (Some e.before) → IsTable front n
table_without front m n e table updates =
    let befores : HaveBefores (e ∷ reverse front) = subst HaveBefores (pushed_last e front) table.befores in
    record {
      newest = λ q.
          place_put e.local.name.text m n e.before updates q
          ∙ ap (cond (bytes_eq (name_in e) q) e.before) (table.newest q ∙ ap (λ r. newest_place q (names_in r)) (pushed_last e front))
          ∙ without e (names_in (reverse front)) q (length (names_in (reverse front))) (bytes_eq (name_in e) q) refl befores.0;
      befores = befores.1;
    }

pub table_pop : {S : Type 0} (es front : List Entry) (m n : HashMap (Bor (List ℕ)) (Option ℕ) S) (e : Entry) (count : ℕ) → IsTable es m → count ≡ length es
    → slice_get es (length es - 1) ≡ Some e → front ≡ take (count - 1) es
    → hash.UpdatesBy (λ x y. bytes_eq x.now y.now) (λ k. bytes_eq e.local.name.text.now k.now) m n (Some e.before) → IsTable front n
table_pop es front m n e count table all last rest updates =
    let kept : take (length es - 1) es ≡ front = ap (λ k. take (k - 1) es) (sym all) ∙ sym rest in
    let cut : es ≡ front ++ e ∷ [] = split_last es e last ∙ ap (λ f. f ++ e ∷ []) kept in
    table_without front m n e (subst (λ xs. IsTable xs m) cut table) updates

-- ---- lookups

below_more : (b : Bool) (n : ℕ) (o : Option ℕ) (k : ℕ) → (o ≡ Some k → k < n) → cond b (Some n) o ≡ Some k → k < suc n
below_more true n o k h e = let same : n ≡ k = same_Some n k e in omega arith
below_more false n o k h e = let less : k < n = h e in omega arith

newest_below : (q : Text) (ns : List Text) (k : ℕ) → newest_place q ns ≡ Some k → k < length ns
newest_below q [] k e = absurd (none-some k e)
newest_below q (n ∷ older) k e = below_more (bytes_eq n q) (length older) (newest_place q older) k (λ s. newest_below q older k s) e

slice_get_left : {X : Type 0} (xs ys : List X) (k : ℕ) → k < length xs → slice_get (xs ++ ys) k ≡ slice_get xs k
slice_get_left [] ys k h = absurd (omega arith)
slice_get_left (x ∷ xs) ys zero h = refl
slice_get_left (x ∷ xs) ys (suc k) h = slice_get_left xs ys k (omega arith)

slice_get_last : {X : Type 0} (xs : List X) (x : X) (k : ℕ) → k ≡ length xs → slice_get (xs ++ x ∷ []) k ≡ Some x
slice_get_last [] x zero e = refl
slice_get_last [] x (suc k) e = absurd (omega arith)
slice_get_last (y ∷ xs) x zero e = absurd (omega arith)
slice_get_last (y ∷ xs) x (suc k) e = slice_get_last xs x k (omega arith)

chosen_more : {X : Type 0} (first : ℕ) (xs ys : List X) (o : Option ℕ) → ((k : ℕ) → o ≡ Some k → k < length xs) → chosen first (xs ++ ys) o ≡ chosen first xs o
chosen_more first xs ys None below = refl
chosen_more first xs ys (Some k) below = ap (cond (nat_lt k first) None) (slice_get_left xs ys k (below k refl))

chosen_none : {X : Type 0} (first : ℕ) (xs : List X) (o : Option ℕ) → ((k : ℕ) → o ≡ Some k → k < first) → chosen first xs o ≡ None
chosen_none first xs None below = refl
chosen_none first xs (Some k) below = ap (λ b. cond b None (slice_get xs k)) (lt-ltb k first (below k refl))

chosen_last : {X : Type 0} (first : ℕ) (xs : List X) (x : X) (k : ℕ) → k ≡ length xs → first ≤ k → chosen first (xs ++ x ∷ []) (Some k) ≡ Some x
chosen_last first xs x k same late = ap (λ b. cond b None (slice_get (xs ++ x ∷ []) k)) (le-ltb k first late) ∙ slice_get_last xs x k same

find_snoc : (found : Option Local) (ls : List Local) (l : Local) (q : Text) → find_from found (ls ++ l ∷ []) q ≡ cond (same_text l.name.text q) (Some l) (find_from found ls q)
unfolding find_from
find_snoc found [] l q = refl
find_snoc found (x ∷ ls) l q = find_snoc (cond (same_text x.name.text q) (Some x) found) ls l q

nothing_dropped : (n : ℕ) → drop n (locals_view []) ≡ []
nothing_dropped zero = refl
nothing_dropped (suc n) = refl

abbrev text_of : LocalOfCode → Text
text_of l = l.name.text.now

none_found : (first : ℕ) (q : Text) → None ≡ find (drop first (locals_view [])) q
unfolding find_from
none_found first q = ap (λ xs. find xs q) (sym (nothing_dropped first))

-- the newest declaration counts
late : (b : Bool) (first : ℕ) (es : List LocalOfCode) (l : LocalOfCode) (n : ℕ) (o : Option ℕ) → n ≡ length es → first ≤ n → ((k : ℕ) → o ≡ Some k → k < length es)
    → option_map local_view (chosen first (es ++ l ∷ []) (cond b (Some n) o)) ≡ cond b (Some (local_view l)) (option_map local_view (chosen first es o))
late true first es l n o same counts below = ap (option_map local_view) (chosen_last first es l n same counts)
late false first es l n o same counts below = ap (option_map local_view) (chosen_more first es (l ∷ []) o below)

counted : (first : ℕ) (es : List LocalOfCode) (l : LocalOfCode) (q : Text) → first ≤ length es
    → find (drop first (locals_view (es ++ l ∷ []))) q ≡ cond (same_text (text_of l) q) (Some (local_view l)) (find (drop first (locals_view es)) q)
counted first es l q counts =
    let many : length (locals_view es) ≡ length es = length-map es local_view in
    ap (λ xs. find (drop first xs) q) (map-append local_view es (l ∷ []))
    ∙ ap (λ xs. find xs q) (drop-append-le first (locals_view es) (local_view l ∷ []) (omega arith))
    ∙ find_snoc None (drop first (locals_view es)) (local_view l) q

uncounted : (first : ℕ) (es : List LocalOfCode) (l : LocalOfCode) (q : Text) → length es < first → find (drop first (locals_view (es ++ l ∷ []))) q ≡ None
unfolding find_from
uncounted first es l q early =
    let many : length (locals_view (es ++ l ∷ [])) ≡ length es + 1 = length-map (es ++ l ∷ []) local_view ∙ length-append es (l ∷ []) in
    ap (λ xs. find xs q) (drop_all first (locals_view (es ++ l ∷ [])) (omega arith))

one_more : (b : Bool) (first : ℕ) (older : List LocalOfCode) (l : LocalOfCode) (q : Text) → nat_lt (length (reverse older)) first ≡ b
    → option_map local_view (chosen first (reverse older) (newest_place q (map text_of older))) ≡ find (drop first (locals_view (reverse older))) q
    → option_map local_view (chosen first (reverse older ++ l ∷ []) (newest_place q (map text_of (l ∷ older)))) ≡ find (drop first (locals_view (reverse older ++ l ∷ []))) q
one_more true first older l q test before =
    let early : length (reverse older) < first = ltb-true (length (reverse older)) first test in
    let many : length (reverse older) ≡ length (map text_of older) = length-reverse older ∙ sym (length-map older text_of) in
    ap (option_map local_view) (chosen_none first (reverse older ++ l ∷ []) (newest_place q (map text_of (l ∷ older))) (λ k e. let less : k < suc (length (map text_of older)) = newest_below q (map text_of (l ∷ older)) k e in omega arith))
    ∙ sym (uncounted first (reverse older) l q early)
one_more false first older l q test before =
    let counts : first ≤ length (reverse older) = ltb-false (length (reverse older)) first test in
    let many : length (map text_of older) ≡ length (reverse older) = length-map older text_of ∙ sym (length-reverse older) in
    late (bytes_eq (text_of l) q) first (reverse older) l (length (map text_of older)) (newest_place q (map text_of older)) many (omega arith)
    (λ k e. let less : k < length (map text_of older) = newest_below q (map text_of older) k e in omega arith)
    ∙ ap (cond (bytes_eq (text_of l) q) (Some (local_view l))) before
    ∙ sym (counted first (reverse older) l q counts)

found_in : (first : ℕ) (r : List LocalOfCode) (q : Text)
    → option_map local_view (chosen first (reverse r) (newest_place q (map text_of r))) ≡ find (drop first (locals_view (reverse r))) q
found_in first [] q = none_found first q
found_in first (l ∷ older) q =
    subst (λ xs. option_map local_view (chosen first xs (newest_place q (map text_of (l ∷ older)))) ≡ find (drop first (locals_view xs)) q)
    (sym (reverse-append (l ∷ []) older))
    (one_more (nat_lt (length (reverse older)) first) first older l q refl (found_in first older q))

pub found : (first : ℕ) (ls : List LocalOfCode) (q : Text) → option_map local_view (chosen first ls (newest_place q (newest_first ls))) ≡ find (drop first (locals_view ls)) q
found first ls q =
    ap (λ ns. option_map local_view (chosen first ls (newest_place q ns))) (map_reversed text_of ls)
    ∙ subst (λ xs. option_map local_view (chosen first xs (newest_place q (map text_of (reverse ls)))) ≡ find (drop first (locals_view xs)) q) (reverse-reverse ls) (found_in first (reverse ls) q)
