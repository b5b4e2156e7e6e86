-- Open heads found by counting are those of a stack, and a reader with a stack gives the leaves.
use Rattle.std.proofs.Common.{◌≡◌, ℕ, zero, suc, ◌+◌, ◌-◌, Bool, true, false, ◌&&◌, ◌||◌, cond, leb, List, [], ◌∷◌, ◌++◌, length, take, filter, map, Result, Ok, Err, refl, sym, ap, ◌∙◌, arith, append_assoc, append-nil}
use Rattle.std.specs.List.{list_all, list_any, concat}
use Rattle.std.proofs.lemmas.List.Folds.{list_all-map, list_any-append}
use Rattle.std.proofs.lemmas.Bool.Decides.{nat_tests}
use Rattle.std.specs.Prelude.{codes}
use Rattle.naga_oil_lines.specs.Tokens.{Lexeme}
use Rattle.naga_oil_imports.specs.Leaves.{SyntaxFault, ImportPart, head, leaf, close, nothing, wrong, is_head, is_old_head, is_close, beginnings, has_no_more_closes, is_open, open_heads, Leaf, then_leaves, leaves_of, parts, after_import, line_leaves}
use Rattle.naga_oil_imports.specs.ImportReader.{Reader, at_start, step, may_end, run}

-- the number of `}` that find no head among the parts before them
unmatched : List ImportPart → ℕ
unmatched [] = 0
unmatched (head is_old text ∷ ps) = unmatched ps - 1
unmatched (leaf key name ∷ ps) = unmatched ps
unmatched (close at ∷ ps) = suc (unmatched ps)
unmatched (nothing ∷ ps) = unmatched ps
unmatched (wrong f ∷ ps) = unmatched ps

-- there are at most as many `}` as `n` heads and those of the list
within : ℕ → List ImportPart → Bool
within n ps = leb (length (filter is_close ps)) (n + length (filter is_head ps))

all_same : {X : Type 0} (p q : X → Bool) (xs : List X) → ((x : X) → p x ≡ q x) → list_all p xs ≡ list_all q xs
all_same p q xs e = λ j. list_all (λ x. e x j) xs

-- all beginnings of a list that begins with a part
all_after : (test : List ImportPart → Bool) (p : ImportPart) (ps : List ImportPart) → test [] ≡ true → list_all test (beginnings (p ∷ ps)) ≡ list_all (λ front. test (p ∷ front)) (beginnings ps)
all_after test p ps e = ap (λ b. b && list_all test (map (λ front. p ∷ front) (beginnings ps))) e ∙ list_all-map test (λ front. p ∷ front) (beginnings ps)

within-nil : (n : ℕ) → within n [] ≡ true
unfolding within
within-nil n = grind (arith, nat_tests)

-- the first beginning is the empty one
first_fails : (test : List ImportPart → Bool) (ps : List ImportPart) → test [] ≡ false → list_all test (beginnings ps) ≡ false
first_fails test [] e = ap (λ b. b && true) e
first_fails test (p ∷ ps) e = ap (λ b. b && list_all test (map (λ front. p ∷ front) (beginnings ps))) e

suc_above : (n : ℕ) → leb (suc n) 0 ≡ false
suc_above n = grind (arith, nat_tests)

suc_above_sum : (n m : ℕ) → leb (suc n + m) 0 ≡ false
suc_above_sum n m = grind (arith, nat_tests)

all_within : (n : ℕ) (ps : List ImportPart) → list_all (within n) (beginnings ps) ≡ leb (unmatched ps) n
unfolding within unmatched
all_within n [] = grind (arith, nat_tests)
all_within n (head is_old text ∷ ps) =
    all_after (within n) (head is_old text) ps (within-nil n) ∙ all_same _ (within (suc n)) (beginnings ps) (λ front. grind (arith, nat_tests)) ∙ all_within (suc n) ps ∙ grind (arith, nat_tests)
all_within n (leaf key name ∷ ps) = all_after (within n) (leaf key name) ps (within-nil n) ∙ all_within n ps
all_within zero (close at ∷ ps) = all_after (within zero) (close at) ps (within-nil zero) ∙ first_fails _ ps refl ∙ sym (suc_above (unmatched ps))
all_within (suc n) (close at ∷ ps) =
    all_after (within (suc n)) (close at) ps (within-nil (suc n)) ∙ all_same _ (within n) (beginnings ps) (λ front. grind (arith, nat_tests)) ∙ all_within n ps ∙ grind (arith, nat_tests)
all_within n (nothing ∷ ps) = all_after (within n) nothing ps (within-nil n) ∙ all_within n ps
all_within n (wrong f ∷ ps) = all_after (within n) (wrong f) ps (within-nil n) ∙ all_within n ps

is_open_unmatched : (ps : List ImportPart) → is_open ps ≡ leb (unmatched ps) 0
unfolding within
is_open_unmatched ps = all_same has_no_more_closes (within 0) (beginnings ps) (λ front. grind (arith, nat_tests)) ∙ all_within 0 ps

-- appending a part that is no `}` leaves the heads unchanged, except for the part itself
unmatched-following : (q : ImportPart) → unmatched (q ∷ []) ≡ 0 → (ps : List ImportPart) → unmatched (ps ++ q ∷ []) ≡ unmatched ps
unfolding unmatched
unmatched-following q e [] = e
unmatched-following q e (head is_old text ∷ ps) = ap (λ n. n - 1) (unmatched-following q e ps)
unmatched-following q e (leaf key name ∷ ps) = unmatched-following q e ps
unmatched-following q e (close at ∷ ps) = ap suc (unmatched-following q e ps)
unmatched-following q e (nothing ∷ ps) = unmatched-following q e ps
unmatched-following q e (wrong f ∷ ps) = unmatched-following q e ps

same_open : (ps qs : List ImportPart) → unmatched ps ≡ unmatched qs → is_open ps ≡ is_open qs
same_open ps qs e = is_open_unmatched ps ∙ ap (λ n. leb n 0) e ∙ sym (is_open_unmatched qs)

cond-following : (b : Bool) (text : List ℕ) (hs more : List (List ℕ)) → cond b (text ∷ (hs ++ more)) (hs ++ more) ≡ cond b (text ∷ hs) hs ++ more
cond-following true text hs more = refl
cond-following false text hs more = refl

open_heads-following : (q : ImportPart) → unmatched (q ∷ []) ≡ 0 → (ps : List ImportPart) → open_heads (ps ++ q ∷ []) ≡ open_heads ps ++ open_heads (q ∷ [])
open_heads-following q e [] = refl
open_heads-following q e (head is_old text ∷ ps) =
    (λ j. cond (same_open (ps ++ q ∷ []) ps (unmatched-following q e ps) j) (text ∷ open_heads-following q e ps j) (open_heads-following q e ps j))
    ∙ cond-following (is_open ps) text (open_heads ps) (open_heads (q ∷ []))
open_heads-following q e (leaf key name ∷ ps) = open_heads-following q e ps
open_heads-following q e (close at ∷ ps) = open_heads-following q e ps
open_heads-following q e (nothing ∷ ps) = open_heads-following q e ps
open_heads-following q e (wrong f ∷ ps) = open_heads-following q e ps

-- 1 for none
if_none : List (List ℕ) → ℕ
if_none [] = 1
if_none (h ∷ hs) = 0

-- a list without its last item
front_of : List (List ℕ) → List (List ℕ)
front_of hs = take (length hs - 1) hs

-- a `}` after parts removes the last open head, or finds none
record Closed (at : ℕ) (ps : List ImportPart) : Type 0 where
  found : unmatched (ps ++ close at ∷ []) ≡ unmatched ps + if_none (open_heads ps)
  left : open_heads (ps ++ close at ∷ []) ≡ front_of (open_heads ps)

less_one : (n : ℕ) → suc n - 1 ≡ n
less_one n = omega arith

closed_head : (is_old : Bool) (text : List ℕ) (at : ℕ) (ps : List ImportPart) (u : ℕ) (hs : List (List ℕ)) → unmatched ps ≡ u → open_heads ps ≡ hs → Closed at ps → Closed at (head is_old text ∷ ps)
unfolding unmatched if_none front_of
closed_head is_old text at ps zero [] eu eh r =
    let now_open : is_open ps ≡ true = is_open_unmatched ps ∙ ap (λ n. leb n 0) eu in
    let after : unmatched (ps ++ close at ∷ []) ≡ 1 = r.found ∙ (λ j. eu j + if_none (eh j)) in
    let then_not : is_open (ps ++ close at ∷ []) ≡ false = is_open_unmatched (ps ++ close at ∷ []) ∙ ap (λ n. leb n 0) after in
    record { found = rw (after, eu, now_open) refl; left = rw (then_not, now_open, r.left, eh) refl }
closed_head is_old text at ps zero (h ∷ hs) eu eh r =
    let now_open : is_open ps ≡ true = is_open_unmatched ps ∙ ap (λ n. leb n 0) eu in
    let after : unmatched (ps ++ close at ∷ []) ≡ 0 = r.found ∙ (λ j. eu j + if_none (eh j)) in
    let then_too : is_open (ps ++ close at ∷ []) ≡ true = is_open_unmatched (ps ++ close at ∷ []) ∙ ap (λ n. leb n 0) after in
    record { found = rw (after, eu, now_open) refl; left = rw (then_too, now_open, r.left, eh, less_one (length hs), less_one (suc (length hs))) refl }
closed_head is_old text at ps (suc u) hs eu eh r =
    let not_open : is_open ps ≡ false = is_open_unmatched ps ∙ ap (λ n. leb n 0) eu ∙ suc_above u in
    let after : unmatched (ps ++ close at ∷ []) ≡ suc u + if_none hs = r.found ∙ (λ j. eu j + if_none (eh j)) in
    let then_not : is_open (ps ++ close at ∷ []) ≡ false = is_open_unmatched (ps ++ close at ∷ []) ∙ ap (λ n. leb n 0) after ∙ suc_above_sum u (if_none hs) in
    record { found = rw (after, eu, not_open, eh) (omega arith); left = rw (then_not, not_open, r.left, eh) refl }

closed_at : (at : ℕ) (ps : List ImportPart) → Closed at ps
unfolding unmatched if_none front_of
closed_at at [] = record { found = refl; left = refl }
closed_at at (head is_old text ∷ ps) = closed_head is_old text at ps (unmatched ps) (open_heads ps) refl refl (closed_at at ps)
closed_at at (leaf key name ∷ ps) = let r = closed_at at ps in record { found = r.found; left = r.left }
closed_at at (close at' ∷ ps) = let r = closed_at at ps in record { found = ap suc r.found ∙ omega arith; left = r.left }
closed_at at (nothing ∷ ps) = let r = closed_at at ps in record { found = r.found; left = r.left }
closed_at at (wrong f ∷ ps) = let r = closed_at at ps in record { found = r.found; left = r.left }

-- the reader after parts, with such leaves
abbrev reader : List ImportPart → List Leaf → Reader
reader before ls = record { heads = open_heads before; old_form = list_any is_old_head before; leaves = ls }

or-false : (b : Bool) → (b || false) ≡ b
or-false true = refl
or-false false = refl

is_old_head-following : (before : List ImportPart) (p : ImportPart) → list_any is_old_head (before ++ p ∷ []) ≡ (list_any is_old_head before || is_old_head p)
is_old_head-following before p = list_any-append is_old_head before (p ∷ []) ∙ ap (λ b. list_any is_old_head before || b) (or-false (is_old_head p))

then_leaves-twice : (ls new : List Leaf) (x : Result (List Leaf) SyntaxFault) → then_leaves (Ok (ls ++ new)) x ≡ then_leaves (Ok ls) (then_leaves (Ok new) x)
then_leaves-twice ls new (Ok more) = ap Ok (append_assoc ls new more)
then_leaves-twice ls new (Err f) = refl

then_leaves-nil : (x : Result (List Leaf) SyntaxFault) → then_leaves (Ok []) x ≡ x
then_leaves-nil (Ok more) = refl
then_leaves-nil (Err f) = refl

ended : (b : Bool) (ls : List Leaf) (f : SyntaxFault) → cond b (Ok ls) (Err f) ≡ then_leaves (Ok ls) (cond b (Ok []) (Err f))
ended true ls f = ap Ok (sym (append-nil ls))
ended false ls f = refl

-- a part that is neither a head nor a `}` leaves the heads and the form unchanged
same_reader : (before : List ImportPart) (p : ImportPart) (ls : List Leaf) → unmatched (p ∷ []) ≡ 0 → open_heads (p ∷ []) ≡ [] → is_old_head p ≡ false → reader before ls ≡ reader (before ++ p ∷ []) ls
same_reader before p ls none no_head not_old =
    let heads : open_heads before ≡ open_heads (before ++ p ∷ []) = sym (open_heads-following p none before ∙ ap (λ hs. open_heads before ++ hs) no_head ∙ append-nil (open_heads before)) in
    let old : list_any is_old_head before ≡ list_any is_old_head (before ++ p ∷ []) = sym (is_old_head-following before p ∙ ap (λ b. list_any is_old_head before || b) not_old ∙ or-false (list_any is_old_head before)) in
    λ j. record { heads = heads j; old_form = old j; leaves = ls }

-- how a reader and counting correspond after the same parts
abbrev Agrees : ℕ → List ImportPart → List Leaf → List ImportPart → Type 0
Agrees end before ls ps = run end (reader before ls) ps ≡ then_leaves (Ok ls) (leaves_of end before ps)

-- the leaves that a `}` adds where these heads are open
abbrev closing : ℕ → List (List ℕ) → Result (List Leaf) SyntaxFault
closing at hs = elim hs [ [] ↦ Err (codes "close brace without open", at) | x ∷ xs ↦ Ok [] ]

close_turn : (end : ℕ) (before : List ImportPart) (ls : List Leaf) (at : ℕ) (ps : List ImportPart) (hs : List (List ℕ)) → open_heads before ≡ hs
    → Agrees end (before ++ close at ∷ []) ls ps → Agrees end before ls (close at ∷ ps)
unfolding run leaves_of front_of
close_turn end before ls at ps [] e rest =
    ap (λ hs. run end (record { heads = hs; old_form = list_any is_old_head before; leaves = ls }) (close at ∷ ps)) e
    ∙ sym (ap (λ x. then_leaves (Ok ls) (then_leaves x (leaves_of end (before ++ close at ∷ []) ps))) (ap (closing at) e))
close_turn end before ls at ps (h ∷ hs) e rest =
    let heads : front_of (h ∷ hs) ≡ open_heads (before ++ close at ∷ []) = sym ((closed_at at before).left ∙ ap front_of e) in
    let old : list_any is_old_head before ≡ list_any is_old_head (before ++ close at ∷ []) = sym (is_old_head-following before (close at) ∙ or-false (list_any is_old_head before)) in
    ap (λ hs. run end (record { heads = hs; old_form = list_any is_old_head before; leaves = ls }) (close at ∷ ps)) e
    ∙ (λ j. run end (record { heads = heads j; old_form = old j; leaves = ls }) ps)
    ∙ rest
    ∙ ap (then_leaves (Ok ls)) (sym (then_leaves-nil (leaves_of end (before ++ close at ∷ []) ps)))
    ∙ sym (ap (λ x. then_leaves (Ok ls) (then_leaves x (leaves_of end (before ++ close at ∷ []) ps))) (ap (closing at) e))

-- a reader with a stack gives what counting gives
reads_leaves : (end : ℕ) (before : List ImportPart) (ls : List Leaf) (ps : List ImportPart) → Agrees end before ls ps
unfolding run leaves_of unmatched
reads_leaves end before ls [] = ended _ ls _
reads_leaves end before ls (head is_old text ∷ ps) =
    let p : ImportPart = head is_old text in
    let next : record { heads = open_heads before ++ text ∷ []; old_form = list_any is_old_head before || is_old; leaves = ls } ≡ reader (before ++ p ∷ []) ls =
    λ j. record { heads = sym (open_heads-following p refl before) j; old_form = sym (is_old_head-following before p) j; leaves = ls } in
    ap (λ r. run end r ps) next ∙ reads_leaves end (before ++ p ∷ []) ls ps ∙ ap (then_leaves (Ok ls)) (sym (then_leaves-nil (leaves_of end (before ++ p ∷ []) ps)))
reads_leaves end before ls (leaf key name ∷ ps) =
    let p : ImportPart = leaf key name in
    let new : List Leaf = (key, concat (open_heads before) ++ name) ∷ [] in
    ap (λ r. run end r ps) (same_reader before p (ls ++ new) refl refl refl) ∙ reads_leaves end (before ++ p ∷ []) (ls ++ new) ps ∙ then_leaves-twice ls new (leaves_of end (before ++ p ∷ []) ps)
reads_leaves end before ls (close at ∷ ps) = close_turn end before ls at ps (open_heads before) refl (reads_leaves end (before ++ close at ∷ []) ls ps)
reads_leaves end before ls (nothing ∷ ps) =
    ap (λ r. run end r ps) (same_reader before nothing ls refl refl refl) ∙ reads_leaves end (before ++ nothing ∷ []) ls ps ∙ ap (then_leaves (Ok ls)) (sym (then_leaves-nil (leaves_of end (before ++ nothing ∷ []) ps)))
reads_leaves end before ls (wrong f ∷ ps) = refl

-- a line after `#import`, read from the start
pub line_read : (end : ℕ) (ts following : List Lexeme) → after_import end ts ≡ Ok following → run end at_start (parts 0 following) ≡ line_leaves end ts
unfolding line_leaves
line_read end ts following e = reads_leaves end [] [] (parts 0 following) ∙ then_leaves-nil (leaves_of end [] (parts 0 following))
    ∙ sym (ap (λ r. elim r [ Ok b ↦ leaves_of end [] (parts 0 b) | Err f ↦ Err f ]) e)

pub line_refused : (end : ℕ) (ts : List Lexeme) (f : SyntaxFault) → after_import end ts ≡ Err f → line_leaves end ts ≡ Err f
unfolding line_leaves
line_refused end ts f e = ap (λ r. elim r [ Ok b ↦ leaves_of end [] (parts 0 b) | Err g ↦ Err g ]) e

-- one more part, and the end
pub part_read : (end : ℕ) (r next : Reader) (p : ImportPart) (all ps : List ImportPart) (whole : Result (List Leaf) SyntaxFault) → all ≡ p ∷ ps → step r p ≡ Ok next → run end r all ≡ whole → run end next ps ≡ whole
unfolding run
part_read end r next p all ps whole e s told = sym (ap (λ x. elim x [ Ok n ↦ run end n ps | Err f ↦ Err f ]) s) ∙ sym (ap (run end r) e) ∙ told

pub part_refused : (end : ℕ) (r : Reader) (p : ImportPart) (all ps : List ImportPart) (f : SyntaxFault) (whole : Result (List Leaf) SyntaxFault) → all ≡ p ∷ ps → step r p ≡ Err f → run end r all ≡ whole → whole ≡ Err f
unfolding run
part_refused end r p all ps f whole e s told = sym told ∙ ap (run end r) e ∙ ap (λ x. elim x [ Ok n ↦ run end n ps | Err g ↦ Err g ]) s

pub end_read : (end : ℕ) (r : Reader) (all : List ImportPart) (whole : Result (List Leaf) SyntaxFault) → all ≡ [] → may_end r ≡ true → run end r all ≡ whole → whole ≡ Ok r.leaves
unfolding run
end_read end r all whole e may told = sym told ∙ ap (run end r) e ∙ ap (λ b. cond b (Ok r.leaves) (Err (codes "missing close brace", end))) may

pub end_refused : (end : ℕ) (r : Reader) (all : List ImportPart) (whole : Result (List Leaf) SyntaxFault) → all ≡ [] → may_end r ≡ false → run end r all ≡ whole → whole ≡ Err (codes "missing close brace", end)
unfolding run
end_refused end r all whole e may told = sym told ∙ ap (run end r) e ∙ ap (λ b. cond b (Ok r.leaves) (Err (codes "missing close brace", end))) may
