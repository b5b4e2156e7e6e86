-- Line ends, and marks in a text.
use Rattle.std.proofs.Common.{◌≡◌, ◌≢◌, ℕ, zero, suc, ◌+◌, ◌-◌, ◌<◌, ◌≤◌, Bool, true, false, eqb, cond, min, ◌||◌, List, [], ◌∷◌, ◌++◌, length, take, drop, get_or, Option, Some, None, MatchOption, option_map, Bor, unwrap_or, refl, sym, ap, ◌∙◌, append-nil, ◌⊎◌, inl, inr, arith}
use Rattle.std.proofs.lemmas.Bool.{ne_eqb, lt-ltb, le-ltb, true≢false}
use Rattle.std.proofs.lemmas.Bool.Decides.{Decides-eqb}
use Rattle.std.specs.List.{starts_with, ends_with, onto_first}
use Rattle.std.specs.Str.Pattern.{FindsText, LacksTextAt, MatchBeginsAt, SplitsAroundMatch}
use Rattle.std.proofs.lemmas.Slice.Eq.{starts_is}
use Rattle.naga_oil_registry.specs.Sanitized.{earlier, first_of, line_feeds, end_last_line, parts_after, parts_around, numbered, binding, within}

-- a byte that is no carriage return stays
not_return : (a : ℕ) (more : List ℕ) → a ≢ 13 → line_feeds (a ∷ more) ≡ a ∷ line_feeds more
not_return a [] h = rw (ne_eqb a 13 h) refl
not_return a (b ∷ more) h = rw (ne_eqb a 13 h, ne_eqb a 13 h) refl

after_pair : (more : List ℕ) → line_feeds (13 ∷ 10 ∷ more) ≡ 10 ∷ line_feeds more
after_pair [] = refl
after_pair (b ∷ more) = refl

after_return : (text : List ℕ) → ((rest : List ℕ) → text ≢ 10 ∷ rest) → line_feeds (13 ∷ text) ≡ 10 ∷ line_feeds text
after_return [] h = refl
after_return (b ∷ more) h = rw (ne_eqb b 10 (λ e. h more (ap (λ x. x ∷ more) e))) refl

-- after a carriage return, with or without the line feed that belongs to it
pub past_feed : (text : List ℕ) (r : Option (Bor (List ℕ))) (whole : Bor (List ℕ)) → whole.now ≡ text → MatchOption r ((rest : List ℕ) → text ≢ 10 ∷ rest) (λ x. text ≡ 10 ∷ x.now) → line_feeds (13 ∷ text) ≡ 10 ∷ line_feeds (unwrap_or r whole).now
past_feed text None whole e h = after_return text h ∙ ap (λ t. 10 ∷ line_feeds t) (sym e)
past_feed text (Some x) whole e h = ap (λ t. line_feeds (13 ∷ t)) h ∙ after_pair x.now

-- what precedes the first carriage return stays
pub plain_front : (front more : List ℕ) → ((i : ℕ) → i < length front → get_or front i 0 ≢ 13) → line_feeds (front ++ more) ≡ front ++ line_feeds more
plain_front [] more h = refl
plain_front (a ∷ front) more h = not_return a (front ++ more) (h 0 (omega arith)) ∙ ap (λ l. a ∷ l) (plain_front front more (λ i lt. h (suc i) (omega (arith, lt))))

pub plain_text : (text : List ℕ) → ((i : ℕ) → i < length text → get_or text i 0 ≢ 13) → line_feeds text ≡ text
plain_text text h = ap line_feeds (sym (append-nil text)) ∙ plain_front text [] h ∙ append-nil text

-- whether a mark stands at the front
begins : (mark rest : List ℕ) → starts_with eqb (mark ++ rest) mark ≡ true
begins mark rest = (starts_is Decides-eqb (mark ++ rest) mark (starts_with eqb (mark ++ rest) mark) refl).1 rest refl

begins_not : (mark text : List ℕ) → LacksTextAt mark text 0 → starts_with eqb text mark ≡ false
begins_not mark text none = by (starts_with eqb text mark) refl
  where
    by : (b : Bool) → starts_with eqb text mark ≡ b → starts_with eqb text mark ≡ false
    by true e = absurd (none (drop (length mark) text) ((starts_is Decides-eqb text mark (starts_with eqb text mark) refl).0 e))
    by false e = e

-- the first place of a mark, as a search finds it
Found : List ℕ → List ℕ → Option ℕ → Type 0
Found mark text r = MatchOption r ((i : ℕ) → i ≤ length text → LacksTextAt mark text i) (λ at. ((i : ℕ) → i < at → LacksTextAt mark text i) × ((rest : List ℕ) × (drop at text ≡ mark ++ rest)))

-- a mark stands at the front, or further on
Step : List ℕ → ℕ → List ℕ → Option ℕ → Type 0
Step mark c more r = ((r ≡ Some 0) × (starts_with eqb (c ∷ more) mark ≡ true)) ⊎ ((later : Option ℕ) × (r ≡ option_map (λ at. suc at) later) × (starts_with eqb (c ∷ more) mark ≡ false) × Found mark more later)

step : (mark : List ℕ) (c : ℕ) (more : List ℕ) (r : Option ℕ) → Found mark (c ∷ more) r → Step mark c more r
unfolding Found Step
step mark c more None h = inr (None, refl, begins_not mark (c ∷ more) (h 0 (omega arith)), λ i le. h (suc i) (omega (arith, le)))
step mark c more (Some zero) h = inl (refl, ap (λ t. starts_with eqb t mark) h.1.1 ∙ begins mark h.1.0)
step mark c more (Some (suc at)) h = inr (Some at, refl, begins_not mark (c ∷ more) (h.0 0 (omega arith)), (λ i lt. h.0 (suc i) (omega (arith, lt)), h.1))

later_both : (a b : Option ℕ) → option_map (λ at. suc at) (earlier a b) ≡ earlier (option_map (λ at. suc at) a) (option_map (λ at. suc at) b)
later_both (Some a) (Some b) = ap (λ n. Some n) (let e : suc (min a b) ≡ min (suc a) (suc b) = omega arith in e)
later_both (Some a) None = refl
later_both None (Some b) = refl
later_both None None = refl

at_once : (b : Option ℕ) → Some 0 ≡ earlier (Some 0) b
at_once (Some b) = ap (λ n. Some n) (let e : 0 ≡ min 0 b = omega arith in e)
at_once None = refl

at_once_too : (a : Option ℕ) → Some 0 ≡ earlier a (Some 0)
at_once_too (Some a) = ap (λ n. Some n) (let e : 0 ≡ min a 0 = omega arith in e)
at_once_too None = refl

none_in_nothing : (m : ℕ) (ms : List ℕ) (r : Option ℕ) → Found (m ∷ ms) [] r → r ≡ None
unfolding Found
none_in_nothing m ms None h = refl
none_in_nothing m ms (Some zero) h = absurd (let e = h.1.1 in cc)
none_in_nothing m ms (Some (suc at)) h = absurd (let e = h.1.1 in cc)

or_first : (x y : Bool) → x ≡ true → (x || y) ≡ true
or_first true y e = refl
or_first false y e = absurd (true≢false (sym e))

-- the first mark of either kind is the earlier of those that two searches find
first_found : (m : ℕ) (ms : List ℕ) (n : ℕ) (ns text : List ℕ) (a b : Option ℕ) → Found (m ∷ ms) text a → Found (n ∷ ns) text b → first_of (m ∷ ms) (n ∷ ns) text ≡ earlier a b
unfolding Step
first_found m ms n ns [] a b f g = rw (none_in_nothing m ms a f, none_in_nothing n ns b g) refl
first_found m ms n ns (c ∷ more) a b f g = by (step (m ∷ ms) c more a f) (step (n ∷ ns) c more b g) (λ x y p q. first_found m ms n ns more x y p q)
  where
    by : Step (m ∷ ms) c more a → Step (n ∷ ns) c more b → ((x y : Option ℕ) → Found (m ∷ ms) more x → Found (n ∷ ns) more y → first_of (m ∷ ms) (n ∷ ns) more ≡ earlier x y) → first_of (m ∷ ms) (n ∷ ns) (c ∷ more) ≡ earlier a b
    by (inl p) q rest = rw (p.1) (at_once b ∙ ap (λ x. earlier x b) (sym p.0))
    by (inr p) (inl q) rest = rw (p.2, q.1) (at_once_too a ∙ ap (λ x. earlier a x) (sym q.0))
    by (inr p) (inr q) rest = rw (p.2, q.2) (ap (option_map (λ at. suc at)) (rest p.0 q.0 p.3 q.3) ∙ later_both p.0 q.0 ∙ ap (λ x. earlier x (option_map (λ at. suc at) q.0)) (sym p.1) ∙ ap (λ x. earlier a x) (sym q.1))

-- what `find` returns
found : (mark text : List ℕ) (r : Option ℕ) → MatchOption r (FindsText mark text None) (MatchBeginsAt (FindsText mark) text) → Found mark text r
unfolding Found
found mark text None h = h
found mark text (Some at) h = (h.1.0, (drop h.0 text, h.1.1.split))

pub first_of_finds : (mark other text : List ℕ) (a b : Option ℕ) → 0 < length mark → 0 < length other
    → MatchOption a (FindsText mark text None) (MatchBeginsAt (FindsText mark) text)
    → MatchOption b (FindsText other text None) (MatchBeginsAt (FindsText other) text)
    → first_of mark other text ≡ earlier a b
first_of_finds [] other text a b some some_other f g = absurd (omega arith)
first_of_finds (m ∷ ms) [] text a b some some_other f g = absurd (omega arith)
first_of_finds (m ∷ ms) (n ∷ ns) text a b some some_other f g = first_found m ms n ns text a b (found (m ∷ ms) text a f) (found (n ∷ ns) text b g)

-- the parts of a text without the mark, and of one that is cut around its first
parts_none : (mark text : List ℕ) → ((i : ℕ) → i ≤ length text → LacksTextAt mark text i) → parts_around mark text ≡ text ∷ []
parts_none mark [] none = refl
parts_none mark (c ∷ more) none = rw (begins_not mark (c ∷ more) (none 0 (omega arith))) (ap (onto_first c) (parts_none mark more (λ i le. none (suc i) (omega (arith, le)))))

past_mark : (mark skipped text : List ℕ) → parts_after (length skipped) mark (skipped ++ text) ≡ parts_around mark text
past_mark mark [] text = refl
past_mark mark (c ∷ skipped) text = past_mark mark skipped text

parts_here : (m : ℕ) (ms back : List ℕ) → parts_around (m ∷ ms) (m ∷ ms ++ back) ≡ [] ∷ parts_around (m ∷ ms) back
parts_here m ms back =
    let left : length (m ∷ ms) - 1 ≡ length ms = omega arith in
    rw (begins (m ∷ ms) back) (ap (λ n. [] ∷ parts_after n (m ∷ ms) (ms ++ back)) left ∙ ap (λ ps. [] ∷ ps) (past_mark (m ∷ ms) ms back))

parts_at : (m : ℕ) (ms text : List ℕ) (i : ℕ) (back : List ℕ) → ((k : ℕ) → k < i → LacksTextAt (m ∷ ms) text k) → drop i text ≡ m ∷ ms ++ back → parts_around (m ∷ ms) text ≡ take i text ∷ parts_around (m ∷ ms) back
parts_at m ms text zero back none at = ap (parts_around (m ∷ ms)) at ∙ parts_here m ms back
parts_at m ms [] (suc i) back none at = absurd cc
parts_at m ms (c ∷ more) (suc i) back none at = rw (begins_not (m ∷ ms) (c ∷ more) (none 0 (omega arith))) (ap (onto_first c) (parts_at m ms more i back (λ k lt. none (suc k) (omega (arith, lt))) at))

-- what `split_once` returns
pub cut_around : (mark text : List ℕ) (r : Option (Bor (List ℕ) × Bor (List ℕ))) → 0 < length mark → MatchOption r (FindsText mark text None) (λ x. SplitsAroundMatch (FindsText mark) text x.0.now x.1.now)
    → MatchOption r (parts_around mark text ≡ text ∷ []) (λ x. (parts_around mark text ≡ x.0.now ∷ parts_around mark x.1.now) × (length x.1.now < length text))
cut_around mark text None some h = parts_none mark text h
cut_around [] text (Some x) some h = absurd (omega arith)
cut_around (m ∷ ms) text (Some x) some h =
    let f = h.2 in
    (parts_at m ms text h.0 x.1.now f.0 (f.1.split ∙ ap (λ l. m ∷ ms ++ l) (sym h.4)) ∙ ap (λ l. l ∷ parts_around (m ∷ ms) x.1.now) (sym h.3), omega (arith, f.1.ends, h.5, h.7))

parts_some : (left : ℕ) (mark text : List ℕ) → (p : List ℕ) × (ps : List (List ℕ)) × (parts_after left mark text ≡ p ∷ ps)
parts_some left mark [] = ([], [], refl)
parts_some (suc left) mark (c ∷ more) = parts_some left mark more
parts_some zero mark (c ∷ more) = by (starts_with eqb (c ∷ more) mark) (parts_some zero mark more)
  where
    by : (b : Bool) → ((p : List ℕ) × (ps : List (List ℕ)) × (parts_around mark more ≡ p ∷ ps)) → (p : List ℕ) × (ps : List (List ℕ)) × (cond b ([] ∷ parts_after (length mark - 1) mark more) (onto_first c (parts_around mark more)) ≡ p ∷ ps)
    by true h = ([], parts_after (length mark - 1) mark more, refl)
    by false h = (c ∷ h.0, h.1, ap (onto_first c) h.2)

pub some_parts : (mark text : List ℕ) → 0 < length (parts_around mark text)
some_parts mark text = let h = parts_some 0 mark text in omega (arith, ap length h.2)

-- one more part
pub numbered_more : (mark text : List ℕ) (n : ℕ) (part : List ℕ) → numbered n (part ∷ parts_around mark text) ≡ part ++ (binding n ++ numbered (n + 1) (parts_around mark text))
numbered_more mark text n part = let h = parts_some 0 mark text in rw (h.2) refl

pub within_reach : (counter next : ℕ) (parts : List (List ℕ)) (text : List ℕ) → 0 < length parts → next ≤ 4294967295 → next + 1 ≡ counter + length parts → text ≡ numbered counter parts → Some (text, next) ≡ within counter parts
within_reach counter next parts text some small count e =
    let last : counter + (length parts - 1) ≡ next = omega arith in
    rw (le-ltb 4294967295 (counter + (length parts - 1)) (omega arith)) (ap (λ t. Some (t, next)) e ∙ ap (λ n. Some (numbered counter parts, n)) (sym last))

pub out_of_reach : (counter : ℕ) (parts : List (List ℕ)) → 4294967295 + 1 < counter + length parts → 0 < length parts → None ≡ within counter parts
out_of_reach counter parts past some = rw (lt-ltb 4294967295 (counter + (length parts - 1)) (omega arith)) refl

-- the last line end
pub ended_already : (text : List ℕ) → ends_with eqb text (10 ∷ []) ≡ true → text ≡ end_last_line text
ended_already text e = rw e refl

pub ended_now : (text : List ℕ) → ends_with eqb text (10 ∷ []) ≡ false → text ++ 10 ∷ [] ≡ end_last_line text
ended_now text e = rw e refl

-- a mark stands within its text
pub first-within : (mark other text : List ℕ) (at : ℕ) → first_of mark other text ≡ Some at → at ≤ length text
first-within mark other [] at e = absurd cc
first-within mark other (c ∷ more) at e = by (starts_with eqb (c ∷ more) mark || starts_with eqb (c ∷ more) other) (first_of mark other more) e (λ at e. first-within mark other more at e)
  where
    by : (b : Bool) (r : Option ℕ) → cond b (Some 0) (option_map (λ at. suc at) r) ≡ Some at → ((at : ℕ) → r ≡ Some at → at ≤ length more) → at ≤ length (c ∷ more)
    by true r e rest = let same : 0 ≡ at = cc in omega arith
    by false None e rest = absurd cc
    by false (Some later) e rest = let same : suc later ≡ at = cc in omega (arith, rest later refl)
