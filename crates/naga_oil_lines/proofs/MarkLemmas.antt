-- Marks and their codes, and the last mark of a run: the reader agrees with the grammar.
use Rattle.std.proofs.Common.{◌≡◌, ◌≢◌, ℕ, ◌-◌, ◌<◌, Bool, true, false, cond, eqb, eq-eqb, Option, Some, None, List, [], ◌∷◌, ◌++◌, length, take, drop, refl, sym, ap, subst, ◌∙◌, inl, inr, ◌⊎◌, arith, rules, length-append}
use borrow.Author.Tests.{eqb-true, ne_eqb}
use Rattle.std.specs.Prelude.{All, codes}
use Rattle.std.specs.Option.{option_or, option_and_then, is_some}
use Rattle.std.specs.Str.{encode_utf8_all}
use Rattle.std.proofs.Math.Seq.{take-append_seam, drop-append_seam}
use Rattle.std.proofs.lemmas.Bool.{cases_order}
use Rattle.std.proofs.lemmas.List.Elements.{All-cons, All-nil, All-head, All-tail}
use Rattle.std.proofs.lemmas.Option.{some_pair_parts}
use Rattle.std.proofs.lemmas.Str.{encode_ascii}
use Rattle.naga_oil_lines.specs.Decorate.{decoded}
use Rattle.naga_oil_words.specs.Marks.{module_mark, override_mark}
use Rattle.naga_oil_lines.specs.Text.{past_word}
use Rattle.naga_oil_lines.specs.Undecorate.{is_code_char, from_last_x, mark_code, from_last_mark, split_at_mark, override_at}
use Rattle.naga_oil_lines.specs.UndecorateGrammar.{EndsCode, BeginsWithCode, BeginsWithMark, HasLastMark, BeginsWithOverride}
use Rattle.naga_oil_lines.proofs.TextLemmas.{past_word-append, past_word-some}
use Rattle.naga_oil_lines.proofs.UndecorateLemmas.{a_mark, a_split, overriding_some}

abbrev IsCodeChar : ℕ → Type 0
IsCodeChar c = is_code_char c ≡ true

abbrev IsNoX : ℕ → Type 0
IsNoX c = c ≢ 88

-- ---- characters of a code
code_char_ascii : (c : ℕ) → IsCodeChar c → c < 128
code_char_ascii c h = search (rules, arith)

ascii_code : (cs : List ℕ) → All IsCodeChar cs → encode_utf8_all cs ≡ cs
ascii_code [] h = refl
ascii_code (c ∷ cs) h = (λ i. encode_ascii c (code_char_ascii c (All-head IsCodeChar _ _ h)) i ++ ascii_code cs (All-tail IsCodeChar _ _ h) i)

front_is_code : (xs ys : List ℕ) → All IsCodeChar (xs ++ ys) → All IsCodeChar xs
front_is_code [] ys h = All-nil IsCodeChar
front_is_code (x ∷ xs) ys h = All-cons IsCodeChar _ _ (All-head IsCodeChar _ _ h) (front_is_code xs ys (All-tail IsCodeChar _ _ h))

take_front : (all front back : List ℕ) → all ≡ front ++ back → take (length all - length back) all ≡ front
take_front all front back e =
    let count : length all - length back ≡ length front = omega (arith, ap length e, length-append front back) in
    ap (λ k. take k all) count ∙ ap (take (length front)) e ∙ take-append_seam front back

-- ---- the last `X`
no_x : (tail after : List ℕ) → All IsCodeChar tail → All IsNoX tail → EndsCode after → from_last_x (tail ++ after) ≡ None
unfolding from_last_x
no_x [] [] run last e = refl
no_x [] (c ∷ cs) run last e = rw e refl
no_x (c ∷ tail) after run last e =
    rw (All-head IsCodeChar _ _ run, ne_eqb c 88 (All-head IsNoX _ _ last), no_x tail after (All-tail IsCodeChar _ _ run) (All-tail IsNoX _ _ last) e) refl

last_x_is : (code tail after : List ℕ) → All IsCodeChar (code ++ 88 ∷ tail) → All IsNoX tail → EndsCode after → from_last_x (code ++ 88 ∷ (tail ++ after)) ≡ Some (88 ∷ (tail ++ after))
unfolding from_last_x
last_x_is [] tail after run last e = rw (no_x tail after (All-tail IsCodeChar _ _ run) last e) refl
last_x_is (c ∷ code) tail after run last e = rw (All-head IsCodeChar _ _ run, last_x_is code tail after (All-tail IsCodeChar _ _ run) last e) refl

-- a run of capital letters and digits without an `X`, and what follows it
record CutWithoutX (cs : List ℕ) : Type 0 where
  tail : List ℕ
  after : List ℕ
  whole : cs ≡ tail ++ after
  run : All IsCodeChar tail
  last : All IsNoX tail
  longest : EndsCode after

no_x_cut : (cs : List ℕ) → from_last_x cs ≡ None → CutWithoutX cs
unfolding from_last_x
no_x_cut [] e = record { tail = []; after = []; whole = refl; run = All-nil IsCodeChar; last = All-nil IsNoX; longest = tt }
no_x_cut (c ∷ cs) e = go (is_code_char c) (eqb c 88) (from_last_x cs) refl refl (no_x_cut cs) refl e
  where
    go : (k x : Bool) (o : Option (List ℕ)) → is_code_char c ≡ k → eqb c 88 ≡ x → (from_last_x cs ≡ None → CutWithoutX cs) → from_last_x cs ≡ o
        → cond k (option_or o (cond x (Some (c ∷ cs)) None)) None ≡ None → CutWithoutX (c ∷ cs)
    go false x o k y more p e = record { tail = []; after = c ∷ cs; whole = refl; run = All-nil IsCodeChar; last = All-nil IsNoX; longest = k }
    go true x (Some t) k y more p e = cc
    go true true None k y more p e = cc
    go true false None k y more p e =
        let n = more p in
        let other : c ≢ 88 = λ same. let is = eq-eqb c 88 same in cc in
        record { tail = c ∷ n.tail; after = n.after; whole = ap (λ l. c ∷ l) n.whole; run = All-cons IsCodeChar c n.tail k n.run; last = All-cons IsNoX c n.tail other n.last; longest = n.longest }

-- the last `X` of such a run, and the text around it
record CutAtX (cs end : List ℕ) : Type 0 where
  code : List ℕ
  tail : List ℕ
  after : List ℕ
  whole : cs ≡ code ++ end
  end_is : end ≡ 88 ∷ (tail ++ after)
  run : All IsCodeChar (code ++ 88 ∷ tail)
  last : All IsNoX tail
  longest : EndsCode after

x_cut : (cs end : List ℕ) → from_last_x cs ≡ Some end → CutAtX cs end
unfolding from_last_x
x_cut [] end e = cc
x_cut (c ∷ cs) end e = go (is_code_char c) (eqb c 88) (from_last_x cs) refl refl (x_cut cs end) refl e
  where
    go : (k x : Bool) (o : Option (List ℕ)) → is_code_char c ≡ k → eqb c 88 ≡ x → (from_last_x cs ≡ Some end → CutAtX cs end) → from_last_x cs ≡ o
        → cond k (option_or o (cond x (Some (c ∷ cs)) None)) None ≡ Some end → CutAtX (c ∷ cs) end
    go false x o k y more p e = cc
    go true x (Some t) k y more p e =
        let n = more (p ∙ e) in
        record { code = c ∷ n.code; tail = n.tail; after = n.after; whole = ap (λ l. c ∷ l) n.whole; end_is = n.end_is; run = All-cons IsCodeChar c (n.code ++ 88 ∷ n.tail) k n.run; last = n.last; longest = n.longest }
    go true true None k y more p e =
        let n = no_x_cut cs p in
        let same : c ∷ cs ≡ end = cc in
        let x : c ≡ 88 = eqb-true c 88 y in
        record { code = []; tail = n.tail; after = n.after; whole = same; end_is = sym same ∙ (λ i. x i ∷ n.whole i); run = All-cons IsCodeChar 88 n.tail refl n.run; last = n.last; longest = n.longest }
    go true false None k y more p e = cc

-- ---- a mark with its code
coded_from : (following end code rest b : List ℕ) → CutAtX following end → end ≡ 88 ∷ b → encode_utf8_all (take (length following - length end) following) ≡ code → b ≡ rest → BeginsWithCode following code rest
coded_from following end code rest b n x spelled same =
    let is_code : n.code ≡ code = sym (ap encode_utf8_all (take_front following n.code end n.whole) ∙ ascii_code n.code (front_is_code n.code (88 ∷ n.tail) n.run)) ∙ spelled in
    let is_end : end ≡ 88 ∷ rest = x ∙ ap (λ l. 88 ∷ l) same in
    subst (λ k. BeginsWithCode following k rest) is_code (record {
      whole = n.whole ∙ ap (λ l. n.code ++ l) is_end;
      tail = n.tail;
      after = n.after;
      cut = ap (drop 1) (sym is_end ∙ n.end_is);
      run = n.run;
      last = n.last;
      longest = n.longest;
    })

pub mark_read : (mark text code rest : List ℕ) → (let found : Option (List ℕ × List ℕ) = Some (code, rest) in mark_code mark text ≡ found) → BeginsWithMark mark text code rest
unfolding mark_code
mark_read mark text code rest e = go (past_word mark text) refl e
  where
    at_x : (following end : List ℕ) (o : Option (List ℕ)) → past_word mark text ≡ Some following → from_last_x following ≡ Some end → past_word (codes "X") end ≡ o
        → (let found : Option (List ℕ × List ℕ) = Some (code, rest) in option_and_then (λ b. Some (encode_utf8_all (take (length following - length end) following), b)) o ≡ found) → BeginsWithMark mark text code rest
    at_x following end (Some b) p q r e =
        let parts = some_pair_parts (encode_utf8_all (take (length following - length end) following)) code b rest e in
        record { following = following; whole = past_word-some mark text following p; coded = coded_from following end code rest b (x_cut following end q) (past_word-some (codes "X") end b r) parts.0 parts.1 }
    at_x following end None p q r e = cc

    at_code : (following : List ℕ) (o : Option (List ℕ)) → past_word mark text ≡ Some following → from_last_x following ≡ o
        → (let found : Option (List ℕ × List ℕ) = Some (code, rest) in option_and_then (λ end. option_and_then (λ b. Some (encode_utf8_all (take (length following - length end) following), b)) (past_word (codes "X") end)) o ≡ found)
        → BeginsWithMark mark text code rest
    at_code following (Some end) p q e = at_x following end (past_word (codes "X") end) p q refl e
    at_code following None p q e = cc

    go : (o : Option (List ℕ)) → past_word mark text ≡ o
        → (let found : Option (List ℕ × List ℕ) = Some (code, rest) in option_and_then (λ following. option_and_then (λ end. option_and_then (λ b. Some (encode_utf8_all (take (length following - length end) following), b)) (past_word (codes "X") end)) (from_last_x following)) o ≡ found)
        → BeginsWithMark mark text code rest
    go (Some following) p e = at_code following (from_last_x following) p refl e
    go None p e = cc

pub mark_is_read : (mark text code rest : List ℕ) → BeginsWithMark mark text code rest → (let found : Option (List ℕ × List ℕ) = Some (code, rest) in mark_code mark text ≡ found)
mark_is_read mark text code rest m =
    let h = m.coded in
    let at_x : from_last_x m.following ≡ Some (88 ∷ rest) =
    ap from_last_x (h.whole ∙ ap (λ r. code ++ 88 ∷ r) h.cut) ∙ last_x_is code h.tail h.after h.run h.last h.longest ∙ ap (λ r. Some (88 ∷ r)) (sym h.cut) in
    let spelled : code ≡ encode_utf8_all (take (length m.following - length (88 ∷ rest)) m.following) =
    sym (ap encode_utf8_all (take_front m.following code (88 ∷ rest) h.whole) ∙ ascii_code code (front_is_code code (88 ∷ h.tail) h.run)) in
    sym (a_mark mark text m.following (88 ∷ rest) rest code (sym (ap (past_word mark) m.whole ∙ past_word-append mark m.following)) (sym at_x) (sym (past_word-append (codes "X") rest)) spelled)

-- no mark with a code is where the reader finds none
none_read : (mark text code rest : List ℕ) → mark_code mark text ≡ None → ¬ (BeginsWithMark mark text code rest)
none_read mark text code rest none m = let found = mark_is_read mark text code rest m in cc

-- ---- the last mark of a run
not_shorter : (front : List ℕ) (n : ℕ) → length front ≡ 0 → n < length front → ⊥
not_shorter front n e h = omega (arith, e, h)

no_mark_after : (run : List ℕ) → from_last_mark run ≡ None → (front later : List ℕ) → run ≡ front ++ later → 0 < length front → mark_code module_mark later ≡ None
unfolding from_last_mark
no_mark_after run e [] later w h = absurd (not_shorter [] 0 refl h)
no_mark_after [] e (d ∷ front) later w h = cc
no_mark_after (c ∷ cs) e (d ∷ front) later w h =
    go (from_last_mark cs) (mark_code module_mark cs) refl refl (no_mark_after cs) front (ap (drop 1) w) e
  where
    go : (o : Option (List ℕ)) (m : Option (List ℕ × List ℕ)) → from_last_mark cs ≡ o → mark_code module_mark cs ≡ m
        → (from_last_mark cs ≡ None → (front later : List ℕ) → cs ≡ front ++ later → 0 < length front → mark_code module_mark later ≡ None) → (front : List ℕ) → cs ≡ front ++ later
        → option_or o (cond (is_some m) (Some cs) None) ≡ None → mark_code module_mark later ≡ None
    go (Some t) m p q more front w e = cc
    go None (Some x) p q more front w e = cc
    go None None p q more [] w e = ap (mark_code module_mark) (sym w) ∙ q
    go None None p q more (d ∷ front) w e = more p (d ∷ front) later w (omega arith)

record LastAt (run from : List ℕ) : Type 0 where
  before : List ℕ
  whole : run ≡ before ++ from
  some : 0 < length before
  here : is_some (mark_code module_mark from) ≡ true
  last : (front later : List ℕ) → run ≡ front ++ later → length before < length front → mark_code module_mark later ≡ None

last_mark_at : (run from : List ℕ) → from_last_mark run ≡ Some from → LastAt run from
unfolding from_last_mark
last_mark_at [] from e = cc
last_mark_at (c ∷ cs) from e = go (from_last_mark cs) (is_some (mark_code module_mark cs)) refl refl (last_mark_at cs from) e
  where
    later_on : (n : List ℕ) → ((front later : List ℕ) → cs ≡ front ++ later → length n < length front → mark_code module_mark later ≡ None)
        → (front later : List ℕ) → c ∷ cs ≡ front ++ later → length (c ∷ n) < length front → mark_code module_mark later ≡ None
    later_on n more [] later w h = absurd (not_shorter [] (length (c ∷ n)) refl h)
    later_on n more (d ∷ front) later w h = more front later (ap (drop 1) w) (omega (arith, h))

    past_first : from_last_mark cs ≡ None → (front later : List ℕ) → cs ≡ front ++ later → length {A = ℕ} [] < length front → mark_code module_mark later ≡ None
    past_first p front later w h = no_mark_after cs p front later w h

    go : (o : Option (List ℕ)) (is : Bool) → from_last_mark cs ≡ o → is_some (mark_code module_mark cs) ≡ is → (from_last_mark cs ≡ Some from → LastAt cs from)
        → option_or o (cond is (Some cs) None) ≡ Some from → LastAt (c ∷ cs) from
    go (Some t) is p q more e =
        let n = more (p ∙ e) in
        record { before = c ∷ n.before; whole = ap (λ l. c ∷ l) n.whole; some = omega arith; here = n.here; last = later_on n.before n.last }
    go None true p q more e =
        let same : cs ≡ from = cc in
        record { before = c ∷ []; whole = ap (λ l. c ∷ l) same; some = omega arith; here = ap (λ l. is_some (mark_code module_mark l)) (sym same) ∙ q; last = later_on [] (past_first p) }
    go None false p q more e = cc

-- the parts of a split, or nothing
abbrev first_of : Option (List ℕ × List ℕ × List ℕ) → List ℕ
first_of (Some p) = p.0
first_of None = []

abbrev second_of : Option (List ℕ × List ℕ × List ℕ) → List ℕ
second_of (Some p) = p.1
second_of None = []

abbrev third_of : Option (List ℕ × List ℕ × List ℕ) → List ℕ
third_of (Some p) = p.2
third_of None = []

pub split_read : (run text code rest : List ℕ) → (let parts : Option (List ℕ × List ℕ × List ℕ) = Some (text, code, rest) in split_at_mark run ≡ parts)
    → (before : List ℕ) × (text ≡ encode_utf8_all before) × HasLastMark run before code rest
unfolding split_at_mark
split_read run text code rest e = go (from_last_mark run) refl e
  where
    at_mark : (from : List ℕ) (o : Option (List ℕ × List ℕ)) → from_last_mark run ≡ Some from → mark_code module_mark from ≡ o
        → (let parts : Option (List ℕ × List ℕ × List ℕ) = Some (text, code, rest) in option_and_then (λ found. Some (encode_utf8_all (take (length run - length from) run), found.0, found.1)) o ≡ parts)
        → (before : List ℕ) × (text ≡ encode_utf8_all before) × HasLastMark run before code rest
    at_mark from (Some (k, r)) p q e =
        let n = last_mark_at run from p in
        let is_text : encode_utf8_all (take (length run - length from) run) ≡ text = ap first_of e in
        let is_code : k ≡ code = ap second_of e in
        let is_rest : r ≡ rest = ap third_of e in
        let found : (let parts : Option (List ℕ × List ℕ) = Some (code, rest) in mark_code module_mark from ≡ parts) = q ∙ (λ i. Some (is_code i, is_rest i)) in (
          n.before,
          sym is_text ∙ ap encode_utf8_all (take_front run n.before from n.whole),
          record {
            from = from;
            whole = n.whole;
            some = n.some;
            mark = mark_read module_mark from code rest found;
            last = λ front later c r w h. none_read module_mark later c r (n.last front later w h);
          },
        )
    at_mark from None p q e = cc

    go : (o : Option (List ℕ)) → from_last_mark run ≡ o
        → (let parts : Option (List ℕ × List ℕ × List ℕ) = Some (text, code, rest) in option_and_then (λ from. option_and_then (λ found. Some (encode_utf8_all (take (length run - length from) run), found.0, found.1)) (mark_code module_mark from)) o ≡ parts)
        → (before : List ℕ) × (text ≡ encode_utf8_all before) × HasLastMark run before code rest
    go (Some from) p e = at_mark from (mark_code module_mark from) p refl e
    go None p e = cc

-- the reader finds the last mark
module _ (run before code rest : List ℕ) (m : HasLastMark run before code rest) where
  found : (let parts : Option (List ℕ × List ℕ) = Some (code, rest) in mark_code module_mark m.from ≡ parts)
  found = mark_is_read module_mark m.from code rest m.mark

  same_place : (from : List ℕ) → LastAt run from → from ≡ m.from
  same_place from n = go (mark_code module_mark from) refl (cases_order (length before) (length n.before))
    where
      go : (o : Option (List ℕ × List ℕ)) → mark_code module_mark from ≡ o → (length before ≡ length n.before) ⊎ ((length before < length n.before) ⊎ (length n.before < length before)) → from ≡ m.from
      go o q (inl same) =
          sym (drop-append_seam n.before from) ∙ ap (drop (length n.before)) (sym n.whole) ∙ ap (λ k. drop k run) (sym same) ∙ ap (drop (length before)) m.whole ∙ drop-append_seam before m.from
      go (Some (c, r)) q (inr (inl less)) = absurd (m.last n.before from c r n.whole less (mark_read module_mark from c r q))
      go None q (inr (inl less)) = let here = n.here in absurd (let seen : is_some (mark_code module_mark from) ≡ false = ap is_some q in cc)
      go o q (inr (inr more)) = let none = n.last before m.from m.whole more in let some = found in absurd (cc)

  from_last : from_last_mark run ≡ Some m.from
  from_last = go (from_last_mark run) refl
    where
      go : (o : Option (List ℕ)) → from_last_mark run ≡ o → from_last_mark run ≡ Some m.from
      go (Some from) p = p ∙ ap (λ l. Some l) (same_place from (last_mark_at run from p))
      go None p = let none = no_mark_after run p before m.from m.whole m.some in let some = found in absurd (cc)

  pub split_is_read : (text : List ℕ) → text ≡ encode_utf8_all before → (let parts : Option (List ℕ × List ℕ × List ℕ) = Some (text, code, rest) in split_at_mark run ≡ parts)
  split_is_read text e =
      sym (a_split run m.from text code rest (sym from_last) (sym found) (e ∙ ap encode_utf8_all (sym (take_front run before m.from m.whole))))

-- ---- an override
pub override_read : (text module_name rest : List ℕ) → (let told : Option (List ℕ × List ℕ) = Some (module_name, rest) in override_at text ≡ told) → BeginsWithOverride text module_name rest
unfolding override_at
override_read text module_name rest e = go (mark_code override_mark text) refl e
  where
    at_name : (code r : List ℕ) (o : Option (List ℕ)) → (let found : Option (List ℕ × List ℕ) = Some (code, r) in mark_code override_mark text ≡ found) → decoded code ≡ o
        → (let told : Option (List ℕ × List ℕ) = Some (module_name, rest) in option_and_then (λ m. Some (m, r)) o ≡ told) → BeginsWithOverride text module_name rest
    at_name code r (Some m) p q e =
        let parts = some_pair_parts m module_name r rest e in
        let found : (let x : Option (List ℕ × List ℕ) = Some (code, rest) in mark_code override_mark text ≡ x) = p ∙ (λ i. Some (code, parts.1 i)) in
        record { code = code; mark = mark_read override_mark text code rest found; module_is = q ∙ ap (λ l. Some l) parts.0 }
    at_name code r None p q e = cc

    go : (o : Option (List ℕ × List ℕ)) → mark_code override_mark text ≡ o
        → (let told : Option (List ℕ × List ℕ) = Some (module_name, rest) in option_and_then (λ found. option_and_then (λ m. Some (m, found.1)) (decoded found.0)) o ≡ told) → BeginsWithOverride text module_name rest
    go (Some (code, r)) p e = at_name code r (decoded code) p refl e
    go None p e = cc

pub override_is_read : (text module_name rest : List ℕ) → BeginsWithOverride text module_name rest → (let told : Option (List ℕ × List ℕ) = Some (module_name, rest) in override_at text ≡ told)
override_is_read text module_name rest m = overriding_some text m.code rest module_name (sym (mark_is_read override_mark text m.code rest m.mark)) (sym m.module_is)
