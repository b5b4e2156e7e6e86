-- Runs, words and white space at the front, by the readers and by the grammar.
use Rattle.std.proofs.Common.{◌≡◌, ◌≢◌, ℕ, suc, ◌+◌, ◌==◌, Bool, true, false, cond, Option, Some, None, List, [], ◌∷◌, ◌++◌, length, take, drop, refl, sym, ap, ◌∙◌, subst, arith, option_and_then}
use borrow.Author.Tests.{ne_eqb}
use Rattle.std.specs.List.{prefix_len, list_all}
use Rattle.std.specs.Char.{is_whitespace}
use Rattle.std.specs.Str.{encode_utf8_all}
use Rattle.std.proofs.Math.Seq.{take-append_seam, drop-append_seam}
use Rattle.std.proofs.lemmas.Bool.{and_parts}
use Rattle.std.proofs.lemmas.List.{take-append-drop}
use Rattle.std.proofs.lemmas.List.Folds.{length-prefix_len}
use Rattle.naga_oil_lines.proofs.TextLemmas.{after_run_pass}
use Rattle.naga_oil_conditions.specs.LineKinds.{run, past_run, text_at, after_white, past_white}
use Rattle.naga_oil_conditions.specs.LineGrammar.{starts_in, IsRun, IsWord, IsAfterWhite, IsAfterGap}

-- ---- options
pub some_is : {A : Type 0} (x y : A) → Some x ≡ Some y → x ≡ y
some_is x y e = ap (λ o. elim o [ Some z ↦ z | None ↦ x ]) e

pub bind_some : {A B : Type 0} (o : Option A) (f : A → Option B) (y : B) → option_and_then f o ≡ Some y → (x : A) × (o ≡ Some x) × (f x ≡ Some y)
bind_some None f y e = cc
bind_some (Some x) f y e = (x, refl, e)

-- ---- runs
module _ (p : ℕ → Bool) where
  run_len : (r rest : List ℕ) → list_all p r ≡ true → starts_in p rest ≡ false → prefix_len p (r ++ rest) ≡ length r
  run_len [] [] inside stops = refl
  run_len [] (c ∷ cs) inside stops = ap (λ b. cond b (1 + prefix_len p cs) 0) stops
  run_len (c ∷ r) rest inside stops =
      let h : (p c ≡ true) × (list_all p r ≡ true) = and_parts (p c) (list_all p r) inside in
      let more = run_len r rest h.1 stops in
      ap (λ b. cond b (1 + prefix_len p (r ++ rest)) 0) h.0 ∙ omega (arith, more)

  pub run-only : (cs r rest : List ℕ) → IsRun p cs r rest → (r ≡ run p cs) × (rest ≡ past_run p cs)
  run-only cs r rest h =
      let n : prefix_len p cs ≡ length r = ap (prefix_len p) h.whole ∙ run_len r rest h.inside h.stops in
      let front : take (prefix_len p cs) cs ≡ take (length r) (r ++ rest) = λ i. take (n i) (h.whole i) in
      let back : drop (prefix_len p cs) cs ≡ drop (length r) (r ++ rest) = λ i. drop (n i) (h.whole i) in
      (sym (front ∙ take-append_seam r rest), sym (back ∙ drop-append_seam r rest))

  run_inside : (cs : List ℕ) → list_all p (run p cs) ≡ true
  run_inside [] = refl
  run_inside (c ∷ cs) =
      elim (p c) as (λ b. p c ≡ b → list_all p (take (cond b (1 + prefix_len p cs) 0) (c ∷ cs)) ≡ true) [
        | true ↦ λ e. let one : 1 + prefix_len p cs ≡ suc (prefix_len p cs) = omega arith in rw (one, e) (run_inside cs)
        | false ↦ λ e. refl
      ] refl

  run_stops : (cs : List ℕ) → starts_in p (past_run p cs) ≡ false
  run_stops [] = refl
  run_stops (c ∷ cs) =
      elim (p c) as (λ b. p c ≡ b → starts_in p (drop (cond b (1 + prefix_len p cs) 0) (c ∷ cs)) ≡ false) [
        | true ↦ λ e. let one : 1 + prefix_len p cs ≡ suc (prefix_len p cs) = omega arith in rw one (run_stops cs)
        | false ↦ λ e. e
      ] refl

  pub run-is : (cs : List ℕ) → IsRun p cs (run p cs) (past_run p cs)
  run-is cs = record { whole = sym (take-append-drop (prefix_len p cs) cs); inside = run_inside cs; stops = run_stops cs }

  pub run-more : (c : ℕ) (cs r rest : List ℕ) → p c ≡ true → IsRun p cs r rest → IsRun p (c ∷ cs) (c ∷ r) rest
  run-more c cs r rest e h = record { whole = ap (λ l. c ∷ l) h.whole; inside = rw e h.inside; stops = h.stops }

  -- ---- words
  pub word-reads : (cs text rest : List ℕ) → IsWord p cs text rest → (text_at p cs ≡ Some text) × (rest ≡ past_run p cs)
  unfolding text_at
  word-reads cs text rest h =
      let u = run-only cs (h.first ∷ h.more) rest h.run in
      let size = ap length u.0 in
      let n : prefix_len p cs ≢ 0 = λ z. omega (arith, size, length-prefix_len p cs, z) in
      (rw (ne_eqb (prefix_len p cs) 0 n) (ap Some (ap encode_utf8_all (sym u.0) ∙ sym h.spelled)), u.1)

  word_from : (cs r rest text : List ℕ) → IsRun p cs r rest → length r ≢ 0 → text ≡ encode_utf8_all r → IsWord p cs text rest
  word_from cs [] rest text h n e = absurd (n refl)
  word_from cs (c ∷ r) rest text h n e = record { first = c; more = r; run = h; spelled = e }

  pub word-is : (cs text : List ℕ) → text_at p cs ≡ Some text → IsWord p cs text (past_run p cs)
  unfolding text_at
  word-is cs text =
      elim (prefix_len p cs == 0) as (λ b. (prefix_len p cs == 0) ≡ b → cond b None (Some (encode_utf8_all (run p cs))) ≡ Some text → IsWord p cs text (past_run p cs)) [
        | true ↦ λ z q. cc
        | false ↦ λ z q.
            let n : length (run p cs) ≢ 0 = λ none. grind (arith, z, none, length-prefix_len p cs) in
            word_from cs (run p cs) (past_run p cs) text (run-is cs) n (sym (some_is _ _ q))
      ] refl

  pub wordless-reads : (cs : List ℕ) → starts_in p cs ≡ false → text_at p cs ≡ None
  unfolding text_at
  wordless-reads [] e = refl
  wordless-reads (c ∷ cs) e = rw e refl

  pub wordless-is : (cs : List ℕ) → text_at p cs ≡ None → starts_in p cs ≡ false
  unfolding text_at
  wordless-is [] e = refl
  wordless-is (c ∷ cs) e =
      elim (p c) as (λ b. (let n : ℕ = cond b (1 + prefix_len p cs) 0 in cond (n == 0) None (Some (encode_utf8_all (take n (c ∷ cs)))) ≡ None → b ≡ false)) [
        | true ↦ λ q. let n : 1 + prefix_len p cs ≢ 0 = λ z. omega (arith, z) in let r = rw (ne_eqb (1 + prefix_len p cs) 0 n) at q in cc
        | false ↦ λ q. refl
      ] e

-- ---- white space
pub white-only : (cs rest : List ℕ) → IsAfterWhite cs rest → rest ≡ after_white cs
white-only cs rest h = (run-only is_whitespace cs h.0 rest h.1).1

pub white-is : (cs : List ℕ) → IsAfterWhite cs (after_white cs)
white-is cs = (run is_whitespace cs, run-is is_whitespace cs)

pub gap-reads : (cs rest : List ℕ) → IsAfterGap cs rest → past_white cs ≡ Some rest
unfolding past_white
gap-reads [] rest h = let e = h.2.whole in cc
gap-reads (d ∷ cs) rest h =
    let same : d ≡ h.0 = ap (λ l. elim l [ [] ↦ d | x ∷ xs ↦ x ]) h.2.whole in
    let white : is_whitespace d ≡ true = ap is_whitespace same ∙ (and_parts (is_whitespace h.0) (list_all is_whitespace h.1) h.2.inside).0 in
    let back : rest ≡ after_white (d ∷ cs) = (run-only is_whitespace (d ∷ cs) (h.0 ∷ h.1) rest h.2).1 in
    rw white (ap Some (sym (back ∙ after_run_pass is_whitespace d cs white)))

pub gap-is : (cs rest : List ℕ) → past_white cs ≡ Some rest → IsAfterGap cs rest
unfolding past_white
gap-is [] rest e = cc
gap-is (d ∷ cs) rest full =
    elim (is_whitespace d) as (λ b. is_whitespace d ≡ b → cond b (Some (after_white cs)) None ≡ Some rest → IsAfterGap (d ∷ cs) rest) [
      | true ↦ λ e q. (d, run is_whitespace cs, subst (IsRun is_whitespace (d ∷ cs) (d ∷ run is_whitespace cs)) (some_is _ _ q) (run-more is_whitespace d cs _ _ e (run-is is_whitespace cs)))
      | false ↦ λ e q. cc
    ] refl full
