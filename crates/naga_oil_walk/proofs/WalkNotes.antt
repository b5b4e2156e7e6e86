-- The notes give the positions of emitted ranges.
use Rattle.std.proofs.Common.{◌≡◌, ◌≢◌, ⊎_elim, ◌⊎◌, inl, inr, ℕ, zero, suc, ◌+◌, ◌-◌, ◌<◌, ◌≤◌, true, false, cond, ◌||◌, List, [], ◌∷◌, ◌++◌, length, slice_get, slice_set, Option, Some, None, is_none, nat_lt, refl, ap, sym, ◌∙◌, subst, arith, replicate}
use Rattle.std.specs.List.{flat_map}
use Rattle.std.specs.Option.{option_flatten}
use Rattle.std.proofs.lemmas.Bool.{cases_Bool, cases_eq, cases_lt, cond_both, or_left, or_right, false≢true, lt-ltb, le-ltb}
use Rattle.std.proofs.lemmas.List.{set_past, append-nil, append_assoc, length-append, length-set}
use Rattle.std.proofs.lemmas.Option.{none-some, same_Some}
use Rattle.naga_oil_ir.specs.Body.{Tokens}
use Rattle.naga_oil_ir.specs.declared.tokens.Token.{Token}
use Rattle.naga_oil_ir.specs.declared.tokens.Token.TheVariants.{Emitted}
use Rattle.naga_oil_form.specs.BodyForm.{run, places, AreEmitted, made, IsFine, AreFine}
use Rattle.naga_oil_form.specs.Links.{Links, linked, AreEarlier, has, added}
use Rattle.naga_oil_form.proofs.LinkLemmas.{has-append, slice_get-set_same, slice_get-set_other, eq_eqb}
use Rattle.naga_oil_walk.specs.Walk.{externals, others, brief, Notes, noted, notes_of, notes_after, StandsFrom, IsNoted, AreNoted, AreWithin}
use Rattle.naga_oil_walk.proofs.WalkLemmas.{added-append}
use Rattle.naga_oil_walk.proofs.WalkForm.{IsPlain, IsUnder, step, stand_range, under_externals, has_externals}

-- ---- orders grow at their ends

pub added-grows : (xs o : List ℕ) → (m : List ℕ) × (added o xs ≡ o ++ m)
added-grows [] o = ([], sym (append-nil o))
added-grows (x ∷ xs) o =
    let r = added-grows xs (cond (has o x) o (o ++ x ∷ [])) in
    ⊎_elim (λ h. (r.0, r.1 ∙ ap (λ b. cond b o (o ++ x ∷ []) ++ r.0) h)) (λ h. (x ∷ r.0, r.1 ∙ ap (λ b. cond b o (o ++ x ∷ []) ++ r.0) h ∙ append_assoc o (x ∷ []) r.0)) (cases_Bool (has o x))

pub added-longer : (xs o : List ℕ) → length o ≤ length (added o xs)
added-longer xs o = let r = added-grows xs o in let e : length (added o xs) ≡ length o + length r.0 = ap length r.1 ∙ length-append o r.0 in omega arith

-- ---- one more note

pub noted_at : (es : Notes) (r p : ℕ × ℕ) → r.0 < r.1 → r.0 < length es → slice_get (noted es r p) r.0 ≡ Some (Some p)
noted_at es r p h l = ap (λ b. slice_get (cond (b || is_none (option_flatten (slice_get es r.0))) (slice_set es r.0 (Some p)) es) r.0) (lt-ltb r.0 r.1 h) ∙ slice_get-set_same es r.0 (Some p) l

pub noted_stays : (es : Notes) (r p : ℕ × ℕ) (k : ℕ) (x : ℕ × ℕ) → slice_get es k ≡ Some (Some x) → (r.0 < r.1 → k ≢ r.0) → slice_get (noted es r p) k ≡ Some (Some x)
noted_stays es r p k x e f =
    let b = nat_lt r.0 r.1 || is_none (option_flatten (slice_get es r.0)) in
    ⊎_elim (λ q. let l : r.1 ≤ r.0 = ⊎_elim (λ h. absurd (f h q)) (λ h. h) (cases_lt r.0 r.1) in let same : slice_get es r.0 ≡ Some (Some x) = ap (slice_get es) (sym q) ∙ e in ap (λ v. slice_get (cond (v || is_none (option_flatten (slice_get es r.0))) (slice_set es r.0 (Some p)) es) k) (le-ltb r.0 r.1 l) ∙ ap (λ o. slice_get (cond (is_none (option_flatten o)) (slice_set es r.0 (Some p)) es) k) same ∙ e) (λ n. cond_both b (slice_set es r.0 (Some p)) es (λ v. slice_get v k ≡ Some (Some x)) (λ h. slice_get-set_other es r.0 k (Some p) n ∙ e) (λ h. e)) (cases_eq k r.0)

set_cases : (es : Notes) (j k : ℕ) (p x : ℕ × ℕ) → slice_get (slice_set es j (Some p)) k ≡ Some (Some x) → (slice_get es k ≡ Some (Some x)) ⊎ (p ≡ x)
set_cases es j k p x e =
    ⊎_elim (λ q. ⊎_elim (λ l. inr (same_Some p x (same_Some (Some p) (Some x) (sym (slice_get-set_same es j (Some p) l) ∙ ap (slice_get (slice_set es j (Some p))) (sym q) ∙ e)))) (λ l. inl (sym (ap (λ v. slice_get v k) (set_past es j (Some p) l)) ∙ e)) (cases_lt j (length es))) (λ n. inl (sym (slice_get-set_other es j k (Some p) n) ∙ e)) (cases_eq k j)

noted_cases : (es : Notes) (r p : ℕ × ℕ) (k : ℕ) (x : ℕ × ℕ) → slice_get (noted es r p) k ≡ Some (Some x) → (slice_get es k ≡ Some (Some x)) ⊎ (p ≡ x)
noted_cases es r p k x =
    cond_both (nat_lt r.0 r.1 || is_none (option_flatten (slice_get es r.0))) (slice_set es r.0 (Some p)) es (λ v. slice_get v k ≡ Some (Some x) → (slice_get es k ≡ Some (Some x)) ⊎ (p ≡ x)) (λ h e. set_cases es r.0 k p x e) (λ h e. inl e)

pub noted_long : (es : Notes) (r p : ℕ × ℕ) → length (noted es r p) ≡ length es
noted_long es r p = cond_both (nat_lt r.0 r.1 || is_none (option_flatten (slice_get es r.0))) (slice_set es r.0 (Some p)) es (λ v. length v ≡ length es) (λ h. length-set es r.0 (Some p)) (λ h. refl)

-- ---- what stays

-- the notes at places that were emitted before stay
abbrev pub Keeps : List ℕ → Notes → Notes → Type 0
Keeps d es fs = (k : ℕ) (x : ℕ × ℕ) → has d k ≡ true → slice_get es k ≡ Some (Some x) → slice_get fs k ≡ Some (Some x)

pub record NotesAt (s d o : List ℕ) (es fs : Notes) : Type 0 where
  pub within : AreWithin (length s) o fs
  pub long : length fs ≡ length es
  pub keeps : Keeps d es fs

first_place : (r : ℕ × ℕ) → r.0 < r.1 → places r ≡ r.0 ∷ run (suc r.0) (r.1 - suc r.0)
first_place r h = let e : r.1 - r.0 ≡ suc (r.1 - suc r.0) = omega arith in ap (run r.0) e

pub has_first : (d : List ℕ) (r : ℕ × ℕ) → r.0 < r.1 → has (d ++ places r) r.0 ≡ true
has_first d r h =
    has-append d (places r) r.0 ∙ or_right (has d r.0) (has (places r) r.0) (ap (λ xs. has xs r.0) (first_place r h) ∙ ap (λ b. b || has (run (suc r.0) (r.1 - suc r.0)) r.0) (eq_eqb r.0 r.0 refl))

emitted_fresh : (ks : List ℕ) (ls : Links) (s d ps : List ℕ) (k : ℕ) (qs : List ℕ) → ps ≡ k ∷ qs → AreEmitted ks ls s d ps → has d k ≡ false
emitted_fresh ks ls s d ps k qs e f = let g : AreEmitted ks ls s d (k ∷ qs) = subst (AreEmitted ks ls s d) e f in g.0.2

range_at : (s d o : List ℕ) (es : Notes) (r : ℕ × ℕ) (mid last : List ℕ) → length s ≤ length mid → length o ≤ length mid → length mid ≤ length last → AreWithin (length s) o es → (r.0 < r.1 → has d r.0 ≡ false) → NotesAt s d last es (noted es r (length mid, length last))
range_at s d o es r mid last h i j w f = record {
  within = λ k b e q. ⊎_elim (λ l. let v = w k b e l in let v1 = v.1 in let v2 = v.2 in (v.0, v1, omega arith)) (λ l. let lb : length mid ≡ b = ap (λ (p : ℕ × ℕ). p.0) l in let le : length last ≡ e = ap (λ (p : ℕ × ℕ). p.1) l in (omega arith, omega arith, omega arith)) (noted_cases es r (length mid, length last) k (b, e) q);
  long = noted_long es r (length mid, length last);
  keeps = λ k x i e. noted_stays es r (length mid, length last) k x e (λ l q. false≢true (sym (f l) ∙ subst (λ v. has d v ≡ true) q i));
}

-- ---- a part of a body

pub record TokenAt (ks : List ℕ) (ls : Links) (s d o : List ℕ) (es : Notes) (t : Token) : Type 0 where
  pub at : NotesAt s d (added o (brief ks ls t)) es (notes_of ks ls o es t)
  pub stands : IsNoted s (added o (brief ks ls t)) (notes_of ks ls o es t) t

nothing_at : (s d o : List ℕ) (es : Notes) → AreWithin (length s) o es → NotesAt s d o es es
nothing_at s d o es w = record { within = w; long = refl; keeps = λ k x h e. e }

grown_at : (s d o xs : List ℕ) (es fs : Notes) → NotesAt s d o es fs → NotesAt s d (added o xs) es fs
grown_at s d o xs es fs a = record {
  within = λ k b e q. let v = a.within k b e q in let v2 = v.2 in let l = added-longer xs o in (v.0, v.1, omega arith);
  long = a.long;
  keeps = a.keeps;
}

pub token_at : (ks : List ℕ) (ls : Links) → IsPlain ks ls → AreEarlier ls → (n : ℕ) (fs : List (Option ℕ)) (s d o : List ℕ) (es : Notes) (t : Token) → length s ≤ length o → IsUnder ks ls s d o → AreWithin (length s) o es → length es ≡ n → IsFine n ks fs ls s d t → TokenAt ks ls s d o es t
token_at ks ls p a n fs s d o es (Emitted r) l u w long f =
    let ps = places r in
    let xs = externals ks (flat_map (linked ls) ps) in
    let mid = added o xs in
    let last = added mid ps in
    let e : last ≡ added o (xs ++ ps) = sym (added-append o xs ps) in
    let m : last ≡ mid ++ others s ps = stand_range ks ls s ps d mid (under_externals ks ls p s d (flat_map (linked ls) ps) o u) f.2 (has_externals ks ls o ps) in
    let lm = added-longer xs o in
    let ll = added-longer ps mid in
    let le : length last ≡ length mid + length (others s ps) = ap length m ∙ length-append mid (others s ps) in
    let here : NotesAt s d last es (noted es r (length mid, length last)) = range_at s d o es r mid last (omega arith) lm ll w (λ h. emitted_fresh ks ls s d ps r.0 (run (suc r.0) (r.1 - suc r.0)) (first_place r h) f.2) in
    let stand : StandsFrom last (length mid) (length last) (others s ps) = record { before = mid; following = []; is = m ∙ sym (append-nil (mid ++ others s ps)); begins = refl; ends = le } in
    record {
      at = subst (λ q. NotesAt s d q es (noted es r (length mid, length last))) e here;
      stands = λ h. (length mid, length last, noted_at es r (length mid, length last) h (omega arith), subst (λ q. StandsFrom q (length mid) (length last) (others s ps)) e stand);
    }
token_at ks ls p a n fs s d o es t l u w long f = record { at = grown_at s d o (brief ks ls t) es es (nothing_at s d o es w); stands = tt }

-- the notes of a part of a body stay
noted-later : (s d o xs : List ℕ) (es fs : Notes) (t : Token) → ((r : ℕ × ℕ) → t ≡ Emitted r → r.0 < r.1 → has d r.0 ≡ true) → Keeps d es fs → IsNoted s o es t → IsNoted s (added o xs) fs t
noted-later s d o xs es fs (Emitted r) f k w =
    λ h. let v = w h in let g = added-grows xs o in let st = v.3 in
    (v.0, v.1, k r.0 (v.0, v.1) (f r refl h) v.2, record { before = st.before; following = st.following ++ g.0; is = g.1 ∙ ap (λ q. q ++ g.0) st.is ∙ append_assoc (st.before ++ others s (places r)) st.following g.0; begins = st.begins; ends = st.ends })
noted-later s d o xs es fs _ f k w = tt

-- ---- the whole body

pub record BodyAt (ks : List ℕ) (ls : Links) (s d o : List ℕ) (es : Notes) (ts : Tokens) : Type 0 where
  pub at : NotesAt s d (added o (flat_map (brief ks ls) ts)) es (notes_after ks ls o es ts)
  pub stand : AreNoted s (added o (flat_map (brief ks ls) ts)) (notes_after ks ls o es ts) ts

pub body_at : (ks : List ℕ) (ls : Links) → IsPlain ks ls → AreEarlier ls → (n : ℕ) (fs : List (Option ℕ)) (s : List ℕ) (ts : Tokens) (d o : List ℕ) (es : Notes) → length s ≤ length o → IsUnder ks ls s d o → AreWithin (length s) o es → length es ≡ n → AreFine n ks fs ls s d ts → BodyAt ks ls s d o es ts
body_at ks ls p a n fs s [] d o es l u w long f = record { at = nothing_at s d o es w; stand = tt }
body_at ks ls p a n fs s (t ∷ ts) d o es l u w long f =
    let h = step ks ls p a n fs s d o t u f.0 in
    let v = token_at ks ls p a n fs s d o es t l u w long f.0 in
    let o1 = added o (brief ks ls t) in
    let es1 = notes_of ks ls o es t in
    let lo = added-longer (brief ks ls t) o in
    let r = body_at ks ls p a n fs s ts (d ++ made t) o1 es1 (omega arith) h.under v.at.within (v.at.long ∙ long) f.1 in
    let here : IsNoted s (added o1 (flat_map (brief ks ls) ts)) (notes_after ks ls o1 es1 ts) t = noted-later s (d ++ made t) o1 (flat_map (brief ks ls) ts) es1 (notes_after ks ls o1 es1 ts) t (λ q e i. subst (λ x. has (d ++ made x) q.0 ≡ true) (sym e) (has_first d q i)) r.at.keeps v.stands in
    let e : added o1 (flat_map (brief ks ls) ts) ≡ added o (brief ks ls t ++ flat_map (brief ks ls) ts) = sym (added-append o (brief ks ls t) (flat_map (brief ks ls) ts)) in
    record {
      at = record {
        within = subst (λ q. AreWithin (length s) q (notes_after ks ls o1 es1 ts)) e r.at.within;
        long = r.at.long ∙ v.at.long;
        keeps = λ k x i j. r.at.keeps k x (has-append d (made t) k ∙ or_left (has d k) (has (made t) k) i) (v.at.keeps k x i j);
      };
      stand = subst (λ q. IsNoted s q (notes_after ks ls o1 es1 ts) t × AreNoted s q (notes_after ks ls o1 es1 ts) ts) e (here, r.stand);
    }

none_there : (n k : ℕ) (x : ℕ × ℕ) → ◌≡◌ {A = Option (Option (ℕ × ℕ))} (slice_get (replicate n None) k) (Some (Some x)) → ⊥
none_there zero k x h = none-some (Some x) h
none_there (suc n) zero x h = none-some x (same_Some None (Some x) h)
none_there (suc n) (suc k) x h = none_there n k x h

-- no notes
pub no_notes : (n m : ℕ) (o : List ℕ) (es : Notes) → es ≡ replicate n None → AreWithin m o es
no_notes n m o es e = λ k b f h. absurd (none_there n k (b, f) (sym (ap (λ q. slice_get q k) e) ∙ h))
