-- For a body that passes the test of form the brief listing gives the order of first reach.
use Rattle.std.proofs.Common.{◌≡◌, ⊎_elim, ◌⊎◌, inl, inr, ℕ, Bool, true, false, cond, ◌||◌, ◌==◌, not, List, [], ◌∷◌, ◌++◌, Option, All, refl, ap, sym, ◌∙◌, subst}
use Rattle.std.specs.List.{flat_map}
use Rattle.std.proofs.lemmas.Bool.{cases_Bool, or_cases, or_left, or_right, false≢true, false_from_ne_true}
use Rattle.std.proofs.lemmas.List.{append-nil, append_assoc}
use Rattle.std.proofs.lemmas.List.Elements.{filter-append}
use Rattle.naga_oil_ir.specs.Body.{Tokens}
use Rattle.naga_oil_ir.specs.declared.tokens.Token.{Token}
use Rattle.naga_oil_ir.specs.declared.tokens.Token.TheVariants.{Use, Give, GiveCall, Emitted}
use Rattle.naga_oil_form.specs.BodyForm.{places, is_external, is_result, is_known, AreEmitted, made, IsFine, AreFine}
use Rattle.naga_oil_form.specs.Links.{Links, linked, AreEarlier, trail, has, added}
use Rattle.naga_oil_form.proofs.LinkLemmas.{has-append, has-added, only, itself, trail-step, All-has}
use Rattle.naga_oil_walk.specs.Walk.{IsReachOrder, Holds, externals, others, listed, brief}
use Rattle.naga_oil_walk.proofs.WalkLemmas.{added-append, added-known, added-keeps, added-holds, added-externals, IsReachOrder-add, trail_in}

-- external expressions and results name nothing
pub record IsPlain (ks : List ℕ) (ls : Links) : Type 0 where
  pub externals_name : (k : ℕ) → is_external ks k ≡ true → linked ls k ≡ []
  pub results_name : (k : ℕ) → is_result ks k ≡ true → linked ls k ≡ []

-- where a walk of a body stands: s is what the initialisers reach, d what was emitted or given, o the order so far
pub record IsUnder (ks : List ℕ) (ls : Links) (s d o : List ℕ) : Type 0 where
  pub began : Holds o s
  pub kept : Holds o d
  pub only_known : (k : ℕ) → has o k ≡ true → is_known ks s d k ≡ true
  pub ready : IsReachOrder ls o

-- ---- known places

pub known_cases : (ks s d : List ℕ) (x : ℕ) → is_known ks s d x ≡ true → (is_external ks x ≡ true) ⊎ ((has s x ≡ true) ⊎ (has d x ≡ true))
known_cases ks s d x h = ⊎_elim (λ l. inl l) (λ r. inr (or_cases (has s x) (has d x) r)) (or_cases (is_external ks x) (has s x || has d x) h)

known_external : (ks s d : List ℕ) (x : ℕ) → is_external ks x ≡ true → is_known ks s d x ≡ true
known_external ks s d x h = or_left (is_external ks x) (has s x || has d x) h

known_began : (ks s d : List ℕ) (x : ℕ) → has s x ≡ true → is_known ks s d x ≡ true
known_began ks s d x h = or_right (is_external ks x) (has s x || has d x) (or_left (has s x) (has d x) h)

known_done : (ks s d : List ℕ) (x : ℕ) → has d x ≡ true → is_known ks s d x ≡ true
known_done ks s d x h = or_right (is_external ks x) (has s x || has d x) (or_right (has s x) (has d x) h)

known_more : (ks s d e : List ℕ) (x : ℕ) → Holds e d → is_known ks s d x ≡ true → is_known ks s e x ≡ true
known_more ks s d e x f h = ⊎_elim (λ l. known_external ks s e x l) (λ r. ⊎_elim (λ l. known_began ks s e x l) (λ q. known_done ks s e x (f x q)) r) (known_cases ks s d x h)

pub has_last : (d : List ℕ) (k x : ℕ) → has (d ++ k ∷ []) x ≡ true → (has d x ≡ true) ⊎ (k ≡ x)
has_last d k x h = ⊎_elim (λ l. inl l) (λ r. inr (only k x r)) (or_cases (has d x) (has (k ∷ []) x) (sym (has-append d (k ∷ []) x) ∙ h))

known_last : (ks s d : List ℕ) (k x : ℕ) → is_known ks s (d ++ k ∷ []) x ≡ true → (is_known ks s d x ≡ true) ⊎ (k ≡ x)
known_last ks s d k x h =
    ⊎_elim (λ l. inl (known_external ks s d x l)) (λ r. ⊎_elim (λ l. inl (known_began ks s d x l)) (λ q. ⊎_elim (λ l. inl (known_done ks s d x l)) (λ m. inr m) (has_last d k x q)) r) (known_cases ks s (d ++ k ∷ []) x h)

keeps_left : (d e : List ℕ) → Holds (d ++ e) d
keeps_left d e = λ x h. has-append d e x ∙ or_left (has d x) (has e x) h

-- ---- one more place

under_add : (ks : List ℕ) (ls : Links) (s d e o : List ℕ) (k : ℕ) → IsUnder ks ls s d o → Holds o (linked ls k) → Holds e d → ((j : ℕ) → has e j ≡ true → (has d j ≡ true) ⊎ (k ≡ j)) → is_known ks s e k ≡ true → IsUnder ks ls s e (added o (k ∷ []))
under_add ks ls s d e o k u w f g h = record {
  began = λ x i. added-keeps o (k ∷ []) x (u.began x i);
  kept = λ x i. ⊎_elim (λ l. added-keeps o (k ∷ []) x (u.kept x l)) (λ m. subst (λ v. has (added o (k ∷ [])) v ≡ true) m (added-holds o (k ∷ []) k (itself k))) (g x i);
  only_known = λ x i. ⊎_elim (λ l. known_more ks s d e x f (u.only_known x l)) (λ r. subst (λ v. is_known ks s e v ≡ true) (only k x r) h) (or_cases (has o x) (has (k ∷ []) x) (sym (has-added o (k ∷ []) x) ∙ i));
  ready = IsReachOrder-add ls o k u.ready w;
}

pub under_external : (ks : List ℕ) (ls : Links) → IsPlain ks ls → (s d o : List ℕ) (k : ℕ) → IsUnder ks ls s d o → is_external ks k ≡ true → IsUnder ks ls s d (added o (k ∷ []))
under_external ks ls p s d o k u h =
    under_add ks ls s d d o k u (λ x i. absurd (false≢true (ap (λ ys. has ys x) (sym (p.externals_name k h)) ∙ i))) (λ x i. i) (λ j i. inl i) (known_external ks s d k h)

pub under_made : (ks : List ℕ) (ls : Links) (s d o : List ℕ) (k : ℕ) → IsUnder ks ls s d o → Holds o (linked ls k) → IsUnder ks ls s (d ++ k ∷ []) (added o (k ∷ []))
under_made ks ls s d o k u w =
    under_add ks ls s d (d ++ k ∷ []) o k u w (keeps_left d (k ∷ [])) (λ j i. has_last d k j i) (known_done ks s (d ++ k ∷ []) k (has-append d (k ∷ []) k ∙ or_right (has d k) (has (k ∷ []) k) (itself k)))

externals_yes : (ks : List ℕ) (x : ℕ) (xs : List ℕ) → is_external ks x ≡ true → externals ks (x ∷ xs) ≡ x ∷ externals ks xs
externals_yes ks x xs h = ap (λ b. cond b (x ∷ externals ks xs) (externals ks xs)) h

externals_no : (ks : List ℕ) (x : ℕ) (xs : List ℕ) → is_external ks x ≡ false → externals ks (x ∷ xs) ≡ externals ks xs
externals_no ks x xs h = ap (λ b. cond b (x ∷ externals ks xs) (externals ks xs)) h

pub under_externals : (ks : List ℕ) (ls : Links) → IsPlain ks ls → (s d xs o : List ℕ) → IsUnder ks ls s d o → IsUnder ks ls s d (added o (externals ks xs))
under_externals ks ls p s d [] o u = u
under_externals ks ls p s d (x ∷ xs) o u =
    ⊎_elim (λ h. rw (externals_yes ks x xs h) (under_externals ks ls p s d xs (added o (x ∷ [])) (under_external ks ls p s d o x u h))) (λ h. rw (externals_no ks x xs h) (under_externals ks ls p s d xs o u)) (cases_Bool (is_external ks x))

-- ---- a range

-- the external operands of places are in the order
abbrev pub HasExternals : List ℕ → Links → List ℕ → List ℕ → Type 0
HasExternals ks ls o ps = (x : ℕ) → has (flat_map (linked ls) ps) x ≡ true → is_external ks x ≡ true → has o x ≡ true

has-externals : (ks xs : List ℕ) (x : ℕ) → has xs x ≡ true → is_external ks x ≡ true → has (externals ks xs) x ≡ true
has-externals ks [] x h e = h
has-externals ks (y ∷ xs) x h e =
    ⊎_elim (λ q. let z : y ≡ x = only y x (or_left (y == x) false q) in rw (externals_yes ks y xs (subst (λ v. is_external ks v ≡ true) (sym z) e)) (or_left (y == x) (has (externals ks xs) x) q)) (λ q. ⊎_elim (λ f. rw (externals_yes ks y xs f) (or_right (y == x) (has (externals ks xs) x) (has-externals ks xs x q e))) (λ f. rw (externals_no ks y xs f) (has-externals ks xs x q e)) (cases_Bool (is_external ks y))) (or_cases (y == x) (has xs x) h)

pub has_externals : (ks : List ℕ) (ls : Links) (o ps : List ℕ) → HasExternals ks ls (added o (externals ks (flat_map (linked ls) ps))) ps
has_externals ks ls o ps x h e = added-holds o (externals ks (flat_map (linked ls) ps)) x (has-externals ks (flat_map (linked ls) ps) x h e)

rest_externals : (ks : List ℕ) (ls : Links) (o : List ℕ) (k : ℕ) (ps : List ℕ) → HasExternals ks ls o (k ∷ ps) → HasExternals ks ls (added o (k ∷ [])) ps
rest_externals ks ls o k ps w x h e =
    added-keeps o (k ∷ []) x (w x (has-append (linked ls k) (flat_map (linked ls) ps) x ∙ or_right (has (linked ls k) x) (has (flat_map (linked ls) ps) x) h) e)

-- the operands of a place are in the order
operands_there : (ks : List ℕ) (ls : Links) (s d o : List ℕ) (k : ℕ) (ps : List ℕ) → IsUnder ks ls s d o → All (λ h. is_known ks s d h ≡ true) (linked ls k) → HasExternals ks ls o (k ∷ ps) → Holds o (linked ls k)
operands_there ks ls s d o k ps u a w x h =
    ⊎_elim (λ e. w x (has-append (linked ls k) (flat_map (linked ls) ps) x ∙ or_left (has (linked ls k) x) (has (flat_map (linked ls) ps) x) h) e) (λ r. ⊎_elim (λ l. u.began x l) (λ q. u.kept x q) r) (known_cases ks s d x (All-has (λ h. is_known ks s d h ≡ true) (linked ls k) x a h))

pub under_range : (ks : List ℕ) (ls : Links) (s ps d o : List ℕ) → IsUnder ks ls s d o → AreEmitted ks ls s d ps → HasExternals ks ls o ps → IsUnder ks ls s (d ++ ps) (added o ps)
under_range ks ls s [] d o u f w = subst (λ e. IsUnder ks ls s e o) (sym (append-nil d)) u
under_range ks ls s (k ∷ ps) d o u f w =
    let here = under_made ks ls s d o k u (operands_there ks ls s d o k ps u f.0.3 w) in
    subst (λ e. IsUnder ks ls s e (added o (k ∷ ps))) (append_assoc d (k ∷ []) ps) (under_range ks ls s ps (d ++ k ∷ []) (added o (k ∷ [])) here f.1 (rest_externals ks ls o k ps w))

-- an emitted place that is in the order already is reached from an initialiser
began_only : (ks : List ℕ) (ls : Links) (s d o : List ℕ) (k : ℕ) → IsUnder ks ls s d o → is_external ks k ≡ false → has d k ≡ false → has s k ≡ false → has o k ≡ false
began_only ks ls s d o k u x n m =
    false_from_ne_true (has o k) (λ h. ⊎_elim (λ l. false≢true (sym x ∙ l)) (λ r. ⊎_elim (λ l. false≢true (sym m ∙ l)) (λ q. false≢true (sym n ∙ q)) r) (known_cases ks s d k (u.only_known k h)))

added_one_known : (o : List ℕ) (k : ℕ) → has o k ≡ true → added o (k ∷ []) ≡ o
added_one_known o k h = ap (λ b. cond b o (o ++ k ∷ [])) h

added_one_fresh : (o : List ℕ) (k : ℕ) → has o k ≡ false → added o (k ∷ []) ≡ o ++ k ∷ []
added_one_fresh o k h = ap (λ b. cond b o (o ++ k ∷ [])) h

others_known : (s ps : List ℕ) (k : ℕ) → has s k ≡ true → others s (k ∷ ps) ≡ others s ps
others_known s ps k h = ap (λ b. cond (not b) (k ∷ others s ps) (others s ps)) h

others_fresh : (s ps : List ℕ) (k : ℕ) → has s k ≡ false → others s (k ∷ ps) ≡ k ∷ others s ps
others_fresh s ps k h = ap (λ b. cond (not b) (k ∷ others s ps) (others s ps)) h

-- an emitted range comes last, without the places that initialisers reach
pub stand_range : (ks : List ℕ) (ls : Links) (s ps d o : List ℕ) → IsUnder ks ls s d o → AreEmitted ks ls s d ps → HasExternals ks ls o ps → added o ps ≡ o ++ others s ps
stand_range ks ls s [] d o u f w = sym (append-nil o)
stand_range ks ls s (k ∷ ps) d o u f w =
    let here = under_made ks ls s d o k u (operands_there ks ls s d o k ps u f.0.3 w) in
    stand_range ks ls s ps (d ++ k ∷ []) (added o (k ∷ [])) here f.1 (rest_externals ks ls o k ps w) ∙ ⊎_elim (λ h. ap (λ p. p ++ others s ps) (added_one_known o k (u.began k h)) ∙ ap (λ p. o ++ p) (sym (others_known s ps k h))) (λ h. ap (λ p. p ++ others s ps) (added_one_fresh o k (began_only ks ls s d o k u f.0.0 f.0.2 h)) ∙ append_assoc o (k ∷ []) (others s ps) ∙ ap (λ p. o ++ p) (sym (others_fresh s ps k h))) (cases_Bool (has s k))

-- ---- the externals that a range reaches are those that its places name

-- a known place is external, or the external places that it reaches are in the order
abbrev pub Covers : List ℕ → Links → List ℕ → List ℕ → List ℕ → Type 0
Covers ks ls s d o = (x : ℕ) → is_known ks s d x ≡ true → (is_external ks x ≡ true) ⊎ Holds o (externals ks (trail ls x))

pub externals_in : (ks xs : List ℕ) (x : ℕ) → has (externals ks xs) x ≡ true → has xs x ≡ true
externals_in ks [] x h = h
externals_in ks (y ∷ xs) x h =
    ⊎_elim (λ f. ⊎_elim (λ q. or_left (y == x) (has xs x) q) (λ q. or_right (y == x) (has xs x) (externals_in ks xs x q)) (or_cases (y == x) (has (externals ks xs) x) (sym (ap (λ ys. has ys x) (externals_yes ks y xs f)) ∙ h))) (λ f. or_right (y == x) (has xs x) (externals_in ks xs x (sym (ap (λ ys. has ys x) (externals_no ks y xs f)) ∙ h))) (cases_Bool (is_external ks y))

pub covers_under : (ks : List ℕ) (ls : Links) (s d o : List ℕ) → IsUnder ks ls s d o → Covers ks ls s d o
covers_under ks ls s d o u x h =
    ⊎_elim (λ l. inl l) (λ r. inr (λ y i. trail_in ls o u.ready x (⊎_elim (λ l. u.began x l) (λ q. u.kept x q) r) y (externals_in ks (trail ls x) y i))) (known_cases ks s d x h)

trail_alone : (ls : Links) → AreEarlier ls → (x : ℕ) → linked ls x ≡ [] → trail ls x ≡ x ∷ []
trail_alone ls a x h = trail-step ls a x ∙ ap (λ xs. flat_map (trail ls) xs ++ x ∷ []) h

or_false_left : (b : Bool) → (b || false) ≡ true → b ≡ true
or_false_left true h = h
or_false_left false h = h

-- the places that places reach add no more than the places
same_operands : (ks : List ℕ) (ls : Links) → IsPlain ks ls → AreEarlier ls → (s d xs o : List ℕ) → Covers ks ls s d o → ((x : ℕ) → has xs x ≡ true → is_known ks s d x ≡ true) → added o (externals ks (flat_map (trail ls) xs)) ≡ added o (externals ks xs)
same_operands ks ls p a s d [] o c h = refl
same_operands ks ls p a s d (x ∷ xs) o c h =
    let rest = λ (q : List ℕ) (e : Covers ks ls s d q). same_operands ks ls p a s d xs q e (λ y i. h y (or_right (x == y) (has xs y) i)) in
    let more : Covers ks ls s d (added o (x ∷ [])) = λ y i. ⊎_elim (λ l. inl l) (λ w. inr (λ z j. added-keeps o (x ∷ []) z (w z j))) (c y i) in
    let yes = λ (e : is_external ks x ≡ true). ap (λ t. added o (externals ks (t ++ flat_map (trail ls) xs))) (trail_alone ls a x (p.externals_name x e)) ∙ ap (added o) (externals_yes ks x (flat_map (trail ls) xs) e) ∙ rest (added o (x ∷ [])) more ∙ sym (ap (added o) (externals_yes ks x xs e)) in
    let no_ = λ (e : is_external ks x ≡ false) (w : Holds o (externals ks (trail ls x))). sym (added-externals ks o (trail ls x) (flat_map (trail ls) xs)) ∙ ap (λ q. added q (externals ks (flat_map (trail ls) xs))) (added-known o (externals ks (trail ls x)) w) ∙ rest o c ∙ sym (ap (added o) (externals_no ks x xs e)) in
    ⊎_elim yes (λ e. ⊎_elim (λ l. absurd (false≢true (sym e ∙ l))) (no_ e) (c x (h x (or_left (x == x) (has xs x) (or_false_left (x == x) (itself x)))))) (cases_Bool (is_external ks x))

-- the externals that a place reaches are those that its links reach
trail_externals : (ks : List ℕ) (ls : Links) → AreEarlier ls → (k : ℕ) → is_external ks k ≡ false → externals ks (trail ls k) ≡ externals ks (flat_map (trail ls) (linked ls k))
trail_externals ks ls a k h =
    ap (externals ks) (trail-step ls a k) ∙ filter-append (is_external ks) (flat_map (trail ls) (linked ls k)) (k ∷ []) ∙ ap (λ ys. externals ks (flat_map (trail ls) (linked ls k)) ++ ys) (externals_no ks k [] h) ∙ append-nil (externals ks (flat_map (trail ls) (linked ls k)))

covers_step : (ks : List ℕ) (ls : Links) → IsPlain ks ls → AreEarlier ls → (s d o : List ℕ) (k : ℕ) → Covers ks ls s d o → is_external ks k ≡ false → ((x : ℕ) → has (linked ls k) x ≡ true → is_known ks s d x ≡ true) → Covers ks ls s (d ++ k ∷ []) (added o (externals ks (linked ls k)))
covers_step ks ls p a s d o k c n h x i =
    let q = added o (externals ks (linked ls k)) in
    let e : q ≡ added o (externals ks (trail ls k)) = sym (same_operands ks ls p a s d (linked ls k) o c h) ∙ ap (added o) (sym (trail_externals ks ls a k n)) in
    let here : Holds q (externals ks (trail ls k)) = subst (λ t. Holds t (externals ks (trail ls k))) (sym e) (added-holds o (externals ks (trail ls k))) in
    ⊎_elim (λ l. ⊎_elim (λ y. inl y) (λ w. inr (λ z j. added-keeps o (externals ks (linked ls k)) z (w z j))) (c x l)) (λ m. inr (subst (λ v. Holds q (externals ks (trail ls v))) m here)) (known_last ks s d k x i)

pub same_externals : (ks : List ℕ) (ls : Links) → IsPlain ks ls → AreEarlier ls → (s ps d o : List ℕ) → Covers ks ls s d o → AreEmitted ks ls s d ps → added o (externals ks (flat_map (trail ls) ps)) ≡ added o (externals ks (flat_map (linked ls) ps))
same_externals ks ls p a s [] d o c f = refl
same_externals ks ls p a s (k ∷ ps) d o c f =
    let known = λ (x : ℕ) (i : has (linked ls k) x ≡ true). All-has (λ h. is_known ks s d h ≡ true) (linked ls k) x f.0.3 i in
    let q = added o (externals ks (linked ls k)) in
    let first : added o (externals ks (trail ls k)) ≡ q = ap (added o) (trail_externals ks ls a k f.0.0) ∙ same_operands ks ls p a s d (linked ls k) o c known in
    let rest = same_externals ks ls p a s ps (d ++ k ∷ []) q (covers_step ks ls p a s d o k c f.0.0 known) f.1 in
    sym (added-externals ks o (trail ls k) (flat_map (trail ls) ps)) ∙ ap (λ t. added t (externals ks (flat_map (trail ls) ps))) first ∙ rest ∙ added-externals ks o (linked ls k) (flat_map (linked ls) ps)

-- ---- a part of a body

-- a part of a body adds what it lists, and the walk goes on after it
pub record Steps (ks : List ℕ) (ls : Links) (s d o : List ℕ) (t : Token) : Type 0 where
  pub same : added o (brief ks ls t) ≡ added o (listed ks ls t)
  pub under : IsUnder ks ls s (d ++ made t) (added o (brief ks ls t))

same_done : (ks : List ℕ) (ls : Links) (s d o : List ℕ) → IsUnder ks ls s d o → IsUnder ks ls s (d ++ []) o
same_done ks ls s d o u = subst (λ e. IsUnder ks ls s e o) (sym (append-nil d)) u

use_step : (ks : List ℕ) (ls : Links) → IsPlain ks ls → AreEarlier ls → (s d o : List ℕ) (h : ℕ) → IsUnder ks ls s d o → (is_external ks h ≡ true) ⊎ (has o h ≡ true) → Steps ks ls s d o (Use h)
use_step ks ls p a s d o h u (inl x) = record {
  same = sym (ap (added o) (trail_alone ls a h (p.externals_name h x)));
  under = same_done ks ls s d (added o (h ∷ [])) (under_external ks ls p s d o h u x);
}
use_step ks ls p a s d o h u (inr x) = record {
  same = added_one_known o h x ∙ sym (added-known o (trail ls h) (trail_in ls o u.ready h x));
  under = same_done ks ls s d (added o (h ∷ [])) (subst (IsUnder ks ls s d) (sym (added_one_known o h x)) u);
}

known_there : (ks : List ℕ) (ls : Links) (s d o : List ℕ) (h : ℕ) → IsUnder ks ls s d o → is_known ks s d h ≡ true → (is_external ks h ≡ true) ⊎ (has o h ≡ true)
known_there ks ls s d o h u k = ⊎_elim (λ l. inl l) (λ r. inr (⊎_elim (λ l. u.began h l) (λ q. u.kept h q) r)) (known_cases ks s d h k)

give_same : (ks : List ℕ) (ls : Links) → IsPlain ks ls → AreEarlier ls → (o : List ℕ) (h : ℕ) → is_result ks h ≡ true → added o (h ∷ []) ≡ added o (trail ls h)
give_same ks ls p a o h r = sym (ap (added o) (trail_alone ls a h (p.results_name h r)))

give_under : (ks : List ℕ) (ls : Links) → IsPlain ks ls → (s d o : List ℕ) (h : ℕ) → IsUnder ks ls s d o → is_result ks h ≡ true → IsUnder ks ls s (d ++ h ∷ []) (added o (h ∷ []))
give_under ks ls p s d o h u r = under_made ks ls s d o h u (λ x i. absurd (false≢true (ap (λ ys. has ys x) (sym (p.results_name h r)) ∙ i)))

pub step : (ks : List ℕ) (ls : Links) → IsPlain ks ls → AreEarlier ls → (n : ℕ) (fs : List (Option ℕ)) (s d o : List ℕ) (t : Token) → IsUnder ks ls s d o → IsFine n ks fs ls s d t → Steps ks ls s d o t
step ks ls p a n fs s d o (Use h) u f = use_step ks ls p a s d o h u (known_there ks ls s d o h u f.1)
step ks ls p a n fs s d o (Give h) u f = record { same = give_same ks ls p a o h f.1; under = give_under ks ls p s d o h u f.1 }
step ks ls p a n fs s d o (GiveCall g h) u f = record { same = give_same ks ls p a o h f.1; under = give_under ks ls p s d o h u f.1 }
step ks ls p a n fs s d o (Emitted r) u f =
    let ps = places r in
    let xs = externals ks (flat_map (linked ls) ps) in
    let mid = added o xs in
    record {
      same = added-append o xs ps ∙ ap (λ q. added q ps) (sym (same_externals ks ls p a s ps d o (covers_under ks ls s d o u) f.2)) ∙ sym (added-append o (externals ks (flat_map (trail ls) ps)) ps);
      under = subst (IsUnder ks ls s (d ++ ps)) (sym (added-append o xs ps)) (under_range ks ls s ps d mid (under_externals ks ls p s d (flat_map (linked ls) ps) o u) f.2 (has_externals ks ls o ps));
    }
step ks ls p a n fs s d o _ u f = record { same = refl; under = same_done ks ls s d o u }

-- ---- the whole body

pub record Follows (ks : List ℕ) (ls : Links) (s d o : List ℕ) (ts : Tokens) : Type 0 where
  pub same : added o (flat_map (brief ks ls) ts) ≡ added o (flat_map (listed ks ls) ts)
  pub under : IsUnder ks ls s (d ++ flat_map made ts) (added o (flat_map (brief ks ls) ts))

pub follows : (ks : List ℕ) (ls : Links) → IsPlain ks ls → AreEarlier ls → (n : ℕ) (fs : List (Option ℕ)) (s : List ℕ) (ts : Tokens) (d o : List ℕ) → IsUnder ks ls s d o → AreFine n ks fs ls s d ts → Follows ks ls s d o ts
follows ks ls p a n fs s [] d o u f = record { same = refl; under = same_done ks ls s d o u }
follows ks ls p a n fs s (t ∷ ts) d o u f =
    let h = step ks ls p a n fs s d o t u f.0 in
    let r = follows ks ls p a n fs s ts (d ++ made t) (added o (brief ks ls t)) h.under f.1 in
    record {
      same = added-append o (brief ks ls t) (flat_map (brief ks ls) ts) ∙ r.same ∙ ap (λ q. added q (flat_map (listed ks ls) ts)) h.same ∙ sym (added-append o (listed ks ls t) (flat_map (listed ks ls) ts));
      under = subst (IsUnder ks ls s (d ++ (made t ++ flat_map made ts))) (sym (added-append o (brief ks ls t) (flat_map (brief ks ls) ts))) (subst (λ e. IsUnder ks ls s e (added (added o (brief ks ls t)) (flat_map (brief ks ls) ts))) (append_assoc d (made t) (flat_map made ts)) r.under);
    }

pub under_start : (ks : List ℕ) (ls : Links) (s : List ℕ) → IsReachOrder ls s → IsUnder ks ls s [] s
under_start ks ls s r = record {
  began = λ k h. h;
  kept = λ k h. absurd (false≢true h);
  only_known = λ k h. known_began ks s [] k h;
  ready = r;
}
