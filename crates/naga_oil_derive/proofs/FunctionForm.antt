-- The order in which the expressions of a function's value are copied, if it may be copied.
use Rattle.std.proofs.Common.{◌≡◌, ⊎_elim, ℕ, zero, suc, ◌+◌, ◌-◌, ◌<◌, ◌≤◌, ◌==◌, true, List, [], ◌∷◌, length, map, slice_get, option_to_list, option_map, unwrap_or, Option, Some, None, nat_lt, replicate, All, refl, ap, sym, ◌∙◌, subst, arith}
use Rattle.std.specs.List.{flat_map}
use Rattle.std.proofs.lemmas.Bool.{false≢true, or_cases, or_left, or_right, and_parts, ltb-true}
use Rattle.std.proofs.lemmas.List.{length-map, length-append, length-replicate}
use Rattle.std.proofs.lemmas.List.Elements.{All-head, All-tail}
use Rattle.std.proofs.lemmas.Option.{slice_get-map}
use Rattle.naga_oil_ir.specs.Parts.{Parts}
use Rattle.naga_oil_ir.specs.Body.{Tokens}
use Rattle.naga_oil_form.specs.BodyForm.{run, places, callee, external_kind, result_kind}
use Rattle.naga_oil_form.specs.Links.{Links, linked, AreEarlier, reach, trail, started, has, added}
use Rattle.naga_oil_ir.specs.ModuleValue.{FunctionValue}
use Rattle.naga_oil_ir.specs.declared.span.Span.{Span}
use Rattle.naga_oil_ir.specs.declared.tokens.Token.{Token}
use Rattle.naga_oil_ir.specs.declared.tokens.Token.TheVariants.{Use, Give, GiveCall, Emitted}
use Rattle.naga_oil_form.proofs.LinkLemmas.{All-has, All-from_has, eqb_eq, eq_eqb, has-append, has-added, has-started, in_one, named_below, only}
use Rattle.naga_oil_walk.specs.Walk.{IsReachOrder, IsWithin, externals, brief, listed, Notes, AreNoted, AreWithin}
use Rattle.naga_oil_walk.specs.Walks.{IsWalkOf}
use Rattle.naga_oil_derive.specs.Copies.{Values, value_links}
use Rattle.naga_oil_derive.specs.CopiedFunction.{notes_in}
use Rattle.naga_oil_derive.specs.CopiedFunctionLaw.{StandAlone, MayBeCopied}
use Rattle.naga_oil_derive.specs.DerivedFunctions.{kinds_in, named_in, initialisers_in}
use Rattle.naga_oil_derive.specs.Functions.{begun, order_of}
use Rattle.naga_oil_walk.proofs.FunctionWalk.{tokens_within}
use Rattle.naga_oil_walk.proofs.WalkForm.{IsPlain, IsUnder, Follows, externals_in, follows, under_start}
use Rattle.naga_oil_walk.proofs.WalkLemmas.{IsReachOrder-nil, IsReachOrder-add, added-append, links_there, trail-added}
use Rattle.naga_oil_walk.proofs.WalkNotes.{BodyAt, added-grows, body_at, no_notes}

-- ---- external expressions and results

external_at : (o : Option (Parts × Span)) → ((e : Parts × Span) → o ≡ Some e → e.0.kind < 13 → flat_map option_to_list e.0.operands ≡ []) → external_kind (option_map (λ e. e.0.kind) o) ≡ true → unwrap_or (option_map (λ e. flat_map option_to_list e.0.operands) o) [] ≡ []
external_at None f h = refl
external_at (Some e) f h = f e refl (let l = ltb-true e.0.kind 7 h in omega (arith, l))

result_at : (o : Option (Parts × Span)) → ((e : Parts × Span) → o ≡ Some e → e.0.kind < 13 → flat_map option_to_list e.0.operands ≡ []) → result_kind (option_map (λ e. e.0.kind) o) ≡ true → unwrap_or (option_map (λ e. flat_map option_to_list e.0.operands) o) [] ≡ []
result_at None f h = refl
result_at (Some e) f h = f e refl (ltb-true e.0.kind 13 (and_parts (nat_lt 6 e.0.kind) (nat_lt e.0.kind 13) h).1)

pub plain_values : (es : Values) → StandAlone es → IsPlain (map (λ e. e.0.kind) es) (value_links es)
plain_values es f = record {
  externals_name = λ k h. ap (λ o. unwrap_or o []) (slice_get-map (λ (e : Parts × Span). flat_map option_to_list e.0.operands) es k) ∙ external_at (slice_get es k) (f k) (ap external_kind (sym (slice_get-map (λ (e : Parts × Span). e.0.kind) es k)) ∙ h);
  results_name = λ k h. ap (λ o. unwrap_or o []) (slice_get-map (λ (e : Parts × Span). flat_map option_to_list e.0.operands) es k) ∙ result_at (slice_get es k) (f k) (ap result_kind (sym (slice_get-map (λ (e : Parts × Span). e.0.kind) es k)) ∙ h);
}

-- ---- what places reach is in order

ready_each : (ls : Links) (xs : List ℕ) → ((x : ℕ) → has xs x ≡ true → (o : List ℕ) → IsReachOrder ls o → IsReachOrder ls (added o (trail ls x))) → (o : List ℕ) → IsReachOrder ls o → IsReachOrder ls (added o (flat_map (trail ls) xs))
ready_each ls [] f o r = r
ready_each ls (x ∷ xs) f o r = subst (IsReachOrder ls) (sym (added-append o (trail ls x) (flat_map (trail ls) xs))) (ready_each ls xs (λ y i. f y (or_right (x == y) (has xs y) i)) (added o (trail ls x)) (f x (or_left (x == x) (has xs x) (eq_eqb x x refl)) o r))

ready_more : (ls : Links) → AreEarlier ls → (n k : ℕ) → k < n → (o : List ℕ) → IsReachOrder ls o → IsReachOrder ls (added o (trail ls k))
ready_more ls a zero k h o r = absurd (omega (arith, h))
ready_more ls a (suc n) k h o r =
    let each = ready_each ls (linked ls k) (λ x i p q. let l = named_below ls a k x i in ready_more ls a n x (omega (arith, l, h)) p q) o r in
    subst (IsReachOrder ls) (trail-added ls a o k) (IsReachOrder-add ls (added o (flat_map (trail ls) (linked ls k))) k each (links_there ls a o (linked ls k)))

pub started_ready : (ls : Links) → AreEarlier ls → (rs : List ℕ) → IsReachOrder ls (started ls rs)
started_ready ls a rs = ready_each ls rs (λ x i o r. ready_more ls a (suc x) x (omega arith) o r) [] (IsReachOrder-nil ls)

-- ---- what places reach is there

reach_below : (ls : Links) → AreEarlier ls → (n k x : ℕ) → has (reach n ls k) x ≡ true → x ≤ k
reach_below ls a zero k x h = absurd (false≢true h)
reach_below ls a (suc n) k x h =
    ⊎_elim (λ i. let y = in_one (reach n ls) (linked ls k) x i in let l = reach_below ls a n y.0 x y.2 in let m = named_below ls a k y.0 y.1 in omega (arith, l, m)) (λ i. let e = only k x i in omega (arith, e)) (or_cases (has (flat_map (reach n ls) (linked ls k)) x) (has (k ∷ []) x) (sym (has-append (flat_map (reach n ls) (linked ls k)) (k ∷ []) x) ∙ h))

trail_below : (ls : Links) → AreEarlier ls → (k x : ℕ) → has (trail ls k) x ≡ true → x ≤ k
unfolding trail
trail_below ls a k x h = reach_below ls a (suc k) k x h

started_within : (ls : Links) → AreEarlier ls → (rs : List ℕ) → All (λ h. h < length ls) rs → (k : ℕ) → has (started ls rs) k ≡ true → k < length ls
started_within ls a rs f k h =
    let y = in_one (trail ls) rs k (sym (has-started ls rs k) ∙ h) in
    let l = trail_below ls a y.0 k y.2 in
    let m = All-has (λ h. h < length ls) rs y.0 f y.1 in
    omega (arith, l, m)

run_within : (n a k : ℕ) → has (run a n) k ≡ true → k < a + n
run_within zero a k h = absurd (false≢true h)
run_within (suc n) a k h =
    ⊎_elim (λ i. let e = eqb_eq a k i in omega (arith, e)) (λ i. let l = run_within n (suc a) k i in omega (arith, l)) (or_cases (a == k) (has (run (suc a) n) k) h)

range_within : (n : ℕ) (r : ℕ × ℕ) → r.0 ≤ r.1 → r.1 ≤ n → (k : ℕ) → has (places r) k ≡ true → k < n
range_within n r l m k h = let w = run_within (r.1 - r.0) r.0 k h in omega (arith, w, l, m)

token_within : (ks : List ℕ) (ls : Links) → AreEarlier ls → (n : ℕ) (t : Token) → IsWithin n t → (k : ℕ) → has (brief ks ls t) k ≡ true → k < n
token_within ks ls a n (Use x) w k h = subst (λ y. y < n) (only x k h) w
token_within ks ls a n (Give x) w k h = subst (λ y. y < n) (only x k h) w
token_within ks ls a n (GiveCall f x) w k h = subst (λ y. y < n) (only x k h) w
token_within ks ls a n (Emitted r) w k h =
    let xs = flat_map (linked ls) (places r) in
    ⊎_elim (λ i. let y = in_one (linked ls) (places r) k (externals_in ks xs k i) in let l = range_within n r w.0 w.1 y.0 y.1 in let m = named_below ls a y.0 k y.2 in omega (arith, l, m)) (λ i. range_within n r w.0 w.1 k i) (or_cases (has (externals ks xs) k) (has (places r) k) (sym (has-append (externals ks xs) (places r) k) ∙ h))
token_within ks ls a n _ w k h = absurd (false≢true h)

body_within : (ks : List ℕ) (ls : Links) → AreEarlier ls → (n : ℕ) (ts : Tokens) → All (IsWithin n) ts → (k : ℕ) → has (flat_map (brief ks ls) ts) k ≡ true → k < n
body_within ks ls a n [] w k h = absurd (false≢true h)
body_within ks ls a n (t ∷ ts) w k h =
    ⊎_elim (λ i. token_within ks ls a n t (All-head (IsWithin n) t ts w) k i) (λ i. body_within ks ls a n ts (All-tail (IsWithin n) t ts w) k i) (or_cases (has (brief ks ls t) k) (has (flat_map (brief ks ls) ts) k) (sym (has-append (brief ks ls t) (flat_map (brief ks ls) ts) k) ∙ h))

-- ---- the whole

-- the order lists the expressions of a function that may be copied, and the notes give the places of its ranges in the order
pub walk_of_value : (v : FunctionValue) → MayBeCopied v → IsWalkOf (kinds_in v) (value_links v.expressions) (initialisers_in v) v.body (order_of v) (length (begun v)) (notes_in v)
walk_of_value v may =
    let ks = kinds_in v in
    let ls = value_links v.expressions in
    let fs = map callee (named_in v) in
    let s = begun v in
    let ts = v.body in
    let f = may.form in
    let p = plain_values v.expressions may.alone in
    let none : Notes = replicate (length v.expressions) None in
    let u : IsUnder ks ls s [] s = under_start ks ls s (started_ready ls f.earlier (initialisers_in v)) in
    let h : Follows ks ls s [] s ts = follows ks ls p f.earlier (length ls) fs s ts [] s u f.body in
    let long : length none ≡ length ls = length-replicate (length v.expressions) None ∙ sym (length-map v.expressions (λ (e : Parts × Span). flat_map option_to_list e.0.operands)) in
    let b : BodyAt ks ls s [] s none ts = body_at ks ls p f.earlier (length ls) fs s ts [] s none (omega arith) u (no_notes (length v.expressions) (length s) s none refl) long f.body in
    record {
      order = refl;
      began = refl;
      within = All-from_has (λ k. k < length ls) (order_of v) (λ k i. ⊎_elim (λ j. started_within ls f.earlier (initialisers_in v) f.there k j) (λ j. body_within ks ls f.earlier (length ls) ts (tokens_within (length ls) ks fs ls s ts [] f.body) k j) (or_cases (has s k) (has (flat_map (brief ks ls) ts) k) (sym (has-added s (flat_map (brief ks ls) ts) k) ∙ ap (λ o. has o k) h.same ∙ i)));
      ready = subst (IsReachOrder ls) h.same h.under.ready;
      noted = subst (λ o. AreNoted s o (notes_in v) ts) h.same b.stand;
      notes = subst (λ o. AreWithin (length s) o (notes_in v)) h.same b.at.within;
    }

-- what initialisers reach stands first in the order
pub begun_first : (v : FunctionValue) → length (begun v) ≤ length (order_of v)
begun_first v =
    let g = added-grows (flat_map (listed (kinds_in v) (value_links v.expressions)) v.body) (begun v) in
    let e : length (order_of v) ≡ length (begun v) + length g.0 = ap length g.1 ∙ length-append (begun v) g.0 in
    omega (arith, e)
