-- What is noted of the emitted ranges of a function.
use Rattle.std.proofs.Common.{◌≡◌, ⊎_elim, ℕ, zero, suc, ◌+◌, ◌<◌, ◌≤◌, true, cond, ◌||◌, nat_lt, List, [], ◌∷◌, ◌++◌, length, map, take, replicate, slice_get, slice_set, option_to_list, Option, Some, None, is_none, refl, ap, sym, ◌∙◌, subst, arith}
use Rattle.std.specs.List.{flat_map}
use Rattle.std.specs.Option.{option_flatten}
use Rattle.std.proofs.lemmas.Bool.{cases_lt, cond_both, or_right}
use Rattle.std.proofs.lemmas.List.{length-append, length-map, length-replicate}
use Rattle.std.proofs.lemmas.Option.{none-some, same_Some, slice_get_within}
use Rattle.naga_oil_ir.specs.Parts.{Parts}
use Rattle.naga_oil_ir.specs.Body.{Tokens}
use Rattle.naga_oil_form.specs.BodyForm.{places, made, callee, AreFine}
use Rattle.naga_oil_form.specs.Links.{Links, linked, AreEarlier, trail, added}
use Rattle.naga_oil_ir.specs.ModuleValue.{FunctionValue}
use Rattle.naga_oil_ir.specs.declared.span.Span.{Span}
use Rattle.naga_oil_ir.specs.declared.tokens.Token.{Token}
use Rattle.naga_oil_ir.specs.declared.tokens.Token.TheVariants.{Emitted}
use Rattle.naga_oil_form.proofs.LinkLemmas.{slice_get-set_same, slice_get-set_other}
use Rattle.naga_oil_walk.specs.Walk.{externals, others, listed, brief, Notes, noted, notes_of, notes_after, AreWithin}
use Rattle.naga_oil_derive.specs.Copies.{value_links}
use Rattle.naga_oil_derive.specs.CopiedFunction.{notes_in}
use Rattle.naga_oil_derive.specs.CopiedFunctionLaw.{MayBeCopied, EmitsAt, Counts, put_before}
use Rattle.naga_oil_derive.specs.DerivedFunctions.{kinds_in, named_in, initialisers_in}
use Rattle.naga_oil_derive.specs.Functions.{begun}
use Rattle.naga_oil_derive.proofs.FunctionForm.{plain_values, started_ready}
use Rattle.naga_oil_derive.proofs.Localizing.{places_empty}
use Rattle.naga_oil_walk.proofs.WalkForm.{IsPlain, IsUnder, step, stand_range, same_externals, covers_under, under_externals, has_externals, under_start}
use Rattle.naga_oil_walk.proofs.WalkLemmas.{added-append}
use Rattle.naga_oil_walk.proofs.WalkNotes.{added-longer, noted_at, noted_long, noted_stays, has_first, token_at, body_at, no_notes}

-- ---- what is noted of one range

-- what is put before a range r, where o was put before the body
abbrev pub before : List ℕ → Links → List ℕ → Tokens → ℕ × ℕ → List ℕ
before ks ls o ts r = added (added o (flat_map (listed ks ls) ts)) (externals ks (flat_map (trail ls) (places r)))

-- a note
abbrev pub note : ℕ → ℕ → Option (Option (ℕ × ℕ))
note b e = Some (Some (b, e))

-- the range at i is noted with what is copied before it, and with its places
abbrev NotedAt : List ℕ → Links → List ℕ → List ℕ → Notes → Tokens → ℕ → ℕ × ℕ → Type 0
NotedAt ks ls s o es ts i r =
    let n = length (before ks ls o (take i ts) r) in
    slice_get (notes_after ks ls o es ts) r.0 ≡ Some (Some (n, n + length (others s (places r))))

noted_first : (ks : List ℕ) (ls : Links) → IsPlain ks ls → AreEarlier ls → (n : ℕ) (fs : List (Option ℕ)) (s d o : List ℕ) (es : Notes) (ts : Tokens) (r : ℕ × ℕ) → length s ≤ length o → IsUnder ks ls s d o → AreWithin (length s) o es → length es ≡ n → AreFine n ks fs ls s d (Emitted r ∷ ts) → r.0 < r.1 → NotedAt ks ls s o es (Emitted r ∷ ts) 0 r
noted_first ks ls p a n fs s d o es ts r l u w long f h =
    let ps = places r in
    let xs = externals ks (flat_map (linked ls) ps) in
    let mid = added o xs in
    let last = added mid ps in
    let es1 = notes_of ks ls o es (Emitted r) in
    let o1 = added o (brief ks ls (Emitted r)) in
    let m : last ≡ mid ++ others s ps = stand_range ks ls s ps d mid (under_externals ks ls p s d (flat_map (linked ls) ps) o u) f.0.2 (has_externals ks ls o ps) in
    let size : length last ≡ length mid + length (others s ps) = ap length m ∙ length-append mid (others s ps) in
    let le : r.1 ≤ n = f.0.1 in
    let here : slice_get es1 r.0 ≡ Some (Some (length mid, length last)) = noted_at es r (length mid, length last) h (omega (arith, h, le, long)) in
    let v = token_at ks ls p a n fs s d o es (Emitted r) l u w long f.0 in
    let lo = added-longer (brief ks ls (Emitted r)) o in
    let rest = body_at ks ls p a n fs s ts (d ++ ps) o1 es1 (omega (arith, l, lo)) (step ks ls p a n fs s d o (Emitted r) u f.0).under v.at.within (v.at.long ∙ long) f.1 in
    let same : mid ≡ added o (externals ks (flat_map (trail ls) ps)) = sym (same_externals ks ls p a s ps d o (covers_under ks ls s d o u) f.0.2) in
    rest.at.keeps r.0 (length mid, length last) (has_first d r h) here ∙ ap (note (length mid)) size ∙ ap (λ (q : List ℕ). note (length q) (length q + length (others s ps))) same

pub emitted_first : (t : Token) (r : ℕ × ℕ) → Some t ≡ Some (Emitted r) → t ≡ Emitted r
emitted_first t r e = same_Some t (Emitted r) e

noted_body : (ks : List ℕ) (ls : Links) → IsPlain ks ls → AreEarlier ls → (n : ℕ) (fs : List (Option ℕ)) (s : List ℕ) (ts : Tokens) (d o : List ℕ) (es : Notes) → length s ≤ length o → IsUnder ks ls s d o → AreWithin (length s) o es → length es ≡ n → AreFine n ks fs ls s d ts → (i : ℕ) (r : ℕ × ℕ) → slice_get ts i ≡ Some (Emitted r) → r.0 < r.1 → NotedAt ks ls s o es ts i r
noted_body ks ls p a n fs s [] d o es l u w long f i r at h = absurd (none-some (Emitted r) at)
noted_body ks ls p a n fs s (t ∷ ts) d o es l u w long f zero r at h =
    let e = emitted_first t r at in
    subst (λ x. NotedAt ks ls s o es (x ∷ ts) 0 r) (sym e) (noted_first ks ls p a n fs s d o es ts r l u w long (subst (λ x. AreFine n ks fs ls s d (x ∷ ts)) e f) h)
noted_body ks ls p a n fs s (t ∷ ts) d o es l u w long f (suc i) r at h =
    let v = token_at ks ls p a n fs s d o es t l u w long f.0 in
    let x = step ks ls p a n fs s d o t u f.0 in
    let lo = added-longer (brief ks ls t) o in
    let o1 = added o (brief ks ls t) in
    let rest = noted_body ks ls p a n fs s ts (d ++ made t) o1 (notes_of ks ls o es t) (omega (arith, l, lo)) x.under v.at.within (v.at.long ∙ long) f.1 i r at h in
    let same : added o1 (flat_map (listed ks ls) (take i ts)) ≡ added o (listed ks ls t ++ flat_map (listed ks ls) (take i ts)) = ap (λ q. added q (flat_map (listed ks ls) (take i ts))) x.same ∙ sym (added-append o (listed ks ls t) (flat_map (listed ks ls) (take i ts))) in
    rest ∙ ap (λ (q : List ℕ). let k = length (added q (externals ks (flat_map (trail ls) (places r)))) in note k (k + length (others s (places r)))) same

-- ---- what is noted of ranges of no places

-- a note stays where the later ranges that begin there have no places
token_keeps : (ks : List ℕ) (ls : Links) (o : List ℕ) (es : Notes) (t : Token) (k : ℕ) (x : ℕ × ℕ) → ((p : ℕ × ℕ) → t ≡ Emitted p → p.0 ≡ k → p.1 ≤ p.0) → slice_get es k ≡ Some (Some x) → slice_get (notes_of ks ls o es t) k ≡ Some (Some x)
token_keeps ks ls o es (Emitted r) k x f e =
    let mid = added o (externals ks (flat_map (linked ls) (places r))) in
    noted_stays es r (length mid, length (added mid (places r))) k x e (λ l q. let m = f r refl (sym q) in absurd (omega (arith, l, m)))
token_keeps ks ls o es _ k x f e = e

body_keeps : (ks : List ℕ) (ls : Links) (ts : Tokens) (o : List ℕ) (es : Notes) (k : ℕ) (x : ℕ × ℕ) → ((i : ℕ) (p : ℕ × ℕ) → slice_get ts i ≡ Some (Emitted p) → p.0 ≡ k → p.1 ≤ p.0) → slice_get es k ≡ Some (Some x) → slice_get (notes_after ks ls o es ts) k ≡ Some (Some x)
body_keeps ks ls [] o es k x f e = e
body_keeps ks ls (t ∷ ts) o es k x f e = body_keeps ks ls ts (added o (brief ks ls t)) (notes_of ks ls o es t) k x (λ i p a. f (suc i) p a) (token_keeps ks ls o es t k x (λ p a. f 0 p (ap Some a)) e)

-- nothing is noted at a place where no range begins
token_leaves : (ks : List ℕ) (ls : Links) (o : List ℕ) (es : Notes) (t : Token) (k : ℕ) → ((p : ℕ × ℕ) → t ≡ Emitted p → p.0 ≡ k → ⊥) → slice_get es k ≡ Some None → slice_get (notes_of ks ls o es t) k ≡ Some None
token_leaves ks ls o es (Emitted r) k f e =
    let mid = added o (externals ks (flat_map (linked ls) (places r))) in
    let p : ℕ × ℕ = (length mid, length (added mid (places r))) in
    cond_both (nat_lt r.0 r.1 || is_none (option_flatten (slice_get es r.0))) (slice_set es r.0 (Some p)) es (λ v. slice_get v k ≡ Some None) (λ h. slice_get-set_other es r.0 k (Some p) (λ q. f r refl (sym q)) ∙ e) (λ h. e)
token_leaves ks ls o es _ k f e = e

noted_new : (es : Notes) (r p : ℕ × ℕ) → slice_get es r.0 ≡ Some None → slice_get (noted es r p) r.0 ≡ Some (Some p)
noted_new es r p e =
    ap (λ q. slice_get (cond (nat_lt r.0 r.1 || is_none (option_flatten q)) (slice_set es r.0 (Some p)) es) r.0) e ∙ ap (λ b. slice_get (cond b (slice_set es r.0 (Some p)) es) r.0) (or_right (nat_lt r.0 r.1) true refl) ∙ slice_get-set_same es r.0 (Some p) (slice_get_within es r.0 None e)

-- a range of no places adds nothing
noted_empty : (ks : List ℕ) (ls : Links) (o : List ℕ) (es : Notes) (r : ℕ × ℕ) → r.1 ≤ r.0 → slice_get es r.0 ≡ Some None → slice_get (notes_of ks ls o es (Emitted r)) r.0 ≡ note (length o) (length o)
noted_empty ks ls o es r l e =
    let at = λ (ps : List ℕ). let mid = added o (externals ks (flat_map (linked ls) ps)) in slice_get (noted es r (length mid, length (added mid ps))) r.0 in
    ap at (places_empty r l) ∙ noted_new es r (length o, length o) e

noted_alone : (ks : List ℕ) (ls : Links) (ts : Tokens) (o : List ℕ) (es : Notes) (j : ℕ) (q : ℕ × ℕ) → slice_get ts j ≡ Some (Emitted q) → q.1 ≤ q.0 → ((i : ℕ) (p : ℕ × ℕ) → slice_get ts i ≡ Some (Emitted p) → p.0 ≡ q.0 → (p.1 ≤ p.0) × (j ≤ i)) → slice_get es q.0 ≡ Some None → let n = length (added o (flat_map (brief ks ls) (take j ts))) in slice_get (notes_after ks ls o es ts) q.0 ≡ note n n
noted_alone ks ls [] o es j q at l f e = absurd (none-some (Emitted q) at)
noted_alone ks ls (t ∷ ts) o es zero q at l f e =
    let same = emitted_first t q at in
    let new : slice_get (notes_of ks ls o es t) q.0 ≡ note (length o) (length o) = ap (λ x. slice_get (notes_of ks ls o es x) q.0) same ∙ noted_empty ks ls o es q l e in
    body_keeps ks ls ts (added o (brief ks ls t)) (notes_of ks ls o es t) q.0 (length o, length o) (λ i p a b. (f (suc i) p a b).0) new
noted_alone ks ls (t ∷ ts) o es (suc j) q at l f e =
    let stays = token_leaves ks ls o es t q.0 (λ p a b. let g = (f 0 p (ap Some a) b).1 in omega (arith, g)) e in
    noted_alone ks ls ts (added o (brief ks ls t)) (notes_of ks ls o es t) j q at l (λ i p a b. let g = f (suc i) p a b in let h = g.1 in (g.0, omega (arith, h))) stays ∙ ap (λ (x : List ℕ). note (length x) (length x)) (sym (added-append o (brief ks ls t) (flat_map (brief ks ls) (take j ts))))

-- what parts of a body list in brief is what they list
same_upto : (ks : List ℕ) (ls : Links) → IsPlain ks ls → AreEarlier ls → (n : ℕ) (fs : List (Option ℕ)) (s : List ℕ) (ts : Tokens) (d o : List ℕ) → IsUnder ks ls s d o → AreFine n ks fs ls s d ts → (j : ℕ) → added o (flat_map (brief ks ls) (take j ts)) ≡ added o (flat_map (listed ks ls) (take j ts))
same_upto ks ls p a n fs s ts d o u f zero = refl
same_upto ks ls p a n fs s [] d o u f (suc j) = refl
same_upto ks ls p a n fs s (t ∷ ts) d o u f (suc j) =
    let x = step ks ls p a n fs s d o t u f.0 in
    added-append o (brief ks ls t) (flat_map (brief ks ls) (take j ts)) ∙ same_upto ks ls p a n fs s ts (d ++ made t) (added o (brief ks ls t)) x.under f.1 j ∙ ap (λ q. added q (flat_map (listed ks ls) (take j ts))) x.same ∙ sym (added-append o (listed ks ls t) (flat_map (listed ks ls) (take j ts)))

-- ---- the notes of a function

none_at : (n k : ℕ) → k < n → ◌≡◌ {A = Option (Option (ℕ × ℕ))} (slice_get (replicate n None) k) (Some None)
none_at zero k h = absurd (omega (arith, h))
none_at (suc n) zero h = refl
none_at (suc n) (suc k) h = none_at n k (omega (arith, h))

token_long : (ks : List ℕ) (ls : Links) (o : List ℕ) (es : Notes) (t : Token) → length (notes_of ks ls o es t) ≡ length es
token_long ks ls o es (Emitted r) = let mid = added o (externals ks (flat_map (linked ls) (places r))) in noted_long es r (length mid, length (added mid (places r)))
token_long ks ls o es _ = refl

notes_long : (ks : List ℕ) (ls : Links) (ts : Tokens) (o : List ℕ) (es : Notes) → length (notes_after ks ls o es ts) ≡ length es
notes_long ks ls [] o es = refl
notes_long ks ls (t ∷ ts) o es = notes_long ks ls ts (added o (brief ks ls t)) (notes_of ks ls o es t) ∙ token_long ks ls o es t

abbrev no_note : FunctionValue → Notes
no_note v = replicate (length v.expressions) None

pub notes_count : (v : FunctionValue) → length (notes_in v) ≡ length v.expressions
notes_count v = notes_long (kinds_in v) (value_links v.expressions) v.body (begun v) (no_note v) ∙ length-replicate (length v.expressions) None

-- the range that counts is noted with what is copied before it
pub counted_note : (v : FunctionValue) → MayBeCopied v → (j : ℕ) (q : ℕ × ℕ) → EmitsAt v j q → q.0 < length v.expressions → Counts v j q → let n = length (put_before v j q) in slice_get (notes_in v) q.0 ≡ note n (n + length (others (begun v) (places q)))
counted_note v may j q at room c =
    let ks = kinds_in v in
    let ls = value_links v.expressions in
    let f = may.form in
    let s = begun v in
    let fs = map callee (named_in v) in
    let p = plain_values v.expressions may.alone in
    let u = under_start ks ls s (started_ready ls f.earlier (initialisers_in v)) in
    let size : length ls ≡ length v.expressions = length-map v.expressions (λ (e : Parts × Span). flat_map option_to_list e.0.operands) in
    let long : length (no_note v) ≡ length ls = length-replicate (length v.expressions) None ∙ sym size in
    let whole = λ (h : q.0 < q.1). noted_body ks ls p f.earlier (length ls) fs s v.body [] s (no_note v) (omega arith) u (no_notes (length v.expressions) (length s) s (no_note v) refl) long f.body j q at h in
    let empty = λ (l : q.1 ≤ q.0) (g : (i : ℕ) (p : ℕ × ℕ) → EmitsAt v i p → p.0 ≡ q.0 → (p.1 ≤ p.0) × (j ≤ i)). let o1 = added s (flat_map (listed ks ls) (take j v.body)) in let before_q : added s (flat_map (brief ks ls) (take j v.body)) ≡ put_before v j q = same_upto ks ls p f.earlier (length ls) fs s v.body [] s u f.body j ∙ ap (λ ps. added o1 (externals ks (flat_map (trail ls) ps))) (sym (places_empty q l)) in let none : 0 ≡ length (others s (places q)) = ap (λ ps. length (others s ps)) (sym (places_empty q l)) in let n = length (put_before v j q) in let sum : n ≡ n + length (others s (places q)) = omega (arith, none) in noted_alone ks ls v.body s (no_note v) j q at l g (none_at (length v.expressions) q.0 room) ∙ ap (λ (x : List ℕ). note (length x) (length x)) before_q ∙ ap (note n) sum in
    ⊎_elim whole (λ g. ⊎_elim whole (λ l. empty l g) (cases_lt q.0 q.1)) c
