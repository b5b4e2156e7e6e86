-- Where the emitted ranges of a copy stand.
use Rattle.std.proofs.Common.{◌≡◌, ⊎_elim, if◌then◌else◌, ℕ, zero, suc, ◌+◌, ◌-◌, ◌<◌, ◌≤◌, false, nat_lt, List, [], ◌∷◌, ◌++◌, length, map, take, get_or, slice_get, option_to_list, option_map, Option, Some, None, refl, ap, sym, ◌∙◌, subst, arith}
use Rattle.std.specs.List.{flat_map}
use Rattle.std.specs.Option.{option_flatten}
use Rattle.std.proofs.lemmas.Bool.{cases_lt, cond_both, le-ltb, lt-ltb}
use Rattle.std.proofs.lemmas.List.{append_assoc, take-take, take_at, length-map, length_push}
use Rattle.std.proofs.lemmas.Option.{none-some, same_Some, slice_get-get_or, slice_get-map, slice_get_past}
use Rattle.naga_oil_ir.specs.Parts.{Parts}
use Rattle.naga_oil_ir.specs.Body.{Tokens}
use Rattle.naga_oil_form.specs.BodyForm.{places}
use Rattle.naga_oil_form.specs.Links.{Links, trail, has, added}
use Rattle.naga_oil_ir.specs.ModuleValue.{FunctionValue}
use Rattle.naga_oil_ir.specs.declared.span.Span.{Span}
use Rattle.naga_oil_ir.specs.declared.tokens.Token.{Token}
use Rattle.naga_oil_ir.specs.declared.tokens.Token.TheVariants.{Emitted}
use Rattle.naga_oil_rename.specs.Renames.{Renames, rename_token}
use Rattle.naga_oil_walk.specs.Walk.{IsReachOrder, externals, others, listed, Notes}
use Rattle.naga_oil_derive.specs.Copies.{Values, Table, place_under, value_links, copied, FitIn, brought, brought_range, range_under}
use Rattle.naga_oil_derive.specs.CopiedFunction.{ExpressionState, copy_expression, copy_expressions, expressions_upto, body_renames, notes_in, copy_function}
use Rattle.naga_oil_derive.specs.CopiedFunctionLaw.{MayBeCopied, EmitsAt, LeadsAt, put_before, copies_of, range_from, RangeLaw}
use Rattle.naga_oil_derive.specs.DerivedFunctions.{kinds_in}
use Rattle.naga_oil_derive.specs.Functions.{IsCovered, AreCovered, begun, order_of}
use Rattle.naga_oil_derive.proofs.CopyLoops.{there}
use Rattle.naga_oil_derive.proofs.CopySteps.{has_part, map_other}
use Rattle.naga_oil_derive.proofs.FunctionForm.{walk_of_value, begun_first}
use Rattle.naga_oil_derive.proofs.FunctionLaws.{step_copied, placed_upto, copied_value}
use Rattle.naga_oil_derive.proofs.Localizing.{covered, notes_fit, places_empty, run_length}
use Rattle.naga_oil_derive.proofs.NoteLaws.{before, note, emitted_first, notes_count, counted_note}
use Rattle.naga_oil_walk.proofs.WalkLemmas.{added-append}
use Rattle.naga_oil_walk.proofs.WalkNotes.{added-grows}

-- ---- the number of copies

-- after the copies for initialisers each place has a copy of its own
one_more : (r : Renames) (s : ExpressionState) (k : ℕ) (o : Option (Parts × Span)) (a : Parts × Span) → o ≡ Some a → length (copy_expression r false s k o).values ≡ length s.values + 1
one_more r s k o a e = ap (λ x. length (copy_expression r false s k x).values) e ∙ length_push s.values (copied r s.table a.0, r.span a.1)

counted : (r : Renames) (es : Values) (o : List ℕ) (b : ℕ) → ((j : ℕ) → j < length o → get_or o j 0 < length es) → (j : ℕ) → b + j ≤ length o → length (expressions_upto r es o b (b + j)).values ≡ length (expressions_upto r es o b b).values + j
unfolding expressions_upto
counted r es o b within zero l = let e : b + 0 ≡ b = omega arith in ap (λ n. length (expressions_upto r es o b n).values) e ∙ (let f : length (expressions_upto r es o b b).values ≡ length (expressions_upto r es o b b).values + 0 = omega arith in f)
counted r es o b within (suc j) l =
    let i = b + j in
    let s = expressions_upto r es o b i in
    let k = get_or o i 0 in
    let e : b + suc j ≡ suc i = omega arith in
    let a = there es k (within i (omega (arith, l))) in
    let late : nat_lt i b ≡ false = le-ltb i b (omega arith) in
    let before = counted r es o b within j (omega (arith, l)) in
    let one = ap (λ u. length (copy_expression r u s k (slice_get es k)).values) late ∙ one_more r s k (slice_get es k) a.0 a.1 in
    ap (λ n. length (expressions_upto r es o b n).values) e ∙ one ∙ (let g : length s.values + 1 ≡ length (expressions_upto r es o b b).values + suc j = omega (arith, before) in g)

-- the copies of the first places stay where they are
places_stay : (r : Renames) (es : Values) (o : List ℕ) (b : ℕ) → IsReachOrder (value_links es) o → ((j : ℕ) → j < length o → get_or o j 0 < length es) → (k j : ℕ) → k + j ≤ length o → map (place_under (expressions_upto r es o b (k + j)).table) (take k o) ≡ map (place_under (expressions_upto r es o b k).table) (take k o)
unfolding expressions_upto
places_stay r es o b ready within k zero l = let e : k + 0 ≡ k = omega arith in ap (λ n. map (place_under (expressions_upto r es o b n).table) (take k o)) e
places_stay r es o b ready within k (suc j) l =
    let i = k + j in
    let s = expressions_upto r es o b i in
    let x = get_or o i 0 in
    let e : k + suc j ≡ suc i = omega arith in
    let less : i < length o = omega (arith, l) in
    let at = there es x (within i less) in
    let put = step_copied r es (nat_lt i b) s x at.0 at.1 in
    let fresh : has (take k o) x ≡ false = ap (λ xs. has xs x) (sym (take-take k i o (omega arith))) ∙ has_part k (take i o) x (ready.once i x (slice_get-get_or o i 0 less)) in
    ap (λ n. map (place_under (expressions_upto r es o b n).table) (take k o)) e ∙ ap (λ (t : Table). map (place_under t) (take k o)) put.1 ∙ map_other s.table x put.0 (take k o) fresh ∙ places_stay r es o b ready within k j (omega (arith, l))

copies_first : (r : Renames) (es : Values) (o : List ℕ) (b : ℕ) → IsReachOrder (value_links es) o → ((j : ℕ) → j < length o → get_or o j 0 < length es) → (k : ℕ) → b ≤ k → k ≤ length o → length (added [] (map (place_under (copy_expressions r es o b).table) (take k o))) ≡ length (expressions_upto r es o b k).values
copies_first r es o b ready within k l h =
    let e : k + (length o - k) ≡ length o = omega (arith, h) in
    let stay = ap (λ n. map (place_under (expressions_upto r es o b n).table) (take k o)) (sym e) ∙ places_stay r es o b ready within k (length o - k) (omega (arith, e)) in
    let p = (placed_upto r es o b ready within k h).single l in
    ap (λ xs. length (added [] xs)) stay ∙ ap length p.2.copies.order ∙ run_length (length (expressions_upto r es o b k).values) 0

-- ---- the order begins with what is put before a range

put_first : (ks : List ℕ) (ls : Links) (ts : Tokens) (o : List ℕ) (i : ℕ) (p : ℕ × ℕ) → slice_get ts i ≡ Some (Emitted p) → (m : List ℕ) × (added o (flat_map (listed ks ls) ts) ≡ before ks ls o (take i ts) p ++ m)
put_first ks ls [] o i p at = absurd (none-some (Emitted p) at)
put_first ks ls (t ∷ ts) o zero p at =
    let xs = externals ks (flat_map (trail ls) (places p)) in
    let rest = flat_map (listed ks ls) ts in
    let g = added-grows (places p ++ rest) (added o xs) in
    (g.0, ap (λ x. added o (listed ks ls x ++ rest)) (emitted_first t p at) ∙ ap (added o) (append_assoc xs (places p) rest) ∙ added-append o xs (places p ++ rest) ∙ g.1)
put_first ks ls (t ∷ ts) o (suc i) p at =
    let g = put_first ks ls ts (added o (listed ks ls t)) i p at in
    let xs = externals ks (flat_map (trail ls) (places p)) in
    (g.0, added-append o (listed ks ls t) (flat_map (listed ks ls) ts) ∙ g.1 ∙ ap (λ q. added q xs ++ g.0) (sym (added-append o (listed ks ls t) (flat_map (listed ks ls) (take i ts)))))

order_begins : (v : FunctionValue) (i : ℕ) (p : ℕ × ℕ) → EmitsAt v i p → take (length (put_before v i p)) (order_of v) ≡ put_before v i p
order_begins v i p at =
    let b = put_before v i p in
    let g = put_first (kinds_in v) (value_links v.expressions) v.body (begun v) i p at in
    ap (take (length b)) g.1 ∙ take_at b g.0 (length b) refl

-- ---- what ranges map to

range_fits : (n m c : ℕ) (r : ℕ × ℕ) (o : Option (ℕ × ℕ)) → ((b e : ℕ) → o ≡ Some (b, e) → (n ≤ b) × (b ≤ e) × (m + (e - n) ≤ c)) → ((brought_range n m c r o).0 ≤ (brought_range n m c r o).1) × ((brought_range n m c r o).1 ≤ c)
range_fits n m c r None f = (omega arith, omega arith)
range_fits n m c r (Some (b, e)) f =
    let g = f b e refl in
    let g0 = g.0 in
    let g1 = g.1 in
    let g2 = g.2 in
    cond_both (nat_lt r.0 r.1) (brought n m e) (brought n m b) (λ x. (brought n m b ≤ x) × (x ≤ c)) (λ h. (omega arith, omega arith)) (λ h. (omega arith, omega arith))

-- a range that a renamed part of a body emits is a renamed range
emitted_from : (u : Renames) (o : Option Token) (q : ℕ × ℕ) → option_map (rename_token u) o ≡ Some (Emitted q) → (p : ℕ × ℕ) × (o ≡ Some (Emitted p)) × (u.range p ≡ q)
emitted_from u None q e = absurd (none-some (Emitted q) e)
emitted_from u (Some (Emitted p)) q e = (p, refl, (let x : u.range p ≡ q = cc in x))
emitted_from u (Some _) q e = cc

renamed_at : (u : Renames) (ts : Tokens) (i : ℕ) (p : ℕ × ℕ) → slice_get ts i ≡ Some (Emitted p) → slice_get (map (rename_token u) ts) i ≡ Some (Emitted (u.range p))
renamed_at u ts i p at = slice_get-map (rename_token u) ts i ∙ ap (option_map (rename_token u)) at

covered_at : (t : Table) (f : ℕ × ℕ → ℕ × ℕ) (s : List ℕ) (ts : Tokens) (i : ℕ) (p : ℕ × ℕ) → AreCovered t f s ts → slice_get ts i ≡ Some (Emitted p) → places (f p) ≡ map (place_under t) (others s (places p))
covered_at t f s [] i p c at = absurd (none-some (Emitted p) at)
covered_at t f s (x ∷ ts) zero p c at = subst (IsCovered t f s) (same_Some x (Emitted p) at) c.0
covered_at t f s (x ∷ ts) (suc i) p c at = covered_at t f s ts i p c.1 at

-- an empty range ends where it begins
no_places : (q : ℕ × ℕ) → q.0 ≤ q.1 → places q ≡ [] → q.1 ≡ q.0
no_places q l e = let n : q.1 - q.0 ≡ 0 = sym (run_length (q.1 - q.0) q.0) ∙ ap length e in omega (arith, l, n)

-- a part of a body that emits a range
abbrev emitted : ℕ → ℕ → Option Token
emitted b e = Some (Emitted (b, e))

-- ---- the ranges of a function

abbrev state_of : Renames → FunctionValue → ExpressionState
state_of r v = copy_expressions r v.expressions (order_of v) (length (begun v))

-- the number of copies for initialisers
abbrev merged_of : Renames → FunctionValue → ℕ
merged_of r v = length (state_of r v).values - (length (order_of v) - length (begun v))

-- where the copy of a place of the order stands
abbrev brought_in : Renames → FunctionValue → ℕ → ℕ
brought_in r v k = brought (length (begun v)) (merged_of r v) k

abbrev covered_by : FunctionValue → ℕ × ℕ → ℕ
covered_by v q = length (others (begun v) (places q))

-- the note on the range that counts, and what the range maps to
record IsLed (r : Renames) (v : FunctionValue) (j : ℕ) (q : ℕ × ℕ) : Type 0 where
  pub noted : slice_get (notes_in v) q.0 ≡ note (length (put_before v j q)) (length (put_before v j q) + covered_by v q)
  pub begins : brought_in r v (length (put_before v j q)) ≡ copies_of r v (put_before v j q)
  pub ends : brought_in r v (length (put_before v j q) + covered_by v q) ≡ copies_of r v (put_before v j q) + covered_by v q

led : (r : Renames) (v : FunctionValue) → MayBeCopied v → (j : ℕ) (q : ℕ × ℕ) → LeadsAt v j q → IsLed r v j q
led r v may j q at =
    let es = v.expressions in
    let o = order_of v in
    let n = length (begun v) in
    let w = walk_of_value v may in
    let x = put_before v j q in
    let k = length x in
    let size : length (value_links es) ≡ length es = length-map es (λ (e : Parts × Span). flat_map option_to_list e.0.operands) in
    let inside = λ (i : ℕ) (l : i < length o). let y = w.within i 0 l in (let z : get_or o i 0 < length es = omega (arith, y, size) in z) in
    let noted = counted_note v may j q at.emits at.within at.counts in
    let l = w.notes q.0 k (k + covered_by v q) noted in
    let l0 = l.0 in
    let l2 = l.2 in
    let back : n + (k - n) ≡ k = omega (arith, l0) in
    let whole : n + (length o - n) ≡ length o = omega (arith, begun_first v) in
    let some = sym (ap (λ y. length (expressions_upto r es o n y).values) back) ∙ counted r es o n inside (k - n) (omega (arith, l0, l2)) in
    let all = sym (ap (λ y. length (expressions_upto r es o n y).values) whole) ∙ counted r es o n inside (length o - n) (omega (arith, whole)) in
    let num : copies_of r v x ≡ length (expressions_upto r es o n k).values = ap (copies_of r v) (sym (order_begins v j q at.emits)) ∙ copies_first r es o n w.ready inside k l0 (omega (arith, l2)) in
    let first : brought_in r v k ≡ copies_of r v x = omega (arith, some, all, num) in
    record { noted = noted; begins = first; ends = omega (arith, first, l0) }

-- a range, by the note at its first place
range_noted : (ns : Notes) (n m c : ℕ) (p q : ℕ × ℕ) (b e : ℕ) → p.0 ≡ q.0 → slice_get ns q.0 ≡ note b e → range_under ns n m c p ≡ brought_range n m c p (Some (b, e))
range_noted ns n m c p q b e f at = ap (λ o. brought_range n m c p (option_flatten o)) (ap (slice_get ns) f ∙ at)

abbrev pair_of : ℕ → ℕ → ℕ × ℕ
pair_of a b = (a, b)

range_wide : (n m c : ℕ) (p : ℕ × ℕ) (b e : ℕ) → p.0 < p.1 → brought_range n m c p (Some (b, e)) ≡ pair_of (brought n m b) (brought n m e)
range_wide n m c p b e l = ap (λ t. pair_of (brought n m b) (if t then brought n m e else brought n m b)) (lt-ltb p.0 p.1 l)

range_empty : (n m c : ℕ) (p : ℕ × ℕ) (b e : ℕ) → p.1 ≤ p.0 → brought_range n m c p (Some (b, e)) ≡ pair_of (brought n m b) (brought n m b)
range_empty n m c p b e l = ap (λ t. pair_of (brought n m b) (if t then brought n m e else brought n m b)) (le-ltb p.0 p.1 l)

-- the range of a copy, by its beginning and its end
emitted_as : (u : Renames) (ts : Tokens) (i : ℕ) (p : ℕ × ℕ) (a b x y : ℕ) → slice_get ts i ≡ Some (Emitted p) → u.range p ≡ pair_of a b → a ≡ x → b ≡ y → slice_get (map (rename_token u) ts) i ≡ emitted x y
emitted_as u ts i p a b x y at e f g = renamed_at u ts i p at ∙ ap (λ (q : ℕ × ℕ). Some (Emitted q)) e ∙ ap (λ z. emitted z b) f ∙ ap (emitted x) g

range_begins : (r : Renames) (v : FunctionValue) → MayBeCopied v → (j : ℕ) (q : ℕ × ℕ) → LeadsAt v j q → EmitsAt (copy_function r v) j (range_from v q (copies_of r v (put_before v j q)))
unfolding copy_function
range_begins r v may j q at =
    let ns = notes_in v in
    let n = length (begun v) in
    let m = merged_of r v in
    let c = length (state_of r v).values in
    let u = body_renames r (state_of r v) (order_of v) n ns in
    let k = length (put_before v j q) in
    let e = covered_by v q in
    let x = led r v may j q at in
    let range = range_noted ns n m c q q k (k + e) refl x.noted in
    let less = λ (l : q.1 ≤ q.0). let none : e ≡ 0 = ap (λ ps. length (others (begun v) ps)) (places_empty q l) in let last : brought_in r v k ≡ copies_of r v (put_before v j q) + e = omega (arith, none, x.begins) in emitted_as u v.body j q (brought_in r v k) (brought_in r v k) (copies_of r v (put_before v j q)) (copies_of r v (put_before v j q) + e) at.emits (range ∙ range_empty n m c q k (k + e) l) x.begins last in
    ⊎_elim (λ l. emitted_as u v.body j q (brought_in r v k) (brought_in r v (k + e)) (copies_of r v (put_before v j q)) (copies_of r v (put_before v j q) + e) at.emits (range ∙ range_wide n m c q k (k + e) l) x.begins x.ends) less (cases_lt q.0 q.1)

range_shared : (r : Renames) (v : FunctionValue) → MayBeCopied v → (i j : ℕ) (p q : ℕ × ℕ) → EmitsAt v i p → p.1 ≤ p.0 → LeadsAt v j q → p.0 ≡ q.0 → EmitsAt (copy_function r v) i (copies_of r v (put_before v j q), copies_of r v (put_before v j q))
unfolding copy_function
range_shared r v may i j p q emits l at f =
    let ns = notes_in v in
    let n = length (begun v) in
    let m = merged_of r v in
    let c = length (state_of r v).values in
    let k = length (put_before v j q) in
    let e = covered_by v q in
    let x = led r v may j q at in
    let num = copies_of r v (put_before v j q) in
    emitted_as (body_renames r (state_of r v) (order_of v) n ns) v.body i p (brought_in r v k) (brought_in r v k) num num emits (range_noted ns n m c p q k (k + e) f x.noted ∙ range_empty n m c p k (k + e) l) x.begins x.begins

range_after : (r : Renames) (v : FunctionValue) (i : ℕ) (p : ℕ × ℕ) → EmitsAt v i p → length v.expressions ≤ p.0 → EmitsAt (copy_function r v) i (length (copy_function r v).expressions, length (copy_function r v).expressions)
unfolding copy_function
range_after r v i p at l =
    let ns = notes_in v in
    let n = length (begun v) in
    let m = merged_of r v in
    let c = length (state_of r v).values in
    let long = notes_count v in
    emitted_as (body_renames r (state_of r v) (order_of v) n ns) v.body i p c c c c at (ap (λ o. brought_range n m c p (option_flatten o)) (slice_get_past ns p.0 (omega (arith, l, long)))) refl refl

pub ranges : RangeLaw
unfolding copy_function
ranges r v may =
    let o = order_of v in
    let n = length (begun v) in
    let ns = notes_in v in
    let s = state_of r v in
    let c = length s.values in
    let m = merged_of r v in
    let u = body_renames r s o n ns in
    let w = walk_of_value v may in
    let copy = copied_value r v may in
    let fit : FitIn n m c ns = notes_fit ns o n m c w.notes (begun_first v) copy.count in
    let emits = covered s.table ns (begun v) o copy.began n m c v.body copy.long copy.follow w.notes w.noted in
    let lies = λ (p : ℕ × ℕ). range_fits n m c p (option_flatten (slice_get ns p.0)) (fit p.0) in
    record {
      within = λ i q at. let x = emitted_from u (slice_get v.body i) q (sym (slice_get-map (rename_token u) v.body i) ∙ at) in subst (λ (y : ℕ × ℕ). (y.0 ≤ y.1) × (y.1 ≤ c)) x.2 (lies x.0);
      nothing = λ i p at none. let q = u.range p in let same : q.1 ≡ q.0 = no_places q (lies p).0 (covered_at s.table u.range (begun v) v.body i p emits at ∙ ap (map (place_under s.table)) none) in (q.0, renamed_at u v.body i p at ∙ ap (emitted q.0) same);
      begins = range_begins r v may;
      empty = range_shared r v may;
      following = range_after r v;
    }
