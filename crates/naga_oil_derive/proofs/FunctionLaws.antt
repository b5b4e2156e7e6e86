-- The copy of a function's value is a copy of it.
use Rattle.std.proofs.Common.{◌≡◌, inl, inr, ℕ, zero, suc, ◌+◌, ◌-◌, ◌<◌, ◌≤◌, Bool, true, false, List, [], ◌++◌, length, map, take, get_or, position, slice_get, option_to_list, option_map, Option, Some, None, nat_lt, replicate, refl, ap, sym, ◌∙◌, subst, arith}
use Rattle.std.specs.List.{flat_map}
use Rattle.std.proofs.lemmas.Bool.{false≢true, ltb-true, ltb-false, lt-ltb}
use Rattle.std.proofs.lemmas.List.{length-map, length-set, length-replicate, take_all}
use Rattle.std.proofs.lemmas.List.Quantifiers.{position-Some}
use Rattle.std.proofs.lemmas.Option.{none-some, same_Some, slice_get-get_or, slice_get-map}
use Rattle.naga_oil_ir.specs.Parts.{Parts, parts}
use Rattle.naga_oil_form.specs.BodyForm.{run}
use Rattle.naga_oil_ir.specs.ModuleValue.{FunctionValue}
use Rattle.naga_oil_ir.specs.declared.expression.Expression.{Expression}
use Rattle.naga_oil_ir.specs.declared.span.Span.{Span}
use Rattle.naga_oil_ir.proofs.PlaceLemmas.{place_of-found, place_of-absent, with_element-found, with_element-absent}
use Rattle.naga_oil_rename.specs.Renames.{Renames}
use Rattle.naga_oil_walk.specs.Walk.{IsReachOrder}
use Rattle.naga_oil_derive.specs.Copied.{place_in, with_item_in}
use Rattle.naga_oil_derive.specs.Copies.{Values, place_under, copied, range_under, value_links, AreCopies, LacksBefore, IsPut, IsStep}
use Rattle.naga_oil_derive.specs.CopiedFunction.{ExpressionState, copy_place, with_copy, copy_expression, expressions_upto, copy_expressions, notes_in, copy_function}
use Rattle.naga_oil_derive.specs.CopiedFunctionLaw.{MayBeCopied, CopyLaw, TableLaw, AloneLaw}
use Rattle.naga_oil_derive.specs.DerivedFunctions.{kinds_in, initialisers_in}
use Rattle.naga_oil_derive.specs.Equal.{parts_eq}
use Rattle.naga_oil_derive.specs.Functions.{begun, order_of}
use Rattle.naga_oil_derive.proofs.CopyLoops.{PlacedSoFar, so_far_start, so_far_step}
use Rattle.naga_oil_derive.proofs.CopySteps.{no_copies, none_apart}
use Rattle.naga_oil_derive.proofs.EqualLemmas.{parts_eq-decides}
use Rattle.naga_oil_derive.proofs.FetchLemmas.{fails}
use Rattle.naga_oil_derive.proofs.FunctionForm.{walk_of_value, begun_first}
use Rattle.naga_oil_walk.proofs.FunctionWalk.{res_plain}
use Rattle.naga_oil_derive.proofs.Localizing.{first_places, covered}

-- ---- one copy

lacks : (v : Values) (p : Parts) → position (λ (e : Parts × Span). parts_eq p e.0) v ≡ None → LacksBefore (length v) v p
lacks v p n k e l at same = false≢true (sym (fails (λ (e : Parts × Span). parts_eq p e.0) v n k e at) ∙ (parts_eq-decides p e.0).1 (sym same))

put_found : (v : Values) (p : Parts) (s : Span) (o : Option ℕ) → position (λ (e : Parts × Span). parts_eq p e.0) v ≡ o → IsPut true v (p, s) (place_in parts_eq v p) (with_item_in parts_eq v p s)
put_found v p s None e =
    let q = λ (e : Parts × Span). parts_eq p e.0 in
    inr (λ u. lacks v p e, place_of-absent q v e, with_element-absent q v (p, s) e)
put_found v p s (Some i) e =
    let q = λ (e : Parts × Span). parts_eq p e.0 in
    let f = position-Some q v i (p, s) e in
    let x = get_or v i (p, s) in
    inl (refl, (x, ap (slice_get v) (place_of-found q v i e) ∙ slice_get-get_or v i (p, s) f.0, sym ((parts_eq-decides p x.0).0 f.1)), with_element-found q v (p, s) i e)

put_copy : (unique : Bool) (v : Values) (p : Parts) (s : Span) → IsPut unique v (p, s) (copy_place unique v p) (with_copy unique v p s)
put_copy true v p s = put_found v p s (position (λ (e : Parts × Span). parts_eq p e.0) v) refl
put_copy false v p s = inr (λ e. absurd (false≢true e), refl, refl)

-- copying the expression at a place is a step
pub step_copied : (r : Renames) (es : Values) (u : Bool) (s : ExpressionState) (k : ℕ) → IsStep r es u k s.table s.values (copy_expression r u s k (slice_get es k)).table (copy_expression r u s k (slice_get es k)).values
step_copied r es u s k a at =
    let p = copied r s.table a.0 in
    let h = copy_place u s.values p in
    (h, ap (λ o. (copy_expression r u s k o).table) at, subst (λ (w : Values). IsPut u s.values (p, r.span a.1) h w) (sym (ap (λ o. (copy_expression r u s k o).values) at)) (put_copy u s.values p (r.span a.1)))

-- ---- all of them

room_kept : (r : Renames) (u : Bool) (s : ExpressionState) (k : ℕ) (o : Option (Parts × Span)) → length (copy_expression r u s k o).table ≡ length s.table
room_kept r u s k None = refl
room_kept r u s k (Some a) = length-set s.table k (Some (copy_place u s.values (copied r s.table a.0)))

pub room_upto : (r : Renames) (es : Values) (o : List ℕ) (b i : ℕ) → length (expressions_upto r es o b i).table ≡ length es
unfolding expressions_upto
room_upto r es o b zero = length-replicate (length es) None
room_upto r es o b (suc i) = room_kept r (nat_lt i b) (expressions_upto r es o b i) (get_or o i 0) (slice_get es (get_or o i 0)) ∙ room_upto r es o b i

pub placed_upto : (r : Renames) (es : Values) (o : List ℕ) (b : ℕ) → IsReachOrder (value_links es) o → ((j : ℕ) → j < length o → get_or o j 0 < length es) → (i : ℕ) → i ≤ length o → PlacedSoFar r es o b i (expressions_upto r es o b i).table (expressions_upto r es o b i).values
unfolding expressions_upto
placed_upto r es o b ready within zero l = so_far_start r es o b (replicate (length es) None) [] (no_copies r es (length es) (replicate (length es) None) refl) none_apart
placed_upto r es o b ready within (suc i) l =
    let s = expressions_upto r es o b i in
    let k = get_or o i 0 in
    let u = copy_expression r (nat_lt i b) s k (slice_get es k) in
    let n : i + 1 ≡ suc i = omega arith in
    let less : i < length o = omega (arith, l) in
    subst (λ m. PlacedSoFar r es o b m u.table u.values) n (so_far_step r es o b i (nat_lt i b) s.table u.table s.values u.values ready less (within i less) (room_upto r es o b i) (ltb-true i b) (ltb-false i b) (placed_upto r es o b ready within i (omega (arith, l))) (step_copied r es (nat_lt i b) s k))

-- ---- the function

-- the expressions of a function, copied in its order: m copies of what initialisers reach, then one for each of the rest
pub record IsCopied (r : Renames) (v : FunctionValue) (s : ExpressionState) (m : ℕ) : Type 0 where
  pub copies : AreCopies r v.expressions (begun v) (order_of v) s.table s.values
  pub began : List ℕ
  pub long : length began ≡ length (begun v)
  pub follow : map (place_under s.table) (order_of v) ≡ began ++ run m (length (order_of v) - length (begun v))
  pub count : length s.values ≡ m + (length (order_of v) - length (begun v))

pub copied_value : (r : Renames) (v : FunctionValue) → MayBeCopied v → let s = copy_expressions r v.expressions (order_of v) (length (begun v)) in IsCopied r v s (length s.values - (length (order_of v) - length (begun v)))
copied_value r v may =
    let es = v.expressions in
    let o = order_of v in
    let b = length (begun v) in
    let s = copy_expressions r es o b in
    let n = length s.values - (length o - b) in
    let w = walk_of_value v may in
    let size : length (value_links es) ≡ length es = length-map es (λ (e : Parts × Span). flat_map option_to_list e.0.operands) in
    let p = (placed_upto r es o b w.ready (λ j l. let x = w.within j 0 l in omega (arith, x, size)) (length o) (omega arith)).single (begun_first v) in
    let q = p.2 in
    let count = q.count refl in
    let same : p.1 ≡ n = omega (arith, count) in
    let first : take b o ≡ begun v = first_places (kinds_in v) (value_links es) (initialisers_in v) v.body o b refl refl in
    let all : take (length o) o ≡ o = take_all (length o) o (omega arith) in
    record {
      copies = subst (λ xs. AreCopies r es (begun v) xs s.table s.values) all (subst (λ xs. AreCopies r es xs (take (length o) o) s.table s.values) first q.copies);
      began = map (place_under p.0) (take b o);
      long = length-map (take b o) (place_under p.0) ∙ ap length first;
      follow = ap (map (place_under s.table)) (sym all) ∙ q.follow refl ∙ ap (λ x. map (place_under p.0) (take b o) ++ run x (length o - b)) same;
      count = count ∙ ap (λ x. x + (length o - b)) same;
    }

pub copies : CopyLaw
unfolding copy_function
copies r v may =
    let s = copy_expressions r v.expressions (order_of v) (length (begun v)) in
    let m = length s.values - (length (order_of v) - length (begun v)) in
    let c = copied_value r v may in
    let w = walk_of_value v may in
    record {
      table = s.table;
      range = range_under (notes_in v) (length (begun v)) m (length s.values);
      name = refl;
      arguments = refl;
      outcome = refl;
      expressions = c.copies;
      locals = refl;
      named_expressions = refl;
      body = refl;
      emits = covered s.table (notes_in v) (begun v) (order_of v) c.began (length (begun v)) m (length s.values) v.body c.long c.follow w.notes w.noted;
      leaf = refl;
    }

pub table : TableLaw
unfolding copies
table r v may = (copies r v may, refl)

-- ---- what is asked of a function

alone_at : (o : Option (Expression × Span)) (e : Parts × Span) → option_map (λ (x : Expression × Span). (parts x.0, x.1)) o ≡ Some e → e.0.kind < 13 → flat_map option_to_list e.0.operands ≡ []
alone_at None e is l = absurd (none-some e is)
alone_at (Some x) e is l = let same = same_Some (parts x.0, x.1) e is in subst (λ (y : Parts × Span). y.0.kind < 13 → flat_map option_to_list y.0.operands ≡ []) same (λ h. res_plain x.0 (lt-ltb (parts x.0).kind 13 h)) l

pub alone : AloneLaw
alone f k e at l = alone_at (slice_get f.expressions k) e (sym (slice_get-map (λ (x : Expression × Span). (parts x.0, x.1)) f.expressions k) ∙ at) l
