-- The copy of a function of good form has good form.
use Rattle.std.proofs.Common.{◌≡◌, ℕ, ◌<◌, true, false, List, [], ◌∷◌, ◌++◌, length, map, Option, Some, None, option_map, option_to_list, slice_get, refl, ap, sym, ◌∙◌, subst, arith, All}
use Rattle.std.specs.List.{flat_map}
use Rattle.std.proofs.lemmas.Bool.{false≢true}
use Rattle.std.proofs.lemmas.List.{length-map}
use Rattle.std.proofs.lemmas.List.Elements.{All-map}
use Rattle.std.proofs.lemmas.Option.{same_Some, slice_get_within}
use Rattle.naga_oil_form.specs.BodyForm.{callee, is_result, MayStand, AreFine}
use Rattle.naga_oil_form.specs.Links.{Links, trail, has, started}
use Rattle.naga_oil_ir.specs.ModuleValue.{FunctionValue, LocalValue}
use Rattle.naga_oil_ir.specs.Parts.{Parts}
use Rattle.naga_oil_ir.specs.declared.span.Span.{Span}
use Rattle.naga_oil_form.proofs.LinkLemmas.{or_left, or_right, has-append, in_all, All-has, All-from_has}
use Rattle.naga_oil_derive.specs.Copies.{Values, place_under, copied, under_table, value_links}
use Rattle.naga_oil_derive.specs.CopiedFunction.{copy_function}
use Rattle.naga_oil_derive.specs.CopiedFunctionLaw.{StandAlone, MayBeCopied, spoken}
use Rattle.naga_oil_derive.specs.DerivedFunctions.{kinds_in, named_in, initialisers_in}
use Rattle.naga_oil_derive.specs.Functions.{Copies, local_under, begun, order_of}
use Rattle.naga_oil_rename.specs.Renames.{Renames, rename_tokens}
use Rattle.naga_oil_walk.specs.Walk.{IsReachOrder, Holds, listed}
use Rattle.naga_oil_derive.proofs.FunctionForm.{walk_of_value}
use Rattle.naga_oil_derive.proofs.FunctionLaws.{copies}
use Rattle.naga_oil_derive.proofs.RangeLaws.{ranges}
use Rattle.naga_oil_derive.proofs.ReachedLaws.{order_reached}
use Rattle.naga_oil_walk.proofs.WalkLemmas.{added-keeps, ends_trail, has_at}
use Rattle.naga_oil_form_laws.proofs.WalkLemmas.{kinds_of, callees_of, copy_at, copy_within, source_of, copies_earlier, began_no_results, walk_gone}

inits_one : (u : Renames) (o : Option ℕ) (xs ys : List ℕ) → xs ≡ map u.expression ys → option_to_list (option_map u.expression o) ++ xs ≡ map u.expression (option_to_list o ++ ys)
inits_one u None xs ys e = e
inits_one u (Some k) xs ys e = ap (λ zs. u.expression k ∷ zs) e

inits_under : (u : Renames) (ls : List (LocalValue × Span)) → flat_map (λ l. option_to_list l.0.init) (map (local_under u) ls) ≡ map u.expression (flat_map (λ l. option_to_list l.0.init) ls)
inits_under u [] = refl
inits_under u (l ∷ ls) = inits_one u l.0.init _ _ (inits_under u ls)

module _ (r : Renames) (v : FunctionValue) (may : MayBeCopied v) where
  abbrev w : FunctionValue
  w = copy_function r v

  pub c : Copies r v w
  c = copies r v may

  abbrev es : Values
  es = v.expressions

  abbrev ls : Links
  ls = value_links es

  pub ready : IsReachOrder ls (order_of v)
  ready = (walk_of_value v may).ready

  pub within_order : (k : ℕ) → has (order_of v) k ≡ true → k < length es
  within_order k i =
      let size : length ls ≡ length es = length-map es (λ (e : Parts × Span). flat_map option_to_list e.0.operands) in
      let l = All-has (λ x. x < length ls) (order_of v) k (walk_of_value v may).within i in
      omega (arith, l, size)

  pub begun_in : Holds (order_of v) (begun v)
  begun_in = added-keeps (begun v) (flat_map (listed (kinds_in v) ls) v.body)

  -- what initialisers name and what the body lists is in the order
  root_in : (x : ℕ) → has (initialisers_in v ++ flat_map spoken v.body) x ≡ true → has (order_of v) x ≡ true
  root_in x h = order_reached v may x ∙ in_all (trail ls) (initialisers_in v ++ flat_map spoken v.body) x x h (ends_trail ls may.form.earlier x)

  pub inits_in : Holds (order_of v) (initialisers_in v)
  inits_in x h = root_in x (has-append (initialisers_in v) (flat_map spoken v.body) x ∙ or_left (has (initialisers_in v) x) (has (flat_map spoken v.body) x) h)

  pub spoken_in : Holds (order_of v) (flat_map spoken v.body)
  spoken_in x h = root_in x (has-append (initialisers_in v) (flat_map spoken v.body) x ∙ or_right (has (initialisers_in v) x) (has (flat_map spoken v.body) x) h)

  abbrev to : ℕ → ℕ
  to = place_under c.table

  inits_same : initialisers_in w ≡ map to (initialisers_in v)
  inits_same = ap (flat_map (λ l. option_to_list l.0.init)) c.locals ∙ inits_under (under_table r c.table c.range) v.local_variables

  size : length (value_links w.expressions) ≡ length w.expressions
  size = length-map w.expressions (λ (e : Parts × Span). flat_map option_to_list e.0.operands)

  inits_there : All (λ h. h < length (value_links w.expressions)) (map to (initialisers_in v))
  inits_there = All-map (λ h. h < length (value_links w.expressions)) to (initialisers_in v) (All-from_has (λ k. to k < length (value_links w.expressions)) (initialisers_in v) (λ k h. let l = copy_within r es w.expressions (begun v) (order_of v) c.table c.expressions ready within_order k (inits_in k h) in omega (arith, l, size)))

  body_fine : AreFine (length (value_links w.expressions)) (kinds_of w.expressions) (callees_of w.expressions) (value_links w.expressions) (started (value_links w.expressions) (map to (initialisers_in v))) [] (rename_tokens (under_table r c.table c.range) v.body)
  body_fine =
      walk_gone r es w.expressions (begun v) (order_of v) c.table c.expressions ready within_order (initialisers_in v) may.form.earlier refl begun_in c.range may.form.no_results (length ls) v.body [] (λ x h. absurd (false≢true h)) spoken_in c.emits (λ i q e. (ranges r v may).within i q (ap (λ ts. slice_get ts i) c.body ∙ e)) may.form.body

  pub form : MayStand (kinds_in w) (map callee (named_in w)) (value_links w.expressions) (initialisers_in w) w.body
  form = record {
    earlier = copies_earlier r es w.expressions (begun v) (order_of v) c.table c.expressions ready within_order;
    there = subst (All (λ h. h < length (value_links w.expressions))) (sym inits_same) inits_there;
    no_results = subst (λ is. All (λ h. is_result (kinds_of w.expressions) h ≡ false) (started (value_links w.expressions) is)) (sym inits_same) (began_no_results r es w.expressions (begun v) (order_of v) c.table c.expressions ready within_order (initialisers_in v) may.form.earlier refl begun_in may.form.no_results);
    body = subst (λ is. AreFine (length (value_links w.expressions)) (kinds_of w.expressions) (callees_of w.expressions) (value_links w.expressions) (started (value_links w.expressions) is) [] w.body) (sym inits_same) (subst (λ ts. AreFine (length (value_links w.expressions)) (kinds_of w.expressions) (callees_of w.expressions) (value_links w.expressions) (started (value_links w.expressions) (map to (initialisers_in v))) [] ts) (sym c.body) body_fine);
  }

  -- the source of a copy
  pub source_at : (h : ℕ) (e : Parts × Span) → slice_get w.expressions h ≡ Some e → (k : ℕ) × (a : Parts × Span) × (has (order_of v) k ≡ true) × (slice_get es k ≡ Some a) × (e.0 ≡ copied r c.table a.0)
  source_at h e at =
      let f = source_of r es w.expressions (begun v) (order_of v) c.table c.expressions ready within_order h (slice_get_within w.expressions h e at) in
      let i = has_at (order_of v) f.index f.source f.at in
      let x = copy_at r es w.expressions (begun v) (order_of v) c.table c.expressions ready within_order f.source i in
      let same : x.2 ≡ e = same_Some x.2 e (sym x.3 ∙ ap (slice_get w.expressions) f.goes ∙ at) in
      (f.source, x.0, i, x.1, ap (λ (y : Parts × Span). y.0) (sym same) ∙ x.4)

  operands-none : (f : ℕ → ℕ) (os : List (Option ℕ)) → flat_map option_to_list os ≡ [] → flat_map option_to_list (map (option_map f) os) ≡ []
  operands-none f [] e = refl
  operands-none f (None ∷ os) e = operands-none f os e
  operands-none f (Some k ∷ os) e = cc

  alone : StandAlone w.expressions
  alone h e at l =
      let x = source_at h e at in
      let low : x.1.0.kind < 13 = subst (λ (p : Parts). p.kind < 13) x.4 l in
      ap (λ (p : Parts). flat_map option_to_list p.operands) x.4 ∙ operands-none to x.1.0.operands (may.alone x.0 x.1 x.3 low)

  pub copy_form : MayBeCopied w
  copy_form = record { form = form; alone = alone }
