-- The copy of a function, as a value.
use Rattle.std.proofs.Common.{◌≡◌, ℕ, zero, suc, ◌+◌, ◌-◌, ◌<◌, Bool, true, false, nat_lt, List, [], ◌∷◌, ◌++◌, length, map, replicate, get_or, slice_get, slice_set, option_map, Option, Some, None, Result, Ok, Err, IfOk, OnOk, refl, ap, sym, ◌∙◌, subst, arith}
use Rattle.std.specs.declared.alloc.AllocError.{AllocError}
use Rattle.std.proofs.lemmas.List.{length-map, map-append}
use Rattle.std.proofs.lemmas.Option.{slice_get-map}
use Rattle.naga_oil_ir.specs.Parts.{parts}
use Rattle.naga_oil_ir.specs.Places.{place_of, with_element}
use Rattle.naga_oil_ir.specs.Rows.{Text}
use Rattle.naga_oil_ir.specs.Body.{Tokens, block_tokens}
use Rattle.naga_oil_form.specs.BodyForm.{kinds, operand_links}
use Rattle.naga_oil_form.specs.Links.{started}
use Rattle.naga_oil_ir.specs.ModuleValue.{FunctionValue, ArgumentValue, LocalValue, expression_values, function_value}
use Rattle.naga_oil_form.specs.WellFormed.{initialisers}
use Rattle.naga_oil_ir.specs.declared.expression.Expression.{Expression}
use Rattle.naga_oil_ir.specs.declared.module.Function.{Function}
use Rattle.naga_oil_ir.specs.declared.module.FunctionResult.{FunctionResult}
use Rattle.naga_oil_ir.specs.declared.span.Span.{Span}
use Rattle.naga_oil_ir.specs.contracts.expression.ExpressionPartialEq.TheImpl.{ghosts}
use Rattle.naga_oil_walk.specs.declared.walk.Walk.{Walk}
use Rattle.naga_oil_derive.specs.Copies.{Values, Table, copied, under_table, range_under, value_links}
use Rattle.naga_oil_derive.specs.CopiedFunction.{ExpressionState, expression_state, copy_place, with_copy, copy_expression, expressions_upto, copy_expressions, function_with, body_renames, function_by, notes_in, copy_function}
use Rattle.naga_oil_derive.specs.Expressions.{IsCopyAt}
use Rattle.naga_oil_derive.specs.Functions.{argument_under, result_under, local_under, names_under, begun, order_of}
use Rattle.naga_oil_rename.specs.Renames.{Renames, rename_tokens}
use Rattle.naga_oil_walk.specs.Walk.{Notes, notes_after}
use Rattle.naga_oil_walk.specs.Walks.{Walks}
use Rattle.naga_oil_derive.proofs.CopyLoops.{links_of_values}
use Rattle.naga_oil_derive.proofs.Localizing.{kinds_of_values}
use Rattle.naga_oil_derive.proofs.LocalSteps.{begun_same, order_same}
use Rattle.naga_oil_derive.proofs.PutLemmas.{expression_place, expression_with}

-- ---- one copy

count : (es : List (Expression × Span)) → length es ≡ length (expression_values es)
count es = sym (length-map es (λ (e : Expression × Span). (parts e.0, e.1)))

on_ok : {A : Type 0} {P Q : Type 0} (r : Result A AllocError) → (P → Q) → OnOk r P → OnOk r Q
on_ok (Ok a) f p = f p
on_ok (Err e) f p = tt

pub placed_unique : (u : Bool) (es : List (Expression × Span)) (x : Expression) (r : Result ℕ AllocError) → u ≡ true → IfOk r (λ h. h ≡ place_of (λ e. ghosts.eq x e.0) es) → IfOk r (λ h. h ≡ copy_place u (expression_values es) (parts x))
placed_unique u es x r e h = subst (λ n. IfOk r (λ h. h ≡ n)) (expression_place x es ∙ sym (ap (λ b. copy_place b (expression_values es) (parts x)) e)) h

pub placed_last : (u : Bool) (es : List (Expression × Span)) (x : Expression) (r : Result ℕ AllocError) → u ≡ false → IfOk r (λ h. h ≡ length es) → IfOk r (λ h. h ≡ copy_place u (expression_values es) (parts x))
placed_last u es x r e h = subst (λ n. IfOk r (λ h. h ≡ n)) (count es ∙ sym (ap (λ b. copy_place b (expression_values es) (parts x)) e)) h

pub values_unique : (u : Bool) (es fs : List (Expression × Span)) (x : Expression) (s : Span) (r : Result ℕ AllocError) → u ≡ true → OnOk r (fs ≡ with_element (λ e. ghosts.eq x e.0) es (x, s)) → OnOk r (expression_values fs ≡ with_copy u (expression_values es) (parts x) s)
values_unique u es fs x s r e h = on_ok r (λ q. ap expression_values q ∙ expression_with x s es ∙ sym (ap (λ b. with_copy b (expression_values es) (parts x) s) e)) h

pub values_last : (u : Bool) (es fs : List (Expression × Span)) (x : Expression) (s : Span) (r : Result ℕ AllocError) → u ≡ false → OnOk r (fs ≡ es ++ (x, s) ∷ []) → OnOk r (expression_values fs ≡ with_copy u (expression_values es) (parts x) s)
values_last u es fs x s r e h = on_ok r (λ q. ap expression_values q ∙ map-append (λ (v : Expression × Span). (parts v.0, v.1)) es ((x, s) ∷ []) ∙ sym (ap (λ b. with_copy b (expression_values es) (parts x) s) e)) h

abbrev state_of : Table → Values → ExpressionState
state_of t v = record { table = t; values = v }

there : (es : List (Expression × Span)) (k : ℕ) → k < length es → (e : Expression × Span) × (slice_get es k ≡ Some e)
there [] k h = absurd (omega arith)
there (e ∷ es) zero h = (e, refl)
there (e ∷ es) (suc k) h = there es k (omega arith)

pub copied_at : (r : Renames) (source : List (Expression × Span)) (k : ℕ) (u : Bool) (t : Table) (es fs : List (Expression × Span)) (c : Expression × Span) (h : ℕ) → k < length source → IsCopyAt r t source k c → h ≡ copy_place u (expression_values es) (parts c.0) → expression_values fs ≡ with_copy u (expression_values es) (parts c.0) c.1 → expression_state (slice_set t k (Some h)) fs ≡ copy_expression r u (expression_state t es) k (slice_get (expression_values source) k)
copied_at r source k u t es fs c h l is place values =
    let x = there source k l in
    let g = is x.0 x.1 in
    let vs = expression_values es in
    let p = copied r t (parts x.0.0) in
    let from : slice_get (expression_values source) k ≡ Some (parts x.0.0, x.0.1) = slice_get-map (λ (e : Expression × Span). (parts e.0, e.1)) source k ∙ ap (option_map (λ (e : Expression × Span). (parts e.0, e.1))) x.1 in
    ap (λ n. state_of (slice_set t k (Some n)) (expression_values fs)) (place ∙ ap (copy_place u vs) g.0) ∙ ap (state_of (slice_set t k (Some (copy_place u vs p)))) (values ∙ ap (λ q. with_copy u vs q c.1) g.0 ∙ ap (with_copy u vs p) g.1) ∙ sym (ap (copy_expression r u (expression_state t es) k) from)

-- ---- all of them

pub upto_start : (r : Renames) (es : List (Expression × Span)) (o : List ℕ) (b : ℕ) (t : Table) (fs : List (Expression × Span)) → t ≡ replicate (length es) None → fs ≡ [] → expression_state t fs ≡ expressions_upto r (expression_values es) o b 0
unfolding expressions_upto
upto_start r es o b t fs e f = ap (λ x. state_of x (expression_values fs)) (e ∙ ap (λ n. replicate n None) (count es)) ∙ ap (λ x. state_of (replicate (length (expression_values es)) None) (expression_values x)) f

pub upto_step : (r : Renames) (es : Values) (o : List ℕ) (b i k : ℕ) (s u : ExpressionState) → k ≡ get_or o i 0 → s ≡ expressions_upto r es o b i → u ≡ copy_expression r (nat_lt i b) s k (slice_get es k) → u ≡ expressions_upto r es o b (i + 1)
unfolding expressions_upto
upto_step r es o b i k s u is e f =
    let n : suc i ≡ i + 1 = omega arith in
    f ∙ ap (λ x. copy_expression r (nat_lt i b) s x (slice_get es x)) is ∙ ap (λ x. copy_expression r (nat_lt i b) x (get_or o i 0) (slice_get es (get_or o i 0))) e ∙ ap (expressions_upto r es o b) n

pub upto_all : (r : Renames) (es fs : List (Expression × Span)) (o : List ℕ) (b i : ℕ) (s : ExpressionState) → es ≡ fs → i ≡ length o → s ≡ expressions_upto r (expression_values es) o b i → s ≡ copy_expressions r (expression_values fs) o b
upto_all r es fs o b i s same e h = h ∙ ap (λ x. expressions_upto r (expression_values x) o b i) same ∙ ap (expressions_upto r (expression_values fs) o b) e

-- ---- the function

abbrev function_of : Text → List ArgumentValue → Option FunctionResult → List (LocalValue × Span) → Values → List (ℕ × List ℕ) → Tokens → Option ℕ → FunctionValue
function_of n a r l e d b f = record { name = n; arguments = a; result = r; local_variables = l; expressions = e; named_expressions = d; body = b; diagnostic_filter_leaf = f }

notes_same : (f : Function) (w : Walk) → Walks f w → w.emitted.items ≡ notes_in (function_value f)
notes_same f w k =
    let v = function_value f in
    sym (ap (λ ks. notes_after ks (value_links v.expressions) (begun v) (replicate (length v.expressions) None) v.body) (kinds_of_values f.expressions) ∙ ap (λ ls. notes_after (kinds f.expressions) ls (begun v) (replicate (length v.expressions) None) v.body) (links_of_values f.expressions) ∙ ap (λ b. notes_after (kinds f.expressions) (operand_links f.expressions) b (replicate (length v.expressions) None) v.body) (begun_same f) ∙ ap (λ n. notes_after (kinds f.expressions) (operand_links f.expressions) (started (operand_links f.expressions) (initialisers f)) (replicate n None) v.body) (sym (count f.expressions)) ∙ sym k.emits)

-- the parts of a copy make the copy
pub function_same : (r : Renames) (f : Function) (w : Walk) (t : Table) (target : List (Expression × Span)) (ns : Notes) (m c : ℕ) (n : Text) (a : List ArgumentValue) (o : Option FunctionResult) (l : List (LocalValue × Span)) (d : List (ℕ × List ℕ)) (b : Tokens) → Walks f w → expression_state t target ≡ copy_expressions r (expression_values f.expressions) w.places.items w.began → ns ≡ w.emitted.items → m ≡ length target - (length w.places.items - w.began) → c ≡ length target → n ≡ (function_value f).name → a ≡ map (argument_under r) (function_value f).arguments → o ≡ option_map (result_under r) f.result → l ≡ map (local_under (under_table r t (range_under ns w.began m c))) (function_value f).local_variables → d ≡ names_under t [] (function_value f).named_expressions → b ≡ rename_tokens (under_table r t (range_under ns w.began m c)) (block_tokens f.body) → function_of n a o l (expression_values target) d b None ≡ copy_function r (function_value f)
unfolding copy_function
function_same r f w t target ns m c n a o l d b k s emitted merged counted name arguments outcome locals named body =
    let v = function_value f in
    let S = expression_state t target in
    let ps = w.places.items in
    let g = w.began in
    let es = expression_values target in
    let u = under_table r t (range_under ns g m c) in
    let parts_same : function_of n a o l es d b None ≡ function_with r v S u = ap (λ q. function_of q a o l es d b None) name ∙ ap (λ q. function_of v.name q o l es d b None) arguments ∙ ap (λ q. function_of v.name (map (argument_under r) v.arguments) q l es d b None) outcome ∙ ap (λ q. function_of v.name (map (argument_under r) v.arguments) (option_map (result_under r) v.result) q es d b None) locals ∙ ap (λ q. function_of v.name (map (argument_under r) v.arguments) (option_map (result_under r) v.result) (map (local_under u) v.local_variables) es q b None) named ∙ ap (λ q. function_of v.name (map (argument_under r) v.arguments) (option_map (result_under r) v.result) (map (local_under u) v.local_variables) es (names_under t [] v.named_expressions) q None) body in
    let merged_same = merged ∙ ap (λ q. q - (length ps - g)) (count target) in
    let counted_same = counted ∙ count target in
    parts_same ∙ ap (λ q. function_with r v S (under_table r t (range_under q g m c))) emitted ∙ ap (λ q. function_with r v S (under_table r t (range_under w.emitted.items g q c))) merged_same ∙ ap (λ q. function_with r v S (under_table r t (range_under w.emitted.items g (length es - (length ps - g)) q))) counted_same ∙ ap (λ q. function_with r v q (body_renames r q ps g w.emitted.items)) s ∙ ap (λ q. function_by r v q g w.emitted.items) (k.listed.order ∙ sym (order_same f)) ∙ ap (λ q. function_by r v (order_of v) q w.emitted.items) (k.listed.began ∙ ap length (sym (begun_same f))) ∙ ap (function_by r v (order_of v) (length (begun v))) (notes_same f w k)
