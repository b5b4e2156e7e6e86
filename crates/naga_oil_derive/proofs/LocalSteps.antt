-- A function's copy, from the copies of its expressions.
use Rattle.std.proofs.Common.{◌≡◌, ℕ, ◌+◌, ◌-◌, ◌<◌, ◌≤◌, Bool, true, false, List, [], ◌∷◌, ◌++◌, length, map, get_or, slice_get, option_to_list, Option, Some, None, cond, nat_eq, String, string_bytes, Global, refl, ap, sym, ◌∙◌, subst, arith}
use Rattle.std.specs.List.{flat_map}
use Rattle.std.specs.Option.{option_flatten}
use Rattle.std.specs.Borrow.{Bor}
use Rattle.std.specs.Map.Iter.{deref_pair}
use Rattle.indexmap.specs.IndexMap.{insert_entry}
use Rattle.std.proofs.lemmas.List.{length-append, length-map, map-append}
use Rattle.std.proofs.lemmas.Option.{none-some}
use Rattle.naga_oil_ir.specs.Parts.{parts}
use Rattle.naga_oil_ir.specs.Body.{block_tokens}
use Rattle.naga_oil_form.specs.BodyForm.{kinds, operand_links}
use Rattle.naga_oil_form.specs.Links.{Links, started}
use Rattle.naga_oil_ir.specs.ModuleValue.{expression_values, function_value}
use Rattle.naga_oil_form.specs.WellFormed.{initialisers}
use Rattle.naga_oil_ir.specs.declared.expression.Expression.{Expression}
use Rattle.naga_oil_ir.specs.declared.module.Function.{Function}
use Rattle.naga_oil_ir.specs.declared.span.Span.{Span}
use Rattle.naga_oil_rename.specs.Renames.{Renames}
use Rattle.naga_oil_walk.specs.Walk.{listed, walked, AreWithin, IsReachOrder}
use Rattle.naga_oil_walk.specs.Walks.{Walks}
use Rattle.naga_oil_derive.specs.Copies.{Table, value_links, FitIn}
use Rattle.naga_oil_derive.specs.Functions.{begun, order_of, named_values, names_under, name_put}
use Rattle.naga_oil_derive.specs.CopiedFunction.{ExpressionState, expression_state, copy_expressions}
use Rattle.naga_oil_walk.specs.declared.walk.Walk.{Walk}
use Rattle.naga_oil_derive.proofs.CopyLoops.{links_of_values}
use Rattle.naga_oil_derive.proofs.FunctionLaws.{placed_upto}
use Rattle.naga_oil_derive.proofs.Localizing.{kinds_of_values, inits_of_values, names-push}
use Rattle.naga_oil_walk.proofs.WalkNotes.{added-grows}

-- ---- what a walk lists

-- what initialisers reach is within the order
pub began_within : (f : Function) (w : Walk) → Walks f w → w.began ≤ length w.places.items
began_within f w k =
    let ls = operand_links f.expressions in
    let s = started ls (initialisers f) in
    let g = added-grows (flat_map (listed (kinds f.expressions) ls) (block_tokens f.body)) s in
    let e : length w.places.items ≡ length s + length g.0 = ap length (k.listed.order ∙ g.1) ∙ length-append s g.0 in
    let b = k.listed.began in
    omega (arith, e, b)

pub begun_same : (f : Function) → begun (function_value f) ≡ started (operand_links f.expressions) (initialisers f)
begun_same f = ap (λ (ls : Links). started ls (flat_map (λ l. option_to_list l.0.init) (function_value f).local_variables)) (links_of_values f.expressions) ∙ ap (started (operand_links f.expressions)) (inits_of_values f.local_variables)

pub order_same : (f : Function) → order_of (function_value f) ≡ walked (kinds f.expressions) (operand_links f.expressions) (initialisers f) (block_tokens f.body)
order_same f =
    let v = function_value f in
    let is : List ℕ = flat_map (λ l. option_to_list l.0.init) v.local_variables in
    ap (λ ks. walked ks (value_links v.expressions) is v.body) (kinds_of_values f.expressions) ∙ ap (λ ls. walked (kinds f.expressions) ls is v.body) (links_of_values f.expressions) ∙ ap (λ xs. walked (kinds f.expressions) (operand_links f.expressions) xs v.body) (inits_of_values f.local_variables)

-- ---- the copies of a function's expressions

value_count : (es : List (Expression × Span)) → length (expression_values es) ≡ length es
value_count es = length-map es (λ (e : Expression × Span). (parts e.0, e.1))

-- each expression that no initialiser reaches has a copy of its own
pub counted : (r : Renames) (f : Function) (w : Walk) (t : Table) (target : List (Expression × Span)) → Walks f w → expression_state t target ≡ copy_expressions r (expression_values f.expressions) w.places.items w.began → length w.places.items - w.began ≤ length target
counted r f w t target k e =
    let es = expression_values f.expressions in
    let o = w.places.items in
    let ready : IsReachOrder (value_links es) o = subst (λ ls. IsReachOrder ls o) (sym (links_of_values f.expressions)) k.listed.ready in
    let size = length-map f.expressions (λ (e : Expression × Span). flat_map option_to_list (parts e.0).operands) in
    let n = value_count f.expressions in
    let within : (j : ℕ) → j < length o → get_or o j 0 < length es = λ j l. (let h = k.listed.within j 0 l in omega (arith, h, size, n)) in
    let p = (placed_upto r es o w.began ready within (length o) (omega arith)).single (began_within f w k) in
    let c = p.2.count refl in
    let v = ap (λ (s : ExpressionState). length s.values) e in
    let m = value_count target in
    omega (arith, c, v, m)

-- what is noted of emitted ranges stands among the copies
fits_in : (o : Option (Option (ℕ × ℕ))) (p : ℕ × ℕ) → option_flatten o ≡ Some p → o ≡ Some (Some p)
fits_in None p e = absurd (none-some p e)
fits_in (Some q) p e = ap Some e

pub local_fits : (f : Function) (w : Walk) (m c : ℕ) → Walks f w → length w.places.items - w.began ≤ c → m ≡ c - (length w.places.items - w.began) → FitIn w.began m c w.emitted.items
local_fits f w m c k count e l b x h =
    let within : AreWithin w.began w.places.items w.emitted.items = subst (λ n. AreWithin n w.places.items w.emitted.items) (sym k.listed.began) k.listed.notes in
    let q = within l b x (fits_in (slice_get w.emitted.items l) (b, x) h) in
    let a = q.0 in
    let d = q.1 in
    let g = q.2 in
    (a, d, omega (arith, a, d, g, count, e))

-- ---- names

name_cond : (b : Bool) (e : ℕ × String Global) (v : String Global) (es rest : List (ℕ × String Global)) → named_values (cond b ((e.0, v) ∷ es) (e ∷ rest)) ≡ cond b ((e.0, string_bytes v) ∷ named_values es) ((e.0, string_bytes e.1) ∷ named_values rest)
name_cond true e v es rest = refl
name_cond false e v es rest = refl

-- to insert a name is to insert its bytes
pub named_put : (es : List (ℕ × String Global)) (k : ℕ) (v : String Global) → named_values (insert_entry nat_eq es k v) ≡ insert_entry nat_eq (named_values es) k (string_bytes v)
named_put [] k v = refl
named_put (e ∷ es) k v =
    name_cond (nat_eq k e.0) e v es (insert_entry nat_eq es k v) ∙ ap (λ (xs : List (ℕ × List ℕ)). cond (nat_eq k e.0) ((e.0, string_bytes v) ∷ named_values es) ((e.0, string_bytes e.1) ∷ xs)) (named_put es k v)

-- one name more
pub names_more : (t : Table) (ys : List (Bor ℕ × Bor (String Global))) (x : Bor ℕ × Bor (String Global)) (o : Option ℕ) (old new : List (ℕ × String Global)) → o ≡ option_flatten (slice_get t x.0.now) → named_values old ≡ names_under t [] (named_values (map deref_pair ys)) → named_values new ≡ name_put o (string_bytes x.1.now) (named_values old) → named_values new ≡ names_under t [] (named_values (map deref_pair (ys ++ x ∷ [])))
names_more t ys x o old new e i p =
    let done = names_under t [] (named_values (map deref_pair ys)) in
    let split : named_values (map deref_pair (ys ++ x ∷ [])) ≡ named_values (map deref_pair ys) ++ (x.0.now, string_bytes x.1.now) ∷ [] = ap named_values (map-append deref_pair ys (x ∷ [])) ∙ map-append (λ (q : ℕ × String Global). (q.0, string_bytes q.1)) (map deref_pair ys) (deref_pair x ∷ []) in
    p ∙ ap (λ (q : Option ℕ). name_put q (string_bytes x.1.now) (named_values old)) e ∙ ap (name_put (option_flatten (slice_get t x.0.now)) (string_bytes x.1.now)) i ∙ sym (ap (names_under t []) split ∙ names-push t (named_values (map deref_pair ys)) (x.0.now, string_bytes x.1.now) [])
