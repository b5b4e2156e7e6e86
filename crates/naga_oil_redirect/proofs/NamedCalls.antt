-- Modules that can be redirected have functions with names of their own, and call functions that are there.
use Rattle.std.proofs.Common.{◌≡◌, ◌∙◌, ℕ, zero, suc, ◌<◌, Bool, false, List, [], ◌∷◌, map, length, get_or, nat_eq, unwrap_or, slice_get, Option, Some, None, option_map, IsSome, Ok, string_bytes, All, refl, ap, sym, subst}
use Rattle.std.specs.List.{IsDistinct}
use Rattle.std.specs.Cmp.Lexicographic.{pointwise}
use Rattle.std.proofs.lemmas.Bool.{false≢true}
use Rattle.std.proofs.lemmas.List.{length-map}
use Rattle.std.proofs.lemmas.List.Elements.{All-from_recursion}
use Rattle.std.proofs.lemmas.Option.{none-some, same_Some, slice_get-map, slice_get_within, slice_get-get_or}
use Rattle.std.proofs.lemmas.Slice.Eq.{bytes_eq-Decides}
use Rattle.naga_oil_words.specs.Marks.{with_decoration}
use Rattle.naga_oil_ir.specs.Body.{block_tokens}
use Rattle.naga_oil_ir.specs.ModuleValue.{ModuleValue, FunctionValue, function_value, EntryValue, entry_value, module_value}
use Rattle.naga_oil_form.specs.NameForm.{Name, function_name}
use Rattle.naga_oil_form.specs.WellFormed.{EntryForm}
use Rattle.naga_oil_ir.specs.declared.module.EntryPoint.{EntryPoint}
use Rattle.naga_oil_ir.specs.declared.module.Function.{Function}
use Rattle.naga_oil_ir.specs.declared.module.Module.{Module}
use Rattle.naga_oil_ir.specs.declared.span.Span.{Span}
use Rattle.naga_oil_form.proofs.LinkLemmas.{linked-map}
use Rattle.naga_oil_derive.proofs.FormFunctions.{function_named}
use Rattle.naga_oil_redirect.specs.Chain.{CallsWithin, HasNamedCalls}
use Rattle.naga_oil_redirect.specs.ChainLaw.{BeginsChains, SendsOn, SendsApart, KeepsSent}
use Rattle.naga_oil_redirect.specs.Ordered.{callees_of, calls_of}
use Rattle.naga_oil_redirect.specs.PutInOrder.{put_in_order}
use Rattle.naga_oil_redirect.specs.Redirectable.{Redirectable}
use Rattle.naga_oil_redirect.specs.Redirected.{function_values, matched, redirected}
use Rattle.naga_oil_redirect.proofs.ChainLemmas.{start_law, step_law}
use Rattle.naga_oil_redirect.proofs.RedirectForm.{callees_below, stay_within}
use Rattle.naga_oil_redirect.proofs.TurnCalls.{order_law}

-- ---- distinct names

each_at : (P : Name → Type 0) (ns : List Name) (k : ℕ) (n : Name) → All P ns → slice_get ns k ≡ Some n → P n
each_at P ns k n h at =
    let l = slice_get_within ns k n at in
    subst P (same_Some (get_or ns k n) n (sym (slice_get-get_or ns k n l) ∙ at)) (h k n l)

apart_at : (ns : List Name) → IsDistinct (pointwise nat_eq) ns → (j k : ℕ) (n : Name) → slice_get ns j ≡ Some n → slice_get ns k ≡ Some n → j ≡ k
unfolding IsDistinct
apart_at [] d j k n a b = absurd (none-some n a)
apart_at (x ∷ ns) d zero zero n a b = refl
apart_at (x ∷ ns) d zero (suc k) n a b = absurd (false≢true (sym (each_at (λ y. pointwise nat_eq x y ≡ false) ns k n (All-from_recursion (λ y. pointwise nat_eq x y ≡ false) ns d.0) b) ∙ (bytes_eq-Decides x n).1 (same_Some x n a)))
apart_at (x ∷ ns) d (suc j) zero n a b = absurd (false≢true (sym (each_at (λ y. pointwise nat_eq x y ≡ false) ns j n (All-from_recursion (λ y. pointwise nat_eq x y ≡ false) ns d.0) a) ∙ (bytes_eq-Decides x n).1 (same_Some x n b)))
apart_at (x ∷ ns) d (suc j) (suc k) n a b = ap suc (apart_at ns d.1 j k n a b)

-- ---- a function as it stands

value_back : (o : Option (Function × Span)) (v : FunctionValue × Span) → option_map (λ e. (function_value e.0, e.1)) o ≡ Some v → (e : Function × Span) × (o ≡ Some e) × ((function_value e.0, e.1) ≡ v)
value_back None v h = absurd (none-some v h)
value_back (Some e) v h = (e, refl, same_Some (function_value e.0, e.1) v h)

entry_back : (o : Option EntryPoint) (v : EntryValue) → option_map entry_value o ≡ Some v → (e : EntryPoint) × (o ≡ Some e) × (entry_value e ≡ v)
entry_back None v h = absurd (none-some v h)
entry_back (Some e) v h = (e, refl, same_Some (entry_value e) v h)

module _ (m : Module) (h : Redirectable m) where
  abbrev decorated : Function × Span → Name
  decorated e = with_decoration [] (function_name e.0)

  at_value : (k : ℕ) (v : FunctionValue × Span) → slice_get (module_value m).functions k ≡ Some v → (e : Function × Span) × (slice_get m.functions k ≡ Some e) × ((function_value e.0, e.1) ≡ v)
  at_value k v at = value_back (slice_get m.functions k) v (sym (slice_get-map (λ (e : Function × Span). (function_value e.0, e.1)) m.functions k) ∙ at)

  as_many : length (calls_of (function_values m.functions)) ≡ length (module_value m).functions
  as_many = length-map (function_values m.functions) (λ (f : FunctionValue × Span). callees_of f.0.body)

  entry_within : (e : EntryPoint) → EntryForm m 4294967295 e → CallsWithin (module_value m) (entry_value e).function
  entry_within e f = subst (λ n. All (λ c. c < n) (callees_of (block_tokens e.function.body))) (sym (length-map m.functions (λ (e : Function × Span). (function_value e.0, e.1)))) (callees_below (length m.functions) 4294967295 (block_tokens e.function.body) f.function.statements)

  entry_form : (i : ℕ) (e : EntryPoint) → slice_get m.entry_points.items i ≡ Some e → EntryForm m 4294967295 e
  entry_form i e at =
      let l = slice_get_within m.entry_points.items i e at in
      subst (EntryForm m 4294967295) (same_Some (get_or m.entry_points.items i e) e (sym (slice_get-get_or m.entry_points.items i e l) ∙ at)) (h.entry_points i e l)

  pub named_calls : HasNamedCalls (module_value m)
  named_calls = record {
    named = λ k v at. let w = at_value k v at in subst (λ (x : FunctionValue × Span). IsSome x.0.name) w.2 (function_named m k w.0 w.1 h.names.named);
    distinct = λ j k u v at there same.
        let a = at_value j u at in
        let b = at_value k v there in
        let first = slice_get-map decorated m.functions j ∙ ap (option_map decorated) a.1 in
        let second = slice_get-map decorated m.functions k ∙ ap (option_map decorated) b.1 in
        let names : option_map string_bytes a.0.0.name ≡ option_map string_bytes b.0.0.name = ap (λ (x : FunctionValue × Span). x.0.name) a.2 ∙ same ∙ ap (λ (x : FunctionValue × Span). x.0.name) (sym b.2) in
        apart_at (map decorated m.functions) h.names.functions j k (decorated a.0) first (second ∙ ap (λ t. Some (with_decoration [] (unwrap_or t []))) (sym names));
    functions = λ k v at.
        subst (λ n. All (λ c. c < n) (callees_of v.0.body)) as_many (subst (λ cs. All (λ c. c < length (calls_of (function_values m.functions))) cs) (linked-map (λ (f : FunctionValue × Span). callees_of f.0.body) (function_values m.functions) k v at) (stay_within m h k));
    entry_points = λ i y at.
        let e = entry_back (slice_get m.entry_points.items i) y (sym (slice_get-map entry_value m.entry_points.items i) ∙ at) in
        subst (λ (x : EntryValue). CallsWithin (module_value m) x.function) e.2 (entry_within e.0 (entry_form i e.0 e.1));
  }

-- ---- calls as a redirector sends them

with_same : (v : ModuleValue) (fs gs : List (FunctionValue × Span)) (es ds : List EntryValue) → fs ≡ gs → es ≡ ds → record v { functions = fs; entry_points = es } ≡ record v { functions = gs; entry_points = ds }
with_same v fs gs es ds a b i = record v { functions = a i; entry_points = b i }

pub sends : (m : Module) (v : ModuleValue) (o r : Name) (omitted : Name → Bool) (pair : ℕ × ℕ) (fs : List (FunctionValue × Span)) (es : List EntryValue) → Redirectable m → module_value m ≡ v → matched v.functions o r ≡ Ok pair → fs ≡ (redirected (module_value m) pair.0 pair.1 omitted).functions → es ≡ (redirected (module_value m) pair.0 pair.1 omitted).entry_points → (let n = record (module_value m) { functions = fs; entry_points = es } in SendsOn o r omitted v n × SendsApart o v n)
sends m v o r omitted pair fs es h is e a b =
    let old = module_value m in
    let law = step_law old o r omitted pair (named_calls m h) (ap (λ (x : ModuleValue). matched x.functions o r) is ∙ e) in
    let new = with_same old fs _ es _ a b in
    subst (λ x. SendsOn o r omitted x (record old { functions = fs; entry_points = es }) × SendsApart o x (record old { functions = fs; entry_points = es })) is (subst (λ x. SendsOn o r omitted old x × SendsApart o old x) (sym new) (law.0, law.1))

pub keeps_order : (m : Module) (v n : ModuleValue) → Redirectable m → module_value m ≡ v → put_in_order v ≡ Ok n → KeepsSent v n
keeps_order m v n h is e = order_law v n (subst HasNamedCalls is (named_calls m h)) e

-- before a redirection each chain begins
pub begins_chains : (m : Module) → Redirectable m → BeginsChains (module_value m)
begins_chains m h base = start_law (module_value m) base (named_calls m h)
