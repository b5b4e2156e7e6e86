-- Functions that are imported in their order can be, and so can the entry points then.
use Rattle.std.proofs.Common.{◌≡◌, ◌∙◌, ⊎_elim, inl, ℕ, zero, suc, ◌+◌, ◌<◌, ◌||◌, ◌==◌, true, List, [], ◌∷◌, length, take, get_or, slice_get, Option, Some, None, IsSome, is_some, IfSome, option_map, Ok, All, refl, ap, sym, subst, arith}
use Rattle.std.proofs.lemmas.Bool.{or_cases, false≢true}
use Rattle.std.proofs.lemmas.List.{take_more}
use Rattle.std.proofs.lemmas.List.Sums.{fold_more}
use Rattle.std.proofs.lemmas.List.Elements.{All-nil, All-cons, All-head, All-tail}
use Rattle.std.proofs.lemmas.Option.{slice_get_within, slice_get-get_or, slice_get-map, same_Some}
use Rattle.naga_oil_ir.specs.Body.{Tokens, block_tokens}
use Rattle.naga_oil_form.specs.BodyForm.{IsTokenFine}
use Rattle.naga_oil_form.specs.Links.{linked, has}
use Rattle.naga_oil_ir.specs.ModuleValue.{ModuleValue, FunctionValue, function_value, module_value}
use Rattle.naga_oil_form.specs.WellFormed.{FunctionForm}
use Rattle.naga_oil_ir.specs.declared.module.Function.{Function}
use Rattle.naga_oil_ir.specs.declared.module.Module.{Module}
use Rattle.naga_oil_ir.specs.declared.span.Span.{Span}
use Rattle.naga_oil_ir.specs.declared.tokens.Token.TheVariants.{Callee}
use Rattle.naga_oil_form.proofs.LinkLemmas.{or_left, or_right, eq_eqb, has-append, only, linked-map}
use Rattle.naga_oil_derive.specs.World.{value_of}
use Rattle.naga_oil_derive.specs.Answered.{import_copy}
use Rattle.naga_oil_derive.specs.CopiedEntry.{make_module}
use Rattle.naga_oil_derive.specs.Derived.{Source, Derived, nothing, KeepsSource}
use Rattle.naga_oil_derive.specs.DerivedFunctions.{Meanings, meant, meant_at, MayCopy, MayCall, CanImport, KeepsFunctions}
use Rattle.naga_oil_derive.specs.DerivedEntries.{CanCopyEntries}
use Rattle.naga_oil_derive.specs.DerivedValue.{by_source, importing_of, after_importing, import_function, set_source}
use Rattle.naga_oil_redirect.specs.Level.{StayWithin}
use Rattle.naga_oil_redirect.specs.Ordered.{callees_of, calls_of, ordered}
use Rattle.naga_oil_redirect.specs.PutInOrder.{import_one, import_in_turn, in_turn, in_turn_if, put_in_order}
use Rattle.naga_oil_redirect.specs.Redirectable.{Redirectable}
use Rattle.naga_oil_redirect.specs.Redirected.{function_values}
use Rattle.naga_oil_derive.proofs.EntrySteps.{meant_later}
use Rattle.naga_oil_derive.proofs.FormEntries.{HasSource, source_copy, entries_can}
use Rattle.naga_oil_derive.proofs.FormFunctions.{CallsIn, form_copy, function_named}
use Rattle.naga_oil_derive.proofs.FunctionValues.{seen, functions_length, functions_at}
use Rattle.naga_oil_derive.proofs.MeaningLemmas.{meaning_same}
use Rattle.naga_oil_redirect.proofs.RedirectForm.{stay_within}
use Rattle.naga_oil_redirect.proofs.TurnLemmas.{callees_before, each_in_order}

-- ---- the source stays

source_on : (v : ModuleValue) (a b : Option Source) → KeepsSource a b → IsSome a × IfSome a (λ s. s.value ≡ v) → IsSome b × IfSome b (λ s. s.value ≡ v)
source_on v None b k h = absurd (false≢true h.0)
source_on v (Some s) None k h = absurd k
source_on v (Some s) (Some t) k h = (refl, k.value ∙ h.1)

pub source_kept : (v : ModuleValue) (d e : Derived) → KeepsFunctions d e → HasSource v d → HasSource v e
source_kept v d e k h = source_on v d.source e.source k.source h

-- ---- functions that are known

-- the names of the functions at some places are known
abbrev pub AreKnown : ModuleValue → List ℕ → Derived → Type 0
AreKnown v ks d = (k : ℕ) → has ks k ≡ true → IsSome (meant_at d.function_names (slice_get v.functions k))

pub none_known : (v : ModuleValue) (d : Derived) → AreKnown v [] d
none_known v d k h = absurd (false≢true h)

import_means : (d : Derived) (g : FunctionValue) (span : Span) (o : Option Source) → IsSome o → IsSome g.name → IsSome (meant (by_source d (λ s. after_importing s (import_copy (length s.value.functions) s.value s.offset (importing_of d s) g span)) o).function_names g.name)
import_means d g span None h n = absurd (false≢true h)
import_means d g span (Some s) h n = ap is_some (meaning_same _ g.name _ n)

-- one function more
pub known_more : (v : ModuleValue) (d e : Derived) (ks : List ℕ) (i : ℕ) (g : FunctionValue × Span) → i < length ks → AreKnown v (take i ks) d → slice_get v.functions (get_or ks i 0) ≡ Some g → KeepsFunctions d e → HasSource v d → IsSome g.0.name → e ≡ import_function d g.0 g.1 → AreKnown v (take (i + 1) ks) e
known_more v d e ks i g l so_far at keeps own named imported k among =
    let split : (has (take i ks) k || has (get_or ks i 0 ∷ []) k) ≡ true = sym (has-append (take i ks) (get_or ks i 0 ∷ []) k) ∙ ap (λ xs. has xs k) (sym (take_more ks i 0 l)) ∙ among in
    let means = subst (λ (x : Derived). IsSome (meant x.function_names g.0.name)) (sym imported) (import_means d g.0 g.1 d.source own.0 named) in
    let there = λ (same : get_or ks i 0 ≡ k). subst (λ (o : Option (FunctionValue × Span)). IsSome (meant_at e.function_names o)) (sym at ∙ ap (slice_get v.functions) same) means in
    ⊎_elim (λ a. meant_later d.function_names e.function_names (slice_get v.functions k) keeps.names (so_far k a)) (λ a. there (only (get_or ks i 0) k a)) (or_cases (has (take i ks) k) (has (get_or ks i 0 ∷ []) k) split)

-- ---- a function whose callees are known

known_call : (m : ModuleValue) (ns : Meanings) (n k : ℕ) → IsSome (meant_at ns (slice_get m.functions k)) → MayCall m ns n k
known_call m ns zero k h = h
known_call m ns (suc n) k h = inl h

calls_known : (m : Module) (P : ℕ → Type 0) (n : ℕ) (ts : Tokens) → All (IsTokenFine (length m.functions) n) ts → ((g : ℕ) → g < length m.functions → has (callees_of ts) g ≡ true → P g) → All (CallsIn m P) ts
calls_known m P n [] h known = All-nil (CallsIn m P)
calls_known m P n (Callee f ∷ ts) h known =
    let l : f < length m.functions = All-head (IsTokenFine (length m.functions) n) (Callee f) ts h in
    All-cons (CallsIn m P) (Callee f) ts (l, known f l (or_left (f == f) (has (callees_of ts) f) (eq_eqb f f refl))) (calls_known m P n ts (All-tail (IsTokenFine (length m.functions) n) (Callee f) ts h) (λ g i c. known g i (or_right (f == g) (has (callees_of ts) g) c)))
calls_known m P n (t ∷ ts) h known = All-cons (CallsIn m P) t ts tt (calls_known m P n ts (All-tail (IsTokenFine (length m.functions) n) t ts h) known)

turn_copy : (m : Module) (ns : Meanings) (n : ℕ) (f : Function) → FunctionForm m (length m.functions) n f → ((g : ℕ) → g < length m.functions → has (callees_of (block_tokens f.body)) g ≡ true → IsSome (meant_at ns (slice_get (value_of m).functions g))) → MayCopy (value_of m) (MayCall (value_of m) ns (length (value_of m).functions)) (function_value f)
turn_copy m ns n f h known =
    let P = MayCall (value_of m) ns (length (value_of m).functions) in
    form_copy m P (length m.functions) n f h (calls_known m P n (block_tokens f.body) h.statements (λ g l c. known_call (value_of m) ns (length (value_of m).functions) g (known g l c)))

values_at : (m : Module) → (value_of m).functions ≡ function_values m.functions
unfolding value_of
values_at m = refl

-- ---- one after another

-- what the function at a place calls
callees_at : (m : Module) (k : ℕ) (e : Function × Span) → slice_get m.functions k ≡ Some e → linked (calls_of (value_of m).functions) k ≡ callees_of (block_tokens e.0.body)
callees_at m k e at =
    let calls = λ (x : FunctionValue × Span). callees_of x.0.body in
    let there : slice_get (function_values m.functions) k ≡ Some (seen e) = slice_get-map seen m.functions k ∙ ap (option_map seen) at in
    ap (λ (fs : List (FunctionValue × Span)). linked (calls_of fs) k) (values_at m) ∙ linked-map calls (function_values m.functions) k (seen e) there

at_place : (m : Module) (P : Function × Span → Type 0) (k : ℕ) (e : Function × Span) → slice_get m.functions k ≡ Some e → All P m.functions → P e
at_place m P k e at h =
    let l = slice_get_within m.functions k e at in
    subst P (same_Some (get_or m.functions k e) e (sym (slice_get-get_or m.functions k e l) ∙ at)) (h k e l)

-- where the functions before a place are known, the one there can be imported
pub turn_import : (m : Module) (d : Derived) (os : List ℕ) (i : ℕ) (e : Function × Span) → Redirectable m → HasSource (value_of m) d → ordered (value_of m).functions ≡ Ok os → i < length os → slice_get m.functions (get_or os i 0) ≡ Some e → AreKnown (value_of m) (take i os) d → CanImport d (function_value e.0)
turn_import m d os i e h own order l at known =
    let k = get_or os i 0 in
    let stay = subst (λ (fs : List (FunctionValue × Span)). StayWithin (calls_of fs)) (sym (values_at m)) (stay_within m h) in
    let form = at_place m (λ x. FunctionForm m (length m.functions) 4294967295 x.0) k e at h.functions in
    let callees = λ (g : ℕ) (c : has (callees_of (block_tokens e.0.body)) g ≡ true). known g (callees_before (value_of m).functions stay os i order l g (ap (λ xs. has xs g) (callees_at m k e at) ∙ c)) in
    (source_copy m d (function_value e.0) own (turn_copy m d.function_names 4294967295 e.0 form (λ g j c. callees g c)), function_named m k e at h.names.named)

-- where all are known, the entry points can be copied
pub turn_entries : (m : Module) (d : Derived) (os : List ℕ) → Redirectable m → HasSource (value_of m) d → ordered (value_of m).functions ≡ Ok os → AreKnown (value_of m) os d → CanCopyEntries d
turn_entries m d os h own order known =
    let there = λ (g : ℕ) (l : g < length m.functions). each_in_order (value_of m).functions os order g (let size = functions_length m in omega (arith, l, size)) in
    entries_can m d 4294967295 own (λ f form. source_copy m d (function_value f) own (turn_copy m d.function_names 4294967295 f form (λ g l c. known g (there g l)))) h.entry_points

-- ---- one function after another

pub source_set : (v : ModuleValue) (shift : ℕ) (d e : Derived) → e ≡ set_source d v shift → HasSource v e
source_set v shift d e h = subst (HasSource v) (sym h) (refl, refl)

-- what stands at a place of the order
pub entry_of : (fs : List (Function × Span)) (k : ℕ) (e : Function × Span) → k < length fs → e ≡ get_or fs k e → slice_get fs k ≡ Some e
entry_of fs k e l is = slice_get-get_or fs k e l ∙ ap Some (sym is)

pub value_entry : (m : Module) (k : ℕ) (e : Function × Span) → slice_get m.functions k ≡ Some e → slice_get (value_of m).functions k ≡ Some (seen e)
value_entry m k e at = functions_at m k ∙ ap (option_map seen) at

pub in_turn_more : (v : ModuleValue) (d e f : Derived) (ks : List ℕ) (i : ℕ) (g : FunctionValue × Span) → i < length ks → e ≡ import_in_turn v d (take i ks) → slice_get v.functions (get_or ks i 0) ≡ Some g → f ≡ import_function e g.0 g.1 → f ≡ import_in_turn v d (take (i + 1) ks)
in_turn_more v d e f ks i g l so_far at imported =
    imported ∙ ap (λ x. import_function x g.0 g.1) so_far ∙ ap (import_one (import_in_turn v d (take i ks))) (sym at) ∙ sym (fold_more (λ x k. import_one x (slice_get v.functions k)) d ks i 0 l)

pub in_turn_made : (v w : ModuleValue) (d e : Derived) (ks : List ℕ) → d ≡ nothing → e ≡ import_in_turn v (set_source d v 0) ks → w ≡ make_module e → w ≡ in_turn v ks
unfolding in_turn
in_turn_made v w d e ks first turned made = made ∙ ap make_module (turned ∙ ap (λ x. import_in_turn v (set_source x v 0) ks) first)

pub order_value : (m : Module) (os : List ℕ) → ordered (function_values m.functions) ≡ Ok os → ordered (value_of m).functions ≡ Ok os
order_value m os e = ap ordered (values_at m) ∙ e

pub put_in_order_ok : (m n : Module) (v : ModuleValue) (fs : List (Function × Span)) (os ks : List ℕ) → module_value m ≡ v → fs ≡ m.functions → ordered (function_values fs) ≡ Ok os → ks ≡ os → value_of n ≡ in_turn (value_of m) ks → put_in_order v ≡ Ok (module_value n)
unfolding value_of
put_in_order_ok m n v fs os ks seen own order same turned =
    let places : ordered v.functions ≡ Ok ks = ap (λ (x : ModuleValue). ordered x.functions) (sym seen) ∙ ap (λ xs. ordered (function_values xs)) (sym own) ∙ order ∙ ap Ok (sym same) in
    ap (in_turn_if v) places ∙ ap (λ x. Ok (in_turn x ks)) (sym seen) ∙ ap Ok (sym turned)
