-- Functions and items that are imported one after another.
use Rattle.std.proofs.Common.{◌≡◌, ◌⊎◌, inl, inr, ⊎_elim, ℕ, ◌<◌, ◌≤◌, ◌+◌, is_some, Bool, true, false, if◌then◌else◌, map, List, [], ◌∷◌, ◌++◌, length, Option, Some, None, slice_get, refl, ap, sym, ◌∙◌, subst, arith, All, IfSome}
use Rattle.std.specs.List.{fold, filter}
use Rattle.std.proofs.lemmas.Bool.{false≢true}
use Rattle.std.proofs.lemmas.List.{append_assoc, length-append}
use Rattle.std.proofs.lemmas.List.Elements.{All-nil, All-head, All-tail}
use Rattle.std.proofs.lemmas.Option.{none-some}
use Rattle.naga_oil_form.specs.BodyForm.{is_result, IsSpanFine, IsTokenFine}
use Rattle.naga_oil_ir.specs.ModuleValue.{ModuleValue, FunctionValue}
use Rattle.naga_oil_ir.specs.declared.tokens.Token.TheVariants.{GiveCall}
use Rattle.naga_oil_ir.specs.Rows.{Text}
use Rattle.naga_oil_ir.specs.declared.names.ItemPlace.{ItemPlace}
use Rattle.naga_oil_ir.specs.declared.names.ItemPlace.TheVariants.{TypeItem}
use Rattle.naga_oil_ir.specs.declared.span.Span.{Span}
use Rattle.naga_oil_derive.specs.CopiedEntry.{make_module}
use Rattle.naga_oil_derive.specs.Tree.{Kept}
use Rattle.naga_oil_derive.specs.World.{kept_of}
use Rattle.naga_oil_derive.specs.Derived.{Source, Derived}
use Rattle.naga_oil_derive.specs.DerivedFunctions.{Meanings, meant, requests_of}
use Rattle.naga_oil_derive.specs.DerivedValue.{import_item, rename_type, set_source, import_function, import_function_if_new, importing_of}
use Rattle.naga_oil_derive.specs.Answered.{answer_one, answer_by, import_callee, import_copy_by}
use Rattle.naga_oil_derive.specs.CopiedLaw.{HasAt}
use Rattle.naga_oil_form_laws.specs.DerivedForm.{IsFormed, MayCome}
use Rattle.naga_oil_form_laws.specs.EntryForm.{IsEntryFormed, AreEntriesFormed, IsModuleFormed}
use Rattle.naga_oil_form_laws.specs.FunctionForm.{IsNamedThere, NamesFunctionAsResult, IsFunctionFormed, AreFunctionsFormed}
use Rattle.naga_oil_form_laws.specs.TurnForm.{IsFormedOf, KeepsFormed, IsNameBefore, MayComeInTurn, no_name, IsKnownIn, import_functions, import_new_functions, stub}
use Rattle.naga_oil_form_laws.proofs.EntryLemmas.{module_made}
use Rattle.naga_oil_form_laws.proofs.FormedLemmas.{imported, renamed, source_set, import_begins, import_ends}
use Rattle.naga_oil_form_laws.proofs.ImportLemmas.{meaning_cases, calls_before, copy_imports, each_comes}

abbrev derivation : Option Source → ModuleValue → Meanings → Derived
derivation o t ns = record { source = o; target = t; function_names = ns }

-- ---- one function

-- a function is imported, and only its name and those of functions before a place are known then that weren't
record Came (first : Kept) (m : ModuleValue) (c : ℕ) (v : FunctionValue) (d e : Derived) : Type 0 where
  formed : IsFormedOf first m e
  new : (x : Text) → IsKnownIn e x → IsKnownIn d x ⊎ (IsNameBefore m c x ⊎ (x ≡ v.name))

come_some : (first : Kept) (s : Source) (t : ModuleValue) (ns : Meanings) (c : ℕ) (v : FunctionValue) (span : Span) → IsFormed first (derivation (Some s) t ns) → MayCome s.value c v span → meant ns v.name ≡ None → Came first s.value c v (derivation (Some s) t ns) (import_function (derivation (Some s) t ns) v span)
come_some first s t ns c v span f h n =
    let i = importing_of (derivation (Some s) t ns) s in
    let size = length s.value.functions in
    let call = import_callee size s.value s.offset in
    let j = answer_by (answer_one call s.value s.offset) i (requests_of v) in
    let come = copy_imports first s c call i v span (calls_before first s f.source size c h.among) h (import_begins first s t ns f) n in
    record {
      formed = record { formed = import_ends first s (import_copy_by call s.value s.offset i v span) f.source come.0; source = record { set = refl; value = refl } };
      new = λ x k. ⊎_elim (λ old. ⊎_elim (λ y. inl (k.0, y)) (λ y. inr (inl y)) (come.1.new x k.0 old)) (λ y. inr (inr y.0)) (meaning_cases j.names v.name x (length j.functions) k.0 k.1);
    }

come_any : (first : Kept) (m : ModuleValue) (o : Option Source) (t : ModuleValue) (ns : Meanings) (c : ℕ) (v : FunctionValue) (span : Span) → IsFormedOf first m (derivation o t ns) → MayCome m c v span → meant ns v.name ≡ None → Came first m c v (derivation o t ns) (import_function (derivation o t ns) v span)
come_any first m None t ns c v span f h n = absurd (false≢true f.source.set)
come_any first m (Some s) t ns c v span f h n =
    subst (λ (x : ModuleValue). Came first x c v (derivation (Some s) t ns) (import_function (derivation (Some s) t ns) v span)) f.source.value (come_some first s t ns c v span f.formed (subst (λ (x : ModuleValue). MayCome x c v span) (sym f.source.value) h) n)

function_came : (first : Kept) (m : ModuleValue) (d : Derived) (c : ℕ) (v : FunctionValue) (span : Span) → IsFormedOf first m d → MayCome m c v span → meant d.function_names v.name ≡ None → Came first m c v d (import_function d v span)
function_came first m d c v span f h n = come_any first m d.source d.target d.function_names c v span f h n

unknown : (o : Option ℕ) → ((h : ℕ) → o ≡ Some h → ⊥) → o ≡ None
unknown None f = refl
unknown (Some h) f = absurd (f h refl)

-- ---- one after another

fewer_names : (m : ModuleValue) (K L : Text → Type 0) (vs : List (FunctionValue × Span)) → ((x : Text) → L x → K x) → MayComeInTurn m K vs → MayComeInTurn m L vs
fewer_names m K L [] f h = tt
fewer_names m K L (v ∷ vs) f h =
    (h.0, h.1, (λ x. h.2 (f v.0.name x)), fewer_names m (λ x. K x ⊎ (IsNameBefore m h.0 x ⊎ (x ≡ v.0.name))) (λ x. L x ⊎ (IsNameBefore m h.0 x ⊎ (x ≡ v.0.name))) vs (λ x y. ⊎_elim (λ l. inl (f x l)) inr y) h.3)

pub functions_in_turn : (first : Kept) (m : ModuleValue) (d : Derived) (vs : List (FunctionValue × Span)) → IsFormedOf first m d → MayComeInTurn m (IsKnownIn d) vs → IsFormedOf first m (import_functions d vs)
functions_in_turn first m d [] f h = f
functions_in_turn first m d (v ∷ vs) f h =
    let n = unknown (meant d.function_names v.0.name) (λ k e. h.2 (k, e)) in
    let one = function_came first m d h.0 v.0 v.1 f h.1 n in
    functions_in_turn first m (import_function d v.0 v.1) vs one.formed (fewer_names m (λ x. IsKnownIn d x ⊎ (IsNameBefore m h.0 x ⊎ (x ≡ v.0.name))) (IsKnownIn (import_function d v.0 v.1)) vs one.new h.3)

before_later : (m : ModuleValue) (k n : ℕ) (x : Text) → k ≤ n → IsNameBefore m k x → IsNameBefore m n x
before_later m k n x l y = let a = y.2 in (y.0, y.1, omega (arith, a, l), y.3, y.4)

get_after : (xs : List (FunctionValue × Span)) (x : FunctionValue × Span) (ys : List (FunctionValue × Span)) → slice_get (xs ++ x ∷ ys) (length xs) ≡ Some x
get_after [] x ys = refl
get_after (y ∷ xs) x ys = get_after xs x ys

-- all functions of a module
rest_in_turn : (m : ModuleValue) → AreFunctionsFormed m 4294967295 → (vs done : List (FunctionValue × Span)) → m.functions ≡ done ++ vs → MayComeInTurn m (IsNameBefore m (length done)) vs
rest_in_turn m f [] done e = tt
rest_in_turn m f (v ∷ vs) done e =
    let k = length done in
    let split : m.functions ≡ (done ++ v ∷ []) ++ vs = e ∙ sym (append_assoc done (v ∷ []) vs) in
    let long : length (done ++ v ∷ []) ≡ k + 1 = length-append done (v ∷ []) in
    let at : slice_get m.functions k ≡ Some v = ap (λ fs. slice_get fs k) e ∙ get_after done v vs in
    let rest = rest_in_turn m f vs (done ++ v ∷ []) split in
    let later : (x : Text) → IsNameBefore m k x ⊎ (IsNameBefore m k x ⊎ (x ≡ v.0.name)) → IsNameBefore m (length (done ++ v ∷ [])) x = λ x y. ⊎_elim (before_later m k (length (done ++ v ∷ [])) x (omega (arith, long))) (λ z. ⊎_elim (before_later m k (length (done ++ v ∷ [])) x (omega (arith, long))) (λ s. (k, v, omega (arith, long), at, sym s)) z) y in
    (k, each_comes m k v f at, (λ y. let g = f.distinct y.0 k y.1 v y.3 at y.4 in let l = y.2 in omega (arith, g, l)), fewer_names m (IsNameBefore m (length (done ++ v ∷ []))) (λ x. IsNameBefore m k x ⊎ (IsNameBefore m k x ⊎ (x ≡ v.0.name))) vs later rest)

pub all_in_turn : (m : ModuleValue) → IsModuleFormed m → MayComeInTurn m no_name m.functions
all_in_turn m f = fewer_names m (IsNameBefore m 0) no_name m.functions (λ x h. absurd h) (rest_in_turn m f.functions m.functions [] refl)

-- those that pass a test
passing_or : (m : ModuleValue) (test : FunctionValue × Span → Bool) (k n : ℕ) (v : FunctionValue × Span) (vs : List (FunctionValue × Span)) → AreFunctionsFormed m 4294967295 → slice_get m.functions k ≡ Some v → n ≡ k + 1 → MayComeInTurn m (IsNameBefore m n) (filter test vs) → (b : Bool) → MayComeInTurn m (IsNameBefore m k) (if b then v ∷ filter test vs else filter test vs)
passing_or m test k n v vs f at long rest false = fewer_names m (IsNameBefore m n) (IsNameBefore m k) (filter test vs) (λ x. before_later m k n x (omega (arith, long))) rest
passing_or m test k n v vs f at long rest true =
    let later : (x : Text) → IsNameBefore m k x ⊎ (IsNameBefore m k x ⊎ (x ≡ v.0.name)) → IsNameBefore m n x = λ x y. ⊎_elim (before_later m k n x (omega (arith, long))) (λ z. ⊎_elim (before_later m k n x (omega (arith, long))) (λ s. (k, v, omega (arith, long), at, sym s)) z) y in
    (k, each_comes m k v f at, (λ y. let g = f.distinct y.0 k y.1 v y.3 at y.4 in let l = y.2 in omega (arith, g, l)), fewer_names m (IsNameBefore m n) (λ x. IsNameBefore m k x ⊎ (IsNameBefore m k x ⊎ (x ≡ v.0.name))) (filter test vs) later rest)

passing_rest : (m : ModuleValue) (test : FunctionValue × Span → Bool) → AreFunctionsFormed m 4294967295 → (vs done : List (FunctionValue × Span)) → m.functions ≡ done ++ vs → MayComeInTurn m (IsNameBefore m (length done)) (filter test vs)
passing_rest m test f [] done e = tt
passing_rest m test f (v ∷ vs) done e =
    let k = length done in
    let split : m.functions ≡ (done ++ v ∷ []) ++ vs = e ∙ sym (append_assoc done (v ∷ []) vs) in
    let long : length (done ++ v ∷ []) ≡ k + 1 = length-append done (v ∷ []) in
    let at : slice_get m.functions k ≡ Some v = ap (λ fs. slice_get fs k) e ∙ get_after done v vs in
    passing_or m test k (length (done ++ v ∷ [])) v vs f at long (passing_rest m test f vs (done ++ v ∷ []) split) (test v)

pub passing_in_turn : (m : ModuleValue) (test : FunctionValue × Span → Bool) → IsModuleFormed m → MayComeInTurn m no_name (filter test m.functions)
passing_in_turn m test f = fewer_names m (IsNameBefore m 0) no_name (filter test m.functions) (λ x h. absurd h) (passing_rest m test f.functions m.functions [] refl)

pub functions_from_nothing : (first : Kept) (m : ModuleValue) (d : Derived) (vs : List (FunctionValue × Span)) → IsFormedOf first m d → ((x : Text) → IsKnownIn d x → ⊥) → MayComeInTurn m no_name vs → IsFormedOf first m (import_functions d vs)
functions_from_nothing first m d vs f n h = functions_in_turn first m d vs f (fewer_names m no_name (IsKnownIn d) vs n h)

-- ---- stubs

stub_form : (m : ModuleValue) (c : ℕ) (e : FunctionValue × Span) → IsFunctionFormed m c 4294967295 e.0 → IsFunctionFormed m 0 4294967295 (stub e).0
stub_form m c e f = record {
  arguments = f.arguments;
  result = f.result;
  locals = All-nil (λ l. l.0.ty < length m.types);
  named_expressions = All-nil (λ x. x.0 < 0);
  expressions = All-nil (λ x. IsNamedThere m (stub e).0 x.0.named);
  statements = All-nil (IsTokenFine 0 4294967295);
  callees = All-nil (λ x. NamesFunctionAsResult x.0);
  results = λ i g h at. absurd (none-some (GiveCall g h) at);
  body = record {
    form = record { earlier = λ k. All-nil (λ x. x < k); there = All-nil (λ x. x < 0); no_results = All-nil (λ x. is_result [] x ≡ false); body = tt };
    alone = λ k x at l. absurd (none-some x at);
  };
  local_spans = All-nil (λ x. IsSpanFine 4294967295 x.1);
  expression_spans = All-nil (λ x. IsSpanFine 4294967295 x.1);
}

stub_comes : (m : ModuleValue) (k : ℕ) (e : FunctionValue × Span) → AreFunctionsFormed m 4294967295 → slice_get m.functions k ≡ Some e → MayCome m 0 (stub e).0 (stub e).1
stub_comes m k e f at = record {
  named = f.named k e at;
  among = omega arith;
  apart = λ j x l there same. absurd (omega (arith, l));
  form = stub_form m k e (f.forms k e at);
  spanned = f.spans k e at;
}

stub_or : (m : ModuleValue) (test : FunctionValue × Span → Bool) (k n : ℕ) (v : FunctionValue × Span) (vs : List (FunctionValue × Span)) → AreFunctionsFormed m 4294967295 → slice_get m.functions k ≡ Some v → n ≡ k + 1 → MayComeInTurn m (IsNameBefore m n) (map stub (filter test vs)) → (b : Bool) → MayComeInTurn m (IsNameBefore m k) (map stub (if b then v ∷ filter test vs else filter test vs))
stub_or m test k n v vs f at long rest false = fewer_names m (IsNameBefore m n) (IsNameBefore m k) (map stub (filter test vs)) (λ x. before_later m k n x (omega (arith, long))) rest
stub_or m test k n v vs f at long rest true =
    let later : (x : Text) → IsNameBefore m k x ⊎ (IsNameBefore m 0 x ⊎ (x ≡ v.0.name)) → IsNameBefore m n x = λ x y. ⊎_elim (before_later m k n x (omega (arith, long))) (λ z. ⊎_elim (before_later m 0 n x (omega arith)) (λ s. (k, v, omega (arith, long), at, sym s)) z) y in
    (0, stub_comes m k v f at, (λ y. let g = f.distinct y.0 k y.1 v y.3 at y.4 in let l = y.2 in omega (arith, g, l)), fewer_names m (IsNameBefore m n) (λ x. IsNameBefore m k x ⊎ (IsNameBefore m 0 x ⊎ (x ≡ v.0.name))) (map stub (filter test vs)) later rest)

stubs_rest : (m : ModuleValue) (test : FunctionValue × Span → Bool) → AreFunctionsFormed m 4294967295 → (vs done : List (FunctionValue × Span)) → m.functions ≡ done ++ vs → MayComeInTurn m (IsNameBefore m (length done)) (map stub (filter test vs))
stubs_rest m test f [] done e = tt
stubs_rest m test f (v ∷ vs) done e =
    let k = length done in
    let split : m.functions ≡ (done ++ v ∷ []) ++ vs = e ∙ sym (append_assoc done (v ∷ []) vs) in
    let long : length (done ++ v ∷ []) ≡ k + 1 = length-append done (v ∷ []) in
    let at : slice_get m.functions k ≡ Some v = ap (λ fs. slice_get fs k) e ∙ get_after done v vs in
    stub_or m test k (length (done ++ v ∷ [])) v vs f at long (stubs_rest m test f vs (done ++ v ∷ []) split) (test v)

pub stubs_in_turn : (m : ModuleValue) (test : FunctionValue × Span → Bool) → IsModuleFormed m → MayComeInTurn m no_name (map stub (filter test m.functions))
stubs_in_turn m test f = fewer_names m (IsNameBefore m 0) no_name (map stub (filter test m.functions)) (λ x h. absurd h) (stubs_rest m test f.functions m.functions [] refl)

-- ---- if they are new

new_any : (first : Kept) (m : ModuleValue) (o : Option Source) (t : ModuleValue) (ns : Meanings) (c : ℕ) (v : FunctionValue) (span : Span) → IsFormedOf first m (derivation o t ns) → MayCome m c v span → IsFormedOf first m (import_function_if_new (derivation o t ns) v span)
new_any first m o t ns c v span f h = new_by (meant ns v.name) refl
  where
    new_by : (k : Option ℕ) → meant ns v.name ≡ k → IsFormedOf first m (if is_some k then derivation o t ns else import_function (derivation o t ns) v span)
    new_by None e = (function_came first m (derivation o t ns) c v span f h e).formed
    new_by (Some k) e = f

pub new_in_turn : (first : Kept) (m : ModuleValue) (d : Derived) (vs : List (FunctionValue × Span)) → IsFormedOf first m d → All (λ (v : FunctionValue × Span). (c : ℕ) × MayCome m c v.0 v.1) vs → IsFormedOf first m (import_new_functions d vs)
new_in_turn first m d [] f a = f
new_in_turn first m d (v ∷ vs) f a =
    let P = λ (v : FunctionValue × Span). (c : ℕ) × MayCome m c v.0 v.1 in
    let h = All-head P v vs a in
    new_in_turn first m (import_function_if_new d v.0 v.1) vs (new_any first m d.source d.target d.function_names h.0 v.0 v.1 f h.1) (All-tail P v vs a)

-- ---- items

item_any : (first : Kept) (m : ModuleValue) (o : Option Source) (t : ModuleValue) (ns : Meanings) (p : ItemPlace) → IsFormedOf first m (derivation o t ns) → HasAt m p → IsFormedOf first m (import_item (derivation o t ns) p)
item_any first m None t ns p f h = absurd (false≢true f.source.set)
item_any first m (Some s) t ns p f h = record {
  formed = imported first (derivation (Some s) t ns) p f.formed (refl, subst (λ (x : ModuleValue). HasAt x p) (sym f.source.value) h);
  source = record { set = refl; value = f.source.value };
}

pub items_in_turn : (first : Kept) (m : ModuleValue) (d : Derived) (ps : List ItemPlace) → IsFormedOf first m d → All (HasAt m) ps → IsFormedOf first m (fold import_item d ps)
items_in_turn first m d [] f a = f
items_in_turn first m d (p ∷ ps) f a = items_in_turn first m (import_item d p) ps (item_any first m d.source d.target d.function_names p f (All-head (HasAt m) p ps a)) (All-tail (HasAt m) p ps a)

-- ---- one step

pub source_of : (first : Kept) (d : Derived) (m : ModuleValue) (shift : ℕ) → IsFormed first d → IsModuleFormed m → KeepsFormed (kept_of m.special_types d.target.special_types) m d (set_source d m shift)
source_of first d m shift f g = record { formed = record { formed = source_set first d m shift f g.items g.functions; source = record { set = refl; value = refl } }; names = refl }

keeps_any : (first : Kept) (m : ModuleValue) (o : Option Source) (t : ModuleValue) (ns : Meanings) (p : ItemPlace) → IsFormedOf first m (derivation o t ns) → HasAt m p → KeepsFormed first m (derivation o t ns) (import_item (derivation o t ns) p)
keeps_any first m None t ns p f h = absurd (false≢true f.source.set)
keeps_any first m (Some s) t ns p f h = record { formed = item_any first m (Some s) t ns p f h; names = refl }

pub item_of : (first : Kept) (m : ModuleValue) (d : Derived) (p : ItemPlace) → IsFormedOf first m d → HasAt m p → KeepsFormed first m d (import_item d p)
item_of first m d p f h = keeps_any first m d.source d.target d.function_names p f h

type_any : (first : Kept) (m : ModuleValue) (o : Option Source) (t : ModuleValue) (ns : Meanings) (k : ℕ) (name : Option Text) → IsFormedOf first m (derivation o t ns) → HasAt m (TypeItem k) → KeepsFormed first m (derivation o t ns) (rename_type (derivation o t ns) k name)
type_any first m None t ns k name f h = absurd (false≢true f.source.set)
type_any first m (Some s) t ns k name f h = record {
  formed = record {
    formed = renamed first (derivation (Some s) t ns) k name f.formed (refl, subst (λ (x : ModuleValue). HasAt x (TypeItem k)) (sym f.source.value) h);
    source = record { set = refl; value = f.source.value };
  };
  names = refl;
}

pub type_of : (first : Kept) (m : ModuleValue) (d : Derived) (k : ℕ) (name : Option Text) → IsFormedOf first m d → HasAt m (TypeItem k) → KeepsFormed first m d (rename_type d k name)
type_of first m d k name f h = type_any first m d.source d.target d.function_names k name f h

entries_of : (m : ModuleValue) (o : Option Source) → IfSome o (λ s. s.value ≡ m) → AreEntriesFormed m 4294967295 → IfSome o (λ s. AreEntriesFormed s.value 4294967295)
entries_of m None e h = tt
entries_of m (Some s) e h = subst (λ (x : ModuleValue). AreEntriesFormed x 4294967295) (sym e) h

pub made_of : (first : Kept) (m : ModuleValue) (d : Derived) → IsFormedOf first m d → IsModuleFormed m → IsModuleFormed (make_module d)
made_of first m d f g = module_made first d f.formed f.source.set (entries_of m d.source f.source.value g.entry_points)

pub target_of : (first : Kept) (d : Derived) → IsFormed first d → IsModuleFormed d.target
target_of first d f = record {
  items = f.items.target;
  functions = f.functions;
  entry_points = record {
    forms = subst (All (IsEntryFormed d.target 4294967295)) (sym f.without_entries) (All-nil (IsEntryFormed d.target 4294967295));
    distinct = λ j k a b at there same. absurd (none-some a (ap (λ es. slice_get es j) (sym f.without_entries) ∙ at));
  };
}

-- ---- builds

pub whole_made : (first : Kept) (m : ModuleValue) (d : Derived) → IsFormedOf first m d → ((x : Text) → IsKnownIn d x → ⊥) → IsModuleFormed m → IsModuleFormed (make_module (import_functions d m.functions))
whole_made first m d f n g = made_of first m (import_functions d m.functions) (functions_from_nothing first m d m.functions f n (all_in_turn m g)) g

pub header_made : (first : Kept) (m : ModuleValue) (d : Derived) (test : FunctionValue × Span → Bool) → IsFormedOf first m d → ((x : Text) → IsKnownIn d x → ⊥) → IsModuleFormed m → IsModuleFormed (import_functions d (map stub (filter test m.functions))).target
header_made first m d test f n g =
    let vs = map stub (filter test m.functions) in
    target_of first (import_functions d vs) (functions_from_nothing first m d vs f n (stubs_in_turn m test g)).formed
