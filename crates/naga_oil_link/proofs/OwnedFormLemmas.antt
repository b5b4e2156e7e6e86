-- What a build owns of a module of good form, and the functions that its entry points become, are of good form.
use Rattle.std.proofs.Common.{◌≡◌, ⊎_elim, ℕ, zero, suc, ◌≤◌, nat_lt, Bool, true, false, ◌||◌, if◌then◌else◌, List, [], ◌∷◌, ◌++◌, length, Some, None, IsSome, option_map, slice_get, bytes_eq, refl, ap, sym, ◌∙◌, subst, arith}
use Rattle.std.specs.List.{flat_map, cons_option}
use Rattle.std.proofs.lemmas.Bool.{false≢true}
use Rattle.std.proofs.lemmas.List.{append_cancel_right}
use Rattle.std.proofs.lemmas.Option.{same_Some}
use Rattle.std.proofs.lemmas.Slice.Eq.{bytes_eq-Decides}
use Rattle.naga_oil_words.specs.Marks.{with_decoration}
use Rattle.naga_oil_form.specs.BodyForm.{IsSpanFine}
use Rattle.naga_oil_ir.specs.ModuleValue.{ModuleValue, FunctionValue, EntryValue, module_value}
use Rattle.naga_oil_ir.specs.Rows.{Text}
use Rattle.naga_oil_ir.specs.Spans.{undefined}
use Rattle.naga_oil_form.specs.WellFormed.{WellFormed}
use Rattle.naga_oil_ir.specs.declared.module.Module.{Module}
use Rattle.naga_oil_ir.specs.declared.span.Span.{Span}
use Rattle.naga_oil_words.specs.Texts.{is_among}
use Rattle.naga_oil_derive.specs.World.{value_of}
use Rattle.naga_oil_form_laws.specs.EntryForm.{IsEntryFormed, entry_name, IsModuleFormed, ParsedLaw}
use Rattle.naga_oil_form_laws.specs.FunctionForm.{IsFunctionFormed}
use Rattle.naga_oil_form_laws.specs.OwnedForm.{MayBeAppended}
use Rattle.naga_oil_form_laws.proofs.OwnedLemmas.{module_named, decoration_keeps, function_unbound, in_append, functions_appended}
use Rattle.naga_oil_form_laws.proofs.RequestLemmas.{all_at, from_at}
use Rattle.naga_oil_link.specs.Owned.{decorated_items, demoted_name, demoted_function, function_names, demoted, demotable, with_demoted, owned_module}

abbrev Functions : Type 0
Functions = List (FunctionValue × Span)

-- ---- the names of functions

or_true : (a b : Bool) → b ≡ true → (a || b) ≡ true
or_true true b h = refl
or_true false b h = h

later_among : (t : Text) (ns : List (List ℕ)) (n : List ℕ) → is_among ns n ≡ true → is_among (cons_option t ns) n ≡ true
later_among None ns n h = h
later_among (Some x) ns n h = or_true (bytes_eq n x) (is_among ns n) h

first_among : (ns : List (List ℕ)) (n : List ℕ) → is_among (n ∷ ns) n ≡ true
first_among ns n = ap (λ b. b || is_among ns n) ((bytes_eq-Decides n n).1 refl)

-- the name of a function is among those of all
named_among : (fs : Functions) (j : ℕ) (e : FunctionValue × Span) (n : List ℕ) → slice_get fs j ≡ Some e → e.0.name ≡ Some n → is_among (function_names fs) n ≡ true
named_among [] j e n at is = absurd cc
named_among (x ∷ fs) zero e n at is =
    let same : x ≡ e = same_Some x e at in
    ap (λ (t : Text). is_among (cons_option t (function_names fs)) n) (ap (λ (y : FunctionValue × Span). y.0.name) same ∙ is) ∙ first_among (function_names fs) n
named_among (x ∷ fs) (suc j) e n at is = later_among x.0.name (function_names fs) n (named_among fs j e n at is)

-- ---- entry points as functions

module _ (d : List ℕ) (names : List (List ℕ)) where
  abbrev function_of : EntryValue → FunctionValue × Span
  function_of x = (demoted_function d x, undefined)

  abbrev become : List EntryValue → Functions
  become es = flat_map (demoted d names) es

  -- a function that was an entry point, whose name as a function is none of these
  record From (es : List EntryValue) (e : FunctionValue × Span) : Type 0 where
    place : ℕ
    entry : EntryValue
    there : slice_get es place ≡ Some entry
    new : is_among names (demoted_name d entry) ≡ false
    is : function_of entry ≡ e

  from_later : (x : EntryValue) (xs : List EntryValue) (e : FunctionValue × Span) → From xs e → From (x ∷ xs) e
  from_later x xs e f = record { place = suc f.place; entry = f.entry; there = f.there; new = f.new; is = f.is }

  from_by : (x : EntryValue) (xs : List EntryValue) (e : FunctionValue × Span) → ((j : ℕ) → slice_get (become xs) j ≡ Some e → From xs e) → (b : Bool) → is_among names (demoted_name d x) ≡ b → (j : ℕ) → slice_get ((if b then [] else function_of x ∷ []) ++ become xs) j ≡ Some e → From (x ∷ xs) e
  from_by x xs e more true q j h = from_later x xs e (more j h)
  from_by x xs e more false q zero h = record { place = 0; entry = x; there = refl; new = q; is = same_Some (function_of x) e h }
  from_by x xs e more false q (suc j) h = from_later x xs e (more j h)

  from : (es : List EntryValue) (e : FunctionValue × Span) (j : ℕ) → slice_get (become es) j ≡ Some e → From es e
  from [] e j h = absurd cc
  from (x ∷ xs) e j h = from_by x xs e (from xs e) (is_among names (demoted_name d x)) refl j h

  -- entry points with distinct names become functions with distinct names
  abbrev Apart : List EntryValue → Type 0
  Apart es = (i k : ℕ) (x y : EntryValue) → slice_get es i ≡ Some x → slice_get es k ≡ Some y → entry_name x ≡ entry_name y → i ≡ k

  abbrev Distinct : Functions → Type 0
  Distinct fs = (j k : ℕ) (e f : FunctionValue × Span) → slice_get fs j ≡ Some e → slice_get fs k ≡ Some f → e.0.name ≡ f.0.name → j ≡ k

  one_entry : (x y : EntryValue) → (function_of x).0.name ≡ (function_of y).0.name → entry_name x ≡ entry_name y
  one_entry x y e = append_cancel_right (entry_name x) (entry_name y) d (same_Some (demoted_name d x) (demoted_name d y) e)

  first_apart : (x : EntryValue) (xs : List EntryValue) → Apart (x ∷ xs) → (k : ℕ) (f : FunctionValue × Span) → slice_get (become xs) k ≡ Some f → (function_of x).0.name ≡ f.0.name → ⊥
  first_apart x xs a k f q s =
      let y = from xs f k q in
      let n : 0 ≡ suc y.place = a 0 (suc y.place) x y.entry refl y.there (one_entry x y.entry (s ∙ sym (ap (λ (g : FunctionValue × Span). g.0.name) y.is))) in
      absurd (omega (arith, n))

  distinct_by : (x : EntryValue) (xs : List EntryValue) → Apart (x ∷ xs) → Distinct (become xs) → (b : Bool) (j k : ℕ) (e f : FunctionValue × Span) → slice_get ((if b then [] else function_of x ∷ []) ++ become xs) j ≡ Some e → slice_get ((if b then [] else function_of x ∷ []) ++ become xs) k ≡ Some f → e.0.name ≡ f.0.name → j ≡ k
  distinct_by x xs a h true j k e f p q s = h j k e f p q s
  distinct_by x xs a h false zero zero e f p q s = refl
  distinct_by x xs a h false zero (suc k) e f p q s = absurd (first_apart x xs a k f q (ap (λ (g : FunctionValue × Span). g.0.name) (same_Some (function_of x) e p) ∙ s))
  distinct_by x xs a h false (suc j) zero e f p q s = absurd (first_apart x xs a j e p (ap (λ (g : FunctionValue × Span). g.0.name) (same_Some (function_of x) f q) ∙ sym s))
  distinct_by x xs a h false (suc j) (suc k) e f p q s = ap suc (h j k e f p q s)

  all_distinct : (es : List EntryValue) → Apart es → Distinct (become es)
  all_distinct [] a = λ j k e f p q s. absurd (let n : None ≡ Some e = p in cc)
  all_distinct (x ∷ xs) a = distinct_by x xs a (all_distinct xs (λ i k y z p q s. let n = a (suc i) (suc k) y z p q s in omega (arith, n))) (is_among names (demoted_name d x))

-- ---- after the functions of a module

module _ (m : ModuleValue) (d : List ℕ) (f : IsModuleFormed m) where
  abbrev names : List (List ℕ)
  names = function_names m.functions

  abbrev more : Functions
  more = demotable d m

  abbrev Was : FunctionValue × Span → Type 0
  Was e = From d names m.entry_points e

  was : (j : ℕ) (e : FunctionValue × Span) → slice_get more j ≡ Some e → Was e
  was j e at = from d names m.entry_points e j at

  old_or_new : (j : ℕ) (e g : FunctionValue × Span) → slice_get m.functions j ≡ Some e → Was g → e.0.name ≡ g.0.name → ⊥
  old_or_new j e g at x s = false≢true (sym x.new ∙ named_among m.functions j e (demoted_name d x.entry) at (s ∙ sym (ap (λ (y : FunctionValue × Span). y.0.name) x.is)))

  demoted_form : (e : FunctionValue × Span) → Was e → IsFunctionFormed m (length m.functions) 4294967295 e.0
  demoted_form e x =
      let form = all_at (IsEntryFormed m 4294967295) m.entry_points x.place x.entry f.entry_points.forms x.there in
      subst (λ (y : FunctionValue × Span). IsFunctionFormed m (length m.functions) 4294967295 y.0) x.is (function_unbound m (length m.functions) 4294967295 (Some (demoted_name d x.entry)) x.entry.function form.function)

  may_be_appended : MayBeAppended m more
  may_be_appended = record {
    named = from_at (λ (e : FunctionValue × Span). IsSome e.0.name) more (λ j e at. subst (λ (y : FunctionValue × Span). IsSome y.0.name) (was j e at).is refl);
    forms = from_at (λ (e : FunctionValue × Span). IsFunctionFormed m (length m.functions) 4294967295 e.0) more (λ j e at. demoted_form e (was j e at));
    spans = from_at (λ (e : FunctionValue × Span). IsSpanFine 4294967295 e.1) more (λ j e at. subst (λ (y : FunctionValue × Span). IsSpanFine 4294967295 y.1) (was j e at).is (omega arith, omega arith));
    distinct = λ j k e g p q s. ⊎_elim
        (λ a. ⊎_elim (λ b. f.functions.distinct j k e g a b s) (λ b. absurd (old_or_new j e g a (was b.0 g b.2) s)) (in_append m.functions more k g q))
        (λ a. ⊎_elim (λ b. absurd (old_or_new k g e b (was a.0 e a.2) (sym s))) (λ b. let n = all_distinct d names m.entry_points f.entry_points.distinct a.0 b.0 e g a.2 b.2 s in let l = a.1 in let r = b.1 in omega (arith, n, l, r)) (in_append m.functions more k g q))
        (in_append m.functions more j e p);
  }

-- what a build owns of a module is of good form, if the module with its items decorated is
pub owned_by : (m : ModuleValue) (d : List ℕ) → IsModuleFormed (decorated_items d m) → (b : Bool) → IsModuleFormed (if b then with_demoted (demotable d (decorated_items d m)) (decorated_items d m) else decorated_items d m)
owned_by m d f true = functions_appended (decorated_items d m) (demotable d (decorated_items d m)) (may_be_appended (decorated_items d m) d f) f
owned_by m d f false = f

-- what a build owns of a module that passed the test, under the decoration of the test
pub owned_formed : (m : Module) (index : ℕ) (d : List ℕ) (n : ℕ) → ParsedLaw m → n ≤ 4294967295 → WellFormed m d n → IsModuleFormed (owned_module index d (module_value m))
unfolding value_of
owned_formed m index d n parsed l w = owned_by (module_value m) d (module_named (option_map (with_decoration d)) (value_of m) (decoration_keeps m d n w) (parsed d n l w)) (nat_lt 0 index)
