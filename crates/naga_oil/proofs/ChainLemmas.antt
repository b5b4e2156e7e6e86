-- Calls redirected along the functions that override one.
use mathlib.Core.Path.{fun_ext}
use Rattle.std.proofs.Common.{◌≡◌, ℕ, List, [], ◌∷◌, map, length, Bool, true, false, cond, ◌||◌, Option, Some, None, MatchOption, Result, Ok, Err, String, Vec, Global, string_bytes, refl, sym, ap, ◌∙◌}
use Rattle.std.proofs.lemmas.List.{length-map, nil_from_length}
use Rattle.std.proofs.lemmas.Map.Text.{btree_set_updates_text}
use Rattle.std.proofs.lemmas.Bool.Decides.{Decides-like, same_from_decides}
use Rattle.std.proofs.lemmas.Slice.Eq.{bytes_eq-Decides}
use Rattle.std.specs.BTreeMap.{is_at}
use Rattle.std.specs.BTreeSet as sorted
use Rattle.std.specs.BTreeSet.{BTreeSet, contains_text}
use Rattle.std.specs.Cmp.Lexicographic.{slice_cmp}
use Rattle.std.specs.List.{list_any}
use Rattle.std.specs.Ordering.{nat_cmp}
use Rattle.std.specs.Str.{bytes_eq}
use Rattle.std.specs.String.{string_cmp}
use Rattle.naga_oil_ir.specs.ModuleValue.{ModuleValue}
use Rattle.naga_oil_ir.specs.RedirectFault.{RedirectFault, redirect_fault}
use Rattle.naga_oil_redirect.specs.PutInOrder.{put_in_order}
use Rattle.naga_oil_redirect.specs.Redirected.{matched, redirected}
use Rattle.naga_oil_ir.specs.declared.redirect_error.RedirectError.{RedirectError}
use Rattle.naga_oil_ir.specs.declared.redirect_error.RedirectError.TheVariants as code
use Rattle.naga_oil_conditions.specs.Fault.{Fault, redirection}
use Rattle.naga_oil_conditions.specs.declared.fault.ComposerErrorInner.{ComposerErrorInner}
use Rattle.naga_oil_words.specs.Texts.{is_among, texts}
use Rattle.naga_oil_words.specs.ResultSteps.{◌>>=◌}
use Rattle.naga_oil_link.specs.BuiltModule.{Overriding}
use Rattle.naga_oil_conditions.specs.View.{fault_of, redirect_error}
use Rattle.naga_oil.specs.Chain.{sent_down, all_sent_down, put_in_order_as, chain_all, chain}

-- ---- the functions that are omitted
pub same_bytes : (a b : List ℕ) → bytes_eq a b ≡ bytes_eq b a
same_bytes a b = same_from_decides _ _ (Decides-like _ sym sym (bytes_eq-Decides a b)) (bytes_eq-Decides b a)

-- no names, and one more name
pub none_omitted : (set : BTreeSet (String Global)) → set.keys ≡ [] → contains_text set ≡ is_among []
none_omitted set e = fun_ext (λ name. ap (λ ks. list_any (is_at (λ k. slice_cmp nat_cmp name (string_bytes k))) ks) e)

pub one_omitted : (old new : BTreeSet (String Global)) (key : String Global) (names : List (List ℕ)) → sorted.UpdatesBy string_cmp (λ k. slice_cmp nat_cmp (string_bytes key) (string_bytes k)) old new true
    → contains_text old ≡ is_among names → contains_text new ≡ is_among (string_bytes key ∷ names)
one_omitted old new key names h e = fun_ext (λ name.
    btree_set_updates_text (string_bytes key) old new true h name ∙ ap (λ b. cond b true (contains_text old name)) (same_bytes (string_bytes key) name)
    ∙ ap (λ b. cond (bytes_eq name (string_bytes key)) true b) (ap (λ (p : List ℕ → Bool). p name) e) ∙ by (is_among names name) (bytes_eq name (string_bytes key)))
  where
    by : (r b : Bool) → cond b true r ≡ (b || r)
    by r true = refl
    by r false = refl

-- ---- one more function
pub sent_more : (m : ModuleValue) (original other : List ℕ) (more omitted : List (List ℕ)) (pair : ℕ × ℕ) → matched m.functions original other ≡ Ok pair
    → sent_down m original (other ∷ more) omitted ≡ sent_down (redirected m pair.0 pair.1 (is_among omitted)) other more (other ∷ omitted)
unfolding sent_down
sent_more m original other more omitted pair e = rw e refl

pub not_sent : (m : ModuleValue) (original other : List ℕ) (more omitted : List (List ℕ)) (f : RedirectFault) → matched m.functions original other ≡ Err f
    → sent_down m original (other ∷ more) omitted ≡ Err (redirection f)
unfolding sent_down
not_sent m original other more omitted f e = rw e refl

pub all_sent : (m : ModuleValue) (original : List ℕ) (omitted : List (List ℕ)) → sent_down m original [] omitted ≡ Ok m
unfolding sent_down
all_sent m original omitted = refl

-- why a redirection is refused
pub refused_redirection : {X : Type 0} (e : RedirectError) (value : Result X RedirectFault) (told : Result ModuleValue Fault) → ((f : RedirectFault) → value ≡ Err f → told ≡ Err (redirection f))
    → MatchOption (redirect_fault e) (Unit {0}) (λ f. value ≡ Err f) → MatchOption (fault_of (redirect_error e)) (Unit {0}) (λ f. told ≡ Err f)
refused_redirection (code.FunctionNotFound name) value told so h = so _ h
refused_redirection (code.ArgumentMismatch replacement original) value told so h = so _ h
refused_redirection (code.ReturnTypeMismatch replacement original) value told so h = so _ h
refused_redirection (code.CircularReference names) value told so h = so _ h
refused_redirection code.Memory value told so h = h

-- ---- one more chain
pub all_more : (m n : ModuleValue) (base : List ℕ) (others : List (List ℕ)) (more : Overriding) → sent_down m base others [] ≡ Ok n → all_sent_down m ((base, others) ∷ more) ≡ all_sent_down n more
unfolding all_sent_down
all_more m n base others more e = rw e refl

pub all_refused : (m : ModuleValue) (base : List ℕ) (others : List (List ℕ)) (more : Overriding) (f : Fault) → sent_down m base others [] ≡ Err f → all_sent_down m ((base, others) ∷ more) ≡ Err f
unfolding all_sent_down
all_refused m base others more f e = rw e refl

pub all_down : (m : ModuleValue) → all_sent_down m [] ≡ Ok m
unfolding all_sent_down
all_down m = refl

-- what holds of a fault, if there is one
pub fault_then : (e : ComposerErrorInner) (P Q : Fault → Type 0) → ((f : Fault) → P f → Q f) → MatchOption (fault_of e) (Unit {0}) P → MatchOption (fault_of e) (Unit {0}) Q
fault_then e P Q so h = by (fault_of e) h
  where
    by : (o : Option Fault) → MatchOption o (Unit {0}) P → MatchOption o (Unit {0}) Q
    by None h = tt
    by (Some f) h = so f h

-- ---- the whole chain, step by step
abbrev ordered_after : Result ModuleValue Fault → Result ModuleValue Fault
ordered_after r = r >>= λ sent. put_in_order_as (put_in_order sent)

module _ (all : Overriding) (m : ModuleValue) where
  pub not_all_sent : (f : Fault) → all_sent_down m all ≡ Err f → chain_all all m ≡ Err f
  unfolding chain_all
  not_all_sent f h = ap ordered_after h

  pub sent_and_ordered : (sent : ModuleValue) → all_sent_down m all ≡ Ok sent → chain_all all m ≡ put_in_order_as (put_in_order sent)
  unfolding chain_all
  sent_and_ordered sent h = ap ordered_after h

-- if a function is overridden, and if none is
pub chains : (all : Overriding) (m : ModuleValue) → (all ≡ [] → ⊥) → chain all m ≡ chain_all all m
chains [] m some = absurd (some refl)
chains (o ∷ more) m some = refl

pub no_chains : (all : Overriding) (m : ModuleValue) → all ≡ [] → chain all m ≡ Ok m
no_chains all m none = ap (λ os. chain os m) none

abbrev chain_of : String Global × Vec (String Global) Global → List ℕ × List (List ℕ)
chain_of e = (string_bytes e.0, texts e.1.items)

-- the length of a list of chains
pub none_overridden : (es : List (String Global × Vec (String Global) Global)) → length es ≡ 0 → map chain_of es ≡ []
none_overridden es e = ap (map chain_of) (nil_from_length es e)

pub some_overridden : (es : List (String Global × Vec (String Global) Global)) → map chain_of es ≡ [] → length es ≡ 0
some_overridden es e = sym (length-map es chain_of) ∙ ap length e
