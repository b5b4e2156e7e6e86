-- Functions whose calls are redirected copy the functions that they were.
use mathlib.Core.Path.{fun_ext}
use Rattle.std.proofs.Common.{◌≡◌, ℕ, suc, ◌+◌, ◌==◌, ◌||◌, if◌then◌else◌, not, Bool, true, false, List, [], ◌∷◌, length, Option, Some, None, option_map, Result, Ok, Err, slice_get, nat_eq, bytes_eq, refl, ap, sym, ◌∙◌, subst, arith}
use Rattle.std.specs.Option.{option_flatten}
use Rattle.std.specs.Cmp.Lexicographic.{pointwise}
use Rattle.std.proofs.lemmas.Bool.{false≢true}
use Rattle.std.proofs.lemmas.List.{length-map}
use Rattle.std.proofs.lemmas.Option.{none-some, same_Some, slice_get-map, slice_get_within}
use Rattle.std.proofs.lemmas.Slice.Eq.{bytes_eq-Decides}
use Rattle.naga_oil_ir.specs.ModuleValue.{ModuleValue, FunctionValue, EntryValue}
use Rattle.naga_oil_form.specs.NameForm.{Name}
use Rattle.naga_oil_ir.specs.RedirectFault.{RedirectFault, argument_mismatch, return_type_mismatch}
use Rattle.naga_oil_ir.specs.Rows.{Text}
use Rattle.naga_oil_ir.specs.declared.span.Span.{Span}
use Rattle.naga_oil_form.proofs.LinkLemmas.{eqb_eq, eq_eqb}
use Rattle.naga_oil_derive.specs.World.{world}
use Rattle.naga_oil_conditions.specs.Fault.{Fault}
use Rattle.naga_oil_words.specs.Texts.{is_among}
use Rattle.naga_oil_words.specs.ResultSteps.{◌>>=◌}
use Rattle.naga_oil_link.specs.BuiltModule.{Overriding}
use Rattle.naga_oil_redirect.specs.Redirected.{send, send_entry, redirected, is_named, found, found_from, compared, matching, matched, same_arguments, same_results}
use Rattle.naga_oil_copy_laws.specs.Scope.{name_of_function, scope_of}
use Rattle.naga_oil_copy_laws.specs.ByTree.{CopiesByTree}
use Rattle.naga_oil_copy_laws.specs.ByTreeLaw.{IsAsCopied}
use Rattle.naga_oil_copy_laws.specs.EntryByTree.{EntryAlike}
use Rattle.naga_oil_copy_laws.specs.SentByTree.{instead_of, IsOnlyOfItsName, sends_at, AreAsCopied}
use Rattle.naga_oil_copy_laws.proofs.ComposeLaws.{compose}
use Rattle.naga_oil_copy_laws.proofs.EntryLaws.{entry_same, entry_then}
use Rattle.naga_oil_copy_laws.proofs.SentLaws.{redirected_law, entry_law, scopes_alike, world_same}
use Rattle.naga_oil_link_laws.specs.OrderedCopies.{CallsAnywhere, MaySend}
use Rattle.naga_oil_link_laws.proofs.SentForms.{sent_calls}
use Rattle.naga_oil.specs.CallsSent.{call_sent, call_sent_down, call_goes}
use Rattle.naga_oil.specs.Chain.{redirected_to, sent_to, sent_down, all_sent_down}

abbrev pub Functions : Type 0
Functions = List (FunctionValue × Span)

-- ---- which functions are matched

named_so : (n : Name) (t : Text) → is_named (pointwise nat_eq n) t ≡ true → t ≡ Some n
named_so n None e = absurd (false≢true e)
named_so n (Some k) e = ap Some (sym ((bytes_eq-Decides n k).0 e))

-- a function of the name stands at the place
record IsFound (n : Name) (fs : Functions) (k : ℕ) (p : ℕ × FunctionValue) : Type 0 where
  offset : ℕ
  function : FunctionValue × Span
  at : slice_get fs offset ≡ Some function
  place : p.0 ≡ k + offset
  name : function.0.name ≡ Some n

found_back : (n : Name) (k : ℕ) (fs : Functions) (p : ℕ × FunctionValue) → found_from k n fs ≡ Ok p → IsFound n fs k p
found_back n k [] p e = absurd cc
found_back n k (x ∷ fs) p e = one (found_back n (k + 1) fs p) (is_named (pointwise nat_eq n) x.0.name) refl e
  where
    one : (found_from (k + 1) n fs ≡ Ok p → IsFound n fs (k + 1) p) → (b : Bool) → is_named (pointwise nat_eq n) x.0.name ≡ b → (let r : Result (ℕ × FunctionValue) RedirectFault = if b then Ok (k, x.0) else found_from (k + 1) n fs in r) ≡ Ok p → IsFound n (x ∷ fs) k p
    one rest true b e = let same : (k, x.0) ≡ p = cc in record { offset = 0; function = x; at = refl; place = ap (λ (q : ℕ × FunctionValue). q.0) (sym same) ∙ (let z : k ≡ k + 0 = omega arith in z); name = named_so n x.0.name b }
    one rest false b e =
        let h = rest e in
        record { offset = suc h.offset; function = h.function; at = h.at; place = (let z = h.place in omega (arith, z)); name = h.name }

pub record IsMatched (fs : Functions) (original other : Name) (pair : ℕ × ℕ) : Type 0 where
  pub from : FunctionValue × Span
  pub from_at : slice_get fs pair.0 ≡ Some from
  pub from_name : from.0.name ≡ Some original
  pub to : FunctionValue × Span
  pub to_at : slice_get fs pair.1 ≡ Some to
  pub to_name : to.0.name ≡ Some other

compared_back : (original other : Name) (f g : ℕ × FunctionValue) (pair : ℕ × ℕ) → compared original other f g ≡ Ok pair → (f.0, g.0) ≡ pair
compared_back original other f g pair e = one (argument_mismatch other original) (return_type_mismatch other original) (not (same_arguments f.1 g.1)) (not (same_results f.1 g.1)) e
  where
    one : (x y : RedirectFault) (a b : Bool) → (let r : Result (ℕ × ℕ) RedirectFault = if a then Err x else if b then Err y else Ok (f.0, g.0) in r) ≡ Ok pair → (f.0, g.0) ≡ pair
    one x y true b e = absurd cc
    one x y false true e = absurd cc
    one x y false false e = cc

matched_back : (fs : Functions) (original other : Name) (pair : ℕ × ℕ) → matched fs original other ≡ Ok pair → IsMatched fs original other pair
matched_back fs original other pair e = one (found original fs) refl (found other fs) refl e
  where
    one : (f : Result (ℕ × FunctionValue) RedirectFault) → found original fs ≡ f → (g : Result (ℕ × FunctionValue) RedirectFault) → found other fs ≡ g → matching original other f g ≡ Ok pair → IsMatched fs original other pair
    one (Ok f) p (Ok g) q e =
        let x = found_back original 0 fs f p in
        let y = found_back other 0 fs g q in
        let same = compared_back original other f g pair e in
        let i : x.offset ≡ pair.0 = (let z = x.place in let o : x.offset ≡ f.0 = omega (arith, z) in o) ∙ ap (λ (r : ℕ × ℕ). r.0) same in
        let j : y.offset ≡ pair.1 = (let z = y.place in let o : y.offset ≡ g.0 = omega (arith, z) in o) ∙ ap (λ (r : ℕ × ℕ). r.1) same in
        record { from = x.function; from_at = ap (slice_get fs) (sym i) ∙ x.at; from_name = x.name; to = y.function; to_at = ap (slice_get fs) (sym j) ∙ y.at; to_name = y.name }
    one (Ok f) p (Err g) q e = absurd cc
    one (Err f) p g q e = absurd cc

-- ---- one redirection

name_at_place : (m : ModuleValue) (k : ℕ) (x : FunctionValue × Span) → slice_get m.functions k ≡ Some x → name_of_function m k ≡ x.0.name
name_at_place m k x at = ap (λ o. option_flatten (option_map (λ (f : FunctionValue × Span). f.0.name) o)) at

bool_same : (a b : Bool) → (a ≡ true → b ≡ true) → (b ≡ true → a ≡ true) → a ≡ b
bool_same true true f g = refl
bool_same true false f g = sym (f refl)
bool_same false true f g = g refl
bool_same false false f g = refl

only_name : (m : ModuleValue) → CallsAnywhere m → (k : ℕ) (x : FunctionValue × Span) (n : List ℕ) → slice_get m.functions k ≡ Some x → x.0.name ≡ Some n → IsOnlyOfItsName (scope_of m) k
only_name m h k x n at name j e = one (slice_get m.functions j) refl
  where
    own : name_of_function m j ≡ Some n
    own = e ∙ name_at_place m k x at ∙ name

    one : (o : Option (FunctionValue × Span)) → slice_get m.functions j ≡ o → j ≡ k
    one None p = absurd (none-some n (sym (ap (λ o. option_flatten (option_map (λ (f : FunctionValue × Span). f.0.name) o)) p) ∙ own))
    one (Some y) p = h.distinct j k y x p at (sym (name_at_place m j y p) ∙ own ∙ sym name)

named_other : (other : List ℕ) (t : Text) → is_named (bytes_eq other) t ≡ true → t ≡ Some other
named_other other None e = absurd (false≢true e)
named_other other (Some k) e = ap Some (sym ((bytes_eq-Decides other k).0 e))

other_named : (other : List ℕ) (t : Text) → t ≡ Some other → is_named (bytes_eq other) t ≡ true
other_named other t e = ap (is_named (bytes_eq other)) e ∙ (bytes_eq-Decides other other).1 refl

if_sends : (b c : Bool) (f g : Text → Text) → b ≡ c → f ≡ g → (n : Text) → (let h : Text → Text = if b then (λ t. t) else f in h) n ≡ (if c then n else g n)
if_sends true true f g e h n = refl
if_sends false false f g e h n = ap (λ (k : Text → Text). k n) h
if_sends true false f g e h n = absurd (false≢true (sym e))
if_sends false true f g e h n = absurd (false≢true e)

-- ---- redirected calls

-- m is t with its calls redirected, by the name of the caller, and with other stages
pub record IsSent (t m : ModuleValue) (sends : Text → Text → Text) (stages : ℕ → ℕ) : Type 0 where
  pub calls : CallsAnywhere m
  pub same_world : world m ≡ world t
  pub special : m.special_types ≡ t.special_types
  pub functions : (k : ℕ) (g : FunctionValue × Span) → slice_get m.functions k ≡ Some g →
      (x : FunctionValue × Span) × (slice_get t.functions k ≡ Some x) × (g.0.name ≡ x.0.name) × CopiesByTree (λ s. s) (sends x.0.name) (scope_of t) x.0 (scope_of m) g.0 × IsAsCopied g.0 × (g.1 ≡ x.1)
  pub entry_points : (i : ℕ) (y : EntryValue) → slice_get m.entry_points i ≡ Some y →
      (x : EntryValue) × (slice_get t.entry_points i ≡ Some x) × CopiesByTree (λ s. s) (sends None) (scope_of t) x.function (scope_of m) y.function × IsAsCopied y.function × EntryAlike stages (scope_of t) (scope_of m) x y
  pub as_many : length m.entry_points ≡ length t.entry_points

-- the parts of m are copies
pub record AllAsCopied (t : ModuleValue) : Type 0 where
  pub functions : AreAsCopied t
  pub entry_points : (i : ℕ) (x : EntryValue) → slice_get t.entry_points i ≡ Some x → IsAsCopied x.function

module _ (t m : ModuleValue) (sends : Text → Text → Text) (stages : ℕ → ℕ) (start : AllAsCopied t) (h : IsSent t m sends stages) (base other : List ℕ) (omitted : List (List ℕ)) (pair : ℕ × ℕ) (w : IsMatched m.functions base other pair) where
  abbrev from : ℕ
  from = pair.0

  abbrev to : ℕ
  to = pair.1

  abbrev n : ModuleValue
  n = redirected m from to (is_among omitted)

  only : IsOnlyOfItsName (scope_of m) from
  only = only_name m h.calls from w.from base w.from_at w.from_name

  as_copied : AreAsCopied m
  as_copied k x at = (h.functions k x at).4

  entries_as_copied : (i : ℕ) (v : EntryValue) → slice_get m.entry_points i ≡ Some v → IsAsCopied v.function
  entries_as_copied i v at = (h.entry_points i v at).3

  may : MaySend m from to
  may = record { as_copied = as_copied; only = only; there = slice_get_within m.functions to w.to w.to_at }

  sends_instead : instead_of (name_of_function m from) (name_of_function m to) ≡ instead_of (Some base) (Some other)
  sends_instead = ap (λ a. instead_of a (name_of_function m to)) (name_at_place m from w.from w.from_at ∙ w.from_name) ∙ ap (instead_of (Some base)) (name_at_place m to w.to w.to_at ∙ w.to_name)

  -- the function that calls are redirected to is the one with its name
  is_other : (k : ℕ) (x : FunctionValue × Span) → slice_get m.functions k ≡ Some x → (k == to) ≡ is_named (bytes_eq other) x.0.name
  is_other k x at =
      bool_same (k == to) (is_named (bytes_eq other) x.0.name)
      (λ e. other_named other x.0.name (sym (name_at_place m k x at) ∙ ap (name_of_function m) (eqb_eq k to e) ∙ name_at_place m to w.to w.to_at ∙ w.to_name))
      (λ e. eq_eqb k to (h.calls.distinct k to x w.to at w.to_at (named_other other x.0.name e ∙ sym w.to_name)))

  one_sends : (k : ℕ) (x : FunctionValue × Span) → slice_get m.functions k ≡ Some x → sends_at m from to (is_among omitted) k x.0.name ≡ call_sent x.0.name base other omitted
  one_sends k x at = fun_ext (λ c. if_sends ((k == to) || is_named (is_among omitted) x.0.name) (is_named (bytes_eq other) x.0.name || is_named (is_among omitted) x.0.name) (instead_of (name_of_function m from) (name_of_function m to)) (instead_of (Some base) (Some other)) (ap (λ b. b || is_named (is_among omitted) x.0.name) (is_other k x at)) sends_instead c)

  abbrev sends_then : Text → Text → Text
  sends_then caller c = call_sent caller base other omitted (sends caller c)

  function_sent : (k : ℕ) (g : FunctionValue × Span) → slice_get n.functions k ≡ Some g → (x : FunctionValue × Span) × (slice_get t.functions k ≡ Some x) × (g.0.name ≡ x.0.name) × CopiesByTree (λ s. s) (sends_then x.0.name) (scope_of t) x.0 (scope_of n) g.0 × IsAsCopied g.0 × (g.1 ≡ x.1)
  function_sent k g at =
      let r = redirected_law m from to (is_among omitted) as_copied only k g at in
      let y = r.source in
      let x = h.functions k y r.at in
      let name : y.0.name ≡ x.0.0.name = x.2 in
      let second : CopiesByTree (λ s. s) (call_sent x.0.0.name base other omitted) (scope_of m) y.0 (scope_of n) g.0 = subst (λ p. CopiesByTree (λ s. s) p (scope_of m) y.0 (scope_of n) g.0) (one_sends k y r.at ∙ ap (λ c. call_sent c base other omitted) name) r.copies in
      (x.0, x.1, r.copies.name ∙ name, compose (λ s. s) (λ s. s) (sends x.0.0.name) (call_sent x.0.0.name base other omitted) (scope_of t) (scope_of m) (scope_of n) x.0.0 y.0 g.0 (start.functions k x.0 x.1).earlier x.4.earlier x.3 second, r.as_copied, r.span ∙ x.5)

  entry_sent : (i : ℕ) (y : EntryValue) → slice_get n.entry_points i ≡ Some y → (x : EntryValue) × (slice_get t.entry_points i ≡ Some x) × CopiesByTree (λ s. s) (sends_then None) (scope_of t) x.function (scope_of n) y.function × IsAsCopied y.function × EntryAlike stages (scope_of t) (scope_of n) x y
  entry_sent i y at = one (slice_get m.entry_points i) refl (sym (slice_get-map (send_entry from to) m.entry_points i) ∙ at)
    where
      one : (o : Option EntryValue) → slice_get m.entry_points i ≡ o → option_map (send_entry from to) o ≡ Some y → (x : EntryValue) × (slice_get t.entry_points i ≡ Some x) × CopiesByTree (λ s. s) (sends_then None) (scope_of t) x.function (scope_of n) y.function × IsAsCopied y.function × EntryAlike stages (scope_of t) (scope_of n) x y
      one None p e = absurd (none-some y e)
      one (Some v) p e =
          let x = h.entry_points i v p in
          let same = same_Some (send_entry from to v) y e in
          let c = entry_law m from to (is_among omitted) v.function x.3 only in
          let second : CopiesByTree (λ s. s) (call_sent None base other omitted) (scope_of m) v.function (scope_of n) (send from to v.function) = subst (λ q. CopiesByTree (λ s. s) q (scope_of m) v.function (scope_of n) (send from to v.function)) sends_instead c.0 in
          let both = compose (λ s. s) (λ s. s) (sends None) (call_sent None base other omitted) (scope_of t) (scope_of m) (scope_of n) x.0.function v.function (send from to v.function) (start.entry_points i x.0 x.1).earlier x.3.earlier x.2 second in
          let own = entry_same (scope_of m) (scope_of n) ((scopes_alike m from to (is_among omitted)).reads) (λ s. s) v (send from to v.function) in
          let whole = entry_then (scope_of t) (scope_of m) (scope_of n) stages (λ s. s) x.0 v (send_entry from to v) x.4 own in
          let pair = subst (λ (z : EntryValue). CopiesByTree (λ s. s) (sends_then None) (scope_of t) x.0.function (scope_of n) z.function × IsAsCopied z.function) same (both, c.1) in
          (x.0, x.1, pair.0, pair.1, subst (EntryAlike stages (scope_of t) (scope_of n) x.0) same whole)

  -- one pair more
  pub sent_once : IsSent t n sends_then stages
  sent_once =
      let worlds : world n ≡ world m = λ i p. world_same m from to (is_among omitted) p i in
      record {
        calls = sent_calls m from to (is_among omitted) h.calls may entries_as_copied;
        same_world = worlds ∙ h.same_world;
        special = h.special;
        functions = function_sent;
        entry_points = entry_sent;
        as_many = length-map m.entry_points (send_entry from to) ∙ h.as_many;
      }

-- ---- steps, one after the other

sent_back : {stages : ℕ → ℕ} (t m n : ModuleValue) (sends : Text → Text → Text) → AllAsCopied t → (base other : List ℕ) (omitted : List (List ℕ)) → IsSent t m sends stages → sent_to m base other omitted ≡ Ok n → IsSent t n (λ caller c. call_sent caller base other omitted (sends caller c)) stages
sent_back {stages} t m n sends start base other omitted h e = one (matched m.functions base other) refl e
  where
    one : (r : Result (ℕ × ℕ) RedirectFault) → matched m.functions base other ≡ r → redirected_to m omitted r ≡ Ok n → IsSent t n (λ caller c. call_sent caller base other omitted (sends caller c)) stages
    one (Ok pair) p q =
        let same : redirected m pair.0 pair.1 (is_among omitted) ≡ n = cc in
        subst (λ u. IsSent t u (λ caller c. call_sent caller base other omitted (sends caller c)) stages) same (sent_once t m sends stages start h base other omitted pair (matched_back m.functions base other pair p))
    one (Err f) p q = absurd cc

down_sent : {stages : ℕ → ℕ} (t : ModuleValue) → AllAsCopied t → (others : List (List ℕ)) (m n : ModuleValue) (sends : Text → Text → Text) (base : List ℕ) (omitted : List (List ℕ)) → IsSent t m sends stages → sent_down m base others omitted ≡ Ok n → IsSent t n (λ caller c. call_sent_down caller base others omitted (sends caller c)) stages
unfolding sent_down
down_sent {stages} t start [] m n sends base omitted h e = let same : m ≡ n = cc in subst (λ u. IsSent t u sends stages) same h
down_sent {stages} t start (other ∷ more) m n sends base omitted h e = one (λ k g. down_sent t start more k n (λ caller c. call_sent caller base other omitted (sends caller c)) other (other ∷ omitted) g) (sent_to m base other omitted) refl e
  where
    one : ((k : ModuleValue) → IsSent t k (λ caller c. call_sent caller base other omitted (sends caller c)) stages → sent_down k other more (other ∷ omitted) ≡ Ok n → IsSent t n (λ caller c. call_sent_down caller base (other ∷ more) omitted (sends caller c)) stages) → (r : Result ModuleValue Fault) → sent_to m base other omitted ≡ r → (r >>= λ k. sent_down k other more (other ∷ omitted)) ≡ Ok n → IsSent t n (λ caller c. call_sent_down caller base (other ∷ more) omitted (sends caller c)) stages
    one rest (Ok k) p q = rest k (sent_back t m k sends start base other omitted h p) q
    one rest (Err f) p q = absurd cc

pub all_down_sent : {stages : ℕ → ℕ} (t : ModuleValue) → AllAsCopied t → (all : Overriding) (m n : ModuleValue) (sends : Text → Text → Text) → IsSent t m sends stages → all_sent_down m all ≡ Ok n → IsSent t n (λ caller c. call_goes all caller (sends caller c)) stages
unfolding all_sent_down
all_down_sent {stages} t start [] m n sends h e = let same : m ≡ n = cc in subst (λ u. IsSent t u sends stages) same h
all_down_sent {stages} t start (o ∷ more) m n sends h e = one (λ k g. all_down_sent t start more k n (λ caller c. call_sent_down caller o.0 o.1 [] (sends caller c)) g) (sent_down m o.0 o.1 []) refl e
  where
    one : ((k : ModuleValue) → IsSent t k (λ caller c. call_sent_down caller o.0 o.1 [] (sends caller c)) stages → all_sent_down k more ≡ Ok n → IsSent t n (λ caller c. call_goes (o ∷ more) caller (sends caller c)) stages) → (r : Result ModuleValue Fault) → sent_down m o.0 o.1 [] ≡ r → (r >>= λ k. all_sent_down k more) ≡ Ok n → IsSent t n (λ caller c. call_goes (o ∷ more) caller (sends caller c)) stages
    one rest (Ok k) p q = rest k (down_sent t start o.1 m k sends o.0 [] h p) q
    one rest (Err f) p q = absurd cc
