-- Functions of a redirected module by their names, and what they call.
use Rattle.std.proofs.Common.{◌≡◌, ◌∙◌, ℕ, zero, suc, ◌+◌, ◌<◌, ◌==◌, ◌||◌, not, Bool, true, false, if◌then◌else◌, unwrap_or, List, [], ◌∷◌, map, length, nat_eq, bytes_eq, slice_get, Option, Some, None, option_map, IsSome, Result, Ok, Err, All, refl, ap, sym, subst, arith}
use Rattle.std.specs.List.{enumerate_from}
use Rattle.std.specs.Option.{option_flatten}
use Rattle.std.specs.Cmp.Lexicographic.{pointwise}
use Rattle.std.proofs.lemmas.Bool.{false≢true}
use Rattle.std.proofs.lemmas.List.{length-map}
use Rattle.std.proofs.lemmas.List.Elements.{All-head, All-tail}
use Rattle.std.proofs.lemmas.List.FromFn.{length-enumerate_from}
use Rattle.std.proofs.lemmas.Option.{slice_get-map}
use Rattle.std.proofs.lemmas.Slice.Eq.{bytes_eq-Decides}
use Rattle.naga_oil_ir.specs.Body.{Tokens}
use Rattle.naga_oil_ir.specs.ModuleValue.{ModuleValue, FunctionValue}
use Rattle.naga_oil_form.specs.NameForm.{Name}
use Rattle.naga_oil_ir.specs.RedirectFault.{RedirectFault, argument_mismatch, return_type_mismatch}
use Rattle.naga_oil_ir.specs.Rows.{Text}
use Rattle.naga_oil_ir.specs.declared.span.Span.{Span}
use Rattle.naga_oil_ir.specs.declared.tokens.Token.TheVariants.{Callee}
use Rattle.naga_oil_form.proofs.LinkLemmas.{eqb_eq, eq_eqb}
use Rattle.naga_oil_rename.specs.Renames.{Renames, rename_tokens}
use Rattle.naga_oil_redirect.specs.Chain.{called, HasNamedCalls}
use Rattle.naga_oil_redirect.specs.Ordered.{callees_of, function_name_at}
use Rattle.naga_oil_redirect.specs.Redirected.{is_named, found, found_from, matching, matched, same_arguments, same_results, sent, send, send_at, redirected}

-- ---- functions that are found

pub has_name : (n : Name) (name : Text) → is_named (pointwise nat_eq n) name ≡ true → name ≡ Some n
has_name n None h = absurd (false≢true h)
has_name n (Some m) h = ap Some (sym ((bytes_eq-Decides n m).0 h))

record Found (i : ℕ) (n : Name) (fs : List (FunctionValue × Span)) (k : ℕ) : Type 0 where
  place : ℕ
  function : FunctionValue × Span
  counts : k ≡ i + place
  at : slice_get fs place ≡ Some function
  name : function.0.name ≡ Some n

found_later : (i : ℕ) (n : Name) (e : FunctionValue × Span) (fs : List (FunctionValue × Span)) (k : ℕ) → Found (i + 1) n fs k → Found i n (e ∷ fs) k
found_later i n e fs k f = record { place = suc f.place; function = f.function; counts = (let c = f.counts in omega (arith, c)); at = f.at; name = f.name }

found_if : (i : ℕ) (n : Name) (e : FunctionValue × Span) (fs : List (FunctionValue × Span)) (f : ℕ × FunctionValue) (b : Bool) → is_named (pointwise nat_eq n) e.0.name ≡ b → (if b then Ok (i, e.0) else found_from (i + 1) n fs) ≡ Ok f → (found_from (i + 1) n fs ≡ Ok f → Found (i + 1) n fs f.0) → Found i n (e ∷ fs) f.0
found_if i n e fs f true named h later =
    let same : i ≡ f.0 = ap (λ (r : Result (ℕ × FunctionValue) RedirectFault). place_or i r) h in
    record { place = 0; function = e; counts = omega (arith, same); at = refl; name = has_name n e.0.name named }
  where
    place_or : ℕ → Result (ℕ × FunctionValue) RedirectFault → ℕ
    place_or d (Ok x) = x.0
    place_or d (Err e) = d
found_if i n e fs f false named h later = found_later i n e fs f.0 (later h)

found_in : (i : ℕ) (n : Name) (fs : List (FunctionValue × Span)) (f : ℕ × FunctionValue) → found_from i n fs ≡ Ok f → Found i n fs f.0
found_in i n [] f h = absurd cc
found_in i n (e ∷ fs) f h = found_if i n e fs f (is_named (pointwise nat_eq n) e.0.name) refl h (found_in (i + 1) n fs f)

-- the function of a name, and where it stands
pub record IsAt (fs : List (FunctionValue × Span)) (n : Name) (k : ℕ) : Type 0 where
  pub function : FunctionValue × Span
  pub at : slice_get fs k ≡ Some function
  pub name : function.0.name ≡ Some n

found_at : (n : Name) (fs : List (FunctionValue × Span)) (f : ℕ × FunctionValue) → found n fs ≡ Ok f → IsAt fs n f.0
found_at n fs f h =
    let w = found_in 0 n fs f h in
    let place : w.place ≡ f.0 = (let c = w.counts in omega (arith, c)) in
    record { function = w.function; at = ap (slice_get fs) (sym place) ∙ w.at; name = w.name }

compared_is : (o r : Name) (f g : ℕ × FunctionValue) (a b : Bool) (pair : ℕ × ℕ) → (if not a then Err (argument_mismatch r o) else if not b then Err (return_type_mismatch r o) else Ok (f.0, g.0)) ≡ Ok pair → (f.0, g.0) ≡ pair
compared_is o r f g true true pair h = (let q : (f.0, g.0) ≡ pair = cc in q)
compared_is o r f g true false pair h = absurd cc
compared_is o r f g false b pair h = absurd cc

matching_is : (o r : Name) (x y : Result (ℕ × FunctionValue) RedirectFault) (pair : ℕ × ℕ) → matching o r x y ≡ Ok pair → (f : ℕ × FunctionValue) × (g : ℕ × FunctionValue) × (x ≡ Ok f) × (y ≡ Ok g) × ((f.0, g.0) ≡ pair)
matching_is o r (Err e) y pair h = absurd cc
matching_is o r (Ok f) (Err e) pair h = absurd cc
matching_is o r (Ok f) (Ok g) pair h = (f, g, refl, refl, compared_is o r f g (same_arguments f.1 g.1) (same_results f.1 g.1) pair h)

-- a function and its replacement stand at the places that are found
pub matched_at : (fs : List (FunctionValue × Span)) (o r : Name) (pair : ℕ × ℕ) → matched fs o r ≡ Ok pair → IsAt fs o pair.0 × IsAt fs r pair.1
matched_at fs o r pair h =
    let w = matching_is o r (found o fs) (found r fs) pair h in
    (subst (IsAt fs o) (ap (λ (p : ℕ × ℕ). p.0) w.4) (found_at o fs w.0 w.2), subst (IsAt fs r) (ap (λ (p : ℕ × ℕ). p.1) w.4) (found_at r fs w.1 w.3))

-- ---- names stay at their places

enumerate-at : {X : Type 0} (i k : ℕ) (xs : List X) → slice_get (enumerate_from i xs) k ≡ option_map (λ x. (i + k, x)) (slice_get xs k)
enumerate-at i k [] = refl
enumerate-at i zero (x ∷ xs) = ap (λ n. Some (n, x)) (omega arith)
enumerate-at i (suc k) (x ∷ xs) = enumerate-at (i + 1) k xs ∙ ap (λ n. option_map (λ y. (n, y)) (slice_get xs k)) (omega arith)

-- what stands at a place of a redirected module
pub sent_there : (m : ModuleValue) (f t : ℕ) (o : Name → Bool) (k : ℕ) → slice_get (redirected m f t o).functions k ≡ option_map (λ e. send_at f t o (k, e)) (slice_get m.functions k)
sent_there m f t o k =
    slice_get-map (send_at f t o) (enumerate_from 0 m.functions) k ∙ ap (option_map (send_at f t o)) (enumerate-at 0 k m.functions) ∙ both (slice_get m.functions k)
  where
    both : (x : Option (FunctionValue × Span)) → option_map (send_at f t o) (option_map (λ e. (0 + k, e)) x) ≡ option_map (λ e. send_at f t o (k, e)) x
    both None = refl
    both (Some e) = ap (λ n. Some (send_at f t o (n, e))) (omega arith)

kept_name : (f t : ℕ) (e : FunctionValue × Span) (b : Bool) → (if b then e else (send f t e.0, e.1)).0.name ≡ e.0.name
kept_name f t e true = refl
kept_name f t e false = refl

pub sent_name : (f t : ℕ) (o : Name → Bool) (k : ℕ) (e : FunctionValue × Span) → (send_at f t o (k, e)).0.name ≡ e.0.name
sent_name f t o k e = kept_name f t e ((k == t) || is_named o e.0.name)

-- the name of the function at a place, if one stands there and has one
abbrev pub name_at : List (FunctionValue × Span) → ℕ → Text
name_at fs k = option_flatten (option_map (λ f. f.0.name) (slice_get fs k))

pub names-sent : (m : ModuleValue) (f t : ℕ) (o : Name → Bool) (k : ℕ) → name_at (redirected m f t o).functions k ≡ name_at m.functions k
names-sent m f t o k = ap (λ (x : Option (FunctionValue × Span)). option_flatten (option_map (λ g. g.0.name) x)) (sent_there m f t o k) ∙ by (slice_get m.functions k)
  where
    by : (x : Option (FunctionValue × Span)) → option_flatten (option_map (λ (g : FunctionValue × Span). g.0.name) (option_map (λ e. send_at f t o (k, e)) x)) ≡ option_flatten (option_map (λ (g : FunctionValue × Span). g.0.name) x)
    by None = refl
    by (Some e) = sent_name f t o k e

pub count-sent : (m : ModuleValue) (f t : ℕ) (o : Name → Bool) → length (redirected m f t o).functions ≡ length m.functions
count-sent m f t o = length-map (enumerate_from 0 m.functions) (send_at f t o) ∙ length-enumerate_from 0 m.functions

-- ---- what is called then

pub callees-renamed : (r : Renames) (ts : Tokens) → callees_of (rename_tokens r ts) ≡ map r.function (callees_of ts)
callees-renamed r [] = refl
callees-renamed r (Callee f ∷ ts) = ap (λ cs. r.function f ∷ cs) (callees-renamed r ts)
callees-renamed r (x ∷ ts) = callees-renamed r ts

-- one name in the place of another
abbrev pub instead : (from to : Name) → Name → Name
instead from to n = if bytes_eq n from then to else n

pub names_here : (fs : List (FunctionValue × Span)) (n : Name) (k : ℕ) → IsAt fs n k → function_name_at fs k ≡ n
names_here fs n k w = ap (λ (x : Option (FunctionValue × Span)). unwrap_or (option_flatten (option_map (λ g. g.0.name) x)) []) w.at ∙ ap (λ t. unwrap_or t []) w.name

some_name : (t : Text) → IsSome t → (n : Name) × (t ≡ Some n)
some_name None h = absurd (false≢true h)
some_name (Some n) h = (n, refl)

something : (fs : List (FunctionValue × Span)) (k : ℕ) → k < length fs → (e : FunctionValue × Span) × (slice_get fs k ≡ Some e)
something [] k l = absurd (omega (arith, l))
something (e ∷ fs) zero l = (e, refl)
something (e ∷ fs) (suc k) l = something fs k (omega (arith, l))

-- each function has a name
pub named_at : (m : ModuleValue) → HasNamedCalls m → (k : ℕ) → k < length m.functions → (n : Name) × IsAt m.functions n k
named_at m h k l =
    let e = something m.functions k l in
    let n = some_name e.0.0.name (h.named k e.0 e.1) in
    (n.0, record { function = e.0; at = e.1; name = n.1 })

pub same_place : (m : ModuleValue) → HasNamedCalls m → (n : Name) (j k : ℕ) → IsAt m.functions n j → IsAt m.functions n k → j ≡ k
same_place m h n j k a b = h.distinct j k a.function b.function a.at b.at (a.name ∙ sym b.name)

module _ (m : ModuleValue) (h : HasNamedCalls m) (o r : Name) (pair : ℕ × ℕ) (from : IsAt m.functions o pair.0) (to : IsAt m.functions r pair.1) where
  callee_if : (c : ℕ) → c < length m.functions → (b d : Bool) → (c == pair.0) ≡ b → bytes_eq (function_name_at m.functions c) o ≡ d → function_name_at m.functions (if b then pair.1 else c) ≡ (if d then r else function_name_at m.functions c)
  callee_if c l true true e g = names_here m.functions r pair.1 to
  callee_if c l true false e g =
      let same : function_name_at m.functions c ≡ o = ap (function_name_at m.functions) (eqb_eq c pair.0 e) ∙ names_here m.functions o pair.0 from in
      absurd (false≢true (sym g ∙ (bytes_eq-Decides (function_name_at m.functions c) o).1 same))
  callee_if c l false true e g =
      let w = named_at m h c l in
      let same : w.0 ≡ o = sym (names_here m.functions w.0 c w.1) ∙ (bytes_eq-Decides (function_name_at m.functions c) o).0 g in
      let place = same_place m h o c pair.0 (subst (λ n. IsAt m.functions n c) same w.1) from in
      absurd (false≢true (sym e ∙ eq_eqb c pair.0 place))
  callee_if c l false false e g = refl

  callees_sent : (cs : List ℕ) → All (λ c. c < length m.functions) cs → map (function_name_at m.functions) (map (sent pair.0 pair.1).function cs) ≡ map (instead o r) (map (function_name_at m.functions) cs)
  callees_sent [] a = refl
  callees_sent (c ∷ cs) a =
      let first = callee_if c (All-head (λ c. c < length m.functions) c cs a) (c == pair.0) (bytes_eq (function_name_at m.functions c) o) refl refl in
      ap (λ n. n ∷ map (function_name_at m.functions) (map (sent pair.0 pair.1).function cs)) first ∙ ap (λ ns. instead o r (function_name_at m.functions c) ∷ ns) (callees_sent cs (All-tail (λ c. c < length m.functions) c cs a))

  -- what a function calls after its calls are redirected
  pub called_sent : (f : FunctionValue) → All (λ c. c < length m.functions) (callees_of f.body) → called m.functions (send pair.0 pair.1 f) ≡ map (instead o r) (called m.functions f)
  called_sent f a = ap (map (function_name_at m.functions)) (callees-renamed (sent pair.0 pair.1) f.body) ∙ callees_sent (callees_of f.body) a
