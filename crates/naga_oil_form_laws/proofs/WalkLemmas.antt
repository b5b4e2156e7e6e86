-- The walk of the body of a copy.
use Rattle.std.proofs.Common.{◌≡◌, ◌⊎◌, inl, inr, ⊎_elim, ℕ, zero, suc, ◌+◌, ◌<◌, ◌≤◌, Bool, true, false, cond, not, ◌||◌, ◌==◌, List, [], ◌∷◌, ◌++◌, length, map, take, Option, Some, None, option_map, option_to_list, slice_get, unwrap_or, refl, ap, sym, ◌∙◌, subst, arith, All}
use Rattle.std.specs.List.{flat_map}
use Rattle.std.proofs.lemmas.Bool.{or_cases, false≢true, cases_lt}
use Rattle.std.proofs.lemmas.List.{length-map, length-append, map-append}
use Rattle.std.proofs.lemmas.List.Elements.{All-nil, filter-append}
use Rattle.std.proofs.lemmas.Option.{slice_get-map, slice_get_within}
use Rattle.naga_oil_ir.specs.Body.{Tokens}
use Rattle.naga_oil_form.specs.BodyForm.{callee, external_kind, is_external, result_kind, is_result, run, places, is_known, AreEmitted, made, MayBeGiven, IsFine, AreFine}
use Rattle.naga_oil_form.specs.Links.{Links, linked, AreEarlier, reach, trail, has, added, started}
use Rattle.naga_oil_ir.specs.Parts.{Parts}
use Rattle.naga_oil_ir.specs.declared.parts.Named.{Named}
use Rattle.naga_oil_ir.specs.declared.parts.Named.TheVariants.{Nothing, TypeOf, ConstantAt, OverrideAt, GlobalAt, LocalAt, ArgumentAt, FunctionAt}
use Rattle.naga_oil_ir.specs.declared.span.Span.{Span}
use Rattle.naga_oil_ir.specs.declared.tokens.Token.{Token}
use Rattle.naga_oil_ir.specs.declared.tokens.Token.TheVariants.{At, Head, Plain, Flag, Absent, Use, Give, GiveCall, Emitted, Callee, Open, Close}
use Rattle.naga_oil_form.proofs.LinkLemmas.{eqb_eq, eq_eqb, or_left, or_right, has-append, only, in_one, in_all, All-has, All-from_has, has-added, has-started, started-closed, slice_get-append_within, slice_get-append_at}
use Rattle.naga_oil_derive.specs.Copies.{Values, Table, place_under, copied, under_table, value_links, AreCopies}
use Rattle.naga_oil_derive.specs.CopiedFunctionLaw.{spoken}
use Rattle.naga_oil_derive.specs.Functions.{IsCovered, AreCovered}
use Rattle.naga_oil_rename.specs.Renames.{Renames, rename_named, rename_token, rename_tokens}
use Rattle.naga_oil_walk.specs.Walk.{IsReachOrder, Holds, others}
use Rattle.naga_oil_derive.proofs.CopySteps.{has_copy}
use Rattle.naga_oil_walk.proofs.WalkForm.{known_cases}
use Rattle.naga_oil_walk.proofs.WalkLemmas.{added-append, closed, ends_trail, place_at, has_at}
use Rattle.naga_oil_walk.proofs.WalkNotes.{added-grows}

-- ---- lists

-- what a mapped list has comes from an element
pub mapped : (f : ℕ → ℕ) (o : List ℕ) (h : ℕ) → has (map f o) h ≡ true → (k : ℕ) × (has o k ≡ true) × (f k ≡ h)
mapped f [] h i = absurd (false≢true i)
mapped f (x ∷ o) h i =
    ⊎_elim (λ j. (x, or_left (x == x) (has o x) (eq_eqb x x refl), eqb_eq (f x) h j)) (λ j. let y = mapped f o h j in (y.0, or_right (x == y.0) (has o y.0) y.1, y.2)) (or_cases (f x == h) (has (map f o) h) i)

pub has_mapped : (f : ℕ → ℕ) (o : List ℕ) (k : ℕ) → has o k ≡ true → has (map f o) (f k) ≡ true
has_mapped f [] k i = absurd (false≢true i)
has_mapped f (x ∷ o) k i =
    ⊎_elim (λ j. or_left (f x == f k) (has (map f o) (f k)) (eq_eqb (f x) (f k) (ap f (eqb_eq x k j)))) (λ j. or_right (f x == f k) (has (map f o) (f k)) (has_mapped f o k j)) (or_cases (x == k) (has o k) i)

-- what holds of no element of a list that has it is absurd
has_not : (b : Bool) → (b ≡ true → ⊥) → b ≡ false
has_not true f = absurd (f refl)
has_not false f = refl

-- ---- the first of those that map to one place

pub record FirstTo (f : ℕ → ℕ) (o : List ℕ) (h : ℕ) : Type 0 where
  pub index : ℕ
  pub source : ℕ
  pub at : slice_get o index ≡ Some source
  pub goes : f source ≡ h
  pub first : has (map f (take index o)) h ≡ false

first_or : (f : ℕ → ℕ) (x : ℕ) (o : List ℕ) (h : ℕ) (b : Bool) → (f x == h) ≡ b → (b ≡ false → FirstTo f o h) → FirstTo f (x ∷ o) h
first_or f x o h true e k = record { index = 0; source = x; at = refl; goes = eqb_eq (f x) h e; first = refl }
first_or f x o h false e k =
    let y = k refl in
    record { index = suc y.index; source = y.source; at = y.at; goes = y.goes; first = ap (λ b. b || has (map f (take y.index o)) h) e ∙ y.first }

pub first_to : (f : ℕ → ℕ) (o : List ℕ) (h : ℕ) → has (map f o) h ≡ true → FirstTo f o h
first_to f [] h i = absurd (false≢true i)
first_to f (x ∷ o) h i = first_or f x o h (f x == h) refl (λ e. first_to f o h (sym (ap (λ b. b || has (map f o) h) e) ∙ i))

split_at : (o : List ℕ) (i k : ℕ) → slice_get o i ≡ Some k → (rest : List ℕ) × (o ≡ take i o ++ k ∷ rest)
split_at [] i k e = cc
split_at (x ∷ o) zero k e = let g : x ≡ k = cc in (o, ap (λ y. y ∷ o) g)
split_at (x ∷ o) (suc i) k e = let y = split_at o i k e in (y.0, ap (λ z. x ∷ z) y.1)

run_at : (n a j k : ℕ) → slice_get (run a n) j ≡ Some k → k ≡ a + j
run_at zero a j k e = cc
run_at (suc n) a zero k e = let g : a ≡ k = cc in omega (arith, g)
run_at (suc n) a (suc j) k e = let h = run_at n (suc a) j k e in omega (arith, h)

-- of what is added in order all stands before what comes next
pub added_before : (xs rest : List ℕ) (h n : ℕ) → has xs h ≡ false → added [] (xs ++ h ∷ rest) ≡ run 0 n → (x : ℕ) → has xs x ≡ true → x < h
added_before xs rest h n fresh e x i =
    let a = added [] xs in
    let absent : has a h ≡ false = has-added [] xs h ∙ fresh in
    let step : added [] (xs ++ h ∷ rest) ≡ added (a ++ h ∷ []) rest = added-append [] xs (h ∷ rest) ∙ ap (λ b. added (cond b a (a ++ h ∷ [])) rest) absent in
    let more = added-grows rest (a ++ h ∷ []) in
    let all : (a ++ h ∷ []) ++ more.0 ≡ run 0 n = sym more.1 ∙ sym step ∙ e in
    let size : length (a ++ h ∷ []) ≡ length a + 1 = length-append a (h ∷ []) in
    let here : slice_get (run 0 n) (length a) ≡ Some h = ap (λ ys. slice_get ys (length a)) (sym all) ∙ slice_get-append_within (a ++ h ∷ []) more.0 (length a) (omega (arith, size)) ∙ slice_get-append_at a h in
    let is : h ≡ 0 + length a = run_at n 0 (length a) h here in
    let at = place_at a x (has-added [] xs x ∙ i) in
    let l = slice_get_within a at.0 x at.1 in
    let there : slice_get (run 0 n) at.0 ≡ Some x = ap (λ ys. slice_get ys at.0) (sym all) ∙ slice_get-append_within (a ++ h ∷ []) more.0 at.0 (omega (arith, size, l)) ∙ slice_get-append_within a (h ∷ []) at.0 l ∙ at.1 in
    let its : x ≡ 0 + at.0 = run_at n 0 at.0 x there in
    omega (arith, is, its, l)

-- ---- those that a list doesn't have

others_has_one : (s xs : List ℕ) (k x : ℕ) → (has (others s xs) k ≡ true → (has s k ≡ false) × (has xs k ≡ true)) → (b : Bool) → has s x ≡ b → has (cond (not b) (x ∷ others s xs) (others s xs)) k ≡ true → (has s k ≡ false) × (has (x ∷ xs) k ≡ true)
others_has_one s xs k x ih true e j = let y = ih j in (y.0, or_right (x == k) (has xs k) y.1)
others_has_one s xs k x ih false e j = ⊎_elim (λ h. (ap (has s) (sym (eqb_eq x k h)) ∙ e, or_left (x == k) (has xs k) h)) (λ h. let y = ih h in (y.0, or_right (x == k) (has xs k) y.1)) (or_cases (x == k) (has (others s xs) k) j)

others_has : (s xs : List ℕ) (k : ℕ) → has (others s xs) k ≡ true → (has s k ≡ false) × (has xs k ≡ true)
others_has s [] k i = absurd (false≢true i)
others_has s (x ∷ xs) k i = others_has_one s xs k x (others_has s xs k) (has s x) refl i

others_in_one : (s xs : List ℕ) (k x : ℕ) → has s k ≡ false → has (x ∷ xs) k ≡ true → (has xs k ≡ true → has (others s xs) k ≡ true) → (b : Bool) → has s x ≡ b → has (cond (not b) (x ∷ others s xs) (others s xs)) k ≡ true
others_in_one s xs k x n i ih true e = ⊎_elim (λ h. absurd (false≢true (sym n ∙ ap (has s) (sym (eqb_eq x k h)) ∙ e))) ih (or_cases (x == k) (has xs k) i)
others_in_one s xs k x n i ih false e = ⊎_elim (λ h. or_left (x == k) (has (others s xs) k) h) (λ h. or_right (x == k) (has (others s xs) k) (ih h)) (or_cases (x == k) (has xs k) i)

others_in : (s xs : List ℕ) (k : ℕ) → has s k ≡ false → has xs k ≡ true → has (others s xs) k ≡ true
others_in s [] k n i = absurd (false≢true i)
others_in s (x ∷ xs) k n i = others_in_one s xs k x n i (others_in s xs k n) (has s x) refl

others_without : (s xs : List ℕ) (k : ℕ) → has s k ≡ true → others s (k ∷ xs) ≡ others s xs
others_without s xs k h = ap (λ b. cond (not b) (k ∷ others s xs) (others s xs)) h

others_with : (s xs : List ℕ) (k : ℕ) → has s k ≡ false → others s (k ∷ xs) ≡ k ∷ others s xs
others_with s xs k h = ap (λ b. cond (not b) (k ∷ others s xs) (others s xs)) h

others-append : (s xs ys : List ℕ) → others s (xs ++ ys) ≡ others s xs ++ others s ys
others-append s xs ys = filter-append (λ x. not (has s x)) xs ys

-- ---- known places

known_external : (ks s d : List ℕ) (x : ℕ) → is_external ks x ≡ true → is_known ks s d x ≡ true
known_external ks s d x h = or_left (is_external ks x) (has s x || has d x) h

known_began : (ks s d : List ℕ) (x : ℕ) → has s x ≡ true → is_known ks s d x ≡ true
known_began ks s d x h = or_right (is_external ks x) (has s x || has d x) (or_left (has s x) (has d x) h)

known_done : (ks s d : List ℕ) (x : ℕ) → has d x ≡ true → is_known ks s d x ≡ true
known_done ks s d x h = or_right (is_external ks x) (has s x || has d x) (or_right (has s x) (has d x) h)

-- ---- the operands of a copy

operands-map : (f : ℕ → ℕ) (os : List (Option ℕ)) → flat_map option_to_list (map (option_map f) os) ≡ map f (flat_map option_to_list os)
operands-map f [] = refl
operands-map f (None ∷ os) = operands-map f os
operands-map f (Some k ∷ os) = ap (λ xs. f k ∷ xs) (operands-map f os)

callee-renamed : (r : Renames) (n : Named) → callee (rename_named r n) ≡ option_map r.function (callee n)
callee-renamed r Nothing = refl
callee-renamed r (TypeOf k) = refl
callee-renamed r (ConstantAt k) = refl
callee-renamed r (OverrideAt k) = refl
callee-renamed r (GlobalAt k) = refl
callee-renamed r (LocalAt k) = refl
callee-renamed r (ArgumentAt k) = refl
callee-renamed r (FunctionAt k) = refl

there : (es : Values) (k : ℕ) → k < length es → (a : Parts × Span) × (slice_get es k ≡ Some a)
there [] k h = absurd (omega arith)
there (x ∷ es) zero h = (x, refl)
there (x ∷ es) (suc k) h = there es k (omega arith)

abbrev pub kinds_of : Values → List ℕ
kinds_of es = map (λ e. e.0.kind) es

abbrev pub names_of : Values → List Named
names_of es = map (λ e. e.0.named) es

abbrev pub callees_of : Values → List (Option ℕ)
callees_of es = map callee (names_of es)

-- expressions that are copied: those of the order o, of which initialisers reach s, by the table t
module _ (r : Renames) (es ws : Values) (s o : List ℕ) (t : Table) (c : AreCopies r es s o t ws) (ready : IsReachOrder (value_links es) o) (within : (k : ℕ) → has o k ≡ true → k < length es) where
  abbrev to : ℕ → ℕ
  to = place_under t

  abbrev ls : Links
  ls = value_links es

  abbrev ms : Links
  ms = value_links ws

  -- a copy reads as its source
  pub copy_at : (k : ℕ) → has o k ≡ true → (a : Parts × Span) × (slice_get es k ≡ Some a) × (e : Parts × Span) × (slice_get ws (to k) ≡ Some e) × (e.0 ≡ copied r t a.0)
  copy_at k h =
      let a = there es k (within k h) in
      let e = c.reads k a.0 h a.1 in
      (a.0, a.1, e.0, e.1, e.2)

  pub copy_within : (k : ℕ) → has o k ≡ true → to k < length ws
  copy_within k h = let x = copy_at k h in slice_get_within ws (to k) x.2 x.3

  pub read_at : {X : Type 0} (f : Parts → X) (g : X → X) → ((p : Parts) → f (copied r t p) ≡ g (f p)) → (k : ℕ) → has o k ≡ true → slice_get (map (λ e. f e.0) ws) (to k) ≡ option_map g (slice_get (map (λ e. f e.0) es) k)
  read_at f g h k i =
      let x = copy_at k i in
      slice_get-map (λ (e : Parts × Span). f e.0) ws (to k) ∙ ap (option_map (λ (e : Parts × Span). f e.0)) x.3 ∙ ap Some (ap f x.4 ∙ h x.0.0) ∙ sym (ap (option_map g) (slice_get-map (λ (e : Parts × Span). f e.0) es k ∙ ap (option_map (λ (e : Parts × Span). f e.0)) x.1))

  same_option : {X : Type 0} (o : Option X) → option_map (λ x. x) o ≡ o
  same_option None = refl
  same_option (Some x) = refl

  kind_at : (k : ℕ) → has o k ≡ true → slice_get (kinds_of ws) (to k) ≡ slice_get (kinds_of es) k
  kind_at k h = read_at (λ p. p.kind) (λ x. x) (λ p. refl) k h ∙ same_option (slice_get (kinds_of es) k)

  pub external_same : (k : ℕ) → has o k ≡ true → is_external (kinds_of ws) (to k) ≡ is_external (kinds_of es) k
  external_same k h = ap external_kind (kind_at k h)

  pub result_same : (k : ℕ) → has o k ≡ true → is_result (kinds_of ws) (to k) ≡ is_result (kinds_of es) k
  result_same k h = ap result_kind (kind_at k h)

  named_at : (k : ℕ) → has o k ≡ true → slice_get (names_of ws) (to k) ≡ option_map (rename_named r) (slice_get (names_of es) k)
  named_at k h = read_at (λ p. p.named) (rename_named r) (λ p. refl) k h

  named_callee : (n : Option Named) → option_map callee (option_map (rename_named r) n) ≡ option_map (option_map r.function) (option_map callee n)
  named_callee None = refl
  named_callee (Some n) = ap Some (callee-renamed r n)

  pub callee_at : (k : ℕ) → has o k ≡ true → slice_get (callees_of ws) (to k) ≡ option_map (option_map r.function) (slice_get (callees_of es) k)
  callee_at k h =
      slice_get-map callee (names_of ws) (to k) ∙ ap (option_map callee) (named_at k h) ∙ named_callee (slice_get (names_of es) k) ∙ sym (ap (option_map (option_map r.function)) (slice_get-map callee (names_of es) k))

  links_of_some : (o : Option (List ℕ)) (xs : List ℕ) → o ≡ Some xs → unwrap_or o [] ≡ xs
  links_of_some o xs e = ap (λ x. unwrap_or x []) e

  pub links_at : (k : ℕ) → has o k ≡ true → linked ms (to k) ≡ map to (linked ls k)
  links_at k h =
      let x = copy_at k h in
      let here = links_of_some (slice_get ls k) (flat_map option_to_list x.0.0.operands) (slice_get-map (λ (e : Parts × Span). flat_map option_to_list e.0.operands) es k ∙ ap (option_map (λ (e : Parts × Span). flat_map option_to_list e.0.operands)) x.1) in
      let gone = links_of_some (slice_get ms (to k)) (flat_map option_to_list x.2.0.operands) (slice_get-map (λ (e : Parts × Span). flat_map option_to_list e.0.operands) ws (to k) ∙ ap (option_map (λ (e : Parts × Span). flat_map option_to_list e.0.operands)) x.3) in
      gone ∙ ap (λ p. flat_map option_to_list p.operands) x.4 ∙ operands-map to x.0.0.operands ∙ sym (ap (map to) here)

  -- ---- operands are earlier

  pub source_of : (h : ℕ) → h < length ws → FirstTo to o h
  source_of h l = first_to to o h (has_copy r es s o t ws h c l)

  earlier_operand : (h : ℕ) → FirstTo to o h → (y : ℕ) → has (linked ms h) y ≡ true → y < h
  earlier_operand h f y i =
      let k = f.source in
      let hk : has o k ≡ true = has_at o f.index k f.at in
      let gone : has (map to (linked ls k)) y ≡ true = ap (λ xs. has xs y) (sym (links_at k hk) ∙ ap (linked ms) f.goes) ∙ i in
      let x = mapped to (linked ls k) y gone in
      let before = ready.after f.index k x.0 f.at x.1 in
      let z = split_at o f.index k f.at in
      let xs = map to (take f.index o) in
      let split : map to o ≡ xs ++ h ∷ map to z.0 = ap (map to) z.1 ∙ map-append to (take f.index o) (k ∷ z.0) ∙ ap (λ q. xs ++ q ∷ map to z.0) f.goes in
      let order : added [] (xs ++ h ∷ map to z.0) ≡ run 0 (length ws) = ap (added []) (sym split) ∙ c.order in
      let l = added_before xs (map to z.0) h (length ws) f.first order (to x.0) (has_mapped to (take f.index o) x.0 before) in
      subst (λ q. q < h) x.2 l

  nothing_linked : (h : ℕ) → length ws ≤ h → linked ms h ≡ []
  nothing_linked h l = none_linked (slice_get ms h) refl
    where
      none_linked : (q : Option (List ℕ)) → slice_get ms h ≡ q → unwrap_or q [] ≡ []
      none_linked None e = refl
      none_linked (Some xs) e =
          let k = slice_get_within ms h xs e in
          let size : length ms ≡ length ws = length-map ws (λ (x : Parts × Span). flat_map option_to_list x.0.operands) in
          absurd (omega (arith, k, size, l))

  within_or : (h : ℕ) → (h < length ws) ⊎ (length ws ≤ h) → All (λ y. y < h) (linked ms h)
  within_or h (inl l) = All-from_has (λ y. y < h) (linked ms h) (earlier_operand h (source_of h l))
  within_or h (inr l) = subst (All (λ y. y < h)) (sym (nothing_linked h l)) (All-nil (λ y. y < h))

  pub copies_earlier : AreEarlier ms
  copies_earlier h = within_or h (cases_lt h (length ws))

  -- ---- what initialisers reach

  module _ (is : List ℕ) (earlier : AreEarlier ls) (starts : s ≡ started ls is) (among : Holds o s) where
    abbrev began : List ℕ
    began = started ms (map to is)

    root_started : (ls : Links) → AreEarlier ls → (rs : List ℕ) (x : ℕ) → has rs x ≡ true → has (started ls rs) x ≡ true
    root_started ls a rs x h = has-started ls rs x ∙ in_all (trail ls) rs x x h (ends_trail ls a x)

    reach_gone : (n x k : ℕ) → has o x ≡ true → has began (to x) ≡ true → has (reach n ls x) k ≡ true → has began (to k) ≡ true
    reach_gone zero x k h b i = absurd (false≢true i)
    reach_gone (suc n) x k h b i =
        ⊎_elim (λ j. let y = in_one (reach n ls) (linked ls x) k j in let hy = closed ls o ready x h y.0 y.1 in let link : has (linked ms (to x)) (to y.0) ≡ true = ap (λ xs. has xs (to y.0)) (links_at x h) ∙ has_mapped to (linked ls x) y.0 y.1 in reach_gone n y.0 k hy (started-closed ms copies_earlier (map to is) (to x) (to y.0) b link) y.2) (λ j. subst (λ z. has began (to z) ≡ true) (only x k j) b) (or_cases (has (flat_map (reach n ls) (linked ls x)) k) (has (x ∷ []) k) (sym (has-append (flat_map (reach n ls) (linked ls x)) (x ∷ []) k) ∙ i))

    in_started : (x : ℕ) → has s x ≡ has (started ls is) x
    in_started x = ap (λ q. has q x) starts

    pub began_gone : (k : ℕ) → has s k ≡ true → has began (to k) ≡ true
    unfolding trail
    began_gone k h =
        let y = in_one (trail ls) is k (sym (has-started ls is k) ∙ sym (in_started k) ∙ h) in
        let hs : has s y.0 ≡ true = in_started y.0 ∙ root_started ls earlier is y.0 y.1 in
        reach_gone (suc y.0) y.0 k (among y.0 hs) (root_started ms copies_earlier (map to is) (to y.0) (has_mapped to is y.0 y.1)) y.2

    abbrev FromBegun : ℕ → Type 0
    FromBegun h = (k : ℕ) × (has s k ≡ true) × (to k ≡ h)

    reach_from : (n h x : ℕ) → FromBegun h → has (reach n ms h) x ≡ true → FromBegun x
    reach_from zero h x f i = absurd (false≢true i)
    reach_from (suc n) h x f i =
        ⊎_elim (λ j. let y = in_one (reach n ms) (linked ms h) x j in let gone : has (map to (linked ls f.0)) y.0 ≡ true = ap (λ xs. has xs y.0) (sym (links_at f.0 (among f.0 f.1)) ∙ ap (linked ms) f.2) ∙ y.1 in let z = mapped to (linked ls f.0) y.0 gone in reach_from n y.0 x (z.0, in_started z.0 ∙ started-closed ls earlier is f.0 z.0 (sym (in_started f.0) ∙ f.1) z.1, z.2) y.2) (λ j. subst FromBegun (only h x j) f) (or_cases (has (flat_map (reach n ms) (linked ms h)) x) (has (h ∷ []) x) (sym (has-append (flat_map (reach n ms) (linked ms h)) (h ∷ []) x) ∙ i))

    pub began_from : (x : ℕ) → has began x ≡ true → FromBegun x
    unfolding trail
    began_from x h =
        let y = in_one (trail ms) (map to is) x (sym (has-started ms (map to is) x) ∙ h) in
        let z = mapped to is y.0 y.1 in
        reach_from (suc y.0) y.0 x (z.0, in_started z.0 ∙ root_started ls earlier is z.0 z.1, z.2) y.2

    pub began_no_results : All (λ h. is_result (kinds_of es) h ≡ false) s → All (λ h. is_result (kinds_of ws) h ≡ false) began
    began_no_results a = All-from_has (λ h. is_result (kinds_of ws) h ≡ false) began (λ x h. let f = began_from x h in ap (is_result (kinds_of ws)) (sym f.2) ∙ result_same f.0 (among f.0 f.1) ∙ All-has (λ h. is_result (kinds_of es) h ≡ false) s f.0 a f.1)

    -- ---- the walk

    abbrev gone : List ℕ → List ℕ
    gone done = map to (others s done)

    not_gone : (done : List ℕ) (k : ℕ) → Holds o done → has o k ≡ true → has s k ≡ false → has done k ≡ false → has (gone done) (to k) ≡ false
    not_gone done k among_done h n f =
        has_not (has (gone done) (to k)) (λ i. let x = mapped to (others s done) (to k) i in let y = others_has s done x.0 x.1 in ⊎_elim (λ e. false≢true (sym f ∙ ap (has done) (sym e) ∙ y.1)) (λ e. false≢true (sym n ∙ e.1)) (c.shared x.0 k (among_done x.0 y.1) h x.2))

    done_or : (done : List ℕ) (k : ℕ) (b : Bool) → has s k ≡ b → has done k ≡ true → is_known (kinds_of ws) began (gone done) (to k) ≡ true
    done_or done k true e i = known_began (kinds_of ws) began (gone done) (to k) (began_gone k e)
    done_or done k false e i = known_done (kinds_of ws) began (gone done) (to k) (has_mapped to (others s done) k (others_in s done k e i))

    known_gone : (done : List ℕ) (k : ℕ) → has o k ≡ true → is_known (kinds_of es) s done k ≡ true → is_known (kinds_of ws) began (gone done) (to k) ≡ true
    known_gone done k h i =
        ⊎_elim (λ e. known_external (kinds_of ws) began (gone done) (to k) (external_same k h ∙ e)) (λ e. ⊎_elim (λ b. known_began (kinds_of ws) began (gone done) (to k) (began_gone k b)) (λ d. done_or done k (has s k) refl d) e) (known_cases (kinds_of es) s done k i)

    gone-append : (done xs : List ℕ) → gone (done ++ xs) ≡ gone done ++ gone xs
    gone-append done xs = ap (map to) (others-append s done xs) ∙ map-append to (others s done) (others s xs)

    append-none : (xs : List ℕ) → xs ++ [] ≡ xs
    append-none [] = refl
    append-none (x ∷ xs) = ap (λ ys. x ∷ ys) (append-none xs)

    holds_push : (done : List ℕ) (k : ℕ) → Holds o done → has o k ≡ true → Holds o (done ++ k ∷ [])
    holds_push done k a h x i = ⊎_elim (λ j. a x j) (λ j. subst (λ z. has o z ≡ true) (only k x j) h) (or_cases (has done x) (has (k ∷ []) x) (sym (has-append done (k ∷ []) x) ∙ i))

    known_operands : (done : List ℕ) (k : ℕ) → has o k ≡ true → All (λ h. is_known (kinds_of es) s done h ≡ true) (linked ls k) → All (λ h. is_known (kinds_of ws) began (gone done) h ≡ true) (linked ms (to k))
    known_operands done k h a =
        All-from_has (λ x. is_known (kinds_of ws) began (gone done) x ≡ true) (linked ms (to k)) (λ x i. let y = mapped to (linked ls k) x (ap (λ xs. has xs x) (sym (links_at k h)) ∙ i) in subst (λ z. is_known (kinds_of ws) began (gone done) z ≡ true) y.2 (known_gone done y.0 (closed ls o ready k h y.0 y.1) (All-has (λ z. is_known (kinds_of es) s done z ≡ true) (linked ls k) y.0 a y.1)))

    emitted_one : (k : ℕ) (xs done : List ℕ) → Holds o done → has o k ≡ true → AreEmitted (kinds_of es) ls s done (k ∷ xs) → AreEmitted (kinds_of ws) ms began (gone (done ++ k ∷ [])) (gone xs) → (q : Bool) → has s k ≡ q → AreEmitted (kinds_of ws) ms began (gone done) (gone (k ∷ xs))
    emitted_one k xs done a here f rest true e =
        let same : gone (done ++ k ∷ []) ≡ gone done = gone-append done (k ∷ []) ∙ ap (λ ys. gone done ++ map to ys) (others_without s [] k e) ∙ append-none (gone done) in
        subst (λ ys. AreEmitted (kinds_of ws) ms began (gone done) ys) (sym (ap (map to) (others_without s xs k e))) (subst (λ d. AreEmitted (kinds_of ws) ms began d (gone xs)) same rest)
    emitted_one k xs done a here f rest false e =
        let same : gone (done ++ k ∷ []) ≡ gone done ++ to k ∷ [] = gone-append done (k ∷ []) ∙ ap (λ ys. gone done ++ map to ys) (others_with s [] k e) in
        subst (λ ys. AreEmitted (kinds_of ws) ms began (gone done) ys) (sym (ap (map to) (others_with s xs k e))) ((external_same k here ∙ f.0.0, result_same k here ∙ f.0.1, not_gone done k a here e f.0.2, known_operands done k here f.0.3), subst (λ d. AreEmitted (kinds_of ws) ms began d (gone xs)) same rest)

    pub emitted_gone : (xs done : List ℕ) → Holds o done → Holds o xs → AreEmitted (kinds_of es) ls s done xs → AreEmitted (kinds_of ws) ms began (gone done) (gone xs)
    emitted_gone [] done a b f = tt
    emitted_gone (k ∷ xs) done a b f =
        let here = b k (or_left (k == k) (has xs k) (eq_eqb k k refl)) in
        emitted_one k xs done a here f (emitted_gone xs (done ++ k ∷ []) (holds_push done k a here) (λ x i. b x (or_right (k == x) (has xs x) i)) f.1) (has s k) refl

    -- ---- the parts of a body

    module _ (range : ℕ × ℕ → ℕ × ℕ) (no_results : All (λ h. is_result (kinds_of es) h ≡ false) s) where
      abbrev renames : Renames
      renames = under_table r t range

      -- emitted ranges lie within the copies
      abbrev RangesFine : Tokens → Type 0
      RangesFine ts = (i : ℕ) (q : ℕ × ℕ) → slice_get ts i ≡ Some (Emitted q) → (q.0 ≤ q.1) × (q.1 ≤ length ws)

      size : length ms ≡ length ws
      size = length-map ws (λ (x : Parts × Span). flat_map option_to_list x.0.operands)

      to_within : (k : ℕ) → has o k ≡ true → to k < length ms
      to_within k h = let l = copy_within k h in omega (arith, l, size)

      not_begun : (k : ℕ) → is_result (kinds_of es) k ≡ true → has s k ≡ false
      not_begun k h = has_not (has s k) (λ i. false≢true (sym (All-has (λ x. is_result (kinds_of es) x ≡ false) s k no_results i) ∙ h))

      given_gone : (n : ℕ) (done : List ℕ) (f : Option ℕ) (k : ℕ) → Holds o done → has o k ≡ true → MayBeGiven n (kinds_of es) (callees_of es) done f k → MayBeGiven (length ms) (kinds_of ws) (callees_of ws) (gone done) (option_map r.function f) (to k)
      given_gone n done f k a h g =
          (to_within k h, result_same k h ∙ g.1, callee_at k h ∙ ap (option_map (option_map r.function)) g.2, not_gone done k a h (not_begun k g.1) g.3)

      first_has : (k : ℕ) → has (k ∷ []) k ≡ true
      first_has k = or_left (k == k) false (eq_eqb k k refl)

      emits_first : (p : ℕ × ℕ) → Some (Emitted (range p)) ≡ Some (Emitted (range p))
      emits_first p = refl

      fine_gone : (n : ℕ) (done : List ℕ) (x : Token) (ts : Tokens) → Holds o done → Holds o (spoken x) → IsCovered t range s x → RangesFine (rename_token renames x ∷ ts) → IsFine n (kinds_of es) (callees_of es) ls s done x → IsFine (length ms) (kinds_of ws) (callees_of ws) ms began (gone done) (rename_token renames x)
      fine_gone n done (Use k) ts a b c w f = let h = b k (first_has k) in (to_within k h, known_gone done k h f.1)
      fine_gone n done (Give k) ts a b c w f = given_gone n done None k a (b k (first_has k)) f
      fine_gone n done (GiveCall g k) ts a b c w f = given_gone n done (Some g) k a (b k (first_has k)) f
      fine_gone n done (Emitted p) ts a b c w f =
          let l = w 0 (range p) refl in
          let le = l.1 in
          (l.0, omega (arith, le, size), subst (λ ys. AreEmitted (kinds_of ws) ms began (gone done) ys) (sym c) (emitted_gone (places p) done a b f.2))
      fine_gone n done (At x) ts a b c w f = tt
      fine_gone n done (Head x) ts a b c w f = tt
      fine_gone n done (Plain x) ts a b c w f = tt
      fine_gone n done (Flag x) ts a b c w f = tt
      fine_gone n done Absent ts a b c w f = tt
      fine_gone n done (Callee x) ts a b c w f = tt
      fine_gone n done Open ts a b c w f = tt
      fine_gone n done Close ts a b c w f = tt

      one_gone : (k : ℕ) → is_result (kinds_of es) k ≡ true → to k ∷ [] ≡ gone (k ∷ [])
      one_gone k h = sym (ap (map to) (others_with s [] k (not_begun k h)))

      made_gone : (n : ℕ) (done : List ℕ) (x : Token) → IsCovered t range s x → IsFine n (kinds_of es) (callees_of es) ls s done x → made (rename_token renames x) ≡ gone (made x)
      made_gone n done (Give k) c f = one_gone k f.1
      made_gone n done (GiveCall g k) c f = one_gone k f.1
      made_gone n done (Emitted p) c f = c
      made_gone n done (Use k) c f = refl
      made_gone n done (At x) c f = refl
      made_gone n done (Head x) c f = refl
      made_gone n done (Plain x) c f = refl
      made_gone n done (Flag x) c f = refl
      made_gone n done Absent c f = refl
      made_gone n done (Callee x) c f = refl
      made_gone n done Open c f = refl
      made_gone n done Close c f = refl

      made_spoken : (x : Token) (k : ℕ) → has (made x) k ≡ true → has (spoken x) k ≡ true
      made_spoken (Give y) k h = h
      made_spoken (GiveCall g y) k h = h
      made_spoken (Emitted p) k h = h
      made_spoken (Use y) k h = absurd (false≢true h)
      made_spoken (At x) k h = h
      made_spoken (Head x) k h = h
      made_spoken (Plain x) k h = h
      made_spoken (Flag x) k h = h
      made_spoken Absent k h = h
      made_spoken (Callee x) k h = h
      made_spoken Open k h = h
      made_spoken Close k h = h

      pub walk_gone : (n : ℕ) (ts : Tokens) (done : List ℕ) → Holds o done → Holds o (flat_map spoken ts) → AreCovered t range s ts → RangesFine (rename_tokens renames ts) → AreFine n (kinds_of es) (callees_of es) ls s done ts → AreFine (length ms) (kinds_of ws) (callees_of ws) ms began (gone done) (rename_tokens renames ts)
      walk_gone n [] done a b c w f = tt
      walk_gone n (x ∷ ts) done a b c w f =
          let here : Holds o (spoken x) = λ k h. b k (has-append (spoken x) (flat_map spoken ts) k ∙ or_left (has (spoken x) k) (has (flat_map spoken ts) k) h) in
          let later : Holds o (flat_map spoken ts) = λ k h. b k (has-append (spoken x) (flat_map spoken ts) k ∙ or_right (has (spoken x) k) (has (flat_map spoken ts) k) h) in
          let more : Holds o (done ++ made x) = λ k h. ⊎_elim (λ j. a k j) (λ j. here k (made_spoken x k j)) (or_cases (has done k) (has (made x) k) (sym (has-append done (made x) k) ∙ h)) in
          let rest = walk_gone n ts (done ++ made x) more later c.1 (λ i q e. w (suc i) q e) f.1 in
          let same : gone (done ++ made x) ≡ gone done ++ made (rename_token renames x) = gone-append done (made x) ∙ ap (λ ys. gone done ++ ys) (sym (made_gone n done x c.0 f.0)) in
          (fine_gone n done x (rename_tokens renames ts) a here c.0 w f.0, subst (λ d. AreFine (length ms) (kinds_of ws) (callees_of ws) ms began d (rename_tokens renames ts)) same rest)
