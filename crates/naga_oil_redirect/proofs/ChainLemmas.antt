-- Calls that are redirected along a chain, one redirection after another.
use Rattle.std.proofs.Common.{◌≡◌, ◌∙◌, ⊎_elim, ℕ, ◌<◌, ◌==◌, ◌||◌, Bool, true, false, if◌then◌else◌, unwrap_or, List, [], ◌∷◌, ◌++◌, map, length, bytes_eq, slice_get, Option, Some, None, option_map, IsSome, All, refl, ap, sym, subst, append_assoc, arith}
use Rattle.std.specs.List.{list_any}
use Rattle.std.proofs.lemmas.Bool.{cases_Bool, false≢true}
use Rattle.std.proofs.lemmas.List.{append-nil, length-map}
use Rattle.std.proofs.lemmas.List.Elements.{All-nil, All-cons, All-head, All-tail}
use Rattle.std.proofs.lemmas.Option.{none-some, same_Some, slice_get-map, slice_get_within}
use Rattle.std.proofs.lemmas.Slice.Eq.{bytes_eq-Decides}
use Rattle.naga_oil_ir.specs.ModuleValue.{ModuleValue, FunctionValue, EntryValue}
use Rattle.naga_oil_form.specs.NameForm.{Name}
use Rattle.naga_oil_ir.specs.Rows.{Text}
use Rattle.naga_oil_ir.specs.declared.span.Span.{Span}
use Rattle.naga_oil_form.proofs.LinkLemmas.{eqb_eq, eq_eqb}
use Rattle.naga_oil_redirect.specs.Chain.{last_of, destination, SentInTurn, NoMore, OneMore, called, AreSent, IsSentFunction, IsSentEntry, IsSentDown, CallsWithin, HasNamedCalls}
use Rattle.naga_oil_redirect.specs.ChainLaw.{PassesJust, SendsOn, SendsApart, ChainLaw, StepLaw, StartLaw}
use Rattle.naga_oil_redirect.specs.Ordered.{callees_of, function_name_at}
use Rattle.naga_oil_redirect.specs.Redirected.{is_named, sent, send, send_at, send_entry, redirected}
use Rattle.naga_oil_redirect.proofs.ChainNames.{IsAt, matched_at, sent_there, sent_name, names-sent, count-sent, instead, called_sent, callees-renamed}

-- ---- destinations

last-push : (rs : List Name) (r base : Name) → last_of (rs ++ r ∷ []) base ≡ r
last-push [] r base = refl
last-push (s ∷ rs) r base = last-push rs r s

either : (P : Name → Type 0) (b : Bool) (x y : Name) → P x → P y → P (if b then x else y)
either P true x y p q = p
either P false x y p q = q

first_in : (r : Name) (rs : List Name) → list_any (bytes_eq r) (r ∷ rs) ≡ true
first_in r rs = ap (λ b. b || list_any (bytes_eq r) rs) ((bytes_eq-Decides r r).1 refl)

or_then : (a b : Bool) → b ≡ true → (a || b) ≡ true
or_then true b e = refl
or_then false b e = e

later_in : (s r : Name) (rs : List Name) → list_any (bytes_eq s) rs ≡ true → list_any (bytes_eq s) (r ∷ rs) ≡ true
later_in s r rs h = or_then (bytes_eq s r) (list_any (bytes_eq s) rs) h

-- what is so of the names of a chain is so of the last of them, and of each destination
of_last : (P : Name → Type 0) (rs : List Name) (base : Name) → P base → ((r : Name) → list_any (bytes_eq r) rs ≡ true → P r) → P (last_of rs base)
of_last P [] base p all = p
of_last P (r ∷ rs) base p all = of_last P rs r (all r (first_in r rs)) (λ s h. all s (later_in s r rs h))

of_destination : (P : Name → Type 0) (rs : List Name) (caller : Text) (base : Name) → P base → ((r : Name) → list_any (bytes_eq r) rs ≡ true → P r) → P (destination rs caller base)
of_destination P [] caller base p all = p
of_destination P (r ∷ rs) caller base p all = either P (is_named (λ n. bytes_eq n r) caller) base (destination rs caller r) p (of_destination P rs caller r (all r (first_in r rs)) (λ s h. all s (later_in s r rs h)))

-- the destination in a replacement stays when a replacement is added after it
destination-in : (rs : List Name) (r n base : Name) → list_any (bytes_eq n) rs ≡ true → destination (rs ++ r ∷ []) (Some n) base ≡ destination rs (Some n) base
destination-in [] r n base h = absurd (false≢true h)
destination-in (s ∷ rs) r n base h = by (bytes_eq n s) refl (λ e. destination-in rs r n s e)
  where
    by : (b : Bool) → bytes_eq n s ≡ b → (list_any (bytes_eq n) rs ≡ true → destination (rs ++ r ∷ []) (Some n) s ≡ destination rs (Some n) s) → (if b then base else destination (rs ++ r ∷ []) (Some n) s) ≡ (if b then base else destination rs (Some n) s)
    by true e next = refl
    by false e next = next (ap (λ b. b || list_any (bytes_eq n) rs) (sym e) ∙ h)

-- and so does the one that comes
destination-own : (rs : List Name) (r base : Name) → destination (rs ++ r ∷ []) (Some r) base ≡ destination rs (Some r) base
destination-own [] r base = ap (λ b. if b then base else r) ((bytes_eq-Decides r r).1 refl)
destination-own (s ∷ rs) r base = ap (λ d. if bytes_eq r s then base else d) (destination-own rs r s)

-- the destination in any other caller is the last replacement
destination-other : (rs : List Name) (n base : Name) → list_any (bytes_eq n) rs ≡ false → destination rs (Some n) base ≡ last_of rs base
destination-other [] n base h = refl
destination-other (s ∷ rs) n base h = by (bytes_eq n s) refl (λ e. destination-other rs n s e)
  where
    by : (b : Bool) → bytes_eq n s ≡ b → (list_any (bytes_eq n) rs ≡ false → destination rs (Some n) s ≡ last_of rs s) → (if b then base else destination rs (Some n) s) ≡ last_of rs s
    by true e next = absurd (false≢true (sym h ∙ ap (λ b. b || list_any (bytes_eq n) rs) e))
    by false e next = next (ap (λ b. b || list_any (bytes_eq n) rs) (sym e) ∙ h)

or-swap : (a b c : Bool) → (a || (b || c)) ≡ (b || (a || c))
or-swap true true c = refl
or-swap true false c = refl
or-swap false b c = refl

or-none : (a : Bool) → (a || false) ≡ a
or-none true = refl
or-none false = refl

any-push : (rs : List Name) (r n : Name) → list_any (bytes_eq n) (rs ++ r ∷ []) ≡ (bytes_eq n r || list_any (bytes_eq n) rs)
any-push [] r n = refl
any-push (s ∷ rs) r n = ap (λ b. bytes_eq n s || b) (any-push rs r n) ∙ or-swap (bytes_eq n s) (bytes_eq n r) (list_any (bytes_eq n) rs)

-- ---- lists of names

-- calls of d are redirected to e, where e stands for d
sent_again : (base d e o r : Name) (xs ys : List Name) → instead o r d ≡ e → AreSent base d xs ys → AreSent base e xs (map (instead o r) ys)
sent_again base d e o r xs ys h a = λ i at. slice_get-map (instead o r) ys i ∙ ap (option_map (instead o r)) (a i at) ∙ ap Some h

instead_same : (o r : Name) → instead o r o ≡ r
instead_same o r = ap (λ b. if b then r else o) ((bytes_eq-Decides o o).1 refl)

instead_other : (o r d : Name) → bytes_eq d o ≡ false → instead o r d ≡ d
instead_other o r d h = ap (λ b. if b then r else d) h

-- ---- one redirection

functions_there : (o : Option (FunctionValue × Span)) (f : FunctionValue × Span → FunctionValue × Span) (g : FunctionValue × Span) → option_map f o ≡ Some g → (e : FunctionValue × Span) × (o ≡ Some e) × (f e ≡ g)
functions_there None f g h = absurd (none-some g h)
functions_there (Some e) f g h = (e, refl, same_Some (f e) g h)

entries_there : (o : Option EntryValue) (f : EntryValue → EntryValue) (y : EntryValue) → option_map f o ≡ Some y → (x : EntryValue) × (o ≡ Some x) × (f x ≡ y)
entries_there None f y h = absurd (none-some y h)
entries_there (Some e) f y h = (e, refl, same_Some (f e) y h)

module _ (m : ModuleValue) (o r : Name) (omitted : Name → Bool) (pair : ℕ × ℕ) (h : HasNamedCalls m) (from : IsAt m.functions o pair.0) (to : IsAt m.functions r pair.1) where
  abbrev next : ModuleValue
  next = redirected m pair.0 pair.1 omitted

  names_next : (k : ℕ) → function_name_at next.functions k ≡ function_name_at m.functions k
  names_next k = ap (λ (t : Text). unwrap_or t []) (names-sent m pair.0 pair.1 omitted k)

  called_next : (f : FunctionValue) → called next.functions f ≡ called m.functions f
  called_next f = all (callees_of f.body)
    where
      all : (cs : List ℕ) → map (function_name_at next.functions) cs ≡ map (function_name_at m.functions) cs
      all [] = refl
      all (c ∷ cs) = ap (λ n. n ∷ map (function_name_at next.functions) cs) (names_next c) ∙ ap (λ ns. function_name_at m.functions c ∷ ns) (all cs)

  -- whether the calls of the function at a place stay
  abbrev stays : ℕ → FunctionValue × Span → Bool
  stays k e = (k == pair.1) || is_named omitted e.0.name

  -- what a function calls then: what it called, or what the call is redirected to
  called_then : (k : ℕ) (e : FunctionValue × Span) → slice_get m.functions k ≡ Some e → (b : Bool) → called next.functions (if b then e else (send pair.0 pair.1 e.0, e.1)).0 ≡ (if b then called m.functions e.0 else map (instead o r) (called m.functions e.0))
  called_then k e at true = called_next e.0
  called_then k e at false = called_next (send pair.0 pair.1 e.0) ∙ called_sent m h o r pair from to e.0 (h.functions k e at)

  -- what calls were redirected to, where calls in the functions whose calls don't stay are redirected again
  sent_then : (base : Name) (rs ss : List Name) (w : ModuleValue) → ((k : ℕ) (e : FunctionValue × Span) → slice_get m.functions k ≡ Some e → (if stays k e then destination rs e.0.name base else instead o r (destination rs e.0.name base)) ≡ destination ss e.0.name base) → instead o r (last_of rs base) ≡ last_of ss base → IsSentDown base rs w m → IsSentDown base ss w next
  sent_then base rs ss w goes last s = record {
    functions = λ k g at.
        let there = functions_there (slice_get m.functions k) (λ e. send_at pair.0 pair.1 omitted (k, e)) g (sym (sent_there m pair.0 pair.1 omitted k) ∙ at) in
        one k there.0 g there.1 there.2;
    all = λ k f at.
        let w = s.all k f at in
        (w.0, send_at pair.0 pair.1 omitted (w.0, w.1), sent_there m pair.0 pair.1 omitted w.0 ∙ ap (option_map (λ e. send_at pair.0 pair.1 omitted (w.0, e))) w.2, sent_name pair.0 pair.1 omitted w.0 w.1 ∙ w.3);
    entry_points = λ i y at.
        let there = entries_there (slice_get m.entry_points i) (send_entry pair.0 pair.1) y (sym (slice_get-map (send_entry pair.0 pair.1) m.entry_points i) ∙ at) in
        entry i there.0 y there.1 there.2;
    as_many = length-map m.entry_points (send_entry pair.0 pair.1) ∙ s.as_many;
  }
    where
      by_case : (b : Bool) (xs ys : List Name) (d e : Name) → (if b then d else instead o r d) ≡ e → AreSent base d xs ys → AreSent base e xs (if b then ys else map (instead o r) ys)
      by_case true xs ys d e q a = subst (λ n. AreSent base n xs ys) q a
      by_case false xs ys d e q a = sent_again base d e o r xs ys q a

      one : (k : ℕ) (e g : FunctionValue × Span) → slice_get m.functions k ≡ Some e → send_at pair.0 pair.1 omitted (k, e) ≡ g → IsSentFunction base ss w next g.0
      one k e g at same =
          let f = s.functions k e at in
          let sent = by_case (stays k e) (called w.functions f.source.0) (called m.functions e.0) (destination rs e.0.name base) (destination ss e.0.name base) (goes k e at) f.calls in
          let name = sent_name pair.0 pair.1 omitted k e in
          subst (λ (x : FunctionValue × Span). IsSentFunction base ss w next x.0) same (record {
            place = f.place;
            source = f.source;
            at = f.at;
            name = f.name ∙ sym name;
            calls = subst (λ n. AreSent base (destination ss n base) (called w.functions f.source.0) (called next.functions (send_at pair.0 pair.1 omitted (k, e)).0)) (sym name) (subst (AreSent base (destination ss e.0.name base) (called w.functions f.source.0)) (sym (called_then k e at (stays k e))) sent);
          })

      entry : (i : ℕ) (x y : EntryValue) → slice_get m.entry_points i ≡ Some x → send_entry pair.0 pair.1 x ≡ y → IsSentEntry base ss w next i y
      entry i x y at same =
          let f = s.entry_points i x at in
          let sent = sent_again base (last_of rs base) (last_of ss base) o r (called w.functions f.source.function) (called m.functions x.function) last f.calls in
          let after = called_next (send pair.0 pair.1 x.function) ∙ called_sent m h o r pair from to x.function (h.entry_points i x at) in
          subst (IsSentEntry base ss w next i) same (record {
            source = f.source;
            at = f.at;
            calls = subst (AreSent base (last_of ss base) (called w.functions f.source.function)) (sym after) sent;
          })

  -- the replacement comes last in a chain
  pub sends_on : SendsOn o r omitted m next
  sends_on base rs w last those s = sent_then base rs (rs ++ r ∷ []) w goes (ap (instead o r) last ∙ instead_same o r ∙ sym (last-push rs r base)) s
    where
      by : (k : ℕ) (e : FunctionValue × Span) (n : Name) → slice_get m.functions k ≡ Some e → e.0.name ≡ Some n → (a b : Bool) → (k == pair.1) ≡ a → omitted n ≡ b → (if a || b then destination rs (Some n) base else instead o r (destination rs (Some n) base)) ≡ destination (rs ++ r ∷ []) (Some n) base
      by k e n at name true b p q =
          let same : Some n ≡ Some r = sym name ∙ ap (λ (x : FunctionValue × Span). x.0.name) (same_Some e to.function (sym at ∙ ap (slice_get m.functions) (eqb_eq k pair.1 p) ∙ to.at)) ∙ to.name in
          ap (λ c. destination rs c base) same ∙ sym (destination-own rs r base) ∙ ap (λ c. destination (rs ++ r ∷ []) c base) (sym same)
      by k e n at name false true p q = sym (destination-in rs r n base (sym (those n) ∙ q))
      by k e n at name false false p q =
          let before = destination-other rs n base (sym (those n) ∙ q) in
          let other = not_own k e n at name p in
          let after = destination-other (rs ++ r ∷ []) n base (any-push rs r n ∙ ap (λ b. b || list_any (bytes_eq n) rs) other ∙ sym (those n) ∙ q) in
          ap (instead o r) (before ∙ last) ∙ instead_same o r ∙ sym (last-push rs r base) ∙ sym after
        where
          not_own : (k : ℕ) (e : FunctionValue × Span) (n : Name) → slice_get m.functions k ≡ Some e → e.0.name ≡ Some n → (k == pair.1) ≡ false → bytes_eq n r ≡ false
          not_own k e n at name p = ⊎_elim (λ y. absurd (false≢true (sym p ∙ eq_eqb k pair.1 (h.distinct k pair.1 e to.function at to.at (name ∙ ap Some ((bytes_eq-Decides n r).0 y) ∙ sym to.name))))) (λ y. y) (cases_Bool (bytes_eq n r))

      text : (t : Text) → IsSome t → (n : Name) × (t ≡ Some n)
      text None i = absurd (false≢true i)
      text (Some n) i = (n, refl)

      goes : (k : ℕ) (e : FunctionValue × Span) → slice_get m.functions k ≡ Some e → (if stays k e then destination rs e.0.name base else instead o r (destination rs e.0.name base)) ≡ destination (rs ++ r ∷ []) e.0.name base
      goes k e at =
          let n = text e.0.name (h.named k e at) in
          subst (λ t. (if (k == pair.1) || is_named omitted t then destination rs t base else instead o r (destination rs t base)) ≡ destination (rs ++ r ∷ []) t base) (sym n.1) (by k e n.0 at n.1 (k == pair.1) (omitted n.0) refl refl)

  abbrev IsOther : Name → Type 0
  IsOther n = bytes_eq n o ≡ false

  -- calls in other chains stay
  pub sends_apart : SendsApart o m next
  sends_apart base rs w apart s = sent_then base rs rs w (λ k e at. by (stays k e) (destination rs e.0.name base) (of_destination IsOther rs e.0.name base (other base (first_in base rs)) (λ n i. other n (later_in n base rs i)))) (instead_other o r (last_of rs base) (of_last IsOther rs base (other base (first_in base rs)) (λ n i. other n (later_in n base rs i)))) s
    where
      other : (n : Name) → list_any (bytes_eq n) (base ∷ rs) ≡ true → IsOther n
      other n i = ⊎_elim (λ y. absurd (false≢true (sym apart ∙ ap (λ x. list_any (bytes_eq x) (base ∷ rs)) (sym ((bytes_eq-Decides n o).0 y)) ∙ i))) (λ y. y) (cases_Bool (bytes_eq n o))

      by : (b : Bool) (d : Name) → IsOther d → (if b then d else instead o r d) ≡ d
      by true d i = refl
      by false d i = instead_other o r d i

  -- ---- functions have names of their own then

  sent_within : (c : ℕ) → c < length m.functions → (b : Bool) → (if b then pair.1 else c) < length next.functions
  sent_within c l true = (let n = count-sent m pair.0 pair.1 omitted in let w = slice_get_within m.functions pair.1 to.function to.at in omega (arith, n, w))
  sent_within c l false = (let n = count-sent m pair.0 pair.1 omitted in omega (arith, n, l))

  within_sent : (cs : List ℕ) → All (λ c. c < length m.functions) cs → All (λ c. c < length next.functions) (map (sent pair.0 pair.1).function cs)
  within_sent [] a = All-nil (λ c. c < length next.functions)
  within_sent (c ∷ cs) a = All-cons (λ c. c < length next.functions) (if c == pair.0 then pair.1 else c) (map (sent pair.0 pair.1).function cs) (sent_within c (All-head (λ c. c < length m.functions) c cs a) (c == pair.0)) (within_sent cs (All-tail (λ c. c < length m.functions) c cs a))

  send_within : (f : FunctionValue) → CallsWithin m f → CallsWithin next (send pair.0 pair.1 f)
  send_within f a = subst (All (λ c. c < length next.functions)) (sym (callees-renamed (sent pair.0 pair.1) f.body)) (within_sent (callees_of f.body) a)

  either_within : (e : FunctionValue × Span) → CallsWithin m e.0 → (b : Bool) → CallsWithin next (if b then e else (send pair.0 pair.1 e.0, e.1)).0
  either_within e a true = subst (λ n. All (λ c. c < n) (callees_of e.0.body)) (sym (count-sent m pair.0 pair.1 omitted)) a
  either_within e a false = send_within e.0 a

  abbrev at_next : (k : ℕ) (g : FunctionValue × Span) → slice_get next.functions k ≡ Some g → (e : FunctionValue × Span) × (slice_get m.functions k ≡ Some e) × (send_at pair.0 pair.1 omitted (k, e) ≡ g)
  at_next k g at = functions_there (slice_get m.functions k) (λ e. send_at pair.0 pair.1 omitted (k, e)) g (sym (sent_there m pair.0 pair.1 omitted k) ∙ at)

  pub named_next : HasNamedCalls next
  named_next = record {
    named = λ k g at.
        let e = at_next k g at in
        subst (λ (x : FunctionValue × Span). IsSome x.0.name) e.2 (subst IsSome (sym (sent_name pair.0 pair.1 omitted k e.0)) (h.named k e.0 e.1));
    distinct = λ j k f g at there same.
        let d = at_next j f at in
        let e = at_next k g there in
        let first = sym (sent_name pair.0 pair.1 omitted j d.0) ∙ ap (λ (x : FunctionValue × Span). x.0.name) d.2 in
        let second = ap (λ (x : FunctionValue × Span). x.0.name) (sym e.2) ∙ sent_name pair.0 pair.1 omitted k e.0 in
        h.distinct j k d.0 e.0 d.1 e.1 (first ∙ same ∙ second);
    functions = λ k g at.
        let e = at_next k g at in
        subst (λ (x : FunctionValue × Span). CallsWithin next x.0) e.2 (either_within e.0 (h.functions k e.0 e.1) (stays k e.0));
    entry_points = λ i y at.
        let e = entries_there (slice_get m.entry_points i) (send_entry pair.0 pair.1) y (sym (slice_get-map (send_entry pair.0 pair.1) m.entry_points i) ∙ at) in
        subst (λ (x : EntryValue). CallsWithin next x.function) e.2 (send_within e.0.function (h.entry_points i e.0 e.1));
  }

-- ---- laws

pub step_law : StepLaw
step_law m o r omitted pair h e =
    let w = matched_at m.functions o r pair e in
    (sends_on m o r omitted pair h w.0 w.1, sends_apart m o r omitted pair h w.0 w.1, named_next m o r omitted pair h w.0 w.1)

pub start_law : StartLaw
start_law m base h = record {
  functions = λ k g at. record { place = k; source = g; at = at; name = refl; calls = λ i c. c };
  all = λ k f at. (k, f, at, refl);
  entry_points = λ i y at. record { source = y; at = at; calls = λ i c. c };
  as_many = refl;
}

-- redirections one after another, after some that were made
sent_all : {m n : ModuleValue} {original : Name} {others : List Name} {omitted : Name → Bool} (done : List Name) (w : ModuleValue) (base : Name) → SentInTurn m original others omitted n → last_of done base ≡ original → HasNamedCalls m → PassesJust done omitted → IsSentDown base done w m → IsSentDown base (done ++ others) w n × HasNamedCalls n
sent_all {m} done w base NoMore last h those s = (subst (λ rs. IsSentDown base rs w m) (sym (append-nil done)) s, h)
sent_all {m} {n} {original} {omitted = omitted} done w base (OneMore {other = other} {more = more} pair matches next) last h those s =
    let l = step_law m original other omitted pair h matches in
    let passed = λ (x : Name). ap (λ b. bytes_eq x other || b) (those x) ∙ sym (any-push done other x) in
    let all = sent_all (done ++ other ∷ []) w base next (last-push done other base) l.2 passed (l.0 base done w last those s) in
    (subst (λ xs. IsSentDown base xs w n) (append_assoc done (other ∷ []) more) all.0, all.1)

pub chain_law : ChainLaw
chain_law m n base rs h e = sent_all [] m base e refl h (λ x. refl) (start_law m base h)
