-- Where calls of overridden functions are redirected.
use Rattle.std.proofs.Common.{◌≡◌, ◌∙◌, ⊎_elim, ℕ, zero, suc, ◌<◌, ◌≤◌, ◌||◌, Bool, true, false, if◌then◌else◌, List, [], ◌∷◌, length, get_or, slice_get, bytes_eq, Option, Some, None, Result, Ok, Err, All, refl, ap, sym, subst, arith}
use Rattle.std.specs.List.{list_any}
use Rattle.std.proofs.lemmas.Bool.{false≢true}
use Rattle.std.proofs.lemmas.List.Elements.{All-weaker}
use Rattle.std.proofs.lemmas.Option.{none-some, same_Some, slice_get_within, slice_get-get_or}
use Rattle.std.proofs.lemmas.Slice.Eq.{bytes_eq-Decides}
use Rattle.naga_oil_form_laws.specs.EntryForm.{IsEntryFormed, IsModuleFormed}
use Rattle.naga_oil_ir.specs.ModuleValue.{ModuleValue, EntryValue}
use Rattle.naga_oil_form.specs.NameForm.{Name}
use Rattle.naga_oil_ir.specs.RedirectFault.{RedirectFault}
use Rattle.naga_oil_words.specs.Texts.{is_among}
use Rattle.naga_oil_conditions.specs.Fault.{Fault}
use Rattle.naga_oil_link.specs.BuiltModule.{BuiltModule, Builds, Overriding}
use Rattle.naga_oil_link.specs.Linked.{link_whole}
use Rattle.naga_oil_build.specs.Held.{Settings}
use Rattle.naga_oil_redirect.specs.Chain.{SentInTurn, NoMore, OneMore, none_omitted, AreSent, IsSentDown, HasNamedCalls}
use Rattle.naga_oil_redirect.specs.ChainLaw.{is_in_chain}
use Rattle.naga_oil_redirect.specs.Ordered.{callees_of}
use Rattle.naga_oil_redirect.specs.PutInOrder.{put_in_order}
use Rattle.naga_oil_redirect.specs.Redirected.{matched, redirected}
use Rattle.naga_oil_redirect.proofs.ChainLemmas.{chain_law, start_law, step_law}
use Rattle.naga_oil_redirect.proofs.RedirectForm.{callees_below}
use Rattle.naga_oil_redirect.proofs.TurnCalls.{order_law}
use Rattle.naga_oil_words.specs.ResultSteps.{◌>>=◌}
use Rattle.naga_oil_registry.specs.Registered.{Defs}
use Rattle.naga_oil_registry.specs.declared.descriptor.ShaderType.{ShaderType}
use Rattle.naga_oil.specs.Chain.{redirected_to, sent_down, all_sent_down, put_in_order_as, chain_all, chain, with_stages}
use Rattle.naga_oil.specs.ChainsLaw.{IsApart, StandsApart, GoDownChains, ChainsLaw, ComposedLaw}
use Rattle.naga_oil.specs.Finish.{compose}
use Rattle.naga_oil.specs.Refused.{Refused, Place, placed}
use Rattle.naga_oil.specs.Validate.{judge, validate}
use Rattle.naga_oil.proofs.StageFormLemmas.{stages_formed}

-- ---- functions of a module of good form have different names, and call functions of the module

any_below : (c n : ℕ) (xs : List ℕ) → c ≤ n → All (λ x. x < c) xs → All (λ x. x < n) xs
any_below c n xs l h = All-weaker (λ x. x < c) (λ x. x < n) (λ x i. omega (arith, l, i)) xs h

entry_formed : (m : ModuleValue) (i : ℕ) (y : EntryValue) → slice_get m.entry_points i ≡ Some y → All (IsEntryFormed m 4294967295) m.entry_points → IsEntryFormed m 4294967295 y
entry_formed m i y at h =
    let l = slice_get_within m.entry_points i y at in
    subst (IsEntryFormed m 4294967295) (same_Some (get_or m.entry_points i y) y (sym (slice_get-get_or m.entry_points i y l) ∙ at)) (h i y l)

pub formed_named : (m : ModuleValue) → IsModuleFormed m → HasNamedCalls m
formed_named m f = record {
  named = f.functions.named;
  distinct = f.functions.distinct;
  functions = λ k e at. (let l = slice_get_within m.functions k e at in any_below k (length m.functions) (callees_of e.0.body) (omega (arith, l)) (callees_below k 4294967295 e.0.body (f.functions.forms k e at).statements));
  entry_points = λ i y at. callees_below (length m.functions) 4294967295 y.function.body (entry_formed m i y at f.entry_points.forms).function.statements;
}

-- ---- one chain

-- calls redirected along a chain are redirected one step after the other
in_turn : (others : List (List ℕ)) (m n : ModuleValue) (original : List ℕ) (omitted : List (List ℕ)) → sent_down m original others omitted ≡ Ok n → SentInTurn m original others (is_among omitted) n
unfolding sent_down
in_turn [] m n original omitted e = let same : m ≡ n = cc in subst (SentInTurn m original [] (is_among omitted)) same NoMore
in_turn (other ∷ more) m n original omitted e = by (matched m.functions original other) refl (λ p e. in_turn more p n other (other ∷ omitted) e) e
  where
    by : (r : Result (ℕ × ℕ) RedirectFault) → matched m.functions original other ≡ r → ((p : ModuleValue) → sent_down p other more (other ∷ omitted) ≡ Ok n → SentInTurn p other more (is_among (other ∷ omitted)) n) → (redirected_to m omitted r >>= λ n. sent_down n other more (other ∷ omitted)) ≡ Ok n → SentInTurn m original (other ∷ more) (is_among omitted) n
    by (Ok pair) q next e = OneMore pair q (next (redirected m pair.0 pair.1 (is_among omitted)) e)
    by (Err f) q next e = absurd cc

-- calls redirected to the base are redirected as its calls are
sent_then : (base : List ℕ) (rs : List (List ℕ)) (w m n : ModuleValue) → IsSentDown base [] w m → IsSentDown base rs m n → IsSentDown base rs w n
sent_then base rs w m n a b = record {
  functions = λ k g at.
      let x = b.functions k g at in
      let y = a.functions x.place x.source x.at in
      record { place = y.place; source = y.source; at = y.at; name = y.name ∙ x.name; calls = λ i c. x.calls i (y.calls i c) };
  all = λ k f at. let x = a.all k f at in let y = b.all x.0 x.1 x.2 in (y.0, y.1, y.2, y.3 ∙ x.3);
  entry_points = λ i y at.
      let x = b.entry_points i y at in
      let z = a.entry_points i x.source x.at in
      record { source = z.source; at = z.at; calls = λ i c. x.calls i (z.calls i c) };
  as_many = b.as_many ∙ a.as_many;
}

first_in : (r : Name) (rs : List Name) → is_in_chain r rs r ≡ true
first_in r rs = ap (λ b. b || list_any (bytes_eq r) rs) ((bytes_eq-Decides r r).1 refl)

later_in : (original other : Name) (more : List Name) (n : Name) → is_in_chain other more n ≡ true → is_in_chain original (other ∷ more) n ≡ true
later_in original other more n h = by (bytes_eq n original)
  where
    by : (b : Bool) → (b || is_in_chain other more n) ≡ true
    by true = refl
    by false = h

-- calls redirected along a chain stay while those of another chain are redirected
sent_apart : {m n : ModuleValue} {original : Name} {others : List Name} {omitted : Name → Bool} (base : Name) (rs : List Name) (w : ModuleValue) → SentInTurn m original others omitted n → HasNamedCalls m → ((x : Name) → is_in_chain original others x ≡ true → is_in_chain base rs x ≡ false) → IsSentDown base rs w m → IsSentDown base rs w n
sent_apart base rs w NoMore h apart s = s
sent_apart {m} {original = original} {omitted = omitted} base rs w (OneMore {other = other} {more = more} pair matches next) h apart s =
    let l = step_law m original other omitted pair h matches in
    sent_apart base rs w next l.2 (λ x i. apart x (later_in original other more x i)) (l.1 base rs w (apart original (first_in original (other ∷ more))) s)

-- ---- all chains

one_more : (m n : ModuleValue) (o : List ℕ × List (List ℕ)) (more : Overriding) → all_sent_down m (o ∷ more) ≡ Ok n → (p : ModuleValue) × (sent_down m o.0 o.1 [] ≡ Ok p) × (all_sent_down p more ≡ Ok n)
unfolding all_sent_down
one_more m n o more e = by (sent_down m o.0 o.1 []) refl e
  where
    by : (r : Result ModuleValue Fault) → sent_down m o.0 o.1 [] ≡ r → (r >>= λ p. all_sent_down p more) ≡ Ok n → (p : ModuleValue) × (sent_down m o.0 o.1 [] ≡ Ok p) × (all_sent_down p more ≡ Ok n)
    by (Ok p) q e = (p, q, e)
    by (Err f) q e = absurd cc

no_more : (m n : ModuleValue) → all_sent_down m [] ≡ Ok n → m ≡ n
unfolding all_sent_down
no_more m n e = (let same : m ≡ n = cc in same)

module _ (a : List ℕ × List (List ℕ)) (w : ModuleValue) where
  sent_after : (all : Overriding) (m n : ModuleValue) → HasNamedCalls m → ((j : ℕ) (b : List ℕ × List (List ℕ)) → slice_get all j ≡ Some b → IsApart a b) → IsSentDown a.0 a.1 w m → all_sent_down m all ≡ Ok n → IsSentDown a.0 a.1 w n × HasNamedCalls n
  sent_after [] m n h apart s e = let same = no_more m n e in (subst (IsSentDown a.0 a.1 w) same s, subst HasNamedCalls same h)
  sent_after (o ∷ more) m n h apart s e =
      let p = one_more m n o more e in
      let turn = in_turn o.1 m p.0 o.0 [] p.1 in
      sent_after more p.0 n (chain_law m p.0 o.0 o.1 h turn).1 (λ j b at. apart (suc j) b at) (sent_apart a.0 a.1 w turn h (apart 0 o refl) s) p.2

  -- a chain without a name is its base without it
  base_apart : (n : List ℕ) → is_in_chain a.0 a.1 n ≡ false → is_in_chain a.0 [] n ≡ false
  base_apart n h = by (bytes_eq n a.0) h
    where
      by : (b : Bool) → (b || list_any (bytes_eq n) a.1) ≡ false → (b || false) ≡ false
      by true e = e
      by false e = refl

  sent_before : (all : Overriding) (i : ℕ) (m n : ModuleValue) → HasNamedCalls m → slice_get all i ≡ Some a → StandsApart all i a → IsSentDown a.0 [] w m → all_sent_down m all ≡ Ok n → IsSentDown a.0 a.1 w n × HasNamedCalls n
  sent_before [] i m n h at apart s e = absurd (none-some a at)
  sent_before (o ∷ more) zero m n h at apart s e =
      let p = one_more m n o more e in
      let turn : SentInTurn m a.0 a.1 none_omitted p.0 = subst (λ (x : List ℕ × List (List ℕ)). SentInTurn m x.0 x.1 none_omitted p.0) (same_Some o a at) (in_turn o.1 m p.0 o.0 [] p.1) in
      let law = chain_law m p.0 a.0 a.1 h turn in
      sent_after more p.0 n law.1 (λ j b there. apart (suc j) b there (λ q. absurd (omega (arith, q)))) (sent_then a.0 a.1 w m p.0 s law.0) p.2
  sent_before (o ∷ more) (suc i) m n h at apart s e =
      let p = one_more m n o more e in
      let turn = in_turn o.1 m p.0 o.0 [] p.1 in
      let own = apart 0 o refl (λ q. absurd (omega (arith, q))) in
      sent_before more i p.0 n (chain_law m p.0 o.0 o.1 h turn).1 at (λ j b there other. apart (suc j) b there (λ q. other (omega (arith, q)))) (sent_apart a.0 [] w turn h (λ x c. base_apart x (own x c)) s) p.2

-- ---- the whole chain

ordered_from : (sent made : ModuleValue) → put_in_order_as (put_in_order sent) ≡ Ok made → put_in_order sent ≡ Ok made
ordered_from sent made e = by (put_in_order sent) refl e
  where
    by : (r : Result ModuleValue RedirectFault) → put_in_order sent ≡ r → put_in_order_as r ≡ Ok made → put_in_order sent ≡ Ok made
    by (Ok m) q e = (let same : m ≡ made = cc in q ∙ ap Ok same)
    by (Err f) q e = absurd cc

chained_from : (all : Overriding) (m made : ModuleValue) → chain_all all m ≡ Ok made → (sent : ModuleValue) × (all_sent_down m all ≡ Ok sent) × (put_in_order sent ≡ Ok made)
unfolding chain_all
chained_from all m made e = by (all_sent_down m all) refl e
  where
    by : (r : Result ModuleValue Fault) → all_sent_down m all ≡ r → (r >>= λ sent. put_in_order_as (put_in_order sent)) ≡ Ok made → (sent : ModuleValue) × (all_sent_down m all ≡ Ok sent) × (put_in_order sent ≡ Ok made)
    by (Ok sent) q e = (sent, q, ordered_from sent made e)
    by (Err f) q e = absurd cc

all_chained : (all : Overriding) (m made : ModuleValue) → IsModuleFormed m → chain_all all m ≡ Ok made → GoDownChains all m made
all_chained all m made f e i a at apart =
    let x = chained_from all m made e in
    let h = formed_named m f in
    let s = sent_before a m all i m x.0 h at apart (start_law m a.0 h) x.1 in
    order_law x.0 made s.1 x.2 a.0 a.1 m s.0

pub chains_law : ChainsLaw
chains_law [] m made f e i a at apart = absurd (none-some a at)
chains_law (o ∷ more) m made f e i a at apart = all_chained (o ∷ more) m made f e i a at apart

-- ---- a composed shader

valid_from : (s : Settings) (builds : Builds) (defs : Defs) (place : Place) (m made : ModuleValue) → validate s builds defs place m ≡ Ok made → m ≡ made
valid_from s builds defs place m made e = by s.validate e
  where
    judged : (r : Result (Unit {0}) _) → judge builds defs place m r ≡ Ok made → m ≡ made
    judged (Ok done) e = (let same : m ≡ made = cc in same)
    judged (Err f) e = absurd cc

    by : (b : Bool) → (if b then judge builds defs place m (s.front.valid m s.capabilities) else Ok m) ≡ Ok made → m ≡ made
    by true e = judged (s.front.valid m s.capabilities) e
    by false e = (let same : m ≡ made = cc in same)

composed_from : (s : Settings) (defs : Defs) (builds : Builds) (b : BuiltModule) (t : ShaderType) (place : Place) (made : ModuleValue) → compose s defs builds b t place ≡ Ok made → chain b.overriding (with_stages t (link_whole builds b)) ≡ Ok made
unfolding compose
composed_from s defs builds b t place made e = by (chain b.overriding (with_stages t (link_whole builds b))) refl e
  where
    by : (r : Result ModuleValue Fault) → chain b.overriding (with_stages t (link_whole builds b)) ≡ r → (placed place r >>= validate s builds defs place) ≡ Ok made → chain b.overriding (with_stages t (link_whole builds b)) ≡ Ok made
    by (Ok m) q e = q ∙ ap Ok (valid_from s builds defs place m made e)
    by (Err f) q e = absurd cc

pub composed_law : ComposedLaw
composed_law s defs builds b t place made f e = chains_law b.overriding (with_stages t (link_whole builds b)) made (stages_formed t (link_whole builds b) f) (composed_from s defs builds b t place made e)
