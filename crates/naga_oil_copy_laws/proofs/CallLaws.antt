-- Functions that call what they name.
use Rattle.std.proofs.Common.{◌≡◌, ⊎_elim, ◌⊎◌, ℕ, zero, suc, ◌==◌, true, false, nat_lt, List, [], ◌∷◌, ◌++◌, map, length, Option, Some, None, option_map, slice_get, inl, inr, refl, ap, sym, ◌∙◌, arith}
use Rattle.std.specs.List.{flat_map}
use Rattle.std.proofs.lemmas.Bool.{false≢true, or_cases, and_parts, ltb-true}
use Rattle.std.proofs.lemmas.Option.{none-some, same_Some, slice_get-map}
use Rattle.naga_oil_ir.specs.Body.{Tokens}
use Rattle.naga_oil_form.specs.BodyForm.{AreFine, IsFine, AreEmitted, callee, is_external, is_result, external_kind, result_kind, made, places}
use Rattle.naga_oil_form.specs.Links.{Links, linked, has}
use Rattle.naga_oil_ir.specs.Parts.{Parts}
use Rattle.naga_oil_ir.specs.declared.parts.Named.{Named}
use Rattle.naga_oil_ir.specs.declared.parts.Named.TheVariants.{Nothing, TypeOf, ConstantAt, OverrideAt, GlobalAt, LocalAt, ArgumentAt, FunctionAt}
use Rattle.naga_oil_ir.specs.declared.span.Span.{Span}
use Rattle.naga_oil_ir.specs.declared.tokens.Token.{Token}
use Rattle.naga_oil_ir.specs.declared.tokens.Token.TheVariants.{Use, Give, GiveCall, Emitted, Callee}
use Rattle.naga_oil_form.proofs.LinkLemmas.{All-has, eqb_eq, has-added, has-append, only}
use Rattle.naga_oil_derive.specs.Copies.{value_links}
use Rattle.naga_oil_derive.specs.DerivedFunctions.{kinds_in, named_in}
use Rattle.naga_oil_derive.specs.Functions.{begun}
use Rattle.naga_oil_walk.specs.Walk.{brief, externals}
use Rattle.naga_oil_derive.proofs.ReachedLaws.{order_reached}
use Rattle.naga_oil_walk.proofs.WalkForm.{known_cases}
use Rattle.naga_oil_rename.specs.Renames.{Renames, rename_named, rename_token}
use Rattle.naga_oil_copy_laws.specs.CopiedByTree.{Calls, CallsLaw, GivenLaw}
use Rattle.naga_oil_copy_laws.proofs.AtHand.{in_brief}
use Rattle.naga_oil_copy_laws.proofs.ComposeLaws.{image_of}
use Rattle.naga_oil_copy_laws.proofs.ReachLemmas.{filter-has, token_back}

callee_back : (r : Renames) (n : Named) (c : ℕ) → callee (rename_named r n) ≡ Some c → (d : ℕ) × (callee n ≡ Some d) × (r.function d ≡ c)
callee_back r (FunctionAt h) c e = (h, refl, same_Some (r.function h) c e)
callee_back r Nothing c e = absurd (none-some c e)
callee_back r (TypeOf h) c e = absurd (none-some c e)
callee_back r (ConstantAt h) c e = absurd (none-some c e)
callee_back r (OverrideAt h) c e = absurd (none-some c e)
callee_back r (GlobalAt h) c e = absurd (none-some c e)
callee_back r (LocalAt h) c e = absurd (none-some c e)
callee_back r (ArgumentAt h) c e = absurd (none-some c e)

given_back : (r : Renames) (t : Token) (c h : ℕ) → rename_token r t ≡ GiveCall c h → (d : ℕ) × (k : ℕ) × (t ≡ GiveCall d k) × (r.function d ≡ c)
given_back r (GiveCall d k) c h e = (d, k, refl, (let q : r.function d ≡ c = cc in q))
given_back r _ c h e = absurd cc

pub calls_kept : CallsLaw
calls_kept m p a b f g x w =
    let r = x.goes in
    let i = image_of m p a b f g x in
    let called = λ (c d : ℕ) (e : r.function d ≡ c) (q : Calls f d). (
    let at : slice_get g.body q.0 ≡ Some (Callee (r.function d)) = ap (λ ts. slice_get ts q.0) x.body ∙ slice_get-map (rename_token r) f.body q.0 ∙ ap (option_map (rename_token r)) q.1 in
    let all : Calls g c = (q.0, at ∙ ap (λ n. Some (Callee n)) e) in
    all) in
    record {
      expressions = λ k c e v at q.
          let j = x.expressions.onto k v in
          let y = x.expressions.copies j.0 j.1 in
          let same : y.copy ≡ e = same_Some y.copy e (sym y.at_copy ∙ ap (slice_get g.expressions) j.2 ∙ at) in
          let named : e.0.named ≡ rename_named r y.source.0.named = ap (λ (z : Parts × Span). z.0.named) (sym same) ∙ ap (λ (z : Parts). z.named) y.reads in
          let d = callee_back r y.source.0.named c (ap callee (sym named) ∙ q) in
          called c d.0 d.2 (w.expressions j.0 d.0 y.source j.1 y.at_source d.1);
      results = λ n c h at.
          let t = token_back r f g i n (GiveCall c h) at in
          let d = given_back r t.0 c h (sym t.2) in
          called c d.0 d.3 (w.results n d.0 d.1 (t.1 ∙ ap Some d.2));
    }

-- ---- results that are given

no_external : (o : Option ℕ) → result_kind o ≡ true → external_kind o ≡ true → ⊥
no_external None r e = false≢true r
no_external (Some k) r e = let a = ltb-true 6 k (and_parts (nat_lt 6 k) (nat_lt k 13) r).0 in let b = ltb-true k 7 e in omega (arith, a, b)

emitted_none : (ks : List ℕ) (ls : Links) (s d xs : List ℕ) (k : ℕ) → AreEmitted ks ls s d xs → has xs k ≡ true → is_result ks k ≡ false
emitted_none ks ls s d [] k a h = absurd (false≢true h)
emitted_none ks ls s d (x ∷ xs) k a h =
    ⊎_elim (λ e. ap (is_result ks) (sym (eqb_eq x k e)) ∙ a.0.1) (λ e. emitted_none ks ls s (d ++ x ∷ []) xs k a.1 e) (or_cases (x == k) (has xs k) h)

-- a call gives the result at k
abbrev IsGivenIn : Tokens → ℕ → Type 0
IsGivenIn ts c = (i : ℕ) × (h : ℕ) × (slice_get ts i ≡ Some (GiveCall c h))

-- what is known of a result of a call, at k, that no initialiser reaches
record IsCallResult (ks : List ℕ) (fs : List (Option ℕ)) (s : List ℕ) (k c : ℕ) : Type 0 where
  result : is_result ks k ≡ true
  callee_is : slice_get fs k ≡ Some (Some c)
  apart : has s k ≡ true → ⊥

given_none : (fs : List (Option ℕ)) (k h c : ℕ) → h ≡ k → slice_get fs h ≡ Some None → slice_get fs k ≡ Some (Some c) → ⊥
given_none fs k h c e a b = (let x : None ≡ Some c = same_Some None (Some c) (sym a ∙ ap (slice_get fs) e ∙ b) in none-some c x)

given_same : (fs : List (Option ℕ)) (k h f c : ℕ) → h ≡ k → slice_get fs h ≡ Some (Some f) → slice_get fs k ≡ Some (Some c) → f ≡ c
given_same fs k h f c e a b = same_Some f c (same_Some (Some f) (Some c) (sym a ∙ ap (slice_get fs) e ∙ b))

-- a part of a body that lists the result gives it, or it was given before
token_gives : (n : ℕ) (ks : List ℕ) (fs : List (Option ℕ)) (ls : Links) (s d : List ℕ) (t : Token) (k c : ℕ) → IsCallResult ks fs s k c → IsFine n ks fs ls s d t → has (brief ks ls t) k ≡ true → (has d k ≡ true) ⊎ ((h : ℕ) × (t ≡ GiveCall c h))
token_gives n ks fs ls s d (Use h) k c r f w =
    let e = only h k w in
    ⊎_elim
    (λ x. absurd (no_external (slice_get ks k) r.result (ap (is_external ks) (sym e) ∙ x)))
    (λ x. ⊎_elim (λ y. absurd (r.apart (ap (has s) (sym e) ∙ y))) (λ y. inl (ap (has d) (sym e) ∙ y)) x)
    (known_cases ks s d h f.1)
token_gives n ks fs ls s d (Give h) k c r f w = absurd (given_none fs k h c (only h k w) f.2 r.callee_is)
token_gives n ks fs ls s d (GiveCall g h) k c r f w = inr (h, ap (λ x. GiveCall x h) (given_same fs k h g c (only h k w) f.2 r.callee_is))
token_gives n ks fs ls s d (Emitted p) k c r f w =
    let xs = externals ks (flat_map (linked ls) (places p)) in
    ⊎_elim
    (λ x. absurd (no_external (slice_get ks k) r.result (filter-has (is_external ks) (flat_map (linked ls) (places p)) k x).1))
    (λ x. absurd (false≢true (sym (emitted_none ks ls s d (places p) k f.2 x) ∙ r.result)))
    (or_cases (has xs k) (has (places p) k) (sym (has-append xs (places p) k) ∙ w))
token_gives n ks fs ls s d _ k c r f w = absurd (false≢true w)

made_gives : (n : ℕ) (ks : List ℕ) (fs : List (Option ℕ)) (ls : Links) (s d : List ℕ) (t : Token) (k c : ℕ) → IsCallResult ks fs s k c → IsFine n ks fs ls s d t → has (made t) k ≡ true → (h : ℕ) × (t ≡ GiveCall c h)
made_gives n ks fs ls s d (Give h) k c r f w = absurd (given_none fs k h c (only h k w) f.2 r.callee_is)
made_gives n ks fs ls s d (GiveCall g h) k c r f w = (h, ap (λ x. GiveCall x h) (given_same fs k h g c (only h k w) f.2 r.callee_is))
made_gives n ks fs ls s d (Emitted p) k c r f w = absurd (false≢true (sym (emitted_none ks ls s d (places p) k f.2 w) ∙ r.result))
made_gives n ks fs ls s d _ k c r f w = absurd (false≢true w)

body_gives : (n : ℕ) (ks : List ℕ) (fs : List (Option ℕ)) (ls : Links) (s : List ℕ) (ts : Tokens) (d : List ℕ) (k c : ℕ) → IsCallResult ks fs s k c → AreFine n ks fs ls s d ts → has (flat_map (brief ks ls) ts) k ≡ true → (has d k ≡ true) ⊎ IsGivenIn ts c
body_gives n ks fs ls s [] d k c r f w = absurd (false≢true w)
body_gives n ks fs ls s (t ∷ ts) d k c r f w =
    let first = λ (x : (h : ℕ) × (t ≡ GiveCall c h)). (let all : IsGivenIn (t ∷ ts) c = (zero, x.0, ap Some x.1) in all) in
    ⊎_elim
    (λ x. ⊎_elim (λ y. inl y) (λ (y : (h : ℕ) × (t ≡ GiveCall c h)). inr (first y)) (token_gives n ks fs ls s d t k c r f.0 x))
    (λ x. ⊎_elim
    (λ y. ⊎_elim (λ z. inl z) (λ z. inr (first (made_gives n ks fs ls s d t k c r f.0 z))) (or_cases (has d k) (has (made t) k) (sym (has-append d (made t) k) ∙ y)))
    (λ (y : IsGivenIn ts c). inr (suc y.0, y.1, y.2))
    (body_gives n ks fs ls s ts (d ++ made t) k c r f.1 x))
    (or_cases (has (brief ks ls t) k) (has (flat_map (brief ks ls) ts) k) (sym (has-append (brief ks ls t) (flat_map (brief ks ls) ts) k) ∙ w))

pub given : GivenLaw
given f may names results = record {
  expressions = λ k c e w at q.
      let ks = kinds_in f in
      let fs = map callee (named_in f) in
      let ls = value_links f.expressions in
      let bs = flat_map (brief ks ls) f.body in
      let result = names k c e at q in
      let no_begun = λ (h : has (begun f) k ≡ true). false≢true (sym (All-has (λ x. is_result ks x ≡ false) (begun f) k may.form.no_results h) ∙ result) in
      let callee_at : slice_get fs k ≡ Some (Some c) = slice_get-map callee (named_in f) k ∙ ap (option_map callee) (slice_get-map (λ (x : Parts × Span). x.0.named) f.expressions k ∙ ap (option_map (λ (x : Parts × Span). x.0.named)) at) ∙ ap Some q in
      let r : IsCallResult ks fs (begun f) k c = record { result = result; callee_is = callee_at; apart = no_begun } in
      ⊎_elim
      (λ h. absurd (no_begun h))
      (λ h. ⊎_elim (λ x. absurd (false≢true x)) (λ (x : IsGivenIn f.body c). results x.0 c x.1 x.2) (body_gives (length ls) ks fs ls (begun f) f.body [] k c r may.form.body h))
      (or_cases (has (begun f) k) (has bs k) (sym (has-added (begun f) bs k) ∙ ap (λ o. has o k) (in_brief f may) ∙ order_reached f may k ∙ w));
  results = results;
}
