-- Redirected calls.
use Rattle.std.proofs.Common.{◌≡◌, ⊎_elim, ℕ, zero, suc, ◌+◌, ◌==◌, ◌||◌, Bool, true, false, if◌then◌else◌, bytes_eq, List, [], ◌∷◌, ◌++◌, length, map, Option, Some, None, option_map, option_to_list, slice_get, IfSome, inl, refl, ap, sym, ◌∙◌, subst, arith}
use Rattle.std.specs.List.{filter, flat_map, enumerate_from}
use Rattle.std.specs.Map.{keys_of}
use Rattle.std.specs.Option.{option_eq, option_flatten}
use Rattle.std.proofs.lemmas.Bool.{cases_Bool, false≢true}
use Rattle.std.proofs.lemmas.List.{length-map}
use Rattle.std.proofs.lemmas.Option.{none-some, same_Some, slice_get-map}
use Rattle.std.proofs.lemmas.Slice.Eq.{bytes_eq-Decides}
use Rattle.naga_oil_ir.specs.Body.{Tokens}
use Rattle.naga_oil_form.specs.BodyForm.{places}
use Rattle.naga_oil_form.specs.Links.{AreEarlier, trail, started, has, added}
use Rattle.naga_oil_ir.specs.ModuleValue.{ModuleValue, FunctionValue}
use Rattle.naga_oil_form.specs.NameForm.{Name}
use Rattle.naga_oil_ir.specs.Parts.{Parts}
use Rattle.naga_oil_ir.specs.Rows.{Text}
use Rattle.naga_oil_ir.specs.declared.module.FunctionResult.{FunctionResult}
use Rattle.naga_oil_ir.specs.declared.names.ItemPlace.{ItemPlace}
use Rattle.naga_oil_ir.specs.declared.names.ItemPlace.TheVariants.{TypeItem, ConstantItem, OverrideItem, GlobalItem, ExpressionItem}
use Rattle.naga_oil_ir.specs.declared.parts.Named.{Named}
use Rattle.naga_oil_ir.specs.declared.parts.Named.TheVariants.{Nothing, TypeOf, ConstantAt, OverrideAt, GlobalAt, LocalAt, ArgumentAt, FunctionAt}
use Rattle.naga_oil_ir.specs.declared.span.Span.{Span}
use Rattle.naga_oil_ir.specs.declared.tokens.Token.{Token}
use Rattle.naga_oil_ir.specs.declared.tokens.Token.TheVariants.{At, Head, Plain, Flag, Absent, Use, Give, GiveCall, Emitted, Callee, Open, Close}
use Rattle.naga_oil_form.proofs.LinkLemmas.{eqb_eq, eq_eqb}
use Rattle.naga_oil_derive.specs.Copies.{value_links}
use Rattle.naga_oil_derive.specs.CopiedFunctionLaw.{spoken, reached_in, EmitsAt}
use Rattle.naga_oil_derive.specs.DerivedFunctions.{initialisers_in}
use Rattle.naga_oil_derive.specs.Functions.{argument_under, result_under, begun}
use Rattle.naga_oil_rename.specs.Renames.{Renames, rename, rename_token, rename_tokens}
use Rattle.naga_oil_derive.specs.Tree.{World, tree}
use Rattle.naga_oil_walk.specs.Walk.{others}
use Rattle.naga_oil_derive.specs.World.{world}
use Rattle.naga_oil_derive.proofs.CopyLoops.{there}
use Rattle.naga_oil_redirect.specs.Redirected.{sent, send, send_at, redirected, is_named}
use Rattle.naga_oil_copy_laws.specs.Scope.{Scope, CalledAlike, name_of_function, scope_of}
use Rattle.naga_oil_copy_laws.specs.ByTree.{IsReached, named_places, NamesAlike, HasNothingElse, callee_in, CopiesByTree}
use Rattle.naga_oil_copy_laws.specs.ByTreeLaw.{IsAsCopied}
use Rattle.naga_oil_copy_laws.specs.Frame.{AreAlike}
use Rattle.naga_oil_copy_laws.specs.SentByTree.{instead_of, IsOnlyOfItsName, SendLaw, RedirectedLaw, RedirectedEntryLaw}
use Rattle.naga_oil_copy_laws.proofs.ComposeLaws.{reflexive}
use Rattle.naga_oil_copy_laws.proofs.FrameLaws.{alike}
use Rattle.naga_oil_copy_laws.proofs.NameLemmas.{added-twice}
use Rattle.naga_oil_copy_laws.proofs.RenameLemmas.{map-after, map-same, option-same, locals-same}

-- ---- what is reached stays

abbrev pub ops : Parts × Span → List ℕ
ops e = flat_map option_to_list e.0.operands

pub links_same : (from to : ℕ) (f : FunctionValue) → value_links (send from to f).expressions ≡ value_links f.expressions
links_same from to f = map-after ops (λ (e : Parts × Span). (rename (sent from to) e.0, e.1)) ops (λ e. ap (λ os. flat_map option_to_list os) (map-same (option_map (λ (h : ℕ). h)) option-same e.0.operands)) f.expressions

pub spoken_same : (from to : ℕ) (t : Token) → spoken (rename_token (sent from to) t) ≡ spoken t
spoken_same from to (At s) = refl
spoken_same from to (Head k) = refl
spoken_same from to (Plain n) = refl
spoken_same from to (Flag b) = refl
spoken_same from to Absent = refl
spoken_same from to (Use h) = refl
spoken_same from to (Give h) = refl
spoken_same from to (GiveCall f h) = refl
spoken_same from to (Emitted r) = refl
spoken_same from to (Callee f) = refl
spoken_same from to Open = refl
spoken_same from to Close = refl

pub body_same : (from to : ℕ) (ts : Tokens) → flat_map spoken (rename_tokens (sent from to) ts) ≡ flat_map spoken ts
body_same from to [] = refl
body_same from to (t ∷ ts) = ap (λ xs. xs ++ flat_map spoken (rename_tokens (sent from to) ts)) (spoken_same from to t) ∙ ap (λ xs. spoken t ++ xs) (body_same from to ts)

pub reached_same : (from to : ℕ) (f : FunctionValue) → reached_in (send from to f) ≡ reached_in f
reached_same from to f =
    ap (λ ls. flat_map (trail ls) (initialisers_in f ++ flat_map spoken (rename_tokens (sent from to) f.body))) (links_same from to f) ∙ ap (λ xs. flat_map (trail (value_links f.expressions)) (initialisers_in f ++ xs)) (body_same from to f.body)

pub begun_same : (from to : ℕ) (f : FunctionValue) → begun (send from to f) ≡ begun f
begun_same from to f = ap (λ ls. started ls (initialisers_in f)) (links_same from to f)

-- ---- names

pub texts_same : (a b : Text) → option_eq bytes_eq a b ≡ true → a ≡ b
texts_same None None e = refl
texts_same None (Some y) e = absurd (false≢true e)
texts_same (Some x) None e = absurd (false≢true e)
texts_same (Some x) (Some y) e = ap Some ((bytes_eq-Decides x y).0 e)

pub same_texts : (a b : Text) → a ≡ b → option_eq bytes_eq a b ≡ true
same_texts a b e = subst (λ c. option_eq bytes_eq a c ≡ true) e (self a)
  where
    self : (a : Text) → option_eq bytes_eq a a ≡ true
    self None = refl
    self (Some x) = (bytes_eq-Decides x x).1 refl

pub if_true : {A : Type 0} (b : Bool) (x y : A) → b ≡ true → (if b then x else y) ≡ x
if_true b x y e = ap (λ (c : Bool). if c then x else y) e

pub if_false : {A : Type 0} (b : Bool) (x y : A) → b ≡ false → (if b then x else y) ≡ y
if_false b x y e = ap (λ (c : Bool). if c then x else y) e

pub call_sent : (a : Scope) (from to h : ℕ) → IsOnlyOfItsName a from → CalledAlike (instead_of (a.function_name from) (a.function_name to)) a a h (if h == from then to else h)
call_sent a from to h only =
    let name = a.function_name in
    ⊎_elim
    (λ (e : (h == from) ≡ true). ap name (if_true (h == from) to h e) ∙ sym (if_true (option_eq bytes_eq (name from) (name h)) (name to) (name h) (same_texts (name from) (name h) (ap name (sym (eqb_eq h from e))))))
    (λ (e : (h == from) ≡ false).
    let other = λ (q : option_eq bytes_eq (name from) (name h) ≡ true). false≢true (sym e ∙ eq_eqb h from (only h (sym (texts_same (name from) (name h) q)))) in
    ap name (if_false (h == from) to h e) ∙ sym (⊎_elim (λ (q : option_eq bytes_eq (name from) (name h) ≡ true). absurd (other q)) (λ (q : option_eq bytes_eq (name from) (name h) ≡ false). if_false (option_eq bytes_eq (name from) (name h)) (name to) (name h) q) (cases_Bool (option_eq bytes_eq (name from) (name h)))))
    (cases_Bool (h == from))

pub named_sent : (a : Scope) (from to : ℕ) (n : Named) → IsOnlyOfItsName a from → NamesAlike (instead_of (a.function_name from) (a.function_name to)) a a (sent from to) n
named_sent a from to Nothing o = (tt, tt)
named_sent a from to (TypeOf h) o = (λ n. refl, tt)
named_sent a from to (ConstantAt h) o = (λ n. refl, tt)
named_sent a from to (OverrideAt h) o = (λ n. refl, tt)
named_sent a from to (GlobalAt h) o = (λ n. refl, tt)
named_sent a from to (LocalAt h) o = (tt, tt)
named_sent a from to (ArgumentAt h) o = (tt, tt)
named_sent a from to (FunctionAt h) o = (tt, call_sent a from to h o)

pub callee_sent : (a : Scope) (from to : ℕ) (t : Token) → IsOnlyOfItsName a from → IfSome (callee_in t) (λ h. CalledAlike (instead_of (a.function_name from) (a.function_name to)) a a h ((sent from to).function h))
callee_sent a from to (Callee f) o = call_sent a from to f o
callee_sent a from to (GiveCall f h) o = call_sent a from to f o
callee_sent a from to _ o = tt

-- ---- one function

-- the size stays
as_long : (f : FunctionValue) (from to : ℕ) → length (send from to f).expressions ≡ length f.expressions
as_long f from to = length-map f.expressions (λ (e : Parts × Span). (rename (sent from to) e.0, e.1))

sent_nothing_else : (f : FunctionValue) (from to : ℕ) → HasNothingElse f → HasNothingElse (send from to f)
sent_nothing_else f from to n =
    let reached = λ (k : ℕ) (w : IsReached f k). (let r : IsReached (send from to f) k = ap (λ xs. has xs k) (reached_same from to f) ∙ w in r) in
    record {
      expressions = λ h l. (let size = as_long f from to in reached h (n.expressions h (omega (arith, l, size))));
      names = λ i e at. reached e.0 (n.names i e at);
      leaf = n.leaf;
    }

pub same_result : (r : Renames) → ((h : ℕ) → r.ty h ≡ h) → (o : Option FunctionResult) → option_map (result_under r) o ≡ o
same_result r e None = refl
same_result r e (Some x) = ap (λ t. Some (record x { ty = t })) (e x.ty)

pub copies_sent : (a : Scope) (f : FunctionValue) (from to : ℕ) → IsAsCopied f → IsOnlyOfItsName a from → CopiesByTree (λ s. s) (instead_of (a.function_name from) (a.function_name to)) a f a (send from to f)
copies_sent a f from to s only =
    let r = sent from to in
    let g = send from to f in
    let copy = λ (e : Parts × Span). (let x : Parts × Span = (rename r e.0, e.1) in x) in
    let at = λ (k : ℕ) (w : IsReached f k). there f.expressions k (s.there k w) in
    let there_in = λ (k : ℕ) (e : Parts × Span) (q : slice_get f.expressions k ≡ Some e). (let x : slice_get g.expressions k ≡ Some (copy e) = slice_get-map copy f.expressions k ∙ ap (option_map copy) q in x) in
    record {
      goes = r;
      name = refl;
      arguments = sym (map-same (argument_under r) (λ x. refl) f.arguments);
      outcome = sym (same_result r (λ h. refl) f.result);
      locals = sym (locals-same f.local_variables);
      body = refl;
      spans = λ x. refl;
      expressions = record {
        copies = λ k w. let e = at k w in record { source = e.0; copy = copy e.0; at_source = e.1; at_copy = there_in k e.0 e.1; reads = refl };
        spans = λ k w. record { first = k; reached = w; same = refl; spans = λ x y i j. ap (λ (z : Parts × Span). z.1) (same_Some y (copy x) (sym j ∙ there_in k x i)) };
        onto = λ h w. (h, ap (λ xs. has xs h) (sym (reached_same from to f)) ∙ w, refl);
        shared = λ j k v w e. inl e;
      };
      emits = λ i p e. sym (map-same (λ (x : ℕ). x) (λ x. refl) (others (begun f) (places p)) ∙ s.apart i p e);
      names = record {
        order = ap (λ xs. added [] (filter (λ k. has xs k) (keys_of f.named_expressions))) (reached_same from to f) ∙ sym (ap (added []) (map-same (λ (k : ℕ). k) (λ k. refl) (named_places f)) ∙ added-twice (filter (λ k. has (reached_in f) k) (keys_of f.named_expressions)));
        each = λ h n w e. record { place = h; reached = ap (λ xs. has xs h) (sym (reached_same from to f)) ∙ w; named = e; goes = refl };
      };
      alike = record {
        types = λ k h n. refl;
        expressions = λ k e w q. named_sent a from to e.0.named only;
        callees = λ i t e. callee_sent a from to t only;
      };
      nothing_else = sent_nothing_else f from to s.nothing_else;
    }

pub as_sent : (f : FunctionValue) (from to : ℕ) → IsAsCopied f → IsAsCopied (send from to f)
as_sent f from to s = record {
  earlier = subst AreEarlier (sym (links_same from to f)) s.earlier;
  there = λ k w.
      let l = s.there k (ap (λ xs. has xs k) (sym (reached_same from to f)) ∙ w) in
      let size : length (send from to f).expressions ≡ length f.expressions = length-map f.expressions (λ (e : Parts × Span). (rename (sent from to) e.0, e.1)) in
      omega (arith, l, size);
  apart = λ i p e. ap (λ xs. others xs (places p)) (begun_same from to f) ∙ s.apart i p (emits_before i p e);
  nothing_else = sent_nothing_else f from to s.nothing_else;
}
  where
    unsent : (o : Option Token) (p : ℕ × ℕ) → option_map (rename_token (sent from to)) o ≡ Some (Emitted p) → o ≡ Some (Emitted p)
    unsent (Some (Emitted q)) p e = e
    unsent _ p e = absurd cc

    emits_before : (i : ℕ) (p : ℕ × ℕ) → EmitsAt (send from to f) i p → EmitsAt f i p
    emits_before i p e = unsent (slice_get f.body i) p (sym (slice_get-map (rename_token (sent from to)) f.body i) ∙ e)

pub send_law : SendLaw
send_law a f from to s only = (copies_sent a f from to s only, as_sent f from to s)

-- ---- a module

pub sent_from : (from to : ℕ) (omitted : Name → Bool) (n : ℕ) (fs : List (FunctionValue × Span)) (k : ℕ) → slice_get (map (send_at from to omitted) (enumerate_from n fs)) k ≡ option_map (λ x. send_at from to omitted (n + k, x)) (slice_get fs k)
sent_from from to omitted n [] k = refl
sent_from from to omitted n (x ∷ fs) zero = ap (λ j. Some (send_at from to omitted (j, x))) (let e : n ≡ n + zero = omega arith in e)
sent_from from to omitted n (x ∷ fs) (suc k) = sent_from from to omitted (n + 1) fs k ∙ ap (λ j. option_map (λ y. send_at from to omitted (j, y)) (slice_get fs k)) (let e : n + 1 + k ≡ n + suc k = omega arith in e)

pub function_at : (m : ModuleValue) (from to : ℕ) (omitted : Name → Bool) (k : ℕ) → slice_get (redirected m from to omitted).functions k ≡ option_map (λ x. send_at from to omitted (k, x)) (slice_get m.functions k)
function_at m from to omitted k = sent_from from to omitted 0 m.functions k ∙ ap (λ j. option_map (λ x. send_at from to omitted (j, x)) (slice_get m.functions k)) (let e : 0 + k ≡ k = omega arith in e)

pub name_sent : (from to : ℕ) (omitted : Name → Bool) (k : ℕ) (b : Bool) (x : FunctionValue × Span) → (let y : FunctionValue × Span = if b then x else (send from to x.0, x.1) in y.0.name) ≡ x.0.name
name_sent from to omitted k true x = refl
name_sent from to omitted k false x = refl

pub names_same_at : (m : ModuleValue) (from to : ℕ) (omitted : Name → Bool) (k : ℕ) → name_of_function (redirected m from to omitted) k ≡ name_of_function m k
names_same_at m from to omitted k = ap (λ o. option_flatten (option_map (λ (f : FunctionValue × Span). f.0.name) o)) (function_at m from to omitted k) ∙ one (slice_get m.functions k)
  where
    one : (o : Option (FunctionValue × Span)) → option_flatten (option_map (λ (f : FunctionValue × Span). f.0.name) (option_map (λ x. send_at from to omitted (k, x)) o)) ≡ option_flatten (option_map (λ (f : FunctionValue × Span). f.0.name) o)
    one None = refl
    one (Some x) = name_sent from to omitted k ((k == to) || is_named omitted x.0.name) x

pub world_same : (m : ModuleValue) (from to : ℕ) (omitted : Name → Bool) (p : ItemPlace) → world (redirected m from to omitted) p ≡ world m p
unfolding world
world_same m from to omitted (TypeItem k) = refl
world_same m from to omitted (ConstantItem k) = refl
world_same m from to omitted (OverrideItem k) = refl
world_same m from to omitted (GlobalItem k) = refl
world_same m from to omitted (ExpressionItem k) = refl

pub scopes_alike : (m : ModuleValue) (from to : ℕ) (omitted : Name → Bool) → AreAlike (scope_of m) (scope_of (redirected m from to omitted))
scopes_alike m from to omitted =
    let worlds : world (redirected m from to omitted) ≡ world m = λ i q. world_same m from to omitted q i in
    record { reads = λ p n. ap (λ (w : World). tree n w p) worlds; names = names_same_at m from to omitted }

pub alike_itself : (a : Scope) → AreAlike a a
alike_itself a = record { reads = λ p n. refl; names = λ k. refl }

abbrev pub instead : ModuleValue → (from to : ℕ) → Text → Text
instead m from to = instead_of (name_of_function m from) (name_of_function m to)

pub copies_here : (m : ModuleValue) (from to : ℕ) (omitted : Name → Bool) (f : FunctionValue) → IsAsCopied f → IsOnlyOfItsName (scope_of m) from → CopiesByTree (λ s. s) (instead m from to) (scope_of m) f (scope_of (redirected m from to omitted)) (send from to f)
copies_here m from to omitted f s only = alike (λ x. x) (instead m from to) (scope_of m) (scope_of m) (scope_of m) (scope_of (redirected m from to omitted)) f (send from to f) (alike_itself (scope_of m)) (scopes_alike m from to omitted) (copies_sent (scope_of m) f from to s only)

-- what one function of a redirected module is, where it stays if b
abbrev pub IsOf : ModuleValue → (from to : ℕ) → (Name → Bool) → Bool → FunctionValue × Span → FunctionValue × Span → Type 0
IsOf m from to omitted b x y = (y.1 ≡ x.1) × CopiesByTree (λ s. s) (if b then (λ t. t) else instead m from to) (scope_of m) x.0 (scope_of (redirected m from to omitted)) y.0 × IsAsCopied y.0

pub sent_one : (m : ModuleValue) (from to : ℕ) (omitted : Name → Bool) (b : Bool) (x : FunctionValue × Span) → IsAsCopied x.0 → IsOnlyOfItsName (scope_of m) from → IsOf m from to omitted b x (if b then x else (send from to x.0, x.1))
sent_one m from to omitted true x s only = (refl, alike (λ y. y) (λ t. t) (scope_of m) (scope_of m) (scope_of m) (scope_of (redirected m from to omitted)) x.0 x.0 (alike_itself (scope_of m)) (scopes_alike m from to omitted) (reflexive (scope_of m) x.0 s), s)
sent_one m from to omitted false x s only = (refl, copies_here m from to omitted x.0 s only, as_sent x.0 from to s)

pub sent_to : (from to : ℕ) (omitted : Name → Bool) (k : ℕ) (o : Option (FunctionValue × Span)) (g : FunctionValue × Span) → option_map (λ x. send_at from to omitted (k, x)) o ≡ Some g → (x : FunctionValue × Span) × (o ≡ Some x) × (send_at from to omitted (k, x) ≡ g)
sent_to from to omitted k None g e = absurd (none-some g e)
sent_to from to omitted k (Some x) g e = (x, refl, same_Some (send_at from to omitted (k, x)) g e)

pub redirected_law : RedirectedLaw
redirected_law m from to omitted all only k g e =
    let x = sent_to from to omitted k (slice_get m.functions k) g (sym (function_at m from to omitted k) ∙ e) in
    let b = (k == to) || is_named omitted x.0.0.name in
    let w = subst (IsOf m from to omitted b x.0) x.2 (sent_one m from to omitted b x.0 (all k x.0 x.1) only) in
    record { source = x.0; at = x.1; span = w.0; copies = w.1; as_copied = w.2 }

pub entry_law : RedirectedEntryLaw
entry_law m from to omitted f s only = (copies_here m from to omitted f s only, as_sent f from to s)
