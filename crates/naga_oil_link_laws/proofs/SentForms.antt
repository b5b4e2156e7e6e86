-- Functions whose calls are redirected pass the test of form as before.
use Rattle.std.proofs.Common.{◌≡◌, ℕ, ◌+◌, ◌<◌, ◌≤◌, ◌==◌, ◌||◌, if◌then◌else◌, Bool, true, false, List, [], ◌∷◌, ◌++◌, length, map, Option, Some, None, IsSome, IfSome, option_map, option_to_list, slice_get, All, refl, ap, sym, ◌∙◌, subst, arith}
use Rattle.std.specs.List.{flat_map, enumerate_from}
use Rattle.std.proofs.lemmas.List.{length-map}
use Rattle.std.proofs.lemmas.List.Elements.{All-map, All-weaker}
use Rattle.std.proofs.lemmas.List.FromFn.{length-enumerate_from}
use Rattle.std.proofs.lemmas.Option.{none-some, same_Some, slice_get_within, slice_get-map}
use Rattle.naga_oil_ir.specs.Body.{Tokens}
use Rattle.naga_oil_form.specs.BodyForm.{callee, made, IsFine, AreFine, MayStand, IsSpanFine, IsTokenFine}
use Rattle.naga_oil_form.specs.Links.{Links, started}
use Rattle.naga_oil_ir.specs.ModuleValue.{ModuleValue, FunctionValue, EntryValue}
use Rattle.naga_oil_form.specs.NameForm.{Name}
use Rattle.naga_oil_ir.specs.Parts.{Parts}
use Rattle.naga_oil_ir.specs.Rows.{Row}
use Rattle.naga_oil_ir.specs.declared.names.ItemPlace.TheVariants.{TypeItem}
use Rattle.naga_oil_ir.specs.declared.parts.Named.{Named}
use Rattle.naga_oil_ir.specs.declared.parts.Named.TheVariants.{Nothing, TypeOf, ConstantAt, OverrideAt, GlobalAt, LocalAt, ArgumentAt, FunctionAt}
use Rattle.naga_oil_ir.specs.declared.span.Span.{Span}
use Rattle.naga_oil_ir.specs.declared.tokens.Token.{Token}
use Rattle.naga_oil_ir.specs.declared.tokens.Token.TheVariants.{At, Head, Plain, Flag, Absent, Open, Close, Use, Give, GiveCall, Emitted, Callee}
use Rattle.naga_oil_rename.specs.Renames.{rename, rename_named, rename_token, rename_tokens}
use Rattle.naga_oil_derive.specs.declared.special.SpecialKey.{SpecialKey}
use Rattle.naga_oil_derive.specs.Copies.{value_links}
use Rattle.naga_oil_derive.specs.CopiedFunctionLaw.{StandAlone}
use Rattle.naga_oil_derive.specs.CopiedLaw.{IsCopyable, AreSpecial}
use Rattle.naga_oil_derive.specs.DerivedFunctions.{kinds_in, initialisers_in}
use Rattle.naga_oil_derive.specs.Tree.{World}
use Rattle.naga_oil_derive.specs.World.{world, special_entries}
use Rattle.naga_oil_form_laws.specs.EntryForm.{IsEntryFormed}
use Rattle.naga_oil_form_laws.specs.FunctionForm.{IsNamedThere, NamesFunctionAsResult, IsFunctionFormed}
use Rattle.naga_oil_form_laws.proofs.EntryLemmas.{entry_later}
use Rattle.naga_oil_form_laws.proofs.ImportLemmas.{HasMore, form_later}
use Rattle.naga_oil_form_laws.proofs.RankLemmas.{formed_copyable}
use Rattle.naga_oil_form_laws.proofs.RequestLemmas.{all_at}
use Rattle.naga_oil_redirect.specs.Redirected.{sent, send, send_at, send_entry, redirected, is_named}
use Rattle.naga_oil_copy_laws.specs.Scope.{scope_of}
use Rattle.naga_oil_copy_laws.specs.ByTreeLaw.{IsAsCopied}
use Rattle.naga_oil_copy_laws.specs.SentByTree.{instead_of, IsOnlyOfItsName}
use Rattle.naga_oil_copy_laws.proofs.CallLaws.{calls_kept}
use Rattle.naga_oil_copy_laws.proofs.ReachLemmas.{operands_image}
use Rattle.naga_oil_copy_laws.proofs.SentLaws.{links_same, copies_sent, function_at, name_sent, sent_to, world_same}
use Rattle.naga_oil_link_laws.specs.OrderedCopies.{CallsAnywhere, MaySend, FormedCallsLaw, SentCallsLaw}
use Rattle.naga_oil_link_laws.proofs.FormedSources.{copyable_function}

-- ---- one function

abbrev sent_part : ℕ → ℕ → Parts × Span → Parts × Span
sent_part f t e = (rename (sent f t) e.0, e.1)

kinds_same : (f t : ℕ) (es : List (Parts × Span)) → map (λ (e : Parts × Span). e.0.kind) es ≡ map (λ (e : Parts × Span). e.0.kind) (map (sent_part f t) es)
kinds_same f t [] = refl
kinds_same f t (e ∷ es) = ap (λ ks. e.0.kind ∷ ks) (kinds_same f t es)

callee_same : (f t : ℕ) (x : Named) → option_map (sent f t).function (callee x) ≡ callee (rename_named (sent f t) x)
callee_same f t Nothing = refl
callee_same f t (TypeOf h) = refl
callee_same f t (ConstantAt h) = refl
callee_same f t (OverrideAt h) = refl
callee_same f t (GlobalAt h) = refl
callee_same f t (LocalAt h) = refl
callee_same f t (ArgumentAt n) = refl
callee_same f t (FunctionAt h) = refl

abbrev callees : List (Parts × Span) → List (Option ℕ)
callees es = map callee (map (λ (e : Parts × Span). e.0.named) es)

callees_same : (f t : ℕ) (es : List (Parts × Span)) → map (option_map (sent f t).function) (callees es) ≡ callees (map (sent_part f t) es)
callees_same f t [] = refl
callees_same f t (e ∷ es) = ap (λ c. c ∷ map (option_map (sent f t).function) (callees es)) (callee_same f t e.0.named) ∙ ap (λ cs. callee (rename_named (sent f t) e.0.named) ∷ cs) (callees_same f t es)

made_same : (f t : ℕ) (x : Token) → made x ≡ made (rename_token (sent f t) x)
made_same f t (At s) = refl
made_same f t (Head k) = refl
made_same f t (Plain k) = refl
made_same f t (Flag b) = refl
made_same f t Absent = refl
made_same f t (Use h) = refl
made_same f t (Give h) = refl
made_same f t (GiveCall g h) = refl
made_same f t (Emitted r) = refl
made_same f t (Callee g) = refl
made_same f t Open = refl
made_same f t Close = refl

given_same : (f t : ℕ) (fs : List (Option ℕ)) (h : ℕ) (o : Option ℕ) → slice_get fs h ≡ Some o → slice_get (map (option_map (sent f t).function) fs) h ≡ Some (option_map (sent f t).function o)
given_same f t fs h o e = slice_get-map (option_map (sent f t).function) fs h ∙ ap (option_map (option_map (sent f t).function)) e

token_fine : (f t n : ℕ) (ks : List ℕ) (fs : List (Option ℕ)) (ls : Links) (s d : List ℕ) (x : Token) → IsFine n ks fs ls s d x → IsFine n ks (map (option_map (sent f t).function) fs) ls s d (rename_token (sent f t) x)
token_fine f t n ks fs ls s d (Give h) i = (i.0, i.1, given_same f t fs h None i.2, i.3)
token_fine f t n ks fs ls s d (GiveCall g h) i = (i.0, i.1, given_same f t fs h (Some g) i.2, i.3)
token_fine f t n ks fs ls s d _ i = i

tokens_fine : (f t n : ℕ) (ks : List ℕ) (fs : List (Option ℕ)) (ls : Links) (s d : List ℕ) (ts : Tokens) → AreFine n ks fs ls s d ts → AreFine n ks (map (option_map (sent f t).function) fs) ls s d (rename_tokens (sent f t) ts)
tokens_fine f t n ks fs ls s d [] i = tt
tokens_fine f t n ks fs ls s d (x ∷ ts) i =
    (token_fine f t n ks fs ls s d x i.0, subst (λ m. AreFine n ks (map (option_map (sent f t).function) fs) ls s (d ++ m) (rename_tokens (sent f t) ts)) (made_same f t x) (tokens_fine f t n ks fs ls s (d ++ made x) ts i.1))

body_stands : (f t : ℕ) (ks js : List ℕ) (fs gs : List (Option ℕ)) (ls us : Links) (is : List ℕ) (ts : Tokens) → ks ≡ js → map (option_map (sent f t).function) fs ≡ gs → ls ≡ us → MayStand ks fs ls is ts → MayStand js gs us is (rename_tokens (sent f t) ts)
body_stands f t ks js fs gs ls us is ts a b c h =
    let own : MayStand ks (map (option_map (sent f t).function) fs) ls is (rename_tokens (sent f t) ts) = record { earlier = h.earlier; there = h.there; no_results = h.no_results; body = tokens_fine f t (length ls) ks fs ls (started ls is) [] ts h.body } in
    subst (λ x. MayStand x gs us is (rename_tokens (sent f t) ts)) a (subst (λ x. MayStand ks x us is (rename_tokens (sent f t) ts)) b (subst (λ x. MayStand ks (map (option_map (sent f t).function) fs) x is (rename_tokens (sent f t) ts)) c own))

below_if : (f t k c : ℕ) (b : Bool) → t < c → k < c → (if b then t else k) < c
below_if f t k c true i j = i
below_if f t k c false i j = j

token_below : (f t c n : ℕ) → t < c → (x : Token) → IsTokenFine c n x → IsTokenFine c n (rename_token (sent f t) x)
token_below f t c n i (Callee k) h = below_if f t k c (k == f) i h
token_below f t c n i _ h = h

named_below : (m : ModuleValue) (f t : ℕ) (v : FunctionValue) → t < length m.functions → (x : Named) → IsNamedThere m v x → IsNamedThere m (send f t v) (rename_named (sent f t) x)
named_below m f t v i (FunctionAt k) h = below_if f t k (length m.functions) (k == f) i h
named_below m f t v i Nothing h = h
named_below m f t v i (TypeOf k) h = h
named_below m f t v i (ConstantAt k) h = h
named_below m f t v i (OverrideAt k) h = h
named_below m f t v i (GlobalAt k) h = h
named_below m f t v i (LocalAt k) h = h
named_below m f t v i (ArgumentAt k) h = h

function_back : (f t : ℕ) (x : Named) (g : ℕ) → rename_named (sent f t) x ≡ FunctionAt g → (k : ℕ) × (x ≡ FunctionAt k)
function_back f t (FunctionAt k) g e = (k, refl)
function_back f t Nothing g e = absurd cc
function_back f t (TypeOf k) g e = absurd cc
function_back f t (ConstantAt k) g e = absurd cc
function_back f t (OverrideAt k) g e = absurd cc
function_back f t (GlobalAt k) g e = absurd cc
function_back f t (LocalAt k) g e = absurd cc
function_back f t (ArgumentAt k) g e = absurd cc

names_result : (f t : ℕ) (p : Parts) → NamesFunctionAsResult p → NamesFunctionAsResult (rename (sent f t) p)
names_result f t p h g e = let b = function_back f t p.named g e in h b.0 b.1

stand_alone : (f t : ℕ) (es : List (Parts × Span)) → StandAlone es → StandAlone (map (sent_part f t) es)
stand_alone f t es h k e at l = one (slice_get es k) refl (sym (slice_get-map (sent_part f t) es k) ∙ at)
  where
    one : (o : Option (Parts × Span)) → slice_get es k ≡ o → option_map (sent_part f t) o ≡ Some e → flat_map option_to_list e.0.operands ≡ []
    one None q s = absurd (none-some e s)
    one (Some x) q s =
        let same : sent_part f t x ≡ e = same_Some (sent_part f t x) e s in
        ap (λ (y : Parts × Span). flat_map option_to_list y.0.operands) (sym same) ∙ operands_image (λ n. n) x.0.operands ∙ ap (map (λ (n : ℕ). n)) (h k x q (subst (λ (y : Parts × Span). y.0.kind < 13) (sym same) l))

-- the function passes as before, if calls are redirected to functions that are there
pub form_sent : (m : ModuleValue) (f t n : ℕ) (v : FunctionValue) → t < length m.functions → IsAsCopied v → IsOnlyOfItsName (scope_of m) f → IsFunctionFormed m (length m.functions) n v → IsFunctionFormed m (length m.functions) n (send f t v)
form_sent m f t n v i as_copied only h =
    let es = v.expressions in
    let w = send f t v in
    let calls = calls_kept (λ s. s) (instead_of ((scope_of m).function_name f) ((scope_of m).function_name t)) (scope_of m) (scope_of m) v w (copies_sent (scope_of m) v f t as_copied only) (copyable_function m (length m.functions) n v h).calls in
    record {
      arguments = h.arguments;
      result = h.result;
      locals = h.locals;
      named_expressions = subst (λ k. All (λ (e : ℕ × List ℕ). e.0 < k) v.named_expressions) (sym (length-map es (sent_part f t))) h.named_expressions;
      expressions = All-map (λ (e : Parts × Span). IsNamedThere m w e.0.named) (sent_part f t) es (All-weaker (λ (e : Parts × Span). IsNamedThere m v e.0.named) (λ (e : Parts × Span). IsNamedThere m w (rename_named (sent f t) e.0.named)) (λ e. named_below m f t v i e.0.named) es h.expressions);
      statements = All-map (IsTokenFine (length m.functions) n) (rename_token (sent f t)) v.body (All-weaker (IsTokenFine (length m.functions) n) (λ x. IsTokenFine (length m.functions) n (rename_token (sent f t) x)) (token_below f t (length m.functions) n i) v.body h.statements);
      callees = All-map (λ (e : Parts × Span). NamesFunctionAsResult e.0) (sent_part f t) es (All-weaker (λ (e : Parts × Span). NamesFunctionAsResult e.0) (λ (e : Parts × Span). NamesFunctionAsResult (rename (sent f t) e.0)) (λ e. names_result f t e.0) es h.callees);
      results = calls.results;
      body = record {
        form = body_stands f t (kinds_in v) (kinds_in w) (callees es) (callees w.expressions) (value_links es) (value_links w.expressions) (initialisers_in v) v.body (kinds_same f t es) (callees_same f t es) (sym (links_same f t v)) h.body.form;
        alone = stand_alone f t es h.body.alone;
      };
      local_spans = h.local_spans;
      expression_spans = All-map (λ (e : Parts × Span). IsSpanFine n e.1) (sent_part f t) es h.expression_spans;
    }

-- ---- a module

pub formed_calls : FormedCallsLaw
formed_calls m f = record {
  items = (formed_copyable m f.items).0;
  special = (formed_copyable m f.items).1;
  named = f.functions.named;
  distinct = f.functions.distinct;
  forms = λ k e at. calls_more m k (length m.functions) e.0 (let l = slice_get_within m.functions k e at in omega (arith, l)) (f.functions.forms k e at);
  entry_points = λ i v at. all_at (IsEntryFormed m 4294967295) m.entry_points i v f.entry_points.forms at;
}
  where
    token_more : (c d : ℕ) → c ≤ d → (x : Token) → IsTokenFine c 4294967295 x → IsTokenFine d 4294967295 x
    token_more c d l (Callee k) h = omega (arith, l, h)
    token_more c d l (At s) h = h
    token_more c d l _ h = h

    calls_more : (m : ModuleValue) (c d : ℕ) (v : FunctionValue) → c ≤ d → IsFunctionFormed m c 4294967295 v → IsFunctionFormed m d 4294967295 v
    calls_more m c d v l h = record {
      arguments = h.arguments;
      result = h.result;
      locals = h.locals;
      named_expressions = h.named_expressions;
      expressions = h.expressions;
      statements = All-weaker (IsTokenFine c 4294967295) (IsTokenFine d 4294967295) (token_more c d l) v.body h.statements;
      callees = h.callees;
      results = h.results;
      body = h.body;
      local_spans = h.local_spans;
      expression_spans = h.expression_spans;
    }

module _ (m : ModuleValue) (from to : ℕ) (omitted : Name → Bool) (h : CallsAnywhere m) (may : MaySend m from to) (entries : (i : ℕ) (v : EntryValue) → slice_get m.entry_points i ≡ Some v → IsAsCopied v.function) where
  abbrev n : ModuleValue
  n = redirected m from to omitted

  same_world : world n ≡ world m
  same_world = λ i p. world_same m from to omitted p i

  pub same_count : length n.functions ≡ length m.functions
  same_count = length-map (enumerate_from 0 m.functions) (send_at from to omitted) ∙ length-enumerate_from 0 m.functions

  has_more : HasMore m n
  has_more = record { types = omega arith; constants = omega arith; overrides = omega arith; globals = omega arith; expressions = omega arith; functions = (let e = same_count in omega (arith, e)) }

  copyable : IsCopyable n
  copyable = record {
    kinds = λ p r at. h.items.kinds p r (sym (world_same m from to omitted p) ∙ at);
    rank = h.items.rank;
    ranked = record {
      names = λ p r at. subst (λ (w : World). All (λ o. IfSome o (λ q. ((s : Row) × (w q ≡ Some s)) × (h.items.rank q < h.items.rank p))) r.names) (sym same_world) (h.items.ranked.names p r (sym (world_same m from to omitted p) ∙ at));
      within = λ p r at. h.items.ranked.within p r (sym (world_same m from to omitted p) ∙ at);
    };
  }

  special : AreSpecial n
  special = record {
    there = subst (λ (w : World). All (λ (e : SpecialKey × ℕ). (s : Row) × (w (TypeItem e.1) ≡ Some s)) (special_entries m.special_types)) (sym same_world) h.special.there;
    distinct = h.special.distinct;
  }

  -- a function of the module, whose calls may be redirected
  pub came : (k : ℕ) (g : FunctionValue × Span) → slice_get n.functions k ≡ Some g → (x : FunctionValue × Span) × (slice_get m.functions k ≡ Some x) × (send_at from to omitted (k, x) ≡ g)
  came k g at = sent_to from to omitted k (slice_get m.functions k) g (sym (function_at m from to omitted k) ∙ at)

  stays : (k : ℕ) (x : FunctionValue × Span) → (send_at from to omitted (k, x)).0.name ≡ x.0.name
  stays k x = name_sent from to omitted k ((k == to) || is_named omitted x.0.name) x

  moved_form : (v : FunctionValue) → IsFunctionFormed m (length m.functions) 4294967295 v → IsFunctionFormed n (length n.functions) 4294967295 v
  moved_form v f = subst (λ c. IsFunctionFormed n c 4294967295 v) (sym same_count) (form_later m n (length m.functions) 4294967295 v has_more f)

  form_if : (k : ℕ) (x : FunctionValue × Span) (b : Bool) → slice_get m.functions k ≡ Some x → IsFunctionFormed n (length n.functions) 4294967295 (let y : FunctionValue × Span = if b then x else (send from to x.0, x.1) in y.0)
  form_if k x true at = moved_form x.0 (h.forms k x at)
  form_if k x false at = moved_form (send from to x.0) (form_sent m from to 4294967295 x.0 may.there (may.as_copied k x at) may.only (h.forms k x at))

  entry_form : (v : EntryValue) → IsAsCopied v.function → IsEntryFormed m 4294967295 v → IsEntryFormed n 4294967295 (send_entry from to v)
  entry_form v c f =
      let l = entry_later m n has_more v f in
      record { function = moved_form (send from to v.function) (form_sent m from to 4294967295 v.function may.there c may.only f.function); workgroup_size = l.workgroup_size; mesh_info = l.mesh_info; task_payload = l.task_payload }

  entry_came : (i : ℕ) (o : Option EntryValue) (y : EntryValue) → slice_get m.entry_points i ≡ o → option_map (send_entry from to) o ≡ Some y → IsEntryFormed n 4294967295 y
  entry_came i None y at e = absurd (none-some y e)
  entry_came i (Some v) y at e = subst (IsEntryFormed n 4294967295) (same_Some (send_entry from to v) y e) (entry_form v (entries i v at) (h.entry_points i v at))

  sent_calls_here : CallsAnywhere n
  sent_calls_here = record {
    items = copyable;
    special = special;
    named = λ k g at. let x = came k g at in subst (λ (y : FunctionValue × Span). IsSome y.0.name) x.2 (subst IsSome (sym (stays k x.0)) (h.named k x.0 x.1));
    distinct = λ j k e f p q s.
        let x = came j e p in
        let y = came k f q in
        h.distinct j k x.0 y.0 x.1 y.1 (sym (stays j x.0) ∙ ap (λ (z : FunctionValue × Span). z.0.name) x.2 ∙ s ∙ sym (ap (λ (z : FunctionValue × Span). z.0.name) y.2) ∙ stays k y.0);
    forms = λ k g at. let x = came k g at in subst (λ (y : FunctionValue × Span). IsFunctionFormed n (length n.functions) 4294967295 y.0) x.2 (form_if k x.0 ((k == to) || is_named omitted x.0.0.name) x.1);
    entry_points = λ i y at. entry_came i (slice_get m.entry_points i) y refl (sym (slice_get-map (send_entry from to) m.entry_points i) ∙ at);
  }

pub sent_calls : SentCallsLaw
sent_calls m from to omitted h may entries = sent_calls_here m from to omitted h may entries
