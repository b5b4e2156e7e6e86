-- The copy of a function passes the test of form, after what it names was answered.
use Rattle.std.proofs.Common.{◌≡◌, ⊎_elim, ℕ, zero, suc, ◌<◌, ◌≤◌, Bool, true, false, cond, List, [], ◌∷◌, length, map, take, Option, Some, None, option_map, option_to_list, unwrap_or, is_some, slice_get, nat_eq, refl, ap, sym, ◌∙◌, subst, arith, All, IfSome}
use Rattle.std.specs.List.{flat_map}
use Rattle.std.specs.Option.{option_flatten}
use Rattle.std.proofs.lemmas.Bool.{false≢true}
use Rattle.std.proofs.lemmas.List.{length-map}
use Rattle.std.proofs.lemmas.List.Elements.{All-nil, All-cons, All-head, All-tail, All-weaker, All-map}
use Rattle.std.proofs.lemmas.Option.{same_Some, none-some, slice_get-map, slice_get_within}
use Rattle.indexmap.specs.IndexMap.{insert_entry}
use Rattle.naga_oil_form.specs.BodyForm.{callee, result_kind, is_result, IsSpanFine, IsTokenFine}
use Rattle.naga_oil_form.specs.Links.{has}
use Rattle.naga_oil_ir.specs.ModuleValue.{ModuleValue, FunctionValue, ArgumentValue, LocalValue}
use Rattle.naga_oil_ir.specs.Parts.{Parts}
use Rattle.naga_oil_ir.specs.Rows.{named_place}
use Rattle.naga_oil_ir.specs.declared.module.FunctionResult.{FunctionResult}
use Rattle.naga_oil_ir.specs.declared.names.ItemPlace.{ItemPlace}
use Rattle.naga_oil_ir.specs.declared.names.ItemPlace.TheVariants.{TypeItem, ConstantItem, OverrideItem, GlobalItem}
use Rattle.naga_oil_ir.specs.declared.parts.Named.{Named}
use Rattle.naga_oil_ir.specs.declared.parts.Named.TheVariants.{Nothing, TypeOf, ConstantAt, OverrideAt, GlobalAt, LocalAt, ArgumentAt, FunctionAt}
use Rattle.naga_oil_ir.specs.declared.span.Span.{Span}
use Rattle.naga_oil_ir.specs.declared.tokens.Token.{Token}
use Rattle.naga_oil_ir.specs.declared.tokens.Token.TheVariants.{At, Head, Plain, Flag, Absent, Open, Close, Use, Give, GiveCall, Emitted, Callee}
use Rattle.naga_oil_walk.specs.declared.walk.Request.{Request}
use Rattle.naga_oil_walk.specs.declared.walk.Request.TheVariants.{Item, Call}
use Rattle.naga_oil_derive.specs.World.{ItemMap, goes, shifted}
use Rattle.naga_oil_derive.specs.CopiedLaw.{HasAt}
use Rattle.naga_oil_derive.specs.Copies.{place_under, under_table, value_links}
use Rattle.naga_oil_derive.specs.CopiedFunction.{copy_function}
use Rattle.naga_oil_derive.specs.DerivedFunctions.{Meanings, meant_at, going, kinds_in, named_in, local_requests, requests_of}
use Rattle.naga_oil_derive.specs.Functions.{Copies, argument_under, result_under, local_under, name_put, names_under, begun, order_of}
use Rattle.naga_oil_walk.specs.Naming.{item_of, requested, names_from, token_names}
use Rattle.naga_oil_rename.specs.Renames.{Renames, rename_named, rename_token}
use Rattle.naga_oil_derive.proofs.PutLaws.{goes_renamed}
use Rattle.naga_oil_walk.proofs.WalkLemmas.{has_at}
use Rattle.naga_oil_form_laws.specs.FunctionForm.{IsNamedThere, NamesFunctionAsResult, AreResultsOfCalls, IsFunctionFormed}
use Rattle.naga_oil_form_laws.proofs.CopyFormLemmas.{c as copies_of, ready, within_order, source_at, copy_form}
use Rattle.naga_oil_form_laws.proofs.RequestLemmas.{type_within, constant_within, override_within, global_within, all_left, all_right, flat_of, map_of, all_at, from_at, of_signature, of_locals, of_body, order_asks, result_in_order}
use Rattle.naga_oil_form_laws.proofs.SpanLemmas.{shifted_fine}
use Rattle.naga_oil_form_laws.proofs.WalkLemmas.{copy_at, copy_within, source_of}

-- a request was answered: an item maps to one that is there, and the name of a function means one of the first n
abbrev pub Answered : (m t : ModuleValue) → ItemMap → Meanings → ℕ → Request → Type 0
Answered m t places names n (Item p) = (q : ItemPlace) × (goes places p ≡ Some q) × HasAt t q
Answered m t places names n (Call k) = (h : ℕ) × (meant_at names (slice_get m.functions k) ≡ Some h) × (h < n)

some_is : (o : Option ℕ) → is_some o ≡ true → (h : ℕ) × (o ≡ Some h)
some_is None e = absurd (false≢true e)
some_is (Some h) e = (h, refl)

put_named : (P : ℕ × List ℕ → Type 0) (h : ℕ) (n : List ℕ) (done : List (ℕ × List ℕ)) → ((k : ℕ) (x : List ℕ) → P (k, x) → P (k, n)) → P (h, n) → All P done → All P (insert_entry nat_eq done h n)
put_named P h n [] f p a = All-cons P (h, n) [] p (All-nil P)
put_named P h n (e ∷ done) f p a = one (nat_eq h e.0) (All-head P e done a) (put_named P h n done f p (All-tail P e done a))
  where
    one : (b : Bool) → P e → All P (insert_entry nat_eq done h n) → All P (cond b ((e.0, n) ∷ done) (e ∷ insert_entry nat_eq done h n))
    one true q r = All-cons P (e.0, n) done (f e.0 e.1 q) (All-tail P e done a)
    one false q r = All-cons P e (insert_entry nat_eq done h n) q r

renamed_give : (u : Renames) (x : Token) (f h : ℕ) → rename_token u x ≡ GiveCall f h → (g : ℕ) × (k : ℕ) × (x ≡ GiveCall g k) × (u.function g ≡ f)
renamed_give u (GiveCall g k) f h e = (g, k, refl, (let q : u.function g ≡ f = cc in q))
renamed_give u (At x) f h e = cc
renamed_give u (Head x) f h e = cc
renamed_give u (Plain x) f h e = cc
renamed_give u (Flag x) f h e = cc
renamed_give u Absent f h e = cc
renamed_give u (Use x) f h e = cc
renamed_give u (Give x) f h e = cc
renamed_give u (Emitted x) f h e = cc
renamed_give u (Callee x) f h e = cc
renamed_give u Open f h e = cc
renamed_give u Close f h e = cc

pub mapped_at : {X Y : Type 0} (f : X → Y) (xs : List X) (k : ℕ) (y : Y) → slice_get (map f xs) k ≡ Some y → (x : X) × (slice_get xs k ≡ Some x) × (f x ≡ y)
mapped_at f [] k y e = cc
mapped_at f (x ∷ xs) zero y e = (x, refl, (let q : f x ≡ y = cc in q))
mapped_at f (x ∷ xs) (suc k) y e = mapped_at f xs k y e

named_function : (r : Renames) (x : Named) (g : ℕ) → rename_named r x ≡ FunctionAt g → (f : ℕ) × (x ≡ FunctionAt f)
named_function r (FunctionAt f) g e = (f, refl)
named_function r Nothing g e = cc
named_function r (TypeOf k) g e = cc
named_function r (ConstantAt k) g e = cc
named_function r (OverrideAt k) g e = cc
named_function r (GlobalAt k) g e = cc
named_function r (LocalAt k) g e = cc
named_function r (ArgumentAt k) g e = cc

module _ (m t : ModuleValue) (shift : ℕ) (places : ItemMap) (names : Meanings) (n c : ℕ) (room : n ≤ length t.functions) (v : FunctionValue) (f : IsFunctionFormed m c 4294967295 v) (a : All (Answered m t places names n) (requests_of v)) where
  abbrev P : Request → Type 0
  P = Answered m t places names n

  abbrev r : Renames
  r = going (record { value = m; offset = shift; places = places }) names

  abbrev w : FunctionValue
  w = copy_function r v

  abbrev copies : Copies r v w
  copies = copies_of r v f.body

  abbrev u : Renames
  u = under_table r copies.table copies.range

  -- ---- what items map to

  gone_at : (p q : ItemPlace) → goes places p ≡ Some q → HasAt t q → (x : ItemPlace) → goes places p ≡ Some x → HasAt t x
  gone_at p q e h x g = let same : q ≡ x = same_Some q x (sym e ∙ g) in subst (HasAt t) same h

  ty_there : (k : ℕ) → P (Item (TypeItem k)) → r.ty k < length t.types
  ty_there k h = type_within t (r.ty k) (gone_at (TypeItem k) h.0 h.1 h.2 (TypeItem (r.ty k)) (goes_renamed shift places (TypeItem k) h.0 h.1))

  constant_there : (k : ℕ) → P (Item (ConstantItem k)) → r.constant k < length t.constants
  constant_there k h = constant_within t (r.constant k) (gone_at (ConstantItem k) h.0 h.1 h.2 (ConstantItem (r.constant k)) (goes_renamed shift places (ConstantItem k) h.0 h.1))

  override_there : (k : ℕ) → P (Item (OverrideItem k)) → r.pipeline_override k < length t.overrides
  override_there k h = override_within t (r.pipeline_override k) (gone_at (OverrideItem k) h.0 h.1 h.2 (OverrideItem (r.pipeline_override k)) (goes_renamed shift places (OverrideItem k) h.0 h.1))

  global_there : (k : ℕ) → P (Item (GlobalItem k)) → r.global k < length t.global_variables
  global_there k h = global_within t (r.global k) (gone_at (GlobalItem k) h.0 h.1 h.2 (GlobalItem (r.global k)) (goes_renamed shift places (GlobalItem k) h.0 h.1))

  function_there : (k : ℕ) → P (Call k) → r.function k < n
  function_there k h = let l = h.2 in subst (λ x. x < n) (sym (ap (λ o. unwrap_or o k) h.1)) l

  -- ---- the signature

  argument_types : All (λ (x : ArgumentValue). x.ty < length t.types) w.arguments
  argument_types =
      let asked = map_of P (λ (x : ArgumentValue). Item (TypeItem x.ty)) v.arguments (all_left P (map (λ (x : ArgumentValue). Item (TypeItem x.ty)) v.arguments) (option_to_list (option_map (λ (x : FunctionResult). Item (TypeItem x.ty)) v.result)) (of_signature P v f.body a)) in
      subst (All (λ (x : ArgumentValue). x.ty < length t.types)) (sym copies.arguments) (All-map (λ (x : ArgumentValue). x.ty < length t.types) (argument_under r) v.arguments (All-weaker (λ (x : ArgumentValue). P (Item (TypeItem x.ty))) (λ (x : ArgumentValue). r.ty x.ty < length t.types) (λ x h. ty_there x.ty h) v.arguments asked))

  result_by : (o : Option FunctionResult) → All P (option_to_list (option_map (λ (x : FunctionResult). Item (TypeItem x.ty)) o)) → IfSome (option_map (result_under r) o) (λ (x : FunctionResult). x.ty < length t.types)
  result_by None h = tt
  result_by (Some x) h = ty_there x.ty (All-head P (Item (TypeItem x.ty)) [] h)

  result_type : IfSome w.result (λ (x : FunctionResult). x.ty < length t.types)
  result_type = subst (λ (o : Option FunctionResult). IfSome o (λ (x : FunctionResult). x.ty < length t.types)) (sym copies.outcome) (result_by v.result (all_right P (map (λ (x : ArgumentValue). Item (TypeItem x.ty)) v.arguments) (option_to_list (option_map (λ (x : FunctionResult). Item (TypeItem x.ty)) v.result)) (of_signature P v f.body a)))

  local_types : All (λ (x : LocalValue × Span). x.0.ty < length t.types) w.local_variables
  local_types =
      subst (All (λ (x : LocalValue × Span). x.0.ty < length t.types)) (sym copies.locals) (All-map (λ (x : LocalValue × Span). x.0.ty < length t.types) (local_under u) v.local_variables (All-weaker (λ (x : LocalValue × Span). All P (local_requests (named_in v) (value_links v.expressions) x)) (λ (x : LocalValue × Span). r.ty x.0.ty < length t.types) (λ x h. ty_there x.0.ty (All-head P (Item (TypeItem x.0.ty)) (flat_map (names_from (named_in v) (value_links v.expressions)) (option_to_list x.0.init)) h)) v.local_variables (of_locals P v f.body a)))

  -- ---- names of expressions

  table_within : (k h : ℕ) → option_flatten (slice_get copies.table k) ≡ Some h → h < length w.expressions
  table_within k h e =
      let i : has (order_of v) k ≡ true = sym (copies.expressions.went k) ∙ ap is_some e in
      let l = copy_within r v.expressions w.expressions (begun v) (order_of v) copies.table copies.expressions (ready r v f.body) (within_order r v f.body) k i in
      subst (λ x. x < length w.expressions) (ap (λ o. unwrap_or o k) e) l

  name_by : (k : ℕ) (x : List ℕ) (o : Option ℕ) → option_flatten (slice_get copies.table k) ≡ o → (done : List (ℕ × List ℕ)) → All (λ (e : ℕ × List ℕ). e.0 < length w.expressions) done → All (λ (e : ℕ × List ℕ). e.0 < length w.expressions) (name_put o x done)
  name_by k x None e done h = h
  name_by k x (Some i) e done h = put_named (λ (y : ℕ × List ℕ). y.0 < length w.expressions) i x done (λ j y l. l) (table_within k i e) h

  names_by : (xs done : List (ℕ × List ℕ)) → All (λ (e : ℕ × List ℕ). e.0 < length w.expressions) done → All (λ (e : ℕ × List ℕ). e.0 < length w.expressions) (names_under copies.table done xs)
  names_by [] done h = h
  names_by (e ∷ xs) done h = names_by xs (name_put (option_flatten (slice_get copies.table e.0)) e.1 done) (name_by e.0 e.1 (option_flatten (slice_get copies.table e.0)) refl done h)

  expression_names : All (λ (e : ℕ × List ℕ). e.0 < length w.expressions) w.named_expressions
  expression_names = subst (All (λ (e : ℕ × List ℕ). e.0 < length w.expressions)) (sym copies.named_expressions) (names_by v.named_expressions [] (All-nil (λ (e : ℕ × List ℕ). e.0 < length w.expressions)))

  -- ---- what expressions name

  locals_long : length w.local_variables ≡ length v.local_variables
  locals_long = ap length copies.locals ∙ length-map v.local_variables (local_under u)

  arguments_long : length w.arguments ≡ length v.arguments
  arguments_long = ap length copies.arguments ∙ length-map v.arguments (argument_under r)

  called : (g : ℕ) (j : ℕ) → slice_get v.body j ≡ Some (Callee g) → P (Call g)
  called g j e = All-head P (Call g) [] (all_at (λ (x : Token). All P (token_names (kinds_in v) (named_in v) (value_links v.expressions) x)) v.body j (Callee g) (flat_of P (token_names (kinds_in v) (named_in v) (value_links v.expressions)) v.body (of_body P v f.body a)) e)

  call_named : (k g : ℕ) (x : Parts × Span) → has (order_of v) k ≡ true → slice_get v.expressions k ≡ Some x → x.0.named ≡ FunctionAt g → P (Call g)
  call_named k g x h at e =
      let kind : is_result (kinds_in v) k ≡ true = ap result_kind (slice_get-map (λ (y : Parts × Span). y.0.kind) v.expressions k ∙ ap (option_map (λ (y : Parts × Span). y.0.kind)) at) ∙ all_at (λ (y : Parts × Span). NamesFunctionAsResult y.0) v.expressions k x f.callees at g e in
      let its : slice_get (map callee (named_in v)) k ≡ Some (Some g) = slice_get-map callee (named_in v) k ∙ ap (option_map callee) (slice_get-map (λ (y : Parts × Span). y.0.named) v.expressions k ∙ ap (option_map (λ (y : Parts × Span). y.0.named)) at) ∙ ap (λ y. Some (callee y)) e in
      ⊎_elim (λ none. absurd (none-some g (same_Some None (Some g) (sym none ∙ its)))) (λ y. let same : y.1 ≡ g = same_Some y.1 g (same_Some (Some y.1) (Some g) (sym y.3 ∙ its)) in let call = f.results y.0 y.1 k y.2 in subst (λ z. P (Call z)) same (called y.1 call.0 call.1)) (result_in_order v f.body k h kind)

  named_gone : (x : Named) → IsNamedThere m v x → All P (requested (named_place x)) → ((g : ℕ) → x ≡ FunctionAt g → P (Call g)) → IsNamedThere t w (rename_named r x)
  named_gone Nothing h b g = tt
  named_gone (TypeOf k) h b g = ty_there k (All-head P (Item (TypeItem k)) [] b)
  named_gone (ConstantAt k) h b g = constant_there k (All-head P (Item (ConstantItem k)) [] b)
  named_gone (OverrideAt k) h b g = override_there k (All-head P (Item (OverrideItem k)) [] b)
  named_gone (GlobalAt k) h b g = global_there k (All-head P (Item (GlobalItem k)) [] b)
  named_gone (LocalAt k) h b g = omega (arith, h, locals_long)
  named_gone (ArgumentAt k) h b g = omega (arith, h, arguments_long)
  named_gone (FunctionAt k) h b g = let l = function_there k (g k refl) in omega (arith, l, room)

  expression_gone : (h : ℕ) (e : Parts × Span) → slice_get w.expressions h ≡ Some e → IsNamedThere t w e.0.named
  expression_gone h e at =
      let x = source_at r v f.body h e at in
      let k = x.0 in
      let own = all_at (λ (y : Parts × Span). IsNamedThere m v y.0.named) v.expressions k x.1 f.expressions x.3 in
      let named : slice_get (named_in v) k ≡ Some x.1.0.named = slice_get-map (λ (y : Parts × Span). y.0.named) v.expressions k ∙ ap (option_map (λ (y : Parts × Span). y.0.named)) x.3 in
      let asked : All P (requested (named_place x.1.0.named)) = subst (λ o. All P (requested (item_of o))) named (order_asks P v f.body a k x.2) in
      subst (λ (p : Parts). IsNamedThere t w p.named) (sym x.4) (named_gone x.1.0.named own asked (λ g e. call_named k g x.1 x.2 x.3 e))

  callee_gone : (h : ℕ) (e : Parts × Span) → slice_get w.expressions h ≡ Some e → NamesFunctionAsResult e.0
  callee_gone h e at g is =
      let x = source_at r v f.body h e at in
      let n = named_function r x.1.0.named g (sym (ap (λ (p : Parts). p.named) x.4) ∙ is) in
      ap (λ (p : Parts). result_kind (Some p.kind)) x.4 ∙ all_at (λ (y : Parts × Span). NamesFunctionAsResult y.0) v.expressions x.0 x.1 f.callees x.3 n.0 n.1

  -- ---- the body

  token_gone : (x : Token) → IsTokenFine c 4294967295 x → All P (token_names (kinds_in v) (named_in v) (value_links v.expressions) x) → IsTokenFine n 4294967295 (rename_token u x)
  token_gone (Callee g) h b = function_there g (All-head P (Call g) [] b)
  token_gone (At s) h b = shifted_fine shift s h
  token_gone (Head x) h b = tt
  token_gone (Plain x) h b = tt
  token_gone (Flag x) h b = tt
  token_gone Absent h b = tt
  token_gone Open h b = tt
  token_gone Close h b = tt
  token_gone (Use x) h b = tt
  token_gone (Give x) h b = tt
  token_gone (GiveCall g x) h b = tt
  token_gone (Emitted x) h b = tt

  tokens_gone : All (IsTokenFine n 4294967295) w.body
  tokens_gone =
      let asked = flat_of P (token_names (kinds_in v) (named_in v) (value_links v.expressions)) v.body (of_body P v f.body a) in
      subst (All (IsTokenFine n 4294967295)) (sym copies.body) (All-map (IsTokenFine n 4294967295) (rename_token u) v.body (λ i x l. token_gone _ (f.statements i x l) (asked i x l)))

  results_gone : AreResultsOfCalls w.body
  results_gone i g h e =
      let x = mapped_at (rename_token u) v.body i (GiveCall g h) (ap (λ ts. slice_get ts i) (sym copies.body) ∙ e) in
      let y = renamed_give u x.0 g h x.2 in
      let j = f.results i y.0 y.1 (x.1 ∙ ap Some y.2) in
      (j.0, ap (λ ts. slice_get ts j.0) copies.body ∙ slice_get-map (rename_token u) v.body j.0 ∙ ap (option_map (rename_token u)) j.1 ∙ ap (λ z. Some (Callee z)) y.3)

  -- ---- spans

  span_gone : (h : ℕ) (e : Parts × Span) → slice_get w.expressions h ≡ Some e → IsSpanFine 4294967295 e.1
  span_gone h e at =
      let first = source_of r v.expressions w.expressions (begun v) (order_of v) copies.table copies.expressions (ready r v f.body) (within_order r v f.body) h (slice_get_within w.expressions h e at) in
      let k = first.source in
      let i = has_at (order_of v) first.index k first.at in
      let x = copy_at r v.expressions w.expressions (begun v) (order_of v) copies.table copies.expressions (ready r v f.body) (within_order r v f.body) k i in
      let here : slice_get w.expressions (place_under copies.table k) ≡ Some e = ap (slice_get w.expressions) first.goes ∙ at in
      let fresh : has (map (place_under copies.table) (take first.index (order_of v))) (place_under copies.table k) ≡ false = ap (has (map (place_under copies.table) (take first.index (order_of v)))) first.goes ∙ first.first in
      let is = copies.expressions.spans first.index k x.0 e first.at fresh x.1 here in
      subst (IsSpanFine 4294967295) (sym is) (shifted_fine shift x.0.1 (all_at (λ (y : Parts × Span). IsSpanFine 4294967295 y.1) v.expressions k x.0 f.expression_spans x.1))

  local_spans_gone : All (λ (x : LocalValue × Span). IsSpanFine 4294967295 x.1) w.local_variables
  local_spans_gone =
      subst (All (λ (x : LocalValue × Span). IsSpanFine 4294967295 x.1)) (sym copies.locals) (All-map (λ (x : LocalValue × Span). IsSpanFine 4294967295 x.1) (local_under u) v.local_variables (All-weaker (λ (x : LocalValue × Span). IsSpanFine 4294967295 x.1) (λ (x : LocalValue × Span). IsSpanFine 4294967295 (shifted shift x.1)) (λ x h. shifted_fine shift x.1 h) v.local_variables f.local_spans))

  -- the copy passes the test of form, if it calls the first n functions
  pub copy_formed : IsFunctionFormed t n 4294967295 w
  copy_formed = record {
    arguments = argument_types;
    result = result_type;
    locals = local_types;
    named_expressions = expression_names;
    expressions = from_at (λ (e : Parts × Span). IsNamedThere t w e.0.named) w.expressions expression_gone;
    statements = tokens_gone;
    callees = from_at (λ (e : Parts × Span). NamesFunctionAsResult e.0) w.expressions callee_gone;
    results = results_gone;
    body = copy_form r v f.body;
    local_spans = local_spans_gone;
    expression_spans = from_at (λ (e : Parts × Span). IsSpanFine 4294967295 e.1) w.expressions span_gone;
  }
