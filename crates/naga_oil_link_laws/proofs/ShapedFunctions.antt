-- The functions and entry points of plain data with the shape of a module are formed, if the data passes the test of form.
use Rattle.std.proofs.Common.{◌≡◌, ℕ, ◌<◌, ◌≤◌, Bool, true, false, not, List, [], ◌∷◌, ◌++◌, length, map, slice_get, unwrap_or, Option, Some, None, IsSome, is_some, option_map, option_to_list, All, Decides, nat_eq, nat_lt, codes, refl, ap, sym, ◌∙◌, subst}
use Rattle.std.specs.Cmp.Lexicographic.{pointwise}
use Rattle.std.specs.List.{flat_map, list_all, enumerate_from, IsDistinct}
use Rattle.std.specs.Option.{option_eq}
use Rattle.std.proofs.lemmas.List.{map-id}
use Rattle.std.proofs.lemmas.List.Elements.{All-weaker}
use Rattle.std.proofs.lemmas.Option.{same_Some, slice_get-map}
use Rattle.std.proofs.lemmas.Bool.{false≢true}
use Rattle.std.proofs.lemmas.Simd.{map-map}
use Rattle.naga_oil_words.specs.Marks.{with_decoration}
use Rattle.naga_oil_ir.specs.Body.{Tokens}
use Rattle.naga_oil_form.specs.BodyForm.{callee, is_external, is_result, places, is_known, made, AreEmitted, MayBeGiven, IsFine, AreFine, IsSpanFine, IsTokenFine, MayStand}
use Rattle.naga_oil_form.specs.Links.{Links, linked, has, started}
use Rattle.naga_oil_ir.specs.ModuleValue.{ModuleValue, FunctionValue, EntryValue}
use Rattle.naga_oil_ir.specs.Parts.{Parts}
use Rattle.naga_oil_ir.specs.Rows.{Text}
use Rattle.naga_oil_ir.specs.declared.module.MeshInfo.{MeshInfo}
use Rattle.naga_oil_ir.specs.declared.parts.Named.{Named}
use Rattle.naga_oil_ir.specs.declared.parts.Named.TheVariants.{Nothing, TypeOf, ConstantAt, OverrideAt, GlobalAt, LocalAt, ArgumentAt, FunctionAt}
use Rattle.naga_oil_ir.specs.declared.span.Span.{Span}
use Rattle.naga_oil_ir.specs.declared.tokens.Token.{Token}
use Rattle.naga_oil_ir.specs.declared.tokens.Token.TheVariants.{At, Head, Plain, Flag, Absent, Use, Give, GiveCall, Emitted, Callee, Open, Close}
use Rattle.naga_oil_derive.specs.CopiedFunctionLaw.{MayBeCopied}
use Rattle.naga_oil_form_laws.specs.EntryForm.{IsExpressionIn, IsMeshFormed, IsEntryFormed, entry_name, AreEntriesFormed}
use Rattle.naga_oil_form_laws.specs.FunctionForm.{IsNamedThere, IsFunctionFormed, AreFunctionsFormed}
use Rattle.naga_oil_form_laws.specs.OwnedForm.{KeepsNames}
use Rattle.naga_oil_form_laws.proofs.ParsedFunctions.{one_place}
use Rattle.naga_oil_form_laws.proofs.ParsedItems.{fine_more}
use Rattle.naga_oil_form_laws.proofs.RequestLemmas.{all_at, from_at}
use Rattle.naga_oil_form_laws.specs.Shape.{HasFunctionShape}
use Rattle.naga_oil_form.specs.Form.{are_function_names_formed, is_expression_there, is_mesh_formed, is_entry_formed}
use Rattle.naga_oil_form.specs.FormParts.{kinds_of, callees_of, operands_of, are_emitted, may_be_given, is_fine, are_fine, is_span_fine, is_token_fine, may_stand, is_named_there, is_signature_formed, is_function_formed}
use Rattle.naga_oil_form.proofs.DecisionLemmas.{both, like, always, itself, fails, at_most, less, each_itself, in_order, earlier, if_there, number, option, distinct}
use Rattle.naga_oil_form.proofs.FormPartsLemmas.{span_fine}

-- ---- bodies

emitted : (ks : List ℕ) (ls : Links) (s done es : List ℕ) → Decides (are_emitted ks ls s done es) (AreEmitted ks ls s done es)
emitted ks ls s done [] = always
emitted ks ls s done (k ∷ es) =
    like _ (λ h. ((h.0.0.0.0, h.0.0.0.1, h.0.0.1, h.0.1), h.1)) (λ h. ((((h.0.0, h.0.1), h.0.2), h.0.3), h.1))
    (both _ _ (both _ _ (both _ _ (both _ _ (fails (is_external ks k)) (fails (is_result ks k))) (fails (has done k))) (each_itself (is_known ks s done) (λ h. is_known ks s done h ≡ true) (λ h. itself (is_known ks s done h)) (linked ls k))) (emitted ks ls s (done ++ k ∷ []) es))

given_once : (n : ℕ) (ks : List ℕ) (fs : List (Option ℕ)) (done : List ℕ) (o : Option ℕ) (h : ℕ) → Decides (may_be_given n ks fs done o h) (MayBeGiven n ks fs done o h)
given_once n ks fs done o h =
    like _ (λ t. (t.0.0.0, t.0.0.1, t.0.1, t.1)) (λ t. (((t.0, t.1), t.2), t.3))
    (both _ _ (both _ _ (both _ _ (less h n) (itself (is_result ks h))) (option (option_eq nat_eq) (option nat_eq number) (slice_get fs h) (Some o))) (fails (has done h)))

fine : (n : ℕ) (ks : List ℕ) (fs : List (Option ℕ)) (ls : Links) (s done : List ℕ) (t : Token) → Decides (is_fine n ks fs ls s done t) (IsFine n ks fs ls s done t)
fine n ks fs ls s done (Use h) = both _ _ (less h n) (itself (is_known ks s done h))
fine n ks fs ls s done (Give h) = given_once n ks fs done None h
fine n ks fs ls s done (GiveCall f h) = given_once n ks fs done (Some f) h
fine n ks fs ls s done (Emitted r) = like _ (λ t. (t.0.0, t.0.1, t.1)) (λ t. ((t.0, t.1), t.2)) (both _ _ (both _ _ (at_most r.0 r.1) (at_most r.1 n)) (emitted ks ls s done (places r)))
fine n ks fs ls s done (At x) = always
fine n ks fs ls s done (Head x) = always
fine n ks fs ls s done (Plain x) = always
fine n ks fs ls s done (Flag x) = always
fine n ks fs ls s done Absent = always
fine n ks fs ls s done (Callee x) = always
fine n ks fs ls s done Open = always
fine n ks fs ls s done Close = always

all_fine : (n : ℕ) (ks : List ℕ) (fs : List (Option ℕ)) (ls : Links) (s done : List ℕ) (ts : Tokens) → Decides (are_fine n ks fs ls s done ts) (AreFine n ks fs ls s done ts)
all_fine n ks fs ls s done [] = always
all_fine n ks fs ls s done (t ∷ ts) = both _ _ (fine n ks fs ls s done t) (all_fine n ks fs ls s (done ++ made t) ts)

stands : (ks : List ℕ) (fs : List (Option ℕ)) (ls : Links) (is : List ℕ) (ts : Tokens) → Decides (may_stand ks fs ls is ts) (MayStand ks fs ls is ts)
stands ks fs ls is ts =
    like _ (λ h. record { earlier = h.0.0.0; there = h.0.0.1; no_results = h.0.1; body = h.1 }) (λ r. (((r.earlier, r.there), r.no_results), r.body))
    (both _ _ (both _ _ (both _ _ (earlier ls) (each_itself (λ h. nat_lt h (length ls)) (λ h. h < length ls) (λ h. less h (length ls)) is)) (each_itself (λ h. not (is_result ks h)) (λ h. is_result ks h ≡ false) (λ h. fails (is_result ks h)) (started ls is))) (all_fine (length ls) ks fs ls (started ls is) [] ts))

-- a part of a body, if a span may name what a larger text holds
token_in_all : (c n : ℕ) → n ≤ 4294967295 → (t : Token) → is_token_fine c n t ≡ true → IsTokenFine c 4294967295 t
token_in_all c n l (Callee f) h = (less f c).0 h
token_in_all c n l (At s) h = fine_more n 4294967295 s l ((span_fine n s).0 h)
token_in_all c n l (Use x) h = tt
token_in_all c n l (Give x) h = tt
token_in_all c n l (GiveCall f x) h = tt
token_in_all c n l (Emitted r) h = tt
token_in_all c n l (Head x) h = tt
token_in_all c n l (Plain x) h = tt
token_in_all c n l (Flag x) h = tt
token_in_all c n l Absent h = tt
token_in_all c n l Open h = tt
token_in_all c n l Close h = tt

-- ---- functions

-- each element that passes a test has what the test says
pub each_of : {A : Type 0} (p : A → Bool) (P : A → Type 0) → ((x : A) → p x ≡ true → P x) → (xs : List A) → list_all p xs ≡ true → All P xs
each_of p P f xs h = All-weaker (λ x. p x ≡ true) P f xs ((each_itself p (λ x. p x ≡ true) (λ x. itself (p x)) xs).0 h)

module _ (m : ModuleValue) (n : ℕ) (l : n ≤ 4294967295) where
  named_there : (f : FunctionValue) (x : Named) → is_named_there m f x ≡ true → IsNamedThere m f x
  named_there f Nothing h = tt
  named_there f (TypeOf k) h = (less k (length m.types)).0 h
  named_there f (ConstantAt k) h = (less k (length m.constants)).0 h
  named_there f (OverrideAt k) h = (less k (length m.overrides)).0 h
  named_there f (GlobalAt k) h = (less k (length m.global_variables)).0 h
  named_there f (LocalAt k) h = (less k (length f.local_variables)).0 h
  named_there f (ArgumentAt k) h = (less k (length f.arguments)).0 h
  named_there f (FunctionAt k) h = (less k (length m.functions)).0 h

  span_in_all : (s : Span) → is_span_fine n s ≡ true → IsSpanFine 4294967295 s
  span_in_all s h = fine_more n 4294967295 s l ((span_fine n s).0 h)

  may_be_copied : (f : FunctionValue) → HasFunctionShape f → may_stand (kinds_of f.expressions) (callees_of f.expressions) (operands_of f.expressions) (flat_map (λ x. option_to_list x.0.init) f.local_variables) f.body ≡ true → MayBeCopied f
  may_be_copied f s h =
      let ks = kinds_of f.expressions in
      let is = flat_map (λ x. option_to_list x.0.init) f.local_variables in
      let stand = (stands ks (callees_of f.expressions) (operands_of f.expressions) is f.body).0 h in
      let named : callees_of f.expressions ≡ map callee (map (λ (e : Parts × Span). e.0.named) f.expressions) = sym (map-map callee (λ (e : Parts × Span). e.0.named) f.expressions) in
      record { form = subst (λ fs. MayStand ks fs (operands_of f.expressions) is f.body) named stand; alone = s.alone }

  pub function_formed : (c : ℕ) (f : FunctionValue) → HasFunctionShape f → is_function_formed m c n f ≡ true → IsFunctionFormed m c 4294967295 f
  function_formed c f s h =
      let parts = (both _ _ (both _ _ (both _ _ (both _ _ (both _ _ (itself (is_signature_formed m f)) (itself (list_all (λ e. is_named_there m f e.0.named) f.expressions))) (itself (list_all (is_token_fine c n) f.body))) (itself (may_stand (kinds_of f.expressions) (callees_of f.expressions) (operands_of f.expressions) (flat_map (λ x. option_to_list x.0.init) f.local_variables) f.body))) (itself (list_all (λ e. is_span_fine n e.1) f.local_variables))) (itself (list_all (λ e. is_span_fine n e.1) f.expressions))).0 h in
      let signature = (both _ _ (both _ _ (both _ _ (each_itself _ (λ a. a.ty < length m.types) (λ a. less a.ty (length m.types)) f.arguments) (if_there _ (λ r. r.ty < length m.types) (λ r. less r.ty (length m.types)) f.result)) (each_itself _ (λ x. x.0.ty < length m.types) (λ x. less x.0.ty (length m.types)) f.local_variables)) (each_itself _ (λ e. e.0 < length f.expressions) (λ e. less e.0 (length f.expressions)) f.named_expressions)).0 parts.0.0.0.0.0 in
      record {
        arguments = signature.0.0.0;
        result = signature.0.0.1;
        locals = signature.0.1;
        named_expressions = signature.1;
        expressions = each_of (λ e. is_named_there m f e.0.named) (λ e. IsNamedThere m f e.0.named) (λ e i. named_there f e.0.named i) f.expressions parts.0.0.0.0.1;
        statements = each_of (is_token_fine c n) (IsTokenFine c 4294967295) (token_in_all c n l) f.body parts.0.0.0.1;
        callees = s.callees;
        results = s.results;
        body = may_be_copied f s parts.0.0.1;
        local_spans = each_of (λ e. is_span_fine n e.1) (λ e. IsSpanFine 4294967295 e.1) (λ e i. span_in_all e.1 i) f.local_variables parts.0.1;
        expression_spans = each_of (λ e. is_span_fine n e.1) (λ e. IsSpanFine 4294967295 e.1) (λ e i. span_in_all e.1 i) f.expressions parts.1;
      }

  -- ---- names

  module _ (d : List ℕ) (names : are_function_names_formed m d ≡ true) where
    abbrev decorated : FunctionValue × Span → List ℕ
    decorated e = with_decoration d (unwrap_or e.0.name [])

    abbrev decorated_entry : EntryValue → List ℕ
    decorated_entry e = with_decoration d (unwrap_or e.function.name (codes "main"))

    told : (All (λ (e : FunctionValue × Span). is_some e.0.name ≡ true) m.functions × IsDistinct (pointwise nat_eq) (map decorated m.functions)) × IsDistinct (pointwise nat_eq) (map decorated_entry m.entry_points)
    told = (both _ _ (both _ _ (each_itself (λ (e : FunctionValue × Span). is_some e.0.name) (λ e. is_some e.0.name ≡ true) (λ e. itself (is_some e.0.name)) m.functions) (distinct (pointwise nat_eq) (map decorated m.functions))) (distinct (pointwise nat_eq) (map decorated_entry m.entry_points))).0 names

    pub function_named : (k : ℕ) (e : FunctionValue × Span) → slice_get m.functions k ≡ Some e → IsSome e.0.name
    function_named k e at = all_at (λ (x : FunctionValue × Span). is_some x.0.name ≡ true) m.functions k e told.0.0 at

    one_function : (j k : ℕ) (e f : FunctionValue × Span) → slice_get m.functions j ≡ Some e → slice_get m.functions k ≡ Some f → decorated e ≡ decorated f → j ≡ k
    one_function j k e f a b same = one_place (map decorated m.functions) told.0.1 j k (decorated e) (decorated f) (slice_get-map decorated m.functions j ∙ ap (option_map decorated) a) (slice_get-map decorated m.functions k ∙ ap (option_map decorated) b) same

    pub functions_formed : All (λ (e : FunctionValue × Span). HasFunctionShape e.0) m.functions → list_all (λ e. is_span_fine n e.1) m.functions ≡ true → list_all (λ (e : ℕ × (FunctionValue × Span)). is_function_formed m e.0 n e.1.0) (enumerate_from 0 m.functions) ≡ true → AreFunctionsFormed m 4294967295
    functions_formed shapes spans forms = record {
      named = function_named;
      distinct = λ j k e f a b same. one_function j k e f a b (ap (λ (t : Text). with_decoration d (unwrap_or t [])) same);
      forms = λ k e at. function_formed k e.0 (all_at (λ (x : FunctionValue × Span). HasFunctionShape x.0) m.functions k e shapes at) (in_place k e at);
      spans = λ k e at. span_in_all e.1 (all_at (λ (x : FunctionValue × Span). is_span_fine n x.1 ≡ true) m.functions k e ((each_itself (λ (x : FunctionValue × Span). is_span_fine n x.1) (λ x. is_span_fine n x.1 ≡ true) (λ x. itself (is_span_fine n x.1)) m.functions).0 spans) at);
    }
      where
        in_place : (k : ℕ) (e : FunctionValue × Span) → slice_get m.functions k ≡ Some e → is_function_formed m k n e.0 ≡ true
        in_place =
            let same : enumerate_from 0 (map (λ (x : FunctionValue × Span). x) m.functions) ≡ enumerate_from 0 m.functions = ap (enumerate_from 0) (map-id m.functions) in
            (in_order (λ (x : FunctionValue × Span). x) (λ (e : ℕ × (FunctionValue × Span)). is_function_formed m e.0 n e.1.0) (λ k (x : FunctionValue × Span). is_function_formed m k n x.0 ≡ true) (λ k x. itself (is_function_formed m k n x.0)) m.functions).0 (ap (list_all (λ (e : ℕ × (FunctionValue × Span)). is_function_formed m e.0 n e.1.0)) same ∙ forms)

    pub keeps_names : KeepsNames (option_map (with_decoration d)) m
    keeps_names = record {
      named = decorated_named;
      distinct = λ j k e f a b same. one_function j k e f a b (mapped_same e.0.name f.0.name (function_named j e a) (function_named k f b) same);
    }
      where
        decorated_named : (o : Text) → IsSome o → IsSome (option_map (with_decoration d) o)
        decorated_named None h = h
        decorated_named (Some x) h = refl

        mapped_same : (a b : Text) → IsSome a → IsSome b → option_map (with_decoration d) a ≡ option_map (with_decoration d) b → with_decoration d (unwrap_or a []) ≡ with_decoration d (unwrap_or b [])
        mapped_same None b h i e = absurd (false≢true h)
        mapped_same (Some x) None h i e = absurd (false≢true i)
        mapped_same (Some x) (Some y) h i e = same_Some (with_decoration d x) (with_decoration d y) e

    -- ---- entry points

    one_entry : (j k : ℕ) (x y : EntryValue) → slice_get m.entry_points j ≡ Some x → slice_get m.entry_points k ≡ Some y → entry_name x ≡ entry_name y → j ≡ k
    one_entry j k x y a b same = one_place (map decorated_entry m.entry_points) told.1 j k (decorated_entry x) (decorated_entry y) (slice_get-map decorated_entry m.entry_points j ∙ ap (option_map decorated_entry) a) (slice_get-map decorated_entry m.entry_points k ∙ ap (option_map decorated_entry) b) (ap (with_decoration d) same)

    expression_in : (o : Option ℕ) → Decides (is_expression_there m o) (IsExpressionIn m o)
    expression_in o = if_there (λ k. nat_lt k (length m.global_expressions)) (λ k. k < length m.global_expressions) (λ k. less k (length m.global_expressions)) o

    mesh_formed : (i : MeshInfo) → Decides (is_mesh_formed m i) (IsMeshFormed m i)
    mesh_formed i =
        like _ (λ h. record { vertex = h.0.0.0.0; primitive = h.0.0.0.1; output = h.0.0.1; max_vertices = h.0.1; max_primitives = h.1 }) (λ r. ((((r.vertex, r.primitive), r.output), r.max_vertices), r.max_primitives))
        (both _ _ (both _ _ (both _ _ (both _ _ (less i.vertex_output_type (length m.types)) (less i.primitive_output_type (length m.types))) (less i.output (length m.global_variables))) (expression_in i.max_vertices)) (expression_in i.max_primitives))

    entry_formed : (e : EntryValue) → HasFunctionShape e.function → is_entry_formed m n e ≡ true → IsEntryFormed m 4294967295 e
    entry_formed e s h =
        let parts = (both _ _ (both _ _ (both _ _ (itself (is_function_formed m (length m.functions) n e.function)) (if_there (list_all (is_expression_there m)) (λ os. All (IsExpressionIn m) os) (λ os. each_itself (is_expression_there m) (IsExpressionIn m) expression_in os) e.workgroup_size_overrides)) (if_there (is_mesh_formed m) (IsMeshFormed m) mesh_formed e.mesh_info)) (if_there (λ k. nat_lt k (length m.global_variables)) (λ k. k < length m.global_variables) (λ k. less k (length m.global_variables)) e.task_payload)).0 h in
        record {
          function = function_formed (length m.functions) e.function s parts.0.0.0;
          workgroup_size = parts.0.0.1;
          mesh_info = parts.0.1;
          task_payload = parts.1;
        }

    pub entries_formed : All (λ (e : EntryValue). HasFunctionShape e.function) m.entry_points → list_all (is_entry_formed m n) m.entry_points ≡ true → AreEntriesFormed m 4294967295
    entries_formed shapes forms = record {
      forms = from_at (IsEntryFormed m 4294967295) m.entry_points (λ k e at. entry_formed e (all_at (λ (x : EntryValue). HasFunctionShape x.function) m.entry_points k e shapes at) (all_at (λ x. is_entry_formed m n x ≡ true) m.entry_points k e ((each_itself (is_entry_formed m n) (λ x. is_entry_formed m n x ≡ true) (λ x. itself (is_entry_formed m n x)) m.entry_points).0 forms) at));
      distinct = one_entry;
    }
