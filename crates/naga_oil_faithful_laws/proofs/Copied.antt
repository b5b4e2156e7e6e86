-- Functions of the small make, copied by hand.
use Rattle.std.proofs.Common.{◌≡◌, ◌⊎◌, ℕ, zero, suc, ◌<◌, true, false, List, [], ◌∷◌, ◌++◌, map, Option, Some, None, option_map, option_to_list, slice_get, IfSome, inl, refl, ap, sym, ◌∙◌, subst, arith}
use Rattle.std.proofs.lemmas.List.Elements.{All-nil, All-cons}
use Rattle.std.proofs.lemmas.Option.{none-some, same_Some}
use Rattle.naga_oil_form.specs.BodyForm.{places}
use Rattle.naga_oil_form.specs.Links.{has, trail}
use Rattle.naga_oil_ir.specs.ModuleValue.{FunctionValue, ArgumentValue}
use Rattle.naga_oil_ir.specs.Parts.{Parts, expr}
use Rattle.naga_oil_ir.specs.Rows.{Text}
use Rattle.naga_oil_ir.specs.Spans.{undefined}
use Rattle.naga_oil_ir.specs.declared.module.FunctionResult.{FunctionResult}
use Rattle.naga_oil_ir.specs.declared.names.ItemPlace.TheVariants.{TypeItem}
use Rattle.naga_oil_ir.specs.declared.parts.Named.{Named}
use Rattle.naga_oil_ir.specs.declared.span.Span.{Span}
use Rattle.naga_oil_ir.specs.declared.tokens.Token.{Token}
use Rattle.naga_oil_ir.specs.declared.tokens.Token.TheVariants.{At, Head, Absent, Use, Emitted, Callee}
use Rattle.naga_oil_form.proofs.LinkLemmas.{All-has}
use Rattle.naga_oil_rename.specs.Renames.{Renames, rename_named}
use Rattle.naga_oil_walk.specs.Walk.{others}
use Rattle.naga_oil_derive.specs.Copies.{place_under}
use Rattle.naga_oil_derive.specs.CopiedFunctionLaw.{EmitsAt}
use Rattle.naga_oil_derive.specs.Functions.{begun, argument_under, result_under}
use Rattle.naga_oil_derive.specs.World.{shifted}
use Rattle.naga_oil_copy_laws.specs.Scope.{Scope, ReadAlike, CalledAlike}
use Rattle.naga_oil_copy_laws.specs.ByTree.{IsReached, IsBegun, HasCopy, HasSpan, NamesAlike, types_in, callee_in, CopiesByTree}
use Rattle.naga_oil_faithful_laws.specs.SmallMake.{function, kill, with_number, span, call_with_first, right, base_copy}
use Rattle.naga_oil_faithful_laws.proofs.Comes.{own_base}

-- the places of the module's handles, and of the shader's, whose calls are mapped
abbrev pub module_goes : Renames
module_goes = record {
  ty = place_under (Some 0 ∷ Some 3 ∷ Some 1 ∷ Some 2 ∷ []);
  constant = λ k. k;
  pipeline_override = λ k. k;
  global = λ k. k;
  function = λ k. k;
  expression = place_under (None ∷ Some 0 ∷ Some 1 ∷ Some 2 ∷ []);
  range = λ r. (2, 3);
  span = shifted 2097152;
}

abbrev pub shader_goes : (ℕ → ℕ) → Renames
shader_goes calls = record {
  ty = λ k. k;
  constant = λ k. k;
  pipeline_override = λ k. k;
  global = λ k. k;
  function = calls;
  expression = λ k. k;
  range = λ r. r;
  span = shifted 0;
}

-- ---- a function that has no expressions

nothing_reached : {P : Type 0} → false ≡ true → P
nothing_reached e = absurd cc

module _ (r : Renames) (nowhere : r.span undefined ≡ undefined) (sends : Text → Text) (a b : Scope) (name : List ℕ) (before after : Option FunctionResult) (outcome : after ≡ option_map (result_under r) before) (types : (k : ℕ) → has (option_to_list (option_map (λ (o : FunctionResult). o.ty) before) ++ []) k ≡ true → ReadAlike a b (TypeItem k) (TypeItem (r.ty k))) where
  abbrev bare : Option FunctionResult → FunctionValue
  bare o = record (function name [] [] [] kill) { result = o }

  bare_copy : CopiesByTree r.span sends a (bare before) b (bare after)
  bare_copy = record {
    goes = r;
    name = refl;
    arguments = refl;
    outcome = outcome;
    locals = refl;
    body = ap (λ (s : Span). At s ∷ Head 7 ∷ []) (sym nowhere);
    spans = λ s. refl;
    expressions = record { copies = λ k w. nothing_reached w; spans = λ k w. nothing_reached w; onto = λ h w. nothing_reached w; shared = λ j k v w. nothing_reached v };
    emits = emits_at;
    names = record { order = refl; each = λ h n w i. nothing_reached w };
    alike = record { types = types; expressions = λ k e w. nothing_reached w; callees = callees_at };
    nothing_else = record { expressions = λ h l. absurd (omega (arith, l)); names = λ i e at. absurd (none-some e at); leaf = refl };
  }
    where
      emits_at : (i : ℕ) (p : ℕ × ℕ) → EmitsAt (bare before) i p → places (r.range p) ≡ map r.expression (others (begun (bare before)) (places p))
      emits_at zero p e = absurd cc
      emits_at (suc zero) p e = absurd cc
      emits_at (suc (suc i)) p e = absurd (none-some (Emitted p) e)

      callees_at : (i : ℕ) (t : Token) → slice_get kill i ≡ Some t → IfSome (callee_in t) (λ h. CalledAlike sends a b h (r.function h))
      callees_at zero t e = subst (λ t. IfSome (callee_in t) (λ h. CalledAlike sends a b h (r.function h))) (same_Some (At undefined) t e) tt
      callees_at (suc zero) t e = subst (λ t. IfSome (callee_in t) (λ h. CalledAlike sends a b h (r.function h))) (same_Some (Head 7) t e) tt
      callees_at (suc (suc i)) t e = absurd (none-some t e)

pub plain_copy : (r : Renames) → r.span undefined ≡ undefined → (sends : Text → Text) (a b : Scope) (name : List ℕ) → CopiesByTree r.span sends a (function name [] [] [] kill) b (function name [] [] [] kill)
plain_copy r nowhere sends a b name = bare_copy r nowhere sends a b name None None refl (λ k w. nothing_reached w)

-- with a number as its result
pub number_copy : (r : Renames) → r.span undefined ≡ undefined → r.ty 0 ≡ 0 → (sends : Text → Text) (a b : Scope) (name : List ℕ) → ReadAlike a b (TypeItem 0) (TypeItem 0) → CopiesByTree r.span sends a (with_number (function name [] [] [] kill)) b (with_number (function name [] [] [] kill))
number_copy r nowhere stays sends a b name alike =
    let P = λ (k : ℕ). ReadAlike a b (TypeItem k) (TypeItem (r.ty k)) in
    let number = λ (k : ℕ). (let o : Option FunctionResult = Some (record { ty = k; binding = None }) in o) in
    bare_copy r nowhere sends a b name (number 0) (number 0) (ap number (sym stays)) (λ k w. All-has P (0 ∷ []) k (All-cons P 0 [] (subst (λ k. ReadAlike a b (TypeItem 0) (TypeItem k)) (sym stays) alike) (All-nil P)) w)

-- ---- a call with the only expression

module _ (calls : ℕ → ℕ) (sends : Text → Text) (a b : Scope) (name : List ℕ) (arguments : List ArgumentValue) (kind : ℕ) (named : Named) (c : ℕ) where
  abbrev source : FunctionValue
  source = function name arguments [] ((expr kind [] named [], undefined) ∷ []) (call_with_first c)

  abbrev copy : FunctionValue
  copy = function name arguments [] ((expr kind [] (rename_named (shader_goes calls) named) [], undefined) ∷ []) (call_with_first (calls c))

  only_first : (P : ℕ → Type 0) → P 0 → (k : ℕ) → IsReached source k → P k
  unfolding trail
  only_first P p k w = All-has P (0 ∷ []) k (All-cons P 0 [] p (All-nil P)) w

  only_copy : (P : ℕ → Type 0) → P 0 → (k : ℕ) → IsReached copy k → P k
  unfolding trail
  only_copy P p k w = All-has P (0 ∷ []) k (All-cons P 0 [] p (All-nil P)) w

  first_reached : IsReached source 0
  unfolding trail
  first_reached = refl

  one_span : (x y : Parts × Span) → slice_get source.expressions 0 ≡ Some x → slice_get copy.expressions 0 ≡ Some y → y.1 ≡ shifted 0 x.1
  one_span x y i j = ap (λ (z : Parts × Span). z.1) (sym (same_Some _ y j)) ∙ ap (λ (z : Parts × Span). shifted 0 z.1) (same_Some _ x i)

  call_emits : (i : ℕ) (p : ℕ × ℕ) → EmitsAt source i p → places p ≡ map (λ k. k) (others (begun source) (places p))
  call_emits zero p e = absurd cc
  call_emits (suc zero) p e = absurd cc
  call_emits (suc (suc zero)) p e = absurd cc
  call_emits (suc (suc (suc zero))) p e = absurd cc
  call_emits (suc (suc (suc (suc zero)))) p e = absurd cc
  call_emits (suc (suc (suc (suc (suc i))))) p e = absurd (none-some (Emitted p) e)

  abbrev CallAlike : Token → Type 0
  CallAlike t = IfSome (callee_in t) (λ h. CalledAlike sends a b h (calls h))

  call_callees : CalledAlike sends a b c (calls c) → (i : ℕ) (t : Token) → slice_get source.body i ≡ Some t → CallAlike t
  call_callees h zero t e = subst CallAlike (same_Some (At undefined) t e) tt
  call_callees h (suc zero) t e = subst CallAlike (same_Some (Head 16) t e) tt
  call_callees h (suc (suc zero)) t e = subst CallAlike (same_Some (Callee c) t e) h
  call_callees h (suc (suc (suc zero))) t e = subst CallAlike (same_Some (Use 0) t e) tt
  call_callees h (suc (suc (suc (suc zero)))) t e = subst CallAlike (same_Some Absent t e) tt
  call_callees h (suc (suc (suc (suc (suc i))))) t e = absurd (none-some t e)

  call_all : (h : ℕ) → h < 1 → IsReached copy h
  unfolding trail
  call_all zero l = refl
  call_all (suc h) l = absurd (omega (arith, l))

  pub call_copy : arguments ≡ map (argument_under (shader_goes calls)) arguments →
      ((k : ℕ) → has (types_in source) k ≡ true → ReadAlike a b (TypeItem k) (TypeItem k)) →
      NamesAlike sends a b (shader_goes calls) named → CalledAlike sends a b c (calls c) →
      CopiesByTree (shifted 0) sends a source b copy
  call_copy same types names called = record {
    goes = shader_goes calls;
    name = refl;
    arguments = same;
    outcome = refl;
    locals = refl;
    body = refl;
    spans = λ s. refl;
    expressions = record {
      copies = only_first (HasCopy (shader_goes calls) source copy) (record { source = _; copy = _; at_source = refl; at_copy = refl; reads = refl });
      spans = only_first (HasSpan (shifted 0) (shader_goes calls) source copy) (record { first = 0; reached = first_reached; same = refl; spans = one_span });
      onto = only_copy (λ h. (k : ℕ) × IsReached source k × (k ≡ h)) (0, first_reached, refl);
      shared = λ j k v w e. inl e;
    };
    emits = call_emits;
    names = record { order = refl; each = λ h n w i. absurd (none-some (h, n) i.1) };
    alike = record {
      types = types;
      expressions = λ k e w i. only_first (λ k. (e : Parts × Span) → slice_get source.expressions k ≡ Some e → NamesAlike sends a b (shader_goes calls) e.0.named) (λ e i. subst (λ (e : Parts × Span). NamesAlike sends a b (shader_goes calls) e.0.named) (same_Some _ e i) names) k w e i;
      callees = call_callees called;
    };
    nothing_else = record { expressions = call_all; names = λ i e at. absurd (none-some e at); leaf = refl };
  }

-- ---- the function of the module

abbrev base_copied : FunctionValue
base_copied = base_copy right

base_each : (P : ℕ → Type 0) → P 1 → P 2 → P 3 → (k : ℕ) → IsReached own_base k → P k
unfolding trail
base_each P a b c k w = All-has P (1 ∷ 2 ∷ 3 ∷ []) k (All-cons P 1 (2 ∷ 3 ∷ []) a (All-cons P 2 (3 ∷ []) b (All-cons P 3 [] c (All-nil P)))) w

copy_each : (P : ℕ → Type 0) → P 0 → P 1 → P 2 → (k : ℕ) → IsReached base_copied k → P k
unfolding trail
copy_each P a b c k w = All-has P (0 ∷ 1 ∷ 2 ∷ []) k (All-cons P 0 (1 ∷ 2 ∷ []) a (All-cons P 1 (2 ∷ []) b (All-cons P 2 [] c (All-nil P)))) w

base_copies : (k : ℕ) → IsReached own_base k → HasCopy module_goes own_base base_copied k
base_copies = base_each (HasCopy module_goes own_base base_copied)
    (record { source = _; copy = _; at_source = refl; at_copy = refl; reads = refl })
    (record { source = _; copy = _; at_source = refl; at_copy = refl; reads = refl })
    (record { source = _; copy = _; at_source = refl; at_copy = refl; reads = refl })

base_span : (k : ℕ) (x y : Parts × Span) (a b : Parts × Span) → slice_get own_base.expressions k ≡ Some a → b.1 ≡ shifted 2097152 a.1 → slice_get own_base.expressions k ≡ Some x → Some b ≡ Some y → y.1 ≡ shifted 2097152 x.1
base_span k x y a b at e i j = ap (λ (z : Parts × Span). z.1) (sym (same_Some b y j)) ∙ e ∙ ap (λ (z : Parts × Span). shifted 2097152 z.1) (same_Some a x (sym at ∙ i))

base_spans : (k : ℕ) → IsReached own_base k → HasSpan (shifted 2097152) module_goes own_base base_copied k
unfolding trail
base_spans = base_each (HasSpan (shifted 2097152) module_goes own_base base_copied)
    (record { first = 1; reached = refl; same = refl; spans = λ x y i j. base_span 1 x y _ _ refl refl i j })
    (record { first = 2; reached = refl; same = refl; spans = λ x y i j. base_span 2 x y _ _ refl refl i j })
    (record { first = 3; reached = refl; same = refl; spans = λ x y i j. base_span 3 x y _ _ refl refl i j })

base_onto : (h : ℕ) → IsReached base_copied h → (k : ℕ) × IsReached own_base k × (module_goes.expression k ≡ h)
unfolding trail
base_onto = copy_each (λ h. (k : ℕ) × IsReached own_base k × (module_goes.expression k ≡ h)) (1, refl, refl) (2, refl, refl) (3, refl, refl)

abbrev Shares : ℕ → ℕ → Type 0
Shares j k = module_goes.expression j ≡ module_goes.expression k → (j ≡ k) ⊎ (IsBegun own_base j × IsBegun own_base k)

base_shared : (j k : ℕ) → IsReached own_base j → IsReached own_base k → Shares j k
base_shared j k v w =
    base_each (λ j. (k : ℕ) → IsReached own_base k → Shares j k)
    (base_each (Shares 1) (λ e. inl refl) (λ e. absurd (omega (arith, e))) (λ e. absurd (omega (arith, e))))
    (base_each (Shares 2) (λ e. absurd (omega (arith, e))) (λ e. inl refl) (λ e. absurd (omega (arith, e))))
    (base_each (Shares 3) (λ e. absurd (omega (arith, e))) (λ e. absurd (omega (arith, e))) (λ e. inl refl))
    j v k w

base_emits : (i : ℕ) (p : ℕ × ℕ) → EmitsAt own_base i p → places (module_goes.range p) ≡ map module_goes.expression (others (begun own_base) (places p))
unfolding trail
base_emits (suc (suc (suc (suc (suc (suc zero)))))) p e =
    let a : 3 ≡ p.0 = cc in
    let b : 4 ≡ p.1 = cc in
    let pair : ℕ → ℕ → ℕ × ℕ = λ x y. (x, y) in
    subst (λ (q : ℕ × ℕ). places (module_goes.range q) ≡ map module_goes.expression (others (begun own_base) (places q))) (ap (λ x. pair x 4) a ∙ ap (pair p.0) b) refl
base_emits zero p e = absurd cc
base_emits (suc zero) p e = absurd cc
base_emits (suc (suc zero)) p e = absurd cc
base_emits (suc (suc (suc zero))) p e = absurd cc
base_emits (suc (suc (suc (suc zero)))) p e = absurd cc
base_emits (suc (suc (suc (suc (suc zero))))) p e = absurd cc
base_emits (suc (suc (suc (suc (suc (suc (suc i))))))) p e = absurd (none-some (Emitted p) e)

base_all : (h : ℕ) → h < 3 → IsReached base_copied h
unfolding trail
base_all zero l = refl
base_all (suc zero) l = refl
base_all (suc (suc zero)) l = refl
base_all (suc (suc (suc h))) l = absurd (omega (arith, l))

module _ (sends : Text → Text) (a b : Scope) (ray : ReadAlike a b (TypeItem 2) (TypeItem 1)) (own : ReadAlike a b (TypeItem 1) (TypeItem 3)) (called : CalledAlike sends a b 0 0) where
  base_types : (k : ℕ) → has (2 ∷ 1 ∷ []) k ≡ true → ReadAlike a b (TypeItem k) (TypeItem (module_goes.ty k))
  base_types k w =
      let P = λ (k : ℕ). ReadAlike a b (TypeItem k) (TypeItem (module_goes.ty k)) in
      All-has P (2 ∷ 1 ∷ []) k (All-cons P 2 (1 ∷ []) ray (All-cons P 1 [] own (All-nil P))) w

  abbrev Alike : Parts × Span → Type 0
  Alike e = NamesAlike sends a b module_goes e.0.named

  alike_one : (k : ℕ) (e x : Parts × Span) → slice_get own_base.expressions k ≡ Some x → Alike x → slice_get own_base.expressions k ≡ Some e → Alike e
  alike_one k e x at w i = subst Alike (same_Some x e (sym at ∙ i)) w

  base_names : (k : ℕ) → IsReached own_base k → (e : Parts × Span) → slice_get own_base.expressions k ≡ Some e → Alike e
  base_names = base_each (λ k. (e : Parts × Span) → slice_get own_base.expressions k ≡ Some e → Alike e)
      (λ e i. alike_one 1 e _ refl (own, tt) i)
      (λ e i. alike_one 2 e _ refl (tt, tt) i)
      (λ e i. alike_one 3 e _ refl (tt, tt) i)

  abbrev Called : Token → Type 0
  Called t = IfSome (callee_in t) (λ h. CalledAlike sends a b h h)

  base_callees : (i : ℕ) (t : Token) → slice_get own_base.body i ≡ Some t → Called t
  base_callees zero t e = subst Called (same_Some (At (span 1 3)) t e) tt
  base_callees (suc zero) t e = subst Called (same_Some (Head 16) t e) tt
  base_callees (suc (suc zero)) t e = subst Called (same_Some (Callee 0) t e) called
  base_callees (suc (suc (suc zero))) t e = subst Called (same_Some Absent t e) tt
  base_callees (suc (suc (suc (suc zero)))) t e = subst Called (same_Some (At (span 4 8)) t e) tt
  base_callees (suc (suc (suc (suc (suc zero))))) t e = subst Called (same_Some (Head 0) t e) tt
  base_callees (suc (suc (suc (suc (suc (suc zero)))))) t e = subst Called (same_Some (Emitted (3, 4)) t e) tt
  base_callees (suc (suc (suc (suc (suc (suc (suc i))))))) t e = absurd (none-some t e)

  pub base_is_copied : CopiesByTree (shifted 2097152) sends a own_base b base_copied
  unfolding trail
  base_is_copied = record {
    goes = module_goes;
    name = refl;
    arguments = refl;
    outcome = refl;
    locals = refl;
    body = refl;
    spans = λ s. refl;
    expressions = record { copies = base_copies; spans = base_spans; onto = base_onto; shared = base_shared };
    emits = base_emits;
    names = record { order = refl; each = λ h n w i. absurd (none-some (h, n) i.1) };
    alike = record { types = base_types; expressions = λ k e w i. base_names k w e i; callees = base_callees };
    nothing_else = record { expressions = base_all; names = λ i e at. absurd (none-some e at); leaf = refl };
  }
