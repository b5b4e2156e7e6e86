-- Copies of copies.
use Rattle.std.proofs.Common.{◌≡◌, ⊎_elim, ℕ, ◌==◌, Bool, true, false, not, List, [], ◌∷◌, ◌++◌, map, Option, Some, None, option_map, option_to_list, slice_get, IfSome, inl, inr, refl, ap, sym, ◌∙◌, subst}
use Rattle.std.proofs.lemmas.Bool.{cases_Bool, false≢true, or_left, or_right}
use Rattle.std.proofs.lemmas.List.{map-append}
use Rattle.std.proofs.lemmas.Option.{same_Some, slice_get-map, slice_get_within}
use Rattle.naga_oil_form.specs.BodyForm.{places}
use Rattle.naga_oil_form.specs.Links.{has}
use Rattle.naga_oil_ir.specs.ModuleValue.{FunctionValue, ArgumentValue, LocalValue}
use Rattle.naga_oil_ir.specs.Parts.{Parts}
use Rattle.naga_oil_ir.specs.Rows.{Text}
use Rattle.naga_oil_ir.specs.declared.module.FunctionResult.{FunctionResult}
use Rattle.naga_oil_ir.specs.declared.parts.Named.{Named}
use Rattle.naga_oil_ir.specs.declared.parts.Named.TheVariants.{Nothing, TypeOf, ConstantAt, OverrideAt, GlobalAt, LocalAt, ArgumentAt, FunctionAt}
use Rattle.naga_oil_ir.specs.declared.span.Span.{Span}
use Rattle.naga_oil_ir.specs.declared.tokens.Token.{Token}
use Rattle.naga_oil_ir.specs.declared.tokens.Token.TheVariants.{GiveCall, Callee, Emitted}
use Rattle.naga_oil_form.proofs.LinkLemmas.{eq_eqb}
use Rattle.naga_oil_derive.specs.CopiedFunctionLaw.{EmitsAt}
use Rattle.naga_oil_derive.specs.Functions.{argument_under, result_under, local_under, begun}
use Rattle.naga_oil_rename.specs.Renames.{Renames, rename, rename_named, rename_token}
use Rattle.naga_oil_walk.specs.Walk.{others}
use Rattle.naga_oil_derive.proofs.CopyLoops.{there}
use Rattle.naga_oil_copy_laws.specs.Scope.{Scope, CalledAlike}
use Rattle.naga_oil_copy_laws.specs.ByTree.{IsReached, IsBegun, HasCopy, HasSpan, GoesOnto, types_in, NamesAlike, callee_in, NameAlike, CopiesByTree}
use Rattle.naga_oil_copy_laws.specs.ByTreeLaw.{HasEarlierOperands, ReflexiveLaw, ComposeLaw, AsCopiedLaw}
use Rattle.naga_oil_copy_laws.proofs.NameLemmas.{names-after, names-same}
use Rattle.naga_oil_copy_laws.proofs.ReachLemmas.{IsImage, filter-has, has-map, mapped, is_spoken, begun_back, begun_reached, reached_on, root_reached, spoken_root}
use Rattle.naga_oil_copy_laws.proofs.RenameLemmas.{after, unchanged, map-after, map-same, parts-after, parts-same, tokens-after, tokens-same, arguments-after, result-after, locals-after, locals-same}

-- ---- expressions

pub image_of : (m : Span → Span) (p : Text → Text) (a b : Scope) (f g : FunctionValue) → (c : CopiesByTree m p a f b g) → IsImage c.goes f g
image_of m p a b f g c = record { locals = c.locals; body = c.body; copies = c.expressions.copies; emits = c.emits }

copy-after : (c d : Renames) (f g h : FunctionValue) (k : ℕ) → HasCopy c f g k → HasCopy d g h (c.expression k) → HasCopy (after d c) f h k
copy-after c d f g h k x y =
    let same : y.source ≡ x.copy = same_Some y.source x.copy (sym y.at_source ∙ x.at_copy) in
    record {
      source = x.source;
      copy = y.copy;
      at_source = x.at_source;
      at_copy = y.at_copy;
      reads = y.reads ∙ ap (λ (e : Parts × Span). rename d e.0) same ∙ ap (rename d) x.reads ∙ parts-after d c x.source.0;
    }

span-after : (m n : Span → Span) (c d : Renames) (f g h : FunctionValue) → GoesOnto m c f g → (k : ℕ) → HasSpan n d g h (c.expression k) → HasSpan (λ s. n (m s)) (after d c) f h k
span-after m n c d f g h w k y =
    let j = w.onto y.first y.reached in
    let u = w.spans j.0 j.1 in
    let x = w.copies j.0 j.1 in
    let at : slice_get g.expressions y.first ≡ Some x.copy = ap (slice_get g.expressions) (sym j.2) ∙ x.at_copy in
    record {
      first = u.first;
      reached = u.reached;
      same = ap d.expression (u.same ∙ j.2) ∙ y.same;
      spans = λ s e from to. y.spans x.copy e at to ∙ ap n (u.spans s x.copy from x.at_copy);
    }

-- what maps to what initialisers reach is reached by initialisers
begun_source : (m : Span → Span) (c : Renames) (f g : FunctionValue) → HasEarlierOperands f → IsImage c f g → GoesOnto m c f g → (j : ℕ) → IsReached f j → IsBegun g (c.expression j) → IsBegun f j
begun_source m c f g a i w j r h =
    let k = begun_back c f g a i (c.expression j) h in
    ⊎_elim (λ (e : k.0 ≡ j). subst (IsBegun f) e k.1) (λ (e : IsBegun f k.0 × IsBegun f j). e.1) (w.shared k.0 j (begun_reached f k.0 k.1) r k.2)

pub onto-after : (m n : Span → Span) (c d : Renames) (f g h : FunctionValue) → HasEarlierOperands f → HasEarlierOperands g → IsImage c f g → GoesOnto m c f g → GoesOnto n d g h → GoesOnto (λ s. n (m s)) (after d c) f h
onto-after m n c d f g h a b i x y = record {
  copies = λ k w. copy-after c d f g h k (x.copies k w) (y.copies (c.expression k) (reached_on c f g a b i k w));
  spans = λ k w. span-after m n c d f g h x k (y.spans (c.expression k) (reached_on c f g a b i k w));
  onto = λ k w. let j = y.onto k w in let l = x.onto j.0 j.1 in (l.0, l.1, ap d.expression l.2 ∙ j.2);
  shared = λ j k r s e. ⊎_elim (x.shared j k r s) (λ q. inr (begun_source m c f g a i x j r q.0, begun_source m c f g a i x k s q.1)) (y.shared (c.expression j) (c.expression k) (reached_on c f g a b i j r) (reached_on c f g a b i k s) e);
}

-- ---- emitted ranges

others_all : (s xs : List ℕ) → ((x : ℕ) → has xs x ≡ true → has s x ≡ false) → others s xs ≡ xs
others_all s [] f = refl
others_all s (x ∷ xs) f = rw (f x (or_left (x == x) (has xs x) (eq_eqb x x refl))) (ap (λ ys. x ∷ ys) (others_all s xs (λ y h. f y (or_right (x == y) (has xs y) h))))

emitted_reached : (f : FunctionValue) → HasEarlierOperands f → (i : ℕ) (p : ℕ × ℕ) (x : ℕ) → EmitsAt f i p → has (places p) x ≡ true → IsReached f x
emitted_reached f a i p x e h = root_reached f a x (spoken_root f x (is_spoken f.body x i (Emitted p) e h))

not_begun : (f : FunctionValue) (x : ℕ) → (IsBegun f x → ⊥) → has (begun f) x ≡ false
not_begun f x n = ⊎_elim (λ (e : has (begun f) x ≡ true). absurd (n e)) (λ (e : has (begun f) x ≡ false). e) (cases_Bool (has (begun f) x))

-- what a copy emits no initialiser of it reaches
apart : (m : Span → Span) (c : Renames) (f g : FunctionValue) → HasEarlierOperands f → IsImage c f g → GoesOnto m c f g → (i : ℕ) (p : ℕ × ℕ) → EmitsAt f i p → others (begun g) (places (c.range p)) ≡ places (c.range p)
apart m c f g a i w j p e =
    let xs = others (begun f) (places p) in
    let none = λ (y : ℕ) (h : has (map c.expression xs) y ≡ true). (
    let k = mapped c.expression xs y h in
    let l = filter-has (λ z. not (has (begun f) z)) (places p) k.0 k.1 in
    not_begun g y (λ q. not_both (has (begun f) k.0) (begun_source m c f g a i w k.0 (emitted_reached f a j p k.0 e l.0) (subst (IsBegun g) (sym k.2) q)) l.1)) in
    ap (others (begun g)) (i.emits j p e) ∙ others_all (begun g) (map c.expression xs) none ∙ sym (i.emits j p e)
  where
    not_both : (b : Bool) → b ≡ true → not b ≡ true → ⊥
    not_both true e q = false≢true q
    not_both false e q = false≢true e

emitted_on : (c : Renames) (f g : FunctionValue) → IsImage c f g → (j : ℕ) (p : ℕ × ℕ) → EmitsAt f j p → EmitsAt g j (c.range p)
emitted_on c f g i j p e = ap (λ ts. slice_get ts j) i.body ∙ slice_get-map (rename_token c) f.body j ∙ ap (option_map (rename_token c)) e

emits-after : (m : Span → Span) (c d : Renames) (f g h : FunctionValue) → HasEarlierOperands f → IsImage c f g → GoesOnto m c f g → IsImage d g h → (j : ℕ) (p : ℕ × ℕ) → EmitsAt f j p → places (d.range (c.range p)) ≡ map (after d c).expression (others (begun f) (places p))
emits-after m c d f g h a i w k j p e =
    k.emits j (c.range p) (emitted_on c f g i j p e) ∙ ap (map d.expression) (apart m c f g a i w j p e ∙ i.emits j p e) ∙ map-after d.expression c.expression (after d c).expression (λ x. refl) (others (begun f) (places p))

-- ---- what is named

pub types_image : (r : Renames) (f g : FunctionValue) → g.arguments ≡ map (argument_under r) f.arguments → g.result ≡ option_map (result_under r) f.result → g.local_variables ≡ map (local_under r) f.local_variables → types_in g ≡ map r.ty (types_in f)
types_image r f g x y z =
    let args = map (λ (a : ArgumentValue). a.ty) f.arguments in
    let rs = option_to_list (option_map (λ (o : FunctionResult). o.ty) f.result) in
    let ls = map (λ (l : LocalValue × Span). l.0.ty) f.local_variables in
    let first : map (λ (a : ArgumentValue). a.ty) g.arguments ≡ map r.ty args = ap (map (λ (a : ArgumentValue). a.ty)) x ∙ map-after (λ (a : ArgumentValue). a.ty) (argument_under r) (λ (a : ArgumentValue). r.ty a.ty) (λ a. refl) f.arguments ∙ sym (map-after r.ty (λ (a : ArgumentValue). a.ty) (λ (a : ArgumentValue). r.ty a.ty) (λ a. refl) f.arguments) in
    let second : option_to_list (option_map (λ (o : FunctionResult). o.ty) g.result) ≡ map r.ty rs = ap (λ o. option_to_list (option_map (λ (o : FunctionResult). o.ty) o)) y ∙ result_type r f.result in
    let third : map (λ (l : LocalValue × Span). l.0.ty) g.local_variables ≡ map r.ty ls = ap (map (λ (l : LocalValue × Span). l.0.ty)) z ∙ map-after (λ (l : LocalValue × Span). l.0.ty) (local_under r) (λ (l : LocalValue × Span). r.ty l.0.ty) (λ a. refl) f.local_variables ∙ sym (map-after r.ty (λ (l : LocalValue × Span). l.0.ty) (λ (l : LocalValue × Span). r.ty l.0.ty) (λ a. refl) f.local_variables) in
    joined first second third ∙ sym (map-append r.ty (args ++ rs) ls ∙ ap (λ t. t ++ map r.ty ls) (map-append r.ty args rs))
  where
    result_type : (r : Renames) (o : Option FunctionResult) → option_to_list (option_map (λ (q : FunctionResult). q.ty) (option_map (result_under r) o)) ≡ map r.ty (option_to_list (option_map (λ (q : FunctionResult). q.ty) o))
    result_type r None = refl
    result_type r (Some q) = refl

    joined : {x₁ y₁ x₂ y₂ x₃ y₃ : List ℕ} → x₁ ≡ y₁ → x₂ ≡ y₂ → x₃ ≡ y₃ → (x₁ ++ x₂) ++ x₃ ≡ (y₁ ++ y₂) ++ y₃
    joined e₁ e₂ e₃ = cc

named_alike-after : (p q : Text → Text) (a b c : Scope) (r s : Renames) (n : Named) → NamesAlike p a b r n → NamesAlike q b c s (rename_named r n) → NamesAlike (λ t. q (p t)) a c (after s r) n
named_alike-after p q a b c r s Nothing x y = (tt, tt)
named_alike-after p q a b c r s (TypeOf h) x y = (λ n. y.0 n ∙ x.0 n, tt)
named_alike-after p q a b c r s (ConstantAt h) x y = (λ n. y.0 n ∙ x.0 n, tt)
named_alike-after p q a b c r s (OverrideAt h) x y = (λ n. y.0 n ∙ x.0 n, tt)
named_alike-after p q a b c r s (GlobalAt h) x y = (λ n. y.0 n ∙ x.0 n, tt)
named_alike-after p q a b c r s (LocalAt h) x y = (tt, tt)
named_alike-after p q a b c r s (ArgumentAt h) x y = (tt, tt)
named_alike-after p q a b c r s (FunctionAt h) x y = (tt, y.1 ∙ ap q x.1)

called_alike-after : (p q : Text → Text) (a b c : Scope) (r s : Renames) (t : Token) → IfSome (callee_in t) (λ h. CalledAlike p a b h (r.function h)) → IfSome (callee_in (rename_token r t)) (λ h. CalledAlike q b c h (s.function h)) → IfSome (callee_in t) (λ h. CalledAlike (λ n. q (p n)) a c h (s.function (r.function h)))
called_alike-after p q a b c r s (Callee f) x y = y ∙ ap q x
called_alike-after p q a b c r s (GiveCall f h) x y = y ∙ ap q x
called_alike-after p q a b c r s _ x y = tt

pub alike-after : (p q : Text → Text) (a b c : Scope) (r s : Renames) (f g : FunctionValue) → HasEarlierOperands f → HasEarlierOperands g → IsImage r f g → types_in g ≡ map r.ty (types_in f) → NameAlike p a b r f → NameAlike q b c s g → NameAlike (λ t. q (p t)) a c (after s r) f
alike-after p q a b c r s f g ef eg i ts x y = record {
  types = λ k h n. y.types (r.ty k) (ap (λ xs. has xs (r.ty k)) ts ∙ has-map r.ty (types_in f) k h) n ∙ x.types k h n;
  expressions = λ k e w at.
      let v = i.copies k w in
      let same : v.source ≡ e = same_Some v.source e (sym v.at_source ∙ at) in
      let named : v.copy.0.named ≡ rename_named r e.0.named = ap (λ (z : Parts). z.named) (v.reads ∙ ap (λ (z : Parts × Span). rename r z.0) same) in
      named_alike-after p q a b c r s e.0.named (x.expressions k e w at) (subst (NamesAlike q b c s) named (y.expressions (r.expression k) v.copy (reached_on r f g ef eg i k w) v.at_copy));
  callees = λ j t at. called_alike-after p q a b c r s t (x.callees j t at) (y.callees j (rename_token r t) (ap (λ us. slice_get us j) i.body ∙ slice_get-map (rename_token r) f.body j ∙ ap (option_map (rename_token r)) at));
}

-- ---- functions

pub compose : ComposeLaw
compose m n p q a b c f g h ef eg x y =
    let i = image_of m p a b f g x in
    let j = image_of n q b c g h y in
    record {
      goes = after y.goes x.goes;
      name = y.name ∙ x.name;
      arguments = y.arguments ∙ ap (map (argument_under y.goes)) x.arguments ∙ arguments-after y.goes x.goes f.arguments;
      outcome = y.outcome ∙ ap (option_map (result_under y.goes)) x.outcome ∙ result-after y.goes x.goes f.result;
      locals = y.locals ∙ ap (map (local_under y.goes)) x.locals ∙ locals-after y.goes x.goes f.local_variables;
      body = y.body ∙ ap (map (rename_token y.goes)) x.body ∙ tokens-after y.goes x.goes f.body;
      spans = λ s. y.spans (x.goes.span s) ∙ ap n (x.spans s);
      expressions = onto-after m n x.goes y.goes f g h ef eg i x.expressions y.expressions;
      emits = emits-after m x.goes y.goes f g h ef i x.expressions j;
      names = names-after x.goes y.goes f g h x.names y.names;
      alike = alike-after p q a b c x.goes y.goes f g ef eg i (types_image x.goes f g x.arguments x.outcome x.locals) x.alike y.alike;
      nothing_else = y.nothing_else;
    }

named_alike-same : (a : Scope) (n : Named) → NamesAlike (λ t. t) a a unchanged n
named_alike-same a Nothing = (tt, tt)
named_alike-same a (TypeOf h) = (λ n. refl, tt)
named_alike-same a (ConstantAt h) = (λ n. refl, tt)
named_alike-same a (OverrideAt h) = (λ n. refl, tt)
named_alike-same a (GlobalAt h) = (λ n. refl, tt)
named_alike-same a (LocalAt h) = (tt, tt)
named_alike-same a (ArgumentAt h) = (tt, tt)
named_alike-same a (FunctionAt h) = (tt, refl)

called_alike-same : (a : Scope) (t : Token) → IfSome (callee_in t) (λ h. CalledAlike (λ n. n) a a h h)
called_alike-same a (Callee f) = refl
called_alike-same a (GiveCall f h) = refl
called_alike-same a _ = tt

pub reflexive : ReflexiveLaw
reflexive a f s =
    let at = λ (k : ℕ) (w : IsReached f k). there f.expressions k (s.there k w) in
    record {
      goes = unchanged;
      name = refl;
      arguments = sym (map-same (argument_under unchanged) (λ x. refl) f.arguments);
      outcome = sym (same_result f.result);
      locals = sym (locals-same f.local_variables);
      body = sym (tokens-same f.body);
      spans = λ x. refl;
      expressions = record {
        copies = λ k w. let e = at k w in record { source = e.0; copy = e.0; at_source = e.1; at_copy = e.1; reads = sym (parts-same e.0.0) };
        spans = λ k w. record { first = k; reached = w; same = refl; spans = λ x y from to. ap (λ (z : Parts × Span). z.1) (same_Some y x (sym to ∙ from)) };
        onto = λ k w. (k, w, refl);
        shared = λ j k v w e. inl e;
      };
      emits = λ i p e. sym (map-same (λ (x : ℕ). x) (λ x. refl) (others (begun f) (places p)) ∙ s.apart i p e);
      names = names-same f;
      alike = record { types = λ k h n. refl; expressions = λ k e w i. named_alike-same a e.0.named; callees = λ i t e. called_alike-same a t };
      nothing_else = s.nothing_else;
    }
  where
    same_result : (o : Option FunctionResult) → option_map (result_under unchanged) o ≡ o
    same_result None = refl
    same_result (Some x) = refl

-- each range of a copy is that of a range of its source
pub emitted_back : (c : Renames) (f g : FunctionValue) → IsImage c f g → (j : ℕ) (q : ℕ × ℕ) → EmitsAt g j q → (p : ℕ × ℕ) × EmitsAt f j p × (c.range p ≡ q)
emitted_back c f g i j q e = emitted_from c (slice_get f.body j) q (sym (slice_get-map (rename_token c) f.body j) ∙ ap (λ ts. slice_get ts j) (sym i.body) ∙ e)
  where
    emitted_from : (c : Renames) (o : Option Token) (q : ℕ × ℕ) → option_map (rename_token c) o ≡ Some (Emitted q) → (p : ℕ × ℕ) × (o ≡ Some (Emitted p)) × (c.range p ≡ q)
    emitted_from c (Some (Emitted p)) q e = (p, refl, (let x : c.range p ≡ q = cc in x))
    emitted_from c _ q e = absurd cc

pub as_copied : AsCopiedLaw
as_copied m p a b f g ef eg x =
    let i = image_of m p a b f g x in
    record {
      earlier = eg;
      there = λ k w. let j = x.expressions.onto k w in let c = x.expressions.copies j.0 j.1 in slice_get_within g.expressions k c.copy (ap (slice_get g.expressions) (sym j.2) ∙ c.at_copy);
      apart = λ j q e. let r = emitted_back x.goes f g i j q e in ap (λ z. others (begun g) (places z)) (sym r.2) ∙ apart m x.goes f g ef i x.expressions j r.0 r.1 ∙ ap places r.2;
      nothing_else = x.nothing_else;
    }
