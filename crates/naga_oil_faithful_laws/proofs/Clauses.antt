-- Copies that one clause alone refuses, and stages of shaders in GLSL.
use Rattle.std.proofs.Common.{◌≡◌, ⊎_elim, ◌⊎◌, inl, inr, ℕ, zero, suc, ◌<◌, false, true, Bool, List, [], ◌∷◌, Some, None, Option, slice_get, refl, ap, sym, ◌∙◌, arith}
use Rattle.std.proofs.lemmas.List.Elements.{All-nil, All-cons}
use Rattle.std.proofs.lemmas.Option.{none-some, same_Some}
use Rattle.std.specs.Option.{option_eq}
use Rattle.std.specs.Prelude.{codes, bytes_eq}
use Rattle.naga_oil_form.specs.Links.{has, trail}
use Rattle.naga_oil_form.proofs.LinkLemmas.{All-has}
use Rattle.naga_oil_ir.specs.ModuleValue.{FunctionValue, LocalValue}
use Rattle.naga_oil_ir.specs.Parts.{Parts}
use Rattle.naga_oil_ir.specs.Rows.{Row, Text}
use Rattle.naga_oil_ir.specs.declared.names.ItemPlace.{ItemPlace}
use Rattle.naga_oil_ir.specs.declared.names.ItemPlace.TheVariants.{TypeItem, ConstantItem, OverrideItem, GlobalItem, ExpressionItem}
use Rattle.naga_oil_ir.specs.declared.span.Span.{Span}
use Rattle.naga_oil_rename.specs.Renames.{Renames}
use Rattle.naga_oil_words.specs.Marks.{has_module_mark}
use Rattle.naga_oil_derive.specs.Tree.{World, Tree, tree, reading, row_tree}
use Rattle.naga_oil_derive.specs.World.{world, shifted}
use Rattle.naga_oil_link.specs.Owned.{own_places}
use Rattle.naga_oil_registry.specs.declared.descriptor.ShaderType.{ShaderType}
use Rattle.naga_oil_copy_laws.specs.ByTree.{IsReached, IsBegun, HasCopy, HasSpan, GoesOnto}
use Rattle.naga_oil_link_laws.specs.HeldBuild.{HasDecoratedName, DecoratesTypes, Reaches, Itself, Named, IsReachedBefore}
use Rattle.naga_oil_link_laws.specs.KeptAlike.{kept_alike}
use Rattle.naga_oil.specs.Chain.{stage_in}
use Rattle.naga_oil.specs.Faithful.{CopiesParsed}
use Rattle.naga_oil_faithful_laws.specs.ClauseLaws.{all_to, none_used, one_used, two_used, OntoLaw, GlslLaw}
use Rattle.naga_oil_faithful_laws.specs.SmallMake.{span, number, struct, mark, literal, zero_of, negated, module_parse, base_name, base_copy, right}
use Rattle.naga_oil_faithful_laws.specs.SmallMakeLaw.{IsUnfaithful}
use Rattle.naga_oil_faithful_laws.specs.WrongModules.{with_base, base_span, with_expression_span, with_plain_struct}
use Rattle.naga_oil_faithful_laws.proofs.Builds.{module_build}
use Rattle.naga_oil_faithful_laws.proofs.Comes.{Comes, OfHelper, OfBase, OfOverride, each_comes, own_base, calls_go}
use Rattle.naga_oil_faithful_laws.proofs.Refused.{never, not_base, not_override, reads_at}
use Rattle.naga_oil_faithful_laws.proofs.WrongItems.{own_module, name_of, either_kept}

-- ---- the span of an expression

-- no expression of the source has that span after it is moved
moved_apart : (j : ℕ) (x : Parts × Span) → slice_get own_base.expressions j ≡ Some x → span 5 8 ≡ shifted 2097152 x.1 → ⊥
moved_apart zero x at e = let q : 5 ≡ 0 = ap (λ (s : Span). s.start) e ∙ ap (λ (y : Parts × Span). (shifted 2097152 y.1).start) (sym (same_Some (literal 9) x at)) in absurd (omega (arith, q))
moved_apart (suc zero) x at e = let q : 5 ≡ 0 = ap (λ (s : Span). s.start) e ∙ ap (λ (y : Parts × Span). (shifted 2097152 y.1).start) (sym (same_Some (zero_of 1) x at)) in absurd (omega (arith, q))
moved_apart (suc (suc zero)) x at e = let q : 5 ≡ 0 = ap (λ (s : Span). s.start) e ∙ ap (λ (y : Parts × Span). (shifted 2097152 y.1).start) (sym (same_Some (literal 7) x at)) in absurd (omega (arith, q))
moved_apart (suc (suc (suc zero))) x at e = let q : 5 ≡ 2097157 = ap (λ (s : Span). s.start) e ∙ ap (λ (y : Parts × Span). (shifted 2097152 y.1).start) (sym (same_Some (negated 2 (span 5 8)) x at)) in absurd (omega (arith, q))
moved_apart (suc (suc (suc (suc j)))) x at e = absurd (none-some x at)

module _ (k : CopiesParsed module_build module_parse (calls_go (Some base_name)) (with_base with_expression_span) own_base with_expression_span.0) where
  abbrev goes : Renames
  goes = k.copies.goes

  abbrev copy : FunctionValue
  copy = with_expression_span.0

  negated_copy : HasCopy goes own_base copy 3
  unfolding trail
  negated_copy = k.copies.expressions.copies 3 refl

  negated_span : HasSpan (shifted 2097152) goes own_base copy 3
  unfolding trail
  negated_span = k.copies.expressions.spans 3 refl

  -- the copy of the last expression is the last
  at_place : (n : ℕ) → goes.expression 3 ≡ n → ⊥
  at_place zero e = let q : 1 ≡ 22 = ap (λ (p : Parts). p.kind) (reads_at goes own_base copy 3 0 (negated 2 (span 5 8)) (zero_of 3) negated_copy refl e refl) in absurd (omega (arith, q))
  at_place (suc zero) e = let q : 0 ≡ 22 = ap (λ (p : Parts). p.kind) (reads_at goes own_base copy 3 1 (negated 2 (span 5 8)) (literal 7) negated_copy refl e refl) in absurd (omega (arith, q))
  at_place (suc (suc zero)) e =
      let source = k.copies.expressions.copies negated_span.first negated_span.reached in
      moved_apart negated_span.first source.source source.at_source (negated_span.spans source.source (negated 1 (span 5 8)) source.at_source (ap (slice_get copy.expressions) e))
  at_place (suc (suc (suc n))) e = absurd (none-some negated_copy.copy (sym (ap (slice_get copy.expressions) e) ∙ negated_copy.at_copy))

pub expression_span_refused : IsUnfaithful (with_base with_expression_span)
expression_span_refused c h = one (each_comes c (with_base with_expression_span) h 1 _ refl)
  where
    one : Comes (with_base with_expression_span) with_expression_span → ⊥
    one (OfHelper k at) = not_base (sym k.copies.name)
    one (OfBase k at) = at_place k (k.copies.goes.expression 3) refl
    one (OfOverride k at) = not_override (sym k.copies.name)

-- ---- the name of an own type

abbrev is_plain : Text → Bool
is_plain t = option_eq bytes_eq (Some (codes "S")) t

abbrev is_struct : ItemPlace → Bool
is_struct (TypeItem (suc zero)) = true
is_struct _ = false

abbrev is_some_struct : Option ItemPlace → Bool
is_some_struct None = false
is_some_struct (Some p) = is_struct p

of_struct : (name : List ℕ) (r : Row) (i : ℕ) (q : ItemPlace) → Some (struct name).0 ≡ Some r → slice_get r.names i ≡ Some (Some q) → is_struct q ≡ false
of_struct name r zero q at e = ap (λ (o : Option ItemPlace). is_some_struct o) (sym (same_Some (Some (TypeItem 0)) (Some q) (ap (λ (s : Row). slice_get s.names 0) (same_Some (struct name).0 r at) ∙ e)))
of_struct name r (suc i) q at e = absurd (none-some (Some q) (ap (λ (s : Row). slice_get s.names (suc i)) (same_Some (struct name).0 r at) ∙ e))

-- what the other types name isn't the struct
below : (p : ItemPlace) (r : Row) (i : ℕ) (q : ItemPlace) → world own_module p ≡ Some r → slice_get r.names i ≡ Some (Some q) → is_struct p ≡ false → is_struct q ≡ false
unfolding world has_module_mark
below (TypeItem zero) r i q at name h = absurd (none-some (Some q) (ap (λ (s : Row). slice_get s.names i) (same_Some number.0 r at) ∙ name))
below (TypeItem (suc zero)) r i q at name h = absurd (never (sym h))
below (TypeItem (suc (suc zero))) r i q at name h = of_struct (codes "Ray") r i q at name
below (TypeItem (suc (suc (suc zero)))) r i q at name h = of_struct (codes "Hit") r i q at name
below (TypeItem (suc (suc (suc (suc k))))) r i q at name h = absurd (none-some r at)
below (ConstantItem k) r i q at name h = absurd (none-some r at)
below (OverrideItem k) r i q at name h = absurd (none-some r at)
below (GlobalItem k) r i q at name h = absurd (none-some r at)
below (ExpressionItem k) r i q at name h = absurd (none-some r at)

reaches_others : (p x : ItemPlace) → Reaches (world own_module) p x → is_struct p ≡ false → is_struct x ≡ false
reaches_others p x Itself h = h
reaches_others p x (Named {q = q} r i at name rest) h = reaches_others q x rest (below p r i q at name h)

-- no special type reaches it, and no type before it does
not_reached : IsReachedBefore own_module 1 1 → ⊥
unfolding has_module_mark
not_reached r = one r.0 r.1 r.2
  where
    others : (j : ℕ) → is_struct (TypeItem j) ≡ false → Reaches (world own_module) (TypeItem j) (TypeItem 1) → ⊥
    others j h r = never (sym (reaches_others (TypeItem j) (TypeItem 1) r h))

    one : (j : ℕ) → (j < 1) ⊎ (has (2 ∷ 3 ∷ []) j ≡ true) → Reaches (world own_module) (TypeItem j) (TypeItem 1) → ⊥
    one zero w r = others zero refl r
    one (suc zero) (inl l) r = absurd (omega (arith, l))
    one (suc zero) (inr s) r = never s
    one (suc (suc j)) w r = others (suc (suc j)) refl r

module _ (w : World) (d : DecoratesTypes own_module (own_places module_parse) mark w) where
  decorated : (f : ItemPlace → Tree) → is_plain (name_of (row_tree f (w (TypeItem 1)))) ≡ false
  unfolding world name_of has_module_mark
  decorated f =
      let l : 1 < 4 = omega arith in
      ⊎_elim
      (λ (h : HasDecoratedName own_module (own_places module_parse) mark w (TypeItem 1)). ap (λ o. is_plain (name_of (row_tree f o))) h.row)
      (λ (r : IsReachedBefore own_module 1 1). absurd (not_reached r))
      (d.all 1 l refl)

  struct_decorated : is_plain (name_of (reading 1 w (world with_plain_struct) (kept_alike w own_module with_plain_struct) (TypeItem 1))) ≡ false
  unfolding tree world name_of reading kept_alike has_module_mark
  struct_decorated =
      let f = reading 0 w (world with_plain_struct) (kept_alike w own_module with_plain_struct) in
      either_kept is_plain (tree 1 (world with_plain_struct)) _ _ (row_tree f (w (TypeItem 1))) refl refl (decorated f)

struct_plain : is_plain (name_of (tree 1 (world with_plain_struct) (TypeItem 3))) ≡ true
unfolding tree world name_of
struct_plain = refl

first_local : List (LocalValue × Span) → ℕ
first_local [] = 0
first_local (l ∷ more) = l.0.ty

pub plain_struct_refused : IsUnfaithful with_plain_struct
unfolding first_local
plain_struct_refused c h = one (each_comes c with_plain_struct h 1 _ refl)
  where
    one : Comes with_plain_struct (base_copy right, base_span) → ⊥
    one (OfHelper k at) = not_base (sym k.copies.name)
    one (OfBase k at) =
        let e : 3 ≡ k.copies.goes.ty 1 = ap first_local k.copies.locals in
        let reads = ap (λ (n : ℕ). tree 1 (world with_plain_struct) (TypeItem n)) e ∙ k.copies.alike.types 1 refl 1 in
        never (sym (struct_decorated k.reads k.decorated) ∙ ap (λ t. is_plain (name_of t)) (sym reads) ∙ struct_plain)
    one (OfOverride k at) = not_override (sym k.copies.name)

-- ---- what copies reach

one_reached : (P : ℕ → Type 0) → P 0 → (k : ℕ) → IsReached one_used k → P k
unfolding trail
one_reached P a k w = All-has P (0 ∷ []) k (All-cons P 0 [] a (All-nil P)) w

two_reached : (P : ℕ → Type 0) → P 0 → P 1 → (k : ℕ) → IsReached two_used k → P k
unfolding trail
two_reached P a b k w = All-has P (0 ∷ 1 ∷ []) k (All-cons P 0 (1 ∷ []) a (All-cons P 1 [] b (All-nil P))) w

abbrev here : Renames
here = all_to (λ k. k)

same_span : (f : FunctionValue) (k : ℕ) → IsReached f k → HasSpan (λ s. s) here f f k
same_span f k w = record { first = k; reached = w; same = refl; spans = λ x y i j. ap (λ (z : Parts × Span). z.1) (same_Some y x (sym j ∙ i)) }

abbrev Shares : FunctionValue → ℕ → ℕ → Type 0
Shares f j k = j ≡ k → (j ≡ k) ⊎ (IsBegun f j × IsBegun f k)

one_copied : (k : ℕ) → IsReached one_used k → HasCopy here one_used one_used k
one_copied = one_reached (HasCopy here one_used one_used) (record { source = _; copy = _; at_source = refl; at_copy = refl; reads = refl })

two_copied : (k : ℕ) → IsReached two_used k → HasCopy here two_used two_used k
two_copied = two_reached (HasCopy here two_used two_used) (record { source = _; copy = _; at_source = refl; at_copy = refl; reads = refl }) (record { source = _; copy = _; at_source = refl; at_copy = refl; reads = refl })

onto_itself : (f : FunctionValue) → ((k : ℕ) → IsReached f k → HasCopy here f f k) → GoesOnto (λ s. s) here f f
onto_itself f copied = record { copies = copied; spans = same_span f; onto = λ h w. (h, w, refl); shared = λ j k v w e. inl e }

none_refused : GoesOnto (λ s. s) here none_used one_used → ⊥
unfolding trail
none_refused h = let from = h.onto 0 refl in never from.1

shared_refused : GoesOnto (λ s. s) (all_to (λ k. 0)) two_used one_used → ⊥
unfolding trail
shared_refused h = ⊎_elim (λ (e : 0 ≡ 1). absurd (omega (arith, e))) (λ (b : IsBegun two_used 0 × IsBegun two_used 1). never b.0) (h.shared 0 1 refl refl refl)

pub onto_law : OntoLaw
onto_law = record { one = onto_itself one_used one_copied; two = onto_itself two_used two_copied; none = none_refused; shared = shared_refused }

-- ---- stages

pub glsl_law : GlslLaw
glsl_law = record {
  vertex = λ s ds counter m made e h i y at. let x = h.entry_points i y at in x.whole.stage ∙ ap (λ (t : ShaderType). stage_in t x.entry.stage) e;
  fragment = λ s ds counter m made e h i y at. let x = h.entry_points i y at in x.whole.stage ∙ ap (λ (t : ShaderType). stage_in t x.entry.stage) e;
}
