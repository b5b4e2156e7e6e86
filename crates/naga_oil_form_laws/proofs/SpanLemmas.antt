-- Spans of copies lie within the texts of all modules.
use Rattle.std.proofs.Common.{◌≡◌, ⊎_elim, ℕ, zero, suc, Bool, true, false, ◌==◌, ◌&&◌, if◌then◌else◌, List, [], ◌∷◌, ◌++◌, Option, Some, None, option_map, slice_get, refl, ap, sym, ◌∙◌, subst, arith}
use Rattle.naga_oil_form.specs.BodyForm.{IsSpanFine}
use Rattle.naga_oil_ir.specs.Rows.{Row, parts_row}
use Rattle.naga_oil_ir.specs.ModuleValue.{ModuleValue}
use Rattle.naga_oil_ir.specs.declared.names.ItemPlace.{ItemPlace}
use Rattle.naga_oil_ir.specs.declared.names.ItemPlace.TheVariants.{TypeItem, ConstantItem, OverrideItem, GlobalItem, ExpressionItem}
use Rattle.naga_oil_ir.specs.declared.span.Span.{Span}
use Rattle.naga_oil_derive.specs.World.{world, span_at, shifted, moved, Begins, Extends}
use Rattle.naga_oil_derive.specs.Copied.{CopyState}
use Rattle.naga_oil_derive.specs.CopiedLaw.{PutsOne, spans_by}
use Rattle.naga_oil_form_laws.specs.ItemsStand.{IsIn, AreSpansFine}

-- ---- a span that is shifted

shifted_if : (n : ℕ) (s : Span) (b : Bool) → IsSpanFine 4294967295 s → IsSpanFine 4294967295 (if b then s else record { start = moved n s.start; end = moved n s.end })
shifted_if n s true h = h
shifted_if n s false h = let a = h.0 in (omega (arith, a), omega arith)

pub shifted_fine : (n : ℕ) (s : Span) → IsSpanFine 4294967295 s → IsSpanFine 4294967295 (shifted n s)
shifted_fine n s h = shifted_if n s ((s.start == 0) && (s.end == 0)) h

-- ---- what has a span is there, and keeps it

has_row : {X : Type 0} (f : X → Row) (g : X → Span) (o : Option X) (s : Span) → option_map g o ≡ Some s → (r : Row) × (option_map f o ≡ Some r)
has_row f g None s e = cc
has_row f g (Some x) s e = (f x, refl)

pub spanned_in : (m : ModuleValue) (p : ItemPlace) (s : Span) → span_at m p ≡ Some s → IsIn (world m) p
unfolding world span_at
spanned_in m (TypeItem k) s e = has_row (λ x. x.0) (λ x. x.1) (slice_get m.types k) s e
spanned_in m (ConstantItem k) s e = has_row (λ x. x.0) (λ x. x.1) (slice_get m.constants k) s e
spanned_in m (OverrideItem k) s e = has_row (λ x. x.0) (λ x. x.1) (slice_get m.overrides k) s e
spanned_in m (GlobalItem k) s e = has_row (λ x. x.0) (λ x. x.1) (slice_get m.global_variables k) s e
spanned_in m (ExpressionItem k) s e = has_row (λ x. parts_row x.0) (λ x. x.1) (slice_get m.global_expressions k) s e

begins_get : {A : Type 0} (xs zs : List A) (k : ℕ) (x : A) → slice_get xs k ≡ Some x → slice_get (xs ++ zs) k ≡ Some x
begins_get [] zs k x h = cc
begins_get (y ∷ xs) zs zero x h = h
begins_get (y ∷ xs) zs (suc k) x h = begins_get xs zs k x h

kept_at : {X : Type 0} (f : X → Row) (g : X → Span) (xs ys : List X) (k : ℕ) (r : Row) → Begins xs ys → (o : Option X) → slice_get xs k ≡ o → option_map f o ≡ Some r → option_map g (slice_get ys k) ≡ option_map g (slice_get xs k)
kept_at f g xs ys k r z None e h = cc
kept_at f g xs ys k r z (Some x) e h = ap (λ v. option_map g (slice_get v k)) z.1 ∙ ap (option_map g) (begins_get xs z.0 k x e) ∙ sym (ap (option_map g) e)

pub span_kept : (m n : ModuleValue) (p : ItemPlace) → Extends m n → IsIn (world m) p → span_at n p ≡ span_at m p
unfolding world span_at
span_kept m n (TypeItem k) e at = kept_at (λ x. x.0) (λ x. x.1) m.types n.types k at.0 e.types (slice_get m.types k) refl at.1
span_kept m n (ConstantItem k) e at = kept_at (λ x. x.0) (λ x. x.1) m.constants n.constants k at.0 e.constants (slice_get m.constants k) refl at.1
span_kept m n (OverrideItem k) e at = kept_at (λ x. x.0) (λ x. x.1) m.overrides n.overrides k at.0 e.overrides (slice_get m.overrides k) refl at.1
span_kept m n (GlobalItem k) e at = kept_at (λ x. x.0) (λ x. x.1) m.global_variables n.global_variables k at.0 e.global_variables (slice_get m.global_variables k) refl at.1
span_kept m n (ExpressionItem k) e at = kept_at (λ x. parts_row x.0) (λ x. x.1) m.global_expressions n.global_expressions k at.0 e.global_expressions (slice_get m.global_expressions k) refl at.1

-- ---- what is copied has a span that lies within

mapped_span : (n : ℕ) (o : Option Span) (s : Span) → ((t : Span) → o ≡ Some t → IsSpanFine 4294967295 t) → option_map (shifted n) o ≡ Some s → IsSpanFine 4294967295 s
mapped_span n None s h e = cc
mapped_span n (Some t) s h e = let g : shifted n t ≡ s = cc in subst (IsSpanFine 4294967295) g (shifted_fine n t (h t refl))

pub put_spans : (m : ModuleValue) (shift : ℕ) (s u : CopyState) (p : ItemPlace) (row : Row) → AreSpansFine m 4294967295 → AreSpansFine s.target 4294967295 → PutsOne m s u p row (spans_by m shift p) → AreSpansFine u.target 4294967295
put_spans m shift s u p row source target c x z e =
    let old = λ (at : IsIn (world s.target) x). target x z (sym (span_kept s.target u.target x c.extends at) ∙ e) in
    let r = spanned_in u.target x z e in
    ⊎_elim (λ same. target x z (ap (λ (t : ModuleValue). span_at t x) (sym same) ∙ e)) (λ new. ⊎_elim (λ there. old (r.0, there)) (λ here. mapped_span shift (span_at m p) z (source p) (sym new.1 ∙ ap (span_at u.target) (sym here.0) ∙ e)) (c.fetches.only x r.0 r.1)) c.adds
