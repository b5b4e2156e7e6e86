-- Worked rows: copies of a function's expressions and of the ranges that it emits; and copies that are wrong in one thing.
use Rattle.std.proofs.Common.{◌≡◌, ℕ, zero, suc, ◌<◌, List, [], ◌∷◌, ◌++◌, length, true, false, Option, Some, None, All, refl, ap, sym, subst, ◌∙◌, arith}
use Rattle.std.proofs.lemmas.List.Elements.{All-nil}
use Rattle.std.proofs.lemmas.Option.{none-some, same_Some}
use Rattle.std.specs.List.{flat_map}
use Rattle.std.specs.Prelude.{codes, option_to_list, slice_index}
use Rattle.naga_oil_form.specs.BodyForm.{AreFine, is_known, places as range_places}
use Rattle.naga_oil_form.specs.Links as links
use Rattle.naga_oil_form.specs.Links.{added, linked}
use Rattle.naga_oil_ir.specs.Kinds.{emit_head, return_head}
use Rattle.naga_oil_ir.specs.ModuleValue.{FunctionValue}
use Rattle.naga_oil_ir.specs.Parts.{Parts, expr}
use Rattle.naga_oil_ir.specs.Spans.{undefined}
use Rattle.naga_oil_ir.specs.declared.parts.Named.TheVariants.{Nothing}
use Rattle.naga_oil_ir.specs.declared.span.Span.{Span}
use Rattle.naga_oil_ir.specs.declared.tokens.Token.TheVariants.{Head, Use, Give, Emitted}
use Rattle.naga_oil_rename.specs.Renames.{Renames}
use Rattle.naga_oil_derive.proofs.FunctionLaws.{copies, table}
use Rattle.naga_oil_derive.specs.AnsweredLaw.{HasCopies, HasForm}
use Rattle.naga_oil_derive.specs.CopiedFunction.{copy_function, expressions_upto}
use Rattle.naga_oil_derive.specs.CopiedFunctionLaw.{EmitsAt, MayBeCopied, StandAlone, spoken}
use Rattle.naga_oil_derive.specs.Copies.{AreApart, AreCopies, Table, Values, place_under}
use Rattle.naga_oil_derive.specs.Equal.{parts_eq}
use Rattle.naga_oil_derive.specs.Functions.{AreCovered, IsCovered}
use Rattle.naga_oil_faithful_laws.specs.SmallMake.{function, literal, negated}
use Rattle.naga_oil_definition_laws.specs.BodiesRows.{each_of_one}

-- a number that nothing uses, a number, and its negative, which is emitted and returned
abbrev expressions : Values
expressions = literal 9 ∷ literal 7 ∷ negated 1 undefined ∷ []

abbrev negative : FunctionValue
negative = function (codes "f") [] [] expressions (Head emit_head ∷ Emitted (2, 3) ∷ Head return_head ∷ Use 2 ∷ [])

-- its copy has no expression that nothing uses
abbrev copied : Values
copied = literal 7 ∷ negated 0 undefined ∷ []

abbrev staying : Renames
staying = record {
  ty = λ k. k;
  constant = λ k. k;
  pipeline_override = λ k. k;
  global = λ k. k;
  function = λ k. k;
  expression = λ k. k;
  range = λ r. r;
  span = λ s. s;
}

-- the places of the copies
abbrev places : Table
places = None ∷ Some 0 ∷ Some 1 ∷ []

-- ---- expressions without operands

abbrev Alone : Parts × Span → Type 0
Alone e = e.0.kind < 13 → flat_map option_to_list e.0.operands ≡ []

numbers_stand_alone : StandAlone expressions
numbers_stand_alone zero e at = subst Alone (same_Some (literal 9) e at) (λ l. refl)
numbers_stand_alone (suc zero) e at = subst Alone (same_Some (literal 7) e at) (λ l. refl)
numbers_stand_alone (suc (suc zero)) e at = subst Alone (same_Some (negated 1 undefined) e at) (λ l. absurd (omega (arith, l)))
numbers_stand_alone (suc (suc (suc k))) e at = absurd (none-some e at)

operand_of_number_is_refused : StandAlone ((expr 0 (0 ∷ 9 ∷ []) Nothing (Some 1 ∷ []), undefined) ∷ []) → ⊥
operand_of_number_is_refused h = let e : ◌≡◌ {A = List ℕ} (1 ∷ []) [] = h 0 _ refl (omega arith) in absurd cc

-- ---- distinct expressions

-- equal expressions are of one kind
same_kind : (a b e f : Parts × Span) → Some a ≡ Some e → Some b ≡ Some f → e.0 ≡ f.0 → a.0.kind ≡ b.0.kind
same_kind a b e f at also same = ap (λ (x : Parts × Span). x.0.kind) (same_Some a e at) ∙ ap (λ (p : Parts). p.kind) same ∙ sym (ap (λ (x : Parts × Span). x.0.kind) (same_Some b f also))

copied_are_apart : AreApart copied
copied_are_apart zero zero e f at also same = refl
copied_are_apart zero (suc zero) e f at also same = let q = same_kind (literal 7) (negated 0 undefined) e f at also same in absurd (omega (arith, q))
copied_are_apart (suc zero) zero e f at also same = let q = same_kind (negated 0 undefined) (literal 7) e f at also same in absurd (omega (arith, q))
copied_are_apart (suc zero) (suc zero) e f at also same = refl
copied_are_apart (suc (suc h)) i e f at also same = absurd (none-some e at)
copied_are_apart h (suc (suc i)) e f at also same = absurd (none-some f also)

number_twice_is_refused : AreApart (literal 7 ∷ literal 7 ∷ []) → ⊥
number_twice_is_refused h = let e : 0 ≡ 1 = h 0 1 (literal 7) (literal 7) refl refl refl in absurd (omega (arith, e))

-- ---- emitted ranges

range_is_emitted : EmitsAt negative 1 (2, 3)
range_is_emitted = refl

head_emits_nothing : EmitsAt negative 0 (2, 3) → ⊥
head_emits_nothing e = absurd cc

range_is_covered : IsCovered places (λ r. (1, 2)) [] (Emitted (2, 3))
range_is_covered = refl

longer_range_is_refused : IsCovered places (λ r. (0, 2)) [] (Emitted (2, 3)) → ⊥
longer_range_is_refused h = let e : ◌≡◌ {A = List ℕ} (0 ∷ 1 ∷ []) (1 ∷ []) = h in absurd cc

body_is_covered : AreCovered places (λ r. (1, 2)) [] negative.body
body_is_covered = (tt, (refl, (tt, (tt, tt))))

longer_range_of_body_is_refused : AreCovered places (λ r. (0, 2)) [] negative.body → ⊥
longer_range_of_body_is_refused h = longer_range_is_refused h.1.0

-- ---- the copy

may_be_copied : MayBeCopied negative
may_be_copied = record { form = record { earlier = earlier; there = All-nil (λ (h : ℕ). h < 3); no_results = λ k d l. absurd (omega (arith, l)); body = body }; alone = numbers_stand_alone }
  where
    Known : ℕ → Type 0
    Known h = is_known (0 ∷ 0 ∷ 22 ∷ []) [] [] h ≡ true

    earlier : (k : ℕ) → All (λ x. x < k) (linked ([] ∷ [] ∷ (1 ∷ []) ∷ []) k)
    earlier zero = All-nil (λ x. x < 0)
    earlier (suc zero) = All-nil (λ x. x < 1)
    earlier (suc (suc zero)) = each_of_one (λ x. x < 2) 1 (omega arith)
    earlier (suc (suc (suc k))) = All-nil (λ x. x < suc (suc (suc k)))

    body : AreFine 3 (0 ∷ 0 ∷ 22 ∷ []) (None ∷ None ∷ None ∷ []) ([] ∷ [] ∷ (1 ∷ []) ∷ []) [] [] negative.body
    body = (tt, ((omega arith, omega arith, ((refl, refl, refl, each_of_one Known 1 refl), tt)), (tt, ((omega arith, refl), tt))))

-- by the law of copies, with the places that its table gives
are_copies : AreCopies staying expressions [] (1 ∷ 2 ∷ []) places copied
unfolding copy_function expressions_upto links.trail parts_eq
are_copies = let c = table staying negative may_be_copied in subst (λ (t : Table). AreCopies staying expressions [] (1 ∷ 2 ∷ []) t copied) c.1 c.0.expressions

expression_without_copy_is_refused : AreCopies staying expressions [] (1 ∷ 2 ∷ []) (None ∷ Some 0 ∷ []) copied → ⊥
expression_without_copy_is_refused h = let e : false ≡ true = h.went 2 in absurd cc

operand_that_stays_is_refused : AreCopies staying expressions [] (1 ∷ 2 ∷ []) places (literal 7 ∷ negated 1 undefined ∷ []) → ⊥
operand_that_stays_is_refused h =
    let c = h.reads 2 (negated 1 undefined) refl refl in
    let there = ap (λ (x : Parts × Span). x.0.operands) (same_Some (negated 1 undefined) c.0 c.1) in
    let e : ◌≡◌ {A = List (Option ℕ)} (Some 1 ∷ []) (Some 0 ∷ []) = there ∙ ap (λ (p : Parts). p.operands) c.2 in
    absurd cc

-- ---- functions whose copies are copies

-- the law of copies requires that numbers and results have no operands
negative_has_copies : HasCopies negative
negative_has_copies r form = copies r negative (record { form = form; alone = numbers_stand_alone })

-- a result with an operand, which is emitted only after the result is given
abbrev with_operand : FunctionValue
with_operand = function (codes "o") [] [] ((expr 13 [] Nothing [], undefined) ∷ (expr 8 (0 ∷ []) Nothing (Some 0 ∷ []), undefined) ∷ []) (Give 1 ∷ Emitted (0, 1) ∷ [])

with_operand_has_form : HasForm with_operand
with_operand_has_form = record { earlier = earlier; there = All-nil (λ (h : ℕ). h < 2); no_results = λ k d l. absurd (omega (arith, l)); body = body }
  where
    Known : ℕ → Type 0
    Known h = is_known (13 ∷ 8 ∷ []) [] (1 ∷ []) h ≡ true

    earlier : (k : ℕ) → All (λ x. x < k) (linked ([] ∷ (0 ∷ []) ∷ []) k)
    earlier zero = All-nil (λ x. x < 0)
    earlier (suc zero) = each_of_one (λ x. x < 1) 0 (omega arith)
    earlier (suc (suc k)) = All-nil (λ x. x < suc (suc k))

    body : AreFine 2 (13 ∷ 8 ∷ []) (None ∷ None ∷ []) ([] ∷ (0 ∷ []) ∷ []) [] [] with_operand.body
    body = ((omega arith, refl, refl, refl), ((omega arith, omega arith, ((refl, refl, refl, All-nil Known), tt)), tt))

-- what is emitted would be the copy of the result, as well as that of the operand
both_copies : (operand result : ℕ) (emitted : List ℕ) → emitted ≡ operand ∷ [] → 1 ∷ 1 ∷ [] ≡ result ∷ (emitted ++ []) →
    added [] (operand ∷ result ∷ []) ≡ 0 ∷ 1 ∷ [] → ⊥
both_copies operand result emitted e spoken order =
    let places : 1 ∷ 1 ∷ [] ≡ result ∷ operand ∷ [] = spoken ∙ ap (λ (xs : List ℕ). result ∷ (xs ++ [])) e in
    let one : 1 ≡ result = ap (λ (xs : List ℕ). slice_index xs 0) places in
    let other : 1 ≡ operand = ap (λ (xs : List ℕ). slice_index xs 1) places in
    let first = subst (λ (x : ℕ). added [] (x ∷ result ∷ []) ≡ 0 ∷ 1 ∷ []) (sym other) order in
    let l : 1 ≡ 2 = ap length (subst (λ (x : ℕ). added [] (1 ∷ x ∷ []) ≡ 0 ∷ 1 ∷ []) (sym one) first) in
    absurd (omega (arith, l))

result_with_operand_is_refused : HasCopies with_operand → ⊥
unfolding copy_function expressions_upto links.trail parts_eq
result_with_operand_is_refused h =
    let c = h staying with_operand_has_form in
    both_copies (place_under c.table 0) (place_under c.table 1) (range_places (c.range (0, 1))) c.emits.1.0 (ap (flat_map spoken) c.body) c.expressions.order
