-- Worked rows: functions of a source that are requested and copied; and answers and copies that are wrong in one thing.
use Rattle.std.proofs.Common.{◌≡◌, ℕ, zero, suc, List, [], ◌∷◌, Bool, true, false, cond, Option, Some, None, Ok, All, IfSome, IsSome, slice_get, refl, ap, sym, subst, ◌∙◌, arith}
use Rattle.std.proofs.lemmas.Option.{none-some, same_Some}
use Rattle.std.proofs.lemmas.Slice.Eq.{bytes_eq-Decides}
use Rattle.std.specs.Option.{option_eq}
use Rattle.std.specs.Prelude.{codes, bytes_eq}
use Rattle.naga_oil_form.specs.Links as links
use Rattle.naga_oil_ir.specs.ModuleValue.{FunctionValue, EntryValue, no_items}
use Rattle.naga_oil_ir.specs.Parts.{Parts}
use Rattle.naga_oil_ir.specs.Rows.{Text}
use Rattle.naga_oil_ir.specs.Spans.{undefined}
use Rattle.naga_oil_ir.specs.declared.names.ItemPlace.TheVariants.{TypeItem}
use Rattle.naga_oil_ir.specs.declared.span.Span.{Span}
use Rattle.naga_oil_ir.specs.declared.tokens.Token.{Token}
use Rattle.naga_oil_ir.specs.declared.tokens.Token.TheVariants.{Callee, GiveCall}
use Rattle.naga_oil_walk.specs.Naming.{asked, names_from}
use Rattle.naga_oil_walk.specs.declared.walk.Request.{Request}
use Rattle.naga_oil_walk.specs.declared.walk.Request.TheVariants.{Item, Call}
use Rattle.naga_oil_derive.proofs.AnsweredLaws.{answer_law, function_law}
use Rattle.naga_oil_derive.proofs.DerivedLaws.{nothing_derived}
use Rattle.naga_oil_derive.proofs.SetLaws.{set_law}
use Rattle.naga_oil_derive.specs.Answered.{import_callee}
use Rattle.naga_oil_derive.specs.AnsweredLaw.{AddsOnly, AnswersOnly, HasCopies, HasForm, HaveCopies, ImportsFunction}
use Rattle.naga_oil_derive.specs.CopiedFunction.{copy_function, expressions_upto}
use Rattle.naga_oil_derive.specs.Derived.{Source, Derived, IsLaterSource, nothing, as_read}
use Rattle.naga_oil_derive.specs.DerivedFunctions.{Answers, AllAnswered, NameKnown, FunctionCopied, AreAnswered, CanCopy, CanImport, ComesLast, FunctionStands, IsFunctionImported, IsLocalized, KeepsFunctions, KeepsMeanings, MeansAt, going, meant}
use Rattle.naga_oil_derive.specs.DerivedLaw.{IsDerivation}
use Rattle.naga_oil_derive.specs.DerivedValue.{answer_requests, import_function}
use Rattle.naga_oil_derive.specs.Equal.{parts_eq}
use Rattle.naga_oil_derive.specs.Functions.{Copies}
use Rattle.naga_oil_derive.specs.Tree.{Kept}
use Rattle.naga_oil_derive.specs.World.{ItemMap, goes, kept_of}
use Rattle.naga_oil_redirect.specs.Level.{level_below}
use Rattle.naga_oil_redirect.specs.PutInOrder.{in_turn, put_in_order}
use Rattle.naga_oil_redirect.specs.PutInOrderRows.{empty}
use Rattle.naga_oil_copy_laws.proofs.HeldLaws.{answers_hold, held_copies, source_holds}
use Rattle.naga_oil_copy_laws.proofs.TreeCopies.{made}
use Rattle.naga_oil_copy_laws.proofs.TurnLaws.{has_copies, in_order_law, reads_then}
use Rattle.naga_oil_copy_laws.specs.ByTree.{IsReached, callee_in}
use Rattle.naga_oil_copy_laws.specs.Scope.{name_of_function}
use Rattle.naga_oil_copy_laws.specs.CopiedByTree.{AreTrueIn, Calls, CallsWhatItNames, IsAllAtHand, IsAtHand, IsCopyFrom, IsMade}
use Rattle.naga_oil_copy_laws.specs.Frame.{HasFunctionAt}
use Rattle.naga_oil_copy_laws.specs.HeldCopies.{CopiesOne, EachCopiesOne, HaveSource, HoldsCopies, HoldsCopiesOf, IsCopyableFunction, IsMadeOfOne, IsOneOf}
use Rattle.naga_oil_copy_laws.specs.InTurn.{CanCopyWhole, CopiesEntry, CopiesInto, CopiesModule, CopiesOneOf}
use Rattle.naga_oil_definition_laws.specs.BodiesRows.{each_of_one}
use Rattle.naga_oil_definition_laws.specs.CopyableRows.{f, g, two, copied, astray, with_astray, astray_call, both_are_answered}

-- ---- a source of two functions, of which g calls f

abbrev places : ItemMap
places = record { types = []; constants = []; overrides = []; global_variables = []; global_expressions = [] }

abbrev source : Source
source = record { value = two; offset = 0; places = places }

-- the requests of both
abbrev calls : List Request
calls = Call 0 ∷ Call 1 ∷ []

-- the source is set; f is copied; and g too
abbrev begun : Derived
begun = record nothing { source = Some source }

abbrev with_f : Derived
with_f = record begun { target = record no_items { functions = (f, undefined) ∷ [] }; function_names = (codes "f", 0) ∷ [] }

abbrev with_both : Derived
with_both = record begun { target = record no_items { functions = (f, undefined) ∷ (g, undefined) ∷ [] }; function_names = (codes "f", 0) ∷ (codes "g", 1) ∷ [] }

g_is_not_f : g.name ≡ f.name → ⊥
g_is_not_f e = let o : false ≡ true = ap (λ n. option_eq bytes_eq n f.name) e in absurd cc

only_f : (x : FunctionValue × Span) → IsOneOf ((f, undefined) ∷ []) x → x ≡ (f, undefined)
only_f x (zero, e) = sym (same_Some (f, undefined) x e)
only_f x (suc k, e) = absurd (none-some x e)

-- ---- copies

f_has_copies : HasCopies f
f_has_copies = has_copies f (copied.functions 0 (f, undefined) refl).0.copyable

g_has_copies : HasCopies g
g_has_copies = has_copies g (copied.functions 1 (g, undefined) refl).0.copyable

g_has_form : HasForm g
g_has_form = (copied.functions 1 (g, undefined) refl).0.copyable.may.form

result_of_another_is_refused : HasForm (record g { body = GiveCall 1 0 ∷ [] }) → ⊥
result_of_another_is_refused h = let e : ◌≡◌ {A = Option (Option ℕ)} (Some (Some 0)) (Some (Some 1)) = h.body.0.2 in absurd cc

f_is_copied : Copies (going source []) f f
unfolding copy_function expressions_upto links.trail parts_eq
f_is_copied = f_has_copies (going source []) (copied.functions 0 (f, undefined) refl).0.copyable.may.form

g_is_copied : Copies (going source with_f.function_names) g g
unfolding copy_function expressions_upto links.trail parts_eq
g_is_copied = g_has_copies (going source with_f.function_names) g_has_form

another_name_is_refused : Copies (going source []) f g → ⊥
another_name_is_refused h = g_is_not_f h.name

-- ---- copies that come last

f_comes_last : ComesLast source f undefined begun with_f 0
f_comes_last = record { copy = f; copies = f_is_copied; target = refl; place = refl; names = refl; means = refl; source = refl }

g_comes_last : ComesLast source g undefined with_f with_both 1
g_comes_last = record { copy = g; copies = g_is_copied; target = refl; place = refl; names = refl; means = refl; source = refl }

first_place_is_refused : ComesLast source g undefined with_f with_both 0 → ⊥
first_place_is_refused h = let e : 0 ≡ 1 = h.place in absurd (omega (arith, e))

-- ---- answered requests

f_is_answered : Answers two begun (Call 0 ∷ []) with_f
f_is_answered = FunctionCopied 0 refl refl AllAnswered f_comes_last AllAnswered

-- f is copied after it is requested; its name is known when g requests it
both_answered : Answers two begun calls with_both
both_answered = FunctionCopied 0 refl refl AllAnswered f_comes_last (FunctionCopied 1 refl refl (NameKnown refl AllAnswered) g_comes_last AllAnswered)

are_answered : AreAnswered begun calls with_both
are_answered = both_answered

source_reads : (t : Source) → begun.source ≡ Some t → as_read t begun.target ≡ as_read source begun.target
source_reads t e = ap (λ (s : Source). as_read s begun.target) (sym (same_Some source t e))

-- the source stays
lost_source_is_refused : Answers two begun (Call 0 ∷ []) (record with_f { source = None }) → ⊥
lost_source_is_refused h = let e : false ≡ true = (reads_then two (as_read source begun.target) h refl source_reads).0 in absurd cc

answers_without_a_source_are_refused : AreAnswered begun (Call 0 ∷ []) (record with_f { source = None }) → ⊥
answers_without_a_source_are_refused h = lost_source_is_refused h

-- ---- a function that is imported after what it requests

g_stands : FunctionStands begun with_both g undefined 1 source
g_stands = record { between = with_f; answered = f_is_answered; known = λ n h e. absurd (no_meaning n h e); last = g_comes_last }
  where
    no_meaning : (n : Text) (h : ℕ) → meant [] n ≡ Some h → ⊥
    no_meaning None h e = none-some h e
    no_meaning (Some n) h e = none-some h e

another_meaning_is_refused : FunctionStands begun with_both g undefined 0 source → ⊥
another_meaning_is_refused h = let e : ◌≡◌ {A = Option ℕ} (Some 1) (Some 0) = h.last.means in absurd cc

g_is_imported : IsFunctionImported begun with_both g undefined 1
g_is_imported = g_stands

import_to_another_place_is_refused : IsFunctionImported begun with_both g undefined 0 → ⊥
import_to_another_place_is_refused h = another_meaning_is_refused h

name_means_f : MeansAt with_f 0 0
name_means_f = refl

name_of_another_place_is_refused : MeansAt with_f 0 1 → ⊥
name_of_another_place_is_refused h = let e : ◌≡◌ {A = Option ℕ} (Some 0) (Some 1) = h in absurd cc

-- ---- functions that can be copied, and that are kept

copy_of_g_is_possible : CanCopy begun g
copy_of_g_is_possible = (refl, (copied.functions 1 (g, undefined) refl).0.reaches)

copy_without_a_source_is_refused : CanCopy nothing g → ⊥
copy_without_a_source_is_refused h = let e : false ≡ true = h.0 in absurd cc

copy_of_a_caller_of_none_is_refused : CanCopy (record nothing { source = Some (record source { value = with_astray }) }) astray → ⊥
copy_of_a_caller_of_none_is_refused h = astray_call h.1

functions_are_kept : KeepsFunctions begun with_f
functions_are_kept = record {
  items = record { types = ([], refl); constants = ([], refl); overrides = ([], refl); global_variables = ([], refl); global_expressions = ([], refl); rest = refl };
  functions = ((f, undefined) ∷ [], refl);
  names = λ n known. absurd (unknown n known);
  source = record { value = refl; offset = refl; went = λ p q e. e };
}
  where
    unknown : (n : Text) → IsSome (meant [] n) → ⊥
    unknown None known = let e : false ≡ true = known in absurd cc
    unknown (Some n) known = let e : false ≡ true = known in absurd cc

lost_function_name_is_refused : KeepsFunctions with_f begun → ⊥
lost_function_name_is_refused h = let e : false ≡ true = h.names (Some (codes "f")) refl in absurd cc

-- ---- names that keep their meanings

meanings_are_kept : KeepsMeanings with_f with_both
meanings_are_kept None h e = e
meanings_are_kept (Some n) h e = by (bytes_eq n (codes "f")) e
  where
    by : (b : Bool) → cond b (Some 0) None ≡ Some h → cond b (Some 0) (cond (bytes_eq n (codes "g")) (Some 1) None) ≡ Some h
    by true e = e
    by false e = absurd (none-some h e)

forgotten_name_is_refused : KeepsMeanings with_both with_f → ⊥
forgotten_name_is_refused h = absurd (none-some 1 (h (Some (codes "g")) 1 refl))

names_are_true : AreTrueIn with_both.target with_f.function_names
names_are_true None h e = absurd (none-some h e)
names_are_true (Some n) h e = by (bytes_eq n (codes "f")) refl e
  where
    by : (b : Bool) → bytes_eq n (codes "f") ≡ b → cond b (Some 0) None ≡ Some h → name_of_function with_both.target h ≡ Some n
    by true q e = subst (λ (k : ℕ). name_of_function with_both.target k ≡ Some n) (same_Some 0 h e) (ap Some (sym ((bytes_eq-Decides n (codes "f")).0 q)))
    by false q e = absurd (none-some h e)

false_name_is_refused : AreTrueIn with_both.target ((codes "g", 0) ∷ []) → ⊥
false_name_is_refused h = g_is_not_f (sym (h (Some (codes "g")) 0 refl))

-- ---- what is at hand

f_is_at_hand : IsAtHand source with_f.function_names (Call 0)
f_is_at_hand = (0, refl)

unknown_function_is_refused : IsAtHand source with_f.function_names (Call 1) → ⊥
unknown_function_is_refused h = absurd (none-some h.0 h.1)

unmapped_item_is_refused : IsAtHand source with_f.function_names (Item (TypeItem 0)) → ⊥
unfolding goes
unmapped_item_is_refused h = absurd (none-some h.0 h.1)

abbrev Named : Parts × Span → Type 0
Named e = All (IsAtHand source with_f.function_names) (asked e.0.named)

abbrev Called : Token → Type 0
Called t = IfSome (callee_in t) (λ h. IsAtHand source with_f.function_names (Call h))

all_of_g_is_at_hand : IsAllAtHand source with_f.function_names g
all_of_g_is_at_hand = record { types = λ k e. absurd cc; expressions = expressions; callees = callees }
  where
    expressions : (k : ℕ) (e : Parts × Span) → IsReached g k → slice_get g.expressions k ≡ Some e → Named e
    expressions zero e w at = subst Named (same_Some _ e at) (each_of_one (IsAtHand source with_f.function_names) (Call 0) f_is_at_hand)
    expressions (suc k) e w at = absurd (none-some e at)

    callees : (i : ℕ) (t : Token) → slice_get g.body i ≡ Some t → Called t
    callees zero t at = subst Called (same_Some _ t at) tt
    callees (suc zero) t at = subst Called (same_Some _ t at) f_is_at_hand
    callees (suc (suc zero)) t at = subst Called (same_Some _ t at) f_is_at_hand
    callees (suc (suc (suc i))) t at = absurd (none-some t at)

call_of_unknown_is_refused : IsAllAtHand source [] g → ⊥
call_of_unknown_is_refused h = let c = h.callees 1 (Callee 0) refl in absurd (none-some c.0 c.1)

g_calls_f : Calls g 0
g_calls_f = (1, refl)

g_doesnt_call_itself : Calls g 1 → ⊥
g_doesnt_call_itself (zero, e) = absurd cc
g_doesnt_call_itself (suc zero, e) = absurd cc
g_doesnt_call_itself (suc (suc zero), e) = absurd cc
g_doesnt_call_itself (suc (suc (suc i)), e) = absurd (none-some (Callee 1) e)

-- ---- functions that are held

abbrev first : Kept
first = kept_of two.special_types nothing.target.special_types

derivation : IsDerivation first begun
derivation = (set_law first nothing two 0 (nothing_derived first) copied.items copied.special).derivation

have_copies : HaveCopies begun
have_copies k x at = has_copies x.0 (copied.functions k x at).0.copyable

is_answered : answer_requests begun calls ≡ with_both
unfolding import_callee copy_function expressions_upto links.trail parts_eq names_from
is_answered = refl

have_source : HaveSource two.functions source
have_source = record { copyable = λ x i. (copied.functions i.0 x i.1).0.copyable; functions = λ k x e. (k, e) }

source_of_others_is_refused : HaveSource ((f, undefined) ∷ []) source → ⊥
source_of_others_is_refused h = let i = h.functions 1 (g, undefined) refl in g_is_not_f (ap (λ (x : FunctionValue × Span). x.0.name) (only_f (g, undefined) i))

holds_none : HoldsCopiesOf two.functions 0 begun
holds_none = source_holds two.functions first nothing two 0 (nothing_derived first) copied.items copied.special (λ n h e. absurd (no_meaning n h e))
  where
    no_meaning : (n : Text) (h : ℕ) → meant [] n ≡ Some h → ⊥
    no_meaning None h e = none-some h e
    no_meaning (Some n) h e = none-some h e

holds_both : HoldsCopies two.functions 0 source with_both
holds_both =
    let law = answers_hold two.functions 0 first begun calls derivation have_copies (both_are_answered places no_items) have_source holds_none in
    subst (HoldsCopiesOf two.functions 0) is_answered law.0

false_names_are_refused : HoldsCopies two.functions 0 source (record with_both { function_names = (codes "g", 0) ∷ [] }) → ⊥
false_names_are_refused h = false_name_is_refused h.are_true

g_is_made : IsMadeOfOne two.functions source with_both.target (g, undefined)
g_is_made = holds_both.made 1 (g, undefined) (omega arith) refl

made_of_another_is_refused : IsMadeOfOne ((f, undefined) ∷ []) source with_both.target (g, undefined) → ⊥
made_of_another_is_refused h = g_is_not_f (h.made.copies.name ∙ ap (λ (x : FunctionValue × Span). x.0.name) (only_f h.function h.among))

f_is_made : IsMade source with_both.target f f
f_is_made = record { before = source; names = []; later = later; are_true = λ n h e. absurd (no_meaning n h e); at_hand = none_at_hand; copies = f_is_copied }
  where
    no_meaning : (n : Text) (h : ℕ) → meant [] n ≡ Some h → ⊥
    no_meaning None h e = none-some h e
    no_meaning (Some n) h e = none-some h e

    later : IsLaterSource source source
    later = record { value = refl; offset = refl; went = λ p q e. e }

    none_at_hand : IsAllAtHand source [] f
    none_at_hand = record { types = λ k e. absurd cc; expressions = λ k e w at. absurd (none-some e at); callees = λ i t at. absurd (none-some t at) }

g_isnt_made_of_f : IsMade source with_both.target f g → ⊥
g_isnt_made_of_f h = g_is_not_f h.copies.name

answers_only : AnswersOnly first begun with_both calls
answers_only = subst (λ (d : Derived). AnswersOnly first begun d calls) is_answered (answer_law first begun calls derivation have_copies (both_are_answered places no_items))

adds_only : AddsOnly first begun with_both
adds_only = record { derivation = answers_only.derivation; keeps = answers_only.keeps }

g_can_be_imported : CanImport begun g
g_can_be_imported = ((refl, (copied.functions 1 (g, undefined) refl).0.reaches), refl)

imports_g : import_function begun g undefined ≡ with_both
unfolding import_callee copy_function expressions_upto links.trail parts_eq names_from
imports_g = refl

imports_function : ImportsFunction first begun with_both g undefined
imports_function = subst (λ (d : Derived). ImportsFunction first begun d g undefined) imports_g (function_law first begun g undefined derivation have_copies g_has_copies g_can_be_imported)

g_is_localized : IsLocalized with_f g g
g_is_localized = g_is_copied

each_copies_one : EachCopiesOne two.functions 0 with_both
each_copies_one = held_copies two.functions 0 first with_both answers_only.derivation have_source holds_both

g_copies_one : CopiesOne two.functions source with_both.target (g, undefined)
g_copies_one = each_copies_one 1 (g, undefined) (omega arith) refl

f_is_copy : IsCopyFrom source with_both.target f f
f_is_copy = (made first with_both source f f answers_only.derivation refl (copied.functions 0 (f, undefined) refl).0.copyable.may f_is_made).0

g_copies_none_of_f : CopiesOne ((f, undefined) ∷ []) source with_both.target (g, undefined) → ⊥
g_copies_none_of_f h = g_is_not_f (h.copies.name ∙ ap (λ (x : FunctionValue × Span). x.0.name) (only_f h.function h.among))

g_is_one : IsOneOf two.functions (g, undefined)
g_is_one = (1, refl)

g_isnt_one_of_f : IsOneOf ((f, undefined) ∷ []) (g, undefined) → ⊥
g_isnt_one_of_f i = g_is_not_f (ap (λ (x : FunctionValue × Span). x.0.name) (only_f (g, undefined) i))

-- ---- functions that can be copied

g_is_copyable : IsCopyableFunction g
g_is_copyable = (copied.functions 1 (g, undefined) refl).0.copyable

-- it takes the result of f without a call
uncalled_result_is_refused : CallsWhatItNames (record g { body = GiveCall 0 0 ∷ [] }) → ⊥
uncalled_result_is_refused h = no_call (h.results 0 0 0 refl)
  where
    no_call : Calls (record g { body = GiveCall 0 0 ∷ [] }) 0 → ⊥
    no_call (zero, e) = absurd cc
    no_call (suc i, e) = absurd (none-some (Callee 0) e)

result_without_call_is_refused : IsCopyableFunction (record g { body = GiveCall 0 0 ∷ [] }) → ⊥
result_without_call_is_refused h = uncalled_result_is_refused h.calls

g_calls_what_it_names : CallsWhatItNames g
g_calls_what_it_names = g_is_copyable.calls

g_can_be_copied : CanCopyWhole two g
g_can_be_copied = (copied.functions 1 (g, undefined) refl).0

astray_is_refused : CanCopyWhole with_astray astray → ⊥
astray_is_refused h = astray_call h.reaches

f_is_there : HasFunctionAt two 0
f_is_there = ((f, undefined), refl)

third_function_is_refused : HasFunctionAt two 2 → ⊥
third_function_is_refused h = absurd (none-some h.0 h.1)

-- ---- the module with its functions sorted

is_sorted : put_in_order two ≡ Ok two
unfolding in_turn level_below import_callee copy_function expressions_upto links.trail parts_eq names_from
is_sorted = refl

sorted : CopiesModule two two
sorted = in_order_law two two copied is_sorted

g_copies_one_of_two : CopiesOneOf two two g
g_copies_one_of_two = sorted.functions 1 (g, undefined) refl

only_two : (k : ℕ) (x : FunctionValue × Span) → slice_get two.functions k ≡ Some x → Some (codes "h") ≡ x.0.name → ⊥
only_two zero x at e = let o : false ≡ true = ap (λ n. option_eq bytes_eq n f.name) (e ∙ sym (ap (λ (y : FunctionValue × Span). y.0.name) (same_Some (f, undefined) x at))) in absurd cc
only_two (suc zero) x at e = let o : false ≡ true = ap (λ n. option_eq bytes_eq n g.name) (e ∙ sym (ap (λ (y : FunctionValue × Span). y.0.name) (same_Some (g, undefined) x at))) in absurd cc
only_two (suc (suc k)) x at e = absurd (none-some x at)

copy_of_none_is_refused : CopiesOneOf two two (empty (codes "h")) → ⊥
copy_of_none_is_refused h = only_two h.place h.function h.at h.copies.copies.name

f_copies_f : CopiesInto two two f f
f_copies_f = by (sorted.functions 0 (f, undefined) refl)
  where
    at : (k : ℕ) (x : FunctionValue × Span) → slice_get two.functions k ≡ Some x → CopiesInto two two x.0 f → CopiesInto two two f f
    at zero x e c = subst (λ (y : FunctionValue × Span). CopiesInto two two y.0 f) (sym (same_Some (f, undefined) x e)) c
    at (suc zero) x e c = absurd (g_is_not_f (ap (λ (y : FunctionValue × Span). y.0.name) (same_Some (g, undefined) x e) ∙ sym c.copies.name))
    at (suc (suc k)) x e c = absurd (none-some x e)

    by : CopiesOneOf two two f → CopiesInto two two f f
    by c = at c.place c.function c.at c.copies

g_doesnt_copy_f : CopiesInto two two f g → ⊥
g_doesnt_copy_f h = g_is_not_f h.copies.name

entry_point_is_copied : (i : ℕ) (y : EntryValue) → slice_get two.entry_points i ≡ Some y → CopiesEntry two two i y
entry_point_is_copied i y at = sorted.entry_points i y at

second_entry_point_is_refused : (y : EntryValue) → CopiesEntry two two 1 y → ⊥
second_entry_point_is_refused y h = absurd (none-some h.entry h.at)
