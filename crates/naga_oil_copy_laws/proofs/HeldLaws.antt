-- The laws of what a derived module holds.
use Rattle.std.proofs.Common.{◌≡◌, ℕ, ◌≤◌, Option, Some, None, IsSome, IfSome, slice_get, All, refl, ap, sym, ◌∙◌, subst, arith}
use Rattle.std.proofs.lemmas.Bool.{false≢true}
use Rattle.std.proofs.lemmas.Option.{same_Some, slice_get_within}
use Rattle.naga_oil_ir.specs.ModuleValue.{ModuleValue, FunctionValue}
use Rattle.naga_oil_ir.specs.declared.span.Span.{Span}
use Rattle.naga_oil_derive.specs.Derived.{Source, KeepsSource}
use Rattle.naga_oil_derive.specs.DerivedFunctions.{Answers, ComesLast, FunctionStands, going, requests_of}
use Rattle.naga_oil_derive.specs.DerivedValue.{set_source, answer_requests, import_function, localize_function}
use Rattle.naga_oil_derive.proofs.AnsweredLaws.{answer_law, function_law}
use Rattle.naga_oil_derive.proofs.SetLaws.{set_law}
use Rattle.naga_oil_copy_laws.specs.ByTreeLaw.{HasEarlierOperands}
use Rattle.naga_oil_copy_laws.specs.CopiedByTree.{AreTrueIn, IsAtHand, IsMade, IsCopyFrom}
use Rattle.naga_oil_copy_laws.specs.HeldCopies.{HaveSource, HoldsCopies, HoldsCopiesOf, CopiesOne, SourceHoldsLaw, ItemsHoldLaw, AnswersHoldLaw, FunctionHoldsLaw, HeldCopiesLaw, LocalizedCopyLaw}
use Rattle.naga_oil_copy_laws.proofs.AtHand.{at_hand}
use Rattle.naga_oil_copy_laws.proofs.HeldLemmas.{answered, comes_there, holds_items, holds_last, later_same, source_is, true_later}
use Rattle.naga_oil_copy_laws.proofs.TreeCopies.{made}

source_of : (o : Option Source) → IsSome o → (s : Source) × (o ≡ Some s)
source_of None h = absurd (false≢true h)
source_of (Some s) h = (s, refl)

into : (o : Option Source) (s : Source) (P : Source → Type 0) → o ≡ Some s → P s → IfSome o P
into o s P e p = subst (λ x. IfSome x P) (sym e) p

-- what is so of a source, if one is set
if_source : (o : Option Source) (P : Source → Type 0) → ((s : Source) → o ≡ Some s → P s) → IfSome o P
if_source None P f = tt
if_source (Some s) P f = f s refl

pub answers_hold : AnswersHoldLaw
answers_hold fs b first d rs i c can have held =
    let s = source_of d.source can.0 in
    let e = answer_requests d rs in
    let a = comes_there d.source s.0 (λ y. Answers y.value d rs e) s.1 (answer_law first d rs i c can).answered in
    let x = answered fs b s.0.value s.0 a s.1 refl (comes_there d.source s.0 (HaveSource fs) s.1 have) (comes_there d.source s.0 (λ y. HoldsCopies fs b y d) s.1 held) in
    (into e.source x.source (λ y. HoldsCopies fs b y e) x.is x.holds, into e.source x.source (λ y. All (IsAtHand y e.function_names) rs) x.is x.hand)

pub function_holds : FunctionHoldsLaw
function_holds fs b first d f span i c w can have among held =
    let s = source_of d.source can.0.0 in
    let e = import_function d f span in
    let law = function_law first d f span i c w can in
    let t = source_is d.source e.source s.0 s.1 law.keeps.source in
    let stands : FunctionStands d e f span law.place t.0 = comes_there e.source t.0 (FunctionStands d e f span law.place) t.1 law.imported in
    let own = comes_there d.source s.0 (HaveSource fs) s.1 have in
    let x = answered fs b t.0.value s.0 stands.answered s.1 (sym t.2.value) own (comes_there d.source s.0 (λ y. HoldsCopies fs b y d) s.1 held) in
    let same : t.0 ≡ x.source = same_Some t.0 x.source (sym t.1 ∙ stands.last.source ∙ x.is) in
    let last = subst (λ y. ComesLast y f span stands.between e law.place) same stands.last in
    into e.source x.source (λ y. HoldsCopies fs b y e) (t.1 ∙ ap Some same) (holds_last fs b x.source f span stands.between e law.place last among (own.copyable (f, span) among) x.hand x.holds)

pub source_holds : SourceHoldsLaw
source_holds fs first d m shift i c a names =
    let e = set_source d m shift in
    let keeps = (set_law first d m shift i c a).keeps in
    let functions : e.target.functions ≡ d.target.functions = ap (λ (v : ModuleValue). v.functions) keeps.items.rest in
    let stay = λ (k : ℕ) (x : FunctionValue × Span) (at : slice_get d.target.functions k ≡ Some x). (let all : slice_get e.target.functions k ≡ Some x = ap (λ xs. slice_get xs k) functions ∙ at in all) in
    record {
      are_true = subst (AreTrueIn e.target) (sym keeps.names) (true_later d.target e.target d.function_names stay names);
      made = λ k g w at. (let l = slice_get_within d.target.functions k g (ap (λ xs. slice_get xs k) (sym functions) ∙ at) in absurd (omega (arith, l, w)));
    }

none_stays : (a b : Option Source) → a ≡ None → KeepsSource a b → b ≡ None
none_stays None None e k = refl
none_stays None (Some t) e k = absurd k
none_stays (Some s) b e k = absurd cc

pub items_hold : ItemsHoldLaw
items_hold fs b d e k held = one d.source refl
  where
    one : (o : Option Source) → d.source ≡ o → HoldsCopiesOf fs b e
    one None at = subst (λ x. IfSome x (λ s. HoldsCopies fs b s e)) (sym (none_stays d.source e.source at k.source)) tt
    one (Some s) at =
        let t = holds_items fs b d e s at k (comes_there d.source s (λ y. HoldsCopies fs b y d) at held) in
        into e.source t.0 (λ y. HoldsCopies fs b y e) t.1 t.3

pub held_copies : HeldCopiesLaw
held_copies fs b first d i have held = if_source d.source (λ s. (k : ℕ) (g : FunctionValue × Span) → b ≤ k → slice_get d.target.functions k ≡ Some g → CopiesOne fs s d.target g) (λ s at k g w q. one s at k g w q)
  where
    one : (s : Source) → d.source ≡ Some s → (k : ℕ) (g : FunctionValue × Span) → b ≤ k → slice_get d.target.functions k ≡ Some g → CopiesOne fs s d.target g
    one s at k g w q =
        let m = (comes_there d.source s (λ y. HoldsCopies fs b y d) at held).made k g w q in
        let can = (comes_there d.source s (HaveSource fs) at have).copyable m.function m.among in
        let c = made first d s m.function.0 g.0 i at can.may m.made in
        record { function = m.function; among = m.among; copies = c.0; earlier = c.1; span = m.span }

pub localized : LocalizedCopyLaw
localized first d f i names c can hand = one d.source refl
  where
    one : (o : Option Source) → d.source ≡ o → IfSome o (λ s. IsCopyFrom s d.target f (localize_function o d.function_names f) × HasEarlierOperands (localize_function o d.function_names f))
    one None at = tt
    one (Some s) at =
        let own : IsMade s d.target f (localize_function (Some s) d.function_names f) = record {
          before = s;
          names = d.function_names;
          later = later_same s;
          are_true = names;
          at_hand = at_hand s d.function_names f can.may can.calls (comes_there d.source s (λ y. All (IsAtHand y d.function_names) (requests_of f)) at hand);
          copies = c (going s d.function_names) can.may.form;
        } in
        made first d s f (localize_function (Some s) d.function_names f) i at can.may own
