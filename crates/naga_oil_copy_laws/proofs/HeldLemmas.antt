-- What a derived module holds of functions over the handles of its source.
use Rattle.std.proofs.Common.{◌≡◌, ⊎_elim, ◌⊎◌, ℕ, zero, suc, List, [], ◌∷◌, ◌++◌, Option, Some, None, is_some, IsSome, IfSome, option_map, slice_get, All, bytes_eq, inl, inr, refl, ap, sym, ◌∙◌, subst}
use Rattle.std.specs.Option.{option_flatten}
use Rattle.std.proofs.lemmas.Bool.{cases_Bool, false≢true}
use Rattle.std.proofs.lemmas.List.Elements.{All-nil, All-cons}
use Rattle.std.proofs.lemmas.Option.{none-some, same_Some, slice_get_within}
use Rattle.std.proofs.lemmas.Slice.Eq.{bytes_eq-Decides}
use Rattle.naga_oil_ir.specs.ModuleValue.{ModuleValue, FunctionValue}
use Rattle.naga_oil_ir.specs.Rows.{Text}
use Rattle.naga_oil_ir.specs.declared.names.ItemPlace.{ItemPlace}
use Rattle.naga_oil_ir.specs.declared.span.Span.{Span}
use Rattle.naga_oil_form.proofs.LinkLemmas.{slice_get-append_within, slice_get-append_at}
use Rattle.naga_oil_walk.specs.declared.walk.Request.{Request}
use Rattle.naga_oil_walk.specs.declared.walk.Request.TheVariants.{Item, Call}
use Rattle.naga_oil_derive.specs.Derived.{Source, Derived, IsLaterSource, KeepsSource, Keeps, Imports, as_read}
use Rattle.naga_oil_derive.specs.DerivedFunctions.{Meanings, meant, meant_at, meaning, ComesLast, Answers, AllAnswered, ItemCopied, NameKnown, FunctionCopied, requests_of}
use Rattle.naga_oil_derive.specs.World.{goes, shifted}
use Rattle.naga_oil_derive.proofs.EntrySteps.{KnowsMore, meant_later}
use Rattle.naga_oil_derive.proofs.MeaningLemmas.{lookup_other, meaning_more, meaning_same}
use Rattle.naga_oil_copy_laws.specs.Scope.{name_of_function}
use Rattle.naga_oil_copy_laws.specs.CopiedByTree.{AreTrueIn, IsAtHand, IsMade}
use Rattle.naga_oil_copy_laws.specs.HeldCopies.{IsCopyableFunction, IsOneOf, HaveSource, IsMadeOfOne, HoldsCopies}
use Rattle.naga_oil_copy_laws.proofs.AtHand.{at_hand}

-- ---- functions that stay

-- each function of a module stays in another
abbrev pub FunctionsStay : ModuleValue → ModuleValue → Type 0
FunctionsStay t u = (k : ℕ) (x : FunctionValue × Span) → slice_get t.functions k ≡ Some x → slice_get u.functions k ≡ Some x

name_stays : (t u : ModuleValue) → FunctionsStay t u → (h : ℕ) (n : List ℕ) → name_of_function t h ≡ Some n → name_of_function u h ≡ Some n
name_stays t u w h n e = one (slice_get t.functions h) refl e
  where
    one : (o : Option (FunctionValue × Span)) → slice_get t.functions h ≡ o → option_flatten (option_map (λ (f : FunctionValue × Span). f.0.name) o) ≡ Some n → name_of_function u h ≡ Some n
    one None at e = absurd (none-some n e)
    one (Some x) at e = ap (λ o. option_flatten (option_map (λ (f : FunctionValue × Span). f.0.name) o)) (w h x at) ∙ e

pub true_later : (t u : ModuleValue) (ns : Meanings) → FunctionsStay t u → AreTrueIn t ns → AreTrueIn u ns
true_later t u ns w a None h e = absurd (none-some h e)
true_later t u ns w a (Some n) h e = name_stays t u w h n (a (Some n) h e)

pub later_same : (s : Source) → IsLaterSource s s
later_same s = record { value = refl; offset = refl; went = λ p q e. e }

pub later_again : (r s t : Source) → IsLaterSource r s → IsLaterSource s t → IsLaterSource r t
later_again r s t a b = record { value = b.value ∙ a.value; offset = b.offset ∙ a.offset; went = λ p q e. b.went p q (a.went p q e) }

pub made_later : (r s : Source) (t u : ModuleValue) (f g : FunctionValue) → IsLaterSource r s → FunctionsStay t u → IsMade r t f g → IsMade s u f g
made_later r s t u f g l w m = record {
  before = m.before;
  names = m.names;
  later = later_again m.before r s m.later l;
  are_true = true_later t u m.names w m.are_true;
  at_hand = m.at_hand;
  copies = m.copies;
}

one_later : (fs : List (FunctionValue × Span)) (r s : Source) (t u : ModuleValue) (g : FunctionValue × Span) → IsLaterSource r s → FunctionsStay t u → IsMadeOfOne fs r t g → IsMadeOfOne fs s u g
one_later fs r s t u g l w m = record { function = m.function; among = m.among; made = made_later r s t u m.function.0 g.0 l w m.made; span = m.span ∙ ap (λ k. shifted k m.function.1) (sym l.offset) }

-- where no function comes
pub holds_on : (fs : List (FunctionValue × Span)) (b : ℕ) (r s : Source) (d e : Derived) → IsLaterSource r s → e.target.functions ≡ d.target.functions → e.function_names ≡ d.function_names → HoldsCopies fs b r d → HoldsCopies fs b s e
holds_on fs b r s d e l f n h =
    let stay = λ (k : ℕ) (x : FunctionValue × Span) (at : slice_get d.target.functions k ≡ Some x). (let all : slice_get e.target.functions k ≡ Some x = ap (λ xs. slice_get xs k) f ∙ at in all) in
    record {
      are_true = subst (AreTrueIn e.target) (sym n) (true_later d.target e.target d.function_names stay h.are_true);
      made = λ k g w at. one_later fs r s d.target e.target g l stay (h.made k g w (ap (λ xs. slice_get xs k) (sym f) ∙ at));
    }

pub source_is : (a b : Option Source) (s : Source) → a ≡ Some s → KeepsSource a b → (t : Source) × (b ≡ Some t) × IsLaterSource s t
source_is None b s e k = absurd (none-some s e)
source_is (Some r) None s e k = absurd k
source_is (Some r) (Some t) s e k = (t, refl, subst (λ x. IsLaterSource x t) (same_Some r s e) k)

-- where items come
pub holds_items : (fs : List (FunctionValue × Span)) (b : ℕ) (d e : Derived) (s : Source) → d.source ≡ Some s → Keeps d e → HoldsCopies fs b s d → (t : Source) × (e.source ≡ Some t) × IsLaterSource s t × HoldsCopies fs b t e
holds_items fs b d e s at k h =
    let t = source_is d.source e.source s at k.source in
    (t.0, t.1, t.2, holds_on fs b s t.0 d e t.2 (ap (λ (v : ModuleValue). v.functions) k.items.rest) k.names h)

-- ---- a function comes last

meaning_cases : (ns : Meanings) (o n : Text) (h k : ℕ) → meant (meaning ns o h) n ≡ Some k → (meant ns n ≡ Some k) ⊎ ((o ≡ n) × (h ≡ k))
meaning_cases ns None n h k e = inl e
meaning_cases ns (Some bs) None h k e = absurd (none-some k e)
meaning_cases ns (Some bs) (Some cs) h k e =
    ⊎_elim
    (λ y. let same : cs ≡ bs = (bytes_eq-Decides cs bs).0 y in inr (ap Some (sym same), same_Some h k (sym (meaning_same ns (Some bs) h refl) ∙ ap (meant (meaning ns (Some bs) h)) (ap Some (sym same)) ∙ e)))
    (λ y. inl (sym (lookup_other ns bs cs h y) ∙ e))
    (cases_Bool (bytes_eq cs bs))

last_stays : (fs : List (FunctionValue × Span)) (y : FunctionValue × Span) (k : ℕ) (x : FunctionValue × Span) → slice_get fs k ≡ Some x → slice_get (fs ++ y ∷ []) k ≡ Some x
last_stays fs y k x at = slice_get-append_within fs (y ∷ []) k (slice_get_within fs k x at) ∙ at

last_cases : (fs : List (FunctionValue × Span)) (y : FunctionValue × Span) (k : ℕ) (x : FunctionValue × Span) → slice_get (fs ++ y ∷ []) k ≡ Some x → (slice_get fs k ≡ Some x) ⊎ (y ≡ x)
last_cases [] y zero x e = inr (same_Some y x e)
last_cases [] y (suc k) x e = absurd (none-some x e)
last_cases (z ∷ fs) y zero x e = inl e
last_cases (z ∷ fs) y (suc k) x e = last_cases fs y k x e

-- the functions of e, and the copy of x after them
pub holds_last : (fs : List (FunctionValue × Span)) (b : ℕ) (s : Source) (x : FunctionValue) (span : Span) (d e : Derived) (h : ℕ) → ComesLast s x span d e h → IsOneOf fs (x, span) → IsCopyableFunction x → All (IsAtHand s d.function_names) (requests_of x) → HoldsCopies fs b s d → HoldsCopies fs b s e
holds_last fs b s x span d e h l among can hand held =
    let new : FunctionValue × Span = (l.copy, last_span) in
    let functions : e.target.functions ≡ d.target.functions ++ new ∷ [] = ap (λ (v : ModuleValue). v.functions) l.target in
    let stay = λ (k : ℕ) (y : FunctionValue × Span) (at : slice_get d.target.functions k ≡ Some y). (let all : slice_get e.target.functions k ≡ Some y = ap (λ xs. slice_get xs k) functions ∙ last_stays d.target.functions new k y at in all) in
    let last : slice_get e.target.functions h ≡ Some new = ap (λ xs. slice_get xs h) functions ∙ ap (slice_get (d.target.functions ++ new ∷ [])) l.place ∙ slice_get-append_at d.target.functions new in
    let name : name_of_function e.target h ≡ x.name = ap (λ o. option_flatten (option_map (λ (f : FunctionValue × Span). f.0.name) o)) last ∙ l.copies.name in
    let own : IsMade s e.target x l.copy = record {
      before = s;
      names = d.function_names;
      later = later_same s;
      are_true = true_later d.target e.target d.function_names stay held.are_true;
      at_hand = at_hand s d.function_names x can.may can.calls hand;
      copies = l.copies;
    } in
    record {
      are_true = λ n k i. ⊎_elim (λ q. true_later d.target e.target d.function_names stay held.are_true n k q) (λ (q : (x.name ≡ n) × (h ≡ k)). ap (name_of_function e.target) (sym q.1) ∙ name ∙ q.0) (meaning_cases d.function_names x.name n h k (sym (ap (λ ns. meant ns n) l.names) ∙ i));
      made = λ k g w at. ⊎_elim (λ q. one_later fs s s d.target e.target g (later_same s) stay (held.made k g w q)) (λ (q : new ≡ g). subst (IsMadeOfOne fs s e.target) q (record { function = (x, span); among = among; made = own; span = refl })) (last_cases d.target.functions new k g (ap (λ xs. slice_get xs k) (sym functions) ∙ at));
    }
  where
    last_span : Span
    last_span = shifted s.offset span

-- ---- requests that are answered

some_there : (o : Option ℕ) → IsSome o → (h : ℕ) × (o ≡ Some h)
some_there None h = absurd (false≢true h)
some_there (Some x) h = (x, refl)

hand_later : (s t : Source) (ns qs : Meanings) (r : Request) → IsLaterSource s t → KnowsMore ns qs → IsAtHand s ns r → IsAtHand t qs r
hand_later s t ns qs (Item p) l w a = (a.0, l.went p a.0 a.1)
hand_later s t ns qs (Call k) l w a =
    some_there (meant_at qs (slice_get t.value.functions k)) (ap (λ (v : ModuleValue). is_some (meant_at qs (slice_get v.functions k))) l.value ∙ meant_later ns qs (slice_get s.value.functions k) w (ap is_some a.1))

have_later : (fs : List (FunctionValue × Span)) (s t : Source) → IsLaterSource s t → HaveSource fs s → HaveSource fs t
have_later fs s t l h = record { copyable = h.copyable; functions = λ k x at. h.functions k x (ap (λ (v : ModuleValue). slice_get v.functions k) (sym l.value) ∙ at) }

-- what is so once requests were answered
pub record Answered (fs : List (FunctionValue × Span)) (b : ℕ) (s : Source) (d e : Derived) (rs : List Request) : Type 0 where
  pub source : Source
  pub is : e.source ≡ Some source
  pub later : IsLaterSource s source
  pub knows : KnowsMore d.function_names e.function_names
  pub holds : HoldsCopies fs b source e
  pub hand : All (IsAtHand source e.function_names) rs

goes_there : (a : Option Source) (t : Source) (p q : ItemPlace) → a ≡ Some t → IfSome a (λ s. goes s.places p ≡ Some q) → goes t.places p ≡ Some q
goes_there None t p q e i = absurd (none-some t e)
goes_there (Some s) t p q e i = subst (λ (x : Source). goes x.places p ≡ Some q) (same_Some s t e) i

pub comes_there : (a : Option Source) (t : Source) (P : Source → Type 0) → a ≡ Some t → IfSome a P → P t
comes_there None t P e i = absurd (none-some t e)
comes_there (Some s) t P e i = subst P (same_Some s t e) i

pub answered : (fs : List (FunctionValue × Span)) (b : ℕ) (v : ModuleValue) {d e : Derived} {rs : List Request} (s : Source) → Answers v d rs e → d.source ≡ Some s → s.value ≡ v → HaveSource fs s → HoldsCopies fs b s d → Answered fs b s d e rs
answered fs b v {d} s AllAnswered at is have held = record { source = s; is = at; later = later_same s; knows = λ n w. w; holds = held; hand = All-nil (IsAtHand s d.function_names) }
answered fs b v {d} {e = f} s (ItemCopied {e = e} {p = p} {rs = rs} q i r k a) at is have held =
    let x = holds_items fs b d e s at k held in
    let t = x.0 in
    let rest = answered fs b v t a x.1 (x.2.value ∙ is) (have_later fs s t x.2 have) x.3 in
    let imports : Imports s (as_read s d.target) d e p q = comes_there d.source s (λ y. Imports y (as_read y d.target) d e p q) at i in
    let first : IsAtHand t e.function_names (Item p) = (q, goes_there e.source t p q x.1 imports.goes) in
    record {
      source = rest.source;
      is = rest.is;
      later = later_again s t rest.source x.2 rest.later;
      knows = λ n w. rest.knows n (ap (λ ns. is_some (meant ns n)) k.names ∙ w);
      holds = rest.holds;
      hand = All-cons (IsAtHand rest.source f.function_names) (Item p) rs (hand_later t rest.source e.function_names f.function_names (Item p) rest.later rest.knows first) rest.hand;
    }
answered fs b v {d} {e = f} s (NameKnown {k = k} {h = h} {rs = rs} m a) at is have held =
    let rest = answered fs b v s a at is have held in
    let first : IsAtHand s d.function_names (Call k) = (h, ap (λ (w : ModuleValue). meant_at d.function_names (slice_get w.functions k)) is ∙ m) in
    record {
      source = rest.source;
      is = rest.is;
      later = rest.later;
      knows = rest.knows;
      holds = rest.holds;
      hand = All-cons (IsAtHand rest.source f.function_names) (Call k) rs (hand_later s rest.source d.function_names f.function_names (Call k) rest.later rest.knows first) rest.hand;
    }
answered fs b v {d} {e = g} s (FunctionCopied {e = e} {f = f} {k = k} {x = x} {rs = rs} h n m a c z) at is have held =
    let first = answered fs b v s a at is have held in
    let t = first.source in
    let l : ComesLast t x.0 x.1 e f h = comes_there e.source t (λ y. ComesLast y x.0 x.1 e f h) first.is c in
    let among = have.functions k x (ap (λ (w : ModuleValue). slice_get w.functions k) is ∙ m) in
    let held_last = holds_last fs b t x.0 x.1 e f h l among (have.copyable x among) first.hand first.holds in
    let more : KnowsMore e.function_names f.function_names = λ o w. ap (λ ns. is_some (meant ns o)) l.names ∙ meaning_more e.function_names x.0.name h o w in
    let rest = answered fs b v t z (l.source ∙ first.is) (first.later.value ∙ is) (have_later fs s t first.later have) held_last in
    let own : IsAtHand t f.function_names (Call k) = (h, ap (λ (w : ModuleValue). meant_at f.function_names (slice_get w.functions k)) (first.later.value ∙ is) ∙ ap (meant_at f.function_names) m ∙ l.means) in
    record {
      source = rest.source;
      is = rest.is;
      later = later_again s t rest.source first.later rest.later;
      knows = λ o w. rest.knows o (more o (first.knows o w));
      holds = rest.holds;
      hand = All-cons (IsAtHand rest.source g.function_names) (Call k) rs (hand_later t rest.source f.function_names g.function_names (Call k) rest.later rest.knows own) rest.hand;
    }
