-- What a copy names is there.
use Rattle.std.proofs.Common.{◌≡◌, ℕ, [], Option, Some, None, IfSome, option_map, slice_get, unwrap_or, All, refl, ap, sym, ◌∙◌, subst}
use Rattle.std.specs.Option.{option_flatten}
use Rattle.std.proofs.lemmas.List.Elements.{All-head}
use Rattle.std.proofs.lemmas.Option.{none-some, same_Some}
use Rattle.naga_oil_form.specs.BodyForm.{callee}
use Rattle.naga_oil_form.specs.Links.{has}
use Rattle.naga_oil_ir.specs.ModuleValue.{ModuleValue, FunctionValue}
use Rattle.naga_oil_ir.specs.Parts.{Parts}
use Rattle.naga_oil_ir.specs.Rows.{Text, named_place}
use Rattle.naga_oil_ir.specs.declared.names.ItemPlace.{ItemPlace}
use Rattle.naga_oil_ir.specs.declared.names.ItemPlace.TheVariants.{TypeItem, ConstantItem, OverrideItem, GlobalItem}
use Rattle.naga_oil_ir.specs.declared.parts.Named.{Named}
use Rattle.naga_oil_ir.specs.declared.parts.Named.TheVariants.{Nothing, TypeOf, ConstantAt, OverrideAt, GlobalAt, LocalAt, ArgumentAt, FunctionAt}
use Rattle.naga_oil_ir.specs.declared.span.Span.{Span}
use Rattle.naga_oil_ir.specs.declared.tokens.Token.{Token}
use Rattle.naga_oil_ir.specs.declared.tokens.Token.TheVariants.{GiveCall, Callee}
use Rattle.naga_oil_walk.specs.declared.walk.Request.TheVariants.{Item, Call}
use Rattle.naga_oil_derive.specs.CopiedLaw.{HasAt}
use Rattle.naga_oil_derive.specs.CopiedFunctionLaw.{MayBeCopied}
use Rattle.naga_oil_derive.specs.Copies.{Table, under_table}
use Rattle.naga_oil_derive.specs.Derived.{Source}
use Rattle.naga_oil_derive.specs.DerivedFunctions.{Meanings, meant, going}
use Rattle.naga_oil_derive.specs.DerivedLaw.{IsSourceOf}
use Rattle.naga_oil_walk.specs.Naming.{asked}
use Rattle.naga_oil_rename.specs.Renames.{Renames, rename_named, rename_place, rename_token}
use Rattle.naga_oil_derive.specs.World.{goes}
use Rattle.naga_oil_copy_laws.specs.Scope.{name_of_function}
use Rattle.naga_oil_copy_laws.specs.ByTree.{types_in, callee_in}
use Rattle.naga_oil_copy_laws.specs.CopiedByTree.{AreTrueIn, IsAtHand, IsMade}
use Rattle.naga_oil_copy_laws.specs.Frame.{HasFunctionAt, IsAllThere, ThereLaw}
use Rattle.naga_oil_copy_laws.proofs.ComposeLaws.{types_image}
use Rattle.naga_oil_copy_laws.proofs.ReachLemmas.{mapped, reached_back, token_back}
use Rattle.naga_oil_copy_laws.proofs.TreeCopies.{called_name, goes_by, image_of_copy, went_there}

abbrev AllGoThere : Source → ModuleValue → Type 0
AllGoThere s t = (p q : ItemPlace) → goes s.places p ≡ Some q → HasAt t q

item_there : (s : Source) (ns : Meanings) (t : ModuleValue) (p : ItemPlace) → AllGoThere s t → IsAtHand s ns (Item p) → HasAt t (rename_place (going s ns) p)
item_there s ns t p w h = subst (HasAt t) (sym (went_there s ns p h.0 h.1)) (w p h.0 h.1)

named_there : (t : ModuleValue) (h : ℕ) (n : Text) (ns : Meanings) → name_of_function t h ≡ n → meant ns n ≡ Some h → HasFunctionAt t h
named_there t h None ns e m = absurd (none-some h m)
named_there t h (Some n) ns e m = one (slice_get t.functions h) refl e
  where
    one : (o : Option (FunctionValue × Span)) → slice_get t.functions h ≡ o → option_flatten (option_map (λ (f : FunctionValue × Span). f.0.name) o) ≡ Some n → HasFunctionAt t h
    one None at e = absurd (none-some n e)
    one (Some x) at e = (x, at)

call_there : (s : Source) (ns : Meanings) (t : ModuleValue) (k : ℕ) → AreTrueIn t ns → IsAtHand s ns (Call k) → HasFunctionAt t ((going s ns).function k)
call_there s ns t k w h =
    let n = name_of_function s.value k in
    let m = called_name ns (slice_get s.value.functions k) h.0 h.1 in
    subst (HasFunctionAt t) (sym (ap (λ o. unwrap_or o k) h.1)) (named_there t h.0 n ns (w n h.0 m) m)

all_named_there : (s : Source) (ns : Meanings) (t : ModuleValue) (u : Table) (v : ℕ × ℕ → ℕ × ℕ) (n : Named) → AllGoThere s t → AreTrueIn t ns → All (IsAtHand s ns) (asked n) → IfSome (named_place (rename_named (under_table (going s ns) u v) n)) (HasAt t) × IfSome (callee (rename_named (under_table (going s ns) u v) n)) (HasFunctionAt t)
all_named_there s ns t u v Nothing w a h = (tt, tt)
all_named_there s ns t u v (TypeOf k) w a h = (item_there s ns t (TypeItem k) w (All-head (IsAtHand s ns) (Item (TypeItem k)) [] h), tt)
all_named_there s ns t u v (ConstantAt k) w a h = (item_there s ns t (ConstantItem k) w (All-head (IsAtHand s ns) (Item (ConstantItem k)) [] h), tt)
all_named_there s ns t u v (OverrideAt k) w a h = (item_there s ns t (OverrideItem k) w (All-head (IsAtHand s ns) (Item (OverrideItem k)) [] h), tt)
all_named_there s ns t u v (GlobalAt k) w a h = (item_there s ns t (GlobalItem k) w (All-head (IsAtHand s ns) (Item (GlobalItem k)) [] h), tt)
all_named_there s ns t u v (LocalAt k) w a h = (tt, tt)
all_named_there s ns t u v (ArgumentAt k) w a h = (tt, tt)
all_named_there s ns t u v (FunctionAt k) w a h = (tt, call_there s ns t k a (All-head (IsAtHand s ns) (Call k) [] h))

token_there : (s : Source) (ns : Meanings) (t : ModuleValue) (r : Renames) (x : Token) → ((k : ℕ) → r.function k ≡ (going s ns).function k) → AreTrueIn t ns → IfSome (callee_in x) (λ h. IsAtHand s ns (Call h)) → IfSome (callee_in (rename_token r x)) (HasFunctionAt t)
token_there s ns t r (Callee f) e a h = subst (HasFunctionAt t) (sym (e f)) (call_there s ns t f a h)
token_there s ns t r (GiveCall f k) e a h = subst (HasFunctionAt t) (sym (e f)) (call_there s ns t f a h)
token_there s ns t r _ e a h = tt

made_there : (s : Source) (t : ModuleValue) (f g : FunctionValue) → MayBeCopied f → (w : IsMade s t f g) → AllGoThere w.before t → IsAllThere t g
made_there s t f g may w go =
    let b = w.before in
    let ns = w.names in
    let c = w.copies in
    let r = goes_by (going b ns) f g c in
    let m = image_of_copy (going b ns) f g may c in
    record {
      types = λ k h.
          let j = mapped r.ty (types_in f) k (ap (λ xs. has xs k) (sym (types_image r f g c.arguments c.outcome c.locals)) ∙ h) in
          subst (λ x. HasAt t (TypeItem x)) j.2 (item_there b ns t (TypeItem j.0) go (w.at_hand.types j.0 j.1));
      expressions = λ k e q at.
          let j = reached_back r f g may.form.earlier m k q in
          let x = m.copies j.0 j.1 in
          let same : x.copy ≡ e = same_Some x.copy e (sym x.at_copy ∙ ap (slice_get g.expressions) j.2 ∙ at) in
          let named : rename_named r x.source.0.named ≡ e.0.named = ap (λ (z : Parts). z.named) (sym x.reads) ∙ ap (λ (z : Parts × Span). z.0.named) same in
          subst (λ n. IfSome (named_place n) (HasAt t) × IfSome (callee n) (HasFunctionAt t)) named (all_named_there b ns t c.table c.range x.source.0.named go w.are_true (w.at_hand.expressions j.0 x.source j.1 x.at_source));
      callees = λ i x at.
          let y = token_back r f g m i x at in
          subst (λ z. IfSome (callee_in z) (HasFunctionAt t)) (sym y.2) (token_there b ns t r y.0 (λ k. refl) w.are_true (w.at_hand.callees i y.0 y.1));
    }

pub all_there : ThereLaw
all_there first d s f g i at may w = one d.source at i.source
  where
    one : (o : Option Source) → o ≡ Some s → IfSome o (λ x. IsSourceOf first x d.target) → IsAllThere d.target g
    one None e q = absurd (none-some s e)
    one (Some x) e q =
        let own = subst (λ y. IsSourceOf first y d.target) (same_Some x s e) q in
        made_there s d.target f g may w (λ p y z. own.midway.copied.there p y (w.later.went p y z))
