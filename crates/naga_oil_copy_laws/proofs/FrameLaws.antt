-- Copies in modules that get more.
use Rattle.std.proofs.Common.{◌≡◌, ℕ, zero, suc, ◌==◌, if◌then◌else◌, List, [], ◌∷◌, Option, Some, None, is_some, IsSome, IfSome, option_map, All, refl, ap, sym, ◌∙◌, subst}
use Rattle.std.specs.Option.{option_flatten}
use Rattle.std.proofs.lemmas.Bool.{false≢true}
use Rattle.std.proofs.lemmas.List.Elements.{All-head, All-tail, All-weaker}
use Rattle.std.proofs.lemmas.Option.{none-some, same_Some}
use Rattle.naga_oil_form.specs.BodyForm.{callee}
use Rattle.naga_oil_ir.specs.ModuleValue.{ModuleValue, FunctionValue}
use Rattle.naga_oil_ir.specs.Rows.{Row, Text, named_place}
use Rattle.naga_oil_ir.specs.declared.names.ItemPlace.{ItemPlace}
use Rattle.naga_oil_ir.specs.declared.names.ItemPlace.TheVariants.{TypeItem, ConstantItem, OverrideItem, GlobalItem, ExpressionItem}
use Rattle.naga_oil_ir.specs.declared.parts.Named.{Named}
use Rattle.naga_oil_ir.specs.declared.parts.Named.TheVariants.{Nothing, TypeOf, ConstantAt, OverrideAt, GlobalAt, LocalAt, ArgumentAt, FunctionAt}
use Rattle.naga_oil_ir.specs.declared.span.Span.{Span}
use Rattle.naga_oil_ir.specs.declared.tokens.Token.{Token}
use Rattle.naga_oil_ir.specs.declared.tokens.Token.TheVariants.{GiveCall, Callee}
use Rattle.naga_oil_derive.specs.declared.special.SpecialKey.{SpecialKey}
use Rattle.naga_oil_derive.specs.CopiedLaw.{HasAt}
use Rattle.naga_oil_derive.specs.Copying.{AreWhole}
use Rattle.naga_oil_derive.specs.Derived.{Source, Derived, as_read, kept}
use Rattle.naga_oil_derive.specs.DerivedLaw.{IsSourceOf, Settles}
use Rattle.naga_oil_derive.specs.DerivedValue.{copy_special, set_source}
use Rattle.naga_oil_derive.proofs.SetLaws.{set_law}
use Rattle.naga_oil_rename.specs.Renames.{Renames, under_name}
use Rattle.naga_oil_derive.specs.Tree.{World, Kept, tree, reading, kept_tree, row_tree}
use Rattle.naga_oil_derive.specs.World.{goes, world, named_world, name_at, kept_of, kept_in, or_option, special_at, special_entries}
use Rattle.naga_oil_derive.proofs.TreeLemmas.{tree-later}
use Rattle.naga_oil_copy_laws.specs.Scope.{Scope, ReadAlike, CalledAlike, scope_of, scope_from, name_of_function}
use Rattle.naga_oil_copy_laws.specs.ByTree.{NamesAlike, callee_in, NameAlike}
use Rattle.naga_oil_copy_laws.specs.Frame.{AreAlike, AlikeLaw, HasMore, HasFunctionAt, IsAllThere, TargetLaw, HasItsKeys, SourceLaw, KeysLaw}
use Rattle.naga_oil_copy_laws.proofs.ComposeLaws.{alike-after, image_of, types_image}
use Rattle.naga_oil_copy_laws.proofs.RenameLemmas.{unchanged}

-- ---- scopes that are alike

pub item_alike : (a b c d : Scope) (p q : ItemPlace) → AreAlike a c → AreAlike b d → ReadAlike a b p q → ReadAlike c d p q
item_alike a b c d p q x y r = λ n. y.reads q n ∙ r n ∙ sym (x.reads p n)

pub call_alike : (s : Text → Text) (a b c d : Scope) (k l : ℕ) → AreAlike a c → AreAlike b d → CalledAlike s a b k l → CalledAlike s c d k l
call_alike s a b c d k l x y r = y.names l ∙ r ∙ ap s (sym (x.names k))

pub named_alike : (s : Text → Text) (a b c d : Scope) (r : Renames) (n : Named) → AreAlike a c → AreAlike b d → NamesAlike s a b r n → NamesAlike s c d r n
named_alike s a b c d r Nothing x y w = (tt, tt)
named_alike s a b c d r (TypeOf h) x y w = (λ n. y.reads (TypeItem (r.ty h)) n ∙ w.0 n ∙ sym (x.reads (TypeItem h) n), tt)
named_alike s a b c d r (ConstantAt h) x y w = (λ n. y.reads (ConstantItem (r.constant h)) n ∙ w.0 n ∙ sym (x.reads (ConstantItem h) n), tt)
named_alike s a b c d r (OverrideAt h) x y w = (λ n. y.reads (OverrideItem (r.pipeline_override h)) n ∙ w.0 n ∙ sym (x.reads (OverrideItem h) n), tt)
named_alike s a b c d r (GlobalAt h) x y w = (λ n. y.reads (GlobalItem (r.global h)) n ∙ w.0 n ∙ sym (x.reads (GlobalItem h) n), tt)
named_alike s a b c d r (LocalAt h) x y w = (tt, tt)
named_alike s a b c d r (ArgumentAt h) x y w = (tt, tt)
named_alike s a b c d r (FunctionAt h) x y w = (tt, y.names (r.function h) ∙ w.1 ∙ ap s (sym (x.names h)))

pub callee_alike : (s : Text → Text) (a b c d : Scope) (r : Renames) (t : Token) → AreAlike a c → AreAlike b d → IfSome (callee_in t) (λ h. CalledAlike s a b h (r.function h)) → IfSome (callee_in t) (λ h. CalledAlike s c d h (r.function h))
callee_alike s a b c d r (Callee f) x y w = y.names (r.function f) ∙ w ∙ ap s (sym (x.names f))
callee_alike s a b c d r (GiveCall f h) x y w = y.names (r.function f) ∙ w ∙ ap s (sym (x.names f))
callee_alike s a b c d r _ x y w = tt

pub alike : AlikeLaw
alike m p a b c d f g x y w = record {
  goes = w.goes;
  name = w.name;
  arguments = w.arguments;
  outcome = w.outcome;
  locals = w.locals;
  body = w.body;
  spans = w.spans;
  expressions = w.expressions;
  emits = w.emits;
  names = w.names;
  alike = record {
    types = λ k h. item_alike a b c d (TypeItem k) (TypeItem (w.goes.ty k)) x y (w.alike.types k h);
    expressions = λ k e r at. named_alike p a b c d w.goes e.0.named x y (w.alike.expressions k e r at);
    callees = λ i t at. callee_alike p a b c d w.goes t x y (w.alike.callees i t at);
  };
  nothing_else = w.nothing_else;
}

-- ---- modules that get more

pub tree_stays : (t u : ModuleValue) → AreWhole (world t) → HasMore t u → (p : ItemPlace) → HasAt t p → (n : ℕ) → tree n (world u) p ≡ tree n (world t) p
tree_stays t u w m p h n = let k = w p h.0 h.1 in tree-later (world t) (world u) m.items k.0 n p k.1

pub name_stays : (t u : ModuleValue) → HasMore t u → (k : ℕ) → HasFunctionAt t k → name_of_function u k ≡ name_of_function t k
name_stays t u m k h = ap (λ o. option_flatten (option_map (λ (f : FunctionValue × Span). f.0.name) o)) (m.functions k h.0 h.1 ∙ sym h.1)

pub there_named : (t u : ModuleValue) → AreWhole (world t) → HasMore t u → (n : Named) → IfSome (named_place n) (HasAt t) × IfSome (callee n) (HasFunctionAt t) → NamesAlike (λ s. s) (scope_of t) (scope_of u) unchanged n
there_named t u w m Nothing h = (tt, tt)
there_named t u w m (TypeOf k) h = (tree_stays t u w m (TypeItem k) h.0, tt)
there_named t u w m (ConstantAt k) h = (tree_stays t u w m (ConstantItem k) h.0, tt)
there_named t u w m (OverrideAt k) h = (tree_stays t u w m (OverrideItem k) h.0, tt)
there_named t u w m (GlobalAt k) h = (tree_stays t u w m (GlobalItem k) h.0, tt)
there_named t u w m (LocalAt k) h = (tt, tt)
there_named t u w m (ArgumentAt k) h = (tt, tt)
there_named t u w m (FunctionAt k) h = (tt, name_stays t u m k h.1)

pub there_called : (t u : ModuleValue) → HasMore t u → (x : Token) → IfSome (callee_in x) (HasFunctionAt t) → IfSome (callee_in x) (λ h. CalledAlike (λ s. s) (scope_of t) (scope_of u) h h)
there_called t u m (Callee f) h = name_stays t u m f h
there_called t u m (GiveCall f k) h = name_stays t u m f h
there_called t u m _ h = tt

pub stays_alike : (t u : ModuleValue) → AreWhole (world t) → HasMore t u → (g : FunctionValue) → IsAllThere t g → NameAlike (λ s. s) (scope_of t) (scope_of u) unchanged g
stays_alike t u w m g h = record {
  types = λ k i. tree_stays t u w m (TypeItem k) (h.types k i);
  expressions = λ k e r at. there_named t u w m e.0.named (h.expressions k e r at);
  callees = λ i x at. there_called t u m x (h.callees i x at);
}

pub item_more : (t u : ModuleValue) → HasMore t u → (p : ItemPlace) → HasAt t p → HasAt u p
item_more t u m p h = (h.0, m.items p h.0 h.1)

pub if_more : {A : Type 0} (P Q : A → Type 0) → ((x : A) → P x → Q x) → (o : Option A) → IfSome o P → IfSome o Q
if_more P Q f None h = tt
if_more P Q f (Some x) h = f x h

pub there_more : (t u : ModuleValue) → HasMore t u → (g : FunctionValue) → IsAllThere t g → IsAllThere u g
there_more t u m g h = record {
  types = λ k i. item_more t u m (TypeItem k) (h.types k i);
  expressions = λ k e r at. let x = h.expressions k e r at in (if_more (HasAt t) (HasAt u) (item_more t u m) (named_place e.0.named) x.0, if_more (HasFunctionAt t) (HasFunctionAt u) (λ l y. (y.0, m.functions l y.0 y.1)) (callee e.0.named) x.1);
  callees = λ i x at. if_more (HasFunctionAt t) (HasFunctionAt u) (λ l y. (y.0, m.functions l y.0 y.1)) (callee_in x) (h.callees i x at);
}

pub target : TargetLaw
target m p a f g t u ef eg w more there c = (
  record {
    goes = c.goes;
    name = c.name;
    arguments = c.arguments;
    outcome = c.outcome;
    locals = c.locals;
    body = c.body;
    spans = c.spans;
    expressions = c.expressions;
    emits = c.emits;
    names = c.names;
    alike = alike-after p (λ s. s) a (scope_of t) (scope_of u) c.goes unchanged f g ef eg (image_of m p a (scope_of t) f g c) (types_image c.goes f g c.arguments c.outcome c.locals) c.alike (stays_alike t u w more g there);
    nothing_else = c.nothing_else;
  },
  there_more t u more g there,
)

-- ---- sources

pub reading_step : (w v u : World) (m : Kept) → ((p q : ItemPlace) (n : ℕ) → m p ≡ Some q → tree n u q ≡ tree n v q) → (n : ℕ) (p : ItemPlace) → reading n w u m ≡ reading n w v m → (o : Option ItemPlace) → m p ≡ o → kept_tree (tree (suc n) u) (m p) (row_tree (reading n w u m) (w p)) ≡ kept_tree (tree (suc n) v) (m p) (row_tree (reading n w v m) (w p))
reading_step w v u m f n p below None e = ap (λ o. kept_tree (tree (suc n) u) o (row_tree (reading n w u m) (w p))) e ∙ ap (λ g. row_tree g (w p)) below ∙ sym (ap (λ o. kept_tree (tree (suc n) v) o (row_tree (reading n w v m) (w p))) e)
reading_step w v u m f n p below (Some q) e = ap (λ o. kept_tree (tree (suc n) u) o (row_tree (reading n w u m) (w p))) e ∙ f p q (suc n) e ∙ sym (ap (λ o. kept_tree (tree (suc n) v) o (row_tree (reading n w v m) (w p))) e)

-- what a kept type reads as stays
pub reading_stays : (w v u : World) (m : Kept) → ((p q : ItemPlace) (n : ℕ) → m p ≡ Some q → tree n u q ≡ tree n v q) → (n : ℕ) (p : ItemPlace) → reading n w u m p ≡ reading n w v m p
unfolding reading
reading_stays w v u m f zero p = refl
reading_stays w v u m f (suc n) p = reading_step w v u m f n p (λ i q. reading_stays w v u m f n q i) (m p) refl

-- the sources of a derived module, as far as is used here
abbrev pub There : Source → ModuleValue → Type 0
There s t = (p q : ItemPlace) → goes s.places p ≡ Some q → HasAt t q

pub names_stay : (s : Source) (t u : ModuleValue) → There s t → HasMore t u → (p : ItemPlace) → as_read s u p ≡ as_read s t p
unfolding named_world
names_stay s t u w m p = ap (λ n. option_map (under_name n) (world s.value p)) (one (goes s.places p) refl)
  where
    one : (o : Option ItemPlace) → goes s.places p ≡ o → name_at (world u) o ≡ name_at (world t) o
    one None e = refl
    one (Some q) e = let h = w p q e in ap (option_map (λ (r : Row). r.label.name)) (m.items q h.0 h.1 ∙ sym h.1)

pub key_stays : (t u : ModuleValue) → HasMore t u → (k : SpecialKey) → IsSome (special_at t.special_types k) → special_at u.special_types k ≡ special_at t.special_types k
key_stays t u m k h = one (special_at t.special_types k) refl h
  where
    one : (o : Option ℕ) → special_at t.special_types k ≡ o → IsSome o → special_at u.special_types k ≡ special_at t.special_types k
    one None e h = absurd (false≢true h)
    one (Some q) e h = m.special k q e ∙ sym e

pub kept_same : (f g : SpecialKey → Option ℕ) (es : List (SpecialKey × ℕ)) (k : ℕ) → All (λ (e : SpecialKey × ℕ). g e.0 ≡ f e.0) es → kept_in g es k ≡ kept_in f es k
kept_same f g [] k a = refl
kept_same f g (e ∷ es) k a =
    ap (λ o. or_option o (if e.1 == k then g e.0 else None)) (kept_same f g es k (All-tail (λ (e : SpecialKey × ℕ). g e.0 ≡ f e.0) e es a)) ∙ ap (λ o. or_option (kept_in f es k) (if e.1 == k then o else None)) (All-head (λ (e : SpecialKey × ℕ). g e.0 ≡ f e.0) e es a)

pub kept_stays : (s : Source) (t u : ModuleValue) → HasItsKeys s t → HasMore t u → (p : ItemPlace) → kept s u p ≡ kept s t p
unfolding kept_of
kept_stays s t u h m (TypeItem k) = ap (option_map TypeItem) (kept_same (special_at t.special_types) (special_at u.special_types) (special_entries s.value.special_types) k (All-weaker (λ (e : SpecialKey × ℕ). IsSome (special_at t.special_types e.0)) (λ (e : SpecialKey × ℕ). special_at u.special_types e.0 ≡ special_at t.special_types e.0) (λ e i. key_stays t u m e.0 i) (special_entries s.value.special_types) h))
kept_stays s t u h m (ConstantItem k) = refl
kept_stays s t u h m (OverrideItem k) = refl
kept_stays s t u h m (GlobalItem k) = refl
kept_stays s t u h m (ExpressionItem k) = refl

pub source_alike : (first : Kept) (s : Source) (t u : ModuleValue) → AreWhole (world t) → IsSourceOf first s t → HasItsKeys s t → HasMore t u → AreAlike (scope_from s t) (scope_from s u)
source_alike first s t u w i h m =
    let there = i.midway.copied.there in
    let worlds : as_read s u ≡ as_read s t = λ x p. names_stay s t u there m p x in
    let keeps : kept s u ≡ kept s t = λ x p. kept_stays s t u h m p x in
    record {
      reads = λ p n.
          ap (λ (v : World). reading n v (world u) (kept s u) p) worlds ∙ ap (λ (k : Kept). reading n (as_read s t) (world u) k p) keeps ∙ reading_stays (as_read s t) (world t) (world u) (kept s t) (λ x q k e. tree_stays t u w m q (there x q (i.stand x q e)) k) n p;
      names = λ k. refl;
    }

pub source : SourceLaw
source first d s u i at h m = one d.source at i.source
  where
    one : (o : Option Source) → o ≡ Some s → IfSome o (λ x. IsSourceOf first x d.target) → AreAlike (scope_from s d.target) (scope_from s u)
    one None e w = absurd (none-some s e)
    one (Some x) e w = source_alike first s d.target u i.sound.whole (subst (λ y. IsSourceOf first y d.target) (same_Some x s e) w) h m

pub key_kept : (d e : Derived) (s : Source) (x : SpecialKey × ℕ) → ((k : SpecialKey) (q : ℕ) → special_at d.target.special_types k ≡ Some q → special_at e.target.special_types k ≡ Some q) → Settles d e s x → IsSome (special_at e.target.special_types x.0)
key_kept d e s x keeps h = one (special_at d.target.special_types x.0) refl
  where
    one : (o : Option ℕ) → special_at d.target.special_types x.0 ≡ o → IsSome (special_at e.target.special_types x.0)
    one None at = ap is_some (h.lacked at)
    one (Some q) at = ap is_some (keeps x.0 q at)

pub keys : KeysLaw
keys first d m shift i c a =
    let law = set_law first d m shift i c a in
    let e = set_source d m shift in
    let s : Source = record { value = m; offset = shift; places = (copy_special d m shift).places } in
    All-weaker (Settles d e s) (λ (x : SpecialKey × ℕ). IsSome (special_at e.target.special_types x.0)) (λ x h. key_kept d e s x law.keeps.special h) (special_entries m.special_types) law.settles
