-- The functions of a derived module stay formed.
use Rattle.std.proofs.Common.{◌≡◌, ◌⊎◌, inl, inr, ⊎_elim, ℕ, zero, suc, ◌+◌, ◌<◌, ◌≤◌, bytes_eq, is_some, if◌then◌else◌, List, [], ◌∷◌, ◌++◌, length, Option, Some, None, IsSome, slice_get, refl, ap, sym, ◌∙◌, subst, arith, All, IfSome}
use Rattle.std.proofs.lemmas.Bool.{cases_Bool}
use Rattle.std.proofs.lemmas.List.{length-append}
use Rattle.std.proofs.lemmas.List.Elements.{All-nil, All-cons, All-head, All-tail, All-weaker}
use Rattle.std.proofs.lemmas.Option.{none-some, same_Some, slice_get_within}
use Rattle.std.proofs.lemmas.Slice.Eq.{bytes_eq-Decides}
use Rattle.naga_oil_form.specs.BodyForm.{IsSpanFine}
use Rattle.naga_oil_ir.specs.ModuleValue.{ModuleValue, FunctionValue}
use Rattle.naga_oil_ir.specs.Parts.{Parts}
use Rattle.naga_oil_ir.specs.Rows.{Row, Text}
use Rattle.naga_oil_ir.specs.declared.names.ItemPlace.{ItemPlace}
use Rattle.naga_oil_ir.specs.declared.parts.Named.{Named}
use Rattle.naga_oil_ir.specs.declared.parts.Named.TheVariants.{Nothing, TypeOf, ConstantAt, OverrideAt, GlobalAt, LocalAt, ArgumentAt, FunctionAt}
use Rattle.naga_oil_ir.specs.declared.span.Span.{Span}
use Rattle.naga_oil_walk.specs.declared.walk.Request.{Request}
use Rattle.naga_oil_walk.specs.declared.walk.Request.TheVariants.{Item, Call}
use Rattle.naga_oil_derive.specs.Tree.{Kept}
use Rattle.naga_oil_derive.specs.World.{goes, world, shifted, Begins, Extends}
use Rattle.naga_oil_derive.specs.Copied.{copy_item}
use Rattle.naga_oil_derive.specs.CopiedFunction.{copy_function}
use Rattle.naga_oil_derive.specs.CopiedLaw.{HasAt}
use Rattle.naga_oil_derive.specs.Derived.{Source, Derived}
use Rattle.naga_oil_derive.specs.DerivedFunctions.{Meanings, meant, meant_at, meaning, requests_of, MayAsk}
use Rattle.naga_oil_derive.specs.Answered.{ImportState, Caller, goes_by, answer_one, answer_by, with_function, import_copy_by, import_callee_by, import_callee}
use Rattle.naga_oil_derive.proofs.AnsweredLaws.{derived_given}
use Rattle.naga_oil_derive.proofs.CopiedLaws.{copied_item}
use Rattle.naga_oil_derive.proofs.DerivedLaws.{Collects-extends}
use Rattle.naga_oil_derive.proofs.HavingLemmas.{given, world_given_at}
use Rattle.naga_oil_derive.proofs.MeaningLemmas.{lookup_other, meaning_other, meaning_same}
use Rattle.naga_oil_derive.proofs.WorldLemmas.{Extends-stays}
use Rattle.naga_oil_form_laws.specs.DerivedForm.{HasFormedItems, MayCome}
use Rattle.naga_oil_form_laws.specs.FunctionForm.{IsNamedThere, IsFunctionFormed, AreFunctionsFormed, AreKnown}
use Rattle.naga_oil_form_laws.proofs.CopyFormLemmas.{c as copies_of}
use Rattle.naga_oil_form_laws.proofs.DerivedLemmas.{import_formed}
use Rattle.naga_oil_form_laws.proofs.FunctionFormLemmas.{Answered, copy_formed}
use Rattle.naga_oil_form_laws.proofs.RequestLemmas.{function_there}
use Rattle.naga_oil_form_laws.proofs.SpanLemmas.{shifted_fine}

-- ---- a module that has more

-- as many items and functions, or more
pub record HasMore (m n : ModuleValue) : Type 0 where
  pub types : length m.types ≤ length n.types
  pub constants : length m.constants ≤ length n.constants
  pub overrides : length m.overrides ≤ length n.overrides
  pub globals : length m.global_variables ≤ length n.global_variables
  pub expressions : length m.global_expressions ≤ length n.global_expressions
  pub functions : length m.functions ≤ length n.functions

pub more_same : (m : ModuleValue) → HasMore m m
more_same m = record { types = omega arith; constants = omega arith; overrides = omega arith; globals = omega arith; expressions = omega arith; functions = omega arith }

pub more_both : (m n o : ModuleValue) → HasMore m n → HasMore n o → HasMore m o
more_both m n o a b = record {
  types = (let x = a.types in let y = b.types in omega (arith, x, y));
  constants = (let x = a.constants in let y = b.constants in omega (arith, x, y));
  overrides = (let x = a.overrides in let y = b.overrides in omega (arith, x, y));
  globals = (let x = a.globals in let y = b.globals in omega (arith, x, y));
  expressions = (let x = a.expressions in let y = b.expressions in omega (arith, x, y));
  functions = (let x = a.functions in let y = b.functions in omega (arith, x, y));
}

pub begins_long : {X : Type 0} (xs ys : List X) → Begins xs ys → length xs ≤ length ys
begins_long xs ys b = let e : length ys ≡ length xs + length b.0 = ap length b.1 ∙ length-append xs b.0 in omega (arith, e)

pub extends_more : (m n : ModuleValue) (fs gs : List (FunctionValue × Span)) → Extends m n → length fs ≤ length gs → HasMore (given m fs) (given n gs)
extends_more m n fs gs e l = record {
  types = begins_long m.types n.types e.types;
  constants = begins_long m.constants n.constants e.constants;
  overrides = begins_long m.overrides n.overrides e.overrides;
  globals = begins_long m.global_variables n.global_variables e.global_variables;
  expressions = begins_long m.global_expressions n.global_expressions e.global_expressions;
  functions = l;
}

named_later : (m n : ModuleValue) (v : FunctionValue) → HasMore m n → (x : Named) → IsNamedThere m v x → IsNamedThere n v x
named_later m n v h Nothing i = tt
named_later m n v h (TypeOf k) i = let l = h.types in omega (arith, i, l)
named_later m n v h (ConstantAt k) i = let l = h.constants in omega (arith, i, l)
named_later m n v h (OverrideAt k) i = let l = h.overrides in omega (arith, i, l)
named_later m n v h (GlobalAt k) i = let l = h.globals in omega (arith, i, l)
named_later m n v h (LocalAt k) i = i
named_later m n v h (ArgumentAt k) i = i
named_later m n v h (FunctionAt k) i = let l = h.functions in omega (arith, i, l)

if_less : {X : Type 0} (f : X → ℕ) (a b : ℕ) → a ≤ b → (o : Option X) → IfSome o (λ x. f x < a) → IfSome o (λ x. f x < b)
if_less f a b l None h = tt
if_less f a b l (Some x) h = omega (arith, h, l)

pub form_later : (m n : ModuleValue) (c b : ℕ) (v : FunctionValue) → HasMore m n → IsFunctionFormed m c b v → IsFunctionFormed n c b v
form_later m n c b v h f =
    let l = h.types in
    record {
      arguments = All-weaker (λ a. a.ty < length m.types) (λ a. a.ty < length n.types) (λ a i. omega (arith, i, l)) v.arguments f.arguments;
      result = if_less (λ r. r.ty) (length m.types) (length n.types) l v.result f.result;
      locals = All-weaker (λ a. a.0.ty < length m.types) (λ a. a.0.ty < length n.types) (λ a i. omega (arith, i, l)) v.local_variables f.locals;
      named_expressions = f.named_expressions;
      expressions = All-weaker (λ (e : Parts × Span). IsNamedThere m v e.0.named) (λ (e : Parts × Span). IsNamedThere n v e.0.named) (λ e i. named_later m n v h e.0.named i) v.expressions f.expressions;
      statements = f.statements;
      callees = f.callees;
      results = f.results;
      body = f.body;
      local_spans = f.local_spans;
      expression_spans = f.expression_spans;
    }

-- ---- names

same_name : (n o : Text) → n ≡ o → IsSome o → IsSome n
same_name n o e h = subst (λ (x : Text). IsSome x) (sym e) h

-- what one more name means
pub meaning_cases : (ns : Meanings) (o x : Text) (h y : ℕ) → meant (meaning ns o h) x ≡ Some y → (meant ns x ≡ Some y) ⊎ ((x ≡ o) × (y ≡ h))
meaning_cases ns None x h y e = inl e
meaning_cases ns (Some b) None h y e = absurd (none-some y e)
meaning_cases ns (Some b) (Some d) h y e =
    ⊎_elim (λ t. let same : d ≡ b = (bytes_eq-Decides d b).0 t in let own : meant (meaning ns (Some b) h) (Some d) ≡ Some h = ap (λ z. meant (meaning ns (Some b) h) (Some z)) same ∙ meaning_same ns (Some b) h refl in inr (ap Some same, same_Some y h (sym e ∙ own))) (λ f. inl (sym (lookup_other ns b d h f) ∙ e)) (cases_Bool (bytes_eq d b))

-- ---- one more element

last_or : {X : Type 0} (xs : List X) (x : X) (k : ℕ) (e : X) → slice_get (xs ++ x ∷ []) k ≡ Some e → ((k < length xs) × (slice_get xs k ≡ Some e)) ⊎ ((k ≡ length xs) × (x ≡ e))
last_or [] x zero e h = inr (refl, same_Some x e h)
last_or [] x (suc k) e h = absurd (none-some e h)
last_or (y ∷ xs) x zero e h = inl (omega arith, h)
last_or (y ∷ xs) x (suc k) e h = ⊎_elim (λ a. let l = a.0 in inl (omega (arith, l), a.1)) (λ a. inr (ap suc a.0, a.1)) (last_or xs x k e h)

long_push : {X : Type 0} (xs : List X) (x : X) → length (xs ++ x ∷ []) ≡ length xs + 1
long_push xs x = length-append xs (x ∷ [])

-- ---- the state of an import

abbrev pub source_in : Source → ImportState → Source
source_in s i = record { value = s.value; offset = s.offset; places = i.copying.places }

abbrev pub part : Source → ImportState → Derived
part s i = record { source = Some (source_in s i); target = i.copying.target; function_names = i.names }

abbrev pub whole : ImportState → ModuleValue
whole i = given i.copying.target i.functions

pub record HaveForms (m : ModuleValue) : Type 0 where
  pub forms : (k : ℕ) (e : FunctionValue × Span) → slice_get m.functions k ≡ Some e → IsFunctionFormed m k 4294967295 e.0
  pub spans : (k : ℕ) (e : FunctionValue × Span) → slice_get m.functions k ≡ Some e → IsSpanFine 4294967295 e.1

pub record IsImporting (first : Kept) (s : Source) (i : ImportState) : Type 0 where
  pub items : HasFormedItems first (part s i)
  pub functions : HaveForms (whole i)
  pub known : AreKnown i.functions i.names
  pub without_entries : i.copying.target.entry_points ≡ []

-- a later state, with imported functions of the source before its place c
pub record Later (s : Source) (c : ℕ) (i u : ImportState) : Type 0 where
  pub went : (p q : ItemPlace) → goes i.copying.places p ≡ Some q → goes u.copying.places p ≡ Some q
  pub stays : (p : ItemPlace) (r : Row) → world i.copying.target p ≡ Some r → world u.copying.target p ≡ Some r
  pub means : (x : Text) (h : ℕ) → meant i.names x ≡ Some h → meant u.names x ≡ Some h
  pub grows : length i.functions ≤ length u.functions
  pub more : HasMore (whole i) (whole u)
  pub new : (x : Text) (h : ℕ) → meant u.names x ≡ Some h → (meant i.names x ≡ Some h) ⊎ ((j : ℕ) × (e : FunctionValue × Span) × (j < c) × (slice_get s.value.functions j ≡ Some e) × (e.0.name ≡ x))

later_same : (s : Source) (c : ℕ) (i : ImportState) → Later s c i i
later_same s c i = record { went = λ p q e. e; stays = λ p r e. e; means = λ x h e. e; grows = omega arith; more = more_same (whole i); new = λ x h e. inl e }

later_trans : (s : Source) (c : ℕ) (i j u : ImportState) → Later s c i j → Later s c j u → Later s c i u
later_trans s c i j u a b = record {
  went = λ p q e. b.went p q (a.went p q e);
  stays = λ p r e. b.stays p r (a.stays p r e);
  means = λ x h e. b.means x h (a.means x h e);
  grows = (let x = a.grows in let y = b.grows in omega (arith, x, y));
  more = more_both (whole i) (whole j) (whole u) a.more b.more;
  new = λ x h e. ⊎_elim (λ old. a.new x h old) inr (b.new x h e);
}

later_more : (s : Source) (b c : ℕ) (i u : ImportState) → b ≤ c → Later s b i u → Later s c i u
later_more s b c i u l a = record {
  went = a.went;
  stays = a.stays;
  means = a.means;
  grows = a.grows;
  more = a.more;
  new = λ x h e. ⊎_elim inl (λ y. let k = y.2 in inr (y.0, y.1, omega (arith, k, l), y.3, y.4)) (a.new x h e);
}

abbrev pub AnsweredIn : Source → ImportState → Request → Type 0
AnsweredIn s i r = Answered s.value i.copying.target i.copying.places i.names (length i.functions) r

means_at : (ns qs : Meanings) → ((x : Text) (h : ℕ) → meant ns x ≡ Some h → meant qs x ≡ Some h) → (o : Option (FunctionValue × Span)) (h : ℕ) → meant_at ns o ≡ Some h → meant_at qs o ≡ Some h
means_at ns qs f None h e = absurd (none-some h e)
means_at ns qs f (Some x) h e = f x.0.name h e

answered_later : (s : Source) (c : ℕ) (i u : ImportState) → Later s c i u → (r : Request) → AnsweredIn s i r → AnsweredIn s u r
answered_later s c i u l (Item p) a = (a.0, l.went p a.0 a.1, (a.2.0, l.stays a.0 a.2.0 a.2.1))
answered_later s c i u l (Call k) a = let g = l.grows in let b = a.2 in (a.0, means_at i.names u.names l.means (slice_get s.value.functions k) a.0 a.1, omega (arith, b, g))

-- what an import does
pub record Imports (first : Kept) (s : Source) (c : ℕ) (i u : ImportState) : Type 0 where
  pub importing : IsImporting first s u
  pub later : Later s c i u

imports_trans : (first : Kept) (s : Source) (c : ℕ) (i j u : ImportState) → Imports first s c i j → Imports first s c j u → Imports first s c i u
imports_trans first s c i j u a b = record { importing = b.importing; later = later_trans s c i j u a.later b.later }

-- ---- an item

item_imports : (first : Kept) (s : Source) (c : ℕ) (i : ImportState) (p : ItemPlace) → IsImporting first s i → HasAt s.value p → let u = record i { copying = copy_item s.value s.offset i.copying p } in Imports first s c i u × AnsweredIn s u (Item p)
item_imports first s c i p h at =
    let u = record i { copying = copy_item s.value s.offset i.copying p } in
    let d = h.items.derivation in
    let g = copied_item s.value s.offset first i.copying p d.source.copyable d.source.midway at in
    let ext = Collects-extends g.0.collects in
    let more = extends_more i.copying.target u.copying.target i.functions i.functions ext (omega arith) in (
      record {
        importing = record {
          items = import_formed first (part s i) p h.items (refl, at);
          functions = record {
            forms = λ k e a. form_later (whole i) (whole u) k 4294967295 e.0 more (h.functions.forms k e a);
            spans = h.functions.spans;
          };
          known = h.known;
          without_entries = ap (λ (v : ModuleValue). v.entry_points) ext.rest ∙ h.without_entries;
        };
        later = record { went = g.0.went; stays = Extends-stays i.copying.target u.copying.target ext; means = λ x y e. e; grows = omega arith; more = more; new = λ x y e. inl e };
      },
      (g.1.0, g.1.1, g.0.midway.copied.there p g.1.0 g.1.1),
    )

-- ---- requests

-- what the call of a function before c does
abbrev pub CallsBefore : Kept → Source → ℕ → Caller → Type 0
CallsBefore first s c f = (i : ImportState) (k : ℕ) → IsImporting first s i → k < c → k < length s.value.functions → Imports first s c i (f i k) × AnsweredIn s (f i k) (Call k)

abbrev pub AsksBefore : Source → ℕ → Request → Type 0
AsksBefore s c r = MayAsk s.value (λ k. k < c) r

one_imports : (first : Kept) (s : Source) (c : ℕ) (f : Caller) → CallsBefore first s c f → (i : ImportState) (r : Request) → IsImporting first s i → AsksBefore s c r → Imports first s c i (answer_one f s.value s.offset i r) × AnsweredIn s (answer_one f s.value s.offset i r) r
one_imports first s c f calls i (Item p) h a = item_imports first s c i p h a
one_imports first s c f calls i (Call k) h a = calls i k h a.1 a.0

pub all_import : (first : Kept) (s : Source) (c : ℕ) (f : Caller) → CallsBefore first s c f → (rs : List Request) (i : ImportState) → IsImporting first s i → All (AsksBefore s c) rs → Imports first s c i (answer_by (answer_one f s.value s.offset) i rs) × All (AnsweredIn s (answer_by (answer_one f s.value s.offset) i rs)) rs
all_import first s c f calls [] i h a = (record { importing = h; later = later_same s c i }, All-nil (AnsweredIn s i))
all_import first s c f calls (r ∷ rs) i h a =
    let j = answer_one f s.value s.offset i r in
    let u = answer_by (answer_one f s.value s.offset) j rs in
    let one = one_imports first s c f calls i r h (All-head (AsksBefore s c) r rs a) in
    let rest = all_import first s c f calls rs j one.0.importing (All-tail (AsksBefore s c) r rs a) in
    (imports_trans first s c i j u one.0 rest.0, All-cons (AnsweredIn s u) r rs (answered_later s c j u rest.0.later r one.1) rest.1)

-- ---- a function is appended

pub answered_given : (s : Source) (j : ImportState) (fs : List (FunctionValue × Span)) (r : Request) → AnsweredIn s j r → Answered s.value (given j.copying.target fs) j.copying.places j.names (length j.functions) r
answered_given s j fs (Item p) a = (a.0, a.1, (a.2.0, world_given_at j.copying.target fs a.0 ∙ a.2.1))
answered_given s j fs (Call k) a = a

last_items : (first : Kept) (s : Source) (j : ImportState) (qs : Meanings) → HasFormedItems first (part s j) → HasFormedItems first (record { source = Some (source_in s j); target = j.copying.target; function_names = qs })
last_items first s j qs h = record {
  derivation = derived_given first (source_in s j) j.copying.target j.copying.target.functions j.names qs h.derivation;
  target = h.target;
  source = h.source;
}

pub function_comes : (first : Kept) (s : Source) (j : ImportState) (c : ℕ) (v : FunctionValue) (span : Span) → IsImporting first s j → IsFunctionFormed s.value c 4294967295 v → All (AnsweredIn s j) (requests_of v) → IsSome v.name → meant j.names v.name ≡ None → IsSpanFine 4294967295 span → IsImporting first s (with_function s.value s.offset j v span)
function_comes first s j c v span h f a named unknown fine =
    let u = with_function s.value s.offset j v span in
    let n = length j.functions in
    let w = copy_function (goes_by s.value s.offset j) v in
    let last : FunctionValue × Span = (w, shifted s.offset span) in
    let long = long_push j.functions last in
    let more : HasMore (whole j) (whole u) = record { types = omega arith; constants = omega arith; overrides = omega arith; globals = omega arith; expressions = omega arith; functions = omega (arith, long) } in
    let own : IsFunctionFormed (whole u) n 4294967295 w = copy_formed s.value (whole u) s.offset j.copying.places j.names n c (omega (arith, long)) v f (All-weaker (AnsweredIn s j) (Answered s.value (whole u) j.copying.places j.names n) (answered_given s j u.functions) (requests_of v) a) in
    let name : w.name ≡ v.name = (copies_of (goes_by s.value s.offset j) v f.body).name in
    record {
      items = last_items first s j u.names h.items;
      functions = record {
        forms = λ k e at. ⊎_elim (λ old. form_later (whole j) (whole u) k 4294967295 e.0 more (h.functions.forms k e old.1)) (λ new. subst (λ (x : FunctionValue × Span). IsFunctionFormed (whole u) k 4294967295 x.0) new.1 (subst (λ y. IsFunctionFormed (whole u) y 4294967295 w) (sym new.0) own)) (last_or j.functions last k e at);
        spans = λ k e at. ⊎_elim (λ old. h.functions.spans k e old.1) (λ new. subst (λ (x : FunctionValue × Span). IsSpanFine 4294967295 x.1) new.1 (shifted_fine s.offset span fine)) (last_or j.functions last k e at);
      };
      without_entries = h.without_entries;
      known = record {
        known = λ k e at. ⊎_elim (λ old. meaning_other j.names j.names v.name e.0.name n k unknown (h.known.known k e old.1) (h.known.known k e old.1)) (λ new. subst (λ (x : FunctionValue × Span). meant u.names x.0.name ≡ Some k) new.1 (ap (meant u.names) name ∙ meaning_same j.names v.name n named ∙ ap Some (sym new.0))) (last_or j.functions last k e at);
        there = λ x k e. ⊎_elim (λ old. let l = h.known.there x k old in omega (arith, l, long)) (λ new. let y = new.1 in omega (arith, y, long)) (meaning_cases j.names v.name x n k e);
      };
    }

-- ---- a call

abbrev FormedSource : Source → Type 0
FormedSource s = AreFunctionsFormed s.value 4294967295

no_meaning : (s : Source) (c : ℕ) (i j : ImportState) (x : Text) → Later s c i j → meant i.names x ≡ None → ((k : ℕ) (e : FunctionValue × Span) → k < c → slice_get s.value.functions k ≡ Some e → e.0.name ≡ x → ⊥) → (o : Option ℕ) → meant j.names x ≡ o → meant j.names x ≡ None
no_meaning s c i j x l n f None e = e
no_meaning s c i j x l n f (Some h) e = ⊎_elim (λ old. absurd (none-some h (sym n ∙ old))) (λ y. absurd (f y.0 y.1 y.2 y.3 y.4)) (l.new x h e)

-- a function that may be imported is imported after what it names
pub copy_imports : (first : Kept) (s : Source) (c : ℕ) (f : Caller) (i : ImportState) (v : FunctionValue) (span : Span) → CallsBefore first s c f → MayCome s.value c v span → IsImporting first s i → meant i.names v.name ≡ None → let j = answer_by (answer_one f s.value s.offset) i (requests_of v) in IsImporting first s (import_copy_by f s.value s.offset i v span) × Later s c i j × (meant j.names v.name ≡ None)
copy_imports first s c f i v span calls may h unknown =
    let j = answer_by (answer_one f s.value s.offset) i (requests_of v) in
    let room = may.among in
    let asks = function_there s.value (λ k. k < c) c 4294967295 v (λ g l. (omega (arith, l, room), l)) may.form in
    let all = all_import first s c f calls (requests_of v) i h asks in
    let still = no_meaning s c i j v.name all.0.later unknown may.apart (meant j.names v.name) refl in
    (function_comes first s j c v span all.0.importing may.form all.1 may.named still may.spanned, all.0.later, still)

-- each function of a source may be imported
pub each_comes : (m : ModuleValue) (k : ℕ) (e : FunctionValue × Span) → AreFunctionsFormed m 4294967295 → slice_get m.functions k ≡ Some e → MayCome m k e.0 e.1
each_comes m k e f at = record {
  named = f.named k e at;
  among = (let l = slice_get_within m.functions k e at in omega (arith, l));
  apart = λ j x l there same. (let g = f.distinct j k x e there at same in omega (arith, l, g));
  form = f.forms k e at;
  spanned = f.spans k e at;
}

-- a later state, after a function was appended
last_later : (s : Source) (k : ℕ) (e : FunctionValue × Span) (i j : ImportState) → slice_get s.value.functions k ≡ Some e → meant j.names e.0.name ≡ None → Later s k i j → Later s (suc k) i (with_function s.value s.offset j e.0 e.1)
last_later s k e i j at unknown l =
    let u = with_function s.value s.offset j e.0 e.1 in
    let long = long_push j.functions (copy_function (goes_by s.value s.offset j) e.0, shifted s.offset e.1) in
    record {
      went = l.went;
      stays = l.stays;
      means = λ x h g. meaning_other j.names j.names e.0.name x (length j.functions) h unknown (l.means x h g) (l.means x h g);
      grows = (let g = l.grows in omega (arith, g, long));
      more = more_both (whole i) (whole j) (whole u) l.more (record { types = omega arith; constants = omega arith; overrides = omega arith; globals = omega arith; expressions = omega arith; functions = omega (arith, long) });
      new = λ x h g. ⊎_elim (λ old. ⊎_elim inl (λ y. let b = y.2 in inr (y.0, y.1, omega (arith, b), y.3, y.4)) (l.new x h old)) (λ y. inr (k, e, omega arith, at, sym y.0)) (meaning_cases j.names e.0.name x (length j.functions) h g);
    }

call_some : (first : Kept) (s : Source) (f : Caller) (i : ImportState) (k : ℕ) (e : FunctionValue × Span) → FormedSource s → CallsBefore first s k f → IsImporting first s i → slice_get s.value.functions k ≡ Some e → (o : Option ℕ) → meant i.names e.0.name ≡ o → let u = import_callee_by f s.value s.offset i (Some e) in Imports first s (suc k) i u × AnsweredIn s u (Call k)
call_some first s f i k e formed calls h at (Some y) is =
    let same : import_callee_by f s.value s.offset i (Some e) ≡ i = ap (λ o. if is_some o then i else import_copy_by f s.value s.offset i e.0 e.1) is in
    let known : meant_at i.names (slice_get s.value.functions k) ≡ Some y = ap (meant_at i.names) at ∙ is in
    subst (λ u. Imports first s (suc k) i u × AnsweredIn s u (Call k)) (sym same) (record { importing = h; later = later_same s (suc k) i }, (y, known, h.known.there e.0.name y is))
call_some first s f i k e formed calls h at None is =
    let j = answer_by (answer_one f s.value s.offset) i (requests_of e.0) in
    let u = import_copy_by f s.value s.offset i e.0 e.1 in
    let same : import_callee_by f s.value s.offset i (Some e) ≡ u = ap (λ o. if is_some o then i else u) is in
    let come = copy_imports first s k f i e.0 e.1 calls (each_comes s.value k e formed at) h is in
    let n = length j.functions in
    let means : meant_at u.names (slice_get s.value.functions k) ≡ Some n = ap (meant_at u.names) at ∙ meaning_same j.names e.0.name n (formed.named k e at) in
    subst (λ x. Imports first s (suc k) i x × AnsweredIn s x (Call k)) (sym same) (record { importing = come.0; later = last_later s k e i j at come.2 come.1 }, (n, means, come.0.known.there e.0.name n (meaning_same j.names e.0.name n (formed.named k e at))))

call_by : (first : Kept) (s : Source) (f : Caller) (i : ImportState) (k : ℕ) → FormedSource s → CallsBefore first s k f → IsImporting first s i → k < length s.value.functions → (o : Option (FunctionValue × Span)) → slice_get s.value.functions k ≡ o → let u = import_callee_by f s.value s.offset i o in Imports first s (suc k) i u × AnsweredIn s u (Call k)
call_by first s f i k formed calls h l None at = absurd (let x = function_at s.value.functions k l in none-some x.0 (sym at ∙ x.1))
  where
    function_at : (fs : List (FunctionValue × Span)) (k : ℕ) → k < length fs → (e : FunctionValue × Span) × (slice_get fs k ≡ Some e)
    function_at [] k l = absurd (omega (arith, l))
    function_at (x ∷ fs) zero l = (x, refl)
    function_at (x ∷ fs) (suc k) l = function_at fs k (omega (arith, l))
call_by first s f i k formed calls h l (Some e) at = call_some first s f i k e formed calls h at (meant i.names e.0.name) refl

pub calls_before : (first : Kept) (s : Source) → FormedSource s → (n c : ℕ) → c ≤ n → CallsBefore first s c (import_callee n s.value s.offset)
unfolding import_callee
calls_before first s formed zero c b i k h l r = absurd (omega (arith, b, l))
calls_before first s formed (suc n) c b i k h l r =
    let one = call_by first s (import_callee n s.value s.offset) i k formed (calls_before first s formed n k (omega (arith, b, l))) h r (slice_get s.value.functions k) refl in
    (record { importing = one.0.importing; later = later_more s (suc k) c i _ (omega (arith, l)) one.0.later }, one.1)
