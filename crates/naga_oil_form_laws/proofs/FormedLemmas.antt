-- A derived module stays formed, items and functions.
use Rattle.std.proofs.Common.{◌≡◌, ℕ, is_some, if◌then◌else◌, List, [], length, Option, Some, None, IsSome, slice_get, refl, ap, sym, ◌∙◌, subst, arith, IfSome}
use Rattle.std.proofs.lemmas.Bool.{false≢true}
use Rattle.std.proofs.lemmas.List.Elements.{All-weaker}
use Rattle.std.proofs.lemmas.Option.{none-some, same_Some}
use Rattle.naga_oil_ir.specs.ModuleValue.{ModuleValue, FunctionValue}
use Rattle.naga_oil_ir.specs.Rows.{Text}
use Rattle.naga_oil_ir.specs.declared.names.ItemPlace.{ItemPlace}
use Rattle.naga_oil_ir.specs.declared.names.ItemPlace.TheVariants.{TypeItem, ConstantItem, OverrideItem, GlobalItem, ExpressionItem}
use Rattle.naga_oil_ir.specs.declared.span.Span.{Span}
use Rattle.naga_oil_derive.specs.Tree.{Kept}
use Rattle.naga_oil_derive.specs.World.{span_at, Extends, special_entries, kept_of}
use Rattle.naga_oil_derive.specs.Derived.{Source, Derived, nothing, cleared, HasItem, with_special_types}
use Rattle.naga_oil_derive.specs.DerivedFunctions.{Meanings, meant}
use Rattle.naga_oil_derive.specs.DerivedValue.{import_item, rename_type, import_function, import_function_if_new, set_source, importing_of, after_importing}
use Rattle.naga_oil_derive.specs.Answered.{ImportState, import_callee, import_copy_by}
use Rattle.naga_oil_derive.proofs.AnsweredLaws.{derived_given}
use Rattle.naga_oil_derive.proofs.DerivedLaws.{import_law, rename_law}
use Rattle.naga_oil_derive.proofs.HavingLemmas.{given, world_given}
use Rattle.naga_oil_derive.proofs.SetLaws.{set_law}
use Rattle.naga_oil_derive.proofs.SpecialLemmas.{Entry}
use Rattle.naga_oil_form_laws.specs.DerivedForm.{HasFormedItems, IsFormed, MayBeImported}
use Rattle.naga_oil_form_laws.specs.FunctionForm.{AreFunctionsFormed, AreKnown}
use Rattle.naga_oil_form_laws.specs.ItemsStand.{ItemsStand, IsIn, IsUnsized, IsPlain, AllReached, MayBeSpecial, AreFormed}
use Rattle.naga_oil_form_laws.proofs.DerivedLemmas.{nothing_has, cleared_has, import_formed, rename_formed, set_formed}
use Rattle.naga_oil_form_laws.proofs.RankLemmas.{formed_copyable}
use Rattle.naga_oil_form_laws.proofs.ImportLemmas.{HasMore, extends_more, form_later, HaveForms, IsImporting, calls_before, copy_imports}

-- ---- items don't depend on functions

span_given : (t : ModuleValue) (fs : List (FunctionValue × Span)) (p : ItemPlace) → span_at (given t fs) p ≡ span_at t p
unfolding span_at
span_given t fs (TypeItem k) = refl
span_given t fs (ConstantItem k) = refl
span_given t fs (OverrideItem k) = refl
span_given t fs (GlobalItem k) = refl
span_given t fs (ExpressionItem k) = refl

special_given : (t : ModuleValue) (fs : List (FunctionValue × Span)) (k : ℕ) → MayBeSpecial t k → MayBeSpecial (given t fs) k
special_given t fs k h = record {
  there = subst (λ w. IsIn w (TypeItem k)) (sym (world_given t fs)) h.there;
  unsized = subst (λ w. IsUnsized w k) (sym (world_given t fs)) h.unsized;
  plain = subst (λ w. AllReached w (IsPlain t.special_types) k) (sym (world_given t fs)) h.plain;
}

pub formed_given : (t : ModuleValue) (fs : List (FunctionValue × Span)) → AreFormed t → AreFormed (given t fs)
formed_given t fs h = record {
  kinds = λ p r e. h.kinds p r (ap (λ w. w p) (sym (world_given t fs)) ∙ e);
  keys = h.keys;
  items = subst ItemsStand (sym (world_given t fs)) h.items;
  special = All-weaker (λ (e : Entry). MayBeSpecial t e.1) (λ (e : Entry). MayBeSpecial (given t fs) e.1) (λ e i. special_given t fs e.1 i) (special_entries t.special_types) h.special;
  spans = λ p s e. h.spans p s (sym (span_given t fs p) ∙ e);
}

items_given : (first : Kept) (s : Source) (t : ModuleValue) (fs : List (FunctionValue × Span)) (ns qs : Meanings) → HasFormedItems first (record { source = Some s; target = t; function_names = ns }) → HasFormedItems first (record { source = Some s; target = given t fs; function_names = qs })
items_given first s t fs ns qs h = record { derivation = derived_given first s t fs ns qs h.derivation; target = formed_given t fs h.target; source = h.source }

-- ---- functions

-- what is known by its name has one, which no other has
pub known_formed : (m : ModuleValue) (ns : Meanings) → HaveForms m → AreKnown m.functions ns → AreFunctionsFormed m 4294967295
known_formed m ns f k = record {
  named = λ i e at. named_by e.0.name i (k.known i e at);
  distinct = λ i j e g at there same. same_Some i j (sym (k.known i e at) ∙ ap (meant ns) same ∙ k.known j g there);
  forms = f.forms;
  spans = f.spans;
}
  where
    named_by : (x : Text) (i : ℕ) → meant ns x ≡ Some i → IsSome x
    named_by None i e = absurd (none-some i e)
    named_by (Some n) i e = refl

functions_later : (m n : ModuleValue) → HasMore m n → n.functions ≡ m.functions → AreFunctionsFormed m 4294967295 → AreFunctionsFormed n 4294967295
functions_later m n h e f =
    let at = λ (k : ℕ) (x : FunctionValue × Span) (i : slice_get n.functions k ≡ Some x). (let j : slice_get m.functions k ≡ Some x = ap (λ fs. slice_get fs k) (sym e) ∙ i in j) in
    record {
      named = λ k x i. f.named k x (at k x i);
      distinct = λ j k x y a b same. f.distinct j k x y (at j x a) (at k y b) same;
      forms = λ k x i. form_later m n k 4294967295 x.0 h (f.forms k x (at k x i));
      spans = λ k x i. f.spans k x (at k x i);
    }

known_later : (fs gs : List (FunctionValue × Span)) (ns qs : Meanings) → gs ≡ fs → qs ≡ ns → AreKnown fs ns → AreKnown gs qs
known_later fs gs ns qs e h k = subst (λ x. AreKnown x qs) (sym e) (subst (AreKnown fs) (sym h) k)

same_functions : (m n : ModuleValue) → Extends m n → n.functions ≡ m.functions
same_functions m n e = ap (λ (v : ModuleValue). v.functions) e.rest

pub has_more : (m n : ModuleValue) → Extends m n → HasMore m n
has_more m n e = extends_more m n m.functions n.functions e (let s = ap length (same_functions m n e) in omega (arith, s))

-- ---- items are imported

abbrev derivation : Option Source → ModuleValue → Meanings → Derived
derivation o t ns = record { source = o; target = t; function_names = ns }

items_came : (first : Kept) (d e : Derived) → IsFormed first d → HasFormedItems first e → Extends d.target e.target → e.function_names ≡ d.function_names → IfSome e.source (λ s. AreFunctionsFormed s.value 4294967295) → IsFormed first e
items_came first d e f h ext names source = record {
  items = h;
  functions = functions_later d.target e.target (has_more d.target e.target ext) (same_functions d.target e.target ext) f.functions;
  known = known_later d.target.functions e.target.functions d.function_names e.function_names (same_functions d.target e.target ext) names f.known;
  without_entries = ap (λ (v : ModuleValue). v.entry_points) ext.rest ∙ f.without_entries;
  source = source;
}

import_any : (first : Kept) (o : Option Source) (t : ModuleValue) (ns : Meanings) (p : ItemPlace) → IsFormed first (derivation o t ns) → HasItem (derivation o t ns) p → IsFormed first (import_item (derivation o t ns) p)
import_any first None t ns p f h = absurd (false≢true h.0)
import_any first (Some s) t ns p f h =
    let g = import_law first (derivation (Some s) t ns) p f.items.derivation h in
    items_came first (derivation (Some s) t ns) (import_item (derivation (Some s) t ns) p) f (import_formed first (derivation (Some s) t ns) p f.items h) g.keeps.items g.keeps.names f.source

pub imported : (first : Kept) (d : Derived) (p : ItemPlace) → IsFormed first d → HasItem d p → IsFormed first (import_item d p)
imported first d p f h = import_any first d.source d.target d.function_names p f h

rename_any : (first : Kept) (o : Option Source) (t : ModuleValue) (ns : Meanings) (k : ℕ) (name : Option Text) → IsFormed first (derivation o t ns) → HasItem (derivation o t ns) (TypeItem k) → IsFormed first (rename_type (derivation o t ns) k name)
rename_any first None t ns k name f h = absurd (false≢true h.0)
rename_any first (Some s) t ns k name f h =
    let g = rename_law first (derivation (Some s) t ns) k name f.items.derivation h in
    items_came first (derivation (Some s) t ns) (rename_type (derivation (Some s) t ns) k name) f (rename_formed first (derivation (Some s) t ns) k name f.items h) g.keeps.items g.keeps.names f.source

pub renamed : (first : Kept) (d : Derived) (k : ℕ) (name : Option Text) → IsFormed first d → HasItem d (TypeItem k) → IsFormed first (rename_type d k name)
renamed first d k name f h = rename_any first d.source d.target d.function_names k name f h

-- ---- a source is set or unset

pub source_set : (first : Kept) (d : Derived) (m : ModuleValue) (shift : ℕ) → IsFormed first d → AreFormed m → AreFunctionsFormed m 4294967295 → IsFormed (kept_of m.special_types d.target.special_types) (set_source d m shift)
source_set first d m shift f i g =
    let e = set_source d m shift in
    let keeps = (set_law first d m shift f.items.derivation (formed_copyable m i).0 (formed_copyable m i).1).keeps in
    let same : e.target.functions ≡ d.target.functions = ap (λ (v : ModuleValue). v.functions) keeps.items.rest in
    let more : HasMore d.target e.target = let x = has_more d.target (with_special_types e.target d.target) keeps.items in record { types = x.types; constants = x.constants; overrides = x.overrides; globals = x.globals; expressions = x.expressions; functions = x.functions } in
    record {
      items = set_formed first d m shift f.items i;
      functions = functions_later d.target e.target more same f.functions;
      known = known_later d.target.functions e.target.functions d.function_names e.function_names same keeps.names f.known;
      without_entries = ap (λ (v : ModuleValue). v.entry_points) keeps.items.rest ∙ f.without_entries;
      source = g;
    }

pub source_cleared : (first later : Kept) (d : Derived) → IsFormed first d → IsFormed later (cleared d)
source_cleared first later d f = record { items = cleared_has first later d f.items; functions = f.functions; known = f.known; without_entries = f.without_entries; source = tt }

pub nothing_is : (first : Kept) → IsFormed first nothing
nothing_is first = record {
  items = nothing_has first;
  functions = record { named = λ k e at. absurd (none-some e at); distinct = λ j k e g at there same. absurd (none-some e at); forms = λ k e at. absurd (none-some e at); spans = λ k e at. absurd (none-some e at) };
  known = record { known = λ k e at. absurd (none-some e at); there = λ x k e. absurd (nothing_meant x k e) };
  without_entries = refl;
  source = tt;
}
  where
    nothing_meant : (x : Text) (k : ℕ) → meant [] x ≡ Some k → ⊥
    nothing_meant None k e = none-some k e
    nothing_meant (Some n) k e = none-some k e

-- ---- functions are imported

pub import_begins : (first : Kept) (s : Source) (t : ModuleValue) (ns : Meanings) → IsFormed first (derivation (Some s) t ns) → IsImporting first s (importing_of (derivation (Some s) t ns) s)
import_begins first s t ns f = record {
  items = items_given first s t [] ns ns f.items;
  functions = record { forms = f.functions.forms; spans = f.functions.spans };
  known = f.known;
  without_entries = f.without_entries;
}

pub import_ends : (first : Kept) (s : Source) (u : ImportState) → AreFunctionsFormed s.value 4294967295 → IsImporting first s u → IsFormed first (after_importing s u)
import_ends first s u g h = record {
  items = items_given first (record { value = s.value; offset = s.offset; places = u.copying.places }) u.copying.target u.functions u.names u.names h.items;
  functions = known_formed (given u.copying.target u.functions) u.names h.functions h.known;
  known = h.known;
  without_entries = h.without_entries;
  source = g;
}

function_any : (first : Kept) (o : Option Source) (t : ModuleValue) (ns : Meanings) (c : ℕ) (v : FunctionValue) (span : Span) → IsFormed first (derivation o t ns) → MayBeImported (derivation o t ns) c v span → meant ns v.name ≡ None → IsFormed first (import_function (derivation o t ns) v span)
function_any first None t ns c v span f h n = absurd (false≢true h.0)
function_any first (Some s) t ns c v span f h n =
    let i = importing_of (derivation (Some s) t ns) s in
    let size = length s.value.functions in
    let come = copy_imports first s c (import_callee size s.value s.offset) i v span (calls_before first s f.source size c h.1.among) h.1 (import_begins first s t ns f) n in
    import_ends first s (import_copy_by (import_callee size s.value s.offset) s.value s.offset i v span) f.source come.0

pub function_imported : (first : Kept) (d : Derived) (c : ℕ) (v : FunctionValue) (span : Span) → IsFormed first d → MayBeImported d c v span → meant d.function_names v.name ≡ None → IsFormed first (import_function d v span)
function_imported first d c v span f h n = function_any first d.source d.target d.function_names c v span f h n

if_new : (first : Kept) (d : Derived) (c : ℕ) (v : FunctionValue) (span : Span) → IsFormed first d → MayBeImported d c v span → (o : Option ℕ) → meant d.function_names v.name ≡ o → IsFormed first (if is_some o then d else import_function d v span)
if_new first d c v span f h None e = function_imported first d c v span f h e
if_new first d c v span f h (Some k) e = f

pub function_if_new : (first : Kept) (d : Derived) (c : ℕ) (v : FunctionValue) (span : Span) → IsFormed first d → MayBeImported d c v span → IsFormed first (import_function_if_new d v span)
function_if_new first d c v span f h = if_new first d c v span f h (meant d.function_names v.name) refl
