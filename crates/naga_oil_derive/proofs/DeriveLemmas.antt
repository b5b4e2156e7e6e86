use Rattle.std.proofs.Common.{◌≡◌, ◌⊎◌, inl, inr, ⊎_elim, ℕ, Bool, true, false, List, [], ◌∷◌, ◌++◌, map, Option, Some, None, option_map, option_to_list, is_some, if◌then◌else◌, ◌==◌, refl, ap, sym, ◌∙◌, subst, All, Vec, Global}
use Rattle.std.proofs.lemmas.List.{append_assoc}
use Rattle.std.proofs.lemmas.List.Elements.{All-head, All-tail, All-cons, All-nil}
use Rattle.naga_oil_form.specs.ItemForm.{special_types}
use Rattle.naga_oil_ir.specs.Parts.{parts}
use Rattle.naga_oil_ir.specs.Rows.{Row, type_row, constant_row, override_row, global_row}
use Rattle.naga_oil_ir.specs.ModuleValue.{SpecialValue, special_value, entry_value, function_value, no_items}
use Rattle.naga_oil_ir.specs.declared.expression.Expression.{Expression}
use Rattle.naga_oil_ir.specs.declared.module.Function.{Function}
use Rattle.naga_oil_ir.specs.declared.module.Module.{Module}
use Rattle.naga_oil_ir.specs.declared.module.SpecialTypes.{SpecialTypes}
use Rattle.naga_oil_ir.specs.declared.span.Span.{Span}
use Rattle.naga_oil_ir.specs.declared.types.Type.{«Type» as TypeOfShader}
use Rattle.naga_oil_ir.specs.declared.types.Constant.{Constant as ConstantItself}
use Rattle.naga_oil_ir.specs.declared.types.Override.{Override as OverrideItself}
use Rattle.naga_oil_ir.specs.declared.types.GlobalVariable.{GlobalVariable as GlobalItself}
use Rattle.naga_oil_ir.specs.declared.names.ItemPlace.{ItemPlace}
use Rattle.naga_oil_ir.specs.declared.names.ItemPlace.TheVariants.{TypeItem, ConstantItem, OverrideItem, GlobalItem, ExpressionItem}
use Rattle.naga_oil_derive.specs.declared.maps.Maps.{Maps}
use Rattle.naga_oil_derive.specs.declared.special.SpecialKey.{SpecialKey}
use Rattle.naga_oil_derive.specs.declared.special.SpecialKey.TheVariants.{RayDesc, RayIntersection, RayVertexReturn, Predeclared}
use Rattle.naga_oil_derive.specs.Tree.{World}
use Rattle.naga_oil_rename.specs.Renames.{under_name}
use Rattle.naga_oil_derive.specs.World.{value_of, world, named_world, name_at, special_entry, special_entries, special_at, or_option, kept_in, with_special, with_specials}
use Rattle.naga_oil_derive.specs.Copying.{Goes, Grows, places_of, goes_under}
use Rattle.naga_oil_derive.specs.Derived.{Source, IsLaterSource}
use Rattle.naga_oil_derive.proofs.TreeLemmas.{same_number}
use Rattle.naga_oil_form.proofs.LinkLemmas.{eqb_eq}
use Rattle.naga_oil_derive.proofs.SpecialLemmas.{Entry, coded, entries_nested, more_case, special_set, special_others}

-- ---- the module of nothing

pub value_empty : (m : Module) → (m.special_types.ray_desc ≡ None) × (m.special_types.ray_intersection ≡ None) × (m.special_types.ray_vertex_return ≡ None) × (m.special_types.predeclared_types.entries ≡ []) → (m.types ≡ []) × (m.constants ≡ []) × (m.overrides ≡ []) × (m.global_variables ≡ []) × (m.global_expressions ≡ []) → (m.functions ≡ []) × (m.entry_points.items ≡ []) → (m.diagnostic_filters.items ≡ []) × (m.diagnostic_filter_leaf ≡ None) × (m.doc_comments ≡ None) → value_of m ≡ no_items
unfolding value_of
value_empty m s t f r = λ i. record {
  types = map (λ (e : TypeOfShader × Span). (type_row e.0, e.1)) (t.0 i);
  special_types = record { ray_desc = s.0 i; ray_intersection = s.1 i; ray_vertex_return = s.2 i; predeclared_types = s.3 i };
  constants = map (λ (e : ConstantItself × Span). (constant_row e.0, e.1)) (t.1 i);
  overrides = map (λ (e : OverrideItself × Span). (override_row e.0, e.1)) (t.2 i);
  global_variables = map (λ (e : GlobalItself × Span). (global_row e.0, e.1)) (t.3 i);
  global_expressions = map (λ (e : Expression × Span). (parts e.0, e.1)) (t.4 i);
  functions = map (λ (e : Function × Span). (function_value e.0, e.1)) (f.0 i);
  entry_points = map entry_value (f.1 i);
  diagnostic_filters = r.0 i;
  diagnostic_filter_leaf = r.1 i;
  doc_comments = option_map (λ (v : Vec ℕ Global). v.items) (r.2 i);
}

pub world_empty : (p : ItemPlace) → world no_items p ≡ None
unfolding world
world_empty (TypeItem k) = refl
world_empty (ConstantItem k) = refl
world_empty (OverrideItem k) = refl
world_empty (GlobalItem k) = refl
world_empty (ExpressionItem k) = refl

pub nothing_some : (o : Option Row) (r : Row) → o ≡ None → o ≡ Some r → ⊥
nothing_some o r e f = let g : None ≡ Some r = sym e ∙ f in cc

pub special_none : (key : SpecialKey) → special_at no_items.special_types key ≡ None
special_none RayDesc = refl
special_none RayIntersection = refl
special_none RayVertexReturn = refl
special_none (Predeclared c) = refl

pub special_of : (m : Module) → special_value m.special_types ≡ (value_of m).special_types
unfolding value_of
special_of m = refl

pub no_place : (o : Option ℕ) (q : ℕ) → o ≡ None → o ≡ Some q → ⊥
no_place o q e f = let g : None ≡ Some q = sym e ∙ f in cc

-- ---- where kept types come from

kept_key_step : (f : SpecialKey → Option ℕ) (key : SpecialKey) (o : Option ℕ) (q : ℕ) → (o ≡ Some q → (k : SpecialKey) × (f k ≡ Some q)) → (b : Bool) → or_option o (if b then f key else None) ≡ Some q → (k : SpecialKey) × (f k ≡ Some q)
kept_key_step f key (Some x) q ih b e = ih e
kept_key_step f key None q ih true e = (key, e)
kept_key_step f key None q ih false e = cc

pub kept_key : (f : SpecialKey → Option ℕ) (es : List Entry) (h q : ℕ) → kept_in f es h ≡ Some q → (k : SpecialKey) × (f k ≡ Some q)
kept_key f [] h q e = cc
kept_key f (x ∷ es) h q e = kept_key_step f x.0 (kept_in f es h) q (kept_key f es h q) (x.1 == h) e

kept_handle_step : (P : ℕ → Type 0) (f : SpecialKey → Option ℕ) (x : Entry) (o : Option ℕ) (h q : ℕ) → P x.1 → (o ≡ Some q → P h) → (b : Bool) → (x.1 == h) ≡ b → or_option o (if b then f x.0 else None) ≡ Some q → P h
kept_handle_step P f x (Some y) h q here ih b g e = ih e
kept_handle_step P f x None h q here ih true g e = subst P (eqb_eq x.1 h g) here
kept_handle_step P f x None h q here ih false g e = cc

pub kept_handle : (P : ℕ → Type 0) (f : SpecialKey → Option ℕ) (es : List Entry) (h q : ℕ) → All (λ e. P e.1) es → kept_in f es h ≡ Some q → P h
kept_handle P f [] h q a e = cc
kept_handle P f (x ∷ es) h q a e =
    kept_handle_step P f x (kept_in f es h) h q (All-head (λ v. P v.1) x es a) (λ i. kept_handle P f es h q (All-tail (λ v. P v.1) x es a) i) (x.1 == h) refl e

-- ---- the special types of a source are there

entry_there : (P : ℕ → Type 0) (key : SpecialKey) (o : Option ℕ) (xs : List ℕ) (es : List Entry) → (All P xs → All (λ e. P e.1) es) → All P (option_to_list o ++ xs) → All (λ e. P e.1) (special_entry key o ++ es)
entry_there P key None xs es f a = f a
entry_there P key (Some h) xs es f a = All-cons (λ e. P e.1) (key, h) es (All-head P h xs a) (f (All-tail P h xs a))

coded_there : (P : ℕ → Type 0) (es : List (ℕ × ℕ)) → All P (map (λ e. e.1) es) → All (λ (e : Entry). P e.1) (map (λ e. (Predeclared e.0, e.1)) es)
coded_there P [] a = All-nil (λ (e : Entry). P e.1)
coded_there P (x ∷ es) a = All-cons (λ (e : Entry). P e.1) (Predeclared x.0, x.1) _ (All-head P x.1 (map (λ e. e.1) es) a) (coded_there P es (All-tail P x.1 (map (λ e. e.1) es) a))

types_nested : (a b c : Option ℕ) (ds : List ℕ) → option_to_list a ++ option_to_list b ++ option_to_list c ++ ds ≡ option_to_list a ++ (option_to_list b ++ (option_to_list c ++ ds))
types_nested a b c ds = append_assoc (option_to_list a ++ option_to_list b) (option_to_list c) ds ∙ append_assoc (option_to_list a) (option_to_list b) (option_to_list c ++ ds)

pub entries_there : (P : ℕ → Type 0) (s : SpecialTypes) → All P (special_types s) → All (λ e. P e.1) (special_entries (special_value s))
entries_there P s a =
    let ds = map (λ (e : ℕ × ℕ). e.1) s.predeclared_types.entries in
    let cs = coded s.predeclared_types.entries in
    let last = special_entry RayVertexReturn s.ray_vertex_return ++ cs in
    let third = option_to_list s.ray_vertex_return ++ ds in
    let nested = subst (All P) (types_nested s.ray_desc s.ray_intersection s.ray_vertex_return ds) a in
    subst (All (λ (e : Entry). P e.1)) (sym (entries_nested (special_value s))) (entry_there P RayDesc s.ray_desc (option_to_list s.ray_intersection ++ third) (special_entry RayIntersection s.ray_intersection ++ last) (entry_there P RayIntersection s.ray_intersection third last (entry_there P RayVertexReturn s.ray_vertex_return ds cs (coded_there P s.predeclared_types.entries))) nested)

-- ---- a source that is set: kept types are mapped, and nothing else is

pub or_nothing : (a b : Option ℕ) → b ≡ None → or_option a b ≡ a
or_nothing None b e = e
or_nothing (Some x) b e = refl

pub some_mapped : (o : Option ℕ) (q : ItemPlace) → option_map TypeItem o ≡ Some q → (k : ℕ) × (o ≡ Some k) × (q ≡ TypeItem k)
some_mapped None q e = cc
some_mapped (Some k) q e = let g : TypeItem k ≡ q = cc in (k, refl, sym g)

pub named_there : (w v : World) (m : Goes) (p : ItemPlace) (r : Row) → w p ≡ Some r → (x : Row) × (named_world w v m p ≡ Some x)
unfolding named_world
named_there w v m p r e = (under_name (name_at v (m p)) r, ap (option_map (under_name (name_at v (m p)))) e)

-- ---- special types that are set

same_place_of : (o : Option ℕ) (x q : ℕ) → o ≡ Some x → o ≡ Some q → x ≡ q
same_place_of o x q e f = let g : Some x ≡ Some q = sym e ∙ f in cc

same_key : (j k : SpecialKey) → (j ≡ k) ⊎ (j ≡ k → ⊥)
same_key RayDesc RayDesc = inl refl
same_key RayIntersection RayIntersection = inl refl
same_key RayVertexReturn RayVertexReturn = inl refl
same_key (Predeclared a) (Predeclared b) = ⊎_elim (λ e. inl (ap Predeclared e)) (λ n. inr (λ e. n (let g : a ≡ b = cc in g))) (same_number a b)
same_key _ _ = inr (λ e. cc)

set_there : (P : ℕ → Type 0) (s : SpecialValue) (key : SpecialKey) (x : ℕ) → P x → special_at s key ≡ None → ((k : SpecialKey) (q : ℕ) → special_at s k ≡ Some q → P q) → (k : SpecialKey) (q : ℕ) → special_at (with_special s key x) k ≡ Some q → P q
set_there P s key x here none h k q e =
    ⊎_elim (λ g. subst P (same_place_of _ x q (ap (special_at (with_special s key x)) g ∙ special_set s key x none) e) here) (λ n. h k q (sym (special_others s key k x n) ∙ e)) (same_key k key)

one_there : (P : ℕ → Type 0) (s : SpecialValue) (f : ℕ → ℕ) (x : Entry) → P (f x.1) → ((k : SpecialKey) (q : ℕ) → special_at s k ≡ Some q → P q) → (k : SpecialKey) (q : ℕ) → special_at (if is_some (special_at s x.0) then s else with_special s x.0 (f x.1)) k ≡ Some q → P q
one_there P s f x here h = more_case s f x (λ t. (k : SpecialKey) (q : ℕ) → special_at t k ≡ Some q → P q) (λ y g. h) (λ g k q e. set_there P s x.0 (f x.1) here g h k q e) (special_at s x.0) refl

pub more_there : (P : ℕ → Type 0) (s : SpecialValue) (f : ℕ → ℕ) (es : List Entry) → All (λ e. P (f e.1)) es → ((k : SpecialKey) (q : ℕ) → special_at s k ≡ Some q → P q) → (k : SpecialKey) (q : ℕ) → special_at (with_specials s f es) k ≡ Some q → P q
more_there P s f [] a h k q e = h k q e
more_there P s f (x ∷ es) a h k q e =
    more_there P (if is_some (special_at s x.0) then s else with_special s x.0 (f x.1)) f es (All-tail (λ v. P (f v.1)) x es a) (one_there P s f x (All-head (λ v. P (f v.1)) x es a) h) k q e

-- ---- all keys are settled: what is kept then stands

pub flat_some : (o : Option ℕ) (q : ℕ) → option_map TypeItem o ≡ Some (TypeItem q) → o ≡ Some q
flat_some None q e = cc
flat_some (Some k) q e = let g : k ≡ q = cc in ap Some g

pub mapped_none : (o : Option ℕ) → option_map TypeItem o ≡ None → o ≡ None
mapped_none None e = refl
mapped_none (Some k) e = cc

-- ---- what callers see

abbrev pub source_at : Module → Maps → Source
source_at s m = record { value = value_of s; offset = m.offset; places = places_of m }

pub later_source : (s t u : Module) (m n : Maps) → Grows m n t u → IsLaterSource (source_at s m) (source_at s n)
unfolding goes_under
later_source s t u m n g = record { value = refl; offset = g.offset; went = g.went }
