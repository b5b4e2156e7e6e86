-- Copies of entry points, one after another.
use Rattle.std.proofs.Common.{◌≡◌, ⊎_elim, inl, inr, ℕ, zero, suc, List, [], ◌∷◌, length, map, slice_get, Option, Some, None, IsSome, option_map, IfSome, refl, ap, sym, ◌∙◌, subst, All}
use Rattle.std.specs.Borrow.{Bor}
use Rattle.std.proofs.lemmas.Bool.{false≢true}
use Rattle.std.proofs.lemmas.List.{append-nil}
use Rattle.std.proofs.lemmas.List.Elements.{All-nil, All-cons, All-head, All-tail, All-weaker}
use Rattle.naga_oil_ir.specs.Rows.{Row, Text}
use Rattle.naga_oil_ir.specs.ModuleValue.{ModuleValue, FunctionValue, EntryValue, entry_value}
use Rattle.naga_oil_ir.specs.declared.module.EntryPoint.{EntryPoint}
use Rattle.naga_oil_ir.specs.declared.module.MeshInfo.{MeshInfo}
use Rattle.naga_oil_ir.specs.declared.module.Module.{Module}
use Rattle.naga_oil_ir.specs.declared.names.ItemPlace.{ItemPlace}
use Rattle.naga_oil_ir.specs.declared.names.ItemPlace.TheVariants.{TypeItem, GlobalItem, ExpressionItem}
use Rattle.naga_oil_ir.specs.declared.span.Span.{Span}
use Rattle.naga_oil_derive.specs.World.{value_of, world, Extends}
use Rattle.naga_oil_derive.specs.Derived.{Source, Derived, HasItem, KeepsSource, Keeps}
use Rattle.naga_oil_derive.specs.DerivedFunctions.{Meanings, meant, meant_at, MayAsk, MayCopy, MayCall, MayReach, CanCopy, requests_of, with_functions, KeepsFunctions}
use Rattle.naga_oil_derive.specs.DerivedEntries.{HasNamed, HasSizes, HasMesh, CanCopyEntry, CanCopyEntries}
use Rattle.naga_oil_derive.specs.DerivedView.{source_of, derived_of}
use Rattle.naga_oil_derive.specs.declared.maps.Maps.{Maps}
use Rattle.naga_oil_derive.proofs.DeriveCalls.{Shader, FunctionNames}
use Rattle.naga_oil_walk.specs.declared.walk.Request.{Request}
use Rattle.naga_oil_walk.specs.declared.walk.Request.TheVariants.{Item, Call}
use Rattle.naga_oil_derive.proofs.WorldLemmas.{Begins-refl, Begins-trans, Extends-refl, Extends-trans}

-- ---- all that is kept

pub source_trans : (a b c : Option Source) → KeepsSource a b → KeepsSource b c → KeepsSource a c
source_trans None None c x y = y
source_trans None (Some b) c x y = absurd x
source_trans (Some a) None c x y = absurd x
source_trans (Some a) (Some b) None x y = y
source_trans (Some a) (Some b) (Some c) x y = record { value = y.value ∙ x.value; offset = y.offset ∙ x.offset; went = λ p q g. y.went p q (x.went p q g) }

pub source_same : (a : Option Source) → KeepsSource a a
source_same None = tt
source_same (Some s) = record { value = refl; offset = refl; went = λ p q g. g }

pub Keeps-trans : (d e f : Derived) → Keeps d e → Keeps e f → Keeps d f
Keeps-trans d e f x y = record { items = Extends-trans d.target e.target f.target x.items y.items; names = y.names ∙ x.names; source = source_trans d.source e.source f.source x.source y.source }

pub kept_functions : (d e : Derived) → Keeps d e → KeepsFunctions d e
kept_functions d e k =
    let same : e.target.functions ≡ d.target.functions = ap (λ (v : ModuleValue). v.functions) k.items.rest in
    let own : e.target ≡ with_functions e.target d.target = λ i. record e.target { functions = same i } in
    record {
      items = subst (Extends d.target) own k.items;
      functions = ([], same ∙ sym (append-nil d.target.functions));
      names = λ n h. subst (λ (ns : Meanings). IsSome (meant ns n)) (sym k.names) h;
      source = k.source;
    }

pub functions_trans : (d e f : Derived) → KeepsFunctions d e → KeepsFunctions e f → KeepsFunctions d f
functions_trans d e f x y =
    let first = ap (λ (v : ModuleValue). record v { functions = d.target.functions }) y.items.rest in
    let second = ap (λ (v : ModuleValue). record v { types = f.target.types; constants = f.target.constants; overrides = f.target.overrides; global_variables = f.target.global_variables; global_expressions = f.target.global_expressions }) x.items.rest in
    record {
      items = record {
        types = Begins-trans d.target.types e.target.types f.target.types x.items.types y.items.types;
        constants = Begins-trans d.target.constants e.target.constants f.target.constants x.items.constants y.items.constants;
        overrides = Begins-trans d.target.overrides e.target.overrides f.target.overrides x.items.overrides y.items.overrides;
        global_variables = Begins-trans d.target.global_variables e.target.global_variables f.target.global_variables x.items.global_variables y.items.global_variables;
        global_expressions = Begins-trans d.target.global_expressions e.target.global_expressions f.target.global_expressions x.items.global_expressions y.items.global_expressions;
        rest = first ∙ second;
      };
      functions = Begins-trans d.target.functions e.target.functions f.target.functions x.functions y.functions;
      names = λ n h. y.names n (x.names n h);
      source = source_trans d.source e.source f.source x.source y.source;
    }

pub functions_same : (d : Derived) → KeepsFunctions d d
functions_same d = record { items = Extends-refl d.target; functions = Begins-refl d.target.functions; names = λ n h. h; source = source_same d.source }

-- ---- what is there stays there

has_in : (a b : Option Source) (p : ItemPlace) → KeepsSource a b → IsSome a × IfSome a (λ s. (r : Row) × (world s.value p ≡ Some r)) → IsSome b × IfSome b (λ s. (r : Row) × (world s.value p ≡ Some r))
has_in None b p k h = absurd (false≢true h.0)
has_in (Some s) None p k h = absurd k
has_in (Some s) (Some t) p k h = (refl, subst (λ (v : ModuleValue). (r : Row) × (world v p ≡ Some r)) (sym k.value) h.1)

pub has_later : (d e : Derived) (p : ItemPlace) → KeepsSource d.source e.source → HasItem d p → HasItem e p
has_later d e p k h = has_in d.source e.source p k h

pub named_later : (d e : Derived) (o : Option ItemPlace) → KeepsSource d.source e.source → HasNamed d o → HasNamed e o
named_later d e None k h = h
named_later d e (Some p) k h = has_later d e p k h

pub sizes_later : (d e : Derived) (o : Option (List (Option ℕ))) → KeepsSource d.source e.source → HasSizes d o → HasSizes e o
sizes_later d e None k h = h
sizes_later d e (Some xs) k h = All-weaker (λ x. HasNamed d (option_map ExpressionItem x)) (λ x. HasNamed e (option_map ExpressionItem x)) (λ x i. named_later d e (option_map ExpressionItem x) k i) xs h

pub mesh_later : (d e : Derived) (m : MeshInfo) → KeepsSource d.source e.source → HasMesh d m → HasMesh e m
mesh_later d e m k h = record {
  vertex = has_later d e (TypeItem m.vertex_output_type) k h.vertex;
  primitive = has_later d e (TypeItem m.primitive_output_type) k h.primitive;
  output = has_later d e (GlobalItem m.output) k h.output;
  max_vertices = named_later d e (option_map ExpressionItem m.max_vertices) k h.max_vertices;
  max_primitives = named_later d e (option_map ExpressionItem m.max_primitives) k h.max_primitives;
}

pub if_mesh_later : (d e : Derived) (o : Option MeshInfo) → KeepsSource d.source e.source → IfSome o (HasMesh d) → IfSome o (HasMesh e)
if_mesh_later d e None k h = h
if_mesh_later d e (Some m) k h = mesh_later d e m k h

-- ---- what may be copied may be copied later

abbrev pub KnowsMore : Meanings → Meanings → Type 0
KnowsMore ns qs = (n : Text) → IsSome (meant ns n) → IsSome (meant qs n)

pub meant_later : (ns qs : Meanings) (o : Option (FunctionValue × Span)) → KnowsMore ns qs → IsSome (meant_at ns o) → IsSome (meant_at qs o)
meant_later ns qs None k h = h
meant_later ns qs (Some e) k h = k e.0.name h

pub ask_weaker : (m : ModuleValue) (P Q : ℕ → Type 0) → ((k : ℕ) → P k → Q k) → (r : Request) → MayAsk m P r → MayAsk m Q r
ask_weaker m P Q w (Item p) h = h
ask_weaker m P Q w (Call f) h = (h.0, w f h.1)

copy_weaker : (m : ModuleValue) (P Q : ℕ → Type 0) → ((k : ℕ) → P k → Q k) → (f : FunctionValue) → MayCopy m P f → MayCopy m Q f
copy_weaker m P Q w f h = record { form = h.form; requests = All-weaker (MayAsk m P) (MayAsk m Q) (ask_weaker m P Q w) (requests_of f) h.requests }

there_weaker : (m : ModuleValue) (P Q : ℕ → Type 0) → ((k : ℕ) → P k → Q k) → (o : Option (FunctionValue × Span)) → IfSome o (λ e. IsSome e.0.name × MayCopy m P e.0) → IfSome o (λ e. IsSome e.0.name × MayCopy m Q e.0)
there_weaker m P Q w None h = tt
there_weaker m P Q w (Some e) h = (h.0, copy_weaker m P Q w e.0 h.1)

pub call_later : (m : ModuleValue) (ns qs : Meanings) → KnowsMore ns qs → (n k : ℕ) → MayCall m ns n k → MayCall m qs n k
call_later m ns qs w zero k h = meant_later ns qs (slice_get m.functions k) w h
call_later m ns qs w (suc n) k h =
    ⊎_elim (λ s. inl (meant_later ns qs (slice_get m.functions k) w s)) (λ s. inr (there_weaker m (MayCall m ns n) (MayCall m qs n) (call_later m ns qs w n) (slice_get m.functions k) s)) h

can_in : (a b : Option Source) (ns qs : Meanings) (f : FunctionValue) → KeepsSource a b → KnowsMore ns qs → IsSome a × IfSome a (λ s. MayCopy s.value (MayReach ns s) f) → IsSome b × IfSome b (λ s. MayCopy s.value (MayReach qs s) f)
can_in None b ns qs f k n h = absurd (false≢true h.0)
can_in (Some s) None ns qs f k n h = absurd k
can_in (Some s) (Some t) ns qs f k n h =
    let size = length s.value.functions in
    (refl, subst (λ (v : ModuleValue). MayCopy v (MayCall v qs (length v.functions)) f) (sym k.value) (copy_weaker s.value (MayCall s.value ns size) (MayCall s.value qs size) (call_later s.value ns qs n size) f h.1))

pub can_later : (d e : Derived) (f : FunctionValue) → KeepsFunctions d e → CanCopy d f → CanCopy e f
can_later d e f k h = can_in d.source e.source d.function_names e.function_names f k.source k.names h

pub entry_later : (d e : Derived) (v : EntryValue) → KeepsFunctions d e → CanCopyEntry d v → CanCopyEntry e v
entry_later d e v k h = record {
  function = can_later d e v.function k h.function;
  sizes = sizes_later d e v.workgroup_size_overrides k.source h.sizes;
  mesh_info = if_mesh_later d e v.mesh_info k.source h.mesh_info;
  task_payload = named_later d e (option_map GlobalItem v.task_payload) k.source h.task_payload;
}

-- ---- entry points as a caller of a derived module sees them

values_of_entries : (m : Module) → (value_of m).entry_points ≡ map entry_value m.entry_points.items
unfolding value_of
values_of_entries m = refl

all_below : (P : EntryValue → Type 0) (xs : List EntryPoint) → All P (map entry_value xs) → All (λ x. P (entry_value x)) xs
all_below P [] h = All-nil (λ x. P (entry_value x))
all_below P (x ∷ xs) h = All-cons (λ y. P (entry_value y)) x xs (All-head P (entry_value x) (map entry_value xs) h) (all_below P xs (All-tail P (entry_value x) (map entry_value xs) h))

pub entries_seen : (s : Module) (xs : List EntryPoint) → xs ≡ s.entry_points.items → (value_of s).entry_points ≡ map entry_value xs
entries_seen s xs e = values_of_entries s ∙ ap (map entry_value) (sym e)

pub entries_in : (o : Shader) (s : Bor Module) (m : Maps) (t : Module) (ns : FunctionNames) (d : Derived) (xs : List EntryPoint) → o ≡ Some s → derived_of o m t ns ≡ d → xs ≡ s.now.entry_points.items → CanCopyEntries d → All (λ x. CanCopyEntry d (entry_value x)) xs
entries_in o s m t ns d xs e v is h =
    let P = λ (q : Option Source). IfSome q (λ y. All (CanCopyEntry d) y.value.entry_points) in
    let own = subst (λ (x : Shader). P (option_map (source_of m) x)) e (subst P (sym (ap (λ (x : Derived). x.source) v)) h) in
    all_below (CanCopyEntry d) xs (subst (λ (vs : List EntryValue). All (CanCopyEntry d) vs) (entries_seen s.now xs is) own)
