-- Entry points that are copied.
use Rattle.std.proofs.Common.{◌≡◌, ℕ, List, [], ◌∷◌, ◌++◌, map, unwrap_or, Option, Some, None, option_map, IfSome, slice_get, All, refl, ap, sym, ◌∙◌, subst}
use Rattle.std.specs.Option.{option_flatten}
use Rattle.std.proofs.lemmas.List.Elements.{All-nil, All-cons, All-head, All-tail}
use Rattle.std.proofs.lemmas.Option.{none-some, same_Some}
use Rattle.naga_oil_ir.specs.ModuleValue.{FunctionValue, EntryValue}
use Rattle.naga_oil_ir.specs.declared.module.MeshInfo.{MeshInfo}
use Rattle.naga_oil_ir.specs.declared.names.ItemPlace.{ItemPlace}
use Rattle.naga_oil_ir.specs.declared.names.ItemPlace.TheVariants.{TypeItem, GlobalItem, ExpressionItem}
use Rattle.naga_oil_derive.specs.CopiedEntry.{sizes_names, mesh_names, entry_names, place_expression, place_mesh, place_entry}
use Rattle.naga_oil_derive.specs.Derived.{Source, IsLaterSource}
use Rattle.naga_oil_derive.specs.DerivedValue.{place_by}
use Rattle.naga_oil_derive.specs.World.{goes}
use Rattle.naga_oil_copy_laws.specs.Scope.{Scope, ReadAlike}
use Rattle.naga_oil_copy_laws.specs.EntryByTree.{BothOrNone, PlaceByPlace, ExpressionsAlike, MeshAlike, EntryAlike, EntryComposeLaw}

-- ---- options and lists

both_on : {A B : Type 0} (R S : A → B → Type 0) → ((x : A) (y : B) → R x y → S x y) → (o : Option A) (q : Option B) → BothOrNone R o q → BothOrNone S o q
both_on R S f None None h = tt
both_on R S f None (Some y) h = absurd h
both_on R S f (Some x) None h = absurd h
both_on R S f (Some x) (Some y) h = f x y h

both_then : {A B C : Type 0} (R : A → B → Type 0) (S : B → C → Type 0) (T : A → C → Type 0) → ((x : A) (y : B) (z : C) → R x y → S y z → T x z) → (o : Option A) (p : Option B) (q : Option C) → BothOrNone R o p → BothOrNone S p q → BothOrNone T o q
both_then R S T f None None None h i = tt
both_then R S T f None None (Some z) h i = absurd i
both_then R S T f None (Some y) q h i = absurd h
both_then R S T f (Some x) None q h i = absurd h
both_then R S T f (Some x) (Some y) None h i = absurd i
both_then R S T f (Some x) (Some y) (Some z) h i = f x y z h i

both_same : {A : Type 0} (R : A → A → Type 0) → ((x : A) → R x x) → (o : Option A) → BothOrNone R o o
both_same R f None = tt
both_same R f (Some x) = f x

each_on : {A B : Type 0} (R S : A → B → Type 0) → ((x : A) (y : B) → R x y → S x y) → (xs : List A) (ys : List B) → PlaceByPlace R xs ys → PlaceByPlace S xs ys
each_on R S f [] [] h = tt
each_on R S f [] (y ∷ ys) h = absurd h
each_on R S f (x ∷ xs) [] h = absurd h
each_on R S f (x ∷ xs) (y ∷ ys) h = (f x y h.0, each_on R S f xs ys h.1)

each_then : {A B C : Type 0} (R : A → B → Type 0) (S : B → C → Type 0) (T : A → C → Type 0) → ((x : A) (y : B) (z : C) → R x y → S y z → T x z) → (xs : List A) (ys : List B) (zs : List C) → PlaceByPlace R xs ys → PlaceByPlace S ys zs → PlaceByPlace T xs zs
each_then R S T f [] [] [] h i = tt
each_then R S T f [] [] (z ∷ zs) h i = absurd i
each_then R S T f [] (y ∷ ys) zs h i = absurd h
each_then R S T f (x ∷ xs) [] zs h i = absurd h
each_then R S T f (x ∷ xs) (y ∷ ys) [] h i = absurd i
each_then R S T f (x ∷ xs) (y ∷ ys) (z ∷ zs) h i = (f x y z h.0 i.0, each_then R S T f xs ys zs h.1 i.1)

each_same : {A : Type 0} (R : A → A → Type 0) → ((x : A) → R x x) → (xs : List A) → PlaceByPlace R xs xs
each_same R f [] = tt
each_same R f (x ∷ xs) = (f x, each_same R f xs)

-- ---- entry points in scopes

abbrev Expression : Scope → Scope → ℕ → ℕ → Type 0
Expression a b k h = ReadAlike a b (ExpressionItem k) (ExpressionItem h)

abbrev Global : Scope → Scope → ℕ → ℕ → Type 0
Global a b k h = ReadAlike a b (GlobalItem k) (GlobalItem h)

-- what reads alike in two scopes reads alike in two others
module _ (a b c d : Scope) (reads : (p q : ItemPlace) → ReadAlike a b p q → ReadAlike c d p q) where
  expression_on : (o q : Option ℕ) → ExpressionsAlike a b o q → ExpressionsAlike c d o q
  expression_on o q h = both_on (Expression a b) (Expression c d) (λ k j r. reads (ExpressionItem k) (ExpressionItem j) r) o q h

  mesh_on : (x y : MeshInfo) → MeshAlike a b x y → MeshAlike c d x y
  mesh_on x y h = record {
    vertex = reads (TypeItem x.vertex_output_type) (TypeItem y.vertex_output_type) h.vertex;
    primitive = reads (TypeItem x.primitive_output_type) (TypeItem y.primitive_output_type) h.primitive;
    output = reads (GlobalItem x.output) (GlobalItem y.output) h.output;
    max_vertices = expression_on x.max_vertices y.max_vertices h.max_vertices;
    max_primitives = expression_on x.max_primitives y.max_primitives h.max_primitives;
    topology = h.topology;
  }

  pub entry_on : (s : ℕ → ℕ) (x y : EntryValue) → EntryAlike s a b x y → EntryAlike s c d x y
  entry_on s x y h = record {
    name = h.name;
    stage = h.stage;
    early_depth_test = h.early_depth_test;
    workgroup_size = h.workgroup_size;
    sizes = both_on (PlaceByPlace (ExpressionsAlike a b)) (PlaceByPlace (ExpressionsAlike c d)) (λ os qs e. each_on (ExpressionsAlike a b) (ExpressionsAlike c d) expression_on os qs e) x.workgroup_size_overrides y.workgroup_size_overrides h.sizes;
    mesh_info = both_on (MeshAlike a b) (MeshAlike c d) mesh_on x.mesh_info y.mesh_info h.mesh_info;
    task_payload = both_on (Global a b) (Global c d) (λ k j r. reads (GlobalItem k) (GlobalItem j) r) x.task_payload y.task_payload h.task_payload;
  }

module _ (a b c : Scope) where
  reads_then : (p q r : ItemPlace) → ReadAlike a b p q → ReadAlike b c q r → ReadAlike a c p r
  reads_then p q r h i n = i n ∙ h n

  expression_then : (o p q : Option ℕ) → ExpressionsAlike a b o p → ExpressionsAlike b c p q → ExpressionsAlike a c o q
  expression_then o p q h i = both_then (Expression a b) (Expression b c) (Expression a c) (λ k j l r t. reads_then (ExpressionItem k) (ExpressionItem j) (ExpressionItem l) r t) o p q h i

  mesh_then : (x y z : MeshInfo) → MeshAlike a b x y → MeshAlike b c y z → MeshAlike a c x z
  mesh_then x y z h i = record {
    vertex = λ n. i.vertex n ∙ h.vertex n;
    primitive = λ n. i.primitive n ∙ h.primitive n;
    output = λ n. i.output n ∙ h.output n;
    max_vertices = expression_then x.max_vertices y.max_vertices z.max_vertices h.max_vertices i.max_vertices;
    max_primitives = expression_then x.max_primitives y.max_primitives z.max_primitives h.max_primitives i.max_primitives;
    topology = i.topology ∙ h.topology;
  }

  sizes_then : (xs ys zs : List (Option ℕ)) → PlaceByPlace (ExpressionsAlike a b) xs ys → PlaceByPlace (ExpressionsAlike b c) ys zs → PlaceByPlace (ExpressionsAlike a c) xs zs
  sizes_then xs ys zs h i = each_then (ExpressionsAlike a b) (ExpressionsAlike b c) (ExpressionsAlike a c) expression_then xs ys zs h i

  pub entry_then : (p q : ℕ → ℕ) (x y z : EntryValue) → EntryAlike p a b x y → EntryAlike q b c y z → EntryAlike (λ s. q (p s)) a c x z
  entry_then p q x y z h i = record {
    name = i.name ∙ h.name;
    stage = i.stage ∙ ap q h.stage;
    early_depth_test = i.early_depth_test ∙ h.early_depth_test;
    workgroup_size = i.workgroup_size ∙ h.workgroup_size;
    sizes = both_then (PlaceByPlace (ExpressionsAlike a b)) (PlaceByPlace (ExpressionsAlike b c)) (PlaceByPlace (ExpressionsAlike a c)) sizes_then x.workgroup_size_overrides y.workgroup_size_overrides z.workgroup_size_overrides h.sizes i.sizes;
    mesh_info = both_then (MeshAlike a b) (MeshAlike b c) (MeshAlike a c) mesh_then x.mesh_info y.mesh_info z.mesh_info h.mesh_info i.mesh_info;
    task_payload = both_then (Global a b) (Global b c) (Global a c) (λ k j l r t. reads_then (GlobalItem k) (GlobalItem j) (GlobalItem l) r t) x.task_payload y.task_payload z.task_payload h.task_payload i.task_payload;
  }

pub entry_compose : EntryComposeLaw
entry_compose p q a b c x y z h i = entry_then a b c p q x y z h i

-- an entry point with another function and another stage, where everything reads the same
module _ (a b : Scope) (reads : (p : ItemPlace) → ReadAlike a b p p) where
  expression_same : (o : Option ℕ) → ExpressionsAlike a b o o
  expression_same o = both_same (Expression a b) (λ k. reads (ExpressionItem k)) o

  mesh_same : (x : MeshInfo) → MeshAlike a b x x
  mesh_same x = record {
    vertex = reads (TypeItem x.vertex_output_type);
    primitive = reads (TypeItem x.primitive_output_type);
    output = reads (GlobalItem x.output);
    max_vertices = expression_same x.max_vertices;
    max_primitives = expression_same x.max_primitives;
    topology = refl;
  }

  pub entry_same : (s : ℕ → ℕ) (x : EntryValue) (f : FunctionValue) → EntryAlike s a b x (record x { stage = s x.stage; function = f })
  entry_same s x f = record {
    name = refl;
    stage = refl;
    early_depth_test = refl;
    workgroup_size = refl;
    sizes = both_same (PlaceByPlace (ExpressionsAlike a b)) (λ xs. each_same (ExpressionsAlike a b) expression_same xs) x.workgroup_size_overrides;
    mesh_info = both_same (MeshAlike a b) mesh_same x.mesh_info;
    task_payload = both_same (Global a b) (λ k. reads (GlobalItem k)) x.task_payload;
  }

-- ---- entry points whose items are mapped

-- an item of a source is mapped
abbrev pub IsWent : Source → ItemPlace → Type 0
IsWent s p = (q : ItemPlace) × (goes s.places p ≡ Some q)

abbrev pub AreWent : Source → List (Option ItemPlace) → Type 0
AreWent s ps = All (λ o. IfSome o (IsWent s)) ps

kind_went : (f : ℕ → ItemPlace) (o : Option ℕ) (k : ℕ) (q : ItemPlace) → option_map f o ≡ Some q → f (unwrap_or o k) ≡ q
kind_went f None k q e = absurd (none-some q e)
kind_went f (Some h) k q e = same_Some (f h) q e

all_front : {A : Type 0} (P : A → Type 0) (xs ys : List A) → All P (xs ++ ys) → All P xs
all_front P [] ys h = All-nil P
all_front P (x ∷ xs) ys h = All-cons P x xs (All-head P x (xs ++ ys) h) (all_front P xs ys (All-tail P x (xs ++ ys) h))

all_back : {A : Type 0} (P : A → Type 0) (xs ys : List A) → All P (xs ++ ys) → All P ys
all_back P [] ys h = h
all_back P (x ∷ xs) ys h = all_back P xs ys (All-tail P x (xs ++ ys) h)

module _ (a b : Scope) (s : Source) (reads : (p q : ItemPlace) → goes s.places p ≡ Some q → ReadAlike a b p q) where
  type_placed : (k : ℕ) → IsWent s (TypeItem k) → ReadAlike a b (TypeItem k) (TypeItem (place_by (λ p. p.types) (Some s) k))
  unfolding goes
  type_placed k w = subst (ReadAlike a b (TypeItem k)) (sym (kind_went TypeItem (option_flatten (slice_get s.places.types k)) k w.0 w.1)) (reads (TypeItem k) w.0 w.1)

  global_placed : (k : ℕ) → IsWent s (GlobalItem k) → ReadAlike a b (GlobalItem k) (GlobalItem (place_by (λ p. p.global_variables) (Some s) k))
  unfolding goes
  global_placed k w = subst (ReadAlike a b (GlobalItem k)) (sym (kind_went GlobalItem (option_flatten (slice_get s.places.global_variables k)) k w.0 w.1)) (reads (GlobalItem k) w.0 w.1)

  number_placed : (k : ℕ) → IsWent s (ExpressionItem k) → ReadAlike a b (ExpressionItem k) (ExpressionItem (place_by (λ p. p.global_expressions) (Some s) k))
  unfolding goes
  number_placed k w = subst (ReadAlike a b (ExpressionItem k)) (sym (kind_went ExpressionItem (option_flatten (slice_get s.places.global_expressions k)) k w.0 w.1)) (reads (ExpressionItem k) w.0 w.1)

  abbrev Went : Option ItemPlace → Type 0
  Went o = IfSome o (IsWent s)

  expression_placed : (o : Option ℕ) → Went (option_map ExpressionItem o) → ExpressionsAlike a b o (place_expression (Some s) o)
  expression_placed None w = tt
  expression_placed (Some k) w = number_placed k w

  sizes_placed : (xs : List (Option ℕ)) → All Went (map (option_map ExpressionItem) xs) → PlaceByPlace (ExpressionsAlike a b) xs (map (place_expression (Some s)) xs)
  sizes_placed [] w = tt
  sizes_placed (x ∷ xs) w = (expression_placed x (All-head Went (option_map ExpressionItem x) (map (option_map ExpressionItem) xs) w), sizes_placed xs (All-tail Went (option_map ExpressionItem x) (map (option_map ExpressionItem) xs) w))

  all_sizes_placed : (o : Option (List (Option ℕ))) → All Went (sizes_names o) → BothOrNone (PlaceByPlace (ExpressionsAlike a b)) o (option_map (map (place_expression (Some s))) o)
  all_sizes_placed None w = tt
  all_sizes_placed (Some xs) w = sizes_placed xs w

  mesh_placed : (o : Option MeshInfo) → All Went (mesh_names o) → BothOrNone (MeshAlike a b) o (option_map (place_mesh (Some s)) o)
  mesh_placed None w = tt
  mesh_placed (Some m) w =
      let v = Some (TypeItem m.vertex_output_type) in
      let p = Some (TypeItem m.primitive_output_type) in
      let g = Some (GlobalItem m.output) in
      let x = option_map ExpressionItem m.max_vertices in
      let y = option_map ExpressionItem m.max_primitives in
      let w1 = All-tail Went v (p ∷ g ∷ x ∷ y ∷ []) w in
      let w2 = All-tail Went p (g ∷ x ∷ y ∷ []) w1 in
      let w3 = All-tail Went g (x ∷ y ∷ []) w2 in
      let w4 = All-tail Went x (y ∷ []) w3 in
      record {
        vertex = type_placed m.vertex_output_type (All-head Went v (p ∷ g ∷ x ∷ y ∷ []) w);
        primitive = type_placed m.primitive_output_type (All-head Went p (g ∷ x ∷ y ∷ []) w1);
        output = global_placed m.output (All-head Went g (x ∷ y ∷ []) w2);
        max_vertices = expression_placed m.max_vertices (All-head Went x (y ∷ []) w3);
        max_primitives = expression_placed m.max_primitives (All-head Went y [] w4);
        topology = refl;
      }

  payload_placed : (o : Option ℕ) → Went (option_map GlobalItem o) → BothOrNone (Global a b) o (option_map (place_by (λ p. p.global_variables) (Some s)) o)
  payload_placed None w = tt
  payload_placed (Some k) w = global_placed k w

  placed : (f : FunctionValue) (v : EntryValue) → AreWent s (entry_names v) → EntryAlike (λ k. k) a b v (place_entry (Some s) f v)
  placed f v w =
      let last = option_map GlobalItem v.task_payload in
      let rest = all_back Went (sizes_names v.workgroup_size_overrides) (mesh_names v.mesh_info ++ last ∷ []) w in
      record {
        name = refl;
        stage = refl;
        early_depth_test = refl;
        workgroup_size = refl;
        sizes = all_sizes_placed v.workgroup_size_overrides (all_front Went (sizes_names v.workgroup_size_overrides) (mesh_names v.mesh_info ++ last ∷ []) w);
        mesh_info = mesh_placed v.mesh_info (all_front Went (mesh_names v.mesh_info) (last ∷ []) rest);
        task_payload = payload_placed v.task_payload (All-head Went last [] (all_back Went (mesh_names v.mesh_info) (last ∷ []) rest));
      }

-- y is the entry point v with another function, and everything else mapped, as it was once
pub record PlacedEntry (s : Source) (v y : EntryValue) : Type 0 where
  pub before : Source
  pub later : IsLaterSource before s
  pub went : AreWent before (entry_names v)
  pub is : y ≡ place_entry (Some before) y.function v

pub placed_entry : (a b : Scope) (s : Source) (v y : EntryValue) → ((p q : ItemPlace) → goes s.places p ≡ Some q → ReadAlike a b p q) → PlacedEntry s v y → EntryAlike (λ k. k) a b v y
placed_entry a b s v y reads k = subst (EntryAlike (λ j. j) a b v) (sym k.is) (placed a b k.before (λ p q e. reads p q (k.later.went p q e)) y.function v k.went)
