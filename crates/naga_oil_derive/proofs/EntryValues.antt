-- Copies of entry points, as values.
use Rattle.std.proofs.Common.{◌≡◌, ℕ, ◌+◌, ◌<◌, ◌++◌, List, [], ◌∷◌, length, map, take, get_or, Option, Some, None, IsSome, option_map, refl, ap, sym, ◌∙◌, subst, arith, Vec, Global, Result, Ok, Err, OnOk}
use Rattle.std.specs.Borrow.{Bor}
use Rattle.std.proofs.lemmas.Bool.{false≢true}
use Rattle.std.proofs.lemmas.List.{map-append, take_more}
use Rattle.naga_oil_ir.specs.ModuleValue.{ModuleValue, FunctionValue, EntryValue, entry_value}
use Rattle.naga_oil_ir.specs.declared.module.EntryPoint.{EntryPoint}
use Rattle.naga_oil_ir.specs.declared.module.Module.{Module}
use Rattle.naga_oil_ir.specs.declared.names.ItemPlace.{ItemPlace}
use Rattle.naga_oil_ir.specs.declared.names.ItemPlace.TheVariants.{ExpressionItem}
use Rattle.naga_oil_derive.specs.World.{value_of}
use Rattle.naga_oil_derive.specs.Derived.{Source, Derived, KeepsSource}
use Rattle.naga_oil_derive.specs.DerivedFunctions.{requests_of}
use Rattle.naga_oil_derive.specs.DerivedView.{source_of, derived_of}
use Rattle.naga_oil_derive.specs.DerivedValue.{place_by, import_item, answer_requests, localize_function}
use Rattle.naga_oil_derive.specs.CopiedEntry.{sizes_names, entry_names, import_items, place_expression, place_mesh, place_entry, EntriesState, entries_state, entry_last, copy_entry, copy_entries, module_of, module_by, make_module}
use Rattle.naga_oil_derive.specs.declared.maps.Maps.{Maps}
use Rattle.naga_oil_derive.proofs.DeriveCalls.{Shader, FunctionNames}
use Rattle.naga_oil_derive.proofs.EntrySteps.{entries_seen}

-- ---- items one after another

pub items_append : (d : Derived) (ps qs : List (Option ItemPlace)) → import_items (import_items d ps) qs ≡ import_items d (ps ++ qs)
items_append d [] qs = refl
items_append d (None ∷ ps) qs = items_append d ps qs
items_append d (Some p ∷ ps) qs = items_append (import_item d p) ps qs

-- some items and then others
pub items_then : (d a e : Derived) (ps qs : List (Option ItemPlace)) → a ≡ import_items d ps → e ≡ import_items a qs → e ≡ import_items d (ps ++ qs)
items_then d a e ps qs i j = j ∙ ap (λ x. import_items x qs) i ∙ items_append d ps qs

-- three sizes, by their places
pub three_imported : {A B : Type 0} (r : Result A B) (d e f g : Derived) (xs : List (Option ℕ)) (x y z : Option ℕ) (p q s : Option ItemPlace) → length xs ≡ 3 → x ≡ get_or xs 0 x → y ≡ get_or xs 1 y → z ≡ get_or xs 2 z → p ≡ option_map ExpressionItem x → q ≡ option_map ExpressionItem y → s ≡ option_map ExpressionItem z → e ≡ import_items d (p ∷ []) → f ≡ import_items e (q ∷ []) → OnOk r (g ≡ import_items f (s ∷ [])) → OnOk r (g ≡ import_items d (sizes_names (Some xs)))
three_imported r d e f g [] x y z p q s l ix iy iz px py pz i j k = absurd (omega (arith, l))
three_imported r d e f g (u ∷ []) x y z p q s l ix iy iz px py pz i j k = absurd (omega (arith, l))
three_imported r d e f g (u ∷ v ∷ []) x y z p q s l ix iy iz px py pz i j k = absurd (omega (arith, l))
three_imported (Err b) d e f g (u ∷ v ∷ w ∷ []) x y z p q s l ix iy iz px py pz i j k = tt
three_imported (Ok a) d e f g (u ∷ v ∷ w ∷ []) x y z p q s l ix iy iz px py pz i j k =
    let E = option_map ExpressionItem in
    let first = i ∙ ap (λ o. import_items d (o ∷ [])) (px ∙ ap E ix) in
    let second = j ∙ ap (λ o. import_items e (o ∷ [])) (py ∙ ap E iy) in
    let third = k ∙ ap (λ o. import_items f (o ∷ [])) (pz ∙ ap E iz) in
    items_then d f g (E u ∷ E v ∷ []) (E w ∷ []) (items_then d e f (E u ∷ []) (E v ∷ []) first second) third
three_imported r d e f g (u ∷ v ∷ w ∷ n ∷ xs) x y z p q s l ix iy iz px py pz i j k = absurd (omega (arith, l))

pub three_placed : (f : Option ℕ → Option ℕ) (xs : List (Option ℕ)) (x y z a b c : Option ℕ) → length xs ≡ 3 → x ≡ get_or xs 0 x → y ≡ get_or xs 1 y → z ≡ get_or xs 2 z → a ≡ f x → b ≡ f y → c ≡ f z → a ∷ b ∷ c ∷ [] ≡ map f xs
three_placed f [] x y z a b c l ix iy iz p q r = absurd (omega (arith, l))
three_placed f (u ∷ []) x y z a b c l ix iy iz p q r = absurd (omega (arith, l))
three_placed f (u ∷ v ∷ []) x y z a b c l ix iy iz p q r = absurd (omega (arith, l))
three_placed f (u ∷ v ∷ w ∷ []) x y z a b c l ix iy iz p q r = λ i. (p ∙ ap f ix) i ∷ (q ∙ ap f iy) i ∷ (r ∙ ap f iz) i ∷ []
three_placed f (u ∷ v ∷ w ∷ n ∷ xs) x y z a b c l ix iy iz p q r = absurd (omega (arith, l))

-- ---- one entry point

pub still_set : (a b : Option Source) → IsSome a → KeepsSource a b → IsSome b
still_set None b i k = absurd (false≢true i)
still_set (Some s) None i k = absurd k
still_set (Some s) (Some t) i k = refl

-- the source that is set, as the fields have it
pub seen_source : (o : Shader) (m : Maps) (t : Module) (ns : FunctionNames) (f : Derived) → derived_of o m t ns ≡ f → IsSome f.source → (s : Bor Module) × (f.source ≡ Some (source_of m s))
seen_source None m t ns f v i = absurd (false≢true (subst (λ (x : Derived). IsSome x.source) (sym v) i))
seen_source (Some s) m t ns f v i = (s, ap (λ (x : Derived). x.source) (sym v))

-- an entry point whose parts are those of a copy
pub entry_is : (o : Option Source) (f : FunctionValue) (v w : EntryValue) → w.name ≡ v.name → w.stage ≡ v.stage → w.early_depth_test ≡ v.early_depth_test → w.workgroup_size ≡ v.workgroup_size → w.workgroup_size_overrides ≡ option_map (map (place_expression o)) v.workgroup_size_overrides → w.function ≡ f → w.mesh_info ≡ option_map (place_mesh o) v.mesh_info → w.task_payload ≡ option_map (place_by (λ p. p.global_variables) o) v.task_payload → w ≡ place_entry o f v
entry_is o f v w name stage early size sizes function mesh payload = λ i. record {
  name = name i;
  stage = stage i;
  early_depth_test = early i;
  workgroup_size = size i;
  workgroup_size_overrides = sizes i;
  function = function i;
  mesh_info = mesh i;
  task_payload = payload i;
}

pub entry_made : (d a f : Derived) (v w : EntryValue) → a ≡ answer_requests d (requests_of v.function) → f ≡ import_items a (entry_names v) → w ≡ place_entry f.source (localize_function a.source a.function_names v.function) v → entries_state f (w ∷ []) ≡ copy_entry (entries_state d []) v
entry_made d a f v w answered items is =
    let copy = λ (x : Derived). localize_function x.source x.function_names v.function in
    ap (λ x. entries_state f (x ∷ [])) is ∙ ap (λ x. entry_last [] x (copy a) v) items ∙ ap (λ x. entry_last [] (import_items x (entry_names v)) (copy x) v) answered

-- ---- one entry point more

abbrev following : List EntryValue → EntriesState → EntriesState
following ws s = record { derived = s.derived; entries = ws ++ s.entries }

entries_more : (s : EntriesState) (vs : List EntryValue) (v : EntryValue) → copy_entry (copy_entries s vs) v ≡ copy_entries s (vs ++ v ∷ [])
entries_more s [] v = refl
entries_more s (u ∷ vs) v = entries_more (copy_entry s u) vs v

pub entries_next : (d e f : Derived) (es : List EntryPoint) (i : ℕ) (x : EntryPoint) (ws : List EntryPoint) (w : EntryPoint) (new : List EntryPoint) → i < length es → x ≡ get_or es i x → entries_state e (map entry_value ws) ≡ copy_entries (entries_state d []) (map entry_value (take i es)) → entries_state f (entry_value w ∷ []) ≡ copy_entry (entries_state e []) (entry_value x) → new ≡ ws ++ w ∷ [] → entries_state f (map entry_value new) ≡ copy_entries (entries_state d []) (map entry_value (take (i + 1) es))
entries_next d e f es i x ws w new l is done one n =
    let from = ap (map entry_value) (take_more es i x l ∙ ap (λ (y : EntryPoint). take i es ++ y ∷ []) (sym is)) ∙ map-append entry_value (take i es) (x ∷ []) in
    let to = ap (map entry_value) n ∙ map-append entry_value ws (w ∷ []) in
    ap (entries_state f) to ∙ ap (following (map entry_value ws)) one ∙ ap (λ s. copy_entry s (entry_value x)) done ∙ entries_more (entries_state d []) (map entry_value (take i es)) (entry_value x) ∙ ap (copy_entries (entries_state d [])) (sym from)

-- ---- the module

with_entries : (m : Module) (w : Vec EntryPoint Global) → value_of (record m { entry_points = w }) ≡ record (value_of m) { entry_points = map entry_value w.items }
unfolding value_of
with_entries m w = refl

pub module_is : (o : Shader) (s : Bor Module) (m : Maps) (t : Module) (ns : FunctionNames) (d e : Derived) (xs : List EntryPoint) (n : Module) (w : Vec EntryPoint Global) → o ≡ Some s → derived_of o m t ns ≡ d → xs ≡ s.now.entry_points.items → entries_state e (map entry_value w.items) ≡ copy_entries (entries_state d []) (map entry_value xs) → value_of n ≡ e.target → value_of (record n { entry_points = w }) ≡ make_module d
module_is o s m t ns d e xs n w is v at made f =
    let by = λ (x : Option Source). module_by d x in
    let seen : Some (source_of m s) ≡ d.source = ap (option_map (source_of m)) (sym is) ∙ ap (λ (x : Derived). x.source) v in
    with_entries n w ∙ ap (λ (x : ModuleValue). record x { entry_points = map entry_value w.items }) f ∙ ap module_of made ∙ ap (λ vs. module_of (copy_entries (entries_state d []) vs)) (sym (entries_seen s.now xs at)) ∙ ap by seen
