-- The places of the items that a walk finds to be own.
use Rattle.std.proofs.Common.{◌≡◌, ℕ, suc, ◌+◌, ◌<◌, Bool, true, false, List, [], ◌∷◌, length, map, drop, get_or, drop-cons, refl, sym, ap, ◌∙◌, Some, option_map, unwrap_or, slice_get, string_bytes, arith}
use Rattle.std.proofs.lemmas.List.{drop_more, length-drop, length-map}
use Rattle.std.proofs.lemmas.Option.{slice_get-map, slice_get_read, slice_get_within, unwrap_or-slice_get}
use Rattle.std.specs.BTreeSet.{insert_key}
use Rattle.std.specs.Ordering.{nat_cmp}
use Rattle.std.specs.Option.{option_flatten}
use Rattle.naga_oil_ir.specs.ModuleValue.{module_value}
use Rattle.naga_oil_ir.specs.Rows.{Row, Text, inner_row, type_row}
use Rattle.naga_oil_ir.specs.declared.module.Module.{Module}
use Rattle.naga_oil_ir.specs.declared.types.Type.{«Type» as TypeOfShader}
use Rattle.naga_oil_ir.specs.declared.types.TypeInner.{TypeInner}
use Rattle.naga_oil_ir.specs.declared.types.TypeInner.TheVariants.{Scalar, Vector, Matrix, ValuePointer, Image, Sampler, Atomic, AccelerationStructure, RayQuery, Pointer, Struct, Array, BindingArray}
use Rattle.naga_oil_ir.specs.declared.span.Span.{Span}
use Rattle.naga_oil_link.specs.ByName.{places_where, text_at}
use Rattle.naga_oil_link.specs.Owned.{item_names}
use Rattle.naga_oil_link.proofs.ByNameLemmas.{places_before, place_put, place_left, text_there}

-- the item at a step of a walk is the one that stood there, even if items before it have changed
there : {T : Type 0} (all items : List T) (i : ℕ) (d : T) → i < length items → drop i items ≡ drop i all → slice_get all i ≡ Some (get_or items i d)
there all items i d l e =
    let x = get_or items i d in
    let long : i < length all = omega (arith, length-drop i items, length-drop i all, ap length e) in
    let first : x ∷ drop (suc i) items ≡ drop i items = sym (drop-cons items i d l) in
    let other : drop i all ≡ get_or all i x ∷ drop (suc i) all = drop-cons all i x long in
    slice_get_read all (length all) i x refl long (cc (first, e, other))

module _ {T V : Type 0} (v : T → V) (name : V → Text) (test : Text → Bool) where
  abbrev names : List T → List Text
  names xs = map name (map v xs)

  named_there : (all items : List T) (i : ℕ) (d : T) → i < length items → drop i items ≡ drop i all → text_at (names all) i ≡ name (v (get_or items i d))
  named_there all items i d l e = text_there name (map v all) i (v (get_or items i d)) (slice_get-map v all i ∙ ap (option_map v) (there all items i d l e))

  -- the item's place is added, or not
  pub item_put : (all items : List T) (i : ℕ) (d : T) (before after : List ℕ) → i < length items → drop i items ≡ drop i all → test (name (v (get_or items i d))) ≡ true → before ≡ places_before test (names all) i → after ≡ insert_key nat_cmp before i → after ≡ places_before test (names all) (i + 1)
  item_put all items i d before after l e own h put = put ∙ place_put test (names all) i before (ap test (named_there all items i d l e) ∙ own) h

  pub item_left : (all items : List T) (i : ℕ) (d : T) (before : List ℕ) → i < length items → drop i items ≡ drop i all → test (name (v (get_or items i d))) ≡ false → before ≡ places_before test (names all) i → before ≡ places_before test (names all) (i + 1)
  item_left all items i d before l e own h = place_left test (names all) i before (ap test (named_there all items i d l e) ∙ own) h

  -- the walk is at the end
  pub items_ended : (all : List T) (i : ℕ) (keys : List ℕ) → i ≡ length all → keys ≡ places_before test (names all) i → keys ≡ places_where test (names all)
  items_ended all i keys e h = h ∙ ap (places_before test (names all)) (e ∙ sym (length-map all v) ∙ sym (length-map (map v all) name))

-- ---- the names of types
inner_named : (n : Text) (t : TypeInner) → (inner_row n t).label.name ≡ n
inner_named n (Scalar c) = refl
inner_named n (Vector c) = refl
inner_named n (Matrix c) = refl
inner_named n (ValuePointer c) = refl
inner_named n (Image c) = refl
inner_named n (Sampler c) = refl
inner_named n (Atomic c) = refl
inner_named n (AccelerationStructure c) = refl
inner_named n (RayQuery c) = refl
inner_named n (Pointer base space) = refl
inner_named n (Struct members span) = refl
inner_named n (Array base size stride) = refl
inner_named n (BindingArray base size) = refl

pub types_named : (ts : List (TypeOfShader × Span)) → map (λ (e : Row × Span). e.0.label.name) (map (λ (e : TypeOfShader × Span). (type_row e.0, e.1)) ts) ≡ map (λ (t : TypeOfShader). option_map string_bytes t.name) (map (λ (e : TypeOfShader × Span). e.0) ts)
types_named [] = refl
types_named (t ∷ ts) = λ i. inner_named (option_map string_bytes t.0.name) t.0.inner i ∷ types_named ts i

type_there : (m : Module) (ts : List TypeOfShader) (i : ℕ) (t : TypeOfShader) → ts ≡ map (λ (e : TypeOfShader × Span). e.0) m.types → slice_get ts i ≡ Some t → slice_get (item_names (module_value m).types) i ≡ Some (option_map string_bytes t.name)
type_there m ts i t e at = ap (λ ns. slice_get ns i) (types_named m.types) ∙ ap (λ (us : List TypeOfShader). slice_get (map (λ (u : TypeOfShader). option_map string_bytes u.name) us) i) (sym e) ∙ slice_get-map (λ (u : TypeOfShader). option_map string_bytes u.name) ts i ∙ ap (option_map (λ (u : TypeOfShader). option_map string_bytes u.name)) at

-- a type's name is the one at its place
pub type_named : (m : Module) (ts : List TypeOfShader) (i : ℕ) (t : TypeOfShader) → ts ≡ map (λ (e : TypeOfShader × Span). e.0) m.types → slice_get ts i ≡ Some t → text_at (item_names (module_value m).types) i ≡ option_map string_bytes t.name
type_named m ts i t e at = ap option_flatten (type_there m ts i t e at)

-- the names after a type's
pub types_left : (m : Module) (ts : List TypeOfShader) (i : ℕ) (t : TypeOfShader) → ts ≡ map (λ (e : TypeOfShader × Span). e.0) m.types → slice_get ts i ≡ Some t → drop i (item_names (module_value m).types) ≡ option_map string_bytes t.name ∷ drop (i + 1) (item_names (module_value m).types)
types_left m ts i t e at =
    let names = item_names (module_value m).types in
    let n = option_map string_bytes t.name in
    let there = type_there m ts i t e at in
    let here : get_or names i n ≡ n = sym (unwrap_or-slice_get names i n) ∙ ap (λ o. unwrap_or o n) there in
    drop_more names i n (slice_get_within names i n there) ∙ ap (λ x. x ∷ drop (i + 1) names) here

-- the number of types is the number of names
pub types_counted : (m : Module) (ts : List TypeOfShader) → ts ≡ map (λ (e : TypeOfShader × Span). e.0) m.types → length ts ≡ length (item_names (module_value m).types)
types_counted m ts e = ap length e ∙ sym (length-map (map (λ (u : TypeOfShader × Span). u.0) m.types) (λ (u : TypeOfShader). option_map string_bytes u.name)) ∙ ap length (sym (types_named m.types))
