-- The small make's module is faithful.
use Rattle.std.proofs.Common.{◌≡◌, ◌⊎◌, inl, inr, ℕ, zero, suc, ◌<◌, true, false, [], ◌∷◌, ◌++◌, Some, None, IsSome, refl, ap, sym, subst, slice_get, arith}
use Rattle.std.proofs.lemmas.List.Elements.{All-nil, All-cons}
use Rattle.std.proofs.lemmas.Option.{none-some, same_Some}
use Rattle.std.specs.Prelude.{codes}
use Rattle.naga_oil_form.proofs.LinkLemmas.{All-has}
use Rattle.naga_oil_form.specs.Links.{has}
use Rattle.naga_oil_ir.specs.ModuleValue.{ModuleValue, FunctionValue, EntryValue}
use Rattle.naga_oil_ir.specs.Rows.{Row, Text}
use Rattle.naga_oil_ir.specs.Spans.{undefined}
use Rattle.naga_oil_ir.specs.declared.backend.Capabilities.{Capabilities}
use Rattle.naga_oil_ir.specs.declared.names.ItemPlace.{ItemPlace}
use Rattle.naga_oil_ir.specs.declared.names.ItemPlace.TheVariants.{TypeItem, ConstantItem, OverrideItem, GlobalItem, ExpressionItem}
use Rattle.naga_oil_ir.specs.declared.parts.Named.TheVariants.{TypeOf, ArgumentAt}
use Rattle.naga_oil_ir.specs.declared.span.Span.{Span}
use Rattle.naga_oil_words.specs.Marks.{has_module_mark}
use Rattle.naga_oil_derive.specs.CopiedLaw.{HasAt}
use Rattle.naga_oil_derive.specs.Tree.{World, tree, reading}
use Rattle.naga_oil_derive.specs.declared.special.SpecialKey.{SpecialKey}
use Rattle.naga_oil_derive.specs.declared.special.SpecialKey.TheVariants.{RayDesc, RayIntersection, RayVertexReturn, Predeclared}
use Rattle.naga_oil_derive.specs.World.{world, special_at}
use Rattle.naga_oil_link.specs.BuiltModule.{Builds}
use Rattle.naga_oil_link.specs.Linked.{link_header}
use Rattle.naga_oil_link.specs.OwnPlaces.{is_own}
use Rattle.naga_oil_link.specs.Owned.{own_places}
use Rattle.naga_oil_copy_laws.specs.Scope.{Scope, ReadAlike, scope_of}
use Rattle.naga_oil_link_laws.specs.Headers.{HasNamed}
use Rattle.naga_oil_link_laws.specs.ReadIn.{HasKeysOf}
use Rattle.naga_oil_link_laws.specs.HeldBuild.{HasDecoratedName, IsReachedBefore, DecoratesTypes}
use Rattle.naga_oil_link_laws.specs.KeptAlike.{kept_alike, scope_alike}
use Rattle.naga_oil.specs.MakeDefs.{make_defs}
use Rattle.naga_oil.specs.Faithful.{IsBuiltOf, IsBuiltModule, IsBuiltShader, ParseOf, header_of, made_builds, owned_parse, FunctionComes, ItemComes, EntryComes}
use Rattle.naga_oil_faithful_laws.specs.SmallMake.{function, small_settings, registry, shader, module_definition, module_parse, shader_parse, number, struct, span, mark, helper_name, base_name, override_name, kill, call_with_first, override_of, ray_of, first_entry, second_entry, made_with, base_copy, right}
use Rattle.naga_oil_faithful_laws.specs.SmallMakeLaw.{IsFaithfulSo}
use Rattle.naga_oil_faithful_laws.proofs.Texts.{source_read, described, shader_definition}
use Rattle.naga_oil_faithful_laws.proofs.Builds.{module_build, shader_build}
use Rattle.naga_oil_faithful_laws.proofs.Answered.{builds, defs_made, answered}
use Rattle.naga_oil_faithful_laws.proofs.Comes.{module_is, shader_is, only_base, calls_go, own_helper, own_base}
use Rattle.naga_oil_faithful_laws.proofs.Refused.{not_override}
use Rattle.naga_oil_faithful_laws.proofs.Copied.{module_goes, shader_goes, plain_copy, number_copy, call_copy, base_is_copied}

-- ---- the parses

module _ (c : Capabilities) where
  module_built : IsBuiltModule (small_settings c) registry (make_defs registry 0 shader) (made_builds (small_settings c) registry 0 shader) module_build module_parse
  module_built = record {
    place = 0;
    registered = 0;
    definition = module_definition;
    known = refl;
    at = ap (λ (bs : Builds). slice_get bs 0) (ap (λ o. o.builds) (answered c));
    is = subst (λ defs. IsBuiltOf (small_settings c) defs module_definition [] module_build module_parse) (sym defs_made) (module_is c);
  }

  shader_built : IsBuiltShader (small_settings c) registry 0 shader shader_build shader_parse
  shader_built = record {
    read = (shader.source, 0);
    source = source_read;
    definition = shader_definition;
    described = described;
    is =
        subst (λ bs. IsBuiltOf (small_settings c) (make_defs registry 0 shader) shader_definition bs shader_build shader_parse) (sym (ap (λ o. o.builds) (answered c)))
        (subst (λ defs. IsBuiltOf (small_settings c) defs shader_definition builds shader_build shader_parse) (sym defs_made) (shader_is c));
  }

  abbrev of_module : ParseOf (small_settings c) registry 0 shader
  of_module = record { b = module_build; parse = module_parse; is = inl module_built }

  abbrev of_shader : ParseOf (small_settings c) registry 0 shader
  of_shader = record { b = shader_build; parse = shader_parse; is = inr shader_built }

-- ---- how the parses read

-- the module, whose struct has its decorated name
abbrev module_reads : World
module_reads = world (record module_parse { types = number ∷ struct (codes "S" ++ mark) ∷ struct (codes "Ray") ∷ struct (codes "Hit") ∷ [] })

abbrev shader_reads : World
shader_reads = world shader_parse

own_named : HasDecoratedName (owned_parse module_build module_parse) (own_places module_parse) mark module_reads (TypeItem 1)
unfolding world has_module_mark
own_named = record { own_item = refl; ty = refl; row = refl }

module_decorated : DecoratesTypes (owned_parse module_build module_parse) (own_places module_parse) module_build.decoration module_reads
unfolding world has_module_mark
module_decorated = record { each = each; all = all }
  where
    each : (p : ItemPlace) → (module_reads p ≡ world (owned_parse module_build module_parse) p) ⊎ HasDecoratedName (owned_parse module_build module_parse) (own_places module_parse) mark module_reads p
    each (TypeItem zero) = inl refl
    each (TypeItem (suc zero)) = inr own_named
    each (TypeItem (suc (suc k))) = inl refl
    each (ConstantItem k) = inl refl
    each (OverrideItem k) = inl refl
    each (GlobalItem k) = inl refl
    each (ExpressionItem k) = inl refl

    all : (k : ℕ) → k < 4 → is_own (own_places module_parse) (TypeItem k) ≡ true → HasDecoratedName (owned_parse module_build module_parse) (own_places module_parse) mark module_reads (TypeItem k) ⊎ IsReachedBefore (owned_parse module_build module_parse) k k
    all zero l e = absurd (let f : false ≡ true = e in cc)
    all (suc zero) l e = inl own_named
    all (suc (suc zero)) l e = absurd (let f : false ≡ true = e in cc)
    all (suc (suc (suc zero))) l e = absurd (let f : false ≡ true = e in cc)
    all (suc (suc (suc (suc k)))) l e = absurd (omega arith)

shader_decorated : DecoratesTypes (owned_parse shader_build shader_parse) (own_places shader_parse) shader_build.decoration shader_reads
unfolding has_module_mark
shader_decorated = record { each = λ p. inl refl; all = λ k l e. absurd (let f : false ≡ true = e in cc) }

-- ---- the module that is made

abbrev made : ModuleValue
made = made_with right

abbrev from_module : Scope
from_module = scope_alike module_reads (owned_parse module_build module_parse) made

abbrev from_shader : Scope
from_shader = scope_alike shader_reads (owned_parse shader_build shader_parse) made

-- its items read as those of the parses
number_alike : ReadAlike from_module (scope_of made) (TypeItem 0) (TypeItem 0)
unfolding tree reading world kept_alike has_module_mark
number_alike zero = refl
number_alike (suc n) = refl

ray_alike : ReadAlike from_module (scope_of made) (TypeItem 2) (TypeItem 1)
unfolding tree reading world kept_alike has_module_mark
ray_alike zero = refl
ray_alike (suc n) = refl

hit_alike : ReadAlike from_module (scope_of made) (TypeItem 3) (TypeItem 2)
unfolding tree reading world kept_alike has_module_mark
hit_alike zero = refl
hit_alike (suc n) = refl

own_alike : ReadAlike from_module (scope_of made) (TypeItem 1) (TypeItem 3)
unfolding tree reading world kept_alike has_module_mark
own_alike zero = refl
own_alike (suc zero) = refl
own_alike (suc (suc n)) = refl

shader_ray_alike : ReadAlike from_shader (scope_of made) (TypeItem 1) (TypeItem 1)
unfolding tree reading world kept_alike has_module_mark
shader_ray_alike zero = refl
shader_ray_alike (suc n) = refl

shader_number_alike : ReadAlike from_shader (scope_of made) (TypeItem 0) (TypeItem 0)
unfolding tree reading world kept_alike has_module_mark
shader_number_alike zero = refl
shader_number_alike (suc n) = refl

ray_types : (k : ℕ) → has (1 ∷ []) k ≡ true → ReadAlike from_shader (scope_of made) (TypeItem k) (TypeItem k)
ray_types k w = let P = λ (k : ℕ). ReadAlike from_shader (scope_of made) (TypeItem k) (TypeItem k) in All-has P (1 ∷ []) k (All-cons P 1 [] shader_ray_alike (All-nil P)) w

-- it has special types with the keys of the parses
abbrev HasKey : SpecialKey × ℕ → Type 0
HasKey e = IsSome (special_at made.special_types e.0)

module_keys : HasKeysOf (owned_parse module_build module_parse) made
unfolding has_module_mark
module_keys = All-cons HasKey (RayDesc, 2) ((RayIntersection, 3) ∷ []) refl (All-cons HasKey (RayIntersection, 3) [] refl (All-nil HasKey))

shader_keys : HasKeysOf (owned_parse shader_build shader_parse) made
unfolding has_module_mark
shader_keys = All-cons HasKey (RayDesc, 1) [] refl (All-nil HasKey)

module _ (c : Capabilities) where
  -- ---- functions

  abbrev IsComing : FunctionValue × Span → Type 0
  IsComing g = FunctionComes (small_settings c) registry 0 shader shader_build made g

  -- the module's text has no header
  none_declared : (n : Text) → HasNamed (header_of (small_settings c) registry 0 shader (of_module c)) n → ⊥
  unfolding link_header
  none_declared n h = none-some h.1 h.2

  override_undeclared : HasNamed (header_of (small_settings c) registry 0 shader (of_shader c)) (Some override_name) → ⊥
  override_undeclared h =
      let there = subst (λ (bs : Builds). HasNamed (link_header bs shader_build.imports) (Some override_name)) (ap (λ o. o.builds) (answered c)) h in
      not_override (sym (only_base (Some override_name) there))

  helper_comes : IsComing (function helper_name [] [] [] kill, undefined)
  unfolding has_module_mark
  helper_comes = record {
    of = of_module c;
    special = module_keys;
    place = 0;
    function = (own_helper, undefined);
    at = refl;
    undeclared = none_declared (Some helper_name);
    copies = record { reads = module_reads; decorated = module_decorated; copies = plain_copy module_goes refl (calls_go (Some helper_name)) from_module (scope_of made) helper_name };
    span = refl;
  }

  base_comes : IsComing (base_copy right, span 2097152 2097161)
  unfolding has_module_mark
  base_comes = record {
    of = of_module c;
    special = module_keys;
    place = 1;
    function = (own_base, span 0 9);
    at = refl;
    undeclared = none_declared (Some base_name);
    copies = record { reads = module_reads; decorated = module_decorated; copies = base_is_copied (calls_go (Some base_name)) from_module (scope_of made) ray_alike own_alike refl };
    span = refl;
  }

  override_comes : IsComing (override_of 1, undefined)
  unfolding has_module_mark
  override_comes = record {
    of = of_shader c;
    special = shader_keys;
    place = 1;
    function = (override_of 0, undefined);
    at = refl;
    undeclared = override_undeclared;
    copies = record { reads = shader_reads; decorated = shader_decorated; copies = call_copy (λ k. 1) (calls_go (Some override_name)) from_shader (scope_of made) override_name (ray_of 1 ∷ []) 6 (ArgumentAt 0) 0 refl ray_types (tt, tt) refl };
    span = refl;
  }

  functions_come : (k : ℕ) (g : FunctionValue × Span) → slice_get made.functions k ≡ Some g → IsComing g
  functions_come zero g at = subst IsComing (same_Some (function helper_name [] [] [] kill, undefined) g at) helper_comes
  functions_come (suc zero) g at = subst IsComing (same_Some (base_copy right, span 2097152 2097161) g at) base_comes
  functions_come (suc (suc zero)) g at = subst IsComing (same_Some (override_of 1, undefined) g at) override_comes
  functions_come (suc (suc (suc k))) g at = absurd (none-some g at)

  -- ---- entry points

  abbrev IsEntry : ℕ → EntryValue → Type 0
  IsEntry i y = EntryComes shader_build shader_parse (λ s. s) made i y

  first_comes : IsEntry 0 (first_entry (call_with_first 2))
  unfolding has_module_mark
  first_comes = record {
    entry = first_entry (call_with_first 0);
    at = refl;
    copies = record { reads = shader_reads; decorated = shader_decorated; copies = call_copy (λ k. 2) (calls_go None) from_shader (scope_of made) (codes "a") [] 1 (TypeOf 1) 0 refl (λ k w. absurd (let f : false ≡ true = w in cc)) (shader_ray_alike, tt) refl };
    whole = record { name = refl; stage = refl; early_depth_test = refl; workgroup_size = refl; sizes = tt; mesh_info = tt; task_payload = tt };
  }

  second_comes : IsEntry 1 second_entry
  unfolding has_module_mark
  second_comes = record {
    entry = second_entry;
    at = refl;
    copies = record { reads = shader_reads; decorated = shader_decorated; copies = number_copy (shader_goes (λ k. k)) refl refl (calls_go None) from_shader (scope_of made) (codes "b") shader_number_alike };
    whole = record { name = refl; stage = refl; early_depth_test = refl; workgroup_size = refl; sizes = tt; mesh_info = tt; task_payload = tt };
  }

  entries_come : (i : ℕ) (y : EntryValue) → slice_get made.entry_points i ≡ Some y → IsEntry i y
  entries_come zero y at = subst (IsEntry 0) (same_Some (first_entry (call_with_first 2)) y at) first_comes
  entries_come (suc zero) y at = subst (IsEntry 1) (same_Some second_entry y at) second_comes
  entries_come (suc (suc i)) y at = absurd (none-some y at)

  -- ---- items

  item_comes : (p q : ItemPlace) (r : Row) → world (owned_parse module_build module_parse) p ≡ Some r → ReadAlike from_module (scope_of made) p q → ItemComes (small_settings c) registry 0 shader made q
  item_comes p q r at alike = record { of = of_module c; reads = module_reads; decorated = module_decorated; place = p; stands = (r, at); alike = alike }

  items_come : (q : ItemPlace) (r : Row) → world made q ≡ Some r → ItemComes (small_settings c) registry 0 shader made q
  unfolding world has_module_mark
  items_come (TypeItem zero) r e = item_comes (TypeItem 0) (TypeItem 0) _ refl number_alike
  items_come (TypeItem (suc zero)) r e = item_comes (TypeItem 2) (TypeItem 1) _ refl ray_alike
  items_come (TypeItem (suc (suc zero))) r e = item_comes (TypeItem 3) (TypeItem 2) _ refl hit_alike
  items_come (TypeItem (suc (suc (suc zero)))) r e = item_comes (TypeItem 1) (TypeItem 3) _ refl own_alike
  items_come (TypeItem (suc (suc (suc (suc k))))) r e = absurd (none-some r e)
  items_come (ConstantItem k) r e = absurd (none-some r e)
  items_come (OverrideItem k) r e = absurd (none-some r e)
  items_come (GlobalItem k) r e = absurd (none-some r e)
  items_come (ExpressionItem k) r e = absurd (none-some r e)

-- what its special keys name is there
special_there : (key : SpecialKey) (q : ℕ) → special_at made.special_types key ≡ Some q → HasAt made (TypeItem q)
unfolding world
special_there RayDesc q e = subst (λ j. HasAt made (TypeItem j)) (same_Some 1 q e) (_, refl)
special_there RayIntersection q e = subst (λ j. HasAt made (TypeItem j)) (same_Some 2 q e) (_, refl)
special_there RayVertexReturn q e = absurd (none-some q e)
special_there (Predeclared c) q e = absurd (none-some q e)

-- ---- the whole

pub row_is_faithful : IsFaithfulSo right
unfolding has_module_mark
row_is_faithful c = record {
  shader = shader_build;
  parse = shader_parse;
  is = shader_built c;
  special = shader_keys;
  special_there = special_there;
  functions = functions_come c;
  items = items_come c;
  entry_points = entries_come c;
  as_many = refl;
}
