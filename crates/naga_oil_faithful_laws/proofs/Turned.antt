-- A module whose special types are interchanged, and nothing else, has special types that no parse has.
use Rattle.std.proofs.Common.{◌≡◌, ⊎_elim, ℕ, false, true, Bool, [], Some, refl, ap, sym, ◌∙◌, subst, arith}
use Rattle.std.proofs.lemmas.Option.{none-some, same_Some}
use Rattle.std.specs.Option.{option_eq}
use Rattle.std.specs.Prelude.{codes, bytes_eq}
use Rattle.naga_oil_ir.specs.ModuleValue.{ModuleValue}
use Rattle.naga_oil_ir.specs.Rows.{Text}
use Rattle.naga_oil_ir.specs.declared.backend.Capabilities.{Capabilities}
use Rattle.naga_oil_ir.specs.declared.names.ItemPlace.{ItemPlace}
use Rattle.naga_oil_ir.specs.declared.names.ItemPlace.TheVariants.{TypeItem}
use Rattle.naga_oil_words.specs.Marks.{has_module_mark}
use Rattle.naga_oil_derive.specs.Tree.{World, Tree, tree, row_tree}
use Rattle.naga_oil_derive.specs.World.{world, special_at}
use Rattle.naga_oil_derive.specs.declared.special.SpecialKey.{SpecialKey}
use Rattle.naga_oil_derive.specs.declared.special.SpecialKey.TheVariants.{RayDesc, RayIntersection, RayVertexReturn, Predeclared}
use Rattle.naga_oil_link.specs.BuiltModule.{BuiltModule}
use Rattle.naga_oil_link.specs.Owned.{own_places}
use Rattle.naga_oil_link_laws.specs.HeldBuild.{HasDecoratedName, DecoratesTypes}
use Rattle.naga_oil_link_laws.specs.KeptAlike.{scope_alike}
use Rattle.naga_oil_link_laws.specs.SpecialComes.{SpecialComes, Copied, Shared}
use Rattle.naga_oil.specs.Faithful.{owned_parse}
use Rattle.naga_oil_faithful_laws.specs.SmallMake.{mark, module_parse, shader_parse, small_settings, registry, shader}
use Rattle.naga_oil_faithful_laws.specs.OwnNames.{HaveOwnNames}
use Rattle.naga_oil_faithful_laws.specs.SpecialTypes.{IsParseOf, HasWrongSpecialTypes}
use Rattle.naga_oil_faithful_laws.specs.WrongModules.{with_turned_special_types, with_two_bases}
use Rattle.naga_oil_faithful_laws.proofs.Builds.{module_build, shader_build}
use Rattle.naga_oil_faithful_laws.proofs.Comes.{which}
use Rattle.naga_oil_faithful_laws.proofs.Refused.{never, ray_row, ray_stays}
use Rattle.naga_oil_faithful_laws.proofs.WrongItems.{name_of, own_module, own_shader}

abbrev is_ray : Text → Bool
is_ray t = option_eq bytes_eq (Some (codes "Ray")) t

-- a parse's special type of a ray is named so
abbrev NamesRay : World → ModuleValue → Type 0
NamesRay w p = (f : ItemPlace → Tree) (k : ℕ) → special_at p.special_types RayDesc ≡ Some k → is_ray (name_of (row_tree f (w (TypeItem k)))) ≡ true

module_names : (w : World) → DecoratesTypes own_module (own_places module_parse) mark w → NamesRay w own_module
unfolding name_of has_module_mark ray_row
module_names w d f k at =
    let named : is_ray (name_of (row_tree f (w (TypeItem 2)))) ≡ true = ap (λ o. is_ray (name_of (row_tree f o))) (sym (ray_stays w d.each)) in
    subst (λ (k : ℕ). is_ray (name_of (row_tree f (w (TypeItem k)))) ≡ true) (same_Some 2 k at) named

shader_names : (w : World) → DecoratesTypes own_shader (own_places shader_parse) [] w → NamesRay w own_shader
unfolding name_of world has_module_mark
shader_names w d f k at = subst (λ (k : ℕ). is_ray (name_of (row_tree f (w (TypeItem k)))) ≡ true) (same_Some 1 k at) named
  where
    named : is_ray (name_of (row_tree f (w (TypeItem 1)))) ≡ true
    named =
        ⊎_elim
        (λ (e : w (TypeItem 1) ≡ world own_shader (TypeItem 1)). ap (λ o. is_ray (name_of (row_tree f o))) e)
        (λ (h : HasDecoratedName own_shader (own_places shader_parse) [] w (TypeItem 1)). (let e : false ≡ true = h.own_item in absurd cc))
        (d.each (TypeItem 1))

module _ (c : Capabilities) where
  abbrev Parse : World → ModuleValue → Type 0
  Parse = IsParseOf (small_settings c) registry 0 shader

  names_ray : (w : World) (p : ModuleValue) → Parse w p → NamesRay w p
  names_ray w p x = subst (NamesRay w) x.value (⊎_elim (λ i. at_module i.0 i.1) (λ i. at_shader i.0.0 i.0.1) (which c x.of))
    where
      at_module : x.of.b ≡ module_build → x.of.parse ≡ module_parse → NamesRay w (owned_parse x.of.b x.of.parse)
      at_module e i =
          let P = λ (b : BuiltModule) (p : ModuleValue). DecoratesTypes (owned_parse b p) (own_places p) b.decoration w → NamesRay w (owned_parse b p) in
          subst (λ b. P b x.of.parse) (sym e) (subst (P module_build) (sym i) (module_names w)) x.decorated

      at_shader : x.of.b ≡ shader_build → x.of.parse ≡ shader_parse → NamesRay w (owned_parse x.of.b x.of.parse)
      at_shader e i =
          let P = λ (b : BuiltModule) (p : ModuleValue). DecoratesTypes (owned_parse b p) (own_places p) b.decoration w → NamesRay w (owned_parse b p) in
          subst (λ b. P b x.of.parse) (sym e) (subst (P shader_build) (sym i) (shader_names w)) x.decorated

  abbrev Comes : SpecialKey → ℕ → Type 0
  Comes key q = SpecialComes Parse (λ w p. scope_alike w p with_turned_special_types) with_turned_special_types key q

  no_copy : (w : World) (p : ModuleValue) (k q : ℕ) → q ≡ 2 → Parse w p → special_at p.special_types RayDesc ≡ Some k → (f : ItemPlace → Tree) → tree 1 (world with_turned_special_types) (TypeItem q) ≡ row_tree f (w (TypeItem k)) → ⊥
  unfolding tree world name_of
  no_copy w p k q is of at f e =
      let here : tree 1 (world with_turned_special_types) (TypeItem 2) ≡ row_tree f (w (TypeItem k)) = subst (λ (q : ℕ). tree 1 (world with_turned_special_types) (TypeItem q) ≡ row_tree f (w (TypeItem k))) is e in
      never (ap (λ t. is_ray (name_of t)) here ∙ names_ray w p of f k at)

  no_other : (other : SpecialKey) (q : ℕ) → q ≡ 2 → special_at with_turned_special_types.special_types other ≡ Some q → other ≡ RayDesc
  no_other RayDesc q is at = refl
  no_other RayIntersection q is at = let e : 1 ≡ 2 = same_Some 1 q at ∙ is in absurd (omega (arith, e))
  no_other RayVertexReturn q is at = absurd (none-some q at)
  no_other (Predeclared k) q is at = absurd (none-some q at)

  not_from : (key : SpecialKey) (q : ℕ) → key ≡ RayDesc → q ≡ 2 → Comes key q → ⊥
  not_from key q ray is (Copied w p k of at copy) = no_copy w p k q is of (ap (special_at p.special_types) (sym ray) ∙ at) _ (copy.reads 0)
  not_from key q ray is (Shared w p j k of at too same there more) = not_from _ q (no_other _ q is there) is more

-- two functions have one name
pub two_bases_refused : HaveOwnNames with_two_bases → ⊥
two_bases_refused h = let e : 1 ≡ 3 = h 1 3 _ _ refl refl refl in absurd (omega (arith, e))

pub turned_special_types_refused : HasWrongSpecialTypes with_turned_special_types
turned_special_types_refused c h = not_from c RayDesc 2 refl refl (h RayDesc 2 refl)
