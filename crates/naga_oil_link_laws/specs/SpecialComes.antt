-- What a special type of a module is that was put together from others: a type that one of them has for its key.
use Rattle.std.specs.Prelude.{ℕ, suc, ◌≡◌, Some}
use Rattle.naga_oil_ir.specs.ModuleValue.{ModuleValue}
use Rattle.naga_oil_ir.specs.declared.names.ItemPlace.TheVariants.{TypeItem}
use Rattle.naga_oil_derive.specs.CopiedLaw.{HasAt}
use Rattle.naga_oil_derive.specs.Tree.{World, tree, row_tree}
use Rattle.naga_oil_derive.specs.World.{world, special_at}
use Rattle.naga_oil_derive.specs.declared.special.SpecialKey.{SpecialKey}
use Rattle.naga_oil_copy_laws.specs.Scope.{Scope}

-- the type of t at q is a copy of the type at k in a world: it has the label of that type, and what it names reads as in a scope
pub record IsTypeFrom (w : World) (a : Scope) (t : ModuleValue) (k q : ℕ) : Type 0 where
  pub there : HasAt t (TypeItem q)
  pub reads : (n : ℕ) → tree (suc n) (world t) (TypeItem q) ≡ row_tree (λ p. a.reads p n) (w (TypeItem k))

-- two types of a world read alike
abbrev pub AreSameTypes : World → ℕ → ℕ → Type 0
AreSameTypes w j k = (n : ℕ) → tree n w (TypeItem j) ≡ tree n w (TypeItem k)

-- The type of t at q comes from the special type that one of some modules, as it reads, has for a key. Either it is a copy of that
-- type, or that type is also the module's special type for another key, for which t has the type at q, and it comes from that.
pub data SpecialComes (Of : World → ModuleValue → Type 0) (scope : World → ModuleValue → Scope) (t : ModuleValue) : SpecialKey → ℕ → Type 0 where
  Copied :
      {key : SpecialKey} {q : ℕ} (w : World) (m : ModuleValue) (k : ℕ) → Of w m → special_at m.special_types key ≡ Some k →
      IsTypeFrom w (scope w m) t k q → SpecialComes Of scope t key q
  Shared :
      {key other : SpecialKey} {q : ℕ} (w : World) (m : ModuleValue) (j k : ℕ) → Of w m → special_at m.special_types key ≡ Some j →
      special_at m.special_types other ≡ Some k → AreSameTypes w j k → special_at t.special_types other ≡ Some q →
      SpecialComes Of scope t other q → SpecialComes Of scope t key q
