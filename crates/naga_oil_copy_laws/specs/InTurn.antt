-- Functions that are sorted, without handles.
use Rattle.std.specs.Prelude.{ℕ, ◌≡◌, List, [], length, slice_get, Some, Ok, All, IfSome, IsSome}
use Rattle.naga_oil_ir.specs.ModuleValue.{ModuleValue, FunctionValue, EntryValue}
use Rattle.naga_oil_ir.specs.declared.span.Span.{Span}
use Rattle.naga_oil_derive.specs.CopiedEntry.{entry_names}
use Rattle.naga_oil_derive.specs.CopiedLaw.{HasAt, IsCopyable, AreSpecial}
use Rattle.naga_oil_derive.specs.DerivedFunctions.{MayCall, MayCopy}
use Rattle.naga_oil_derive.specs.World.{shifted}
use Rattle.naga_oil_redirect.specs.PutInOrder.{in_turn, put_in_order}
use Rattle.naga_oil_copy_laws.specs.Scope.{scope_of}
use Rattle.naga_oil_copy_laws.specs.ByTree.{CopiesByTree}
use Rattle.naga_oil_copy_laws.specs.ByTreeLaw.{HasEarlierOperands}
use Rattle.naga_oil_copy_laws.specs.HeldCopies.{IsCopyableFunction}

-- a function over the handles of a module can be copied, with everything that it calls
pub record CanCopyWhole (m : ModuleValue) (f : FunctionValue) : Type 0 where
  pub copyable : IsCopyableFunction f
  pub reaches : MayCopy m (MayCall m [] (length m.functions)) f

-- the items, functions and entry points of a module can be copied
pub record CanCopyModule (m : ModuleValue) : Type 0 where
  pub items : IsCopyable m
  pub special : AreSpecial m
  pub functions :
      (k : ℕ) (x : FunctionValue × Span) → slice_get m.functions k ≡ Some x → CanCopyWhole m x.0 × IsSome x.0.name
  pub entry_points :
      (i : ℕ) (v : EntryValue) → slice_get m.entry_points i ≡ Some v →
      CanCopyWhole m v.function × All (λ o. IfSome o (HasAt m)) (entry_names v)

-- g, in n, is a copy of f, of m
pub record CopiesInto (m n : ModuleValue) (f g : FunctionValue) : Type 0 where
  pub copies : CopiesByTree (shifted 0) (λ t. t) (scope_of m) f (scope_of n) g
  pub earlier : HasEarlierOperands g

-- g is a copy of a function of m
pub record CopiesOneOf (m n : ModuleValue) (g : FunctionValue) : Type 0 where
  pub place : ℕ
  pub function : FunctionValue × Span
  pub at : slice_get m.functions place ≡ Some function
  pub copies : CopiesInto m n function.0 g

-- the function of y is a copy of that of the entry point at i of m
pub record CopiesEntry (m n : ModuleValue) (i : ℕ) (y : EntryValue) : Type 0 where
  pub entry : EntryValue
  pub at : slice_get m.entry_points i ≡ Some entry
  pub copies : CopiesInto m n entry.function y.function

-- each function of n is a copy of one of m, and each entry point's function a copy of that of the entry point at its place
pub record CopiesModule (m n : ModuleValue) : Type 0 where
  pub functions : (k : ℕ) (g : FunctionValue × Span) → slice_get n.functions k ≡ Some g → CopiesOneOf m n g.0
  pub entry_points : (i : ℕ) (y : EntryValue) → slice_get n.entry_points i ≡ Some y → CopiesEntry m n i y

-- LAW: copying functions of a module one after another makes copies of its functions
abbrev pub InTurnLaw : Type 0
InTurnLaw = (m : ModuleValue) (places : List ℕ) → CanCopyModule m → CopiesModule m (in_turn m places)

-- LAW: sorting the functions of a module makes copies of them
abbrev pub InOrderLaw : Type 0
InOrderLaw = (m n : ModuleValue) → CanCopyModule m → put_in_order m ≡ Ok n → CopiesModule m n
