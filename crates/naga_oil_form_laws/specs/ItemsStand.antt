-- Which items may stand in a module, by what stands at its places.
use Rattle.std.specs.Prelude.{◌≡◌, ◌⊎◌, ◌<◌, ℕ, zero, suc, Bool, true, false, not, nat_eq, ◌==◌, ◌||◌, if◌then◌else◌, map, Some, None, All, IfSome}
use Rattle.std.specs.List.{list_any, IsDistinct}
use Rattle.naga_oil_form.specs.BodyForm.{IsSpanFine}
use Rattle.naga_oil_form.specs.ItemForm.{is_override, IsGlobalKind}
use Rattle.naga_oil_form.specs.Links.{has}
use Rattle.naga_oil_ir.specs.ModuleValue.{ModuleValue, SpecialValue}
use Rattle.naga_oil_ir.specs.Rows.{Row, Kind, TypeKind, ConstantKind, OverrideKind, GlobalKind, ExpressionKind}
use Rattle.naga_oil_ir.specs.declared.names.ItemPlace.{ItemPlace}
use Rattle.naga_oil_ir.specs.declared.names.ItemPlace.TheVariants.{TypeItem, ConstantItem, OverrideItem, GlobalItem, ExpressionItem}
use Rattle.naga_oil_ir.specs.declared.span.Span.{Span}
use Rattle.naga_oil_ir.specs.Spans.{u32_max}
use Rattle.naga_oil_derive.specs.Tree.{World}
use Rattle.naga_oil_derive.specs.World.{world, span_at, special_entries}
use Rattle.naga_oil_derive.specs.CopiedLaw.{place_number, IsKinded, IsCopyable, AreSpecial}

-- ---- what types reach

-- the property that a place of a type is to have; other places need not have it
abbrev pub OfType : (ℕ → Type 0) → ItemPlace → Type 0
OfType P (TypeItem k) = P k
OfType P (ConstantItem k) = Unit {0}
OfType P (OverrideItem k) = Unit {0}
OfType P (GlobalItem k) = Unit {0}
OfType P (ExpressionItem k) = Unit {0}

-- a type, and the types that it reaches within a depth, have a property of place and row
unfoldable pub ReachesOnly : ℕ → World → (ℕ → Row → Type 0) → ℕ → Type 0
ReachesOnly zero w P k = Unit {0}
ReachesOnly (suc n) w P k =
    (r : Row) → w (TypeItem k) ≡ Some r →
    P k r × All (λ o. IfSome o (OfType (ReachesOnly n w P))) r.names

-- a type, and all types that it reaches, have the property
abbrev pub AllReached : World → (ℕ → Row → Type 0) → ℕ → Type 0
AllReached w P k = (n : ℕ) → ReachesOnly n w P k

-- a type names no override, which its size would be
abbrev pub IsFixed : ℕ → Row → Type 0
IsFixed k r = list_any is_override r.names ≡ false

-- no size of what a type reaches is an override's
abbrev pub IsUnsized : World → ℕ → Type 0
IsUnsized w k = AllReached w IsFixed k

-- ---- what items name

-- the item at a place may name the type at j: a type names earlier types; constants, overrides and expressions name no sized type
abbrev pub MayNameType : World → ItemPlace → ℕ → Type 0
MayNameType w (TypeItem k) j = j < k
MayNameType w (ConstantItem k) j = IsUnsized w j
MayNameType w (OverrideItem k) j = IsUnsized w j
MayNameType w (GlobalItem k) j = Unit {0}
MayNameType w (ExpressionItem k) j = IsUnsized w j

-- a place of an expression is before k
abbrev pub IsBefore : ℕ → ItemPlace → Type 0
IsBefore k (TypeItem j) = Unit {0}
IsBefore k (ConstantItem j) = Unit {0}
IsBefore k (OverrideItem j) = Unit {0}
IsBefore k (GlobalItem j) = Unit {0}
IsBefore k (ExpressionItem j) = j < k

-- all expressions that the item at a place names are before k
abbrev pub NamesBefore : World → ℕ → ItemPlace → Type 0
NamesBefore w k p = (r : Row) → w p ≡ Some r → All (λ o. IfSome o (IsBefore k)) r.names

-- the expression at k may name the item at a place: an earlier expression, or a constant or override whose initialiser is earlier
abbrev pub StandsAfter : World → ℕ → ItemPlace → Type 0
StandsAfter w k (TypeItem j) = Unit {0}
StandsAfter w k (ConstantItem j) = NamesBefore w k (ConstantItem j)
StandsAfter w k (OverrideItem j) = NamesBefore w k (OverrideItem j)
StandsAfter w k (GlobalItem j) = Unit {0}
StandsAfter w k (ExpressionItem j) = j < k

-- the item at a place may name the item at another; only expressions must stand after what they name
abbrev pub MayStandAfter : World → ItemPlace → ItemPlace → Type 0
MayStandAfter w (TypeItem k) q = Unit {0}
MayStandAfter w (ConstantItem k) q = Unit {0}
MayStandAfter w (OverrideItem k) q = Unit {0}
MayStandAfter w (GlobalItem k) q = Unit {0}
MayStandAfter w (ExpressionItem k) q = StandsAfter w k q

abbrev pub IsIn : World → ItemPlace → Type 0
IsIn w q = (r : Row) × (w q ≡ Some r)

-- the kinds that items of a kind name, by number: types name types and overrides, expressions no globals, others types and
-- expressions
abbrev pub may_name_kind : ℕ → ℕ → Bool
may_name_kind zero b = (b == 0) || (b == 2)
may_name_kind (suc a) b = if a == 3 then not (b == 3) else (b == 0) || (b == 4)

-- the item at a place may name that at another
pub record MayName (w : World) (p q : ItemPlace) : Type 0 where
  pub there : IsIn w q
  pub kind : may_name_kind (place_number p) (place_number q) ≡ true
  pub of_type : OfType (MayNameType w p) q
  pub following : MayStandAfter w p q

-- a global expression is no global, local, argument or result
abbrev pub MayBeGlobal : Kind → Type 0
MayBeGlobal (TypeKind n) = Unit {0}
MayBeGlobal ConstantKind = Unit {0}
MayBeGlobal OverrideKind = Unit {0}
MayBeGlobal GlobalKind = Unit {0}
MayBeGlobal (ExpressionKind k n) = IsGlobalKind k

-- items name what they may name, and global expressions are of their kinds
pub record ItemsStand (w : World) : Type 0 where
  pub names : (p : ItemPlace) (r : Row) → w p ≡ Some r → All (λ o. IfSome o (MayName w p)) r.names
  pub kinds : (p : ItemPlace) (r : Row) → w p ≡ Some r → MayBeGlobal r.label.kind

-- ---- special types

-- a type is special
abbrev pub IsSpecial : SpecialValue → ℕ → Type 0
IsSpecial s k = has (map (λ e. e.1) (special_entries s)) k ≡ true

-- a type has no name, or is special
abbrev pub IsPlain : SpecialValue → ℕ → Row → Type 0
IsPlain s k r = (r.label.name ≡ None) ⊎ IsSpecial s k

-- a type may be special: it is there, isn't sized, and reaches only unnamed or special types
pub record MayBeSpecial (m : ModuleValue) (k : ℕ) : Type 0 where
  pub there : IsIn (world m) (TypeItem k)
  pub unsized : IsUnsized (world m) k
  pub plain : AllReached (world m) (IsPlain m.special_types) k

-- ---- all of it

-- the spans of items lie in a text of n bytes
abbrev pub AreSpansFine : ModuleValue → ℕ → Type 0
AreSpansFine m n = (p : ItemPlace) (s : Span) → span_at m p ≡ Some s → IsSpanFine n s

-- the items of a module pass the test of form over the joined texts of all modules, except that two of its special types may be
-- one type: each item stands in the arena of its kind, and no two special types have the same key
pub record AreFormed (m : ModuleValue) : Type 0 where
  pub kinds : IsKinded m
  pub keys : IsDistinct nat_eq (map (λ e. e.0) m.special_types.predeclared_types)
  pub items : ItemsStand (world m)
  pub special : All (λ e. MayBeSpecial m e.1) (special_entries m.special_types)
  pub spans : AreSpansFine m u32_max

-- LAW: items that pass can be copied
abbrev pub CopyableItemsLaw : Type 0
CopyableItemsLaw = (m : ModuleValue) → AreFormed m → IsCopyable m × AreSpecial m
