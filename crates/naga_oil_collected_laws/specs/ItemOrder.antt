-- Which items a linked module and a build's module have, and in which order.
use Rattle.std.specs.Prelude.{ℕ, ◌≡◌, ◌==◌, List, [], ◌∷◌, ◌++◌, fold, length, if◌then◌else◌}
use Rattle.std.specs.List.{AllZip, flat_map, list_any, range_with_len}
use Rattle.naga_oil_ir.specs.ModuleValue.{ModuleValue}
use Rattle.naga_oil_ir.specs.declared.names.ItemPlace.{ItemPlace}
use Rattle.naga_oil_ir.specs.declared.names.ItemPlace.TheVariants.{TypeItem, ConstantItem, OverrideItem, GlobalItem, ExpressionItem}
use Rattle.naga_oil_derive.specs.CopiedEntry.{make_module}
use Rattle.naga_oil_derive.specs.CopiedLaw.{HasAt}
use Rattle.naga_oil_derive.specs.Tree.{World}
use Rattle.naga_oil_form_laws.specs.EntryForm.{IsModuleFormed}
use Rattle.naga_oil_link.specs.BuiltModule.{BuiltModule, Builds}
use Rattle.naga_oil_link.specs.CopiedBuild.{copy_whole}
use Rattle.naga_oil_link.specs.Linked.{link_whole}
use Rattle.naga_oil_link.specs.OwnPlaces.{OwnPlaces}
use Rattle.naga_oil_copy_laws.specs.Scope.{ReadAlike, scope_of}
use Rattle.naga_oil_link_laws.specs.Headers.{HaveOwnNames}
use Rattle.naga_oil_link_laws.specs.HeldBuild.{scope_reading, DecoratesTypes}
use Rattle.naga_oil_link_laws.specs.LinkedCopies.{AreFormedBuilds}
use Rattle.naga_oil_link_laws.specs.ReadIn.{scope_in, HasKeysOf}
use Rattle.naga_oil_collected_laws.specs.Trail.{PlaceIn, link_trail, held_trail}

-- ---- places in order

-- numbers, each once, in the order of their first occurrences
abbrev pub with_first : List ℕ → ℕ → List ℕ
with_first ns n = if list_any (λ k. k == n) ns then ns else ns ++ n ∷ []

abbrev pub firsts : List ℕ → List ℕ
firsts ns = fold with_first [] ns

-- the number of a place of one kind, and nothing for the others
abbrev pub type_number : ItemPlace → List ℕ
type_number (TypeItem k) = k ∷ []
type_number (ConstantItem k) = []
type_number (OverrideItem k) = []
type_number (GlobalItem k) = []
type_number (ExpressionItem k) = []

abbrev pub constant_number : ItemPlace → List ℕ
constant_number (TypeItem k) = []
constant_number (ConstantItem k) = k ∷ []
constant_number (OverrideItem k) = []
constant_number (GlobalItem k) = []
constant_number (ExpressionItem k) = []

abbrev pub override_number : ItemPlace → List ℕ
override_number (TypeItem k) = []
override_number (ConstantItem k) = []
override_number (OverrideItem k) = k ∷ []
override_number (GlobalItem k) = []
override_number (ExpressionItem k) = []

abbrev pub global_number : ItemPlace → List ℕ
global_number (TypeItem k) = []
global_number (ConstantItem k) = []
global_number (OverrideItem k) = []
global_number (GlobalItem k) = k ∷ []
global_number (ExpressionItem k) = []

abbrev pub expression_number : ItemPlace → List ℕ
expression_number (TypeItem k) = []
expression_number (ConstantItem k) = []
expression_number (OverrideItem k) = []
expression_number (GlobalItem k) = []
expression_number (ExpressionItem k) = k ∷ []

-- the first occurrences among places of one kind are 0, 1, and so on below a count
abbrev pub CountUp : (ItemPlace → List ℕ) → List ItemPlace → ℕ → Type 0
CountUp number places n = firsts (flat_map number places) ≡ range_with_len 0 n

-- places are those of all items of a module, and of each kind the first occurrences are in the module's order
pub record AreAllOf (t : ModuleValue) (places : List ItemPlace) : Type 0 where
  pub types : CountUp type_number places (length t.types)
  pub constants : CountUp constant_number places (length t.constants)
  pub overrides : CountUp override_number places (length t.overrides)
  pub globals : CountUp global_number places (length t.global_variables)
  pub expressions : CountUp expression_number places (length t.global_expressions)

-- a module's items are the copies of items that were reached, each once, in the order of first reach, and nothing else
pub record AreCopiesOf (IsCopy : PlaceIn → ItemPlace → Type 0) (t : ModuleValue) (items : List PlaceIn) : Type 0 where
  pub places : List ItemPlace
  pub copies : AllZip IsCopy items places
  pub order : AreAllOf t places

-- ---- the laws

-- the item at a place of a linked module reads as one of a build's module
pub record IsLinkedCopy (t : ModuleValue) (r : PlaceIn) (q : ItemPlace) : Type 0 where
  pub keys : HasKeysOf r.0 t
  pub there : HasAt t q
  pub alike : ReadAlike (scope_in r.0 t) (scope_of t) r.1 q

-- LAW: a linked module has the items that the link reaches, each once, in the order of first reach
abbrev pub LinkedOrderLaw : Type 0
LinkedOrderLaw = (bs : Builds) (b : BuiltModule) → AreFormedBuilds bs → HaveOwnNames bs → IsModuleFormed b.value →
    AreCopiesOf (IsLinkedCopy (link_whole bs b)) (link_whole bs b) (link_trail bs b).items

-- the item at a place of a build's module reads as one of a module that reads as w
pub record IsHeldCopy (w : World) (t : ModuleValue) (r : PlaceIn) (q : ItemPlace) : Type 0 where
  pub there : HasAt t q
  pub alike : ReadAlike (scope_reading w r.0) (scope_of t) r.1 q

-- a module has the items that a build reaches of another, whose own types may have their decorated names, in order
pub record HoldsInOrder (m : ModuleValue) (own : OwnPlaces) (decoration : List ℕ) (names : List (List ℕ)) (t : ModuleValue) : Type 0 where
  pub reads : World
  pub decorated : DecoratesTypes m own decoration reads
  pub items : AreCopiesOf (IsHeldCopy reads t) t (held_trail m own names).items

-- LAW: this holds of the whole of a module of good form that a build holds
abbrev pub HeldOrderLaw : Type 0
HeldOrderLaw = (m : ModuleValue) (own : OwnPlaces) (decoration : List ℕ) (names : List (List ℕ)) → IsModuleFormed m →
    HoldsInOrder m own decoration names (make_module (copy_whole m own decoration names).derived)
