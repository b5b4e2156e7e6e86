-- Items stay formed while items are copied one after another.
use Rattle.std.proofs.Common.{◌≡◌, ℕ, Option, Some, None, refl, sym, subst}
use Rattle.naga_oil_ir.specs.Rows.{Row, Text}
use Rattle.naga_oil_ir.specs.ModuleValue.{ModuleValue}
use Rattle.naga_oil_ir.specs.declared.names.ItemPlace.{ItemPlace}
use Rattle.naga_oil_ir.specs.declared.names.ItemPlace.TheVariants.{TypeItem}
use Rattle.naga_oil_derive.specs.Tree.{Kept}
use Rattle.naga_oil_derive.specs.World.{world}
use Rattle.naga_oil_rename.specs.Renames.{under_name}
use Rattle.naga_oil_derive.specs.Copied.{CopyState, put, put_type}
use Rattle.naga_oil_derive.specs.CopiedLaw.{IsKinded, IsMidway, IsReady, PutsOne, spans_by}
use Rattle.naga_oil_derive.specs.Putting.{CanPut, Putting, NothingPut, ItemPut, TypePutting, NoType, TypeLast}
use Rattle.naga_oil_derive.proofs.PutLaws.{put_named, put_item}
use Rattle.naga_oil_derive.proofs.PuttingLemmas.{putting_later}
use Rattle.naga_oil_form_laws.specs.ItemsStand.{ItemsStand, AreSpansFine}
use Rattle.naga_oil_form_laws.proofs.ItemLemmas.{Stays, unsized_later}
use Rattle.naga_oil_form_laws.proofs.PutLemmas.{KeptUnsized, put_stands}
use Rattle.naga_oil_form_laws.proofs.SpanLemmas.{put_spans}

-- items that may stand, where kept types aren't sized
pub record IsStateFormed (kept : Kept) (s : CopyState) : Type 0 where
  pub items : ItemsStand (world s.target)
  pub unsized : KeptUnsized (world s.target) kept
  pub spans : AreSpansFine s.target 4294967295

under_names : (o : Option Text) (r : Row) → (under_name o r).names ≡ r.names
under_names None r = refl
under_names (Some n) r = refl

under_kind : (o : Option Text) (r : Row) → (under_name o r).label.kind ≡ r.label.kind
under_kind None r = refl
under_kind (Some n) r = refl

module _ (m : ModuleValue) (shift : ℕ) (kept : Kept) (k : IsKinded m) (source : ItemsStand (world m)) (spans : AreSpansFine m 4294967295) where
  kept_later : (s : CopyState) (u : ModuleValue) → IsMidway m kept s → Stays (world s.target) (world u) → ItemsStand (world s.target) → KeptUnsized (world s.target) kept → KeptUnsized (world u) kept
  kept_later s u i stays target h p j e = unsized_later (world s.target) (world u) stays target j (i.copied.there p (TypeItem j) (i.copied.stand p (TypeItem j) e)) (h p j e)

  one_formed : (s u : CopyState) (p : ItemPlace) (r row : Row) → IsMidway m kept s → world m p ≡ Some r → row.names ≡ r.names → row.label.kind ≡ r.label.kind → PutsOne m s u p row (spans_by m shift p) → IsStateFormed kept s → IsStateFormed kept u
  one_formed s u p r row i at names kind c f = record {
    items = put_stands m kept s i source f.items f.unsized u p r row (spans_by m shift p) at names kind c;
    unsized = kept_later s u.target i c.fetches.stays f.items f.unsized;
    spans = put_spans m shift s u p row spans f.spans c;
  }

  ready : (s : CopyState) (p : ItemPlace) → IsMidway m kept s → (c : CanPut m s p) → IsReady m s p c.row
  ready s p i c = record { source = k; target = i.kinds; roomy = i.roomy; at = c.there; names = c.names }

  put_formed : (s : CopyState) (p : ItemPlace) → IsMidway m kept s → CanPut m s p → IsStateFormed kept s → IsStateFormed kept (put m shift s p)
  put_formed s p i c f = one_formed s (put m shift s p) p c.row c.row i c.there refl refl (put_item m shift s p c.row (ready s p i c)) f

  type_formed : (s : CopyState) (h : ℕ) (name : Option Text) → IsMidway m kept s → CanPut m s (TypeItem h) → IsStateFormed kept s → IsStateFormed kept (put_type m shift name s h)
  type_formed s h name i c f = one_formed s (put_type m shift name s h) (TypeItem h) c.row (under_name name c.row) i c.there (under_names name c.row) (under_kind name c.row) (put_named m shift s h c.row name (ready s (TypeItem h) i c)) f

  pub putting_formed : (s u : CopyState) → IsMidway m kept s → Putting m shift s u → IsStateFormed kept s → IsStateFormed kept u
  putting_formed s u i NothingPut f = f
  putting_formed s u i (ItemPut p c more) f =
      let one = putting_later m shift kept s (put m shift s p) k i (ItemPut p c NothingPut) in
      putting_formed (put m shift s p) u one.midway more (put_formed s p i c f)

  pub type_putting_formed : (name : Option Text) (h : ℕ) (s u : CopyState) → IsMidway m kept s → TypePutting m shift name h s u → IsStateFormed kept s → IsStateFormed kept u
  type_putting_formed name h s u i (NoType a) f = putting_formed s u i a f
  type_putting_formed name h s u i (TypeLast {t} a c e) f =
      let names = putting_later m shift kept s t k i a in
      subst (IsStateFormed kept) (sym e) (type_formed t h name names.midway c (putting_formed s t i a f))
