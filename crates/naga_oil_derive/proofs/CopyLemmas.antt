use Rattle.std.proofs.Common.{◌≡◌, ℕ, zero, suc, ◌<◌, List, Option, Some, None, option_map, slice_get, refl, ap, sym, ◌∙◌, subst, All, is_some, get_or, length, replicate}
use Rattle.std.specs.Option.{option_flatten}
use Rattle.naga_oil_ir.specs.Rows.{Row, Text}
use Rattle.naga_oil_ir.specs.ModuleValue.{special_value}
use Rattle.naga_oil_ir.specs.declared.module.Module.{Module}
use Rattle.naga_oil_ir.specs.declared.names.ItemPlace.{ItemPlace}
use Rattle.naga_oil_derive.specs.Tree.{World}
use Rattle.naga_oil_rename.specs.Renames.{under_name}
use Rattle.naga_oil_derive.specs.World.{named_world, name_at, kept_of}
use Rattle.naga_oil_derive.specs.Copying.{Goes, kept_between}
use Rattle.naga_oil_derive.proofs.WorldLemmas.{named_some, named_same}

-- ---- maps

pub is_some_mapped : {A B : Type 0} (f : A → B) (o : Option A) → is_some (option_map f o) ≡ is_some o
is_some_mapped f None = refl
is_some_mapped f (Some x) = refl

pub flat_none : (n k : ℕ) → ◌≡◌ {A = Option ℕ} (option_flatten (slice_get (replicate n None) k)) None
flat_none zero k = refl
flat_none (suc n) zero = refl
flat_none (suc n) (suc k) = flat_none n k

-- ---- what an option holds

pub not_some : (o : Option ItemPlace) → ((p : ItemPlace) → o ≡ Some p → ⊥) → o ≡ None
not_some None h = refl
not_some (Some p) h = absurd (h p refl)

pub same_rows : (r s : Row) (o : Option Row) → o ≡ Some r → o ≡ Some s → r ≡ s
same_rows r s o e f = let g : Some r ≡ Some s = sym e ∙ f in cc

-- ---- the source, as it reads after one copy

-- the name of a copy is that of its row
pub copied_row : (o : Option Text) (r row copy : Row) → row ≡ under_name o r → copy.label ≡ row.label → under_name (Some copy.label.name) r ≡ row
copied_row None r row copy e l = ap (λ v. under_name (Some v.name) r) l ∙ ap (λ (v : Row). under_name (Some v.label.name) r) e ∙ sym e
copied_row (Some k) r row copy e l = ap (λ v. under_name (Some v.name) r) l ∙ ap (λ (v : Row). under_name (Some v.label.name) r) e ∙ sym e

pub world_here : (w u : World) (n : Goes) (p q : ItemPlace) (o : Option Text) (r row copy : Row) → n p ≡ Some q → u q ≡ Some copy → w p ≡ Some r → row ≡ under_name o r → copy.label ≡ row.label → named_world w u n p ≡ Some row
world_here w u n p q o r row copy e f g h l = named_some w u n p q r copy e f g ∙ ap Some (copied_row o r row copy h l)

names_agree : (v u : World) (m n : Goes) (x : ItemPlace) → ((y : ItemPlace) → m x ≡ Some y → (t : Row) × (v y ≡ Some t)) → ((y : ItemPlace) (t : Row) → v y ≡ Some t → u y ≡ Some t) → n x ≡ m x → (o : Option ItemPlace) → m x ≡ o → name_at v (m x) ≡ name_at u (n x)
names_agree v u m n x there stays same None e = ap (name_at v) e ∙ sym (ap (name_at u) (same ∙ e))
names_agree v u m n x there stays same (Some y) e =
    let t = there y e in
    ap (name_at v) e ∙ ap (option_map (λ (r : Row). r.label.name)) t.1 ∙ sym (ap (option_map (λ (r : Row). r.label.name)) (stays y t.0 t.1)) ∙ sym (ap (name_at u) (same ∙ e))

pub world_there : (w v u : World) (m n : Goes) (x : ItemPlace) → ((y : ItemPlace) → m x ≡ Some y → (t : Row) × (v y ≡ Some t)) → ((y : ItemPlace) (t : Row) → v y ≡ Some t → u y ≡ Some t) → n x ≡ m x → named_world w u n x ≡ named_world w v m x
world_there w v u m n x there stays same = named_same w v u m n x (names_agree v u m n x there stays same (m x) refl)

-- ---- the state between calls

pub free : (kept m : Goes) → ((p q : ItemPlace) → kept p ≡ Some q → m p ≡ Some q) → (p : ItemPlace) (o : Option ItemPlace) → kept p ≡ o → m p ≡ None → kept p ≡ None
free kept m s p None e f = e
free kept m s p (Some q) e f = let h = s p q e in cc

pub none_some : (q : ItemPlace) → None ≡ Some q → ⊥
none_some q e = cc

pub kept_same : (source t u : Module) → special_value u.special_types ≡ special_value t.special_types → kept_between source u ≡ kept_between source t
unfolding kept_between
kept_same source t u e = ap (kept_of (special_value source.special_types)) e

-- ---- names

pub all_at : (P : Option ItemPlace → Type 0) (xs : List (Option ItemPlace)) (i : ℕ) (x : Option ItemPlace) → i < length xs → x ≡ get_or xs i x → All P xs → P x
all_at P xs i x l e a = subst P (sym e) (a i x l)
