-- Whether two rows of types are equal.
use Rattle.std.specs.Prelude.{ℕ, Bool, false, ◌&&◌, nat_eq, List, Option}
use Rattle.std.specs.Option.{option_eq}
use Rattle.std.specs.Cmp.Lexicographic.{pointwise}
use Rattle.naga_oil_ir.specs.Rows.{Row, Member, Kind, TypeKind}
use Rattle.naga_oil_ir.specs.declared.names.ItemPlace.{ItemPlace}
use Rattle.naga_oil_ir.specs.declared.names.ItemPlace.TheVariants.{TypeItem, ConstantItem, OverrideItem, GlobalItem, ExpressionItem}

-- kinds of types that are equal
abbrev pub same_kind : Kind → Kind → Bool
same_kind (TypeKind a) (TypeKind b) = nat_eq a b
same_kind _ _ = false

abbrev pub same_text : List ℕ → List ℕ → Bool
same_text = pointwise nat_eq

abbrev pub same_name : Option (List ℕ) → Option (List ℕ) → Bool
same_name = option_eq same_text

abbrev pub same_member : Member → Member → Bool
same_member a b = same_name a.name b.name && (option_eq nat_eq a.binding b.binding && nat_eq a.offset b.offset)

abbrev pub same_place : ItemPlace → ItemPlace → Bool
same_place (TypeItem a) (TypeItem b) = nat_eq a b
same_place (OverrideItem a) (OverrideItem b) = nat_eq a b
same_place (ConstantItem a) (ConstantItem b) = nat_eq a b
same_place (GlobalItem a) (GlobalItem b) = nat_eq a b
same_place (ExpressionItem a) (ExpressionItem b) = nat_eq a b
same_place _ _ = false

-- rows of types that are equal
unfoldable pub same_row : Row → Row → Bool
same_row a b =
    same_kind a.label.kind b.label.kind && (same_name a.label.name b.label.name && (pointwise (option_eq nat_eq) a.label.plain b.label.plain
    && (pointwise same_member a.label.members b.label.members && pointwise (option_eq same_place) a.names b.names)))
