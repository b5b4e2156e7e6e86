-- Items with names, as the code has them.
use Rattle.std.specs.Prelude.{ℕ, Bool, true, nat_eq, List, map, Option, Some, None, option_map}
use denote.Ref.{Bor}
use Rattle.std.specs.BTreeMap.{BTreeMap, get_by}
use Rattle.std.specs.BTreeSet.{BTreeSet}
use Rattle.std.specs.Cmp.Lexicographic.{slice_cmp}
use Rattle.std.specs.List.{list_any}
use Rattle.std.specs.Ordering.{nat_cmp}
use Rattle.naga_oil_ir.specs.Rows.{Member, member_label}
use Rattle.naga_oil_ir.specs.declared.types.StructMember.{StructMember}
use Rattle.naga_oil_ir.specs.declared.span.Span.{Span}
use Rattle.naga_oil_build.specs.Writeback.{NamedItem, items_at}
use Rattle.naga_oil_build.specs.declared.writeback.NamedItem.{NamedItem as CodeItem}

abbrev pub labels_of : Option (Bor (List StructMember)) → Option (List Member)
labels_of members = option_map (λ ms. map member_label ms.now) members

abbrev pub named_of : CodeItem → NamedItem
named_of i = record { name = i.name.now; members = labels_of i.members; span = i.span }

-- the item that a map has under a name
abbrev pub held : BTreeMap (Bor (List ℕ)) CodeItem → List ℕ → Option NamedItem
held back name = option_map named_of (get_by (λ k. slice_cmp nat_cmp name k.now) back)

-- what is lost, and its span
abbrev pub seen_lost : Option (Bor (List ℕ) × Span) → Option (List ℕ × Span)
seen_lost lost = option_map (λ l. (l.0.now, l.1)) lost

-- whether a place is requested; None requests all
abbrev pub is_asked : Option (Bor (BTreeSet ℕ)) → ℕ → Bool
is_asked None place = true
is_asked (Some places) place = list_any (nat_eq place) places.now.keys

-- the requested items
abbrev pub items_asked : {X : Type 0} → Option (Bor (BTreeSet ℕ)) → List X → List X
items_asked None xs = xs
items_asked (Some places) xs = items_at places.now.keys xs
