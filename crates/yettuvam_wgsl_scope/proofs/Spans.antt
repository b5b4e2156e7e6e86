-- The spans of the names of items.
use Rattle.std.proofs.Common.{◌≡◌, List, map, sym}
use Rattle.std.proofs.lemmas.Simd.{map-map}
use Rattle.yettuvam_wgsl_scope.specs.Items.{item_view, items_view}
use Rattle.yettuvam_wgsl_scope.specs.Scope.{spans_of}
use Rattle.yettuvam_wgsl_scope.specs.declared.items.Item.{Item}

pub spans_seen : (items : List Item) → map (λ i. i.name.span) items ≡ spans_of (items_view items)
spans_seen items = sym (map-map (λ i. i.name.span) item_view items)
