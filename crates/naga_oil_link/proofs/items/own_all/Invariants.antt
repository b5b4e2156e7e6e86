use Rattle.std.proofs.Common.{◌≡◌, ◌++◌, map, fold, take, drop}
use Rattle.naga_oil_words.specs.Texts.{texts}
use Rattle.naga_oil_link.specs.Owned.{rows_by, is_own_name, item_names, owned_item, with_owned}
use Rattle.naga_oil_link.proofs.ByNameLemmas.{places_before}
use Rattle.naga_oil_link.proofs.items.own_all.Given as goal

abbrev pub invariant-loop-at : goal.invariant-loop-at
invariant-loop-at g l =
    let row = g.T.Ownable.row_of in
    record {
      items : rows_by row (take l.at l.item-items) ++ map (owned_item l.suffix) (rows_by row (drop l.at l.item-items)) ≡ map (owned_item l.suffix) (rows_by row l.fn.of);
      owned : fold (with_owned l.suffix) (texts l.owned.keys) (item_names (rows_by row (drop l.at l.item-items))) ≡ fold (with_owned l.suffix) (texts l.fn.owned.keys) (item_names (rows_by row l.fn.of));
      left : drop l.at l.item-items ≡ drop l.at l.fn.of;
      places : l.places.keys ≡ places_before is_own_name (item_names (rows_by row l.fn.of)) l.at;
    }
