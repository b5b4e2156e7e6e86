-- A list in reverse order, seen by f.
use Rattle.std.proofs.Common.{◌≡◌, List, map}
use Rattle.std.specs.Prelude.{reverse}
use Rattle.indexmap.proofs.ReorderLemmas.{map-reverse}

pub map_of_reverse : {X Y : Type 0} (f : X → Y) (xs : List X) → map f (reverse xs) ≡ reverse (map f xs)
map_of_reverse f xs = map-reverse f xs
