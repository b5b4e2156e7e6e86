-- The places of names, after another name.
use Rattle.std.proofs.Common.{◌≡◌, ℕ, List, Some, Bor}
use Rattle.std.specs.HashMap as hash
use Rattle.std.specs.HashMap.{HashMap}
use Rattle.std.specs.Str.{bytes_eq}
use Rattle.std.proofs.lemmas.Map.Text.{hash_map_updates_str}
use Rattle.yettuvam_wgsl_scope.specs.Items.{item_in, with_place}

pub place_put : {S : Type 0} (name : Bor (List ℕ)) (m n : HashMap (Bor (List ℕ)) ℕ S) (place : ℕ)
    → hash.UpdatesBy (λ x y. bytes_eq x.now y.now) (λ k. bytes_eq name.now k.now) m n (Some place)
    → item_in n ≡ with_place (item_in m) name.now place
place_put name m n place updates = λ i. λ other. hash_map_updates_str name.now m n (Some place) updates other i
