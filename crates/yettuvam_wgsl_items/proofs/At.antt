-- The item at a place, its nodes, and the arguments of an attribute, as plain data.
use Rattle.std.proofs.Common.{◌≡◌, ℕ, suc, List, [], ◌∷◌, map, length, refl, ap}
use Rattle.std.specs.Prelude.{slice_get, option_map, Vec}
use Rattle.std.specs.Global.{Global}
use Rattle.std.proofs.lemmas.Option.{slice_get-map}
use Rattle.yettuvam_wgsl_scope.specs.Items.{item_view, items_view}
use Rattle.yettuvam_wgsl_scope.specs.Names.{bounds_view}
use Rattle.yettuvam_wgsl_scope.specs.declared.items.Item.{Item}
use Rattle.yettuvam_wgsl_scope.specs.declared.names.Bound.{Bound}
use Rattle.yettuvam_wgsl_items.specs.Lowered.{nodes_view}

pub item_at : (items : List Item) (place : ℕ) → slice_get (items_view items) place ≡ option_map item_view (slice_get items place)
item_at items place = slice_get-map item_view items place

pub nodes_at : (nodes : List (Vec Bound Global)) (place : ℕ) → slice_get (nodes_view nodes) place ≡ option_map (λ v. bounds_view v.items) (slice_get nodes place)
nodes_at nodes place = slice_get-map (λ v. bounds_view v.items) nodes place

pub argument_at : {A B : Type 0} (f : A → B) (xs : List A) (k : ℕ) → slice_get (map f xs) k ≡ option_map f (slice_get xs k)
argument_at f xs k = slice_get-map f xs k

pub counted : {A B : Type 0} (f : A → B) (xs : List A) → length (map f xs) ≡ length xs
counted f [] = refl
counted f (x ∷ xs) = ap suc (counted f xs)
