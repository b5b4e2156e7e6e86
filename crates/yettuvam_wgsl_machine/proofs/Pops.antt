-- What is taken from the end of a list, seen by f.
use Rattle.std.proofs.Common.{◌≡◌, ◌-◌, List, [], ◌∷◌, ◌++◌, length, map, take, slice_index_or, true, refl, arith}
use Rattle.yettuvam_wgsl_machine.specs.Machine.{is_some_list}
use Rattle.std.proofs.lemmas.List.{length-append, map-append}
use Rattle.std.proofs.Math.Seq.{get_or-append_seam, take-append_seam}

one_less : {Y : Type 0} (ys : List Y) (y : Y) → length (ys ++ y ∷ []) - 1 ≡ length ys
one_less ys y = omega (arith, length-append ys (y ∷ []))

pub top : {X Y : Type 0} (f : X → Y) (xs : List X) (x : X) (d : Y) → slice_index_or (map f (xs ++ x ∷ [])) (length (map f (xs ++ x ∷ [])) - 1) d ≡ f x
top f xs x d = rw (map-append f xs (x ∷ []), one_less (map f xs) (f x)) (get_or-append_seam (map f xs) (f x) [] d)

pub below : {X Y : Type 0} (f : X → Y) (xs : List X) (x : X) → take (length (map f (xs ++ x ∷ [])) - 1) (map f (xs ++ x ∷ [])) ≡ map f xs
below f xs x = rw (map-append f xs (x ∷ []), one_less (map f xs) (f x)) (take-append_seam (map f xs) (f x ∷ []))

pub some : {X Y : Type 0} (f : X → Y) (xs : List X) (x : X) → is_some_list (map f (xs ++ x ∷ [])) ≡ true
some f [] x = refl
some f (y ∷ ys) x = refl
