-- Values in lists, seen by a function.
use Rattle.std.proofs.Common.{◌≡◌, ℕ, List, [], ◌∷◌, map, length, suc, refl, ap}
use Rattle.std.specs.Prelude.{slice_get, option_map}
use Rattle.std.proofs.lemmas.Option.{slice_get-map}
use Rattle.yettuvam_wgsl_values.specs.Value.{values_view}
use Rattle.yettuvam_wgsl_values.specs.declared.value.Value.{Value as ValueOfCode}
use Rattle.yettuvam_wgsl_arguments.specs.Arguments.{handle_in, handles}

pub got : {A B : Type 0} (f : A → B) (xs : List A) (k : ℕ) → slice_get (map f xs) k ≡ option_map f (slice_get xs k)
got f xs k = slice_get-map f xs k

pub counted : {A B : Type 0} (f : A → B) (xs : List A) → length (map f xs) ≡ length xs
counted f [] = refl
counted f (x ∷ xs) = ap suc (counted f xs)

pub handled : (xs : List ValueOfCode) → map handle_in xs ≡ handles (values_view xs)
unfolding handles
handled [] = refl
handled (x ∷ xs) = ap (λ t. handle_in x ∷ t) (handled xs)
