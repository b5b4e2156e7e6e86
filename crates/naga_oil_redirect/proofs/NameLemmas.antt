-- The names of functions at some places.
use Rattle.std.proofs.Common.{◌≡◌, ◌∙◌, ℕ, ◌+◌, ◌<◌, List, [], ◌∷◌, ◌++◌, map, take, length, get_or, unwrap_or, option_map, string_bytes, refl, ap, sym}
use Rattle.std.specs.List.{join_by}
use Rattle.std.specs.Option.{option_flatten}
use Rattle.std.proofs.lemmas.List.{map_push, take_more}
use Rattle.std.proofs.lemmas.List.Folds.{flat_map-map}
use Rattle.std.proofs.lemmas.Option.{slice_get-map, slice_get_read}
use Rattle.naga_oil_ir.specs.ModuleValue.{FunctionValue, function_value}
use Rattle.naga_oil_ir.specs.declared.module.Function.{Function}
use Rattle.naga_oil_ir.specs.declared.span.Span.{Span}
use Rattle.naga_oil_redirect.specs.Ordered.{function_name_at}
use Rattle.naga_oil_redirect.specs.Redirected.{function_values}

-- the name of a function that stands at a place
pub name_here : (fs : List (Function × Span)) (k : ℕ) (x : Function × Span) → k < length fs → x ≡ get_or fs k x → unwrap_or (option_map string_bytes x.0.name) [] ≡ function_name_at (function_values fs) k
name_here fs k x h e =
    let value : Function × Span → FunctionValue × Span = λ f. (function_value f.0, f.1) in
    sym (ap (λ o. unwrap_or (option_flatten (option_map (λ (f : FunctionValue × Span). f.0.name) o)) []) (slice_get-map value fs k ∙ ap (option_map value) (slice_get_read fs (length fs) k x refl h e)))

-- one element more, by what is read of it
pub read_more : {X A : Type 0} (f : X → A) (g : ℕ → A) (xs : List X) (x : X) (ks : List ℕ) (i : ℕ) → i < length ks → f x ≡ g (get_or ks i 0) → map f xs ≡ map g (take i ks) → map f (xs ++ x ∷ []) ≡ map g (take (i + 1) ks)
read_more f g xs x ks i l e h =
    map_push f xs x ∙ ap (λ ys. ys ++ f x ∷ []) h ∙ ap (λ a. map g (take i ks) ++ a ∷ []) e ∙ sym (map_push g (take i ks) (get_or ks i 0)) ∙ ap (map g) (sym (take_more ks i 0 l))

join_mapped : {X A : Type 0} (f : X → List A) (sep : List A) (xs : List X) → join_by f sep xs ≡ join_by (λ l. l) sep (map f xs)
join_mapped f sep [] = refl
join_mapped f sep (x ∷ xs) = ap (λ t. f x ++ t) (sym (flat_map-map (λ l. sep ++ l) f xs))

-- lists that read alike are joined to one
pub join_same : {X Y A : Type 0} (f : X → List A) (g : Y → List A) (sep : List A) (xs : List X) (ys : List Y) → map f xs ≡ map g ys → join_by f sep xs ≡ join_by g sep ys
join_same f g sep xs ys e = join_mapped f sep xs ∙ ap (join_by (λ l. l) sep) e ∙ sym (join_mapped g sep ys)
