-- Arguments that are compared one by one.
use Rattle.std.proofs.Common.{◌≡◌, ◌&&◌, List, [], ◌∷◌, map, length, nat_eq, refl, ap, arith}
use Rattle.std.specs.List.{list_all, zip}
use Rattle.std.specs.Cmp.Lexicographic.{pointwise}
use Rattle.naga_oil_ir.specs.declared.module.FunctionArgument.{FunctionArgument}

pub zip_alike : (xs ys : List FunctionArgument) → length xs ≡ length ys → list_all (λ p. nat_eq p.0.ty p.1.ty) (zip xs ys) ≡ pointwise nat_eq (map (λ x. x.ty) xs) (map (λ x. x.ty) ys)
zip_alike [] [] e = refl
zip_alike [] (y ∷ ys) e = absurd (omega (arith, e))
zip_alike (x ∷ xs) [] e = absurd (omega (arith, e))
zip_alike (x ∷ xs) (y ∷ ys) e = ap (λ t. nat_eq x.ty y.ty && t) (zip_alike xs ys (omega (arith, e)))
