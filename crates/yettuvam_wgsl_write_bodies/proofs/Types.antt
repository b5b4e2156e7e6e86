-- The types of arguments and local variables, seen by their values.
use Rattle.std.proofs.Common.{◌≡◌, ℕ, List, [], ◌∷◌, map, refl, ap}
use Rattle.naga_oil_ir.specs.ModuleValue.{argument_value, local_values}
use Rattle.naga_oil_ir.specs.declared.module.FunctionArgument.{FunctionArgument}
use Rattle.naga_oil_ir.specs.declared.span.Span.{Span}
use Rattle.naga_oil_ir.specs.declared.types.LocalVariable.{LocalVariable}
use Rattle.yettuvam_wgsl_write_globals.specs.Globals.{types_of}
use Rattle.yettuvam_wgsl_write_bodies.specs.Setting.{argument_types}

pub same_types : (xs : List FunctionArgument) → types_of xs ≡ argument_types (map argument_value xs)
same_types [] = refl
same_types (x ∷ xs) = ap (λ (ts : List ℕ). x.ty ∷ ts) (same_types xs)

pub same_locals : (ls : List (LocalVariable × Span)) → map (λ l. l.0.ty) ls ≡ map (λ l. l.0.ty) (local_values ls)
same_locals [] = refl
same_locals (l ∷ ls) = ap (λ (ts : List ℕ). l.0.ty ∷ ts) (same_locals ls)
