-- What the expressions of a malformed module say.
use Rattle.std.specs.Prelude.{ℕ, [], ◌∷◌, ◌==◌, if◌then◌else◌}
use Rattle.naga_oil_ir.specs.Parts.{Parts, expr}
use Rattle.naga_oil_ir.specs.declared.parts.Named.TheVariants.{Nothing, ConstantAt, OverrideAt, GlobalAt, LocalAt, ArgumentAt, FunctionAt}

-- an expression of a kind: a literal, what names the item of its kind at a place, the second argument, or a call's result
abbrev pub expression_said : ℕ → ℕ → Parts
expression_said kind at =
    if kind == 0 then expr 0 (1 ∷ 7 ∷ []) Nothing []
    else (if kind == 2 then expr 2 [] (ConstantAt at) []
    else (if kind == 3 then expr 3 [] (OverrideAt at) []
    else (if kind == 4 then expr 4 [] (GlobalAt at) []
    else (if kind == 5 then expr 5 [] (LocalAt at) []
    else (if kind == 6 then expr 6 [] (ArgumentAt 1) []
    else expr 7 [] (FunctionAt at) [])))))
