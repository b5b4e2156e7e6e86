-- The text of a module: a line for each constant.
use Rattle.std.specs.Prelude.{ℕ, ◌==◌, ◌&&◌, if◌then◌else◌, List, [], ◌∷◌, ◌++◌, map, slice_get, Option, Some, None, option_map, option_and_then, codes}
use Rattle.naga_oil_ir.specs.ModuleValue.{ModuleValue}
use Rattle.naga_oil_ir.specs.Kinds.{literal_kind}
use Rattle.naga_oil_ir.specs.Parts.{Parts}
use Rattle.naga_oil_ir.specs.Rows.{Row, constant_row}
use Rattle.naga_oil_ir.specs.declared.names.ItemPlace.{ItemPlace}
use Rattle.naga_oil_ir.specs.declared.names.ItemPlace.TheVariants.{ExpressionItem}
use Rattle.naga_oil_ir.specs.declared.parts.Named.{Named}
use Rattle.naga_oil_ir.specs.declared.parts.Named.TheVariants.{ConstantAt}
use Rattle.naga_oil_ir.specs.declared.span.Span.{Span}
use Rattle.naga_oil_ir.specs.declared.types.Constant.{Constant as ConstantOfModule}
use Rattle.naga_oil_palette.specs.declared.writer.Shape.{Shape}
use Rattle.naga_oil_palette.specs.declared.writer.Shape.TheVariants.{Own, Constant, Other}

-- ---- initialisers
abbrev pub literal_shape : List ℕ → Shape
literal_shape (k ∷ n ∷ []) = if (k == 1) && (n == 0) then Own else Other
literal_shape ns = Other

abbrev pub named_shape : Named → Shape
named_shape (ConstantAt c) = Constant c
named_shape n = Other

abbrev pub shape : Parts → Shape
shape p = if p.kind == literal_kind then literal_shape p.plain else named_shape p.named

abbrev pub shape_at : List (Parts × Span) → ℕ → Shape
shape_at es h = elim (slice_get es h) [ None ↦ Other | Some e ↦ shape e.0 ]

-- ---- lines
abbrev pub name_in : Option (Row × Span) → Option (List ℕ)
name_in None = None
name_in (Some e) = e.0.label.name

abbrev pub name_at : ModuleValue → ℕ → Option (List ℕ)
name_at m k = name_in (slice_get m.constants k)

-- the text after the name of a constant: nothing for a new colour, or the name of an earlier one
abbrev pub name_rest : ModuleValue → Shape → Option (List ℕ)
name_rest m Own = Some []
name_rest m (Constant k) = option_map (λ other. codes " = " ++ other) (name_at m k)
name_rest m Other = None

-- the text after the name of a constant that names these
abbrev pub following : ModuleValue → List (Option ItemPlace) → Option (List ℕ)
following m (t ∷ Some (ExpressionItem h) ∷ []) = name_rest m (shape_at m.global_expressions h)
following m ps = None

-- the line of a constant
abbrev pub line : ModuleValue → Row → Option (List ℕ)
line m r = option_and_then (λ name. option_map (λ more. name ++ more ++ 10 ∷ []) (following m r.names)) r.label.name

abbrev pub lines_of : ModuleValue → List (Row × Span) → Option (List ℕ)
lines_of m [] = Some []
lines_of m (c ∷ cs) = option_and_then (λ first. option_map (λ more. first ++ more) (lines_of m cs)) (line m c.0)

-- constants as plain data
abbrev pub constant_rows : List (ConstantOfModule × Span) → List (Row × Span)
constant_rows cs = map (λ e. (constant_row e.0, e.1)) cs

abbrev pub text_of : ModuleValue → Option (List ℕ)
text_of m = lines_of m m.constants
