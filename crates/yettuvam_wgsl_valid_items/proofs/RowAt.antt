-- The row of the type that a handle names.
use Rattle.std.proofs.Common.{◌≡◌, ℕ, List, map, slice_get, Option, Some, None, option_map, refl, ap, sym, ◌∙◌}
use Rattle.std.proofs.lemmas.Option.{slice_get-map}
use Rattle.naga_oil_ir.specs.Rows.{Row, type_row}
use Rattle.naga_oil_ir.specs.declared.span.Span.{Span}
use Rattle.naga_oil_ir.specs.declared.types.Type.{«Type» as TypeOfShader}
use Rattle.yettuvam_wgsl_valid_items.specs.Types.{row_at}

row_of_entry : (e : Option (TypeOfShader × Span)) → option_map type_row (option_map (λ (x : TypeOfShader × Span). x.0) e) ≡ option_map (λ (x : Row × Span). x.0) (option_map (λ (x : TypeOfShader × Span). (type_row x.0, x.1)) e)
row_of_entry None = refl
row_of_entry (Some e) = refl

-- the type that a handle names has the row that it names
pub row_of_type : (ts : List (TypeOfShader × Span)) (place : ℕ) → option_map type_row (option_map (λ (x : TypeOfShader × Span). x.0) (slice_get ts place)) ≡ row_at (map (λ (x : TypeOfShader × Span). (type_row x.0, x.1)) ts) place
row_of_type ts place =
    row_of_entry (slice_get ts place)
    ∙ sym (ap (option_map (λ (x : Row × Span). x.0)) (slice_get-map {B = Row × Span} (λ x. (type_row x.0, x.1)) ts place))
