-- A body that is read part by part.
use Rattle.std.proofs.Common.{◌≡◌, ℕ, suc, ◌+◌, ◌-◌, ◌<◌, List, Option, Some, None, option_map, refl, ap, ◌∙◌, arith}
use Rattle.std.specs.Prelude.{slice_get}
use Rattle.std.proofs.lemmas.Option.{slice_get-map}
use Rattle.naga_oil_ir.specs.Parts.{parts, Parts}
use Rattle.naga_oil_ir.specs.ModuleValue.{expression_values}
use Rattle.naga_oil_ir.specs.declared.expression.Expression.{Expression}
use Rattle.naga_oil_ir.specs.declared.span.Span.{Span}
use Rattle.naga_oil_words.specs.OptionSteps.{◌>>=◌}
use Rattle.naga_oil_mini_writer.specs.BodyReader.{LineReading, shape, shape_at, one_part, parts_read}
use Rattle.naga_oil_mini_writer.specs.declared.body_reader.Shape.{Shape}
use Rattle.naga_oil_mini_writer.specs.declared.body_reader.Shape.TheVariants.{Other}

-- the shape of an expression that may be absent
abbrev pub shape_or_other : Option Expression → Shape
shape_or_other None = Other
shape_or_other (Some e) = shape (parts e)

shape_mapped : (o : Option (Expression × Span))
    → (elim (option_map {T = Expression × Span} {U = Parts × Span} (λ e. (parts e.0, e.1)) o) as (λ _. Shape) [ None ↦ Other | Some e ↦ shape e.0 ]) ≡ shape_or_other (option_map (λ e. e.0) o)
shape_mapped None = refl
shape_mapped (Some e) = refl

pub shape_at_value : (es : List (Expression × Span)) (k : ℕ) → shape_at (expression_values es) k ≡ shape_or_other (option_map (λ e. e.0) (slice_get es k))
shape_at_value es k =
    ap (λ o. elim o as (λ _. Shape) [ None ↦ Other | Some e ↦ shape e.0 ]) (slice_get-map {A = Expression × Span} {B = Parts × Span} (λ e. (parts e.0, e.1)) es k) ∙ shape_mapped (slice_get es k)

pub parts_next : (n i : ℕ) (r : LineReading) → i < n → parts_read (n - i) r ≡ (one_part r.parts r >>= λ q. parts_read (n - (i + 1)) q)
parts_next n i r h = let e : n - i ≡ suc (n - (i + 1)) = omega arith in ap (λ k. parts_read k r) e
