-- Items as the code has them, and as plain data.
use Rattle.std.proofs.Common.{◌≡◌, ℕ, ◌+◌, cond, ltb, length, not, List, [], ◌∷◌, ◌++◌, Bool, Option, Some, None, map, option_map, refl, ap, sym, ◌∙◌, string_bytes, append_assoc, append-nil}
use Rattle.std.specs.Prelude.{slice_get, position, option_and_then, codes}
use Rattle.std.specs.List.{prefix_len}
use Rattle.std.proofs.lemmas.List.{length-map}
use Rattle.std.proofs.lemmas.Option.{slice_get-map}
use Rattle.naga_oil_ir.specs.Parts.{parts, Parts}
use Rattle.naga_oil_ir.specs.Rows.{Row, constant_row}
use Rattle.naga_oil_ir.specs.ModuleValue.{ModuleValue, expression_values}
use Rattle.naga_oil_ir.specs.declared.expression.Expression.{Expression}
use Rattle.naga_oil_ir.specs.declared.span.Span.{Span}
use Rattle.naga_oil_ir.specs.declared.types.Constant.{Constant}
use Rattle.naga_oil_palette.specs.Writer.{shape, shape_at, name_rest, name_at, line}
use Rattle.naga_oil_palette.specs.declared.writer.Shape.{Shape}
use Rattle.naga_oil_palette.specs.declared.writer.Shape.TheVariants.{Own, Constant as ConstantShape, Other}

-- the shape of an expression that may be absent
abbrev pub shape_or_other : Option Expression → Shape
shape_or_other None = Other
shape_or_other (Some e) = shape (parts e)

shape_mapped : (o : Option (Expression × Span))
    → (elim (option_map {T = Expression × Span} {U = Parts × Span} (λ e. (parts e.0, e.1)) o) as (λ _. Shape) [ None ↦ Other | Some e ↦ shape e.0 ]) ≡ shape_or_other (option_map (λ e. e.0) o)
shape_mapped None = refl
shape_mapped (Some e) = refl

pub shape_at_value : (es : List (Expression × Span)) (k : ℕ) → shape_at (expression_values es) k ≡ shape_or_other (option_map (λ e. e.0) (slice_get es k))
shape_at_value es k =
    ap (λ o. elim o as (λ _. Shape) [ None ↦ Other | Some e ↦ shape e.0 ]) (slice_get-map {A = Expression × Span} {B = Parts × Span} (λ e. (parts e.0, e.1)) es k) ∙ shape_mapped (slice_get es k)

span_mapped : (o : Option (Constant × Span)) → option_map {T = Row × Span} {U = Span} (λ e. e.1) (option_map {T = Constant × Span} {U = Row × Span} (λ e. (constant_row e.0, e.1)) o) ≡ option_map {T = Constant × Span} {U = Span} (λ e. e.1) o
span_mapped None = refl
span_mapped (Some e) = refl

-- the span of a constant, by its row
pub span_at_row : (cs : List (Constant × Span)) (k : ℕ) → option_map {T = Row × Span} {U = Span} (λ e. e.1) (slice_get (map {A = Constant × Span} {B = Row × Span} (λ e. (constant_row e.0, e.1)) cs) k) ≡ option_map {T = Constant × Span} {U = Span} (λ e. e.1) (slice_get cs k)
span_at_row cs k = ap (option_map {T = Row × Span} {U = Span} (λ e. e.1)) (slice_get-map {A = Constant × Span} {B = Row × Span} (λ e. (constant_row e.0, e.1)) cs k) ∙ span_mapped (slice_get cs k)

front_rows : (q : Row × Span → Bool) (cs : List (Constant × Span)) → prefix_len q (map {A = Constant × Span} {B = Row × Span} (λ e. (constant_row e.0, e.1)) cs) ≡ prefix_len (λ e. q (constant_row e.0, e.1)) cs
front_rows q [] = refl
front_rows q (c ∷ cs) = ap (λ n. cond (q (constant_row c.0, c.1)) (1 + n) 0) (front_rows q cs)

-- the place of the first constant that passes, by its row
pub position_rows : (p : Row × Span → Bool) (cs : List (Constant × Span)) → position p (map {A = Constant × Span} {B = Row × Span} (λ e. (constant_row e.0, e.1)) cs) ≡ position (λ e. p (constant_row e.0, e.1)) cs
position_rows p cs =
    ap (λ n. cond (ltb n (length (map {A = Constant × Span} {B = Row × Span} (λ e. (constant_row e.0, e.1)) cs))) (Some n) None) (front_rows (λ e. not (p e)) cs)
    ∙ ap (λ n. cond (ltb (prefix_len (λ e. not (p (constant_row e.0, e.1))) cs) n) (Some (prefix_len (λ e. not (p (constant_row e.0, e.1))) cs)) None) (length-map cs (λ e. (constant_row e.0, e.1)))

-- the line of a constant of a name and a shape
pub line_value : (m : ModuleValue) (c : Constant) (name : List ℕ) (s : Shape) → option_map string_bytes c.name ≡ Some name → s ≡ shape_at m.global_expressions c.init
    → line m (constant_row c) ≡ option_map (λ more. name ++ more ++ 10 ∷ []) (name_rest m s)
line_value m c name s named shaped =
    ap (option_and_then (λ n. option_map (λ more. n ++ more ++ 10 ∷ []) (name_rest m (shape_at m.global_expressions c.init)))) named
    ∙ ap (λ t. option_map (λ more. name ++ more ++ 10 ∷ []) (name_rest m t)) (sym shaped)

-- the line of a colour of its own
pub own_line : (m : ModuleValue) (c : Constant) (name text : List ℕ) (s : Shape) → option_map string_bytes c.name ≡ Some name → s ≡ shape_at m.global_expressions c.init → s ≡ Own
    → text ≡ name ++ 10 ∷ [] → Some text ≡ line m (constant_row c)
own_line m c name text s named shaped own shown =
    ap Some (shown ∙ ap (λ t. t ++ 10 ∷ []) (sym (append-nil name))) ∙ sym (line_value m c name s named shaped ∙ ap (λ t. option_map (λ more. name ++ more ++ 10 ∷ []) (name_rest m t)) own)

-- the line of another name of a colour
pub other_line : (m : ModuleValue) (c : Constant) (name other text : List ℕ) (s : Shape) (k : ℕ) → option_map string_bytes c.name ≡ Some name → s ≡ shape_at m.global_expressions c.init → s ≡ ConstantShape k
    → name_at m k ≡ Some other → text ≡ name ++ (codes " = " ++ (other ++ 10 ∷ [])) → Some text ≡ line m (constant_row c)
other_line m c name other text s k named shaped at known shown =
    ap Some (shown ∙ sym (append_assoc name (codes " = " ++ other) (10 ∷ [])))
    ∙ sym (line_value m c name s named shaped ∙ ap (λ t. option_map (λ more. name ++ more ++ 10 ∷ []) (name_rest m t)) at ∙ ap (λ o. option_map (λ more. name ++ more ++ 10 ∷ []) (option_map (λ other. codes " = " ++ other) o)) known)
