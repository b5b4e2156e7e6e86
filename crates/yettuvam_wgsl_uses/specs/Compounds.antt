-- Assignments by an operator.
use Rattle.std.specs.Prelude.{ℕ, ◌==◌, ◌&&◌, not, nat_le, if◌then◌else◌, Bool, false, List, [], ◌∷◌, slice_get, Option, Some, None}
use Rattle.std.specs.Option.{option_and_then, option_map_or}
use Rattle.naga_oil_ir.specs.Kinds.{binary_kind, load_kind}
use Rattle.naga_oil_ir.specs.Parts.{Parts}
use Rattle.yettuvam_wgsl_counts.specs.Locals.{Expressions}
use Rattle.yettuvam_wgsl_lines.specs.Groups.{is_set}
use Rattle.yettuvam_wgsl_lines.specs.Line.{LineValue}
use Rattle.yettuvam_wgsl_lines.specs.declared.line.TheConstants.{STORE}
use Rattle.yettuvam_wgsl_uses.specs.declared.compounds.TheConstants.{LAST_ASSIGNING}

-- the operator has an assignment
abbrev pub is_assigning : ℕ → Bool
is_assigning op = nat_le 1 op && nat_le op LAST_ASSIGNING

abbrev pub binary_in : List ℕ → List (Option ℕ) → Option (ℕ × ℕ × ℕ)
binary_in (op ∷ xs) (Some left ∷ Some right ∷ os) = Some (op, left, right)
binary_in _ _ = None

-- the operator and operands of an operation with two operands
unfoldable pub binary_of : Parts → Option (ℕ × ℕ × ℕ)
binary_of p = if p.kind == binary_kind then binary_in p.plain p.operands else None

abbrev pub first_of : List (Option ℕ) → Option ℕ
first_of (h ∷ os) = h
first_of [] = None

-- the pointer from which an expression loads
unfoldable pub loaded_by : Parts → Option ℕ
loaded_by p = if p.kind == load_kind then first_of p.operands else None

abbrev pub binary_seen : Expressions → ℕ → Option (ℕ × ℕ × ℕ)
binary_seen es h = option_and_then (λ e. binary_of e.0) (slice_get es h)

-- the operator and operands of an expression that is no `let`
abbrev pub binary_at : Expressions → List Bool → ℕ → Option (ℕ × ℕ × ℕ)
binary_at es lets h = if is_set lets h then None else binary_seen es h

abbrev pub loaded_seen : Expressions → ℕ → Option ℕ
loaded_seen es h = option_and_then (λ e. loaded_by e.0) (slice_get es h)

abbrev pub is_pointer : Option ℕ → ℕ → Bool
is_pointer found pointer = option_map_or (λ p. p == pointer) found false

-- an expression that is no `let` loads from a pointer
abbrev pub loads : Expressions → List Bool → ℕ → ℕ → Bool
loads es lets h pointer = not (is_set lets h) && is_pointer (loaded_seen es h) pointer

abbrev pub compound_of : Option (ℕ × ℕ × ℕ) → Expressions → List Bool → ℕ → Option (ℕ × ℕ)
compound_of None es lets pointer = None
compound_of (Some b) es lets pointer =
    if is_assigning b.0 && loads es lets b.1 pointer then Some (b.0, b.2) else None

abbrev pub compound : Expressions → List Bool → ℕ → ℕ → Option (ℕ × ℕ)
compound es lets pointer value = compound_of (binary_at es lets value) es lets pointer

abbrev pub compound_in : List ℕ → Expressions → List Bool → Option (ℕ × ℕ)
compound_in (pointer ∷ value ∷ []) es lets = compound es lets pointer value
compound_in _ es lets = None

-- the operator and the right operand of a line that is an assignment by an operator
abbrev pub compound_by : Expressions → List Bool → LineValue → Option (ℕ × ℕ)
compound_by es lets l = if l.kind == STORE then compound_in l.operands es lets else None
