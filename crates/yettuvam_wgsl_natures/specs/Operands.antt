-- The operands of expressions in the order of the text.
use Rattle.std.specs.Prelude.{ℕ, ◌==◌, if◌then◌else◌, List, [], ◌∷◌, map, slice_index_or, Option, None}
use Rattle.std.specs.List.{filter_map}
use Rattle.naga_oil_ir.specs.Parts.{Parts}
use Rattle.yettuvam_wgsl_natures.specs.Kinds.{sample_kind, select_kind}

-- the arguments that are present
abbrev pub present : List (Option ℕ) → List ℕ
present os = filter_map (λ o. o) os

-- `select` has its condition last
abbrev pub select_order : List (Option ℕ) → List (Option ℕ)
select_order (condition ∷ accept ∷ reject ∷ []) = reject ∷ accept ∷ condition ∷ []
select_order os = os

-- the operand at a place of the order of copying, if it is there
abbrev pub operand_at : List (Option ℕ) → ℕ → Option ℕ
operand_at os k = slice_index_or os k None

-- the functions that sample a texture have the reference of a depth before the level, and the offset last
abbrev pub sample_order : List (Option ℕ) → List (Option ℕ)
sample_order os = map (operand_at os) (0 ∷ 1 ∷ 2 ∷ 3 ∷ 7 ∷ 5 ∷ 6 ∷ 4 ∷ [])

-- operands in the order of the text; all others have the order of copying
abbrev pub in_text_order : ℕ → List (Option ℕ) → List (Option ℕ)
in_text_order kind os =
    if kind == select_kind then select_order os else (if kind == sample_kind then sample_order os else os)

abbrev pub text_operands : Parts → List ℕ
text_operands p = present (in_text_order p.kind p.operands)
