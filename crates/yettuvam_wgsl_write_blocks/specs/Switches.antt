-- The arms of a `switch`.
use Rattle.std.specs.Prelude.{ℕ, ◌/◌, ◌==◌, ◌&&◌, not, if◌then◌else◌, Bool, List, [], ◌∷◌, ◌++◌}
use Rattle.naga_oil_ir.specs.declared.span.Span.{Span}
use Rattle.yettuvam_wgsl_names.specs.declared.form_codes.TheConstants.{DEFAULT_SELECTOR, SELECTOR_CLASS_UNIT}
use Rattle.yettuvam_wgsl_pieces.specs.Pieces.{Piece, Sign}
use Rattle.yettuvam_wgsl_pieces.specs.declared.sign.Sign.TheVariants as sign
use Rattle.yettuvam_wgsl_statements.specs.Selectors.{selector}
use Rattle.yettuvam_wgsl_written.specs.Outcomes.{Outcome, after}
use Rattle.yettuvam_wgsl_write_blocks.specs.Parts.{Part, block_text}
use Rattle.yettuvam_wgsl_write_blocks.specs.declared.switches.Selector.{Selector}

-- `default` with a body of its own is written without `case`
abbrev pub is_bare : Selector → Bool
is_bare s = not s.falls_through && s.value / SELECTOR_CLASS_UNIT == DEFAULT_SELECTOR

-- what stands before a selector
abbrev pub selector_start : (follows : Bool) → Selector → List Piece
selector_start follows s =
    if follows then Sign sign.Comma ∷ [] else (if is_bare s then [] else Sign sign.CaseWord ∷ [])

-- a selector of an arm, which may follow one that falls through
unfoldable pub arm_selector : (follows : Bool) → Selector → Span → Outcome
arm_selector follows s span = after (selector_start follows s) (selector s.value span)

-- `: {..}`
unfoldable pub arm_body : List Part → List Piece
arm_body ps = Sign sign.CaseColon ∷ block_text ps

-- `switch VALUE {`
unfoldable pub switch_head : List Piece → List Piece
switch_head of = Sign sign.SwitchWord ∷ (of ++ Sign sign.LeftBrace ∷ [])
