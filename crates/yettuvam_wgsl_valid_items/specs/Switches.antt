-- The arms of a `switch`.
use Rattle.std.specs.Prelude.{ℕ, ◌+◌, ◌-◌, ◌%◌, Bool, true, false, not, ◌==◌, if◌then◌else◌, List, [], ◌∷◌, ◌++◌, Option, Some, None}
use Rattle.naga_oil_ir.specs.Body.{Tokens}
use Rattle.naga_oil_ir.specs.Spans.{undefined}
use Rattle.naga_oil_ir.specs.declared.span.Span.{Span}
use Rattle.naga_oil_ir.specs.declared.tokens.Token.{Token}
use Rattle.naga_oil_ir.specs.declared.tokens.Token.TheVariants.{At, Head, Plain, Open, Close}
use Rattle.yettuvam_wgsl_names.specs.declared.form_codes.TheConstants.{DEFAULT_SELECTOR, SELECTOR_CLASS_UNIT}
use Rattle.yettuvam_wgsl_valid_items.specs.Distinct.{contains, are_distinct}
use Rattle.yettuvam_wgsl_valid_items.specs.Faults.{Outcome, valid, fault, and_then}
use Rattle.yettuvam_wgsl_valid_items.specs.declared.faults.Reason.TheVariants as reason
use Rattle.yettuvam_wgsl_valid_items.specs.declared.switches.TheConstants.{DEFAULT_VALUE, SWITCH_HEAD}

-- ---- values of arms

-- the value of an arm: the number of its selector, plus 1, whatever its type; 0 for `default`
abbrev pub arm_value : ℕ → ℕ
arm_value selector = if selector == DEFAULT_SELECTOR then DEFAULT_VALUE else (selector % SELECTOR_CLASS_UNIT + 1)

-- the number of open blocks after a token
abbrev pub depth_after : ℕ → Token → ℕ
depth_after depth Open = depth + 1
depth_after depth Close = depth - 1
depth_after depth t = depth

-- outside of the arms the next statement begins, or the block around ends
abbrev pub ends_statement : ℕ → Token → Bool
ends_statement depth (At s) = depth == 0
ends_statement depth Close = depth == 0
ends_statement depth t = false

abbrev pub selector_of : ℕ → Token → Option ℕ
selector_of depth (Plain selector) = if depth == 0 then Some (arm_value selector) else None
selector_of depth t = None

abbrev pub listed : Option ℕ → List ℕ
listed None = []
listed (Some v) = v ∷ []

-- the values of the arms of a switch, from the tokens after its head, in a number of open blocks
unfoldable pub arm_values : ℕ → Tokens → List ℕ
arm_values depth [] = []
arm_values depth (t ∷ ts) =
    if ends_statement depth t then [] else (listed (selector_of depth t) ++ arm_values (depth_after depth t) ts)

-- ---- the tests

-- an arm is the default, and no two arms have the same value
abbrev pub arms_valid : List ℕ → Span → Outcome
arms_valid values at =
    if not (contains DEFAULT_VALUE values) then fault reason.NoDefault at
    else (if not (are_distinct values) then fault reason.ArmTwice at else valid)

abbrev pub switch_valid : Tokens → Span → Outcome
switch_valid ts at = arms_valid (arm_values 0 ts) at

-- the switch whose head a token is, before some other tokens
abbrev pub token_valid : Token → Tokens → Span → Outcome
token_valid (Head kind) ts at = if kind == SWITCH_HEAD then switch_valid ts at else valid
token_valid t ts at = valid

abbrev pub span_after : Token → Span → Span
span_after (At s) at = s
span_after t at = at

-- each switch of a body, in a statement with this span
abbrev pub switches_from : Span → Tokens → Outcome
switches_from at [] = valid
switches_from at (t ∷ ts) = and_then (token_valid t ts at) (switches_from (span_after t at) ts)

-- each switch has one default, and no two arms with the same value
abbrev pub switches_valid : Tokens → Outcome
switches_valid ts = switches_from undefined ts
