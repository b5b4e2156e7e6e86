-- Selectors, and `switch`.
use Rattle.std.specs.Prelude.{ℕ, zero, suc, ◌-◌, Bool, true, false, List, [], ◌∷◌, ◌++◌, length, take, slice_index_or, Option, Some, None, Result, Ok, Err}
use Rattle.naga_oil_ir.specs.Body.{Tokens, case_tokens}
use Rattle.naga_oil_ir.specs.declared.statement.SwitchCase.{SwitchCase}
use Rattle.yettuvam_wgsl_machine.specs.Machine.{Node}
use Rattle.yettuvam_wgsl_scope.specs.Refused.{Outcome, ◌>>=◌, done, fault}
use Rattle.yettuvam_wgsl_scope.specs.declared.refusal.Fault.{Fault}
use Rattle.yettuvam_wgsl_scope.specs.declared.refusal.Reason.TheVariants as reason
use Rattle.yettuvam_wgsl_shape.specs.Numbers.{selector_code}
use Rattle.yettuvam_wgsl_shape.specs.declared.number.Number.{Number}
use Rattle.yettuvam_wgsl_values.specs.Blocks as blocks
use Rattle.yettuvam_wgsl_values.specs.Body.{State, Done, take_value, left, operand, state, block, without_block}
use Rattle.yettuvam_wgsl_values.specs.Value.{Value, What, Word, Default}
use Rattle.yettuvam_wgsl_values.specs.declared.value.Arm.{Arm}

abbrev pub front : {X : Type 0} → List X → List X
front xs = take (length xs - 1) xs

-- the value that a switch is of is read where it stands
unfoldable pub switch : Node → State → Done
switch node s = left node s >>= (λ _ t. done (record t { switches = t.switches ++ length t.arms ∷ [] }))

abbrev pub no_selector_by : What → Node → Fault
no_selector_by (Word name) node = fault reason.UnknownName name.span
no_selector_by _ node = fault reason.NoConstant node.span

-- a value that isn't known is no selector
abbrev pub no_selector : Value → Node → Fault
no_selector v node = no_selector_by v.what node

abbrev pub code_if : Option Number → Value → Node → Result ℕ Fault
code_if (Some number) v node = Ok (selector_code number)
code_if None v node = Err (no_selector v node)

abbrev pub number_code : Value → Node → Result ℕ Fault
number_code v node = code_if v.number v node

abbrev pub arm_by : What → Value → Node → Result ℕ Fault
arm_by Default v node = Ok 0
arm_by _ v node = number_code v node

-- the code of a selector
abbrev pub arm_value : Value → Node → Result ℕ Fault
arm_value v node = arm_by v.what v node

unfoldable pub push_arm : ℕ → Bool → State → Done
push_arm value falls_through s = done (record s { arms = s.arms ++ (record { value = value; falls_through = falls_through }) ∷ [] })

abbrev pub selected : Result ℕ Fault → State → Done
selected (Ok code) s = push_arm code false s
selected (Err e) s = Err e

-- the last value is a selector
unfoldable pub selector : Node → State → Done
selector node s = take_value node s >>= (λ v. selected (arm_value v node))

unfoldable pub default_selector : State → Done
default_selector s = push_arm 0 false s

abbrev pub no_arm : Arm
no_arm = record { value = 0; falls_through = false }

abbrev pub last_arm : List Arm → Arm
last_arm arms = slice_index_or arms (length arms - 1) no_arm

abbrev pub last_count : List ℕ → ℕ
last_count switches = slice_index_or switches (length switches - 1) 0

-- the last selector has the body of the next one
unfoldable pub fall_through : State → Done
fall_through s = push_arm (last_arm s.arms).value true (record s { arms = front s.arms })

-- ---- the end of a switch

abbrev pub case_of : SwitchCase → Tokens
case_of c = case_tokens c

-- the last selector and the last block, as an arm
abbrev pub case : State → Tokens
case s = blocks.arm (last_arm s.arms).value (block s) (last_arm s.arms).falls_through

abbrev pub without_case : State → State
without_case s = record (without_block s) { arms = front s.arms }

-- a number of arms, the last first, before those that follow
abbrev pub cases_before : (count : ℕ) → (following : Tokens) → State → Outcome State Tokens
cases_before zero following s = Ok (following, s)
cases_before (suc count) following s = cases_before count (case s ++ following) (without_case s)

-- the arms of the selectors after the first `count`
abbrev pub cases : (count : ℕ) → State → Outcome State Tokens
cases count s = cases_before (length s.arms - count) [] s

abbrev pub without_switch : State → State
without_switch s = record s { switches = front s.switches }

unfoldable pub switch_cases : State → Outcome State Tokens
switch_cases s = cases (last_count s.switches) (without_switch s)

unfoldable pub switch_end : Node → State → Done
switch_end node s = switch_cases s >>= (λ arms t. operand node t >>= (λ selector. state (blocks.switch_statement selector arms) node.span))
