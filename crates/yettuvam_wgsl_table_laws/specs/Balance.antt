-- What nodes take from a stack and put on it, and when the rows of a table balance.
use Rattle.std.specs.Prelude.{◌≡◌, ℕ, ◌+◌, ◌-◌, Bool, true, false, ◌==◌, nat_le, if◌then◌else◌, List, [], ◌∷◌, map, Option, Some, None}
use Rattle.yettuvam_wgsl_machine.specs.declared.symbol.Form.{Form}
use Rattle.yettuvam_wgsl_machine.specs.declared.symbol.Rule.{Rule}
use Rattle.yettuvam_wgsl_machine.specs.declared.symbol.Symbol.{Symbol}
use Rattle.yettuvam_wgsl_machine.specs.declared.symbol.Symbol.TheVariants as symbol_is
use Rattle.yettuvam_wgsl_machine.specs.Machine.{Node, Row}

-- The number of values that are taken from a stack, and then the number that are put on it.
pub record Effect : Type 0 where
  pub takes : ℕ
  pub gives : ℕ

abbrev pub no_effect : Effect
no_effect = record { takes = 0; gives = 0 }

-- the height of a stack after an effect, if the stack has the values that are taken
abbrev pub after_effect : Effect → (height : ℕ) → Option ℕ
after_effect effect height = if nat_le effect.takes height then Some (height - effect.takes + effect.gives) else None

abbrev pub and_then : Option ℕ → (ℕ → Option ℕ) → Option ℕ
and_then (Some height) go = go height
and_then None go = None

-- the height after several effects, one after the other
abbrev pub after_effects : List Effect → (height : ℕ) → Option ℕ
after_effects [] height = Some height
after_effects (effect ∷ effects) height = and_then (after_effect effect height) (after_effects effects)

-- The effects of forms and of what rules read.
pub record Effects : Type 0 where
  pub of_form : Form → Effect
  pub of_rule : Rule → Effect

abbrev pub of_symbol : Effects → Symbol → Effect
of_symbol effects (symbol_is.Node form) = effects.of_form form
of_symbol effects (symbol_is.Rule rule) = effects.of_rule rule
of_symbol effects (symbol_is.Token _) = no_effect
of_symbol effects symbol_is.Enter = no_effect
of_symbol effects symbol_is.Leave = no_effect

-- ---- nodes

abbrev pub of_node : Effects → Node → Effect
of_node effects node = effects.of_form node.form

-- each node finds what it takes on a stack that is empty at first, and the stack is empty after the last
abbrev pub AreBalanced : Effects → List Node → Type 0
AreBalanced effects nodes = after_effects (map (of_node effects) nodes) 0 ≡ Some 0

-- ---- rows

abbrev pub is_height : Option ℕ → ℕ → Bool
is_height (Some height) wanted = height == wanted
is_height None wanted = false

-- a row gives what its rule gives, if it finds what the rule takes
abbrev pub row_balances : Effects → Row → Bool
row_balances effects row = is_height (after_effects (map (of_symbol effects) row.2) (effects.of_rule row.0).takes) (effects.of_rule row.0).gives

-- each row balances
unfoldable pub rows_balance : Effects → List Row → Bool
rows_balance effects [] = true
rows_balance effects (row ∷ rows) = if row_balances effects row then rows_balance effects rows else false
