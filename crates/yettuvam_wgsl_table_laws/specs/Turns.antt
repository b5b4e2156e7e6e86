-- How many turns of the machine a table can take: weights of rules that prove a bound.
use Rattle.std.specs.Prelude.{ℕ, ◌+◌, Bool, true, false, nat_le, if◌then◌else◌, List, [], ◌∷◌, Option, Some, None}
use Rattle.yettuvam_wgsl_words.specs.declared.token.Kind.{Kind}
use Rattle.yettuvam_wgsl_words.specs.declared.token.Kind.TheVariants.{End}
use Rattle.yettuvam_wgsl_words.specs.Scan.{same_kind}
use Rattle.yettuvam_wgsl_machine.specs.declared.symbol.Rule.{Rule}
use Rattle.yettuvam_wgsl_machine.specs.declared.symbol.Symbol.{Symbol}
use Rattle.yettuvam_wgsl_machine.specs.declared.symbol.Symbol.TheVariants as symbol_is
use Rattle.yettuvam_wgsl_machine.specs.Machine.{Row}

-- What a rule costs in turns, beyond what the tokens that it surely takes pay.
pub record Weights : Type 0 where
  -- the turns that each token pays
  pub per_token : ℕ
  -- the most that the symbols of one row are paid
  pub most_paid : ℕ
  pub cost : Rule → ℕ
  pub paid : Rule → ℕ

-- a token that is taken pays; the end of a text doesn't
abbrev pub pays : Weights → Kind → ℕ
pays weights kind = if same_kind kind End then 0 else weights.per_token

abbrev pub row_pays : Weights → Option Kind → ℕ
row_pays weights (Some kind) = pays weights kind
row_pays weights None = 0

abbrev pub cost_of : Weights → Symbol → ℕ
cost_of weights (symbol_is.Rule rule) = weights.cost rule
cost_of weights (symbol_is.Token _) = 1
cost_of weights (symbol_is.Node _) = 1
cost_of weights symbol_is.Enter = 1
cost_of weights symbol_is.Leave = 1

abbrev pub paid_of : Weights → Symbol → ℕ
paid_of weights (symbol_is.Rule rule) = weights.paid rule
paid_of weights (symbol_is.Token kind) = pays weights kind
paid_of weights (symbol_is.Node _) = 0
paid_of weights symbol_is.Enter = 0
paid_of weights symbol_is.Leave = 0

abbrev pub costs : Weights → List Symbol → ℕ
costs weights [] = 0
costs weights (symbol ∷ symbols) = cost_of weights symbol + costs weights symbols

abbrev pub payments : Weights → List Symbol → ℕ
payments weights [] = 0
payments weights (symbol ∷ symbols) = paid_of weights symbol + payments weights symbols

-- a row costs no more than its rule: two turns, its symbols, less what its token pays
abbrev pub row_ends : Weights → Row → Bool
row_ends weights row =
    if nat_le (2 + costs weights row.2 + weights.paid row.0) (weights.cost row.0 + payments weights row.2 + row_pays weights row.1)
    then nat_le (payments weights row.2) weights.most_paid
    else false

-- no row costs more than its rule
unfoldable pub rows_end : Weights → List Row → Bool
rows_end weights [] = true
rows_end weights (row ∷ rows) = if row_ends weights row then rows_end weights rows else false
