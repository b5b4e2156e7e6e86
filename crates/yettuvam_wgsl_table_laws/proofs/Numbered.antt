-- What a test says of all rows it says of the row that is found.
use Rattle.std.proofs.Common.{◌≡◌, ℕ, zero, suc, Bool, true, false, if◌then◌else◌, List, [], ◌∷◌, drop, Option, Some, None, refl, ap, subst}
use Rattle.yettuvam_wgsl_words.specs.declared.token.Kind.{Kind}
use Rattle.yettuvam_wgsl_machine.specs.declared.symbol.Rule.{Rule}
use Rattle.yettuvam_wgsl_machine.specs.Machine.{Row, same_rule, fits, first_fit}
use Rattle.yettuvam_wgsl_table_laws.specs.Balance.{Effects, row_balances, rows_balance}
use Rattle.yettuvam_wgsl_table_laws.specs.Turns.{Weights, row_ends, rows_end}

abbrev get_some : {X : Type 0} → X → Option X → X
get_some other (Some x) = x
get_some other None = other

pub some_same : {X : Type 0} (a b : X) → Some a ≡ Some b → a ≡ b
some_same a b e = ap (get_some a) e

-- a test of all rows
abbrev pub all_rows : (Row → Bool) → List Row → Bool
all_rows test [] = true
all_rows test (row ∷ rows) = if test row then all_rows test rows else false

first_rows : (more b : Bool) → (if b then more else false) ≡ true → b ≡ true
first_rows more true t = refl
first_rows more false t = cc

later_rows : (more b : Bool) → (if b then more else false) ≡ true → more ≡ true
later_rows more true t = t
later_rows more false t = cc

all-drop : (test : Row → Bool) (n : ℕ) (rows : List Row) → all_rows test rows ≡ true → all_rows test (drop n rows) ≡ true
all-drop test zero rows t = t
all-drop test (suc n) [] t = t
all-drop test (suc n) (row ∷ rows) t = all-drop test n rows (later_rows (all_rows test rows) (test row) t)

-- what is known of a row that is found: the test says so, and it is of the rule and fits
pub record Found (test : Row → Bool) (rule : Rule) (kind : Kind) (row : Row) : Type 0 where
  pub tested : test row ≡ true
  pub of_rule : same_rule row.0 rule ≡ true
  pub fitting : fits row.1 kind ≡ true

found_one : (test : Row → Bool) (rule : Rule) (kind : Kind) (row r : Row) (more : Option Row) (b c : Bool) → test r ≡ true → same_rule r.0 rule ≡ b → fits r.1 kind ≡ c
    → (more ≡ Some row → Found test rule kind row) → (if b then (if c then Some r else more) else None) ≡ Some row → Found test rule kind row
found_one test rule kind row r more false c t s f go e = cc
found_one test rule kind row r more true false t s f go e = go e
found_one test rule kind row r more true true t s f go e =
    subst (λ (z : Row). Found test rule kind z) (some_same r row e) (record { tested = t; of_rule = s; fitting = f })

found : (test : Row → Bool) (rows : List Row) (rule : Rule) (kind : Kind) (row : Row) → all_rows test rows ≡ true → first_fit rows rule kind ≡ Some row → Found test rule kind row
found test [] rule kind row t e = cc
found test (r ∷ rows) rule kind row t e =
    found_one test rule kind row r (first_fit rows rule kind) (same_rule r.0 rule) (fits r.1 kind) (first_rows (all_rows test rows) (test r) t) refl refl
    (found test rows rule kind row (later_rows (all_rows test rows) (test r) t)) e

all_balance : (effects : Effects) (rows : List Row) → rows_balance effects rows ≡ true → all_rows (row_balances effects) rows ≡ true
unfolding rows_balance
all_balance effects [] t = t
all_balance effects (row ∷ rows) t = rw (first_rows (rows_balance effects rows) (row_balances effects row) t) (all_balance effects rows (later_rows (rows_balance effects rows) (row_balances effects row) t))

all_end : (weights : Weights) (rows : List Row) → rows_end weights rows ≡ true → all_rows (row_ends weights) rows ≡ true
unfolding rows_end
all_end weights [] t = t
all_end weights (row ∷ rows) t = rw (first_rows (rows_end weights rows) (row_ends weights row) t) (all_end weights rows (later_rows (rows_end weights rows) (row_ends weights row) t))

pub balance_at : (effects : Effects) (rows : List Row) (n : ℕ) (rule : Rule) (kind : Kind) (row : Row) → rows_balance effects rows ≡ true → first_fit (drop n rows) rule kind ≡ Some row
    → Found (row_balances effects) rule kind row
balance_at effects rows n rule kind row t e = found (row_balances effects) (drop n rows) rule kind row (all-drop (row_balances effects) n rows (all_balance effects rows t)) e

pub end_at : (weights : Weights) (rows : List Row) (n : ℕ) (rule : Rule) (kind : Kind) (row : Row) → rows_end weights rows ≡ true → first_fit (drop n rows) rule kind ≡ Some row
    → Found (row_ends weights) rule kind row
end_at weights rows n rule kind row t e = found (row_ends weights) (drop n rows) rule kind row (all-drop (row_ends weights) n rows (all_end weights rows t)) e
