-- The turns of the machine don't run out, if no row of the table costs more than its rule.
use Rattle.std.proofs.Common.{◌≡◌, ℕ, zero, suc, ◌+◌, ◌*◌, ◌≤◌, Bool, true, false, nat_le, if◌then◌else◌, List, [], ◌∷◌, ◌++◌, length, Option, Some, None, Err, refl, sym, subst, inl, inr, ◌⊎◌, arith, rules}
use Rattle.std.proofs.lemmas.Bool.Decides.{nat_tests}
use Rattle.std.proofs.lemmas.List.{length-append}
use Rattle.std.proofs.Math.Nat.{mul-suc, mul-le-mul_left}
use denote.Enum.Bare.{same_true}
use Rattle.yettuvam_wgsl_words.specs.contracts.token.Kind.{the_type}
use Rattle.yettuvam_wgsl_machine.specs.contracts.symbol.Rule.{the_type as the_rule}
use Rattle.yettuvam_wgsl_words.specs.declared.token.Kind.{Kind}
use Rattle.yettuvam_wgsl_words.specs.declared.token.Kind.TheVariants.{End}
use Rattle.yettuvam_wgsl_words.specs.Scan.{Token, same_kind}
use Rattle.yettuvam_wgsl_machine.specs.declared.machine.TheConstants.{MAX_POSTPONED}
use Rattle.yettuvam_wgsl_machine.specs.declared.refusal.Reason.TheVariants as reason
use Rattle.yettuvam_wgsl_machine.specs.declared.symbol.Rule.{Rule}
use Rattle.yettuvam_wgsl_machine.specs.declared.symbol.Symbol.{Symbol}
use Rattle.yettuvam_wgsl_machine.specs.declared.symbol.Symbol.TheVariants as symbol_is
use Rattle.yettuvam_wgsl_machine.specs.Machine.{Row, Table, State, next, after, fits, find, place_of, run, start, fault_at}
use Rattle.yettuvam_wgsl_table_laws.specs.Run.{HasEnd}
use Rattle.yettuvam_wgsl_table_laws.specs.Turns.{Weights, pays, row_pays, costs, payments, row_ends, rows_end}
use Rattle.yettuvam_wgsl_table_laws.proofs.Moves.{Fact, Keeps, pushed, rest_after, holds_of, run_says}
use Rattle.yettuvam_wgsl_table_laws.proofs.Numbered.{Found, end_at}

-- ---- what waits

abbrev all_costs : Weights → List (List Symbol) → ℕ
all_costs weights [] = 0
all_costs weights (symbols ∷ stack) = costs weights symbols + all_costs weights stack

abbrev all_payments : Weights → List (List Symbol) → ℕ
all_payments weights [] = 0
all_payments weights (symbols ∷ stack) = payments weights symbols + all_payments weights stack

-- no part that waits is paid more than one row
abbrev AreSmall : Weights → List (List Symbol) → Type 0
AreSmall weights [] = Unit {0}
AreSmall weights (symbols ∷ stack) = (payments weights symbols ≤ weights.most_paid) × AreSmall weights stack

costs-more : (w : Weights) (stack : List (List Symbol)) (s : List Symbol) → all_costs w (stack ++ s ∷ []) ≡ all_costs w stack + costs w s
costs-more w [] s = omega arith
costs-more w (t ∷ stack) s = let e = costs-more w stack s in omega (arith, e)

payments-more : (w : Weights) (stack : List (List Symbol)) (s : List Symbol) → all_payments w (stack ++ s ∷ []) ≡ all_payments w stack + payments w s
payments-more w [] s = omega arith
payments-more w (t ∷ stack) s = let e = payments-more w stack s in omega (arith, e)

small-more : (w : Weights) (stack : List (List Symbol)) (s : List Symbol) → AreSmall w stack → payments w s ≤ w.most_paid → AreSmall w (stack ++ s ∷ [])
small-more w [] s small one = (one, tt)
small-more w (t ∷ stack) s small one = (small.0, small-more w stack s small.1 one)

small-less : (w : Weights) (stack : List (List Symbol)) (s : List Symbol) → AreSmall w (stack ++ s ∷ []) → AreSmall w stack × (payments w s ≤ w.most_paid)
small-less w [] s small = (tt, small.0)
small-less w (t ∷ stack) s small = let rest = small-less w stack s small.1 in ((small.0, rest.0), rest.1)

all_small : (w : Weights) (stack : List (List Symbol)) → AreSmall w stack → all_payments w stack ≤ w.most_paid * length stack
all_small w [] small = omega arith
all_small w (t ∷ stack) small =
    let e = all_small w stack small.1 in
    let p : w.most_paid * suc (length stack) ≡ w.most_paid * length stack + w.most_paid = mul-suc w.most_paid (length stack) in
    rw p (omega (arith, e, small.0))

-- ---- tokens pay

pay_by : (w : Weights) (kind : Kind) (b : Bool) → (if b then 0 else w.per_token) ≤ w.per_token
pay_by w kind true = omega arith
pay_by w kind false = omega arith

pay : (w : Weights) (kind : Kind) (rest : List Token) → kind ≡ (next rest).kind → w.per_token * length (after rest) + pays w kind ≤ w.per_token * length rest
pay w kind [] e = rw e (omega arith)
pay w kind (t ∷ rest) e =
    let p : w.per_token * suc (length rest) ≡ w.per_token * length rest + w.per_token = mul-suc w.per_token (length rest) in
    rw p (omega (arith, pay_by w kind (same_kind kind End)))

row_pay : (w : Weights) (first : Option Kind) (rest : List Token) → fits first (next rest).kind ≡ true → w.per_token * length (rest_after first rest) + row_pays w first ≤ w.per_token * length rest
row_pay w None rest e = omega arith
row_pay w (Some kind) rest e = pay w kind rest (same_true the_type (search rules) _ _ e)

-- a row costs no more than its rule
row_costs : (w : Weights) (row : Row) (b c : Bool) → nat_le (2 + costs w row.2 + w.paid row.0) (w.cost row.0 + payments w row.2 + row_pays w row.1) ≡ b → nat_le (payments w row.2) w.most_paid ≡ c → (if b then c else false) ≡ true
    → (2 + costs w row.2 + w.paid row.0 ≤ w.cost row.0 + payments w row.2 + row_pays w row.1) × (payments w row.2 ≤ w.most_paid)
row_costs w row true true p q t = (grind (arith, nat_tests, p), grind (arith, nat_tests, q))
row_costs w row true false p q t = cc
row_costs w row false c p q t = cc

rule_costs : (w : Weights) (r : Rule) (kind : Kind) (row : Row) → Found (row_ends w) r kind row → (2 + costs w row.2 + w.paid r ≤ w.cost r + payments w row.2 + row_pays w row.1) × (payments w row.2 ≤ w.most_paid)
rule_costs w r kind row f =
    let of : row.0 ≡ r = same_true the_rule (search rules) _ _ f.of_rule in
    subst (λ (z : Rule). (2 + costs w row.2 + w.paid z ≤ w.cost z + payments w row.2 + row_pays w row.1) × (payments w row.2 ≤ w.most_paid)) of (row_costs w row _ _ refl refl f.tested)

module _ (w : Weights) (table : Table) (ends : rows_end w table.rows ≡ true) where
  -- The turns left are enough for what is wanted and what waits, less what tokens will surely pay.
  record Enough (n : ℕ) (rest : List Token) (wanted : List Symbol) (stack : List (List Symbol)) : Type 0 where
    pub turns : w.per_token * length rest + costs w wanted + all_costs w stack + length stack + w.most_paid * MAX_POSTPONED + w.most_paid + 1 ≤ n + payments w wanted + all_payments w stack
    pub small : payments w wanted ≤ w.most_paid
    pub small_stack : AreSmall w stack
    pub short : length stack ≤ MAX_POSTPONED

  abbrev Suffices : Fact
  Suffices n rest wanted stack nodes = Enough n rest wanted stack

  opened : (n : ℕ) (rest : List Token) (r : Rule) (row : Row) (more : List Symbol) (stack : List (List Symbol)) → find table r (next rest).kind ≡ Some row → length (pushed stack more) ≤ MAX_POSTPONED ⊎ (more ≡ [])
      → Enough (suc n) rest (symbol_is.Rule r ∷ more) stack → Enough n (rest_after row.1 rest) row.2 (pushed stack more)
  opened n rest r row [] stack e room h =
      let f = end_at w table.rows (place_of table.places r) r (next rest).kind row ends e in
      let c = rule_costs w r (next rest).kind row f in
      let p = row_pay w row.1 rest f.fitting in
      let t = h.turns in
      record { turns = omega (arith, c.0, p, t); small = c.1; small_stack = h.small_stack; short = h.short }
  opened n rest r row (s ∷ more) stack e room h =
      let f = end_at w table.rows (place_of table.places r) r (next rest).kind row ends e in
      let c = rule_costs w r (next rest).kind row f in
      let p = row_pay w row.1 rest f.fitting in
      let t = h.turns in
      let a = costs-more w stack (s ∷ more) in
      let b = payments-more w stack (s ∷ more) in
      let l = length-append stack ((s ∷ more) ∷ []) in
      let m : payments w (s ∷ more) ≤ w.most_paid = omega (arith, h.small) in
      record { turns = omega (arith, c.0, p, t, a, b, l); small = c.1; small_stack = small-more w stack (s ∷ more) h.small_stack m; short = has_room room }
    where
      has_room : length (stack ++ (s ∷ more) ∷ []) ≤ MAX_POSTPONED ⊎ (s ∷ more ≡ []) → length (stack ++ (s ∷ more) ∷ []) ≤ MAX_POSTPONED
      has_room (inl short) = short
      has_room (inr none) = cc

  resumed : (n : ℕ) (rest : List Token) (symbols : List Symbol) (stack : List (List Symbol)) → Enough (suc n) rest [] (stack ++ symbols ∷ []) → Enough n rest symbols stack
  resumed n rest symbols stack h =
      let t = h.turns in
      let a = costs-more w stack symbols in
      let b = payments-more w stack symbols in
      let l = length-append stack (symbols ∷ []) in
      let parts = small-less w stack symbols h.small_stack in
      record { turns = omega (arith, t, a, b, l); small = parts.1; small_stack = parts.0; short = omega (arith, l, h.short) }

  taken : (n : ℕ) (rest : List Token) (kind : Kind) (more : List Symbol) (stack : List (List Symbol)) → same_kind (next rest).kind kind ≡ true
      → Enough (suc n) rest (symbol_is.Token kind ∷ more) stack → Enough n (after rest) more stack
  taken n rest kind more stack e h =
      let k : (next rest).kind ≡ kind = same_true the_type (search rules) _ _ e in
      let p = pay w kind rest (sym k) in
      let t = h.turns in
      record { turns = omega (arith, p, t); small = omega (arith, h.small); small_stack = h.small_stack; short = h.short }

  keeps : Keeps table Suffices
  keeps = record {
    by_token = λ n rest kind more stack nodes e h. taken n rest kind more stack e h;
    by_node = λ n rest node more stack nodes h. record { turns = omega (arith, h.turns); small = omega (arith, h.small); small_stack = h.small_stack; short = h.short };
    by_enter = λ n rest more stack nodes h. record { turns = omega (arith, h.turns); small = omega (arith, h.small); small_stack = h.small_stack; short = h.short };
    by_leave = λ n rest more stack nodes h. record { turns = omega (arith, h.turns); small = omega (arith, h.small); small_stack = h.small_stack; short = h.short };
    by_rule = λ n rest r row more stack nodes e room h. opened n rest r row more stack e room h;
    by_resuming = λ n rest symbols stack nodes h. resumed n rest symbols stack h;
  }

  never : (s : State) → holds_of Suffices zero s → HasEnd (Err (fault_at reason.Endless s))
  never s h =
      let t = h.turns in
      let a = all_small w s.postponed h.small_stack in
      let b : w.most_paid * length s.postponed ≤ w.most_paid * MAX_POSTPONED = mul-le-mul_left w.most_paid h.short in
      absurd (omega (arith, t, a, b, h.small))

  pub run_has_end : (turns : ℕ) (tokens : List Token) (wanted : List Symbol) → payments w wanted ≤ w.most_paid
      → w.per_token * length tokens + costs w wanted + w.most_paid * MAX_POSTPONED + w.most_paid + 1 ≤ turns + payments w wanted
      → HasEnd (run table turns (start tokens wanted))
  run_has_end turns tokens wanted small enough =
      run_says table Suffices keeps HasEnd (λ fault e. e) (λ n rest nodes h. tt) never turns (start tokens wanted)
      (record { turns = omega (arith, enough); small = small; small_stack = tt; short = omega arith })
