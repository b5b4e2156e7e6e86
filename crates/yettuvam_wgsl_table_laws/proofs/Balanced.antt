-- The nodes of a run are balanced, if the rows of the table balance.
use Rattle.std.proofs.Common.{◌≡◌, ℕ, ◌+◌, ◌-◌, ◌≤◌, Bool, true, false, nat_le, if◌then◌else◌, List, [], ◌∷◌, ◌++◌, map, Option, Some, None, refl, sym, ap, subst, ◌∙◌, arith, rules, append_assoc, append-nil}
use Rattle.std.proofs.lemmas.Bool.Decides.{nat_tests}
use Rattle.std.proofs.lemmas.List.{map-append}
use denote.Enum.Bare.{same_true}
use Rattle.yettuvam_wgsl_machine.specs.contracts.symbol.Rule.{the_type}
use Rattle.yettuvam_wgsl_words.specs.Scan.{Token}
use Rattle.yettuvam_wgsl_machine.specs.declared.symbol.Rule.{Rule}
use Rattle.yettuvam_wgsl_machine.specs.declared.symbol.Symbol.{Symbol}
use Rattle.yettuvam_wgsl_machine.specs.declared.symbol.Symbol.TheVariants as symbol_is
use Rattle.yettuvam_wgsl_machine.specs.Machine.{Node, Row, Table, next, find, place_of, run, start}
use Rattle.yettuvam_wgsl_table_laws.specs.Balance.{Effect, Effects, no_effect, after_effect, after_effects, and_then, of_symbol, of_node, AreBalanced, is_height, rows_balance}
use Rattle.yettuvam_wgsl_table_laws.specs.Run.{GivesBalanced}
use Rattle.yettuvam_wgsl_table_laws.proofs.Moves.{Fact, Keeps, pushed, run_says}
use Rattle.yettuvam_wgsl_table_laws.proofs.Numbered.{some_same, balance_at}

-- ---- effects

-- a higher stack stays as much higher
higher_by : (e : Effect) (h k g : ℕ) (b : Bool) → nat_le e.takes h ≡ b → (if b then Some (h - e.takes + e.gives) else None) ≡ Some g → after_effect e (h + k) ≡ Some (g + k)
higher_by e h k g false test q = cc
higher_by e h k g true test q =
    let n : e.takes ≤ h = grind (arith, nat_tests, test) in
    let t : nat_le e.takes (h + k) ≡ true = grind (arith, nat_tests, n) in
    let v : h - e.takes + e.gives ≡ g = some_same _ _ q in
    rw t (ap Some (omega (arith, n, v)))

higher : (e : Effect) (h k g : ℕ) → after_effect e h ≡ Some g → after_effect e (h + k) ≡ Some (g + k)
higher e h k g q = higher_by e h k g (nat_le e.takes h) refl q

middle : (o : Option ℕ) (go : ℕ → Option ℕ) (g : ℕ) → and_then o go ≡ Some g → (m : ℕ) × (o ≡ Some m) × (go m ≡ Some g)
middle None go g q = cc
middle (Some m) go g q = (m, refl, q)

all_higher : (es : List Effect) (h k g : ℕ) → after_effects es h ≡ Some g → after_effects es (h + k) ≡ Some (g + k)
all_higher [] h k g q = ap (λ n. Some (n + k)) (some_same h g q)
all_higher (e ∷ es) h k g q =
    let m = middle (after_effect e h) (after_effects es) g q in
    rw (higher e h k m.0 m.1) (all_higher es m.0 k g m.2)

after_one : (o : Option ℕ) (both : ℕ → Option ℕ) (first second : ℕ → Option ℕ) → ((m : ℕ) → both m ≡ and_then (first m) second) → and_then o both ≡ and_then (and_then o first) second
after_one None both first second go = refl
after_one (Some m) both first second go = go m

after_append : (xs ys : List Effect) (h : ℕ) → after_effects (xs ++ ys) h ≡ and_then (after_effects xs h) (after_effects ys)
after_append [] ys h = refl
after_append (e ∷ xs) ys h = after_one (after_effect e h) (after_effects (xs ++ ys)) (after_effects xs) (after_effects ys) (after_append xs ys)

-- no effect can be left out
without : (es : List Effect) (h : ℕ) → after_effects (no_effect ∷ es) h ≡ after_effects es h
without es h =
    let t : nat_le 0 h ≡ true = grind (arith, nat_tests) in
    let v : h - 0 + 0 ≡ h = omega arith in
    rw (t, v) refl

-- an effect that effects have together can be replaced by them
is_of : (o : Option ℕ) (g : ℕ) → is_height o g ≡ true → o ≡ Some g
is_of None g t = cc
is_of (Some h) g t = ap Some (grind (arith, nat_tests, t))

taken_by : (e : Effect) (h g : ℕ) (b : Bool) → nat_le e.takes h ≡ b → (if b then Some (h - e.takes + e.gives) else None) ≡ Some g → (k : ℕ) × (h ≡ e.takes + k) × (g ≡ e.gives + k)
taken_by e h g false test q = cc
taken_by e h g true test q =
    let n : e.takes ≤ h = grind (arith, nat_tests, test) in
    let v : h - e.takes + e.gives ≡ g = some_same _ _ q in
    (h - e.takes, omega (arith, n), omega (arith, n, v))

replaced : (e : Effect) (es more : List Effect) (h g : ℕ) → after_effects es e.takes ≡ Some e.gives → after_effects (e ∷ more) h ≡ Some g → after_effects (es ++ more) h ≡ Some g
replaced e es more h g same q =
    let m = middle (after_effect e h) (after_effects more) g q in
    let k = taken_by e h m.0 (nat_le e.takes h) refl m.1 in
    let up : after_effects es h ≡ Some m.0 = subst (λ (z : ℕ). after_effects es z ≡ Some m.0) (sym k.1) (all_higher es e.takes k.0 e.gives same ∙ ap Some (sym k.2)) in
    after_append es more h ∙ ap (λ o. and_then o (after_effects more)) up ∙ m.2

-- the same after other effects
under : (front xs ys : List Effect) (h g : ℕ) → ((m : ℕ) → after_effects xs m ≡ Some g → after_effects ys m ≡ Some g) → after_effects (front ++ xs) h ≡ Some g → after_effects (front ++ ys) h ≡ Some g
under [] xs ys h g go q = go h q
under (e ∷ front) xs ys h g go q =
    let m = middle (after_effect e h) (after_effects (front ++ xs)) g q in
    ap (λ o. and_then o (after_effects (front ++ ys))) m.1 ∙ under front xs ys m.0 g go m.2

-- ---- what waits

-- the symbols that wait, in their order
abbrev waiting : List (List Symbol) → List Symbol
waiting [] = []
waiting (symbols ∷ stack) = waiting stack ++ symbols

waiting-more : (stack : List (List Symbol)) (symbols : List Symbol) → waiting (stack ++ symbols ∷ []) ≡ symbols ++ waiting stack
waiting-more [] symbols = sym (append-nil symbols)
waiting-more (s ∷ stack) symbols = ap (λ z. z ++ s) (waiting-more stack symbols) ∙ append_assoc symbols (waiting stack) s

waiting-pushed : (stack : List (List Symbol)) (more : List Symbol) → waiting (pushed stack more) ≡ more ++ waiting stack
waiting-pushed stack [] = refl
waiting-pushed stack (s ∷ more) = waiting-more stack (s ∷ more)

-- ---- the law

module _ (effects : Effects) (table : Table) (balances : rows_balance effects table.rows ≡ true) where
  -- the effects of the nodes made, then those of the symbols wanted, then of those that wait
  abbrev effects_of : List Node → List Symbol → List (List Symbol) → List Effect
  effects_of nodes wanted stack = map (of_node effects) nodes ++ map (of_symbol effects) (wanted ++ waiting stack)

  abbrev Balanced : Fact
  Balanced n rest wanted stack nodes = after_effects (effects_of nodes wanted stack) 0 ≡ Some 0

  left_out : (nodes : List Node) (more : List Symbol) (stack : List (List Symbol)) → after_effects (map (of_node effects) nodes ++ no_effect ∷ map (of_symbol effects) (more ++ waiting stack)) 0 ≡ Some 0
      → after_effects (effects_of nodes more stack) 0 ≡ Some 0
  left_out nodes more stack h = under (map (of_node effects) nodes) (no_effect ∷ map (of_symbol effects) (more ++ waiting stack)) (map (of_symbol effects) (more ++ waiting stack)) 0 0 (λ m q. sym (without (map (of_symbol effects) (more ++ waiting stack)) m) ∙ q) h

  made : (node : Node) (more : List Symbol) (stack : List (List Symbol)) (nodes : List Node) → after_effects (effects_of nodes (symbol_is.Node node.form ∷ more) stack) 0 ≡ Some 0
      → after_effects (effects_of (nodes ++ node ∷ []) more stack) 0 ≡ Some 0
  made node more stack nodes h =
      rw (map-append (of_node effects) nodes (node ∷ []), append_assoc (map (of_node effects) nodes) (of_node effects node ∷ []) (map (of_symbol effects) (more ++ waiting stack))) h

  opened : (rest : List Token) (r : Rule) (row : Row) (more : List Symbol) (stack : List (List Symbol)) (nodes : List Node) → find table r (next rest).kind ≡ Some row
      → after_effects (effects_of nodes (symbol_is.Rule r ∷ more) stack) 0 ≡ Some 0 → after_effects (effects_of nodes row.2 (pushed stack more)) 0 ≡ Some 0
  opened rest r row more stack nodes e h =
      let b = balance_at effects table.rows (place_of table.places r) r (next rest).kind row balances e in
      let of : row.0 ≡ r = same_true the_type (search rules) _ _ b.of_rule in
      let own : after_effects (map (of_symbol effects) row.2) (effects.of_rule row.0).takes ≡ Some (effects.of_rule row.0).gives = is_of _ _ b.tested in
      let same : after_effects (map (of_symbol effects) row.2) (effects.of_rule r).takes ≡ Some (effects.of_rule r).gives = subst (λ (z : Rule). after_effects (map (of_symbol effects) row.2) (effects.of_rule z).takes ≡ Some (effects.of_rule z).gives) of own in
      rw (waiting-pushed stack more, map-append (of_symbol effects) row.2 (more ++ waiting stack))
      (under (map (of_node effects) nodes) (effects.of_rule r ∷ map (of_symbol effects) (more ++ waiting stack)) (map (of_symbol effects) row.2 ++ map (of_symbol effects) (more ++ waiting stack)) 0 0
      (λ m q. replaced (effects.of_rule r) (map (of_symbol effects) row.2) (map (of_symbol effects) (more ++ waiting stack)) m 0 same q) h)

  keeps : Keeps table Balanced
  keeps = record {
    by_token = λ n rest kind more stack nodes t h. left_out nodes more stack h;
    by_node = λ n rest node more stack nodes h. made node more stack nodes h;
    by_enter = λ n rest more stack nodes h. left_out nodes more stack h;
    by_leave = λ n rest more stack nodes h. left_out nodes more stack h;
    by_rule = λ n rest r row more stack nodes e room h. opened rest r row more stack nodes e h;
    by_resuming = λ n rest symbols stack nodes h. rw (← waiting-more stack symbols) h;
  }

  at_end : (n : ℕ) (rest : List Token) (nodes : List Node) → Balanced n rest [] [] nodes → AreBalanced effects nodes
  at_end n rest nodes h = rw (← append-nil (map (of_node effects) nodes)) h

  pub run_is_balanced : (turns : ℕ) (tokens : List Token) (wanted : List Symbol) → after_effects (map (of_symbol effects) wanted) 0 ≡ Some 0 → GivesBalanced effects (run table turns (start tokens wanted))
  run_is_balanced turns tokens wanted h =
      run_says table Balanced keeps (GivesBalanced effects) (λ fault e. tt) at_end (λ s z. tt) turns (start tokens wanted)
      (subst (λ (z : List Symbol). after_effects (map (of_symbol effects) z) 0 ≡ Some 0) (sym (append-nil wanted)) h)
