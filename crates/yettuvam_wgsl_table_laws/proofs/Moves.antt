-- What the machine keeps: what each kind of step keeps, a step keeps, and a whole run.
use Rattle.std.proofs.Common.{◌≡◌, ℕ, zero, suc, ◌-◌, ◌<◌, ◌≤◌, Bool, true, false, ◌==◌, nat_lt, List, [], ◌∷◌, ◌++◌, length, take, slice_index_or, Option, Some, None, Result, Ok, Err, refl, sym, ap, subst, ◌∙◌, inl, inr, ◌⊎◌, arith}
use Rattle.std.proofs.lemmas.Bool.Decides.{nat_tests}
use Rattle.std.proofs.lemmas.List.{length-append}
use Rattle.std.proofs.Math.Seq.{take-suc, take-length}
use Rattle.yettuvam_wgsl_words.specs.declared.token.Kind.{Kind}
use Rattle.yettuvam_wgsl_words.specs.Scan.{Token, same_kind}
use Rattle.yettuvam_wgsl_machine.specs.declared.machine.TheConstants.{MAX_BLOCKS, MAX_POSTPONED}
use Rattle.yettuvam_wgsl_machine.specs.declared.refusal.Fault.{Fault}
use Rattle.yettuvam_wgsl_machine.specs.declared.refusal.Reason.TheVariants as reason
use Rattle.yettuvam_wgsl_machine.specs.declared.symbol.Rule.{Rule}
use Rattle.yettuvam_wgsl_machine.specs.declared.symbol.Symbol.{Symbol}
use Rattle.yettuvam_wgsl_machine.specs.declared.symbol.Symbol.TheVariants as symbol_is
use Rattle.yettuvam_wgsl_machine.specs.Machine.{Node, Row, Table, State, Outcome, next, after, find, is_some, token, node, enter, postpone, taken, with_wanted, rule, symbol, is_some_list, resumed, first_step, step, turn, run, fault_at}
use Rattle.yettuvam_wgsl_table_laws.specs.Run.{is_endless}

-- what waits after more symbols are postponed
abbrev pub pushed : List (List Symbol) → List Symbol → List (List Symbol)
pushed stack [] = stack
pushed stack (symbol ∷ symbols) = stack ++ (symbol ∷ symbols) ∷ []

-- the tokens left after a row is taken
abbrev pub rest_after : Option Kind → List Token → List Token
rest_after (Some kind) rest = after rest
rest_after None rest = rest

-- A fact of the turns left, the tokens left, the symbols wanted, those postponed and the nodes.
abbrev pub Fact : Type 1
Fact = ℕ → List Token → List Symbol → List (List Symbol) → List Node → Type 0

-- Each kind of step keeps a fact.
pub record Keeps (table : Table) (P : Fact) : Type 0 where
  pub by_token : (n : ℕ) (rest : List Token) (kind : Kind) (more : List Symbol) (stack : List (List Symbol)) (nodes : List Node)
      → same_kind (next rest).kind kind ≡ true → P (suc n) rest (symbol_is.Token kind ∷ more) stack nodes → P n (after rest) more stack nodes
  pub by_node : (n : ℕ) (rest : List Token) (node : Node) (more : List Symbol) (stack : List (List Symbol)) (nodes : List Node)
      → P (suc n) rest (symbol_is.Node node.form ∷ more) stack nodes → P n rest more stack (nodes ++ node ∷ [])
  pub by_enter : (n : ℕ) (rest : List Token) (more : List Symbol) (stack : List (List Symbol)) (nodes : List Node)
      → P (suc n) rest (symbol_is.Enter ∷ more) stack nodes → P n rest more stack nodes
  pub by_leave : (n : ℕ) (rest : List Token) (more : List Symbol) (stack : List (List Symbol)) (nodes : List Node)
      → P (suc n) rest (symbol_is.Leave ∷ more) stack nodes → P n rest more stack nodes
  pub by_rule : (n : ℕ) (rest : List Token) (r : Rule) (row : Row) (more : List Symbol) (stack : List (List Symbol)) (nodes : List Node)
      → find table r (next rest).kind ≡ Some row → length (pushed stack more) ≤ MAX_POSTPONED ⊎ (more ≡ [])
      → P (suc n) rest (symbol_is.Rule r ∷ more) stack nodes → P n (rest_after row.1 rest) row.2 (pushed stack more) nodes
  pub by_resuming : (n : ℕ) (rest : List Token) (symbols : List Symbol) (stack : List (List Symbol)) (nodes : List Node)
      → P (suc n) rest [] (stack ++ symbols ∷ []) nodes → P n rest symbols stack nodes

abbrev pub holds_of : Fact → ℕ → State → Type 0
holds_of P n s = P n s.rest s.wanted s.postponed s.nodes

-- a fact holds after a step; or the step was the last, and no symbols are left; or there is a fault, but not for the turns
abbrev pub After_by : Fact → ℕ → (was : State) → Bool → State → Type 0
After_by P n was true s = holds_of P n s
After_by P n was false s = (was.wanted ≡ []) × (was.postponed ≡ []) × (s.nodes ≡ was.nodes)

abbrev pub After : Fact → ℕ → (was : State) → Outcome Bool → Type 0
After P n was (Ok p) = After_by P n was p.0 p.1
After P n was (Err fault) = is_endless fault.reason ≡ false

-- a list that isn't empty is its front and its last part
split : {X : Type 0} (xs : List X) (d : X) → is_some_list xs ≡ true → xs ≡ take (length xs - 1) xs ++ slice_index_or xs (length xs - 1) d ∷ []
split [] d e = cc
split (x ∷ xs) d e =
    let n : suc (length (x ∷ xs) - 1) ≡ length (x ∷ xs) = omega arith in
    let below : length (x ∷ xs) - 1 < length (x ∷ xs) = omega arith in
    sym (take-length (x ∷ xs)) ∙ ap (λ k. take k (x ∷ xs)) (sym n) ∙ take-suc (x ∷ xs) (length (x ∷ xs) - 1) d below

none : {X : Type 0} (xs : List X) → is_some_list xs ≡ false → xs ≡ []
none [] e = refl
none (x ∷ xs) e = cc

module _ (table : Table) (P : Fact) (keeps : Keeps table P) where
  token_keeps : (n : ℕ) (s : State) (kind : Kind) (more : List Symbol) (b : Bool) → same_kind (next s.rest).kind kind ≡ b
      → P (suc n) s.rest (symbol_is.Token kind ∷ more) s.postponed s.nodes
      → After P n (record s { wanted = symbol_is.Token kind ∷ more }) (first_step table (symbol_is.Token kind ∷ more) s)
  unfolding symbol token
  token_keeps n s kind more true e h = rw e (keeps.by_token n s.rest kind more s.postponed s.nodes e h)
  token_keeps n s kind more false e h = rw e refl

  enter_keeps : (n : ℕ) (s : State) (more : List Symbol) (b : Bool) → nat_lt s.blocks MAX_BLOCKS ≡ b
      → P (suc n) s.rest (symbol_is.Enter ∷ more) s.postponed s.nodes
      → After P n (record s { wanted = symbol_is.Enter ∷ more }) (first_step table (symbol_is.Enter ∷ more) s)
  unfolding symbol enter
  enter_keeps n s more true e h = rw e (keeps.by_enter n s.rest more s.postponed s.nodes h)
  enter_keeps n s more false e h = rw e refl

  row_keeps : (n : ℕ) (s : State) (r : Rule) (more : List Symbol) (of : Rule) (first : Option Kind) (symbols : List Symbol) → find table r (next s.rest).kind ≡ Some (of, first, symbols)
      → length (pushed s.postponed more) ≤ MAX_POSTPONED ⊎ (more ≡ [])
      → P (suc n) s.rest (symbol_is.Rule r ∷ more) s.postponed s.nodes
      → holds_of P n (with_wanted symbols (taken (is_some first) (record s { wanted = more; postponed = pushed s.postponed more })))
  row_keeps n s r more of (Some kind) symbols e room h = keeps.by_rule n s.rest r (of, Some kind, symbols) more s.postponed s.nodes e room h
  row_keeps n s r more of None symbols e room h = keeps.by_rule n s.rest r (of, None, symbols) more s.postponed s.nodes e room h

  room_keeps : (n : ℕ) (s : State) (r : Rule) (first : Symbol) (more : List Symbol) (row : Row) (b : Bool) → nat_lt (length s.postponed) MAX_POSTPONED ≡ b
      → find table r (next s.rest).kind ≡ Some row
      → P (suc n) s.rest (symbol_is.Rule r ∷ first ∷ more) s.postponed s.nodes
      → After P n (record s { wanted = symbol_is.Rule r ∷ first ∷ more }) (first_step table (symbol_is.Rule r ∷ first ∷ more) s)
  unfolding symbol rule postpone
  room_keeps n s r first more row true room e h =
      let some : (suc (length more) == 0) ≡ false = grind (arith, nat_tests) in
      let below : length s.postponed < MAX_POSTPONED = grind (arith, nat_tests, room) in
      let fits : length (s.postponed ++ (first ∷ more) ∷ []) ≤ MAX_POSTPONED = omega (arith, below, length-append s.postponed ((first ∷ more) ∷ [])) in
      rw (e, some, room) (row_keeps n s r (first ∷ more) row.0 row.1 row.2 e (inl fits) h)
  room_keeps n s r first more row false room e h =
      let some : (suc (length more) == 0) ≡ false = grind (arith, nat_tests) in
      rw (e, some, room) refl

  found_keeps : (n : ℕ) (s : State) (r : Rule) (more : List Symbol) (o : Option Row) → find table r (next s.rest).kind ≡ o
      → P (suc n) s.rest (symbol_is.Rule r ∷ more) s.postponed s.nodes
      → After P n (record s { wanted = symbol_is.Rule r ∷ more }) (first_step table (symbol_is.Rule r ∷ more) s)
  unfolding symbol rule postpone
  found_keeps n s r more None e h = rw e refl
  found_keeps n s r [] (Some row) e h = rw e (row_keeps n s r [] row.0 row.1 row.2 e (inr refl) h)
  found_keeps n s r (first ∷ more) (Some row) e h = room_keeps n s r first more row (nat_lt (length s.postponed) MAX_POSTPONED) refl e h

  first_keeps : (n : ℕ) (s : State) (first : Symbol) (more : List Symbol) → P (suc n) s.rest (first ∷ more) s.postponed s.nodes
      → After P n (record s { wanted = first ∷ more }) (first_step table (first ∷ more) s)
  unfolding symbol node
  first_keeps n s (symbol_is.Token kind) more h = token_keeps n s kind more (same_kind (next s.rest).kind kind) refl h
  first_keeps n s (symbol_is.Rule r) more h = found_keeps n s r more (find table r (next s.rest).kind) refl h
  first_keeps n s (symbol_is.Node form) more h = keeps.by_node n s.rest (record { form = form; span = s.last.span; text = s.last.text }) more s.postponed s.nodes h
  first_keeps n s symbol_is.Enter more h = enter_keeps n s more (nat_lt s.blocks MAX_BLOCKS) refl h
  first_keeps n s symbol_is.Leave more h = keeps.by_leave n s.rest more s.postponed s.nodes h

  resume_keeps : (n : ℕ) (s : State) (b : Bool) → is_some_list s.postponed ≡ b → P (suc n) s.rest [] s.postponed s.nodes
      → After P n (record s { wanted = [] }) (first_step table [] s)
  unfolding resumed
  resume_keeps n s true e h =
      let parts = split s.postponed [] e in
      rw e (keeps.by_resuming n s.rest _ _ s.nodes (subst (λ (z : List (List Symbol)). P (suc n) s.rest [] z s.nodes) parts h))
  resume_keeps n s false e h = rw e (refl, none s.postponed e, refl)

  any_keeps : (n : ℕ) (s : State) (wanted : List Symbol) → P (suc n) s.rest wanted s.postponed s.nodes
      → After P n (record s { wanted = wanted }) (first_step table wanted s)
  any_keeps n s [] h = resume_keeps n s (is_some_list s.postponed) refl h
  any_keeps n s (first ∷ more) h = first_keeps n s first more h

  pub step_keeps : (n : ℕ) (s : State) → holds_of P (suc n) s → After P n s (step table s)
  unfolding step
  step_keeps n s h = any_keeps n s s.wanted h

  last_says : (Q : Result (List Node) Fault → Type 0)
      → ((n : ℕ) (rest : List Token) (nodes : List Node) → P (suc n) rest [] [] nodes → Q (Ok nodes))
      → (n : ℕ) (s t : State) → s.wanted ≡ [] → s.postponed ≡ [] → t.nodes ≡ s.nodes → holds_of P (suc n) s → Q (Ok t.nodes)
  last_says Q good n s t w k ns h =
      let h1 : P (suc n) s.rest [] s.postponed s.nodes = subst (λ (z : List Symbol). P (suc n) s.rest z s.postponed s.nodes) w h in
      let h2 : P (suc n) s.rest [] [] s.nodes = subst (λ (z : List (List Symbol)). P (suc n) s.rest [] z s.nodes) k h1 in
      subst (λ (z : List Node). Q (Ok z)) (sym ns) (good n s.rest s.nodes h2)

  step_says : (Q : Result (List Node) Fault → Type 0)
      → ((fault : Fault) → is_endless fault.reason ≡ false → Q (Err fault))
      → ((n : ℕ) (rest : List Token) (nodes : List Node) → P (suc n) rest [] [] nodes → Q (Ok nodes))
      → (n : ℕ) → ((t : State) → holds_of P n t → Q (run table n t))
      → (s : State) → holds_of P (suc n) s → (o : Outcome Bool) → After P n s o → Q (turn (run table n) o)
  step_says Q bad good n go s h (Err fault) a = bad fault a
  step_says Q bad good n go s h (Ok (true, t)) a = go t a
  step_says Q bad good n go s h (Ok (false, t)) a = last_says Q good n s t a.0 a.1 a.2 h

  -- what a whole run says, where its end, a fault and the end of the turns say so
  pub run_says : (Q : Result (List Node) Fault → Type 0)
      → ((fault : Fault) → is_endless fault.reason ≡ false → Q (Err fault))
      → ((n : ℕ) (rest : List Token) (nodes : List Node) → P (suc n) rest [] [] nodes → Q (Ok nodes))
      → ((s : State) → holds_of P zero s → Q (Err (fault_at reason.Endless s)))
      → (n : ℕ) (s : State) → holds_of P n s → Q (run table n s)
  unfolding run
  run_says Q bad good out zero s h = out s h
  run_says Q bad good out (suc n) s h = step_says Q bad good n (run_says Q bad good out n) s h (step table s) (step_keeps n s h)
