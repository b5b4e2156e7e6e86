-- Bodies take the results of functions that they call.
use Rattle.naga_oil_form_laws.specs.FunctionForm.{AreResultsOfCalls}
use Rattle.std.proofs.Common.{◌≡◌, ◌⊎◌, inl, inr, ⊎_elim, ℕ, zero, suc, Bool, true, false, List, [], ◌∷◌, ◌++◌, map, Option, Some, None, slice_get, refl, ap, sym, ◌∙◌, subst}
use Rattle.std.specs.List.{flat_map}
use Rattle.std.proofs.lemmas.Bool.{false≢true}
use Rattle.naga_oil_ir.specs.Body.{Tokens, used, given, given_by, inside, ray_query_tokens, statement_step, block_step, case_step, block_tokens, statement_tokens, case_tokens}
use Rattle.naga_oil_ir.specs.declared.span.Span.{Span}
use Rattle.naga_oil_ir.specs.declared.tokens.Token.{Token}
use Rattle.naga_oil_ir.specs.declared.tokens.Token.TheVariants.{At, Head, Use, GiveCall, Callee}
use Rattle.naga_oil_ir.specs.declared.statement.RayQueryFunction.{RayQueryFunction}
use Rattle.naga_oil_ir.specs.declared.statement.RayQueryFunction.TheVariants.{Initialize, Proceed, Terminate, GenerateIntersection, ConfirmIntersection}
use Rattle.naga_oil_ir.specs.declared.statement.Statement.{Statement, Statement-F, fold-roll-Statement, map-Statement, roll-Statement}
use Rattle.naga_oil_ir.specs.declared.statement.Statement.TheOpen.{Emit, Block, If, Switch, Loop, Break, Continue, Kill, ControlBarrier, MemoryBarrier, Return, Store, ImageStore, Atomic, ImageAtomic, WorkGroupUniformLoad, Call, RayQuery, SubgroupBallot, SubgroupGather, SubgroupCollectiveOperation}
use Rattle.naga_oil_ir.specs.declared.statement.Block.{Block as Body, Block-F, ind-Block, fold-roll-Block, map-Block, roll-Block}
use Rattle.naga_oil_ir.specs.declared.statement.SwitchCase.{SwitchCase, SwitchCase-F, fold-roll-SwitchCase, map-SwitchCase, roll-SwitchCase}

abbrev Among : Tokens → Token → Type 0
Among ts x = (i : ℕ) × (slice_get ts i ≡ Some x)

-- the results of calls are of functions that are called
pub record IsClosed (ts : Tokens) : Type 0 where
  pub calls : (f h : ℕ) → Among ts (GiveCall f h) → Among ts (Callee f)

abbrev is_give_call : Token → Bool
is_give_call (GiveCall f h) = true
is_give_call _ = false

closed_nil : IsClosed []
closed_nil = record { calls = λ f h a. absurd (let e = a.1 in cc) }

some_same : (x y : Token) → Some x ≡ Some y → x ≡ y
some_same x y e = cc

among_later : (x : Token) (ts : Tokens) (y : Token) → Among ts y → Among (x ∷ ts) y
among_later x ts y a = (suc a.0, a.1)

among_first : (x : Token) (ts : Tokens) (y : Token) → Among (x ∷ ts) y → (x ≡ y) ⊎ Among ts y
among_first x ts y (zero, e) = inl (some_same x y e)
among_first x ts y (suc i, e) = inr (i, e)

closed_add : {x : Token} {ts : Tokens} → is_give_call x ≡ false → IsClosed ts → IsClosed (x ∷ ts)
closed_add {x} {ts} n c = record { calls = λ f h a. ⊎_elim (λ e. absurd (false≢true (sym n ∙ ap is_give_call e))) (λ b. among_later x ts (Callee f) (c.calls f h b)) (among_first x ts (GiveCall f h) a) }

among_left : (xs ys : Tokens) (y : Token) → Among xs y → Among (xs ++ ys) y
among_left [] ys y (i, e) = absurd cc
among_left (x ∷ xs) ys y (zero, e) = (zero, e)
among_left (x ∷ xs) ys y (suc i, e) = let a = among_left xs ys y (i, e) in (suc a.0, a.1)

among_right : (xs ys : Tokens) (y : Token) → Among ys y → Among (xs ++ ys) y
among_right [] ys y a = a
among_right (x ∷ xs) ys y a = let b = among_right xs ys y a in (suc b.0, b.1)

among_cases : (xs ys : Tokens) (y : Token) (i : ℕ) → slice_get (xs ++ ys) i ≡ Some y → Among xs y ⊎ Among ys y
among_cases [] ys y i e = inr (i, e)
among_cases (x ∷ xs) ys y zero e = inl (zero, e)
among_cases (x ∷ xs) ys y (suc i) e = ⊎_elim (λ a. inl (among_later x xs y a)) inr (among_cases xs ys y i e)

closed_join : {xs ys : Tokens} → IsClosed xs → IsClosed ys → IsClosed (xs ++ ys)
closed_join {xs} {ys} a b = record { calls = λ f h x. ⊎_elim (λ y. among_left xs ys (Callee f) (a.calls f h y)) (λ y. among_right xs ys (Callee f) (b.calls f h y)) (among_cases xs ys (GiveCall f h) x.0 x.1) }

free_used : (o : Option ℕ) → is_give_call (used o) ≡ false
free_used None = refl
free_used (Some h) = refl

free_given : (o : Option ℕ) → is_give_call (given o) ≡ false
free_given None = refl
free_given (Some h) = refl

closed_uses : (xs : List ℕ) {ts : Tokens} → IsClosed ts → IsClosed (map Use xs ++ ts)
closed_uses [] c = c
closed_uses (x ∷ xs) c = closed_add refl (closed_uses xs c)

-- a call and its result
call_only : (f g h : ℕ) (o : Option ℕ) → given_by f o ≡ GiveCall g h → f ≡ g
call_only f g h None e = absurd cc
call_only f g h (Some k) e = let q : GiveCall f k ≡ GiveCall g h = e in cc

uses_then : (f g h : ℕ) (o : Option ℕ) (xs : List ℕ) (i : ℕ) → slice_get (map Use xs ++ given_by f o ∷ []) i ≡ Some (GiveCall g h) → f ≡ g
uses_then f g h o [] zero e = call_only f g h o (some_same (given_by f o) (GiveCall g h) e)
uses_then f g h o [] (suc i) e = absurd cc
uses_then f g h o (x ∷ xs) zero e = absurd cc
uses_then f g h o (x ∷ xs) (suc i) e = uses_then f g h o xs i e

closed_call : (f : ℕ) (xs : List ℕ) (o : Option ℕ) → IsClosed (Head 16 ∷ Callee f ∷ (map Use xs ++ given_by f o ∷ []))
closed_call f xs o = record { calls = found }
  where
    found : (g h : ℕ) → Among (Head 16 ∷ Callee f ∷ (map Use xs ++ given_by f o ∷ [])) (GiveCall g h) → Among (Head 16 ∷ Callee f ∷ (map Use xs ++ given_by f o ∷ [])) (Callee g)
    found g h (zero, e) = absurd cc
    found g h (suc zero, e) = absurd cc
    found g h (suc (suc i), e) = (1, ap (λ k. Some (Callee k)) (uses_then f g h o xs i e))

closed_inside : {b : Tokens} → IsClosed b → IsClosed (inside b)
closed_inside c = closed_add refl (closed_join c (closed_add refl closed_nil))

closed_ray : (q : RayQueryFunction) → IsClosed (ray_query_tokens q)
closed_ray (Initialize s d) = closed_add refl (closed_add refl (closed_add refl closed_nil))
closed_ray (Proceed r) = closed_add refl (closed_add refl closed_nil)
closed_ray Terminate = closed_add refl closed_nil
closed_ray (GenerateIntersection t) = closed_add refl (closed_add refl closed_nil)
closed_ray ConfirmIntersection = closed_add refl closed_nil

closed_flat : {X : Type 0} (f : X → Tokens) → ((x : X) → IsClosed (f x)) → (xs : List X) → IsClosed (flat_map f xs)
closed_flat f h [] = closed_nil
closed_flat f h (x ∷ xs) = closed_join (h x) (closed_flat f h xs)

module _ (S B C : Type 0) (s : S → Statement) (b : B → Body) (c : C → SwitchCase) (of_s : (x : S) → IsClosed (statement_tokens (s x))) (of_b : (x : B) → IsClosed (block_tokens (b x))) (of_c : (x : C) → IsClosed (case_tokens (c x))) where
  closed_cases : (xs : List C) → IsClosed (flat_map (λ x. x) (map case_tokens (map c xs)))
  closed_cases [] = closed_nil
  closed_cases (x ∷ xs) = closed_join (of_c x) (closed_cases xs)

  closed_spanned : (xs : List (S × Span)) → IsClosed (flat_map (λ (x : Tokens × Span). At x.1 ∷ x.0) (map (λ (x : Statement × Span). (statement_tokens x.0, x.1)) (map (λ (x : S × Span). (s x.0, x.1)) xs)))
  closed_spanned [] = closed_nil
  closed_spanned (x ∷ xs) = closed_add refl (closed_join (of_s x.0) (closed_spanned xs))

  closed_statement : (y : Statement-F S B C) → IsClosed (statement_step (map-Statement Statement Body SwitchCase Tokens Tokens Tokens statement_tokens block_tokens case_tokens (map-Statement S B C Statement Body SwitchCase s b c y)))
  closed_statement (Emit r) = closed_add refl (closed_add refl closed_nil)
  closed_statement (Block x) = closed_add refl (closed_inside (of_b x))
  closed_statement (If k accept reject) = closed_add refl (closed_add refl (closed_join (closed_inside (of_b accept)) (closed_inside (of_b reject))))
  closed_statement (Switch k cases) = closed_add refl (closed_add refl (closed_cases cases.items))
  closed_statement (Loop body continuing break_if) = closed_add refl (closed_join (closed_join (closed_inside (of_b body)) (closed_inside (of_b continuing))) (closed_add (free_used break_if) closed_nil))
  closed_statement Break = closed_add refl closed_nil
  closed_statement Continue = closed_add refl closed_nil
  closed_statement Kill = closed_add refl closed_nil
  closed_statement (ControlBarrier k) = closed_add refl (closed_add refl closed_nil)
  closed_statement (MemoryBarrier k) = closed_add refl (closed_add refl closed_nil)
  closed_statement (Return v) = closed_add refl (closed_add (free_used v) closed_nil)
  closed_statement (Store p v) = closed_add refl (closed_add refl (closed_add refl closed_nil))
  closed_statement (ImageStore image coordinate array_index value) = closed_add refl (closed_add refl (closed_add refl (closed_add (free_used array_index) (closed_add refl closed_nil))))
  closed_statement (Atomic pointer fun compare value result) = closed_add refl (closed_add refl (closed_add (free_used compare) (closed_add refl (closed_add refl (closed_add (free_given result) closed_nil)))))
  closed_statement (ImageAtomic image coordinate array_index fun compare value) = closed_add refl (closed_add refl (closed_add (free_used compare) (closed_add refl (closed_add refl (closed_add (free_used array_index) (closed_add refl closed_nil))))))
  closed_statement (WorkGroupUniformLoad pointer result) = closed_add refl (closed_add refl (closed_add refl closed_nil))
  closed_statement (Call f arguments result) = closed_call f arguments.items result
  closed_statement (RayQuery query fun) = closed_add refl (closed_add refl (closed_ray fun))
  closed_statement (SubgroupBallot result predicate) = closed_add refl (closed_add refl (closed_add (free_used predicate) closed_nil))
  closed_statement (SubgroupGather mode index argument result) = closed_add refl (closed_add refl (closed_add (free_used index) (closed_add refl (closed_add refl closed_nil))))
  closed_statement (SubgroupCollectiveOperation op collective argument result) = closed_add refl (closed_add refl (closed_add refl (closed_add refl (closed_add refl closed_nil))))

  closed_case : (y : SwitchCase-F S B C) → IsClosed (case_step (map-SwitchCase Statement Body SwitchCase Tokens Tokens Tokens statement_tokens block_tokens case_tokens (map-SwitchCase S B C Statement Body SwitchCase s b c y)))
  closed_case y = closed_add refl (closed_add refl (closed_inside (of_b y.body)))

  closed_body : (y : Block-F S B C) → IsClosed (block_step (map-Block Statement Body SwitchCase Tokens Tokens Tokens statement_tokens block_tokens case_tokens (map-Block S B C Statement Body SwitchCase s b c y)))
  closed_body y = closed_spanned y.body.items

closed_block : (b : Body) → IsClosed (block_tokens b)
closed_block b =
    ind-Block (λ s. IsClosed (statement_tokens s)) (λ c. IsClosed (block_tokens c)) (λ c. IsClosed (case_tokens c))
    (λ x y e. subst (λ z. IsClosed (statement_tokens (roll-Statement z))) e (subst IsClosed (sym (fold-roll-Statement Tokens Tokens Tokens statement_step block_step case_step _)) (closed_statement _ _ _ (λ v. v.0) (λ v. v.0) (λ v. v.0) (λ v. v.1) (λ v. v.1) (λ v. v.1) y)))
    (λ x y e. subst (λ z. IsClosed (block_tokens (roll-Block z))) e (subst IsClosed (sym (fold-roll-Block Tokens Tokens Tokens statement_step block_step case_step _)) (closed_body _ _ _ (λ v. v.0) (λ v. v.0) (λ v. v.0) (λ v. v.1) (λ v. v.1) (λ v. v.1) y)))
    (λ x y e. subst (λ z. IsClosed (case_tokens (roll-SwitchCase z))) e (subst IsClosed (sym (fold-roll-SwitchCase Tokens Tokens Tokens statement_step block_step case_step _)) (closed_case _ _ _ (λ v. v.0) (λ v. v.0) (λ v. v.0) (λ v. v.1) (λ v. v.1) (λ v. v.1) y)))
    b

-- each body takes the results of functions that it calls
pub results_of_calls : (b : Body) → AreResultsOfCalls (block_tokens b)
results_of_calls b i f h e = (closed_block b).calls f h (i, e)
