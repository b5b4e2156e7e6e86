-- The statements without blocks, read from the tokens of a body.
use Rattle.std.specs.Prelude.{ℕ, ◌+◌, Bool, true, false, ◌==◌, if◌then◌else◌, List, [], ◌∷◌, slice_get, Option, Some, None}
use Rattle.std.specs.List.{prefix_len}
use Rattle.naga_oil_ir.specs.Body.{Tokens}
use Rattle.naga_oil_ir.specs.declared.tokens.Token.{Token}
use Rattle.naga_oil_ir.specs.declared.tokens.Token.TheVariants.{Head, Plain, Use, Give, GiveCall, Callee}
use Rattle.yettuvam_wgsl_statements.specs.declared.simple.Simple.{Simple}
use Rattle.yettuvam_wgsl_statements.specs.declared.simple.Simple.TheVariants as simple
use Rattle.yettuvam_wgsl_statements.specs.declared.simple.TheConstants.{BREAK_HEAD, CONTINUE_HEAD, DISCARD_HEAD, BARRIER_HEAD, RETURN_HEAD, STORE_HEAD, IMAGE_STORE_HEAD, ATOMIC_HEAD, UNIFORM_LOAD_HEAD, CALL_HEAD, BALLOT_HEAD, GATHER_HEAD, COLLECTIVE_HEAD}

-- a statement and the number of its tokens, if it is one
abbrev pub Found : Type 0
Found = Option (Simple × ℕ)

-- the place of an operand or of a result, if it is there
abbrev pub place_of : Token → Option ℕ
place_of (Use h) = Some h
place_of (Give h) = Some h
place_of (GiveCall f h) = Some h
place_of t = None

abbrev pub is_use : Token → Bool
is_use (Use h) = true
is_use t = false

-- ---- each kind, by the tokens after its head

abbrev pub barrier : Tokens → Found
barrier (Plain f ∷ ts) = Some (simple.Barrier f, 2)
barrier ts = None

abbrev pub return_ : Tokens → Found
return_ [] = None
return_ (v ∷ ts) = Some (simple.Return (place_of v), 2)

abbrev pub store : Tokens → Found
store (Use p ∷ Use v ∷ ts) = Some (simple.Store p v, 3)
store ts = None

abbrev pub image_store : Tokens → Found
image_store (Use image ∷ Use coordinate ∷ i ∷ Use v ∷ ts) = Some (simple.ImageStore image coordinate (place_of i) v, 5)
image_store ts = None

abbrev pub atomic : Tokens → Found
atomic (Plain f ∷ c ∷ Use p ∷ Use v ∷ r ∷ ts) = Some (simple.Atomic f (place_of c) p v (place_of r), 6)
atomic ts = None

abbrev pub uniform_load : Tokens → Found
uniform_load (Use p ∷ Give r ∷ ts) = Some (simple.UniformLoad p r, 3)
uniform_load ts = None

-- a call whose arguments have been read, by the token after them
abbrev pub call_result : ℕ → ℕ → Option Token → Found
call_result f n None = None
call_result f n (Some r) = Some (simple.Call f n (place_of r), n + 3)

abbrev pub call : Tokens → Found
call (Callee f ∷ ts) = call_result f (prefix_len is_use ts) (slice_get ts (prefix_len is_use ts))
call ts = None

abbrev pub ballot : Tokens → Found
ballot (Give r ∷ p ∷ ts) = Some (simple.Ballot r (place_of p), 3)
ballot ts = None

abbrev pub gather : Tokens → Found
gather (Plain f ∷ i ∷ Use a ∷ Give r ∷ ts) = Some (simple.Gather f (place_of i) a r, 5)
gather ts = None

abbrev pub collective : Tokens → Found
collective (Plain f ∷ Plain c ∷ Use a ∷ Give r ∷ ts) = Some (simple.Collective f a r, 5)
collective ts = None

-- ---- all kinds

-- the statement of a kind with the tokens after its head
abbrev pub after_head : ℕ → Tokens → Found
after_head kind ts =
    if kind == BREAK_HEAD then Some (simple.Break, 1)
    else (if kind == CONTINUE_HEAD then Some (simple.Continue, 1)
    else (if kind == DISCARD_HEAD then Some (simple.Discard, 1)
    else (if kind == BARRIER_HEAD then barrier ts
    else (if kind == RETURN_HEAD then return_ ts
    else (if kind == STORE_HEAD then store ts
    else (if kind == IMAGE_STORE_HEAD then image_store ts
    else (if kind == ATOMIC_HEAD then atomic ts
    else (if kind == UNIFORM_LOAD_HEAD then uniform_load ts
    else (if kind == CALL_HEAD then call ts
    else (if kind == BALLOT_HEAD then ballot ts
    else (if kind == GATHER_HEAD then gather ts
    else (if kind == COLLECTIVE_HEAD then collective ts else None))))))))))))

-- the statement at the front of the tokens of a body
abbrev pub simple_at : Tokens → Found
simple_at (Head kind ∷ ts) = after_head kind ts
simple_at ts = None
