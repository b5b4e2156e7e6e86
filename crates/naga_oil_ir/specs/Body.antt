-- A body as one list of tokens.
use Rattle.std.specs.Prelude.{ℕ, List, [], ◌∷◌, ◌++◌, map, Option, Some, None}
use Rattle.std.specs.List.{flat_map}
use Rattle.naga_oil_ir.specs.declared.span.Span.{Span}
use Rattle.naga_oil_ir.specs.declared.tokens.Token.{Token}
use Rattle.naga_oil_ir.specs.declared.tokens.Token.TheVariants.{At, Head, Plain, Flag, Absent, Use, Give, GiveCall, Emitted, Callee, Open, Close}
use Rattle.naga_oil_ir.specs.declared.statement.RayQueryFunction.{RayQueryFunction}
use Rattle.naga_oil_ir.specs.declared.statement.RayQueryFunction.TheVariants.{Initialize, Proceed, Terminate, GenerateIntersection, ConfirmIntersection}
use Rattle.naga_oil_ir.specs.declared.statement.Statement.{Statement, Statement-F, fold-Statement}
use Rattle.naga_oil_ir.specs.declared.statement.Statement.TheOpen.{Emit, Block, If, Switch, Loop, Break, Continue, Kill, ControlBarrier, MemoryBarrier, Return, Store, ImageStore, Atomic, ImageAtomic, WorkGroupUniformLoad, Call, RayQuery, SubgroupBallot, SubgroupGather, SubgroupCollectiveOperation}
use Rattle.naga_oil_ir.specs.declared.statement.Block.{Block as Body, Block-F, fold-Block}
use Rattle.naga_oil_ir.specs.declared.statement.SwitchCase.{SwitchCase, SwitchCase-F, fold-SwitchCase}

-- a body as a flat list
abbrev pub Tokens : Type 0
Tokens = List Token

-- an operand that may be absent
abbrev pub used : Option ℕ → Token
used None = Absent
used (Some h) = Use h

-- a result that may be absent
abbrev pub given : Option ℕ → Token
given None = Absent
given (Some h) = Give h

-- the result of a call, which may be absent
abbrev pub given_by : ℕ → Option ℕ → Token
given_by f None = Absent
given_by f (Some h) = GiveCall f h

-- a block inside a statement
abbrev pub inside : Tokens → Tokens
inside b = (Open ∷ b) ++ Close ∷ []

-- an operation on a ray query
abbrev pub ray_query_tokens : RayQueryFunction → Tokens
ray_query_tokens (Initialize structure descriptor) = Plain 0 ∷ Use structure ∷ Use descriptor ∷ []
ray_query_tokens (Proceed result) = Plain 1 ∷ Give result ∷ []
ray_query_tokens Terminate = Plain 2 ∷ []
ray_query_tokens (GenerateIntersection t) = Plain 3 ∷ Use t ∷ []
ray_query_tokens ConfirmIntersection = Plain 4 ∷ []

-- the one list of the 21 kinds of statements; blocks and arms are given as their tokens
abbrev pub statement_step : Statement-F Tokens Tokens Tokens → Tokens
statement_step (Emit r) = Head 0 ∷ Emitted r ∷ []
statement_step (Block b) = (Head 1 ∷ []) ++ inside b
statement_step (If c accept reject) = (Head 2 ∷ Use c ∷ []) ++ inside accept ++ inside reject
statement_step (Switch selector cases) = (Head 3 ∷ Use selector ∷ []) ++ flat_map (λ c. c) cases.items
statement_step (Loop body continuing break_if) = (Head 4 ∷ []) ++ inside body ++ inside continuing ++ used break_if ∷ []
statement_step Break = Head 5 ∷ []
statement_step Continue = Head 6 ∷ []
statement_step Kill = Head 7 ∷ []
statement_step (ControlBarrier c) = Head 8 ∷ Plain c ∷ []
statement_step (MemoryBarrier c) = Head 9 ∷ Plain c ∷ []
statement_step (Return v) = Head 10 ∷ used v ∷ []
statement_step (Store p v) = Head 11 ∷ Use p ∷ Use v ∷ []
statement_step (ImageStore image coordinate array_index value) = Head 12 ∷ Use image ∷ Use coordinate ∷ used array_index ∷ Use value ∷ []
statement_step (Atomic pointer fun compare value result) = Head 13 ∷ Plain fun ∷ used compare ∷ Use pointer ∷ Use value ∷ given result ∷ []
statement_step (ImageAtomic image coordinate array_index fun compare value) = Head 14 ∷ Plain fun ∷ used compare ∷ Use image ∷ Use coordinate ∷ used array_index ∷ Use value ∷ []
statement_step (WorkGroupUniformLoad pointer result) = Head 15 ∷ Use pointer ∷ Give result ∷ []
statement_step (Call callee arguments result) = (Head 16 ∷ Callee callee ∷ []) ++ map Use arguments.items ++ given_by callee result ∷ []
statement_step (RayQuery query fun) = (Head 17 ∷ Use query ∷ []) ++ ray_query_tokens fun
statement_step (SubgroupBallot result predicate) = Head 18 ∷ Give result ∷ used predicate ∷ []
statement_step (SubgroupGather mode index argument result) = Head 19 ∷ Plain mode ∷ used index ∷ Use argument ∷ Give result ∷ []
statement_step (SubgroupCollectiveOperation op collective argument result) = Head 20 ∷ Plain op ∷ Plain collective ∷ Use argument ∷ Give result ∷ []

-- a block: its statements in order, the span of each before it
abbrev pub block_step : Block-F Tokens Tokens Tokens → Tokens
block_step b = flat_map (λ p. At p.1 ∷ p.0) b.body.items

-- an arm of a switch
abbrev pub case_step : SwitchCase-F Tokens Tokens Tokens → Tokens
case_step c = (Plain c.value ∷ Flag c.fall_through ∷ []) ++ inside c.body

-- the tokens of a body, a statement and an arm of a switch
abbrev pub block_tokens : Body → Tokens
block_tokens b = fold-Block Tokens Tokens Tokens statement_step block_step case_step b

abbrev pub statement_tokens : Statement → Tokens
statement_tokens s = fold-Statement Tokens Tokens Tokens statement_step block_step case_step s

abbrev pub case_tokens : SwitchCase → Tokens
case_tokens c = fold-SwitchCase Tokens Tokens Tokens statement_step block_step case_step c

-- a statement of a block, its span before it
abbrev pub spanned_tokens : Statement × Span → Tokens
spanned_tokens p = At p.1 ∷ statement_tokens p.0
