-- All statements without blocks.
use Rattle.std.specs.Prelude.{ℕ, true, false, List, [], ◌∷◌, ◌++◌, Option, Some, None, Ok}
use Rattle.naga_oil_ir.specs.Body.{Tokens}
use Rattle.naga_oil_ir.specs.declared.tokens.Token.TheVariants.{Use}
use Rattle.yettuvam_wgsl_pieces.specs.Pieces.{Piece, Sign}
use Rattle.yettuvam_wgsl_pieces.specs.declared.sign.Sign.{Sign as SignOfText}
use Rattle.yettuvam_wgsl_pieces.specs.declared.sign.Sign.TheVariants as sign
use Rattle.yettuvam_wgsl_statements.specs.declared.simple.Simple.{Simple}
use Rattle.yettuvam_wgsl_statements.specs.declared.simple.Simple.TheVariants as statement
use Rattle.yettuvam_wgsl_written.specs.Outcomes.{Outcome, ◌>>=◌}
use Rattle.yettuvam_wgsl_written.specs.Written.{Written}
use Rattle.yettuvam_wgsl_write_expressions.specs.Context.{Scope}
use Rattle.yettuvam_wgsl_write_expressions.specs.Expressions.{built_in}
use Rattle.yettuvam_wgsl_write_expressions.specs.Operands.{optional}
use Rattle.yettuvam_wgsl_write_expressions.specs.Textures.{store}
use Rattle.yettuvam_wgsl_write_statements.specs.Assignments.{assignment, compound, value}
use Rattle.yettuvam_wgsl_write_statements.specs.Calls.{Given, built_in_call, function_call}
use Rattle.yettuvam_wgsl_write_statements.specs.Declarations.{local}
use Rattle.yettuvam_wgsl_write_statements.specs.declared.calls.Store.{Store}
use Rattle.yettuvam_wgsl_write_statements.specs.declared.calls.Store.TheVariants as stores

abbrev pub sign_text : SignOfText → List Piece
sign_text s = Sign s ∷ []

abbrev pub returned_value : Scope → List Written → Option ℕ → Outcome
returned_value s known (Some h) = value known h s.span
returned_value s known None = Ok []

-- `return VALUE`
unfoldable pub returned : Scope → List Written → Option ℕ → Outcome
returned s known h = returned_value s known h >>= (λ v. Ok (Sign sign.ReturnWord ∷ v))

abbrev pub stored_as : Scope → List Written → Store → Given → (pointer h : ℕ) → Outcome
stored_as s known (stores.Declaration ty is_zero) g pointer h = local s known g.item ty (Some h) is_zero
stored_as s known (stores.Compound op right) g pointer h = compound known pointer op right s.span
stored_as s known stores.Nowhere g pointer h = assignment known pointer h true s.span
stored_as s known stores.Assignment g pointer h = assignment known pointer h false s.span

-- a store, as it is to be written
unfoldable pub stored : Scope → List Written → Given → (pointer h : ℕ) → Outcome
stored s known g pointer h = stored_as s known g.store g pointer h

-- an atomic function of a pointer, of what is compared if there is such, and of a value
unfoldable pub atomic : Scope → List Written → Given → ℕ → Option ℕ → (pointer h : ℕ) → Outcome
atomic s known g f compare pointer h = built_in_call s known g false f (pointer ∷ (optional compare ++ h ∷ []))

-- `workgroupUniformLoad`, `subgroupBallot` and `subgroupElect`
abbrev pub uniform_load_code : ℕ
uniform_load_code = 2563

abbrev pub ballot_code : ℕ
ballot_code = 2564

abbrev pub elect_code : ℕ
elect_code = 2565

-- a ballot of a predicate; without one, which invocation is the first
unfoldable pub ballot : Scope → List Written → Given → Option ℕ → Outcome
ballot s known g (Some predicate) = built_in_call s known g true ballot_code (predicate ∷ [])
ballot s known g None = built_in_call s known g true elect_code []

-- the value of another invocation, by its place if that is given
unfoldable pub gather : Scope → List Written → Given → ℕ → Option ℕ → ℕ → Outcome
gather s known g f index argument = built_in_call s known g true f (argument ∷ optional index)

-- a statement without blocks, without its `;`
unfoldable pub simple : Scope → List Written → Simple → Given → List ℕ → Outcome
simple s known statement.Break g hs = Ok (sign_text sign.BreakWord)
simple s known statement.Continue g hs = Ok (sign_text sign.ContinueWord)
simple s known statement.Discard g hs = Ok (sign_text sign.DiscardWord)
simple s known (statement.Barrier f) g hs = built_in s known f []
simple s known (statement.Return h) g hs = returned s known h
simple s known (statement.Store pointer h) g hs = stored s known g pointer h
simple s known (statement.ImageStore image coordinate array_index h) g hs =
    store known (Some image ∷ Some coordinate ∷ array_index ∷ Some h ∷ []) s.span
simple s known (statement.Atomic f compare pointer h made) g hs = atomic s known g f compare pointer h
simple s known (statement.UniformLoad pointer made) g hs = built_in_call s known g true uniform_load_code (pointer ∷ [])
simple s known (statement.Call f count made) g hs = function_call s known g hs
simple s known (statement.Ballot made predicate) g hs = ballot s known g predicate
simple s known (statement.Gather f index argument made) g hs = gather s known g f index argument
simple s known (statement.Collective f argument made) g hs = built_in_call s known g true f (argument ∷ [])

-- the place of the result of a statement, if it has one
abbrev pub result_of : Simple → Option ℕ
result_of (statement.Atomic f compare pointer h made) = made
result_of (statement.Call f count made) = made
result_of (statement.UniformLoad pointer made) = Some made
result_of (statement.Ballot made predicate) = Some made
result_of (statement.Gather f index argument made) = Some made
result_of (statement.Collective f argument made) = Some made
result_of _ = None

-- the operands at the front of a list of tokens
unfoldable pub operands_of : Tokens → List ℕ
operands_of (Use h ∷ ts) = h ∷ operands_of ts
operands_of _ = []
