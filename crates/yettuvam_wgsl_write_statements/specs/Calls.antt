-- Calls, with what becomes of their results.
use Rattle.std.specs.Prelude.{ℕ, if◌then◌else◌, Bool, true, false, List, [], ◌∷◌, Option, Some, None}
use Rattle.yettuvam_wgsl_names.specs.Table.{Name}
use Rattle.yettuvam_wgsl_pieces.specs.Pieces.{Piece, Word, Sign}
use Rattle.yettuvam_wgsl_pieces.specs.declared.sign.Sign.TheVariants as sign
use Rattle.yettuvam_wgsl_written.specs.Outcomes.{Outcome, after}
use Rattle.yettuvam_wgsl_written.specs.Written.{Written}
use Rattle.yettuvam_wgsl_write_expressions.specs.Context.{Scope}
use Rattle.yettuvam_wgsl_write_expressions.specs.Expressions.{built_in}
use Rattle.yettuvam_wgsl_write_expressions.specs.Operands.{call}
use Rattle.yettuvam_wgsl_write_items.specs.Text.{name_of}
use Rattle.yettuvam_wgsl_write_statements.specs.declared.calls.Given.{Given as GivenByCode}
use Rattle.yettuvam_wgsl_write_statements.specs.declared.calls.Store.{Store}

-- what is known of a statement beyond its operands: whether its result is part of the next statement's text, the names of the
-- result and of the function or local that it names, and how a store is written
pub record Given : Type 0 where
  pub is_merged : Bool
  pub answer : Option Name
  pub item : Option Name
  pub store : Store

abbrev pub given_of : GivenByCode → Given
given_of g = record { is_merged = g.is_merged; answer = name_of g.result; item = name_of g.item; store = g.store }

-- `_ =`, if the result must be used
abbrev pub ignored : Bool → List Piece
ignored true = Sign sign.Underscore ∷ Sign sign.Equal ∷ []
ignored false = []

-- `let NAME =`, or that of a result without a name
abbrev pub result_name : Option Name → Bool → List Piece
result_name (Some name) must_use = Sign sign.LetWord ∷ Word name ∷ Sign sign.Equal ∷ []
result_name None must_use = ignored must_use

-- what stands before a call
abbrev pub result_head : Given → Bool → List Piece
result_head g must_use = if g.is_merged then [] else result_name g.answer must_use

-- a call of a function of the module
unfoldable pub function_call : Scope → List Written → Given → List ℕ → Outcome
function_call s known g hs = after (result_head g false) (call g.item known hs s.span)

-- a call of a built-in function that is a statement
unfoldable pub built_in_call : Scope → List Written → Given → Bool → ℕ → List ℕ → Outcome
built_in_call s known g must_use f hs = after (result_head g must_use) (built_in s known f hs)
