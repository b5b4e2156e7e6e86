-- Lists of statements as tokens.
use Rattle.std.specs.Prelude.{ℕ, ◌-◌, Bool, List, [], ◌∷◌, ◌++◌, length, map, take, slice_index_or, Option, Vec}
use Rattle.std.specs.declared.alloc.Global.{Global}
use Rattle.std.specs.List.{flat_map}
use Rattle.naga_oil_ir.specs.Body.{Tokens, spanned_tokens, case_tokens, inside, used, given_by}
use Rattle.naga_oil_ir.specs.declared.span.Span.{Span}
use Rattle.naga_oil_ir.specs.declared.statement.Statement.{Statement}
use Rattle.naga_oil_ir.specs.declared.statement.SwitchCase.{SwitchCase}
use Rattle.naga_oil_ir.specs.declared.tokens.Token.TheVariants.{Head, Plain, Flag, Use, Callee}

abbrev pub list_tokens : Vec (Statement × Span) Global → Tokens
list_tokens v = flat_map spanned_tokens v.items

abbrev pub lists_tokens : List (Vec (Statement × Span) Global) → List Tokens
lists_tokens vs = map list_tokens vs

abbrev pub last_tokens : List Tokens → Tokens
last_tokens xs = slice_index_or xs (length xs - 1) []

abbrev pub front : {X : Type 0} → List X → List X
front xs = take (length xs - 1) xs

-- ---- statements that hold blocks or lists

abbrev pub block_statement : Tokens → Tokens
block_statement b = (Head 1 ∷ []) ++ inside b

abbrev pub if_statement : ℕ → Tokens → Tokens → Tokens
if_statement condition accept reject = (Head 2 ∷ Use condition ∷ []) ++ inside accept ++ inside reject

-- an arm of a switch
abbrev pub arm : ℕ → Tokens → Bool → Tokens
arm value body falls_through = (Plain value ∷ Flag falls_through ∷ []) ++ inside body

abbrev pub arms_tokens : Vec SwitchCase Global → Tokens
arms_tokens v = flat_map case_tokens v.items

abbrev pub switch_statement : ℕ → Tokens → Tokens
switch_statement selector arms = (Head 3 ∷ Use selector ∷ []) ++ arms

abbrev pub loop_statement : Tokens → Tokens → Option ℕ → Tokens
loop_statement body continuing break_if = (Head 4 ∷ []) ++ inside body ++ inside continuing ++ used break_if ∷ []

abbrev pub call_statement : ℕ → List ℕ → Option ℕ → Tokens
call_statement callee arguments result = (Head 16 ∷ Callee callee ∷ []) ++ map Use arguments ++ given_by callee result ∷ []
