-- Statements, worked by hand.
use Rattle.std.specs.Prelude.{◌≡◌, refl, true, false, List, [], ◌∷◌, Some, None, codes, Ok, Err}
use Rattle.naga_oil_ir.specs.Parts.{expr}
use Rattle.naga_oil_ir.specs.Rows.{row, TypeKind}
use Rattle.naga_oil_ir.specs.Spans.{undefined}
use Rattle.naga_oil_ir.specs.declared.parts.Named.TheVariants.{TypeOf}
use Rattle.naga_oil_ir.specs.declared.tokens.Token.TheVariants.{GiveCall, Use}
use Rattle.yettuvam_wgsl_pieces.specs.Pieces.{Word, Sign}
use Rattle.yettuvam_wgsl_pieces.specs.declared.sign.Sign.TheVariants as sign
use Rattle.yettuvam_wgsl_statements.specs.declared.simple.Simple.TheVariants as statement
use Rattle.yettuvam_wgsl_written.specs.Written.{Written, name}
use Rattle.yettuvam_wgsl_written.specs.declared.written.Role.TheVariants as role
use Rattle.yettuvam_wgsl_write_types.specs.Types.{texts}
use Rattle.yettuvam_wgsl_write_expressions.specs.Context.{Scope, declared}
use Rattle.yettuvam_wgsl_write_expressions.specs.Expressions.{built_in}
use Rattle.yettuvam_wgsl_write_expressions.specs.Operands.{arguments, arguments_end, call}
use Rattle.yettuvam_wgsl_write_items.specs.Items.{initial_value}
use Rattle.yettuvam_wgsl_write_statements.specs.Assignments.{assignment, compound, is_untold}
use Rattle.yettuvam_wgsl_write_statements.specs.Calls.{Given, built_in_call, function_call, result_head}
use Rattle.yettuvam_wgsl_write_statements.specs.Declarations.{head, is_zero_of, local, marked_head}
use Rattle.yettuvam_wgsl_write_statements.specs.Statements.{ballot, operands_of, result_of, returned, simple, stored}
use Rattle.yettuvam_wgsl_write_statements.specs.declared.calls.Store.{Store}
use Rattle.yettuvam_wgsl_write_statements.specs.declared.calls.Store.TheVariants as stores

-- ---- a body whose type 0 is `f32`, whose type 1 isn't written, and whose expressions are `a`, the variable `v` and the pointer `p`

abbrev body_scope : Scope
body_scope = record {
  context = record {
    types = [];
    constants = [];
    overrides = [];
    globals = [];
    results = [];
    names = record { types = []; constants = []; overrides = []; globals = []; functions = []; entry_points = [] };
    texts = texts ((Word (codes "f32") ∷ []) ∷ [] ∷ []) (true ∷ false ∷ []);
  };
  arguments = [];
  locals = [];
  argument_types = [];
  shapes = [];
  span = undefined;
}

abbrev known_values : List Written
known_values = name (codes "a") role.Value ∷ name (codes "v") role.Place ∷ name (codes "p") role.Pointer ∷ []

-- a statement that names `f`, whose result has no name
abbrev unnamed : Store → Given
unnamed store = record { is_merged = false; answer = None; item = Some (codes "f"); store = store }

abbrev with_result : Given
with_result = record { is_merged = false; answer = Some (codes "r"); item = Some (codes "f"); store = stores.Assignment }

-- ---- stores

-- `v = a`, `*p = a`, `_ = a`, and `v += a`
store_rows :
    (simple body_scope known_values (statement.Store 1 0) (unnamed stores.Assignment) []
    ≡ Ok (Word (codes "v") ∷ Sign sign.Equal ∷ Word (codes "a") ∷ []))
    × (simple body_scope known_values (statement.Store 2 0) (unnamed stores.Assignment) []
    ≡ Ok (Sign sign.Indirection ∷ Word (codes "p") ∷ Sign sign.Equal ∷ Word (codes "a") ∷ []))
    × (simple body_scope known_values (statement.Store 2 0) (unnamed stores.Nowhere) []
    ≡ Ok (Sign sign.Underscore ∷ Sign sign.Equal ∷ Word (codes "a") ∷ []))
    × (simple body_scope known_values (statement.Store 1 2) (unnamed (stores.Compound 1 0)) []
    ≡ Ok (Word (codes "v") ∷ Sign sign.PlusEqual ∷ Word (codes "a") ∷ []))
unfolding simple stored assignment compound initial_value
store_rows = (refl, refl, refl, refl)

-- no assignment has the operator `==`
no_operator_row : simple body_scope known_values (statement.Store 1 2) (unnamed (stores.Compound 11 0)) [] ≡ Err undefined
unfolding simple stored compound
no_operator_row = refl

-- `var f: f32 = a`, `var f: f32`, `var f = a`; a declaration has a type or a value
local_rows :
    (simple body_scope known_values (statement.Store 1 0) (unnamed (stores.Declaration 0 false)) []
    ≡ Ok (Sign sign.VarWord ∷ Word (codes "f") ∷ Sign sign.Colon ∷ Word (codes "f32") ∷ Sign sign.Equal ∷ Word (codes "a") ∷ []))
    × (simple body_scope known_values (statement.Store 1 0) (unnamed (stores.Declaration 0 true)) []
    ≡ Ok (Sign sign.VarWord ∷ Word (codes "f") ∷ Sign sign.Colon ∷ Word (codes "f32") ∷ []))
    × (simple body_scope known_values (statement.Store 1 0) (unnamed (stores.Declaration 1 true)) []
    ≡ Ok (Sign sign.VarWord ∷ Word (codes "f") ∷ Sign sign.Equal ∷ Word (codes "a") ∷ []))
    × (local body_scope known_values (Some (codes "f")) 1 None false ≡ Err undefined)
unfolding simple stored local declared initial_value
local_rows = (refl, refl, refl, refl)

-- ---- calls

-- `f(a)`, and `let r = f(a)`
call_rows :
    (simple body_scope known_values (statement.Call 0 1 None) (unnamed stores.Assignment) (0 ∷ [])
    ≡ Ok (Word (codes "f") ∷ Sign sign.LeftParen ∷ Word (codes "a") ∷ Sign sign.RightParen ∷ []))
    × (simple body_scope known_values (statement.Call 0 1 (Some 5)) with_result (0 ∷ [])
    ≡ Ok (Sign sign.LetWord ∷ Word (codes "r") ∷ Sign sign.Equal ∷ Word (codes "f") ∷ Sign sign.LeftParen ∷ Word (codes "a") ∷ Sign sign.RightParen ∷ []))
unfolding simple function_call call arguments arguments_end
call_rows = (refl, refl)

-- the result of a ballot must be used
ballot_rows :
    (simple body_scope known_values (statement.Ballot 5 None) (unnamed stores.Assignment) []
    ≡ Ok (Sign sign.Underscore ∷ Sign sign.Equal ∷ Word (codes "subgroupElect") ∷ Sign sign.LeftParen ∷ Sign sign.RightParen ∷ []))
    × (simple body_scope known_values (statement.Ballot 5 (Some 0)) with_result []
    ≡ Ok (Sign sign.LetWord ∷ Word (codes "r") ∷ Sign sign.Equal ∷ Word (codes "subgroupBallot") ∷ Sign sign.LeftParen ∷ Word (codes "a") ∷ Sign sign.RightParen ∷ []))
unfolding simple ballot built_in_call built_in call arguments arguments_end
ballot_rows = (refl, refl)

-- a result that is part of the next text has no name
merged_row : result_head (record { is_merged = true; answer = Some (codes "r"); item = None; store = stores.Assignment }) true ≡ []
merged_row = refl

-- ---- others

-- `return a`, and `return`
return_rows :
    (simple body_scope known_values (statement.Return (Some 0)) with_result [] ≡ Ok (Sign sign.ReturnWord ∷ Word (codes "a") ∷ []))
    × (simple body_scope known_values (statement.Return None) with_result [] ≡ Ok (Sign sign.ReturnWord ∷ []))
    × (simple body_scope known_values (statement.Return (Some 9)) with_result [] ≡ Err undefined)
unfolding simple returned
return_rows = (refl, refl, refl)

-- a `let` and a `const` with the type 4
head_rows : (marked_head 4 65 ≡ head false (Some 4)) × (marked_head 4 66 ≡ head true (Some 4)) × (marked_head 4 0 ≡ head false None)
head_rows = (refl, refl, refl)

-- the zero of type 3, which is the zero of no other one
zero_rows :
    (is_zero_of (expr 1 [] (TypeOf 3) []) 3 ≡ true)
    × (is_zero_of (expr 1 [] (TypeOf 3) []) 4 ≡ false)
    × (is_zero_of (expr 13 [] (TypeOf 3) []) 3 ≡ false)
zero_rows = (refl, refl, refl)

-- the pseudo-type, and `f32`
untold_rows : (is_untold (row (TypeKind 0) None (Some 0 ∷ []) [] []) ≡ true) × (is_untold (row (TypeKind 0) None (Some 4 ∷ []) [] []) ≡ false)
untold_rows = (refl, refl)

-- the operands of `f2(e4, e7)`, and its result
operand_rows :
    (operands_of (Use 4 ∷ Use 7 ∷ GiveCall 2 9 ∷ Use 1 ∷ []) ≡ 4 ∷ 7 ∷ [])
    × (result_of (statement.Call 2 2 (Some 9)) ≡ Some 9)
    × (result_of (statement.Store 4 7) ≡ None)
unfolding operands_of
operand_rows = (refl, refl, refl)
