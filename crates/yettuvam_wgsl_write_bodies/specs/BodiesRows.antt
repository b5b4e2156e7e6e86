-- Bodies, worked by hand.
use Rattle.std.specs.Prelude.{◌≡◌, refl, Bool, true, false, List, [], ◌∷◌, Some, None, codes, Ok, Err}
use Rattle.naga_oil_ir.specs.Body.{Tokens}
use Rattle.naga_oil_ir.specs.Spans.{undefined}
use Rattle.naga_oil_ir.specs.ModuleValue.{FunctionValue}
use Rattle.naga_oil_ir.specs.Parts.{Parts, parts}
use Rattle.naga_oil_ir.specs.declared.expression.Expression.TheVariants as expression
use Rattle.naga_oil_ir.specs.declared.span.Span.{Span}
use Rattle.naga_oil_ir.specs.declared.tokens.Token.TheVariants.{At, Callee, Close, Emitted, GiveCall, Head, Open, Use}
use Rattle.yettuvam_wgsl_counts.specs.declared.locals.Declared.{Declared}
use Rattle.yettuvam_wgsl_counts.specs.declared.locals.Declared.TheVariants as declared
use Rattle.yettuvam_wgsl_pieces.specs.Pieces.{Word, Literal, Sign}
use Rattle.yettuvam_wgsl_pieces.specs.declared.sign.Sign.TheVariants as sign
use Rattle.yettuvam_wgsl_statements.specs.declared.simple.Simple.TheVariants as statement
use Rattle.yettuvam_wgsl_written.specs.declared.written.Role.TheVariants as role
use Rattle.yettuvam_wgsl_write_types.specs.Types.{texts}
use Rattle.yettuvam_wgsl_write_expressions.specs.Context.{Context, declared as declared_type}
use Rattle.yettuvam_wgsl_write_expressions.specs.Expressions.{expression as expression_written}
use Rattle.yettuvam_wgsl_write_expressions.specs.Operands.{arguments, arguments_end, call}
use Rattle.yettuvam_wgsl_write_items.specs.Items.{initial_value}
use Rattle.yettuvam_wgsl_write_statements.specs.Assignments.{compound}
use Rattle.yettuvam_wgsl_write_statements.specs.Calls.{Given, function_call}
use Rattle.yettuvam_wgsl_write_statements.specs.Declarations.{head_text, local, value_declaration, value_head}
use Rattle.yettuvam_wgsl_write_statements.specs.Statements.{operands_of, returned, simple, stored}
use Rattle.yettuvam_wgsl_write_statements.specs.declared.calls.Store.TheVariants as stores
use Rattle.yettuvam_wgsl_write_blocks.specs.Blocks as blocks
use Rattle.yettuvam_wgsl_write_blocks.specs.Branches.{if_part, if_text}
use Rattle.yettuvam_wgsl_write_blocks.specs.declared.parts.PartKind.TheVariants as kind
use Rattle.yettuvam_wgsl_write_bodies.specs.Bodies.{declare_all, declare_local, text, written}
use Rattle.yettuvam_wgsl_write_bodies.specs.Given.{kind_of}
use Rattle.yettuvam_wgsl_write_bodies.specs.Setting.{Setting}
use Rattle.yettuvam_wgsl_write_bodies.specs.Stores.{store_at}
use Rattle.yettuvam_wgsl_write_bodies.specs.Values.{each_first, is_external, named_role}
use Rattle.yettuvam_wgsl_write_bodies.specs.Writer.{add_simple, closed, declare, emit, emit_all, emit_range, opened}
use Rattle.yettuvam_wgsl_write_bodies.specs.Writer.{run, simple_statement, statement as statement_step, stated, step, with_blocks, without_blocks}
use Rattle.yettuvam_wgsl_uses.specs.Compounds.{binary_of, loaded_by}
use Rattle.yettuvam_wgsl_write_expressions.specs.Expressions.{load, binary}

-- ---- a function with the local variable `v`, of a module with the function `f`

abbrev context : Context
context = record {
  types = [];
  constants = [];
  overrides = [];
  globals = [];
  results = [];
  names = record {
    types = [];
    constants = [];
    overrides = [];
    globals = [];
    functions = Some (codes "f") ∷ [];
    entry_points = [];
  };
  texts = texts [] [];
}

-- `v`, `7`, the value of `v`, the sum of both, `true`, the value of `v` again, and the result of `f`
abbrev expressions : List (Parts × Span)
expressions =
    (parts (expression.LocalVariable 0), undefined) ∷ (parts (expression.Literal 1 7), undefined) ∷ (parts (expression.Load 0), undefined)
    ∷ (parts (expression.Binary 1 2 1), undefined) ∷ (parts (expression.Literal 0 1), undefined) ∷ (parts (expression.Load 0), undefined)
    ∷ (parts (expression.CallResult 0), undefined) ∷ []

-- the setting of the function, with its local variable declared so, and the result merged or not
abbrev setting : FunctionValue → Declared → Bool → Setting
setting f d merged = record {
  context = context;
  function = record f {
    local_variables = (record { name = None; ty = 0; init = None }, undefined) ∷ [];
    expressions = expressions;
  };
  names = record {
    arguments = [];
    locals = Some (codes "v") ∷ [];
    values = None ∷ None ∷ None ∷ None ∷ None ∷ Some (codes "x") ∷ [];
  };
  uses = record {
    texts = [];
    last = [];
    is_let = false ∷ false ∷ false ∷ false ∷ false ∷ true ∷ [];
    merged = false ∷ false ∷ false ∷ false ∷ false ∷ false ∷ merged ∷ [];
    groups = [];
    locals = d ∷ [];
  };
  shapes = [];
}

-- ---- stores

-- the declaration, an assignment, and one by an operator
store_rows : (f : FunctionValue) →
    (store_at (setting f (declared.At 1) false) 1 0 1 ≡ stores.Declaration 0 false)
    × (store_at (setting f (declared.At 1) false) 8 0 1 ≡ stores.Assignment)
    × (store_at (setting f (declared.At 1) false) 8 0 3 ≡ stores.Compound 1 1)
unfolding binary_of loaded_by
store_rows f = (refl, refl, refl)

-- what statements are to those around them
kind_rows : (g : Given) →
    (kind_of statement.Break g ≡ kind.Break)
    × (kind_of (statement.Return None) g ≡ kind.Other)
    × (kind_of (statement.Barrier 1792) g ≡ kind.Update)
    × (kind_of (statement.Call 0 0 None) (record g { answer = None }) ≡ kind.Update)
    × (kind_of (statement.Call 0 0 (Some 6)) (record g { answer = Some (codes "x") }) ≡ kind.Declaration)
kind_rows g = (refl, refl, refl, refl, refl)

-- the name of a place is that of a pointer; a literal is never emitted, and a load is
value_rows :
    (named_role role.Place ≡ role.Pointer)
    × (named_role role.Value ≡ role.Value)
    × (is_external (parts (expression.Literal 0 1)) ≡ true)
    × (is_external (parts (expression.Load 0)) ≡ false)
value_rows = (refl, refl, refl, refl)

-- ---- texts

-- `var v = 7; v += 7; if true { break; }`
abbrev first_tokens : Tokens
first_tokens =
    At undefined ∷ Head 11 ∷ Use 0 ∷ Use 1 ∷ At undefined ∷ Head 0 ∷ Emitted (2, 4) ∷ At undefined ∷ Head 11 ∷ Use 0 ∷ Use 3
    ∷ At undefined ∷ Head 2 ∷ Use 4 ∷ Open ∷ At undefined ∷ Head 5 ∷ Close ∷ Open ∷ Close ∷ []

first_row : (f : FunctionValue) → text (setting f (declared.At 1) false) first_tokens
    ≡ Ok (Sign sign.VarWord ∷ Word (codes "v") ∷ Sign sign.Equal ∷ Literal 1 7 ∷ Sign sign.Semicolon
    ∷ Word (codes "v") ∷ Sign sign.PlusEqual ∷ Literal 1 7 ∷ Sign sign.Semicolon
    ∷ Sign sign.IfWord ∷ Literal 0 1 ∷ Sign sign.LeftBrace ∷ Sign sign.BreakWord ∷ Sign sign.Semicolon ∷ Sign sign.RightBrace
    ∷ Sign sign.RightBrace ∷ [])
unfolding text written declare_all each_first expression_written run step statement_step with_blocks without_blocks
    simple_statement stated add_simple emit_range emit_all emit opened closed simple stored local declared_type
    initial_value compound operands_of blocks.begin_statement blocks.begin_if blocks.begin blocks.add blocks.open_
    blocks.close blocks.closed blocks.ended blocks.without_frame if_part if_text load binary binary_of loaded_by
first_row f = refl

-- `let x = v; return f(x);`, of which the call is part of the next statement
abbrev second_tokens : Tokens
second_tokens =
    At undefined ∷ Head 0 ∷ Emitted (5, 6) ∷ At undefined ∷ Head 16 ∷ Callee 0 ∷ Use 5 ∷ GiveCall 0 6
    ∷ At undefined ∷ Head 10 ∷ Use 6 ∷ []

second_row : (f : FunctionValue) → text (setting f declared.Nowhere true) second_tokens
    ≡ Ok (Sign sign.LetWord ∷ Word (codes "x") ∷ Sign sign.Equal ∷ Word (codes "v") ∷ Sign sign.Semicolon
    ∷ Sign sign.ReturnWord ∷ Word (codes "f") ∷ Sign sign.LeftParen ∷ Word (codes "x") ∷ Sign sign.RightParen ∷ Sign sign.Semicolon
    ∷ Sign sign.RightBrace ∷ [])
unfolding text written declare_all each_first expression_written run step statement_step without_blocks simple_statement
    stated add_simple emit_range emit_all emit declare value_declaration head_text value_head simple function_call
    call arguments arguments_end returned operands_of blocks.add load
second_row f = refl

-- a result that is neither named nor part of a statement has no text
unknown_row : (f : FunctionValue) → text (setting f declared.Nowhere false) second_tokens ≡ Err undefined
unfolding text written declare_all each_first expression_written run step statement_step without_blocks simple_statement
    stated add_simple emit_range emit_all emit declare value_declaration head_text value_head simple function_call
    call arguments arguments_end returned operands_of blocks.add load
unknown_row f = refl

-- a local variable without a type and a value can't be declared before the first statement; there is no memory barrier
refused_rows : (f : FunctionValue) →
    (text (setting f declared.AtTop false) [] ≡ Err undefined)
    × (text (setting f declared.Nowhere false) (At undefined ∷ Head 9 ∷ []) ≡ Err undefined)
    × (text (setting f declared.Nowhere false) [] ≡ Ok (Sign sign.RightBrace ∷ []))
unfolding text written declare_all declare_local each_first expression_written local declared_type run step
    statement_step without_blocks
refused_rows f = (refl, refl, refl)
