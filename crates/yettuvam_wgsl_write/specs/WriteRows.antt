-- Written modules, worked by hand.
use Rattle.std.specs.Prelude.{◌≡◌, refl, List, [], ◌∷◌, Some, None, codes, Ok, Err}
use Rattle.naga_oil_ir.specs.ModuleValue.{EntryValue, FunctionValue}
use Rattle.naga_oil_ir.specs.Spans.{undefined}
use Rattle.naga_oil_ir.specs.declared.span.Span.{Span}
use Rattle.yettuvam_wgsl_pieces.specs.Pieces.{Piece, Word, Sign}
use Rattle.yettuvam_wgsl_pieces.specs.declared.sign.Sign.TheVariants as sign
use Rattle.yettuvam_wgsl_write_types.specs.Types.{texts}
use Rattle.yettuvam_wgsl_write_bodies.specs.Bodies.{body, declare_all, text, written}
use Rattle.yettuvam_wgsl_write_bodies.specs.Values.{each_first}
use Rattle.yettuvam_wgsl_write_bodies.specs.Writer.{run}
use Rattle.yettuvam_wgsl_write_expressions.specs.Context.{Context}
use Rattle.yettuvam_wgsl_write_globals.specs.Globals.{each_shape}
use Rattle.yettuvam_wgsl_write_items.specs.Signatures.{each_parameter, put_head, result_type}
use Rattle.yettuvam_wgsl_write_items.specs.Text.{Inputs}
use Rattle.yettuvam_wgsl_written_names.specs.Items.{ItemNames}
use Rattle.yettuvam_wgsl_write.specs.Functions.{after_first, each_entry_point, each_function, entry_point, first_name, function}
use Rattle.yettuvam_wgsl_write.specs.Plans.{Plan}

abbrev here : Span
here = record { start = 5; end = 9 }

-- the names of a module with the function `f`
abbrev names : ItemNames
names = record { types = []; constants = []; overrides = []; globals = []; functions = Some (codes "f") ∷ []; entry_points = [] }

abbrev context : Context
context = record { types = []; constants = []; overrides = []; globals = []; results = []; names = names; texts = texts [] [] }

-- a function without arguments, statements and expressions
abbrev bare : FunctionValue
bare = record { name = Some (codes "f"); arguments = []; result = None; local_variables = []; expressions = []; named_expressions = []; body = []; diagnostic_filter_leaf = None }

abbrev plan : Plan
plan = record {
  tokens = [];
  uses = record { texts = []; last = []; is_let = []; merged = []; groups = []; locals = [] };
  names = record { arguments = []; locals = []; values = [] };
}

-- `fn f() { }`
abbrev bare_text : List Piece
bare_text = Sign sign.FnWord ∷ Word (codes "f") ∷ Sign sign.LeftParen ∷ Sign sign.RightParen ∷ Sign sign.LeftBrace ∷ Sign sign.RightBrace ∷ []

-- names, in their order
name_rows :
    (first_name (Some (codes "f") ∷ None ∷ []) ≡ Some (codes "f"))
    × (first_name [] ≡ None)
    × (after_first (Some (codes "f") ∷ None ∷ []) ≡ None ∷ [])
    × (after_first [] ≡ [])
name_rows = (refl, refl, refl, refl)

-- a function with a name has a text, and one without a name hasn't
function_row : function context (Some (codes "f")) plan bare here [] ≡ Ok bare_text
unfolding function put_head each_parameter result_type body each_shape text written declare_all each_first run
function_row = refl

nameless_row : function context None plan bare here [] ≡ Err here
unfolding function
nameless_row = refl

-- each function has its name and its plan
functions_row : each_function context (Some (codes "f") ∷ []) (plan ∷ []) ((bare, here) ∷ []) [] ≡ Ok bare_text
unfolding each_function function put_head each_parameter result_type body each_shape text written declare_all each_first run
functions_row = refl

unplanned_rows : (i : Inputs) (e : EntryValue) →
    (each_function context (Some (codes "f") ∷ []) [] ((bare, here) ∷ []) [] ≡ Err here)
    × (each_entry_point i [] [] (e ∷ []) [] ≡ Err undefined)
    × (each_entry_point i [] (plan ∷ []) [] bare_text ≡ Ok bare_text)
    × (entry_point i None plan e [] ≡ Err undefined)
unfolding each_function each_entry_point entry_point
unplanned_rows i e = (refl, refl, refl, refl)
