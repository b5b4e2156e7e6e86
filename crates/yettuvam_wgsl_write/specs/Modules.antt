-- The text of a module.
use Rattle.std.specs.Prelude.{ℕ, List, [], Some, None, Result, Ok}
use Rattle.naga_oil_ir.specs.ModuleValue.{ModuleValue}
use Rattle.naga_oil_ir.specs.declared.span.Span.{Span}
use Rattle.yettuvam_wgsl_pieces.specs.Layout.{spell}
use Rattle.yettuvam_wgsl_pieces.specs.Pieces.{Piece}
use Rattle.yettuvam_wgsl_write_globals.specs.Globals.{module_context, global_values as values_in}
use Rattle.yettuvam_wgsl_write_items.specs.Items.{put_items}
use Rattle.yettuvam_wgsl_write_items.specs.Text.{Inputs}
use Rattle.yettuvam_wgsl_written.specs.Outcomes.{Outcome, ◌>>=◌}
use Rattle.yettuvam_wgsl_written.specs.Written.{Written}
use Rattle.yettuvam_wgsl_written_names.specs.Items.{ItemNames, item_names}
use Rattle.yettuvam_wgsl_write.specs.Functions.{entry_points, functions}
use Rattle.yettuvam_wgsl_write.specs.Plans.{Plan, entry_plans, function_plans}

-- the global expressions of a module, where no type is written by the value of one
unfoldable pub global_values : ModuleValue → ItemNames → Result (List Written) Span
global_values m names = module_context m names None >>= (λ c. values_in c m.global_expressions)

-- the items of a module, its functions and its entry points, after other pieces
unfoldable pub put_all : Inputs → ModuleValue → (functions entry_points : List Plan) → List Piece → Outcome
put_all i m fs es s =
    put_items i s >>= (λ t. functions i.context fs m.functions t >>= (λ u. entry_points i es m.entry_points u))

abbrev pub with_values : ModuleValue → ItemNames → List Written → Result Inputs Span
with_values m names known = module_context m names (Some known) >>= (λ c. Ok (record { context = c; known = known }))

-- the pieces of a module whose items have these names, and its functions these plans
unfoldable pub planned : ModuleValue → ItemNames → (functions entry_points : List Plan) → List Piece → Outcome
planned m names fs es s =
    global_values m names >>= (λ known. with_values m names known >>= (λ i. put_all i m fs es s))

unfoldable pub named : ModuleValue → ItemNames → (functions entry_points : List Plan) → Result (List ℕ) Span
named m names fs es = planned m names fs es [] >>= (λ ps. Ok (spell ps))

-- the text of a module, or the span of what WGSL can't say
unfoldable pub module_text : ModuleValue → Result (List ℕ) Span
module_text m =
    item_names m
    >>= (λ n. named m n.0 (function_plans m n.1 m.functions) (entry_plans m n.1 m.entry_points))
