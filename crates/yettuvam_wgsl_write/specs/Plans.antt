-- What is decided of functions before they are written.
use Rattle.std.specs.Prelude.{List, map}
use Rattle.naga_oil_ir.specs.Body.{Tokens}
use Rattle.naga_oil_ir.specs.ModuleValue.{EntryValue, FunctionValue, ModuleValue, entry_value, function_value}
use Rattle.naga_oil_ir.specs.declared.module.EntryPoint.{EntryPoint}
use Rattle.naga_oil_ir.specs.declared.module.Function.{Function}
use Rattle.naga_oil_ir.specs.declared.span.Span.{Span}
use Rattle.yettuvam_wgsl_lines.specs.Reader.{lines_of}
use Rattle.yettuvam_wgsl_local_names.specs.LocalNames.{Names, local_names, names_value}
use Rattle.yettuvam_wgsl_local_names.specs.declared.names.LocalNames.{LocalNames}
use Rattle.yettuvam_wgsl_requests.specs.Calls.{calls_of}
use Rattle.yettuvam_wgsl_uses.specs.Uses.{Uses, uses_of, uses_value}
use Rattle.yettuvam_wgsl_uses.specs.declared.uses.Uses.{Uses as UsesOfCode}
use Rattle.yettuvam_wgsl_written_names.specs.Taken.{Taken, inside}
use Rattle.yettuvam_wgsl_write.specs.declared.plans.Plan.{Plan as PlanOfCode}

-- the body of a function, how its expressions are written, and its names
pub record Plan : Type 0 where
  pub tokens : Tokens
  pub uses : Uses
  pub names : Names

abbrev pub named : LocalNames → Names
named n = names_value n

abbrev pub used : UsesOfCode → Uses
used u = uses_value u

abbrev pub plan_value : PlanOfCode → Plan
plan_value p = record { tokens = p.tokens.items; uses = used p.uses; names = named p.names }

abbrev pub plans_value : List PlanOfCode → List Plan
plans_value ps = map plan_value ps

abbrev pub functions_value : List (Function × Span) → List (FunctionValue × Span)
functions_value fs = map (λ f. (function_value f.0, f.1)) fs

abbrev pub entries_value : List EntryPoint → List EntryValue
entries_value es = map entry_value es

-- the names inside of a function, where those of its module are taken
abbrev pub names_of : Taken → FunctionValue → Uses → Tokens → Names
names_of t f u ts = let ls = (lines_of f ts).lines in (local_names f u (calls_of u ls) ls (inside t)).names

abbrev pub uses_in : ModuleValue → FunctionValue → Tokens → Uses
uses_in m f ts = uses_of m f (lines_of f ts)

unfoldable pub plan : ModuleValue → Taken → FunctionValue → Plan
plan m t f = let u = uses_in m f f.body in record { tokens = f.body; uses = u; names = names_of t f u f.body }

abbrev pub function_plans : ModuleValue → Taken → List (FunctionValue × Span) → List Plan
function_plans m t fs = map (λ f. plan m t f.0) fs

abbrev pub entry_plans : ModuleValue → Taken → List EntryValue → List Plan
entry_plans m t es = map (λ e. plan m t e.function) es
