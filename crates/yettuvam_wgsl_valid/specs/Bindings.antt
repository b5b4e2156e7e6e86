-- The bindings of variables.
use Rattle.std.specs.Prelude.{◌≡◌, ℕ, ◌%◌, Bool, true, false, not, nat_eq, ◌==◌, ◌&&◌, ◌||◌, if◌then◌else◌, List, [], ◌∷◌, ◌++◌, length, map, replicate, slice_get, slice_set, Option, Some, None, is_some, unwrap_or, Result, Ok, Err}
use Rattle.std.specs.Map.{lookup}
use Rattle.indexmap.specs.IndexMap.{insert_entry}
use Rattle.naga_oil_ir.specs.Body.{Tokens}
use Rattle.naga_oil_ir.specs.ModuleValue.{FunctionValue}
use Rattle.naga_oil_ir.specs.Parts.{Parts}
use Rattle.naga_oil_ir.specs.Rows.{Row, global_row}
use Rattle.naga_oil_ir.specs.declared.parts.Named.{Named}
use Rattle.naga_oil_ir.specs.declared.parts.Named.TheVariants.{GlobalAt}
use Rattle.naga_oil_ir.specs.declared.span.Span.{Span}
use Rattle.naga_oil_ir.specs.declared.tokens.Token.{Token}
use Rattle.naga_oil_ir.specs.declared.tokens.Token.TheVariants.{Callee}
use Rattle.naga_oil_ir.specs.declared.types.GlobalVariable.{GlobalVariable}
use Rattle.yettuvam_wgsl_names.specs.declared.form_codes.TheConstants.{HANDLE_SPACE, SPACE_ACCESS_UNIT, STORAGE_SPACE, UNIFORM_SPACE}
use Rattle.yettuvam_wgsl_valid_items.specs.Faults.{Outcome, valid, fault, each_valid}
use Rattle.yettuvam_wgsl_valid.specs.declared.bindings.Reach.{Reach}
use Rattle.yettuvam_wgsl_valid.specs.declared.bindings.Uses.{Uses as UsesOfCode}
use Rattle.yettuvam_wgsl_valid_items.specs.declared.faults.Fault.{Fault}
use Rattle.yettuvam_wgsl_valid_items.specs.declared.faults.Invalid.{Invalid}
use Rattle.yettuvam_wgsl_valid_items.specs.declared.faults.Invalid.TheVariants as invalid
use Rattle.yettuvam_wgsl_valid_items.specs.declared.faults.Reason.TheVariants as reason

-- variables by their rows
abbrev pub global_rows : List (GlobalVariable × Span) → List (Row × Span)
global_rows gs = map (λ g. (global_row g.0, g.1)) gs

-- ---- address spaces

-- the variables of these address spaces are resources, which have bindings
abbrev pub is_bound_space : ℕ → Bool
is_bound_space space =
    (space % SPACE_ACCESS_UNIT == UNIFORM_SPACE) || (space % SPACE_ACCESS_UNIT == STORAGE_SPACE) || (space % SPACE_ACCESS_UNIT == HANDLE_SPACE)

-- the address space and the binding of a variable, from the plain values of its row
abbrev pub space_in : List (Option ℕ) → ℕ
space_in (Some s ∷ ns) = s
space_in ns = 0

abbrev pub binding_in : List (Option ℕ) → Option ℕ
binding_in (s ∷ b ∷ ns) = b
binding_in ns = None

abbrev pub binding_of : Row → Option ℕ
binding_of g = binding_in g.label.plain

-- a variable has a binding just if its address space is one of resources
abbrev pub fits_space : Option ℕ → ℕ → Bool
fits_space None space = not (is_bound_space space)
fits_space (Some b) space = is_bound_space space

abbrev pub space_valid : Row × Span → Outcome
space_valid g = if fits_space (binding_of g.0) (space_in g.0.label.plain) then valid else fault reason.SpaceBinding g.1

-- each variable has a binding that fits its address space
abbrev pub spaces_valid : List (Row × Span) → Outcome
spaces_valid gs = each_valid space_valid gs

-- ---- what functions name

-- the variables of the module that a function names, and the functions that it calls
pub record Uses : Type 0 where
  pub globals : List ℕ
  pub callees : List ℕ

abbrev pub uses_view : UsesOfCode → Uses
uses_view u = record { globals = u.globals.items; callees = u.callees.items }

abbrev pub global_named : Named → Option ℕ
global_named (GlobalAt g) = Some g
global_named n = None

abbrev pub global_of : Parts → Option ℕ
global_of p = global_named p.named

abbrev pub callee_of : Token → Option ℕ
callee_of (Callee f) = Some f
callee_of t = None

abbrev pub listed : Option ℕ → List ℕ
listed None = []
listed (Some n) = n ∷ []

abbrev pub globals_in : List (Parts × Span) → List ℕ
globals_in [] = []
globals_in (e ∷ es) = listed (global_of e.0) ++ globals_in es

abbrev pub callees_in : Tokens → List ℕ
callees_in [] = []
callees_in (t ∷ ts) = listed (callee_of t) ++ callees_in ts

abbrev pub uses_of : FunctionValue → Uses
uses_of f = record { globals = globals_in f.expressions; callees = callees_in f.body }

-- ---- what an entry point reaches

-- which variables and which functions are reached
pub record State : Type 0 where
  pub globals : List Bool
  pub functions : List Bool

abbrev pub state_of : Reach → State
state_of r = record { globals = r.globals.items; functions = r.functions.items }

abbrev pub mark_all : List ℕ → List Bool → List Bool
mark_all [] marks = marks
mark_all (n ∷ ns) marks = mark_all ns (slice_set marks n true)

-- a function is reached, and with it all that it names
abbrev pub enter : Uses → State → State
enter u s = record { globals = mark_all u.globals s.globals; functions = mark_all u.callees s.functions }

abbrev pub is_reached : ℕ → State → Bool
is_reached f s = unwrap_or (slice_get s.functions f) false

abbrev pub visit : ℕ → Uses → State → State
visit f u s = if is_reached f s then enter u s else s

-- functions, the last of the module first: a function calls only functions before it, so what it names is reached if it is
-- reached when it is visited
unfoldable pub visit_all : List Uses → State → State
visit_all [] s = s
visit_all (u ∷ us) s = visit_all us (visit (length us) u s)

abbrev pub no_marks : ℕ → List Bool
no_marks n = replicate n false

-- the variables that an entry point reaches, of a number of variables; the last function comes first
abbrev pub reached_globals : ℕ → List Uses → Uses → List Bool
reached_globals count functions entry =
    (visit_all functions (enter entry (record { globals = no_marks count; functions = no_marks (length functions) }))).globals

-- ---- variables with the same binding

-- bindings, each with the span of its variable
abbrev pub Met : Type 0
Met = List (ℕ × Span)

abbrev pub meet : ℕ → Span → Met → Result Met Fault
meet b at met =
    if is_some (lookup (nat_eq b) met) then Err (record { reason = reason.BoundTwice; span = at }) else Ok (insert_entry nat_eq met b at)

abbrev pub meet_global : Bool → Option ℕ → Span → Met → Result Met Fault
meet_global is_reached None at met = Ok met
meet_global is_reached (Some b) at met = if is_reached then meet b at met else Ok met

abbrev pub Meets : Result Met Fault → Result (Unit {0}) Invalid → Met → Type 0
Meets outcome (Ok u) new = outcome ≡ Ok new
Meets outcome (Err (invalid.Fault f)) new = outcome ≡ Err f
Meets outcome (Err invalid.Memory) new = Unit {0}

abbrev pub then_rest : Result Met Fault → (Met → Outcome) → Outcome
then_rest (Ok met) next = next met
then_rest (Err e) next = Err e

abbrev pub first_mark : List Bool → Bool
first_mark [] = false
first_mark (m ∷ ms) = m

abbrev pub rest_marks : List Bool → List Bool
rest_marks [] = []
rest_marks (m ∷ ms) = ms

-- no two variables that are marked have the same binding, nor a binding that was met
unfoldable pub distinct_from : List (Row × Span) → List Bool → Met → Outcome
distinct_from [] marks met = valid
distinct_from (g ∷ gs) marks met =
    then_rest (meet_global (first_mark marks) (binding_of g.0) g.1 met) (distinct_from gs (rest_marks marks))

abbrev pub distinct_valid : List (Row × Span) → List Bool → Outcome
distinct_valid gs marks = distinct_from gs marks []

-- no two variables that an entry point reaches have the same binding
abbrev pub bindings_valid : List (Row × Span) → List Uses → Uses → Outcome
bindings_valid gs functions entry = distinct_valid gs (reached_globals (length gs) functions entry)
