-- Where local variables are declared.
use Rattle.std.specs.Prelude.{ℕ, ◌==◌, ◌&&◌, nat_lt, not, if◌then◌else◌, Bool, true, false, List, [], ◌∷◌, length, map, replicate, slice_get, slice_set, Option, Some, None, is_some, unwrap_or}
use Rattle.std.specs.Option.{option_and_then, option_map_or}
use Rattle.naga_oil_ir.specs.ModuleValue.{FunctionValue, LocalValue}
use Rattle.naga_oil_ir.specs.Parts.{Parts}
use Rattle.naga_oil_ir.specs.declared.parts.Named.{Named}
use Rattle.naga_oil_ir.specs.declared.parts.Named.TheVariants.{LocalAt}
use Rattle.naga_oil_ir.specs.declared.span.Span.{Span}
use Rattle.yettuvam_wgsl_lines.specs.Line.{LineValue, Lines}
use Rattle.yettuvam_wgsl_lines.specs.Reader.{BodyValue}
use Rattle.yettuvam_wgsl_lines.specs.declared.line.TheConstants.{STORE}
use Rattle.yettuvam_wgsl_counts.specs.declared.locals.Declared.{Declared}
use Rattle.yettuvam_wgsl_counts.specs.declared.locals.Declared.TheVariants.{Nowhere, At, AtTop}
use Rattle.yettuvam_wgsl_counts.specs.declared.locals.Found.{Found}
use Rattle.yettuvam_wgsl_counts.specs.declared.locals.Mention.{Mention}

-- the expressions of a function
abbrev pub Expressions : Type 0
Expressions = List (Parts × Span)

-- its local variables
abbrev pub Variables : Type 0
Variables = List (LocalValue × Span)

-- where the scope of each block ends
abbrev pub Ends : Type 0
Ends = List (Option ℕ)

-- ---- lines and local variables

abbrev pub local_named : Named → Option ℕ
local_named (LocalAt l) = Some l
local_named _ = None

abbrev pub local_of : Parts → Option ℕ
local_of p = local_named p.named

-- the local variable that an expression is
abbrev pub local_at : Expressions → ℕ → Option ℕ
local_at es h = option_and_then (λ e. local_of e.0) (slice_get es h)

-- the local variable to which a line stores a whole value
abbrev pub stored_local : Expressions → LineValue → Option ℕ
stored_local es l =
    if l.kind == STORE then option_and_then (λ p. local_at es p) (slice_get l.operands 0) else None

-- a local variable has a value before the first statement
abbrev pub has_value : Variables → ℕ → Bool
has_value vs k = option_map_or (λ v. is_some v.0.init) (slice_get vs k) false

abbrev pub may_declare_by : Option ℕ → Variables → ℕ → Bool
may_declare_by None vs k = false
may_declare_by (Some stored) vs k = stored == k && not (has_value vs k)

-- a store of a whole value may declare a local variable without a value
abbrev pub may_declare : Expressions → Variables → LineValue → ℕ → Bool
may_declare es vs l k = may_declare_by (stored_local es l) vs k

-- the token that ends the scope of a block
abbrev pub end_of : Ends → ℕ → Option ℕ
end_of ends block = unwrap_or (slice_get ends block) None

-- a line names a local variable
abbrev pub make_mention : Ends → LineValue → Bool → Mention
make_mention ends l declares = record { at = l.at; end = end_of ends l.block; declares = declares }

-- ---- where a local variable is declared

abbrev pub make_found : Declared → Option ℕ → Found
make_found d end = record { declared = d; end = end }

abbrev pub is_within : ℕ → Option ℕ → Bool
is_within at None = true
is_within at (Some end) = nat_lt at end

-- the first mention declares the variable, if it can
abbrev pub first_found : Mention → Found
first_found m = if m.declares then make_found (At m.at) m.end else make_found AtTop None

-- the declaration stays where it is while its scope lasts
abbrev pub still_found : Found → Mention → Found
still_found d m = if is_within m.at d.end then d else make_found AtTop None

abbrev pub next_by : Declared → Found → Mention → Found
next_by Nowhere d m = first_found m
next_by _ d m = still_found d m

abbrev pub next_found : Found → Mention → Found
next_found d m = next_by d.declared d m

abbrev pub nowhere : Found
nowhere = make_found Nowhere None

abbrev pub found_at : List Found → ℕ → Found
found_at ds k = unwrap_or (slice_get ds k) nowhere

-- ---- all lines

abbrev pub use_local : List Found → ℕ → Mention → List Found
use_local ds k m = slice_set ds k (next_found (found_at ds k) m)

abbrev pub use_by : Option ℕ → Expressions → Variables → Ends → LineValue → List Found → List Found
use_by None es vs ends l ds = ds
use_by (Some k) es vs ends l ds = use_local ds k (make_mention ends l (may_declare es vs l k))

abbrev pub use_operand : Expressions → Variables → Ends → LineValue → ℕ → List Found → List Found
use_operand es vs ends l h ds = use_by (local_at es h) es vs ends l ds

abbrev pub use_operands : Expressions → Variables → Ends → LineValue → List ℕ → List Found → List Found
use_operands es vs ends l [] ds = ds
use_operands es vs ends l (h ∷ hs) ds = use_operands es vs ends l hs (use_operand es vs ends l h ds)

abbrev pub use_lines : Expressions → Variables → Ends → Lines → List Found → List Found
use_lines es vs ends [] ds = ds
use_lines es vs ends (l ∷ ls) ds = use_lines es vs ends ls (use_operands es vs ends l l.operands ds)

abbrev pub declared_by : Expressions → Variables → BodyValue → List Declared
declared_by es vs b =
    map (λ d. d.declared) (use_lines es vs b.ends b.lines (replicate (length vs) nowhere))

-- where the local variables of a function are declared
unfoldable pub locals_of : FunctionValue → BodyValue → List Declared
locals_of f b = declared_by f.expressions f.local_variables b
