-- How stores are written.
use Rattle.std.specs.Prelude.{ℕ, if◌then◌else◌, Bool, false, Option, Some, None}
use Rattle.naga_oil_ir.specs.Parts.{Parts}
use Rattle.yettuvam_wgsl_counts.specs.Locals.{local_at}
use Rattle.yettuvam_wgsl_requests.specs.Requests.{is_declared_at}
use Rattle.yettuvam_wgsl_uses.specs.Compounds.{compound}
use Rattle.yettuvam_wgsl_write_statements.specs.Assignments.{is_nowhere}
use Rattle.yettuvam_wgsl_write_statements.specs.Declarations.{is_zero_of}
use Rattle.yettuvam_wgsl_write_statements.specs.declared.calls.Store.{Store}
use Rattle.yettuvam_wgsl_write_statements.specs.declared.calls.Store.TheVariants as stores
use Rattle.yettuvam_wgsl_write_bodies.specs.Setting.{Setting, expression_at, local_type}

-- ---- declarations

abbrev pub declared_by : Option ℕ → Setting → ℕ → Option ℕ
declared_by None s at = None
declared_by (Some local) s at = if is_declared_at s.uses.locals local at then Some local else None

-- the local variable that the store at a place declares
abbrev pub declared_local : Setting → (at pointer : ℕ) → Option ℕ
declared_local s at pointer = declared_by (local_at s.function.expressions pointer) s at

abbrev pub zero_in : Option Parts → ℕ → Bool
zero_in (Some p) ty = is_zero_of p ty
zero_in None ty = false

abbrev pub is_zero_at : Setting → ℕ → ℕ → Bool
is_zero_at s h ty = zero_in (expression_at s.function h) ty

abbrev pub declaration : Setting → (local h : ℕ) → Store
declaration s local h =
    let ty = local_type s.function local in stores.Declaration ty (is_zero_at s h ty)

-- ---- assignments

abbrev pub nowhere_in : Option Parts → Setting → Bool
nowhere_in (Some p) s = is_nowhere s.context p
nowhere_in None s = false

abbrev pub is_nowhere_at : Setting → ℕ → Bool
is_nowhere_at s pointer = nowhere_in (expression_at s.function pointer) s

abbrev pub compound_store : Option (ℕ × ℕ) → Store
compound_store (Some c) = stores.Compound c.0 c.1
compound_store None = stores.Assignment

-- an assignment to `_`, by an operator, or another one
abbrev pub assigned : Setting → (pointer h : ℕ) → Store
assigned s pointer h =
    if is_nowhere_at s pointer then stores.Nowhere
    else compound_store (compound s.function.expressions s.uses.is_let pointer h)

abbrev pub store_by : Option ℕ → Setting → (pointer h : ℕ) → Store
store_by (Some local) s pointer h = declaration s local h
store_by None s pointer h = assigned s pointer h

-- how the store at a place is written
abbrev pub store_at : Setting → (at pointer h : ℕ) → Store
store_at s at pointer h = store_by (declared_local s at pointer) s pointer h
