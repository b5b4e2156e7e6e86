-- How a module reads in one that was made of it and others.
use Rattle.std.specs.Prelude.{All, IsSome}
use Rattle.naga_oil_ir.specs.ModuleValue.{ModuleValue}
use Rattle.naga_oil_derive.specs.World.{world, special_at, special_entries}
use Rattle.naga_oil_copy_laws.specs.Scope.{Scope, scope_by}

-- a module as it reads in another: its special types as those that the other has for their keys
abbrev pub scope_in : ModuleValue → ModuleValue → Scope
scope_in m t = scope_by t (world m) m

-- a module has a special type for each key for which another has one
abbrev pub HasKeysOf : ModuleValue → ModuleValue → Type 0
HasKeysOf m t = All (λ e. IsSome (special_at t.special_types e.0)) (special_entries m.special_types)
