-- The special types of a module.
use Rattle.std.specs.Prelude.{◌≡◌, [], None}
use Rattle.naga_oil_ir.specs.declared.module.SpecialTypes.{SpecialTypes}

-- there are no special types
abbrev pub LacksSpecialTypes : SpecialTypes → Type 0
LacksSpecialTypes s = (s.ray_desc ≡ None) × (s.ray_intersection ≡ None) × (s.ray_vertex_return ≡ None) × (s.predeclared_types.entries ≡ [])
