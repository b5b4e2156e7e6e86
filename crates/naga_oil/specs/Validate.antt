-- The verdict of a front end on a made module, and the place of its fault.
use Rattle.std.specs.Prelude.{ℕ, if◌then◌else◌, ◌/◌, ◌-◌, ◌==◌, List, length, slice_get, find, Option, Some, None, option_map, unwrap_or, Result, Ok, Err}
use Rattle.naga_oil_ir.specs.Backend.{FaultValue}
use Rattle.naga_oil_ir.specs.ModuleValue.{ModuleValue}
use Rattle.naga_oil_ir.specs.Spans.{bounds_of, span_stride}
use Rattle.naga_oil_ir.specs.declared.span.Span.{Span}
use Rattle.naga_oil_conditions.specs.Fault.{shader_validation}
use Rattle.naga_oil_link.specs.BuiltModule.{BuiltModule, Builds}
use Rattle.naga_oil_registry.specs.Registered.{Defs}
use Rattle.naga_oil_build.specs.Held.{Settings}
use Rattle.naga_oil.specs.Refused.{Place, in_module, Refused}

-- the index of the module that a span lies in; 0, which is the shader's, if the span has no place
abbrev pub index_of : Span → ℕ
index_of s = unwrap_or (option_map (λ r. r.start / span_stride) (bounds_of s)) 0

-- the index of the module that the last span lies in, or 0 if there is no span
abbrev pub last_index : List (Span × List ℕ) → ℕ
last_index spans = unwrap_or (option_map (λ s. index_of s.0) (slice_get spans (length spans - 1))) 0

-- the place of a build's text, or else the shader's
abbrev pub place_in : Defs → (shader : Place) → Option (List ℕ × BuiltModule) → Place
place_in defs shader (Some b) = in_module b.0 b.1.offset defs
place_in defs shader None = shader

-- the place of a fault of a made module: the module that its last span lies in, if this make built it, or else the shader
abbrev pub fault_place : Builds → Defs → (shader : Place) → FaultValue → Place
fault_place builds defs shader f = place_in defs shader (find (λ b. b.1.index == last_index f.spans) builds)

-- the fault of a made module that isn't valid, at that place
abbrev pub invalid_shader : Builds → Defs → (shader : Place) → FaultValue → Refused
invalid_shader builds defs shader f = record { fault = shader_validation f; place = fault_place builds defs shader f }

abbrev pub judge : Builds → Defs → (shader : Place) → ModuleValue → Result (Unit {0}) FaultValue → Result ModuleValue Refused
judge builds defs shader m (Ok done) = Ok m
judge builds defs shader m (Err f) = Err (invalid_shader builds defs shader f)

-- the made module, if it is valid or the settings don't validate
abbrev pub validate : Settings → Builds → Defs → (shader : Place) → ModuleValue → Result ModuleValue Refused
validate s builds defs shader m = if s.validate then judge builds defs shader m (s.front.valid m s.capabilities) else Ok m
