-- The value of a definition, by its text.
use Rattle.std.specs.Prelude.{true, List, ℕ, Option, Some, None}
use Rattle.std.specs.Option.{option_map}
use Rattle.naga_oil_conditions.specs.declared.shader_def.ShaderDefValue.{ShaderDefValue}
use Rattle.naga_oil_conditions.specs.declared.shader_def.ShaderDefValue.TheVariants as def
use Rattle.naga_oil_conditions.specs.Values.{read_u32, read_i32, read_bool}

-- the first value that is there
infixr 20 ◌or◌
abbrev pub ◌or◌ : Option ShaderDefValue → Option ShaderDefValue → Option ShaderDefValue
(Some value) or next = Some value
None or next = next

-- true without a text; else the text read as a u32, else as an i32, else as a bool
unfoldable pub defined_value : Option (List ℕ) → Option ShaderDefValue
defined_value None = Some (def.Bool true)
defined_value (Some text) = option_map def.UInt (read_u32 text) or option_map def.Int (read_i32 text) or option_map def.Bool (read_bool text)
