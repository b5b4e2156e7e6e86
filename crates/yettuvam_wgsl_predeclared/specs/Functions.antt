-- Built-in functions by their names.
use Rattle.std.specs.Prelude.{ℕ, nat_le, Bool, ◌&&◌, Option, Some, None, option_map}
use Rattle.yettuvam_wgsl_names.specs.Table.{Name, meaning}
use Rattle.yettuvam_wgsl_names.specs.Names.{predeclared_rows}
use Rattle.yettuvam_wgsl_names.specs.Functions.{signature_with, functions}
use Rattle.yettuvam_wgsl_names.specs.declared.names.Predeclared.{Predeclared}
use Rattle.yettuvam_wgsl_names.specs.declared.names.Predeclared.TheVariants as word
use Rattle.yettuvam_wgsl_predeclared.specs.declared.functions.Function.{Function}

-- the least and the greatest number of arguments of the function with a code
unfoldable pub counts_of : ℕ → Option (ℕ × ℕ)
counts_of code = option_map (λ s. (s.1, s.2)) (signature_with functions code)

abbrev pub function_with : ℕ → Option (ℕ × ℕ) → Option Function
function_with code (Some counts) = Some (record { code = code; least = counts.0; most = counts.1 })
function_with code None = None

abbrev pub function_of : ℕ → Option Function
function_of code = function_with code (counts_of code)

abbrev pub function_code : Option Predeclared → Option ℕ
function_code (Some (word.Function code)) = Some code
function_code _ = None

-- the code of the built-in function of a name
unfoldable pub code_of : Name → Option ℕ
code_of name = function_code (meaning predeclared_rows name)

abbrev pub function_if : Option ℕ → Option Function
function_if (Some code) = function_of code
function_if None = None

unfoldable pub built_in_function : Name → Option Function
built_in_function name = function_if (code_of name)

unfoldable pub takes : Function → ℕ → Bool
takes f count = nat_le f.least count && nat_le count f.most
