-- The words of the language, which no item has as its name.
use Rattle.std.specs.Prelude.{ℕ, ◌||◌, Bool, true, false, Option, Some, None, is_some}
use Rattle.yettuvam_wgsl_names.specs.Names.{predeclared_rows}
use Rattle.yettuvam_wgsl_names.specs.Table.{Name, meaning}
use Rattle.yettuvam_wgsl_names.specs.Words.{word_rows}
use Rattle.yettuvam_wgsl_names.specs.declared.names.Predeclared.{Predeclared}
use Rattle.yettuvam_wgsl_names.specs.declared.names.Predeclared.TheVariants as predeclared

-- keywords, reserved words and predeclared names
unfoldable pub is_in_language : Name → Bool
is_in_language n = is_some (meaning word_rows n) || is_some (meaning predeclared_rows n)

-- how many these are
abbrev pub language_count : ℕ
language_count = 437

abbrev pub is_function : Option Predeclared → Bool
is_function (Some (predeclared.Function code)) = true
is_function _ = false

-- the name of a built-in function, which a local may have where the function isn't called
unfoldable pub is_built_in_function : Name → Bool
is_built_in_function n = is_function (meaning predeclared_rows n)
