-- The built-in functions that a body calls.
use Rattle.std.specs.Prelude.{ℕ, max, ◌==◌, nat_eq, if◌then◌else◌, List, [], ◌∷◌, Option, Some, None, unwrap_or}
use Rattle.std.specs.Map.{lookup}
use Rattle.indexmap.specs.IndexMap.{insert_entry}
use Rattle.yettuvam_wgsl_lines.specs.Groups.{is_set}
use Rattle.yettuvam_wgsl_lines.specs.Line.{LineValue, Lines}
use Rattle.yettuvam_wgsl_names.specs.Names.{predeclared_rows}
use Rattle.yettuvam_wgsl_names.specs.Table.{Name, meaning}
use Rattle.yettuvam_wgsl_names.specs.declared.names.Predeclared.{Predeclared}
use Rattle.yettuvam_wgsl_names.specs.declared.names.Predeclared.TheVariants.{Function}
use Rattle.yettuvam_wgsl_natures.specs.declared.called.TheConstants.{NO_FUNCTION}
use Rattle.yettuvam_wgsl_uses.specs.Facts.{number_at}
use Rattle.yettuvam_wgsl_uses.specs.Texts.{emitted_by}
use Rattle.yettuvam_wgsl_uses.specs.Uses.{Uses}
use Rattle.yettuvam_wgsl_requests.specs.declared.calls.Calls.{Calls}

-- functions with the last groups in which they are called
abbrev pub Groups : Type 0
Groups = List (ℕ × ℕ)

abbrev pub calls_value : Calls → Groups
calls_value c = c.0.entries

abbrev pub last_of : Groups → ℕ → ℕ
last_of cs function = unwrap_or (lookup (nat_eq function) cs) 0

unfoldable pub call : Groups → ℕ → ℕ → Groups
call cs function g = insert_entry nat_eq cs function (max (last_of cs function) g)

abbrev pub emitted_in : Uses → ℕ → ℕ → ℕ
emitted_in u h g = if is_set u.is_let h then g else number_at u.last h

abbrev pub evaluated_by : Uses → Option ℕ → ℕ → ℕ
evaluated_by u None g = g
evaluated_by u (Some h) g = emitted_in u h g

-- the last group in which the text of a line is evaluated
abbrev pub evaluated_in : Uses → LineValue → ℕ
evaluated_in u l = evaluated_by u (emitted_by l) (number_at u.groups l.number)

unfoldable pub step : Uses → Groups → LineValue → Groups
step u cs l = if l.function == NO_FUNCTION then cs else call cs l.function (evaluated_in u l)

unfoldable pub run : Uses → Groups → Lines → Groups
run u cs [] = cs
run u cs (l ∷ ls) = run u (step u cs l) ls

-- the functions that lines call
abbrev pub calls_of : Uses → Lines → Groups
calls_of u ls = run u [] ls

-- what a name means where nothing hides its predeclared meaning
unfoldable pub predeclared : Name → Option Predeclared
predeclared name = meaning predeclared_rows name

abbrev pub last_by : Groups → Option Predeclared → ℕ
last_by cs (Some (Function code)) = last_of cs code
last_by cs _ = 0

-- the last group in which the built-in function with a name is called
abbrev pub last : Groups → Name → ℕ
last cs name = last_by cs (predeclared name)
