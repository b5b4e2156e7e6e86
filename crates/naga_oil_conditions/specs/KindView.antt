-- The code's conditions and kinds of lines, seen as those of `Kind`.
use Rattle.std.specs.Prelude.{ℕ, Bool, option_copied}
use Rattle.std.specs.Char.{is_not_whitespace, is_ascii_digit}
use Rattle.naga_oil_conditions.specs.LineKinds.{is_name_char, is_value_char, is_operator_char}
use Rattle.naga_oil_conditions.specs.declared.line_kind.CharClass.{CharClass}
use Rattle.naga_oil_conditions.specs.declared.line_kind.CharClass.TheVariants as class
use Rattle.naga_oil_conditions.specs.declared.line_kind.Condition as code
use Rattle.naga_oil_conditions.specs.declared.line_kind.Condition.TheVariants as c
use Rattle.naga_oil_conditions.specs.declared.line_kind.LineKind as kinds
use Rattle.naga_oil_conditions.specs.declared.line_kind.LineKind.TheVariants as k
use Rattle.naga_oil_conditions.specs.Kind.{LineKind, version, condition, endif, imports, import_path, define, other, Condition, defined, undefined, compares, otherwise}

-- the characters of a class
abbrev pub class_of : CharClass → ℕ → Bool
class_of class.Digit = is_ascii_digit
class_of class.Visible = is_not_whitespace
class_of class.Name = is_name_char
class_of class.Value = is_value_char
class_of class.Operator = is_operator_char

abbrev pub condition_of : code.Condition → Condition
condition_of (c.Defined name) = defined name.now
condition_of (c.Undefined name) = undefined name.now
condition_of (c.Compares name operator value) = compares name.now operator.now value.now
condition_of c.Otherwise = otherwise

abbrev pub line_kind_of : kinds.LineKind → LineKind
line_kind_of (k.Version known) = version known
line_kind_of (k.Condition is_else c) = condition is_else (condition_of c)
line_kind_of k.EndIf = endif
line_kind_of k.Import = imports
line_kind_of (k.ImportPath name) = import_path name.now
line_kind_of (k.Define name value) = define name.now (option_copied value)
line_kind_of k.Other = other
