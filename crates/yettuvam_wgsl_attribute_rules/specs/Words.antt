-- The attributes of WGSL by their names.
use denote.Enum.Bare.{sameb}
use Rattle.std.specs.Prelude.{ℕ, Bool, ◌==◌, if◌then◌else◌, Option, Some, None, option_and_then}
use Rattle.yettuvam_wgsl_names.specs.Codes.{code_of}
use Rattle.yettuvam_wgsl_names.specs.Context.{attribute_rows}
use Rattle.yettuvam_wgsl_words.specs.Class.{Text}
use Rattle.yettuvam_wgsl_attribute_rules.specs.contracts.words.Attribute.{the_type}
use Rattle.yettuvam_wgsl_attribute_rules.specs.declared.words.Attribute.{Attribute}
use Rattle.yettuvam_wgsl_attribute_rules.specs.declared.words.Attribute.TheVariants as attribute

-- the attribute of a code in the table of attributes
abbrev pub attribute_with : ℕ → Option Attribute
attribute_with code =
    if code == 1 then Some attribute.Align
    else (if code == 2 then Some attribute.Binding
    else (if code == 3 then Some attribute.BlendSrc
    else (if code == 4 then Some attribute.BuiltIn
    else (if code == 5 then Some attribute.Compute
    else (if code == 6 then Some attribute.Const
    else (if code == 7 then Some attribute.Diagnostic
    else (if code == 8 then Some attribute.Fragment
    else (if code == 9 then Some attribute.Group
    else (if code == 10 then Some attribute.Id
    else (if code == 11 then Some attribute.Interpolate
    else (if code == 12 then Some attribute.Invariant
    else (if code == 13 then Some attribute.Location
    else (if code == 14 then Some attribute.MustUse
    else (if code == 15 then Some attribute.Size
    else (if code == 16 then Some attribute.Vertex
    else (if code == 17 then Some attribute.WorkgroupSize
    else None))))))))))))))))

-- the attribute of a name, if WGSL has one
abbrev pub attribute_of : Text → Option Attribute
attribute_of name = option_and_then attribute_with (code_of attribute_rows name)

-- two attributes have one name
abbrev pub is_same : Attribute → Attribute → Bool
is_same a b = sameb the_type a b
