-- Attributes by their names.
use Rattle.std.specs.Prelude.{ℕ, ◌==◌, if◌then◌else◌, Option, option_map}
use Rattle.yettuvam_wgsl_names.specs.Codes.{code_of}
use Rattle.yettuvam_wgsl_names.specs.Context.{attribute_rows}
use Rattle.yettuvam_wgsl_names.specs.Table.{Name}
use Rattle.yettuvam_wgsl_names.specs.declared.form_codes.TheConstants.{COMPUTE, FRAGMENT, VERTEX}
use Rattle.yettuvam_wgsl_attributes.specs.declared.words.Attribute.{Attribute}
use Rattle.yettuvam_wgsl_attributes.specs.declared.words.Attribute.TheVariants.{Align, Binding, BlendSrc, BuiltIn, Group, Id, Interpolate, Invariant, Location, Size, Stage, WorkgroupSize, Ignored}

-- the attribute of a code in the table of attributes
abbrev pub attribute_with : ℕ → Attribute
attribute_with code =
    if code == 1 then Align
    else (if code == 2 then Binding
    else (if code == 3 then BlendSrc
    else (if code == 4 then BuiltIn
    else (if code == 5 then Stage COMPUTE
    else (if code == 8 then Stage FRAGMENT
    else (if code == 9 then Group
    else (if code == 10 then Id
    else (if code == 11 then Interpolate
    else (if code == 12 then Invariant
    else (if code == 13 then Location
    else (if code == 15 then Size
    else (if code == 16 then Stage VERTEX
    else (if code == 17 then WorkgroupSize
    else Ignored)))))))))))))

-- the attribute of a name
abbrev pub attribute_of : Name → Option Attribute
attribute_of name = option_map attribute_with (code_of attribute_rows name)
