-- Declarations and heads, worked by hand.
use Rattle.std.specs.Prelude.{◌≡◌, refl, ℕ, ◌+◌, ◌*◌, true, false, List, [], ◌∷◌, ◌++◌, Some, None, codes, Ok, Err}
use Rattle.naga_oil_ir.specs.ModuleValue.{ArgumentValue}
use Rattle.naga_oil_ir.specs.Rows.{Member, Row, row, TypeKind, ConstantKind, OverrideKind, GlobalKind}
use Rattle.naga_oil_ir.specs.Spans.{undefined}
use Rattle.naga_oil_ir.specs.declared.names.ItemPlace.TheVariants.{TypeItem, ExpressionItem}
use Rattle.yettuvam_wgsl_pieces.specs.Pieces.{Piece, Word, Number, Sign}
use Rattle.yettuvam_wgsl_pieces.specs.declared.sign.Sign.TheVariants as sign
use Rattle.yettuvam_wgsl_written.specs.Attributes.{attribute, number_attribute}
use Rattle.yettuvam_wgsl_written.specs.Written.{name}
use Rattle.yettuvam_wgsl_written.specs.declared.written.Role.TheVariants as role
use Rattle.yettuvam_wgsl_write_types.specs.Texts.{template}
use Rattle.yettuvam_wgsl_write_types.specs.Types.{space_access, texts}
use Rattle.yettuvam_wgsl_write_expressions.specs.Context.{Context, declared}
use Rattle.yettuvam_wgsl_write_items.specs.Items.{alias, constant, declaration, each_member, each_override, global, initial_value, member, of_override, put_named, put_struct, resource, size_attribute, space, typed_member}
use Rattle.yettuvam_wgsl_write_items.specs.Signatures.{Head, dimension, each_parameter, further, named_parameter, parameter, put_head, result_type, sizes, stage}
use Rattle.yettuvam_wgsl_write_items.specs.Text.{Inputs}

-- ---- a module whose type 0 is `f32`, whose type 1 no declaration is written with, and whose first global expression is `a`

abbrev module_context : Context
module_context = record {
  types = [];
  constants = [];
  overrides = [];
  globals = [];
  results = [];
  names = record { types = []; constants = []; overrides = []; globals = []; functions = []; entry_points = [] };
  texts = texts ((Word (codes "f32") ∷ []) ∷ [] ∷ []) (true ∷ false ∷ []);
}

abbrev module_inputs : Inputs
module_inputs = record { context = module_context; known = name (codes "a") role.Value ∷ [] }

abbrev f32_pieces : List Piece
f32_pieces = Sign sign.Colon ∷ Word (codes "f32") ∷ []

-- ---- types with names

abbrev sized_member : Member
sized_member = record { name = Some (codes "x"); binding = None; offset = 16 }

abbrev unnamed_member : Member
unnamed_member = record { name = None; binding = None; offset = 0 }

-- `struct S { @size(16) x: f32, }`; a member has a name
struct_rows :
    (put_struct module_context (codes "S") (sized_member ∷ []) (Some (TypeItem 0) ∷ []) undefined []
    ≡ Ok (Sign sign.StructWord ∷ Word (codes "S") ∷ Sign sign.LeftBrace ∷ (number_attribute (codes "size") 16
    ++ (Word (codes "x") ∷ (f32_pieces ++ Sign sign.MemberComma ∷ Sign sign.RightBrace ∷ [])))))
    × (put_struct module_context (codes "S") (unnamed_member ∷ []) (Some (TypeItem 0) ∷ []) undefined [] ≡ Err undefined)
unfolding put_struct each_member member typed_member number_attribute
struct_rows = (refl, refl)

-- a pointer type with the mark of an alias, with another one, and a scalar
abbrev alias_row : Row
alias_row = row (TypeKind 9) (Some (codes "T")) (Some 64 ∷ []) [] (Some (TypeItem 0) ∷ [])

abbrev pointer_row : Row
pointer_row = row (TypeKind 9) (Some (codes "T")) (Some 1 ∷ []) [] (Some (TypeItem 0) ∷ [])

abbrev scalar_row : Row
scalar_row = row (TypeKind 0) (Some (codes "T")) (Some 4 ∷ []) [] []

-- `alias T = f32;`, after a comma
named_rows :
    (put_named module_context (codes "T") alias_row undefined (Sign sign.Comma ∷ [])
    ≡ Ok (Sign sign.Comma ∷ Sign sign.AliasWord ∷ Word (codes "T") ∷ Sign sign.Equal ∷ Word (codes "f32") ∷ Sign sign.Semicolon ∷ []))
    × (put_named module_context (codes "T") pointer_row undefined [] ≡ Err undefined)
    × (put_named module_context (codes "T") scalar_row undefined [] ≡ Err undefined)
unfolding put_named alias
named_rows = (refl, refl, refl)

-- ---- constants, overrides and global variables

abbrev declared_constant : Row
declared_constant = row ConstantKind None [] [] (Some (TypeItem 0) ∷ Some (ExpressionItem 0) ∷ [])

abbrev untold_constant : Row
untold_constant = row ConstantKind None [] [] (Some (TypeItem 1) ∷ Some (ExpressionItem 0) ∷ [])

-- `const N: f32 = a;`, and `const N = a;`
constant_rows :
    (constant module_inputs (Some (codes "N")) declared_constant undefined
    ≡ Ok (Sign sign.ConstWord ∷ Word (codes "N") ∷ (f32_pieces ++ Sign sign.Equal ∷ Word (codes "a") ∷ Sign sign.Semicolon ∷ [])))
    × (constant module_inputs (Some (codes "N")) untold_constant undefined
    ≡ Ok (Sign sign.ConstWord ∷ Word (codes "N") ∷ Sign sign.Equal ∷ Word (codes "a") ∷ Sign sign.Semicolon ∷ []))
    × (constant module_inputs None declared_constant undefined ≡ Err undefined)
unfolding constant declaration declared initial_value
constant_rows = (refl, refl, refl)

abbrev numbered_override : Row
numbered_override = row OverrideKind None (Some 7 ∷ []) [] (Some (TypeItem 0) ∷ None ∷ [])

-- `@id(7) override O: f32;`; one without a name isn't written
override_rows :
    (of_override module_inputs (Some (codes "O")) numbered_override undefined
    ≡ Ok (number_attribute (codes "id") 7 ++ Sign sign.OverrideWord ∷ Word (codes "O") ∷ (f32_pieces ++ Sign sign.Semicolon ∷ [])))
    × (of_override module_inputs None numbered_override undefined ≡ Ok [])
unfolding of_override declaration declared number_attribute
override_rows = (refl, refl)

-- each override has its own name
each_override_row :
    each_override module_inputs (None ∷ Some (codes "O") ∷ []) [] ((numbered_override, undefined) ∷ (numbered_override, undefined) ∷ [])
    ≡ Ok (number_attribute (codes "id") 7 ++ Sign sign.OverrideWord ∷ Word (codes "O") ∷ (f32_pieces ++ Sign sign.Semicolon ∷ []))
unfolding each_override of_override declaration declared number_attribute
each_override_row = refl

-- `@group(1) @binding(2)`, and no `@size` for 0
attribute_rows :
    (resource (Some 4294967298) ≡ number_attribute (codes "group") 1 ++ number_attribute (codes "binding") 2)
    × (resource None ≡ [])
    × (size_attribute 0 ≡ [])
    × (size_attribute 16 ≡ number_attribute (codes "size") 16)
attribute_rows = (refl, refl, refl, refl)

-- `<storage, read_write>`; a texture has no address space
space_rows :
    (space (4 + 16 * 3) undefined
    ≡ Ok (template (Word (codes "storage") ∷ Sign sign.Comma ∷ Word (codes "read_write") ∷ [])))
    × (space 5 undefined ≡ Ok [])
unfolding space space_access
space_rows = (refl, refl)

abbrev stored_global : Row
stored_global = row GlobalKind None (Some 4 ∷ Some 2 ∷ []) [] (Some (TypeItem 0) ∷ None ∷ [])

-- `@group(0) @binding(2) var<storage> V: f32;`
global_row :
    global module_inputs (Some (codes "V")) stored_global undefined
    ≡ Ok (number_attribute (codes "group") 0 ++ (number_attribute (codes "binding") 2
    ++ Sign sign.VarWord ∷ (template (Word (codes "storage") ∷ []) ++ Word (codes "V") ∷ (f32_pieces ++ Sign sign.Semicolon ∷ []))))
unfolding global space space_access declaration declared number_attribute
global_row = refl

-- ---- heads

-- `64`, `8, 8`, `4, 1, 2`, and `a`
size_rows :
    (sizes [] (64 ∷ 1 ∷ 1 ∷ []) (None ∷ None ∷ None ∷ []) ≡ Ok (Number 64 ∷ []))
    × (sizes [] (8 ∷ 8 ∷ 1 ∷ []) (None ∷ None ∷ None ∷ []) ≡ Ok (Number 8 ∷ Sign sign.Comma ∷ Number 8 ∷ []))
    × (sizes [] (4 ∷ 1 ∷ 2 ∷ []) (None ∷ None ∷ None ∷ [])
    ≡ Ok (Number 4 ∷ Sign sign.Comma ∷ Number 1 ∷ Sign sign.Comma ∷ Number 2 ∷ []))
    × (sizes module_inputs.known (0 ∷ 1 ∷ 1 ∷ []) (Some 0 ∷ None ∷ None ∷ []) ≡ Ok (Word (codes "a") ∷ []))
unfolding sizes dimension further
size_rows = (refl, refl, refl, refl)

-- no stage has the code 3
stage_rows :
    (stage [] record { code = 0; numbers = []; replaced = None } ≡ Ok (attribute (codes "vertex")))
    × (stage [] record { code = 3; numbers = []; replaced = None } ≡ Err undefined)
unfolding stage
stage_rows = (refl, refl)

abbrev plain_argument : ArgumentValue
plain_argument = record { name = None; ty = 0; binding = None }

abbrev function_head : List (List ℕ) → Head
function_head names = record {
  name = codes "f";
  names = names;
  arguments = plain_argument ∷ plain_argument ∷ [];
  result = Some record { ty = 0; binding = None };
}

-- `fn f(x: f32, y: f32) -> f32 {`; each parameter has a name
head_rows :
    (put_head module_context (function_head (codes "x" ∷ codes "y" ∷ [])) undefined []
    ≡ Ok (Sign sign.FnWord ∷ Word (codes "f") ∷ Sign sign.LeftParen ∷ Word (codes "x") ∷ (f32_pieces ++ (Sign sign.Comma
    ∷ Word (codes "y") ∷ (f32_pieces ++ Sign sign.RightParen ∷ Sign sign.Arrow ∷ Word (codes "f32") ∷ Sign sign.LeftBrace ∷ [])))))
    × (put_head module_context (function_head (codes "x" ∷ [])) undefined [] ≡ Err undefined)
unfolding put_head each_parameter parameter named_parameter result_type
head_rows = (refl, refl)
