-- Worked rows: the modules of small texts, written by hand from what WGSL says of them.
use lib.Utf8.{encode}
use Rattle.std.specs.Prelude.{◌≡◌, ℕ, ◌+◌, ◌*◌, List, [], ◌∷◌, length, Some, None, Result, Ok, Err, codes, refl}
use Rattle.std.specs.Str.{chars, is_utf8}
use Rattle.std.specs.Str.Lossy.{utf8_lossy, utf8_valid_len}
use Rattle.naga_oil_ir.specs.ModuleValue.{ModuleValue, FunctionValue, no_items}
use Rattle.naga_oil_ir.specs.Parts.{expr}
use Rattle.naga_oil_ir.specs.Rows.{Row, row, ConstantKind, GlobalKind}
use Rattle.naga_oil_ir.specs.Spans.{undefined}
use Rattle.naga_oil_ir.specs.declared.names.ItemPlace.TheVariants.{TypeItem, ExpressionItem}
use Rattle.naga_oil_ir.specs.declared.parts.Named.TheVariants.{Nothing, ArgumentAt}
use Rattle.naga_oil_ir.specs.declared.span.Span.{Span}
use Rattle.naga_oil_ir.specs.declared.tokens.Token.TheVariants as token
use Rattle.yettuvam_wgsl_words.specs.Class.{Text}
use Rattle.yettuvam_wgsl_words.specs.declared.token.Span.{Span as SpanOfText}
use Rattle.yettuvam_wgsl_machine.specs.declared.symbol.Form.{Form}
use Rattle.yettuvam_wgsl_machine.specs.declared.symbol.Form.TheVariants as form
use Rattle.yettuvam_wgsl_scope.specs.Items.{Item}
use Rattle.yettuvam_wgsl_scope.specs.Names.{Bound}
use Rattle.yettuvam_wgsl_scope.specs.Refused.{fault}
use Rattle.yettuvam_wgsl_scope.specs.declared.names.Binding.{Binding}
use Rattle.yettuvam_wgsl_scope.specs.declared.names.Binding.TheVariants as bound_to
use Rattle.yettuvam_wgsl_scope.specs.declared.refusal.Fault.{Fault}
use Rattle.yettuvam_wgsl_scope.specs.declared.refusal.Reason.TheVariants as reason
use Rattle.yettuvam_wgsl_shape.specs.Literals.{literal_of}
use Rattle.yettuvam_wgsl_types.specs.SameRow.{same_row}
use Rattle.yettuvam_wgsl_types.specs.Types.{intern, row_at, shape_of, scalar_of, pointed, pointed_at}
use Rattle.yettuvam_wgsl_types.specs.Types as types
use Rattle.yettuvam_wgsl_types.specs.declared.types.PlainType.TheVariants.{Scalar, Vector, Image}
use Rattle.yettuvam_wgsl_predeclared.specs.Words.{word_of, predeclared, plain_type, generic_word}
use Rattle.yettuvam_wgsl_arguments.specs.Words.{argument}
use Rattle.yettuvam_wgsl_values.specs.Body.{flush, state, compute, put, give, take_value, arguments, put_for, put_plain, settle, settled, operand, name, know, know_item, open_, close}
use Rattle.yettuvam_wgsl_operators.specs.Operators.{number}
use Rattle.yettuvam_wgsl_type_words.specs.Types.{named_type, type_of, type_argument, scalar_argument}
use Rattle.yettuvam_wgsl_type_words.specs.Templates as templates
use Rattle.yettuvam_wgsl_type_words.specs.Templates.{template, template_end, template_of, word_template, named_template, of_scalar, give_type}
use Rattle.yettuvam_wgsl_lower_declarations.specs.Declarations.{optional_type, declared_type, variable_type}
use Rattle.yettuvam_wgsl_lower_statements.specs.Statements.{absent, return_value}
use Rattle.yettuvam_wgsl_bodies.specs.Step as bodies
use Rattle.yettuvam_wgsl_bodies.specs.Step.{expression, declaration, declared, control}
use Rattle.yettuvam_wgsl_items.specs.Attributes as attributes
use Rattle.yettuvam_wgsl_items.specs.Attributes.{with_number, with_attribute, attribute_start, attribute_arguments, attribute_end}
use Rattle.yettuvam_wgsl_items.specs.Functions.{function_name, push_argument, parameter, no_result, function_result, push_entry, add_entry, add_by_stage, function_end}
use Rattle.yettuvam_wgsl_items.specs.Globals.{push_member, member, add_struct, struct_end, push_constant, add_constant, constant, push_variable, add_variable, variable}
use Rattle.yettuvam_wgsl_items.specs.Items.{take_type, initial, take_initial, begin_attribute, end_attribute, part_name, item_name}
use Rattle.yettuvam_wgsl_items.specs.Lowered.{item, step_by, step, run, end_item, lower, lower_at, lower_all, module_of}

-- ---- nodes; the span of each is the same

abbrev here : SpanOfText
here = record { start = 3; end = 4 }

abbrev there : Span
there = record { start = 3; end = 4 }

abbrev bound : Form → Text → Binding → Bound
bound form text binding = record { node = record { form = form; span = here; text = text }; binding = binding }

abbrev plain : Form → Text → Bound
plain form text = bound form text bound_to.Nothing

-- a node of a name that no declaration means
abbrev word : Form → Text → Bound
word form text = bound form text bound_to.Word

-- `@name(number)`
abbrev attribute_then : Text → Text → List Bound → List Bound
attribute_then name number more =
    plain form.AttributeName name ∷ plain form.Number number ∷ plain form.AttributeArgument [] ∷ plain form.Attribute [] ∷ more

abbrev item_of : Text → List Bound → Item
item_of name nodes = record { name = record { text = name; span = here }; start = 0; end = length nodes }

-- the module of a text with one item
abbrev module_with : Text → List Bound → Result ModuleValue Fault
module_with name nodes = module_of (item_of name nodes ∷ []) (nodes ∷ []) (0 ∷ []) (0 ∷ [])

abbrev f32 : Row × Span
f32 = (types.plain_row (Scalar 4), undefined)

-- ---- const A = 4;

abbrev a_constant_of : Bound → List Bound
a_constant_of value = plain form.Declared (codes "A") ∷ plain form.Untyped [] ∷ value ∷ plain form.Const [] ∷ []

-- its type isn't said, and its number is kept as it was written
the_module_of_a_constant : module_with (codes "A") (a_constant_of (plain form.Number (codes "4"))) ≡ Ok (record no_items {
  types = (types.plain_row (Scalar 0), undefined) ∷ [];
  constants = (row ConstantKind (Some (codes "A")) [] [] (Some (TypeItem 0) ∷ Some (ExpressionItem 0) ∷ []), there) ∷ [];
  global_expressions = (expr 0 (1 ∷ 4 ∷ []) Nothing [], there) ∷ [];
})
unfolding lower_all lower_at lower run step step_by item end_item bodies.step expression declaration declared absent number
    literal_of give constant settled take_value settle put_for put flush compute declared_type optional_type
    variable_type types.type_of types.plain intern same_row add_constant push_constant know_item shape_of row_at
    utf8_lossy utf8_valid_len is_utf8 chars encode
the_module_of_a_constant = refl

-- const A = b; where nothing is named b
an_unknown_name : module_with (codes "A") (a_constant_of (word form.Name (codes "b"))) ≡ Err (fault reason.UnknownName here)
unfolding lower_all lower_at lower run step step_by item bodies.step expression declaration declared absent name give constant
    settled take_value settle
an_unknown_name = refl

-- ---- struct S { a: f32, @size(32) b: vec3<f32> }

abbrev a_struct : List Bound
a_struct =
    plain form.StructName (codes "S")
    ∷ plain form.MemberName (codes "a") ∷ word form.TypeName (codes "f32") ∷ plain form.StructMember []
    ∷ attribute_then (codes "size") (codes "32")
    (plain form.MemberName (codes "b") ∷ word form.TypeName (codes "vec3") ∷ plain form.Template [] ∷ word form.Name (codes "f32")
    ∷ plain form.TemplateArgument [] ∷ plain form.TemplateEnd [] ∷ plain form.StructMember [] ∷ plain form.Struct [] ∷ [])

abbrev the_members : List types.MemberValue
the_members =
    (record { name = Some (codes "a"); binding = None; offset = 0 }, Some (TypeItem 0))
    ∷ (record { name = Some (codes "b"); binding = None; offset = 32 }, Some (TypeItem 1)) ∷ []

the_module_of_a_struct : module_with (codes "S") a_struct ≡ Ok (record no_items {
  types = f32 ∷ (types.plain_row (Vector (3 + 16 * 4)), undefined) ∷ (types.struct_row (codes "S") the_members, there) ∷ [];
})
unfolding lower_all lower_at lower run step step_by item end_item item_name part_name member take_type take_value type_of
    named_type word_of predeclared plain_type generic_word types.plain intern same_row push_member
    types.with_member begin_attribute attribute_start end_attribute attribute_end attribute_arguments arguments
    with_attribute with_number attributes.number_at attributes.at attributes.known attributes.fitting
    bodies.step expression declaration control number literal_of give name template template_end template_of
    word_template named_template of_scalar scalar_argument type_argument argument scalar_of row_at
    templates.plain give_type struct_end add_struct types.struct_end know_item utf8_lossy utf8_valid_len is_utf8
    chars encode
the_module_of_a_struct = refl

-- ---- @group(0) @binding(1) var t: texture_2d<f32>;

abbrev a_texture : List Bound
a_texture =
    attribute_then (codes "group") (codes "0") (attribute_then (codes "binding") (codes "1")
    (plain form.VarStart [] ∷ plain form.Declared (codes "t") ∷ word form.TypeName (codes "texture_2d") ∷ plain form.Template []
    ∷ word form.Name (codes "f32") ∷ plain form.TemplateArgument [] ∷ plain form.TemplateEnd [] ∷ plain form.Typed []
    ∷ plain form.NoInitial [] ∷ plain form.Var [] ∷ []))

-- the space of a texture is that of handles, 5
the_module_of_a_texture : module_with (codes "t") a_texture ≡ Ok (record no_items {
  types = f32 ∷ (types.plain_row (Image (2 + 256 * 4)), undefined) ∷ [];
  global_variables = (row GlobalKind (Some (codes "t")) (Some 5 ∷ Some (0 * 4294967296 + 1) ∷ []) [] (Some (TypeItem 1) ∷ None ∷ []), there) ∷ [];
})
unfolding lower_all lower_at lower run step step_by item end_item begin_attribute attribute_start end_attribute attribute_end
    attribute_arguments arguments with_attribute with_number attributes.number_at attributes.at attributes.known
    attributes.fitting word_of bodies.step expression declaration declared control absent number literal_of give
    name template template_end take_value template_of word_template named_template generic_word predeclared
    of_scalar scalar_argument type_argument argument type_of named_type plain_type types.plain intern same_row
    scalar_of row_at templates.plain give_type variable take_initial initial declared_type optional_type
    variable_type add_variable push_variable know_item shape_of utf8_lossy utf8_valid_len is_utf8 chars encode
the_module_of_a_texture = refl

-- ---- @fragment fn f(@location(0) a: f32) -> @location(1) f32 { return a; }

abbrev an_entry_point : List Bound
an_entry_point =
    plain form.AttributeName (codes "fragment") ∷ plain form.Attribute [] ∷ plain form.FunctionName (codes "f")
    ∷ attribute_then (codes "location") (codes "0")
    (plain form.ParameterName (codes "a") ∷ word form.TypeName (codes "f32") ∷ plain form.Parameter []
    ∷ attribute_then (codes "location") (codes "1")
    (word form.TypeName (codes "f32") ∷ plain form.Result [] ∷ plain form.Block [] ∷ bound form.Name (codes "a") (bound_to.Local 0)
    ∷ plain form.ReturnValue [] ∷ plain form.BlockEnd [] ∷ plain form.Function [] ∷ []))

-- the code of a location: the number from bit 32 on, and the class 2
abbrev the_function : FunctionValue
the_function = record {
  name = Some (codes "f");
  arguments = (record { name = Some (codes "a"); ty = 0; binding = Some 2 }) ∷ [];
  result = Some (record { ty = 0; binding = Some (4294967296 + 2) });
  local_variables = [];
  expressions = (expr 6 [] (ArgumentAt 0) [], there) ∷ [];
  named_expressions = [];
  body = token.At there ∷ token.Head 10 ∷ token.Use 0 ∷ [];
  diagnostic_filter_leaf = None;
}

-- a fragment shader has the code 1, and no sizes of a workgroup
the_module_of_an_entry_point : module_with (codes "f") an_entry_point ≡ Ok (record no_items {
  types = f32 ∷ [];
  entry_points = (record {
    name = codes "f";
    stage = 1;
    early_depth_test = None;
    workgroup_size = 0 ∷ 0 ∷ 0 ∷ [];
    workgroup_size_overrides = None;
    function = the_function;
    mesh_info = None;
    task_payload = None;
  }) ∷ [];
})
unfolding lower_all lower_at lower run step step_by item end_item begin_attribute attribute_start end_attribute attribute_end
    attribute_arguments arguments with_attribute with_number attributes.number_at attributes.at attributes.known
    attributes.fitting word_of function_name part_name parameter take_type take_value type_of named_type
    plain_type predeclared types.plain intern same_row push_argument pointed pointed_at row_at shape_of know
    function_result no_result bodies.step expression declaration control number literal_of give open_ flush name
    put_plain put compute return_value operand settled settle state close function_end add_by_stage add_entry
    push_entry know_item utf8_lossy utf8_valid_len is_utf8 chars encode
the_module_of_an_entry_point = refl
