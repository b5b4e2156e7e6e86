-- The modules of small texts, and the faults of others, written by hand from what WGSL says.
use lib.Utf8.{encode}
use Rattle.std.specs.Prelude.{◌≡◌, ℕ, List, [], ◌∷◌, Some, None, Ok, Err, codes, refl}
use Rattle.std.specs.Str.{chars, is_utf8}
use Rattle.std.specs.Str.Lossy.{utf8_lossy, utf8_valid_len}
use Rattle.naga_oil_ir.specs.Backend.{FaultValue}
use Rattle.naga_oil_ir.specs.ModuleValue.{no_items}
use Rattle.naga_oil_ir.specs.Parts.{expr}
use Rattle.naga_oil_ir.specs.Rows.{row, ConstantKind}
use Rattle.naga_oil_ir.specs.Spans.{undefined}
use Rattle.naga_oil_ir.specs.declared.names.ItemPlace.TheVariants.{TypeItem, ExpressionItem}
use Rattle.naga_oil_ir.specs.declared.parts.Named.TheVariants.{Nothing}
use Rattle.naga_oil_ir.specs.declared.span.Span.{Span}
use Rattle.yettuvam_wgsl_attribute_rules.specs.Fault.{attribute_fault}
use Rattle.yettuvam_wgsl_attribute_rules.specs.Marks as marks
use Rattle.yettuvam_wgsl_attribute_rules.specs.Testing as testing
use Rattle.yettuvam_wgsl_bodies.specs.Step as bodies
use Rattle.yettuvam_wgsl_faults.specs.Fault.{meaning_fault, syntax_fault}
use Rattle.yettuvam_wgsl_grammar.specs.Module as grammar
use Rattle.yettuvam_wgsl_items.specs.Functions as functions
use Rattle.yettuvam_wgsl_items.specs.Globals as globals
use Rattle.yettuvam_wgsl_items.specs.Lowered as lowering
use Rattle.yettuvam_wgsl_lower_declarations.specs.Declarations as declarations
use Rattle.yettuvam_wgsl_lower_statements.specs.Statements as statements
use Rattle.yettuvam_wgsl_machine.specs.Machine as machine
use Rattle.yettuvam_wgsl_operators.specs.Operators as operators
use Rattle.yettuvam_wgsl_scope.specs.Items as found
use Rattle.yettuvam_wgsl_scope.specs.Names as names
use Rattle.yettuvam_wgsl_scope.specs.Order as sorting
use Rattle.yettuvam_wgsl_scope.specs.Scope as scopes
use Rattle.yettuvam_wgsl_shape.specs.Literals.{literal_of}
use Rattle.yettuvam_wgsl_templates.specs.Finder as finder
use Rattle.yettuvam_wgsl_types.specs.SameRow.{same_row}
use Rattle.yettuvam_wgsl_types.specs.Types as types
use Rattle.yettuvam_wgsl_types.specs.declared.types.PlainType.TheVariants.{Scalar}
use Rattle.yettuvam_wgsl_values.specs.Body as values
use Rattle.yettuvam_wgsl_words.specs.Class.{Text}
use Rattle.yettuvam_wgsl_words.specs.Cut as cuts
use Rattle.yettuvam_wgsl_words.specs.Scan as scanned
use Rattle.yettuvam_wgsl_read.specs.Reading.{parsed, tokens_of, marked_tokens, nodes_of, attributes_tested, module_of_nodes, lowered}

abbrev span : (start end : ℕ) → Span
span start end = record { start = start; end = end }

-- a fault at one place, without notes
abbrev fault_of : Text → Span → Text → FaultValue
fault_of message at label = record { message = message; spans = (at, label) ∷ []; notes = [] }

the_module_of_no_text : parsed [] ≡ Ok no_items
unfolding parsed tokens_of marked_tokens nodes_of module_of_nodes lowered
    attributes_tested testing.attributes_ruled testing.run
    scanned.scan_from scanned.scan
    scanned.tokens cuts.comment_from cuts.after_comment cuts.group cuts.sign cuts.cut finder.close
    finder.greater finder.greater_equal finder.shift_right finder.shift_right_equal finder.less
    finder.opening finder.closing finder.logic finder.ending finder.act finder.step finder.run
    finder.with_templates machine.token machine.node machine.enter machine.postpone machine.rule
    machine.symbol machine.resumed machine.step machine.run grammar.item_rows grammar.statement_rows
    grammar.expression_rows grammar.places grammar.turns grammar.parse found.end found.end_outside
    found.step found.run found.declare found.declare_all names.find_from names.give names.mark
    names.open_block names.close names.function names.earlier names.push names.declare names.local
    names.meaning names.note names.name names.act names.other names.step names.run sorting.push
    sorting.enter sorting.used sorting.finish sorting.visit sorting.step sorting.finish_all sorting.root
    sorting.run_from scopes.item scopes.run scopes.resolved_of scopes.scoped lowering.lower_all
the_module_of_no_text = refl

-- its type isn't said, its number is kept as it was written, and stands where the declaration ends
the_module_of_a_constant : parsed (codes "const A = 4;") ≡ Ok (record no_items {
  types = (types.plain_row (Scalar 0), undefined) ∷ [];
  constants = (row ConstantKind (Some (codes "A")) [] [] (Some (TypeItem 0) ∷ Some (ExpressionItem 0) ∷ []), span 6 7) ∷ [];
  global_expressions = (expr 0 (1 ∷ 4 ∷ []) Nothing [], span 11 12) ∷ [];
})
unfolding parsed tokens_of marked_tokens nodes_of module_of_nodes lowered
    attributes_tested testing.attributes_ruled testing.run testing.step
    scanned.scan_from scanned.scan
    scanned.tokens cuts.comment_from cuts.after_comment cuts.group cuts.sign cuts.cut finder.close
    finder.greater finder.greater_equal finder.shift_right finder.shift_right_equal finder.less
    finder.opening finder.closing finder.logic finder.ending finder.act finder.step finder.run
    finder.with_templates machine.token machine.node machine.enter machine.postpone machine.rule
    machine.symbol machine.resumed machine.step machine.run grammar.item_rows grammar.statement_rows
    grammar.expression_rows grammar.places grammar.turns grammar.parse found.end found.end_outside
    found.step found.run found.declare found.declare_all names.find_from names.give names.mark
    names.open_block names.close names.function names.earlier names.push names.declare names.local
    names.meaning names.note names.name names.act names.other names.step names.run sorting.push
    sorting.enter sorting.used sorting.finish sorting.visit sorting.step sorting.finish_all sorting.root
    sorting.run_from scopes.item scopes.run scopes.resolved_of scopes.scoped lowering.run lowering.step
    lowering.step_by lowering.item lowering.end_item lowering.lower lowering.lower_at lowering.lower_all
    bodies.step bodies.expression bodies.declaration bodies.declared statements.absent operators.number
    literal_of values.give globals.constant values.settled values.take_value values.settle values.put_for
    values.put values.flush values.compute declarations.declared_type declarations.optional_type
    declarations.variable_type types.type_of types.plain types.intern same_row globals.add_constant
    globals.push_constant values.know_item types.shape_of types.row_at utf8_lossy utf8_valid_len is_utf8
    chars encode
the_module_of_a_constant = refl

the_module_of_a_function : parsed (codes "fn f() {}") ≡ Ok (record no_items {
  functions = (record { name = Some (codes "f"); arguments = []; result = None; local_variables = []; expressions = []; named_expressions = []; body = []; diagnostic_filter_leaf = None }, span 3 4) ∷ [];
})
unfolding parsed tokens_of marked_tokens nodes_of module_of_nodes lowered
    attributes_tested testing.attributes_ruled testing.run testing.step testing.function testing.place
    testing.no_result marks.ruled
    scanned.scan_from
    scanned.scan scanned.tokens cuts.comment_from cuts.after_comment cuts.group cuts.sign cuts.cut
    finder.close finder.greater finder.greater_equal finder.shift_right finder.shift_right_equal
    finder.less finder.opening finder.closing finder.logic finder.ending finder.act finder.step
    finder.run finder.with_templates machine.token machine.node machine.enter machine.postpone
    machine.rule machine.symbol machine.resumed machine.step machine.run grammar.item_rows
    grammar.statement_rows grammar.expression_rows grammar.places grammar.turns grammar.parse
    found.end found.end_outside found.step found.run found.declare found.declare_all names.find_from
    names.give names.mark names.open_block names.close names.function names.earlier names.push
    names.declare names.local names.meaning names.note names.name names.act names.other names.step
    names.run sorting.push sorting.enter sorting.used sorting.finish sorting.visit sorting.step
    sorting.finish_all sorting.root sorting.run_from scopes.item scopes.run scopes.resolved_of
    scopes.scoped lowering.run lowering.step lowering.step_by lowering.item lowering.end_item
    lowering.lower lowering.lower_at lowering.lower_all functions.function_name functions.no_result
    functions.function_end functions.push_function functions.add_function bodies.step
    bodies.expression bodies.declaration bodies.control values.open_ values.close values.flush
    values.know_item utf8_lossy utf8_valid_len is_utf8 chars encode functions.add_by_stage
the_module_of_a_function = refl

a_name_that_nothing_declares : parsed (codes "const A = b;") ≡ Err (fault_of (codes "unknown name") (span 10 11) (codes "`b`"))
unfolding parsed tokens_of marked_tokens nodes_of module_of_nodes lowered
    attributes_tested testing.attributes_ruled testing.run testing.step
    scanned.scan_from scanned.scan
    scanned.tokens cuts.comment_from cuts.after_comment cuts.group cuts.sign cuts.cut finder.close
    finder.greater finder.greater_equal finder.shift_right finder.shift_right_equal finder.less
    finder.opening finder.closing finder.logic finder.ending finder.act finder.step finder.run
    finder.with_templates machine.token machine.node machine.enter machine.postpone machine.rule
    machine.symbol machine.resumed machine.step machine.run grammar.item_rows grammar.statement_rows
    grammar.expression_rows grammar.places grammar.turns grammar.parse found.end found.end_outside
    found.step found.run found.declare found.declare_all names.find_from names.give names.mark
    names.open_block names.close names.function names.earlier names.push names.declare names.local
    names.meaning names.note names.name names.act names.other names.step names.run sorting.push
    sorting.enter sorting.used sorting.finish sorting.visit sorting.step sorting.finish_all sorting.root
    sorting.run_from scopes.item scopes.run scopes.resolved_of scopes.scoped lowering.run lowering.step
    lowering.step_by lowering.item lowering.end_item lowering.lower lowering.lower_at lowering.lower_all
    bodies.step bodies.expression bodies.declaration bodies.declared statements.absent operators.number
    literal_of values.give globals.constant values.settled values.take_value values.settle values.put_for
    values.put values.flush values.compute declarations.declared_type declarations.optional_type
    declarations.variable_type types.type_of types.plain types.intern same_row globals.add_constant
    globals.push_constant values.know_item types.shape_of types.row_at values.name meaning_fault utf8_lossy
    utf8_valid_len is_utf8 chars encode
a_name_that_nothing_declares = refl

an_attribute_of_an_override : parsed (codes "@id(1) fn f() {}") ≡ Err (fault_of (codes "misplaced attribute") (span 1 3) (codes "does not belong here"))
unfolding parsed tokens_of marked_tokens nodes_of attributes_tested testing.attributes_ruled
    testing.run testing.step testing.begin testing.attribute testing.function testing.place
    marks.ruled attribute_fault scanned.scan_from scanned.scan scanned.tokens cuts.comment_from
    cuts.after_comment cuts.group cuts.sign cuts.cut finder.close finder.greater
    finder.greater_equal finder.shift_right finder.shift_right_equal finder.less finder.opening
    finder.closing finder.logic finder.ending finder.act finder.step finder.run
    finder.with_templates machine.token machine.node machine.enter machine.postpone machine.rule
    machine.symbol machine.resumed machine.step machine.run grammar.item_rows
    grammar.statement_rows grammar.expression_rows grammar.places grammar.turns grammar.parse
    utf8_lossy utf8_valid_len is_utf8 chars encode
an_attribute_of_an_override = refl

a_value_is_missing : parsed (codes "const A = ;") ≡ Err (fault_of (codes "expected an expression") (span 10 11) (codes "`;`"))
unfolding parsed tokens_of marked_tokens nodes_of module_of_nodes lowered scanned.scan_from scanned.scan
    scanned.tokens cuts.comment_from cuts.after_comment cuts.group cuts.sign cuts.cut finder.close
    finder.greater finder.greater_equal finder.shift_right finder.shift_right_equal finder.less
    finder.opening finder.closing finder.logic finder.ending finder.act finder.step finder.run
    finder.with_templates machine.token machine.node machine.enter machine.postpone machine.rule
    machine.symbol machine.resumed machine.step machine.run grammar.item_rows grammar.statement_rows
    grammar.expression_rows grammar.places grammar.turns grammar.parse syntax_fault utf8_lossy
    utf8_valid_len is_utf8 chars encode
a_value_is_missing = refl

no_token : parsed (codes "fn #") ≡ Err (fault_of (codes "no token begins with this character") (span 3 4) (codes "`#`"))
unfolding parsed tokens_of marked_tokens scanned.scan_from scanned.scan scanned.tokens cuts.comment_from
    cuts.after_comment cuts.group cuts.sign cuts.cut finder.close finder.greater finder.greater_equal
    finder.shift_right finder.shift_right_equal finder.less finder.opening finder.closing finder.logic
    finder.ending finder.act finder.step finder.run finder.with_templates syntax_fault utf8_lossy
    utf8_valid_len is_utf8 chars encode
no_token = refl
