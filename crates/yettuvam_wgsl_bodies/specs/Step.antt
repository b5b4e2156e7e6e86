-- The step of a node.
use Rattle.std.specs.Prelude.{ℕ, Bool, true, false, [], ◌∷◌, None, pos}
use Rattle.naga_oil_ir.specs.Body.{used}
use Rattle.naga_oil_ir.specs.declared.tokens.Token.TheVariants.{Head}
use Rattle.yettuvam_wgsl_machine.specs.Machine.{Node}
use Rattle.yettuvam_wgsl_names.specs.declared.form_codes.TheConstants.{BOOL_LITERAL, INTEGER_LITERAL}
use Rattle.yettuvam_wgsl_scope.specs.Names.{Bound}
use Rattle.yettuvam_wgsl_scope.specs.Refused.{done}
use Rattle.yettuvam_wgsl_shape.specs.declared.number.Number.TheVariants.{Truth, Untyped}
use Rattle.yettuvam_wgsl_values.specs.Body.{State, Done, give, name, left, declare, open_, close, state}
use Rattle.yettuvam_wgsl_values.specs.Value.{NoSpace, bare}
use Rattle.yettuvam_wgsl_operators.specs.Operators.{number, literal, unary, binary}
use Rattle.yettuvam_wgsl_operators.specs.Circuits.{circuit, circuit_end}
use Rattle.yettuvam_wgsl_operators.specs.Members.{address_of, dereference, member, index}
use Rattle.yettuvam_wgsl_type_words.specs.Templates.{template, template_end}
use Rattle.yettuvam_wgsl_calls.specs.Calls.{call, call_end, call_statement}
use Rattle.yettuvam_wgsl_lower_declarations.specs.Declarations.{let_, local_const, local_var}
use Rattle.yettuvam_wgsl_lower_statements.specs.Statements.{absent, again, assertion, assign, if_end, inner, loop_end, phony, return_value}
use Rattle.yettuvam_wgsl_lower_statements.specs.Switches.{default_selector, fall_through, selector, switch, switch_end}
use Rattle.yettuvam_wgsl_bodies.specs.Acts.{act_of}
use Rattle.yettuvam_wgsl_bodies.specs.declared.acts.Act.{Act}
use Rattle.yettuvam_wgsl_bodies.specs.declared.acts.Act.TheVariants as act

-- a name is declared
unfoldable pub declared : Node → State → Done
declared node s = done (declare node s)

unfoldable pub return_nothing : Node → State → Done
return_nothing node s = state (Head 10 ∷ used None ∷ []) node.span s

-- what ends a block, and what stands for statements with blocks
unfoldable pub control : Act → Node → State → Done
control act.Open node s = open_ node s
control act.Close node s = close node s
control act.Inner node s = inner node s
control act.If node s = if_end node s
control act.Loop node s = loop_end node s
control act.Switch node s = switch node s
control act.Selector node s = selector node s
control act.DefaultSelector node s = default_selector s
control act.FallThrough node s = fall_through s
control act.SwitchEnd node s = switch_end node s
control act.Break node s = state (Head 5 ∷ []) node.span s
control act.Continue node s = state (Head 6 ∷ []) node.span s
control act.Kill node s = state (Head 7 ∷ []) node.span s
control act.Return node s = return_nothing node s
control act.ReturnValue node s = return_value node s
control _ node s = done s

-- declarations, assignments and calls that are statements
unfoldable pub declaration : Act → Node → State → Done
declaration act.Declared node s = declared node s
declaration act.Absent node s = absent s
declaration act.NoSpace node s = give (bare NoSpace) s
declaration act.Let node s = let_ node s
declaration act.Const node s = local_const node s
declaration act.Var node s = local_var node s
declaration act.Assign node s = assign node s
declaration act.Again node s = again node s
declaration act.Phony node s = phony node s
declaration act.CallStatement node s = call_statement node s
declaration act.Assertion node s = assertion node s
declaration act node s = control act node s

abbrev pub truth_bits : Bool → ℕ
truth_bits false = 0
truth_bits true = 1

-- expressions
unfoldable pub expression : Act → Bound → State → Done
expression act.Number bound s = number bound.node s
expression (act.Truth value) bound s = literal BOOL_LITERAL (truth_bits value) (Truth value) s
expression act.One bound s = literal INTEGER_LITERAL 1 (Untyped (pos 1)) s
expression act.Name bound s = name bound.node bound.binding s
expression act.Left bound s = left bound.node s
expression (act.Unary op) bound s = unary op bound.node s
expression (act.Binary op) bound s = binary op bound.node s
expression act.Circuit bound s = circuit bound.node s
expression (act.CircuitEnd op) bound s = circuit_end op bound.node s
expression act.AddressOf bound s = address_of bound.node s
expression act.Dereference bound s = dereference bound.node s
expression act.Member bound s = member bound.node s
expression act.Index bound s = index bound.node s
expression act.Template bound s = template s
expression act.TemplateEnd bound s = template_end bound.node s
expression (act.Call is_statement) bound s = call is_statement s
expression act.CallEnd bound s = call_end bound.node s
expression act bound s = declaration act bound.node s

-- what a node of a body or of an expression does
unfoldable pub step : Bound → State → Done
step bound s = expression (act_of bound.node.form) bound s
