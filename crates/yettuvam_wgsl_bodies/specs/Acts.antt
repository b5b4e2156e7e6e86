-- What each form of a node does.
use Rattle.std.specs.Prelude.{true, false}
use Rattle.yettuvam_wgsl_machine.specs.declared.symbol.Form.{Form}
use Rattle.yettuvam_wgsl_machine.specs.declared.symbol.Form.TheVariants as form
use Rattle.yettuvam_wgsl_operators.specs.declared.circuits.TheConstants.{AND, OR}
use Rattle.yettuvam_wgsl_bodies.specs.declared.acts.Act.{Act}
use Rattle.yettuvam_wgsl_bodies.specs.declared.acts.Act.TheVariants as act

-- an operator, by its code
abbrev pub operator_of : Form → Act
operator_of form.Negate = act.Unary 1
operator_of form.Not = act.Unary 2
operator_of form.Complement = act.Unary 3
operator_of form.Add = act.Binary 1
operator_of form.Subtract = act.Binary 2
operator_of form.Multiply = act.Binary 3
operator_of form.Divide = act.Binary 4
operator_of form.Remainder = act.Binary 5
operator_of form.BitAnd = act.Binary 6
operator_of form.BitOr = act.Binary 7
operator_of form.BitXor = act.Binary 8
operator_of form.ShiftLeft = act.Binary 9
operator_of form.ShiftRight = act.Binary 10
operator_of form.Equal = act.Binary 11
operator_of form.NotEqual = act.Binary 12
operator_of form.Less = act.Binary 13
operator_of form.LessEqual = act.Binary 14
operator_of form.Greater = act.Binary 15
operator_of form.GreaterEqual = act.Binary 16
operator_of _ = act.Nothing

-- blocks, statements with blocks, and jumps
abbrev pub control_of : Form → Act
control_of form.Block = act.Open
control_of form.BlockEnd = act.Close
control_of form.BlockStatement = act.Inner
control_of form.IfEnd = act.If
control_of form.LoopEnd = act.Loop
control_of form.Switch = act.Switch
control_of form.Selector = act.Selector
control_of form.DefaultSelector = act.DefaultSelector
control_of form.FallThrough = act.FallThrough
control_of form.SwitchEnd = act.SwitchEnd
control_of form.Break = act.Break
control_of form.Continue = act.Continue
control_of form.Discard = act.Kill
control_of form.Return = act.Return
control_of form.ReturnValue = act.ReturnValue
control_of form = operator_of form

-- declarations and assignments
abbrev pub declaration_of : Form → Act
declaration_of form.Declared = act.Declared
declaration_of form.Untyped = act.Absent
declaration_of form.NoInitial = act.Absent
declaration_of form.NoBreakIf = act.Absent
declaration_of form.VarStart = act.NoSpace
declaration_of form.Let = act.Let
declaration_of form.LocalConst = act.Const
declaration_of form.LocalVar = act.Var
declaration_of form.Assign = act.Assign
declaration_of form.Again = act.Again
declaration_of form.Phony = act.Phony
declaration_of form.ConstAssert = act.Assertion
declaration_of form = control_of form

-- calls and template arguments
abbrev pub call_of : Form → Act
call_of form.Template = act.Template
call_of form.TemplateEnd = act.TemplateEnd
call_of form.Call = act.Call false
call_of form.StatementCall = act.Call true
call_of form.CallEnd = act.CallEnd
call_of form.CallStatement = act.CallStatement
call_of form = declaration_of form

-- what a node of a form does
abbrev pub act_of : Form → Act
act_of form.Number = act.Number
act_of form.False = act.Truth false
act_of form.True = act.Truth true
act_of form.One = act.One
act_of form.Name = act.Name
act_of form.TypeName = act.Name
act_of form.Left = act.Left
act_of form.Argument = act.Left
act_of form.If = act.Left
act_of form.BreakIf = act.Left
act_of form.AndStart = act.Circuit
act_of form.OrStart = act.Circuit
act_of form.And = act.CircuitEnd AND
act_of form.Or = act.CircuitEnd OR
act_of form.AddressOf = act.AddressOf
act_of form.Dereference = act.Dereference
act_of form.Member = act.Member
act_of form.Index = act.Index
act_of form = call_of form
