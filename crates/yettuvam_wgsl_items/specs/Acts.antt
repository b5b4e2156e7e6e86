-- What a node does among items, by its form.
use Rattle.yettuvam_wgsl_machine.specs.declared.symbol.Form.{Form}
use Rattle.yettuvam_wgsl_machine.specs.declared.symbol.Form.TheVariants as form
use Rattle.yettuvam_wgsl_items.specs.declared.acts.ItemAct.{ItemAct}
use Rattle.yettuvam_wgsl_items.specs.declared.acts.ItemAct.TheVariants as does

abbrev pub act_of : Form → ItemAct
act_of form.AttributeName = does.AttributeName
act_of form.DiagnosticStart = does.AttributeName
act_of form.Attribute = does.Attribute
act_of form.Diagnostic = does.Diagnostic
act_of form.AliasName = does.Name
act_of form.StructName = does.Name
act_of form.MemberName = does.Part
act_of form.ParameterName = does.Part
act_of form.StructMember = does.Member
act_of form.FunctionName = does.FunctionName
act_of form.Parameter = does.Parameter
act_of form.Result = does.Result
act_of form.NoResult = does.NoResult
act_of form.Alias = does.Alias
act_of form.Struct = does.Struct
act_of form.Const = does.Constant
act_of form.Override = does.Override
act_of form.Var = does.Variable
act_of form.Function = does.Function
act_of _ = does.Body
