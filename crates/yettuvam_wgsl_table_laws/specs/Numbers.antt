-- Numbers of the rules and the forms of WGSL: the effects of their nodes on four stacks, and the weights of the rules.
use Rattle.std.specs.Prelude.{ℕ, List, [], ◌∷◌}
use Rattle.yettuvam_wgsl_machine.specs.declared.symbol.Form.{Form}
use Rattle.yettuvam_wgsl_machine.specs.declared.symbol.Form.TheVariants as form
use Rattle.yettuvam_wgsl_machine.specs.declared.symbol.Rule.{Rule}
use Rattle.yettuvam_wgsl_machine.specs.declared.symbol.Rule.TheVariants as rule
use Rattle.yettuvam_wgsl_table_laws.specs.Balance.{Effect, Effects, no_effect}
use Rattle.yettuvam_wgsl_table_laws.specs.Turns.{Weights}

-- the rules in their order
abbrev pub rules : List Rule
rules =
    rule.Module ∷ rule.Directives ∷ rule.Extensions ∷ rule.MoreExtensions ∷
    rule.ExtensionsOrEnd ∷ rule.Items ∷ rule.AttributedItem ∷ rule.Attributes ∷
    rule.Attribute ∷ rule.OptionalArguments ∷ rule.AttributeArguments ∷ rule.MoreAttributeArguments ∷
    rule.TypedName ∷ rule.OptionalType ∷ rule.Initial ∷ rule.Parameters ∷
    rule.MoreParameters ∷ rule.Result ∷ rule.Member ∷ rule.MoreMembers ∷
    rule.MembersOrEnd ∷ rule.Type ∷ rule.Template ∷ rule.MoreTemplateArguments ∷
    rule.TemplateArgumentsOrEnd ∷ rule.Block ∷ rule.Statements ∷ rule.Statement ∷
    rule.Else ∷ rule.AfterElse ∷ rule.Cases ∷ rule.Selectors ∷
    rule.AfterSelector ∷ rule.SelectorsOrBlock ∷ rule.CaseBlock ∷ rule.LoopBlock ∷
    rule.LoopStatements ∷ rule.ContinuingBlock ∷ rule.ContinuingStatements ∷ rule.ContinuingBreak ∷
    rule.For ∷ rule.ForRest ∷ rule.ForCondition ∷ rule.ForUpdate ∷
    rule.AfterReturn ∷ rule.Simple ∷ rule.AfterSimpleName ∷ rule.Target ∷
    rule.TargetStart ∷ rule.Assignment ∷ rule.Expression ∷ rule.AfterFirst ∷
    rule.BitAndChain ∷ rule.BitOrChain ∷ rule.BitXorChain ∷ rule.Products ∷
    rule.Sums ∷ rule.Relation ∷ rule.Shift ∷ rule.ShiftTail ∷
    rule.Logic ∷ rule.OrChain ∷ rule.AndChain ∷ rule.Comparison ∷
    rule.ComparisonTail ∷ rule.Unary ∷ rule.Primary ∷ rule.AfterName ∷
    rule.Arguments ∷ rule.MoreArguments ∷ rule.Postfix ∷ []

abbrev pub effect : (takes gives : ℕ) → Effect
effect takes gives = record { takes = takes; gives = gives }

-- ---- the values of expressions and types, which wait for the node that uses them

abbrev pub value_of_form : Form → Effect
value_of_form form.ConstAssert = effect 1 0
value_of_form form.Alias = effect 1 0
value_of_form form.Const = effect 2 0
value_of_form form.VarStart = effect 0 1
value_of_form form.Var = effect 3 0
value_of_form form.Override = effect 2 0
value_of_form form.AttributeArgument = effect 1 0
value_of_form form.Typed = effect 1 1
value_of_form form.Untyped = effect 0 1
value_of_form form.Initial = effect 1 1
value_of_form form.NoInitial = effect 0 1
value_of_form form.Parameter = effect 1 0
value_of_form form.Result = effect 1 0
value_of_form form.StructMember = effect 1 0
value_of_form form.TypeName = effect 0 1
value_of_form form.Template = effect 1 1
value_of_form form.TemplateArgument = effect 1 0
value_of_form form.TemplateEnd = effect 1 1
value_of_form form.If = effect 1 1
value_of_form form.IfEnd = effect 1 0
value_of_form form.Switch = effect 1 1
value_of_form form.SwitchEnd = effect 1 0
value_of_form form.LoopEnd = effect 1 0
value_of_form form.NoBreakIf = effect 0 1
value_of_form form.Let = effect 2 0
value_of_form form.LocalConst = effect 2 0
value_of_form form.Selector = effect 1 0
value_of_form form.BreakIf = effect 1 1
value_of_form form.ReturnValue = effect 1 0
value_of_form form.LocalVar = effect 3 0
value_of_form form.Phony = effect 1 0
value_of_form form.Name = effect 0 1
value_of_form form.StatementCall = effect 1 1
value_of_form form.CallStatement = effect 1 0
value_of_form form.Dereference = effect 1 1
value_of_form form.AddressOf = effect 1 1
value_of_form form.Assign = effect 2 0
value_of_form form.Again = effect 1 2
value_of_form form.Left = effect 1 1
value_of_form form.Add = effect 2 1
value_of_form form.Subtract = effect 2 1
value_of_form form.Multiply = effect 2 1
value_of_form form.Divide = effect 2 1
value_of_form form.Remainder = effect 2 1
value_of_form form.BitAnd = effect 2 1
value_of_form form.BitOr = effect 2 1
value_of_form form.BitXor = effect 2 1
value_of_form form.ShiftLeft = effect 2 1
value_of_form form.ShiftRight = effect 2 1
value_of_form form.One = effect 0 1
value_of_form form.Negate = effect 1 1
value_of_form form.Less = effect 2 1
value_of_form form.LessEqual = effect 2 1
value_of_form form.Greater = effect 2 1
value_of_form form.GreaterEqual = effect 2 1
value_of_form form.Equal = effect 2 1
value_of_form form.NotEqual = effect 2 1
value_of_form form.OrStart = effect 1 1
value_of_form form.Or = effect 2 1
value_of_form form.AndStart = effect 1 1
value_of_form form.And = effect 2 1
value_of_form form.Not = effect 1 1
value_of_form form.Complement = effect 1 1
value_of_form form.Number = effect 0 1
value_of_form form.True = effect 0 1
value_of_form form.False = effect 0 1
value_of_form form.Call = effect 1 1
value_of_form form.CallEnd = effect 1 1
value_of_form form.Argument = effect 1 0
value_of_form form.Member = effect 1 1
value_of_form form.IndexStart = effect 1 1
value_of_form form.Index = effect 2 1
value_of_form _ = no_effect

abbrev pub value_of_rule : Rule → Effect
value_of_rule rule.TypedName = effect 0 1
value_of_rule rule.OptionalType = effect 0 1
value_of_rule rule.Initial = effect 0 1
value_of_rule rule.Type = effect 0 1
value_of_rule rule.Template = effect 1 1
value_of_rule rule.MoreTemplateArguments = effect 1 1
value_of_rule rule.TemplateArgumentsOrEnd = effect 1 1
value_of_rule rule.LoopBlock = effect 0 1
value_of_rule rule.LoopStatements = effect 0 1
value_of_rule rule.ContinuingBlock = effect 0 1
value_of_rule rule.ContinuingStatements = effect 0 1
value_of_rule rule.ContinuingBreak = effect 0 1
value_of_rule rule.AfterSimpleName = effect 1 0
value_of_rule rule.Target = effect 0 1
value_of_rule rule.TargetStart = effect 0 1
value_of_rule rule.Assignment = effect 1 0
value_of_rule rule.Expression = effect 0 1
value_of_rule rule.AfterFirst = effect 1 1
value_of_rule rule.BitAndChain = effect 1 1
value_of_rule rule.BitOrChain = effect 1 1
value_of_rule rule.BitXorChain = effect 1 1
value_of_rule rule.Products = effect 1 1
value_of_rule rule.Sums = effect 1 1
value_of_rule rule.Relation = effect 1 1
value_of_rule rule.Shift = effect 0 1
value_of_rule rule.ShiftTail = effect 1 1
value_of_rule rule.Logic = effect 1 1
value_of_rule rule.OrChain = effect 1 1
value_of_rule rule.AndChain = effect 1 1
value_of_rule rule.Comparison = effect 0 1
value_of_rule rule.ComparisonTail = effect 1 1
value_of_rule rule.Unary = effect 0 1
value_of_rule rule.Primary = effect 0 1
value_of_rule rule.AfterName = effect 1 1
value_of_rule rule.Arguments = effect 1 1
value_of_rule rule.MoreArguments = effect 1 1
value_of_rule rule.Postfix = effect 1 1
value_of_rule _ = no_effect

abbrev pub value_effects : Effects
value_effects = record { of_form = value_of_form; of_rule = value_of_rule }

-- ---- the lists that are collected: arguments, templates, attributes, selectors

abbrev pub list_of_form : Form → Effect
list_of_form form.DiagnosticStart = effect 0 1
list_of_form form.Diagnostic = effect 1 0
list_of_form form.AttributeName = effect 0 1
list_of_form form.Attribute = effect 1 0
list_of_form form.AttributeArgument = effect 1 1
list_of_form form.Template = effect 0 1
list_of_form form.TemplateArgument = effect 1 1
list_of_form form.TemplateEnd = effect 1 0
list_of_form form.Switch = effect 0 1
list_of_form form.SwitchEnd = effect 1 0
list_of_form form.CaseEnd = effect 1 1
list_of_form form.DefaultSelector = effect 1 1
list_of_form form.Selector = effect 1 1
list_of_form form.FallThrough = effect 1 1
list_of_form form.StatementCall = effect 0 1
list_of_form form.Call = effect 0 1
list_of_form form.CallEnd = effect 1 0
list_of_form form.Argument = effect 1 1
list_of_form _ = no_effect

abbrev pub list_of_rule : Rule → Effect
list_of_rule rule.OptionalArguments = effect 1 1
list_of_rule rule.AttributeArguments = effect 1 1
list_of_rule rule.MoreAttributeArguments = effect 1 1
list_of_rule rule.MoreTemplateArguments = effect 1 0
list_of_rule rule.TemplateArgumentsOrEnd = effect 1 0
list_of_rule rule.Cases = effect 1 1
list_of_rule rule.Selectors = effect 1 1
list_of_rule rule.AfterSelector = effect 1 1
list_of_rule rule.SelectorsOrBlock = effect 1 1
list_of_rule rule.Arguments = effect 1 0
list_of_rule rule.MoreArguments = effect 1 0
list_of_rule _ = no_effect

abbrev pub list_effects : Effects
list_effects = record { of_form = list_of_form; of_rule = list_of_rule }

-- ---- the open blocks

abbrev pub block_of_form : Form → Effect
block_of_form form.Block = effect 0 1
block_of_form form.BlockEnd = effect 1 0
block_of_form form.NoBreakIf = effect 1 1
block_of_form form.BreakIf = effect 1 1
block_of_form _ = no_effect

abbrev pub block_of_rule : Rule → Effect
block_of_rule rule.Statements = effect 1 0
block_of_rule rule.LoopStatements = effect 1 0
block_of_rule rule.ContinuingStatements = effect 1 0
block_of_rule rule.ContinuingBreak = effect 1 0
block_of_rule _ = no_effect

abbrev pub block_effects : Effects
block_effects = record { of_form = block_of_form; of_rule = block_of_rule }

-- ---- the finished blocks, which wait for their statement

abbrev pub finished_of_form : Form → Effect
finished_of_form form.Function = effect 1 0
finished_of_form form.BlockEnd = effect 0 1
finished_of_form form.BlockStatement = effect 1 0
finished_of_form form.IfEnd = effect 2 0
finished_of_form form.LoopEnd = effect 2 0
finished_of_form form.CaseEnd = effect 1 0
finished_of_form _ = no_effect

abbrev pub finished_of_rule : Rule → Effect
finished_of_rule rule.Block = effect 0 1
finished_of_rule rule.Statements = effect 0 1
finished_of_rule rule.Else = effect 0 1
finished_of_rule rule.AfterElse = effect 0 1
finished_of_rule rule.Selectors = effect 0 1
finished_of_rule rule.AfterSelector = effect 0 1
finished_of_rule rule.SelectorsOrBlock = effect 0 1
finished_of_rule rule.CaseBlock = effect 0 1
finished_of_rule rule.LoopBlock = effect 0 2
finished_of_rule rule.LoopStatements = effect 0 2
finished_of_rule rule.ContinuingBlock = effect 0 1
finished_of_rule rule.ContinuingStatements = effect 0 1
finished_of_rule rule.ContinuingBreak = effect 0 1
finished_of_rule _ = no_effect

abbrev pub finished_effects : Effects
finished_effects = record { of_form = finished_of_form; of_rule = finished_of_rule }

-- ---- turns

-- what a rule costs beyond its tokens
abbrev pub cost : Rule → ℕ
cost rule.Module = 6
cost rule.Directives = 4
cost rule.Items = 2
cost rule.Attributes = 2
cost rule.OptionalArguments = 2
cost rule.OptionalType = 3
cost rule.Initial = 3
cost rule.Result = 3
cost rule.Template = 2
cost rule.Else = 4
cost rule.AfterFirst = 10
cost rule.BitAndChain = 2
cost rule.BitOrChain = 2
cost rule.BitXorChain = 2
cost rule.Products = 2
cost rule.Sums = 2
cost rule.Relation = 4
cost rule.ShiftTail = 6
cost rule.Logic = 2
cost rule.OrChain = 2
cost rule.AndChain = 2
cost rule.ComparisonTail = 2
cost rule.AfterName = 2
cost rule.Postfix = 2
cost _ = 0

-- what the tokens of a rule pay beyond its costs
abbrev pub paid : Rule → ℕ
paid rule.Extensions = 123
paid rule.MoreExtensions = 62
paid rule.ExtensionsOrEnd = 62
paid rule.AttributedItem = 176
paid rule.Attribute = 58
paid rule.AttributeArguments = 62
paid rule.MoreAttributeArguments = 62
paid rule.TypedName = 58
paid rule.Parameters = 62
paid rule.MoreParameters = 62
paid rule.Member = 179
paid rule.MoreMembers = 62
paid rule.MembersOrEnd = 62
paid rule.Type = 59
paid rule.MoreTemplateArguments = 61
paid rule.TemplateArgumentsOrEnd = 61
paid rule.Block = 120
paid rule.Statements = 60
paid rule.Statement = 62
paid rule.AfterElse = 118
paid rule.Cases = 62
paid rule.Selectors = 154
paid rule.AfterSelector = 116
paid rule.SelectorsOrBlock = 120
paid rule.CaseBlock = 118
paid rule.LoopBlock = 117
paid rule.LoopStatements = 57
paid rule.ContinuingBlock = 119
paid rule.ContinuingStatements = 59
paid rule.ContinuingBreak = 120
paid rule.For = 296
paid rule.ForRest = 234
paid rule.ForCondition = 62
paid rule.ForUpdate = 62
paid rule.AfterReturn = 61
paid rule.Simple = 112
paid rule.AfterSimpleName = 53
paid rule.Target = 57
paid rule.TargetStart = 61
paid rule.Assignment = 57
paid rule.Expression = 41
paid rule.Shift = 45
paid rule.Comparison = 41
paid rule.Unary = 53
paid rule.Primary = 57
paid rule.Arguments = 61
paid rule.MoreArguments = 61
paid _ = 0

abbrev pub weights : Weights
weights = record { per_token = 64; most_paid = 461; cost = cost; paid = paid }
