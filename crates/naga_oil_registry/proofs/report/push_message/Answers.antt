use Rattle.std.proofs.Common.{Some, string_bytes, append_assoc}
use Rattle.naga_oil_conditions.specs.Fault as fault
use Rattle.naga_oil_registry.specs.Report.{message}
use Rattle.naga_oil_registry.proofs.WritingLemmas.{on_pushed}
use Rattle.naga_oil_registry.proofs.report.push_message.Goals as goal

pub returns-in-ImportNotFound : goal.returns-in-ImportNotFound
returns-in-ImportNotFound c = rw c.in-ImportNotFound.is c.write.ensures.bytes

pub returns-in-WgslBackError : goal.returns-in-WgslBackError
returns-in-WgslBackError c = rw c.in-WgslBackError.is c.write-in-WgslBackError.ensures.bytes

pub returns-in-GlslBackError : goal.returns-in-GlslBackError
returns-in-GlslBackError c = rw c.in-GlslBackError.is c.write-in-GlslBackError.ensures.bytes

pub returns-in-HeaderValidationError : goal.returns-in-HeaderValidationError
returns-in-HeaderValidationError c = rw c.in-HeaderValidationError.is c.write-in-HeaderValidationError.ensures.bytes

pub returns-in-ShaderValidationError : goal.returns-in-ShaderValidationError
returns-in-ShaderValidationError c = rw c.in-ShaderValidationError.is c.write-in-ShaderValidationError.ensures.bytes

pub returns-in-UnknownShaderDefOperator : goal.returns-in-UnknownShaderDefOperator
returns-in-UnknownShaderDefOperator c = rw c.in-UnknownShaderDefOperator.is c.write-in-UnknownShaderDefOperator.ensures.bytes

pub returns-in-UnknownShaderDef : goal.returns-in-UnknownShaderDef
returns-in-UnknownShaderDef c = rw c.in-UnknownShaderDef.is c.write-in-UnknownShaderDef.ensures.bytes

pub returns-in-InconsistentShaderDefValue : goal.returns-in-InconsistentShaderDefValue
returns-in-InconsistentShaderDefValue c = rw c.in-InconsistentShaderDefValue.is c.write-in-InconsistentShaderDefValue.ensures.bytes

pub returns-in-OverrideNotVirtual : goal.returns-in-OverrideNotVirtual
returns-in-OverrideNotVirtual c = rw c.in-OverrideNotVirtual.is c.write-in-OverrideNotVirtual.ensures.bytes

pub returns-in-InvalidIdentifier : goal.returns-in-InvalidIdentifier
returns-in-InvalidIdentifier c = rw c.in-InvalidIdentifier.is c.write-in-InvalidIdentifier.ensures.bytes

pub returns-in-InvalidShaderDefComparisonValue : goal.returns-in-InvalidShaderDefComparisonValue
returns-in-InvalidShaderDefComparisonValue c = rw c.in-InvalidShaderDefComparisonValue.is (simp append_assoc c.write-in-InvalidShaderDefComparisonValue.ensures.bytes)

pub returns-in-InvalidWgslDirective : goal.returns-in-InvalidWgslDirective
returns-in-InvalidWgslDirective c = rw c.in-InvalidWgslDirective.is (simp append_assoc c.write-in-InvalidWgslDirective.ensures.bytes)

pub returns-in-NotEnoughEndIfs : goal.returns-in-NotEnoughEndIfs
returns-in-NotEnoughEndIfs c = rw c.in-NotEnoughEndIfs.is (on_pushed c.push_str-in-NotEnoughEndIfs.result (string_bytes c.push_str-in-NotEnoughEndIfs.new.self) (string_bytes c.args.out.now) (message (Some (fault.not_enough_end_ifs 0))) c.push_str-in-NotEnoughEndIfs.ensures.bytes)

pub returns-in-TooManyEndIfs : goal.returns-in-TooManyEndIfs
returns-in-TooManyEndIfs c = rw c.in-TooManyEndIfs.is (on_pushed c.push_str-in-TooManyEndIfs.result (string_bytes c.push_str-in-TooManyEndIfs.new.self) (string_bytes c.args.out.now) (message (Some (fault.too_many_end_ifs 0))) c.push_str-in-TooManyEndIfs.ensures.bytes)

pub returns-in-ElseWithoutCondition : goal.returns-in-ElseWithoutCondition
returns-in-ElseWithoutCondition c = rw c.in-ElseWithoutCondition.is (on_pushed c.push_str-in-ElseWithoutCondition.result (string_bytes c.push_str-in-ElseWithoutCondition.new.self) (string_bytes c.args.out.now) (message (Some (fault.else_without_condition 0))) c.push_str-in-ElseWithoutCondition.ensures.bytes)

pub returns-in-DecorationInSource : goal.returns-in-DecorationInSource
returns-in-DecorationInSource c = rw c.in-DecorationInSource.is (on_pushed c.push_str-in-DecorationInSource.result (string_bytes c.push_str-in-DecorationInSource.new.self) (string_bytes c.args.out.now) (message (Some (fault.decoration_in_source 0 0))) c.push_str-in-DecorationInSource.ensures.bytes)

pub returns-in-DefineInModule : goal.returns-in-DefineInModule
returns-in-DefineInModule c = rw c.in-DefineInModule.is (on_pushed c.push_str-in-DefineInModule.result (string_bytes c.push_str-in-DefineInModule.new.self) (string_bytes c.args.out.now) (message (Some (fault.define_in_module 0))) c.push_str-in-DefineInModule.ensures.bytes)

pub returns-in-WrongForm : goal.returns-in-WrongForm
returns-in-WrongForm c = rw c.in-WrongForm.is (on_pushed c.push_str-in-WrongForm.result (string_bytes c.push_str-in-WrongForm.new.self) (string_bytes c.args.out.now) (message (Some fault.wrong_form)) c.push_str-in-WrongForm.ensures.bytes)
