use Rattle.std.proofs.Common.{◌∙◌}
use Rattle.std.specs.Prelude.{codes}
use Rattle.yettuvam_faults.specs.Message.{named, two_named}
use Rattle.yettuvam_faults.proofs.message.said.Goals as goal

pub returns-in-InvalidShaderDefComparisonValue : goal.returns-in-InvalidShaderDefComparisonValue
returns-in-InvalidShaderDefComparisonValue c =
    rw c.in-InvalidShaderDefComparisonValue.is
    (c.two_named.ensures ∙ (λ i. two_named (codes "`") (c.as_str-in-InvalidShaderDefComparisonValue.ensures.value i) (codes "` can't be compared with `") (c.as_str-in-InvalidShaderDefComparisonValue-2.ensures.value i) (codes "`")))

pub returns-in-OverrideNotVirtual : goal.returns-in-OverrideNotVirtual
returns-in-OverrideNotVirtual c = rw c.in-OverrideNotVirtual.is (c.named-in-OverrideNotVirtual.ensures ∙ (λ i. named (codes "`") (c.as_str-in-OverrideNotVirtual.ensures.value i) (codes "` isn't virtual")))

pub returns-in-InvalidIdentifier : goal.returns-in-InvalidIdentifier
returns-in-InvalidIdentifier c = rw c.in-InvalidIdentifier.is (c.named-in-InvalidIdentifier.ensures ∙ (λ i. named (codes "`") (c.as_str-in-InvalidIdentifier.ensures.value i) (codes "` can't name an item of a module")))

pub returns-in-InvalidShaderDefDefinitionValue : goal.returns-in-InvalidShaderDefDefinitionValue
returns-in-InvalidShaderDefDefinitionValue c =
    rw c.in-InvalidShaderDefDefinitionValue.is
    (c.two_named-in-InvalidShaderDefDefinitionValue.ensures ∙ (λ i. two_named (codes "`") (c.as_str-in-InvalidShaderDefDefinitionValue.ensures.value i) (codes "` is no value for `") (c.as_str-in-InvalidShaderDefDefinitionValue-2.ensures.value i) (codes "`")))
