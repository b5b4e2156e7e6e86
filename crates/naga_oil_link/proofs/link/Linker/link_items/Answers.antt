use Rattle.naga_oil_ir.specs.ModuleValue.{module_value}
use Rattle.naga_oil_link.specs.BuiltModule.{built_of}
use Rattle.naga_oil_link.specs.Linked.{asked_names}
use Rattle.naga_oil_link.proofs.LinkedLemmas.{header_linked, value_linked}
use Rattle.naga_oil_link.proofs.link.Linker.link_items.Goals as goal

pub returns-then-self-clause-value : goal.returns-then-self-clause-value
returns-then-self-clause-value c = header_linked c.link_source.result (built_of c.args.of.now) (asked_names c.args.asked) (module_value c.named.result.0.now) c.args.self.now.derived _ c.args.self.now.of_headers c.if-self.true c.named.ensures.value c.link_source.ensures.value

pub returns-clause-value : goal.returns-clause-value
returns-clause-value c = value_linked c.link_source-2.result (built_of c.args.of.now) (asked_names c.args.asked) (module_value c.get-from.result.now) c.args.self.now.derived _ c.args.self.now.of_headers c.if-self.false c.get-from.ensures.value c.link_source-2.ensures.value
