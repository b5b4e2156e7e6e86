use Rattle.std.proofs.Common.{◌≡◌, Some, rules}
use Rattle.std.specs.Option.{option_copied}
use Rattle.naga_oil_conditions.specs.DefineValue.{defined_value}
use Rattle.naga_oil_pre.proofs.MetadataLemmas.{defines_name}
use Rattle.naga_oil_pre.proofs.defines.define.Goals as goal

pub returns-clause-ok : goal.returns-clause-ok
returns-clause-ok c =
    let is : defined_value (option_copied c.args.value) ≡ Some c.in-Some.defined = search rules in
    rw c.if-not-allow_defines.false
    (defines_name c.args.defines.now c.insert.new.self c.in_ok-from_str-3.field-0 c.args.name.now (option_copied c.args.value) c.args.offset c.in-Some.defined c.in_ok-from_str-3.ensures.ok is c.in_ok-insert.ensures.updates)
