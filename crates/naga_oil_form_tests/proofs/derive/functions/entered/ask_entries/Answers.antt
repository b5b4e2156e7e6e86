use Rattle.std.proofs.Common.{[]}
use Rattle.naga_oil_form_tests.proofs.SourceLemmas.{own_source, form_entries}
use Rattle.naga_oil_form_tests.proofs.derive.functions.entered.ask_entries.Goals as goal

pub returns-clause-set : goal.returns-clause-set
returns-clause-set c = (own_source c.in-Some.source _ c.args.derived.now c.source.ensures c.in-Some.is).0

pub returns-clause-entries : goal.returns-clause-entries
returns-clause-entries c =
    form_entries c.in-Some.source.now c.args.derived.now (own_source c.in-Some.source _ c.args.derived.now c.source.ensures c.in-Some.is) [] 1000 c.in_ok-check_form.ensures.ok
