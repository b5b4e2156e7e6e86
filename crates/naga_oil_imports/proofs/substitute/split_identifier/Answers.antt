use Rattle.std.proofs.Common.{[], Some, None, ap}
use Rattle.std.specs.Option.{option_map_or}
use Rattle.naga_oil_imports.proofs.SubstituteLemmas.{split_first}
use Rattle.naga_oil_imports.proofs.substitute.split_identifier.Goals as goal

pub returns-in-Some-clause-first : goal.returns-in-Some-clause-first
returns-in-Some-clause-first c = ap (λ r. option_map_or (λ p. p.0) r c.args.name.now) (split_first c.args.name.now (Some c.in-Some.parts) c.in-Some.ensures.cases)

pub returns-in-Some-clause-following : goal.returns-in-Some-clause-following
returns-in-Some-clause-following c = ap (λ r. option_map_or (λ p. p.1) r []) (split_first c.args.name.now (Some c.in-Some.parts) c.in-Some.ensures.cases)

pub returns-in-None-clause-first : goal.returns-in-None-clause-first
returns-in-None-clause-first c = ap (λ r. option_map_or (λ p. p.0) r c.args.name.now) (split_first c.args.name.now None c.in-None.ensures.cases)

pub returns-in-None-clause-following : goal.returns-in-None-clause-following
returns-in-None-clause-following c = ap (λ r. option_map_or (λ p. p.1) r []) (split_first c.args.name.now None c.in-None.ensures.cases)
