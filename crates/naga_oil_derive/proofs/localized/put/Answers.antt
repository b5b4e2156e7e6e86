use Rattle.naga_oil_derive.proofs.FunctionCopies.{placed_unique, placed_last, values_unique, values_last}
use Rattle.naga_oil_derive.proofs.localized.put.Goals as goal

pub returns-then-unique-clause-place : goal.returns-then-unique-clause-place
returns-then-unique-clause-place c = placed_unique c.args.unique c.args.target.now c.args.copy.0 c.fetch_or_append.result c.if-unique.true c.fetch_or_append.ensures.place

pub returns-then-unique-clause-values : goal.returns-then-unique-clause-values
returns-then-unique-clause-values c = values_unique c.args.unique c.args.target.now c.fetch_or_append.new.self c.args.copy.0 c.args.copy.1 c.fetch_or_append.result c.if-unique.true c.fetch_or_append.ensures.items

pub returns-clause-place : goal.returns-clause-place
returns-clause-place c = placed_last c.args.unique c.args.target.now c.args.copy.0 c.append.result c.if-unique.false c.append.ensures.place

pub returns-clause-values : goal.returns-clause-values
returns-clause-values c = values_last c.args.unique c.args.target.now c.append.new.self c.args.copy.0 c.args.copy.1 c.append.result c.if-unique.false c.append.ensures.appended
