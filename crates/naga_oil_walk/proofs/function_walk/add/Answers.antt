use Rattle.std.proofs.Common.{◌∙◌, sym, ap, Vec, Global}
use Rattle.naga_oil_walk.specs.Naming.{requests_at}
use Rattle.naga_oil_walk.specs.declared.walk.Request.{Request}
use Rattle.naga_oil_walk.proofs.NamingLemmas.{name_known}
use Rattle.naga_oil_walk.proofs.ReachSteps.{adds_all, over_add}
use Rattle.naga_oil_walk.proofs.function_walk.add.Goals as goal

pub returns-then-has-clause-requests : goal.returns-then-has-clause-requests
returns-then-has-clause-requests c = name_known c.args.of.now.named.items c.args.walk.now.places.items c.args.walk.now.requests.items c.args.place c.requires.over.covers (sym c.has.ensures ∙ c.if-has.true)

pub returns-clause-requests : goal.returns-clause-requests
returns-clause-requests c = adds_all c.args.walk.now.requests.items _ (requests_at c.args.of.now.named.items c.args.place) (ap (λ (v : Vec Request Global). v.items) c.list.ensures.requests ∙ c.in_ok-request.ensures)

pub returns-clause-over : goal.returns-clause-over
returns-clause-over c = over_add c.args.of.now c.args.walk.now _ c.args.place c.requires.over c.in_ok-list.ensures.order c.list.ensures.marks (ap (λ (v : Vec Request Global). v.items) c.list.ensures.requests ∙ c.in_ok-request.ensures)
