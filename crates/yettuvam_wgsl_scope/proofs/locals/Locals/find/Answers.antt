use Rattle.std.proofs.Common.{ap, option_map, ◌∙◌}
use Rattle.yettuvam_wgsl_scope.specs.LocalTable.{chosen}
use Rattle.yettuvam_wgsl_scope.specs.Names.{local_view}
use Rattle.yettuvam_wgsl_scope.proofs.LocalFacts.{found}
use Rattle.yettuvam_wgsl_scope.proofs.locals.Locals.find.Goals as goal

pub returns : goal.returns
returns c =
    ap (option_map local_view) (c.at.ensures ∙ ap (chosen c.args.first c.args.self.now) c.place.ensures)
    ∙ found c.args.first c.args.self.now c.args.name.now
