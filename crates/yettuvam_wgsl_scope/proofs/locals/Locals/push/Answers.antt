use Rattle.std.proofs.Common.{rules, sym, ap, subst, ◌∙◌}
use Rattle.yettuvam_wgsl_scope.specs.LocalTable.{IsTable, newest_first, newest_place}
use Rattle.yettuvam_wgsl_scope.proofs.LocalFacts.{names_reversed, table_push}
use Rattle.yettuvam_wgsl_scope.proofs.locals.Locals.push.Goals as goal

pub invariant_of-self-in-Ok : goal.invariant_of-self-in-Ok
invariant_of-self-in-Ok c =
    let entries = c.self.inside.entries.items in
    let name = c.args.local.name.text.now in
    let before =
    c.place-before.ensures
    ∙ ap (λ l. newest_place name (newest_first l)) (sym c.self.view_is)
    ∙ ap (newest_place name) (names_reversed entries) in
    subst (λ es. IsTable es c.insert.new.self) (sym c.in_ok-push.ensures.items)
    (table_push entries c.self.inside.newest c.insert.new.self _ c.len-place.result c.self.invariant (search rules) c.in-Ok.ensures.updates before)
