use Rattle.std.proofs.Common.{ℕ, Option, sym, ap, ◌∙◌}
use Rattle.std.specs.Option.{option_and_then}
use Rattle.yettuvam_wgsl_scope.specs.LocalTable.{newest_first, newest_place}
use Rattle.yettuvam_wgsl_scope.proofs.LocalFacts.{names_reversed}
use Rattle.yettuvam_wgsl_scope.proofs.locals.Locals.place.Goals as goal

pub returns-in-Some : goal.returns-in-Some
returns-in-Some c =
    let name = c.args.name.now in
    let entries = c.self.inside.entries.items in
    ap (λ (o : Option (Option ℕ)). option_and_then (λ p. p) o) c.in-Some.ensures.value
    ∙ c.self.invariant.newest name
    ∙ ap (newest_place name) (sym (names_reversed entries) ∙ ap newest_first c.self.view_is)

pub returns-in-None : goal.returns-in-None
returns-in-None c =
    let name = c.args.name.now in
    let entries = c.self.inside.entries.items in
    ap (λ (o : Option (Option ℕ)). option_and_then (λ p. p) o) c.in-None.ensures.value
    ∙ c.self.invariant.newest name
    ∙ ap (newest_place name) (sym (names_reversed entries) ∙ ap newest_first c.self.view_is)
