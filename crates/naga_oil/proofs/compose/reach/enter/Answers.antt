use Rattle.std.proofs.Common.{◌∙◌, refl, sym, rules}
use Rattle.std.specs.Arc.{arc_value}
use Rattle.naga_oil_link.specs.BuiltModule.{built_of, builds_of}
use Rattle.naga_oil.proofs.AfreshLemmas.{with_there}
use Rattle.naga_oil.proofs.ReachLemmas.{built_found, from_entries}
use Rattle.naga_oil.proofs.compose.reach.enter.Goals as goal

pub returns-in_ok-insert-clause-ok : goal.returns-in_ok-insert-clause-ok
returns-in_ok-insert-clause-ok c =
    from_entries c.insert.new.self.entries c.args.builds.now.entries c.in_ok-from_str.field-0 c.args.build c.args.name.now
    (sym (built_found _ c.args.name.now (λ a. refl) c.args.builds.now.entries) ∙ sym c.contains_key.ensures ∙ c.if-not-contains_key.true) (search rules) c.in_ok-insert.ensures.entries

pub returns-else-not-contains_key-clause-ok : goal.returns-else-not-contains_key-clause-ok
returns-else-not-contains_key-clause-ok c =
    sym (with_there (builds_of c.args.builds.now) c.args.name.now (built_of (arc_value c.args.build))
    (sym (built_found _ c.args.name.now (λ a. refl) c.args.builds.now.entries) ∙ sym c.contains_key.ensures ∙ c.if-not-contains_key.false))
