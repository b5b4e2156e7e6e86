use Rattle.std.proofs.Common.{rules, ◌≡◌, false, ◌==◌}
use Rattle.std.specs.List.{list_any}
use Rattle.naga_oil_imports.proofs.PlainLemmas.{lacks_colons}
use Rattle.naga_oil_imports.proofs.substitute.lacks_colons.Goals as goal

pub returns-then-not-contains : goal.returns-then-not-contains
returns-then-not-contains c = λ _ i within rest e.
    let none : list_any (λ b. b == 58) c.args.text.now ≡ false = search rules in
    lacks_colons c.args.text.now none i within rest e
