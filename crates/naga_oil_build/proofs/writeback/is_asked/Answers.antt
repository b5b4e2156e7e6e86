use Rattle.std.proofs.Common.{◌≡◌, ℕ, Bool, true, nat_eq, Option, Some, None, MatchOption, Bor, rules}
use Rattle.std.specs.BTreeSet.{BTreeSet}
use Rattle.std.specs.List.{list_any}
use Rattle.naga_oil_build.specs.WritebackView.{is_asked}
use Rattle.naga_oil_build.proofs.writeback.is_asked.Goals as goal

by : (o : Option (Bor (BTreeSet ℕ))) (place : ℕ) (r : Bool) → MatchOption o (r ≡ true) (λ ps. r ≡ list_any (nat_eq place) ps.now.keys) → r ≡ is_asked o place
by None place r h = h
by (Some ps) place r h = h

pub returns : goal.returns
returns c = by c.args.at c.args.place c.is_none_or.result (search rules)
