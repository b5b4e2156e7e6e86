use Rattle.std.proofs.Common.{◌≡◌, [], map}
use Rattle.std.specs.Map.Iter.{deref_pair}
use Rattle.naga_oil_derive.specs.Functions.{named_values, names_under}
use Rattle.naga_oil_derive.proofs.localized.Copied.named.Given as goal

abbrev pub invariant-loop-handle : goal.invariant-loop-handle
invariant-loop-handle l = named_values l.copies.entries ≡ names_under l.self.table.now [] (named_values (map deref_pair l.yielded))
