use Rattle.std.proofs.Common.{◌≡◌, take, map, string_bytes}
use Rattle.std.specs.List.{concat}
use Rattle.naga_oil_imports.proofs.parse_imports.ImportLine.path_of.Given as goal

abbrev pub invariant-loop-head : goal.invariant-loop-head
invariant-loop-head l = string_bytes l.path ≡ concat (map string_bytes (take l.head-index l.self.heads.items))
