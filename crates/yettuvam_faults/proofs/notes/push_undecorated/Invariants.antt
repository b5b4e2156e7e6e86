use Rattle.std.proofs.Common.{◌≡◌, ◌++◌, map, string_bytes, take}
use Rattle.naga_oil_lines.specs.Undecorate.{undecoration}
use Rattle.yettuvam_faults.proofs.notes.push_undecorated.Given as goal

abbrev pub invariant-loop-text : goal.invariant-loop-text
invariant-loop-text l = map string_bytes l.out.items ≡ map string_bytes l.fn.out.items ++ map undecoration (map string_bytes (take l.text-index l.texts))
