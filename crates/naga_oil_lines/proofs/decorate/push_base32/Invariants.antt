use Rattle.std.proofs.Common.{◌≡◌, ◌<◌, ◌++◌, drop}
use Rattle.std.specs.String.{string_bytes}
use Rattle.std.specs.List.{flat_map}
use Rattle.naga_oil_lines.specs.Decorate.{bits, letters, base32}
use Rattle.naga_oil_lines.proofs.decorate.push_base32.Given as goal

abbrev pub invariant-loop-byte : goal.invariant-loop-byte
invariant-loop-byte l = record {
  pushed : string_bytes l.out ++ letters (bits l.count l.pending ++ flat_map (bits 8) (drop l.byte-index l.bytes)) ≡ string_bytes l.fn.out ++ base32 l.bytes;
  few : l.count < 5;
}
