use Rattle.std.proofs.Common.{◌≡◌, ◌<◌, ◌++◌, drop}
use Rattle.std.specs.List.{flat_map}
use Rattle.naga_oil_lines.specs.Decorate.{bits, value_of, bytes_of}
use Rattle.naga_oil_lines.proofs.decorate.base32_bytes.Given as goal

abbrev pub invariant-loop-letter : goal.invariant-loop-letter
invariant-loop-letter l = record {
  pushed : l.bytes.items ++ bytes_of (bits l.count l.pending ++ flat_map (λ c. bits 5 (value_of c)) (drop l.letter-index l.code)) ≡ bytes_of (flat_map (λ c. bits 5 (value_of c)) l.code);
  few : l.count < 8;
}
