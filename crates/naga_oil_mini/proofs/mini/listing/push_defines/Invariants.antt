use Rattle.std.proofs.Common.{◌≡◌, ◌++◌, map, string_bytes}
use Rattle.naga_oil_registry.specs.Registered.{defs_of}
use Rattle.naga_oil_mini.specs.Listing.{define_lines}
use Rattle.naga_oil_mini.proofs.mini.listing.push_defines.Given as goal

abbrev pub invariant-loop-name : goal.invariant-loop-name
invariant-loop-name l = l.out.items ++ define_lines (map (λ e. (string_bytes e.0, e.1)) l.name-iterator) ≡ l.fn.out.items ++ define_lines (defs_of l.defines)
