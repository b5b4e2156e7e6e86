use Rattle.std.proofs.Common.{◌≡◌, map, take}
use Rattle.std.specs.List.{fold}
use Rattle.std.specs.String.{string_bytes}
use Rattle.naga_oil_words.specs.Texts.{with_name}
use Rattle.naga_oil_lines.proofs.wgsl_directives.insert_names.Given as goal

abbrev pub invariant-loop-name : goal.invariant-loop-name
invariant-loop-name l =
    map (λ n. n.now) l.names.keys ≡ fold with_name (map (λ n. n.now) l.fn.names.keys) (map string_bytes (take l.name-index l.more))
