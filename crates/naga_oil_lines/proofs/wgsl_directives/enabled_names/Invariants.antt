use Rattle.std.proofs.Common.{◌≡◌, [], map, take}
use Rattle.std.specs.List.{fold}
use Rattle.naga_oil_lines.specs.Directives.{enable_of}
use Rattle.naga_oil_words.specs.Texts.{with_name}
use Rattle.naga_oil_lines.specs.DirectivesText.{names_of}
use Rattle.naga_oil_lines.proofs.wgsl_directives.enabled_names.Given as goal

abbrev pub invariant-loop-enable : goal.invariant-loop-enable
invariant-loop-enable l = map (λ n. n.now) l.names.keys ≡ fold with_name [] (names_of (map enable_of (take l.enable-index l.enables)))
