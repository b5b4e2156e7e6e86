use Rattle.std.proofs.Common.{◌≡◌, [], map, take}
use Rattle.std.specs.List.{fold}
use Rattle.naga_oil_lines.specs.Directives.{requires_of}
use Rattle.naga_oil_words.specs.Texts.{with_name}
use Rattle.naga_oil_lines.specs.DirectivesText.{names_of}
use Rattle.naga_oil_lines.proofs.wgsl_directives.required_names.Given as goal

abbrev pub invariant-loop-required : goal.invariant-loop-required
invariant-loop-required l = map (λ n. n.now) l.names.keys ≡ fold with_name [] (names_of (map requires_of (take l.required-index l.requires_)))
