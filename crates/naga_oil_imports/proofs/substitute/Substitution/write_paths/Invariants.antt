use Rattle.std.proofs.Common.{◌≡◌, ◌++◌, take, IsTrue, false}
use Rattle.std.specs.String.{string_bytes}
use Rattle.naga_oil_imports.specs.Substituted.{path_text, mentions_at, with_mentions}
use Rattle.naga_oil_imports.specs.Uses.{uses_of}
use Rattle.naga_oil_imports.proofs.SiteLemmas.{of_paths}
use Rattle.naga_oil_imports.proofs.substitute.Substitution.write_paths.Given as goal

abbrev pub invariant-loop-path : goal.invariant-loop-path
invariant-loop-path l = record {
  text : IsTrue l.self.writes → string_bytes l.output ≡ string_bytes l.initial.output ++ of_paths (path_text l.identifier) l.following (take l.path-index l.paths);
  unwritten : l.self.writes ≡ false → string_bytes l.output ≡ string_bytes l.initial.output;
  used : uses_of l.used_imports ≡ with_mentions (uses_of l.initial.used_imports) (of_paths (mentions_at l.place) l.following (take l.path-index l.paths));
}
