use Rattle.std.proofs.Common.{length}
use denote.Text.{Utf8}
use denote.Shadow.{shadow}
use Rattle.std.specs.String.{string_bytes}
use Rattle.naga_oil_imports.specs.Declarations.{declared_of}
use Rattle.naga_oil_imports.specs.Uses.{uses_of}
use Rattle.naga_oil_imports.proofs.WalkLemmas.{Walk}
use Rattle.naga_oil_imports.proofs.substitute.Substitution.walk.Given as goal

abbrev pub invariant-loop-site : goal.invariant-loop-site
invariant-loop-site l = record {
  unwritten : shadow (Utf8 l.unwritten);
  rest : shadow (Utf8 l.rest);
  walk : Walk (declared_of l.self.declared_imports.now) l.self.allow_ambiguous l.self.offset l.input (string_bytes l.initial.output) (uses_of l.initial.used_imports) (uses_of l.used_imports) l.self.writes (string_bytes l.output) l.unwritten l.rest;
}

abbrev pub decreases-loop-site : goal.decreases-loop-site
decreases-loop-site l = length l.rest
