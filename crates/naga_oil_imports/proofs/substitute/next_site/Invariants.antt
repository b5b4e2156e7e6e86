use Rattle.std.proofs.Common.{false, length}
use denote.Text.{Utf8}
use denote.Shadow.{shadow}
use Rattle.naga_oil_imports.specs.Sites.{Passes}
use Rattle.naga_oil_imports.proofs.substitute.next_site.Given as goal

abbrev pub invariant-loop-rest : goal.invariant-loop-rest
invariant-loop-rest l = record {
  text : shadow (Utf8 l.rest);
  passes : Passes false l.text l.kept l.rest;
}

abbrev pub decreases-loop-rest : goal.decreases-loop-rest
decreases-loop-rest l = length l.rest
