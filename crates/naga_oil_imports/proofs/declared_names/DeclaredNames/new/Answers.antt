use Rattle.std.proofs.Common.{false}
use Rattle.std.proofs.lemmas.List.{get_or-replicate}
use Rattle.naga_oil_imports.specs.NameMarks.{slot_of}
use Rattle.naga_oil_imports.proofs.NameMarkLemmas.{slot_small}
use Rattle.naga_oil_imports.proofs.declared_names.DeclaredNames.new.Goals as goal

pub returns : goal.returns
returns c = λ name. get_or-replicate 64 (slot_of name) false false (slot_small name)
