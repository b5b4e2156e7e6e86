use Rattle.std.proofs.Common.{◌≡◌, ◌++◌, ◌∷◌, [], rules}
use Rattle.naga_oil_imports.specs.Uses.{import_of, use_of}
use Rattle.naga_oil_pre.proofs.MetadataLemmas.{definitions_more}
use Rattle.naga_oil_pre.proofs.metadata.definitions_of.Goals as goal

pub loop-used-preserved : goal.loop-used-preserved
loop-used-preserved c =
    let same : import_of c.in_ok-try_clone.field-0 ≡ (use_of c.used-item.result).import = search rules in
    let more : c.push.new.self.items ≡ c.loop-used.definitions.items ++ c.in_ok-try_clone.field-0 ∷ [] = search rules in
    definitions_more c.args.imports.now c.loop-used.used-index c.used-item.result c.in_ok-try_clone.field-0 c.loop-used.definitions.items c.push.new.self.items c.loop-used-test.true c.used-item.is same more c.loop-used.invariant
