use Rattle.std.proofs.Common.{◌<◌, length, subst, arith}
use Rattle.std.proofs.lemmas.Bool.Decides.{nat_tests}
use Rattle.naga_oil_imports.proofs.SettledLemmas.{own_whole}
use Rattle.naga_oil_imports.proofs.substitute.own_path.Goals as goal

pub returns-else-is_empty : goal.returns-else-is_empty
returns-else-is_empty c =
    let some : 0 < length c.args.following.now = grind (arith, nat_tests) in
    own_whole c.args.identifier.now (subst (λ l. 0 < length l) c.requires.following some)
