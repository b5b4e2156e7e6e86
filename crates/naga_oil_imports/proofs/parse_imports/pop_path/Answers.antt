use Rattle.naga_oil_imports.proofs.DeclarationLemmas.{found, not_found, set_pops, nothing_pops, paths_less}
use Rattle.naga_oil_imports.proofs.parse_imports.pop_path.Goals as goal

pub returns-in-Some : goal.returns-in-Some
returns-in-Some c =
    let here = found c.args.key.now c.args.declared.now.entries c.in-Some.index c.in-Some.ensures.index c.in-Some.ensures.within in
    set_pops c.args.key.now c.args.declared.now.entries c.in-Some.index c.index_mut.result.now c.pop.new.self here c.index_mut.ensures.value (paths_less _ _ _ _ _ c.pop.ensures.items c.pop.ensures.rest c.pop.ensures.cases)

pub returns-in_default : goal.returns-in_default
returns-in_default c = nothing_pops c.args.key.now c.args.declared.now.entries (not_found c.args.key.now c.args.declared.now.entries c.in_default.ensures.index)
