use Rattle.std.proofs.Common.{◌≡◌, ◌+◌, ◌-◌, ◌*◌, length, map, drop}
use Rattle.naga_oil_imports.specs.Uses.{import_of, use_of}
use Rattle.naga_oil.specs.MakeView.{defs_in, builds_in, modules_in, rule_of, unreached_of, BuildsMore, KeepsMore}
use Rattle.naga_oil.specs.Reach.{reach_each}
use Rattle.naga_oil.specs.StoreLaw.{reach_imports}
use Rattle.naga_oil.specs.declared.compose.reach.Unreached.{Unreached as CodeUnreached}
use Rattle.naga_oil.proofs.EnsureLemmas.{reaching_from}
use Rattle.naga_oil.proofs.KeepsLemmas.{nothing_wrong}
use Rattle.naga_oil.proofs.compose.make.Maker.+ensure.Given as goal

abbrev pub decreases-ensure : goal.decreases-ensure
decreases-ensure g l = 3 * (length l.self.now.modules.now - l.from)

abbrev pub decreases-ensure_each : goal.decreases-ensure_each
decreases-ensure_each g l = 3 * (length l.self.now.modules.now - l.from) + 1

abbrev pub decreases-ensure_kept : goal.decreases-ensure_kept
decreases-ensure_kept g l = 3 * (length l.self.now.modules.now - (l.place + 1)) + 1

abbrev pub decreases-ensure_built : goal.decreases-ensure_built
decreases-ensure_built g l = 3 * (length l.self.now.modules.now - (l.place + 1)) + 2

abbrev pub invariant-ensure_each-loop-import : goal.invariant-ensure_each-loop-import
invariant-ensure_each-loop-import g l =
    let m = l.fn.self in
    let rule = rule_of (modules_in m) (defs_in m) l.rule in
    let reaching = reaching_from g.B.Backend.front m l.from in
    record {
      rest : BuildsMore m l.self;
      reached : reach_each rule reaching (map use_of (drop l.import-index l.uses)) (builds_in l.self) ≡ reach_each rule reaching (map use_of l.uses) (builds_in m);
      keeps : KeepsMore g.B.Backend.front unreached_of (nothing_wrong CodeUnreached) m l.self;
    }

abbrev pub invariant-ensure_kept-loop-import : goal.invariant-ensure_kept-loop-import
invariant-ensure_kept-loop-import g l =
    let m = l.fn.self in
    let reaching = reaching_from g.B.Backend.front m (l.place + 1) in
    record {
      rest : BuildsMore m l.self;
      reached : reach_imports reaching (map import_of (drop l.import-index l.imports)) (builds_in l.self) ≡ reach_imports reaching (map import_of l.imports) (builds_in m);
      keeps : KeepsMore g.B.Backend.front unreached_of (nothing_wrong CodeUnreached) m l.self;
    }
