use Rattle.std.proofs.Common.{◌≡◌, ◌∙◌, ℕ, Bool, Option, Some, None, List, cond, sym, ap}
use Rattle.naga_oil_imports.specs.Uses.{use_of}
use Rattle.naga_oil_registry.specs.Registered.{definition_of, defs_of}
use Rattle.naga_oil.specs.MakeView.{rule_of}
use Rattle.naga_oil.specs.Reach.{Unreached, missing}
use Rattle.naga_oil.specs.declared.compose.reach.Rule.{Rule}
use Rattle.naga_oil.proofs.ReachLemmas.{as_missing, recorded_if, merged_if}
use Rattle.naga_oil.proofs.compose.make.Maker.refuse.Goals as goal
use Rattle.naga_oil.proofs.compose.make.Maker.refuse.Goals.{in-Any, in-Recorded, in-Merged}

-- the test of a rule, and the definition
abbrev told : List ℕ → Bool × ℕ → Option Unreached
told name p = cond p.0 None (Some (missing name p.1))

pub returns-then-allowed : goal.returns-then-allowed
returns-then-allowed g c =
    let ds = c.args.self.now.modules.now in
    let defs = defs_of c.args.self.now.defs in
    let u = use_of c.args.import.now in
    let name = c.as_str-name.result.now in
    let called : name ≡ u.import.import = c.as_str-name.ensures.value ∙ ap (λ i. i.import) c.definition.ensures in
    let ruled : rule_of ds defs c.args.rule u ≡ told name c.match-rule.allowed = elim c.match-rule.branch [
      | in-Any w ↦ ap (λ (r : Rule). rule_of ds defs r u) w.in-Any.is ∙ ap (told name) (sym w.allowed-is)
      | in-Recorded w ↦ ap (λ (r : Rule). rule_of ds defs r u) w.in-Recorded.is ∙ recorded_if (definition_of w.in-Recorded.of.now) u name w.may_import.result called w.may_import.ensures ∙ ap (told name) (sym w.allowed-is)
      | in-Merged w ↦ ap (λ (r : Rule). rule_of ds defs r u) w.in-Merged.is ∙ merged_if ds defs u name w.may_use.result w.offset.result called w.may_use.ensures w.offset.ensures ∙ ap (told name) (sym w.allowed-is)
    ] in
    ruled ∙ ap (λ (b : Bool). told name (b, c.match-rule.allowed.1)) c.if-allowed.true

pub returns : goal.returns
returns g c =
    let ds = c.args.self.now.modules.now in
    let defs = defs_of c.args.self.now.defs in
    let u = use_of c.args.import.now in
    let name = c.as_str-name.result.now in
    let called : name ≡ u.import.import = c.as_str-name.ensures.value ∙ ap (λ i. i.import) c.definition.ensures in
    let ruled : rule_of ds defs c.args.rule u ≡ told name c.match-rule.allowed = elim c.match-rule.branch [
      | in-Any w ↦ ap (λ (r : Rule). rule_of ds defs r u) w.in-Any.is ∙ ap (told name) (sym w.allowed-is)
      | in-Recorded w ↦ ap (λ (r : Rule). rule_of ds defs r u) w.in-Recorded.is ∙ recorded_if (definition_of w.in-Recorded.of.now) u name w.may_import.result called w.may_import.ensures ∙ ap (told name) (sym w.allowed-is)
      | in-Merged w ↦ ap (λ (r : Rule). rule_of ds defs r u) w.in-Merged.is ∙ merged_if ds defs u name w.may_use.result w.offset.result called w.may_use.ensures w.offset.ensures ∙ ap (told name) (sym w.allowed-is)
    ] in
    as_missing c.missing.result name c.match-rule.allowed.1 (λ w. rule_of ds defs c.args.rule u ≡ Some w) (ruled ∙ ap (λ (b : Bool). told name (b, c.match-rule.allowed.1)) c.if-allowed.false) c.missing.ensures
