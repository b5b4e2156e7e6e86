use Rattle.std.proofs.Common.{◌≡◌, ◌+◌, ◌∷◌, map, drop, option_map, sym, ap, ◌∙◌, arith}
use Rattle.std.proofs.lemmas.List.{at_drop_more, at_drop_all}
use Rattle.std.specs.BTreeMap.{get}
use Rattle.std.specs.Option.{option_or}
use Rattle.std.specs.Ordering.{nat_cmp}
use Rattle.naga_oil_imports.specs.Uses.{import_of}
use Rattle.naga_oil_conditions.specs.View.{fault_of}
use Rattle.naga_oil_link.specs.BuiltModule.{builds_of}
use Rattle.naga_oil_registry.specs.KeywordsView.{marked_of}
use Rattle.naga_oil_build.specs.Overriding.{overriding_of}
use Rattle.naga_oil_build.specs.Virtuals.{Overrides, with_overrides}
use Rattle.naga_oil_build.proofs.FunctionsLemmas.{none_told, some_told}
use Rattle.naga_oil_build.proofs.SplitLemmas.{or_told}
use Rattle.naga_oil_build.proofs.virtuals.read_overrides.Goals as goal

pub loop-function-preserved : goal.loop-function-preserved
loop-function-preserved c =
    let builds = builds_of c.args.over.builds.now in
    let imports = map import_of c.args.over.imports.now in
    let decoration = c.args.over.decoration.now in
    let i = c.loop-function.function-index in
    let functions = c.args.functions.now in
    let rest = map marked_of (drop (i + 1) functions) in
    let known = c.loop-function.invariant in
    let one = c.in_ok-read_override.ensures in
    let before : Overrides = record { edits = get nat_cmp c.loop-function.edits; overriding = overriding_of c.loop-function.overriding; fault = known.0 } in (
      option_or one.0 known.0,
      ap (option_map fault_of) c.or-last.ensures ∙ or_told c.in_ok-read_override.field-0 c.loop-function.last one.0 known.0 one.1 known.1,
      ap (λ (o : Overrides). with_overrides c.args.over.override_any builds imports decoration o rest) (one.2 known.0)
          ∙ ap (λ x. with_overrides c.args.over.override_any builds imports decoration before (map marked_of (x ∷ drop (i + 1) functions))) c.function-item.is
          ∙ sym (at_drop_more (λ fs. with_overrides c.args.over.override_any builds imports decoration before (map marked_of fs)) functions i c.function-item.result (omega arith)) ∙ known.2,
    )

pub returns-in-None : goal.returns-in-None
returns-in-None c =
    let builds = builds_of c.args.over.builds.now in
    let imports = map import_of c.args.over.imports.now in
    let decoration = c.args.over.decoration.now in
    let known = c.loop-function.invariant in
    let before : Overrides = record { edits = get nat_cmp c.loop-function.edits; overriding = overriding_of c.loop-function.overriding; fault = known.0 } in
    let all : before ≡ _ = sym (at_drop_all (λ fs. with_overrides c.args.over.override_any builds imports decoration before (map marked_of fs)) c.args.functions.now c.loop-function.function-index (omega arith)) ∙ known.2 in
    none_told _ before.edits before.overriding known.0 (ap (option_map fault_of) (sym c.in-None.is) ∙ known.1) all

pub returns-in-Some : goal.returns-in-Some
returns-in-Some c =
    let builds = builds_of c.args.over.builds.now in
    let imports = map import_of c.args.over.imports.now in
    let decoration = c.args.over.decoration.now in
    let known = c.loop-function.invariant in
    let before : Overrides = record { edits = get nat_cmp c.loop-function.edits; overriding = overriding_of c.loop-function.overriding; fault = known.0 } in
    let all : before ≡ _ = sym (at_drop_all (λ fs. with_overrides c.args.over.override_any builds imports decoration before (map marked_of fs)) c.args.functions.now c.loop-function.function-index (omega arith)) ∙ known.2 in
    some_told _ before.edits before.overriding c.in-Some.fault known.0 (ap (option_map fault_of) (sym c.in-Some.is) ∙ known.1) all
