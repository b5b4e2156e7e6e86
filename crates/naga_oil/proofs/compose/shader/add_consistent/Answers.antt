use Rattle.std.proofs.Common.{◌≡◌, ◌∷◌, true, false, Err, sym, ap, ◌∙◌, rules}
use Rattle.std.specs.String.{string_bytes}
use Rattle.std.proofs.lemmas.Map.Iter.{rest_more}
use Rattle.naga_oil_conditions.specs.Fault.{inconsistent_def}
use Rattle.naga_oil_registry.specs.Registered.{defs_of}
use Rattle.naga_oil_registry.specs.Merged.{with_def}
use Rattle.naga_oil.specs.Shader.{defs_union, agrees, value_of}
use Rattle.naga_oil_registry.proofs.MergedLemmas.{named, named-insert}
use Rattle.naga_oil.proofs.MergingLemmas.{value-named, joined_more, joined_not}
use Rattle.naga_oil.proofs.compose.shader.add_consistent.Goals as goal

pub returns-then-not-agrees : goal.returns-then-not-agrees
returns-then-not-agrees c =
    let name = string_bytes c.in-Some.name.now in
    let value = c.in-Some.value.now in
    let defs = defs_of c.loop-name.defs in
    let step : c.loop-name.name-iterator ≡ (c.in-Some.name.now, value) ∷ c.next.new.self = rest_more (λ x. (x.0.now, x.1.now)) _ _ _ _ c.in-Some.is c.next.ensures.steps in
    let same : string_bytes c.in_ok-clone.field-0 ≡ name = search rules in
    let known = c.in_ok-known.ensures.old ∙ value-named c.loop-name.defs.entries c.in_ok-clone.field-0 ∙ ap (value_of defs) same in
    let other : agrees value (value_of defs name) ≡ false = ap (agrees value) (sym known) ∙ sym c.agrees.ensures ∙ c.if-not-agrees.true in
    sym c.loop-name.invariant ∙ ap (λ es. defs_union defs (named es)) step ∙ joined_not defs (name, value) (named c.next.new.self) other ∙ ap (λ n. Err (inconsistent_def n)) (sym c.in_ok-clone-2.ensures.cases)

pub loop-name-preserved : goal.loop-name-preserved
loop-name-preserved c =
    let name = string_bytes c.in-Some.name.now in
    let value = c.in-Some.value.now in
    let defs = defs_of c.loop-name.defs in
    let step : c.loop-name.name-iterator ≡ (c.in-Some.name.now, value) ∷ c.next.new.self = rest_more (λ x. (x.0.now, x.1.now)) _ _ _ _ c.in-Some.is c.next.ensures.steps in
    let same : string_bytes c.in_ok-clone.field-0 ≡ name = search rules in
    let known = c.in_ok-known.ensures.old ∙ value-named c.loop-name.defs.entries c.in_ok-clone.field-0 ∙ ap (value_of defs) same in
    let agreed : agrees value (value_of defs name) ≡ true = ap (agrees value) (sym known) ∙ sym c.agrees.ensures ∙ c.if-not-agrees.false in
    let more : defs_of c.insert.new.self ≡ with_def defs (name, value) = ap named c.in_ok-known.ensures.entries ∙ named-insert c.loop-name.defs.entries c.in_ok-clone.field-0 value ∙ ap (λ n. with_def defs (n, value)) same in
    ap (λ ds. defs_union ds (named c.next.new.self)) more ∙ sym (joined_more defs (name, value) (named c.next.new.self) agreed) ∙ ap (λ es. defs_union defs (named es)) (sym step) ∙ c.loop-name.invariant
