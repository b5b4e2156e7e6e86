use Rattle.std.proofs.Common.{◌≡◌, ◌+◌, ◌≤◌, Vec, ◌||◌, true, false, length, get_or, drop, sym, ap, ◌∙◌, arith}
use Rattle.std.proofs.lemmas.List.{drop_all}
use Rattle.std.specs.BTreeSet.{contains_text}
use Rattle.naga_oil_registry.specs.Registered.{definition_of}
use Rattle.naga_oil_registry.specs.Registry.{standing, taken}
use Rattle.naga_oil_registry.proofs.KeptLemmas.{or_nothing, taken_on, taken_same}
use Rattle.naga_oil_registry.proofs.registry.Registry.taken_indices.Goals as goal
use Rattle.naga_oil_registry.proofs.registry.Registry.taken_indices.Goals.{then-not-contains, else-not-contains}

pub loop-place-smaller : goal.loop-place-smaller
loop-place-smaller c = omega (arith, c.len.ensures)

pub loop-place-preserved : goal.loop-place-preserved
loop-place-preserved c =
    let ds = c.args.self.now in
    let place = c.loop-place.place in
    let d = definition_of c.at-definition.result.now in
    let leaves = contains_text c.args.gone.now in
    let inv = c.loop-place.invariant in
    let within : place + 1 ≤ length ds = omega (arith, c.len.ensures) in
    elim c.if-not-contains.branch [
      | then-not-contains w ↦
          let stays : leaves d.name ≡ false = ap leaves (sym c.as_str.ensures.value) ∙ sym w.if-not-contains.ensures in
          let same : c.if-not-contains.taken.items ≡ w.mark.new.taken.items = ap (λ (v : Vec _ _). v.items) w.taken-is in
          let size = w.mark.ensures.0 in
          record {
            in_range = within;
            len = ap length same ∙ size ∙ inv.len;
            marks = λ index lt.
                taken_on leaves ds place d c.at-definition.ensures stays index (get_or c.loop-place.taken.items index false) (get_or c.if-not-contains.taken.items index false) (ap (λ l. get_or l index false) same ∙ w.mark.ensures.1 index (omega (arith, lt, inv.len)))
                ∙ inv.marks index lt;
          }
      | else-not-contains w ↦
          let goes : leaves d.name ≡ true = ap leaves (sym c.as_str.ensures.value) ∙ sym w.if-not-contains.ensures in
          let same : c.if-not-contains.taken.items ≡ c.loop-place.taken.items = ap (λ (v : Vec _ _). v.items) w.taken-is in
          record {
            in_range = within;
            len = ap length same ∙ inv.len;
            marks = λ index lt.
                ap (λ l. get_or l index false || taken (standing leaves (drop (place + 1) ds)) index) same
                ∙ ap (λ b. get_or c.loop-place.taken.items index false || b) (taken_same leaves ds place d c.at-definition.ensures goes index)
                ∙ inv.marks index lt;
          }
    ]

pub returns-clause-marks : goal.returns-clause-marks
returns-clause-marks c = λ index lt.
    let none = drop_all c.loop-place.place c.args.self.now (omega (arith, c.len.ensures)) in
    or_nothing (get_or c.loop-place.taken.items index false)
    ∙ ap (λ ds. get_or c.loop-place.taken.items index false || taken (standing (contains_text c.args.gone.now) ds) index) (sym none)
    ∙ c.loop-place.invariant.marks index lt
