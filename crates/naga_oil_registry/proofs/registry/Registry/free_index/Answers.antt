use Rattle.std.proofs.Common.{◌≡◌, ◌<◌, ◌||◌, List, Bool, eqb, length, sym, subst, ap, ◌∙◌, arith}
use Rattle.std.proofs.lemmas.Bool.{eqb-false}
use Rattle.std.specs.BTreeSet.{contains_text}
use Rattle.naga_oil_registry.specs.Registry.{standing, taken}
use Rattle.naga_oil_registry.specs.RegistryView.{AreMarks, IsKept}
use Rattle.naga_oil_registry.specs.declared.registry.Registry.TheInside.{Inside}
use Rattle.naga_oil_registry.proofs.RemovedLemmas.{all-stay}
use Rattle.naga_oil_registry.proofs.registry.Registry.free_index.Goals as goal
use Rattle.naga_oil_registry.proofs.registry.Registry.free_index.Goals.{then-is_empty+in_ok-self-inside, else-is_empty}

pub invariant_of-self : goal.invariant_of-self
invariant_of-self c =
    let ds = c.args.self.now in
    let stay = all-stay c.args.gone.now ds (c.is_empty.ensures.0 c.if-not-is_empty.false) in
    elim c.if-is_empty.branch [
      | then-is_empty+in_ok-self-inside w ↦
          let marks = w.in_ok-self-inside.ensures in
          let made : AreMarks w.in_ok-self-inside.field-0.items ds = λ some. (marks.len, λ index lt. marks.marks index lt ∙ ap (λ l. eqb index 0 || taken l index) stay) in
          subst (λ (i : Inside). IsKept i.modules.entries i.taken.items) (sym w.self-inside-is) (record { under = c.self.invariant.under; marked = subst (AreMarks w.in_ok-self-inside.field-0.items) (sym c.self.view_is) made })
      | else-is_empty w ↦ subst (λ (i : Inside). IsKept i.modules.entries i.taken.items) (sym w.self-inside-is) c.self.invariant
    ]

pub returns-clause-index : goal.returns-clause-index
returns-clause-index c =
    let ds = c.args.self.now in
    let left = standing (contains_text c.args.gone.now) ds in
    let stay : left ≡ ds = all-stay c.args.gone.now ds (c.is_empty.ensures.0 c.if-not-is_empty.false) in
    elim c.if-is_empty.branch [
      | then-is_empty+in_ok-self-inside w ↦
          let marks = w.in_ok-self-inside.ensures in
          let size = marks.len in
          let at = c.as_slice-2.ensures.value ∙ ap (λ (i : Inside). i.taken.items) w.self-inside-is in
          c.first_free-2.ensures left (subst (λ (l : List Bool). 0 < length l) (sym at) (omega (arith, size))) (subst (λ (l : List Bool). AreMarks l left) (sym at) (λ some. (size, marks.marks)))
      | else-is_empty w ↦
          let at = c.as_slice-2.ensures.value ∙ ap (λ (i : Inside). i.taken.items) w.self-inside-is in
          let kept : AreMarks c.self.inside.taken.items left = subst (AreMarks c.self.inside.taken.items) (c.self.view_is ∙ sym stay) c.self.invariant.marked in
          let some = eqb-false c.self.inside.taken.len 0 (sym c.is_empty-2.ensures ∙ w.if-is_empty.false) in
          let size : length c.as_slice-2.result.now ≡ c.self.inside.taken.len = c.as_slice-2.ensures.len ∙ ap (λ (i : Inside). i.taken.len) w.self-inside-is in
          c.first_free-2.ensures left (omega (arith, size, some)) (subst (λ (l : List Bool). AreMarks l left) (sym at) kept)
    ]
