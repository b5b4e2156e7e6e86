use Rattle.std.proofs.Common.{◌≡◌, ◌∙◌, ◌<◌, ◌+◌, ◌-◌, ◌||◌, ap, sym, subst, arith, length, ℕ, Bool, Vec, Global}
use Rattle.naga_oil_form.specs.Links.{lists, linked, is_marked, has}
use Rattle.naga_oil_form.proofs.LinkLemmas.{linked-at, named_within, spread_one, spread_none, IsSpread, IsSpread-start, IsSpread-step, IsSpread-end}
use Rattle.naga_oil_form.proofs.links.reached_from.Goals as goal
use Rattle.naga_oil_form.proofs.links.reached_from.Goals.{then-is_marked, else-is_marked}

pub loop-step-init : goal.loop-step-init
loop-step-init c = record {
  long = c.in_ok-marks.ensures.long;
  spread = IsSpread-start c.args.links.now c.args.roots.now c.in_ok-marks.marks.items c.in_ok-marks.ensures.marks;
}

pub mark_all-requires : goal.mark_all-requires
mark_all-requires c =
    named_within c.args.links.now (length c.args.links.now - 1 - c.loop-step.step) c.index-links-place.result _ _ c.requires.earlier (omega arith) c.index-links-place.is c.loop-step.invariant.long c.as_slice.ensures.value

pub loop-step-preserved : goal.loop-step-preserved
loop-step-preserved c =
    let links = c.args.links.now in
    let roots = c.args.roots.now in
    let n = length links in
    let p = n - 1 - c.loop-step.step in
    let old = c.loop-step.marks.items in
    let far : p + 1 + c.loop-step.step ≡ n = omega arith in
    let within : p < n = omega arith in
    let M : Vec Bool Global → Type 0 = λ v. (length v.items ≡ n) × IsSpread (lists links) roots n (c.loop-step.step + 1) v.items in
    let mark = ap (λ ms. is_marked ms p) (sym c.deref.ensures.value) ∙ sym c.is_marked.ensures in
    let spread = IsSpread-step (lists links) c.requires.earlier roots n c.loop-step.step p old in
    let done : M c.if-is_marked.marks = elim c.if-is_marked.branch [ then-is_marked w ↦ subst M (sym w.marks-is) (w.mark_all.ensures.long ∙ c.loop-step.invariant.long, spread w.mark_all.new.marks.items c.loop-step.invariant.spread far (λ k. w.mark_all.ensures.marked k ∙ ap (λ b. is_marked old k || b) (spread_one _ _ _ (mark ∙ w.if-is_marked.true) (ap (λ xs. has xs k) (w.as_slice.ensures.value ∙ sym (linked-at links p w.index-links-place.result within w.index-links-place.is)))))) | else-is_marked w ↦ subst M (sym w.marks-is) (c.loop-step.invariant.long, spread old c.loop-step.invariant.spread far (λ k. spread_none (is_marked old p) (is_marked old k) (has (linked (lists links) p) k) (mark ∙ w.if-is_marked.false))) ] in
    record { long = done.0; spread = done.1 }

pub returns : goal.returns
returns c =
    let over : c.loop-step.step ≡ length c.args.links.now = omega arith in
    let Q : ℕ → Type 0 = λ i. IsSpread (lists c.args.links.now) c.args.roots.now (length c.args.links.now) i c.loop-step.marks.items in
    IsSpread-end (lists c.args.links.now) c.args.roots.now (length c.args.links.now) c.loop-step.marks.items (subst Q over c.loop-step.invariant.spread)
