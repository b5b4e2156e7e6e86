use Rattle.std.proofs.Common.{◌≡◌, ◌∙◌, ◌+◌, ◌<◌, ◌∷◌, [], ℕ, Option, All, ap, sym, subst, length, take, option_to_list, refl, arith}
use Rattle.std.specs.List.{flat_map}
use Rattle.std.proofs.lemmas.List.{append-nil}
use Rattle.naga_oil_form.specs.Links.{lists, added, trail}
use Rattle.naga_oil_ir.specs.declared.names.ItemPlace.TheVariants.{TypeItem}
use Rattle.naga_oil_walk.specs.Walk.{IsReachOrder}
use Rattle.naga_oil_walk.specs.Walks.{IsOver}
use Rattle.naga_oil_walk.specs.Naming.{names_from, local_names, Adds}
use Rattle.naga_oil_walk.specs.declared.walk.Walk.{Walk}
use Rattle.naga_oil_walk.specs.declared.walk.Request.{Request}
use Rattle.naga_oil_walk.specs.declared.walk.Request.TheVariants.{Item}
use Rattle.naga_oil_walk.proofs.FunctionWalk.{inits-more, init_at}
use Rattle.naga_oil_walk.proofs.OptionLemmas.{none_if}
use Rattle.naga_oil_walk.proofs.NamingLemmas.{Adds-none, Adds-more}
use Rattle.naga_oil_walk.proofs.ReachSteps.{adds_all, adds_item, over_asked}
use Rattle.naga_oil_walk.proofs.function_walk.reach_locals.Goals as goal
use Rattle.naga_oil_walk.proofs.function_walk.reach_locals.Goals.{in-Some+in_ok-reach, in_default}

pub reach-requires-clause-in_range : goal.reach-requires-clause-in_range
reach-requires-clause-in_range c =
    let P : ℕ → Type 0 = λ h. h < length c.args.of.now.links.items in
    let own = init_at P c.args.locals.now c.loop-local.local-index c.local-item.result c.loop-local-test.true c.local-item.is c.requires.there in
    let one = subst (λ (o : Option ℕ). All P (option_to_list o)) c.in-Some.is own in
    let within : c.in-Some.init < length c.args.of.now.links.items = one 0 0 (omega arith) in
    omega (arith, within, c.index.ensures)

pub reach-requires-clause-over : goal.reach-requires-clause-over
reach-requires-clause-over c = over_asked c.args.of.now c.loop-local.walk _ (Item (TypeItem c.local-item.result.0.ty) ∷ []) c.loop-local.invariant.over refl refl c.in_ok-push.ensures.items

pub loop-local-preserved : goal.loop-local-preserved
loop-local-preserved c =
    let ns = c.args.of.now.named.items in
    let ls = lists c.args.of.now.links.items in
    let l = c.local-item.result in
    let xs = c.args.locals.now in
    let i = c.loop-local.local-index in
    let inv = c.loop-local.invariant in
    let cur = c.loop-local.walk.places.items in
    let first = c.args.walk.now.requests.items in
    let asked = c.loop-local.walk.requests.items in
    let t = c.push.new.self.items in
    let x : Request = Item (TypeItem l.0.ty) in
    let far = ap (λ o. added o (flat_map (trail ls) (option_to_list l.0.init))) inv.so_far ∙ inits-more (trail ls) c.args.walk.now.places.items xs i l c.loop-local-test.true c.local-item.is in
    elim c.match-local.branch [
      | in-Some+in_ok-reach w ↦
          let e = w.in_ok-reach.ensures in
          let k = w.in-Some.init in
          let u = w.reach.new.walk.requests.items in
          let here = ap (λ n. added cur (trail ls n)) w.index.ensures ∙ ap (added cur) (sym (append-nil (trail ls k)) ∙ ap (λ (o : Option ℕ). flat_map (trail ls) (option_to_list o)) (sym w.in-Some.is)) in
          let named = subst (λ (o : Option ℕ). Adds asked (x ∷ flat_map (names_from ns ls) (option_to_list o)) u) (sym w.in-Some.is) (adds_item (names_from ns ls) x asked t u k c.in_ok-push.ensures.items (subst (λ n. Adds t (names_from ns ls n) u) w.index.ensures e.requests)) in
          record {
            so_far = ap (λ (v : Walk). v.places.items) w.walk-is ∙ e.order ∙ here ∙ far;
            emitted = ap (λ (v : Walk). v.emitted) w.walk-is ∙ w.reach.ensures.emitted ∙ inv.emitted;
            ready = subst (λ (v : Walk). IsReachOrder ls v.places.items) (sym w.walk-is) e.ready;
            requests = subst (λ (v : Walk). Adds first (flat_map (local_names ns ls) (take (i + 1) xs)) v.requests.items) (sym w.walk-is) (Adds-more (local_names ns ls) first asked u xs i l c.loop-local-test.true c.local-item.is inv.requests named);
            over = subst (IsOver c.args.of.now) (sym w.walk-is) e.over;
          }
      | in_default w ↦
          let none = none_if l.0.init w.in_default.not-Some in
          let here : cur ≡ added cur (flat_map (trail ls) (option_to_list l.0.init)) = ap (λ (o : Option ℕ). added cur (flat_map (trail ls) (option_to_list o))) (sym none) in
          let named = subst (λ (o : Option ℕ). Adds asked (x ∷ flat_map (names_from ns ls) (option_to_list o)) t) (sym none) (adds_all asked t (x ∷ []) c.in_ok-push.ensures.items) in
          record {
            so_far = ap (λ (v : Walk). v.places.items) w.walk-is ∙ here ∙ far;
            emitted = ap (λ (v : Walk). v.emitted) w.walk-is ∙ inv.emitted;
            ready = subst (λ (v : Walk). IsReachOrder ls v.places.items) (sym w.walk-is) inv.ready;
            requests = subst (λ (v : Walk). Adds first (flat_map (local_names ns ls) (take (i + 1) xs)) v.requests.items) (sym w.walk-is) (Adds-more (local_names ns ls) first asked t xs i l c.loop-local-test.true c.local-item.is inv.requests named);
            over = subst (IsOver c.args.of.now) (sym w.walk-is) (over_asked c.args.of.now c.loop-local.walk _ (x ∷ []) inv.over refl refl c.in_ok-push.ensures.items);
          }
    ]

pub loop-local-init : goal.loop-local-init
loop-local-init c = record { so_far = refl; emitted = refl; ready = c.requires.ready; requests = Adds-none c.args.walk.now.requests.items; over = c.requires.over }
