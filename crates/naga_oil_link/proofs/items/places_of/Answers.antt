use Rattle.std.proofs.Common.{◌≡◌, ◌+◌, ◌<◌, ℕ, List, [], ◌∷◌, ◌++◌, length, All, ap, sym, subst, ◌∙◌, append_assoc, arith}
use Rattle.std.proofs.lemmas.List.Elements.{All-push}
use Rattle.std.proofs.lemmas.List.FromFn.{map-range_with_len_more}
use Rattle.naga_oil_form.specs.ItemForm.{IsThere}
use Rattle.naga_oil_ir.specs.declared.module.Module.{Module}
use Rattle.naga_oil_ir.specs.declared.names.ItemPlace.{ItemPlace}
use Rattle.naga_oil_ir.specs.declared.names.ItemPlace.TheVariants.{TypeItem, ConstantItem, OverrideItem, GlobalItem}
use Rattle.naga_oil_link.specs.Places.{places_from_first}
use Rattle.naga_oil_link.proofs.items.places_of.Goals as goal

one_more : (place : ℕ → ItemPlace) (before items new : List ItemPlace) (k h : ℕ) → items ≡ before ++ places_from_first place k → h ≡ k → new ≡ items ++ place h ∷ [] → new ≡ before ++ places_from_first place (k + 1)
one_more place before items new k h so_far same pushed =
    pushed ∙ ap (λ l. l ++ place h ∷ []) so_far ∙ append_assoc before (places_from_first place k) (place h ∷ [])
    ∙ ap (λ l. before ++ l) (ap (λ n. places_from_first place k ++ place n ∷ []) same ∙ sym (map-range_with_len_more place 0 k k (omega arith)))

one_there : (m : Module) (items new : List ItemPlace) (p : ItemPlace) → All (IsThere m) items → IsThere m p → new ≡ items ++ p ∷ [] → All (IsThere m) new
one_there m items new p h there pushed = subst (λ (ps : List ItemPlace). All (IsThere m) ps) (sym pushed) (All-push (IsThere m) items p h there)

pub loop-at-preserved : goal.loop-at-preserved
loop-at-preserved c =
    let within : c.new.result < length c.args.of.now.types = omega arith in
    record {
      there = one_there c.args.of.now _ _ (TypeItem c.new.result) c.loop-at.invariant.there within c.in_ok-push.ensures.items;
      places = one_more TypeItem [] _ _ _ c.new.result c.loop-at.invariant.places (omega arith) c.in_ok-push.ensures.items;
    }

pub loop-at-2-preserved : goal.loop-at-2-preserved
loop-at-2-preserved c =
    let within : c.new-in-loop-at-2.result < length c.args.of.now.constants = omega arith in
    record {
      there = one_there c.args.of.now _ _ (ConstantItem c.new-in-loop-at-2.result) c.loop-at-2.invariant.there within c.in_ok-push-2.ensures.items;
      places = one_more ConstantItem (places_from_first TypeItem (length c.args.of.now.types)) _ _ _ c.new-in-loop-at-2.result c.loop-at-2.invariant.places (omega arith) c.in_ok-push-2.ensures.items;
    }

pub loop-at-3-preserved : goal.loop-at-3-preserved
loop-at-3-preserved c =
    let within : c.new-in-loop-at-3.result < length c.args.of.now.overrides = omega arith in
    record {
      there = one_there c.args.of.now _ _ (OverrideItem c.new-in-loop-at-3.result) c.loop-at-3.invariant.there within c.in_ok-push-3.ensures.items;
      places = one_more OverrideItem (places_from_first TypeItem (length c.args.of.now.types) ++ places_from_first ConstantItem (length c.args.of.now.constants)) _ _ _ c.new-in-loop-at-3.result c.loop-at-3.invariant.places (omega arith) c.in_ok-push-3.ensures.items;
    }

pub loop-at-4-preserved : goal.loop-at-4-preserved
loop-at-4-preserved c =
    let within : c.new-in-loop-at-4.result < length c.args.of.now.global_variables = omega arith in
    record {
      there = one_there c.args.of.now _ _ (GlobalItem c.new-in-loop-at-4.result) c.loop-at-4.invariant.there within c.in_ok-push-4.ensures.items;
      places = one_more GlobalItem (places_from_first TypeItem (length c.args.of.now.types) ++ places_from_first ConstantItem (length c.args.of.now.constants) ++ places_from_first OverrideItem (length c.args.of.now.overrides)) _ _ _ c.new-in-loop-at-4.result c.loop-at-4.invariant.places (omega arith) c.in_ok-push-4.ensures.items;
    }
