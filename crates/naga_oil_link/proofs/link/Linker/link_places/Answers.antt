use Rattle.std.proofs.Common.{◌≡◌, ℕ, List, [], ◌∷◌, Some, fold, map, slice_get, refl, ap, sym, subst, ◌∙◌}
use Rattle.std.proofs.lemmas.Map.Iter.{rest_more, rest_all}
use Rattle.std.proofs.lemmas.Option.{slice_get_past, slice_get-get_or}
use Rattle.naga_oil_ir.specs.ModuleValue.{module_value}
use Rattle.naga_oil_ir.specs.declared.names.ItemPlace.{ItemPlace}
use Rattle.naga_oil_derive.specs.Derived.{Derived}
use Rattle.naga_oil_derive.specs.DerivedValue.{import_item}
use Rattle.naga_oil_link.specs.ByName.{place_names, places_where, IsIndexOf}
use Rattle.naga_oil_link.specs.Linked.{asked_names, is_wanted}
use Rattle.naga_oil_link.specs.LinkView.{import_own}
use Rattle.naga_oil_link.specs.OwnPlaces.{own_of, is_own}
use Rattle.naga_oil_link.specs.Places.{places_of, name_at}
use Rattle.naga_oil_link.specs.declared.link.Linker.{Linker}
use Rattle.naga_oil_link.proofs.ByNameLemmas.{all_there}
use Rattle.naga_oil_link.proofs.LinkedLemmas.{fold_step, fold_end, none_there, left_there, made_there, folded_where}
use Rattle.naga_oil_link.proofs.SourceLemmas.{from_keeps, has_item, place_at}
use Rattle.naga_oil_link.proofs.link.Linker.link_places.Goals as goal

pub loop-at-init : goal.loop-at-init
loop-at-init c = record { source = c.requires.source; value = refl; rest = refl }

pub wanted-requires : goal.wanted-requires
wanted-requires c =
    let m = module_value c.args.of.from.now in
    let same = ap (map (name_at m)) (c.deref.ensures.value ∙ c.requires.items.places) in
    subst (λ names. IsIndexOf names c.args.of.by.now.by_name) (sym same) c.requires.items.by_name

pub import_item-requires : goal.import_item-requires
import_item-requires c =
    let m = c.args.of.from.now in
    has_item m _ _ c.loop-at.invariant.source (place_at m (places_of (module_value m)) c.deref-in-loop-at.result.now c.in-Some.at.now c.in-Some-get.place.now (all_there m) (c.deref-in-loop-at.ensures.value ∙ c.requires.items.places) c.in-Some-get.ensures.lookup.3.0 c.in-Some-get.ensures.lookup.1)

pub loop-at-preserved : goal.loop-at-preserved
loop-at-preserved c =
    let own = own_of c.args.of.own.now in
    let d = c.loop-at.self.derived in
    let ps = c.args.of.by.now.places.items in
    let k = c.in-Some.at.now in
    let p = c.in-Some-get.place.now in
    let next : c.loop-at.at-iterator ≡ k ∷ c.next.new.self = rest_more (λ x. x.now) _ _ _ _ c.in-Some.is c.next.ensures.steps in
    let there : slice_get ps k ≡ Some p = ap (λ (qs : List ItemPlace). slice_get qs k) (sym c.deref-in-loop-at.ensures.value) ∙ slice_get-get_or c.deref-in-loop-at.result.now k p c.in-Some-get.ensures.lookup.3.0 ∙ ap Some (sym c.in-Some-get.ensures.lookup.1) in
    record {
      source = from_keeps _ _ _ c.loop-at.invariant.source c.import_item.ensures.keeps;
      value = fold_step (λ (e : Derived) (k : ℕ). import_own own e (slice_get ps k)) d c.import_item.new.into k c.next.new.self c.loop-at.at-iterator _ next (made_there (is_own own) import_item d (slice_get ps k) p there (sym c.contains.ensures ∙ c.if-not-contains.false) c.import_item.new.into c.in_ok-import_item.ensures.value) c.loop-at.invariant.value;
      rest = ap (λ (s : Linker). record s { derived = c.import_item.new.into }) c.loop-at.invariant.rest;
    }

pub loop-at-preserved-then-not-contains : goal.loop-at-preserved-then-not-contains
loop-at-preserved-then-not-contains c =
    let own = own_of c.args.of.own.now in
    let d = c.loop-at.self.derived in
    let ps = c.args.of.by.now.places.items in
    let k = c.in-Some.at.now in
    let p = c.in-Some-get.place.now in
    let next : c.loop-at.at-iterator ≡ k ∷ c.next.new.self = rest_more (λ x. x.now) _ _ _ _ c.in-Some.is c.next.ensures.steps in
    let there : slice_get ps k ≡ Some p = ap (λ (qs : List ItemPlace). slice_get qs k) (sym c.deref-in-loop-at.ensures.value) ∙ slice_get-get_or c.deref-in-loop-at.result.now k p c.in-Some-get.ensures.lookup.3.0 ∙ ap Some (sym c.in-Some-get.ensures.lookup.1) in
    record {
      source = c.loop-at.invariant.source;
      value = fold_step (λ (e : Derived) (k : ℕ). import_own own e (slice_get ps k)) d d k c.next.new.self c.loop-at.at-iterator _ next (left_there (is_own own) import_item d (slice_get ps k) p there (sym c.contains.ensures ∙ c.if-not-contains.true)) c.loop-at.invariant.value;
      rest = c.loop-at.invariant.rest;
    }

pub loop-at-preserved-in_default : goal.loop-at-preserved-in_default
loop-at-preserved-in_default c =
    let own = own_of c.args.of.own.now in
    let d = c.loop-at.self.derived in
    let ps = c.args.of.by.now.places.items in
    let k = c.in-Some.at.now in
    let next : c.loop-at.at-iterator ≡ k ∷ c.next.new.self = rest_more (λ x. x.now) _ _ _ _ c.in-Some.is c.next.ensures.steps in
    let past = rw c.in_default.is at c.get.ensures.lookup in
    let none = ap (λ (qs : List ItemPlace). slice_get qs k) (sym c.deref-in-loop-at.ensures.value) ∙ slice_get_past c.deref-in-loop-at.result.now k past.3 in
    record {
      source = c.loop-at.invariant.source;
      value = fold_step (λ (e : Derived) (k : ℕ). import_own own e (slice_get ps k)) d d k c.next.new.self c.loop-at.at-iterator _ next (none_there (is_own own) import_item d (slice_get ps k) none) c.loop-at.invariant.value;
      rest = c.loop-at.invariant.rest;
    }

pub returns-in_err-import_item-clause-source : goal.returns-in_err-import_item-clause-source
returns-in_err-import_item-clause-source c = from_keeps _ _ _ c.loop-at.invariant.source c.import_item.ensures.keeps

pub returns-clause-value : goal.returns-clause-value
returns-clause-value c =
    let own = own_of c.args.of.own.now in
    let m = module_value c.args.of.from.now in
    let d = c.args.self.now.derived in
    let test = is_wanted (asked_names c.args.asked) in
    let none : c.loop-at.at-iterator ≡ [] = rest_all (λ x. x.now) _ _ _ c.in-None.is c.next.ensures.steps in
    let names = map (name_at m) c.deref.result.now in
    let same : names ≡ place_names m = ap (map (name_at m)) (c.deref.ensures.value ∙ c.requires.items.places) in
    let keys = c.into_iter-at-iterator.ensures.into_iter_gives ∙ c.iter-at-items.ensures.rest ∙ c.in_ok-places.ensures ∙ ap (places_where test) same in
    fold_end _ c.loop-at.self.derived c.loop-at.at-iterator _ none c.loop-at.invariant.value
    ∙ (λ i. fold (λ (e : Derived) (k : ℕ). import_own own e (slice_get (c.requires.items.places i) k)) d (keys i))
    ∙ folded_where (is_own own) import_item (name_at m) test (places_of m) d
