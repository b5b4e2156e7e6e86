use Rattle.std.proofs.Common.{ap, fold, ◌∙◌, arith}
use Rattle.std.proofs.lemmas.List.{take_all}
use Rattle.naga_oil_ir.specs.ModuleValue.{module_value}
use Rattle.naga_oil_link.specs.CopiedBuild.{copy_at, copy_places, nothing_copied}
use Rattle.naga_oil_link.specs.OwnPlaces.{own_of}
use Rattle.naga_oil_link.proofs.CopiedLemmas.{one_more}
use Rattle.naga_oil_link.proofs.SourceLemmas.{place_at}
use Rattle.naga_oil_link.proofs.copied.copy_places.Goals as goal

pub copy_at-requires-clause-there : goal.copy_at-requires-clause-there
copy_at-requires-clause-there c = place_at c.args.source.now _ _ c.loop-place.place-index _ c.in_ok-places.ensures.there c.deref-place-items.ensures.value (omega arith) c.place-item.is

pub loop-place-init : goal.loop-place-init
loop-place-init c = record { source = c.in_ok-copies.ensures.source; value = c.in_ok-copies.ensures.value }

pub loop-place-preserved : goal.loop-place-preserved
loop-place-preserved c = record {
  source = c.copy_at.ensures.source;
  value = one_more (copy_at c.args.all_types (module_value c.args.source.now) (own_of c.args.own.now) c.args.decoration.now) _ _ c.loop-place.place-index c.place-item.result (omega arith) c.place-item.is _ _ c.loop-place.invariant.value c.in_ok-copy_at.ensures.value;
}

pub returns-clause-value : goal.returns-clause-value
unfolding copy_places
returns-clause-value c =
    let m = module_value c.args.source.now in
    c.loop-place.invariant.value ∙ ap (fold (copy_at c.args.all_types m (own_of c.args.own.now) c.args.decoration.now) (nothing_copied m)) (take_all c.loop-place.place-index c.deref-place-items.result.now (omega arith) ∙ c.deref-place-items.ensures.value ∙ c.in_ok-places.ensures.places)
