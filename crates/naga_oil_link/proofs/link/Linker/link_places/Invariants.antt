use Rattle.std.proofs.Common.{◌≡◌, fold, slice_get}
use Rattle.naga_oil_link.specs.CopySources.{CopiesFrom}
use Rattle.naga_oil_link.specs.LinkView.{import_own}
use Rattle.naga_oil_link.specs.OwnPlaces.{own_of}
use Rattle.naga_oil_link.proofs.link.Linker.link_places.Given as goal

abbrev pub invariant-loop-at : goal.invariant-loop-at
invariant-loop-at l = record {
  source : CopiesFrom l.of.from.now l.self.derived;
  value : fold (λ d k. import_own (own_of l.of.own.now) d (slice_get l.of.by.now.places.items k)) l.self.derived l.at-iterator ≡ fold (λ d k. import_own (own_of l.of.own.now) d (slice_get l.of.by.now.places.items k)) l.fn.self.derived l.initial.at-iterator;
  rest : l.self ≡ record l.fn.self { derived = l.self.derived };
}
