use Rattle.std.proofs.Common.{◌≡◌, take, fold}
use Rattle.naga_oil_ir.specs.ModuleValue.{module_value}
use Rattle.naga_oil_link.specs.CopiedBuild.{copies_of, copy_at, nothing_copied}
use Rattle.naga_oil_link.specs.CopySources.{CopiesFrom}
use Rattle.naga_oil_link.specs.OwnPlaces.{own_of}
use Rattle.naga_oil_link.proofs.copied.copy_places.Given as goal

abbrev pub invariant-loop-place : goal.invariant-loop-place
invariant-loop-place l = record {
  source : CopiesFrom l.source l.copies.derived;
  value : copies_of l.copies ≡ fold (copy_at l.all_types (module_value l.source) (own_of l.own) l.decoration) (nothing_copied (module_value l.source)) (take l.place-index l.place-items);
}
