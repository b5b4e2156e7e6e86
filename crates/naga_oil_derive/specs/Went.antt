-- What the handles of a source's functions map to.
use Rattle.std.specs.Prelude.{ℕ, unwrap_or}
use Rattle.std.specs.Global.{Global}
use Rattle.std.specs.declared.borrow.CowStr.{CowStr}
use Rattle.indexmap.specs.IndexMap.{IndexMap}
use Rattle.naga_oil_ir.specs.declared.module.Module.{Module}
use Rattle.naga_oil_rename.specs.Renames.{Renames}
use Rattle.naga_oil_derive.specs.Copying.{renames_under}
use Rattle.naga_oil_derive.specs.Callees.{callee_at}
use Rattle.naga_oil_derive.specs.declared.import.Went.{Went}
use Rattle.naga_oil_derive.specs.declared.maps.Maps.{Maps}

-- items map to their copies, and functions to the functions that their names mean
abbrev pub went_by : {S : Type 0} → Maps → Module → IndexMap (CowStr Global) ℕ S → Renames
went_by m source names = record (renames_under m) { function = λ h. unwrap_or (callee_at names source.functions h) h }

abbrev pub went : Went → Renames
went w = went_by w.maps.now w.source.now w.functions.now
