-- Expressions that are put at a place, seen as their pieces.
use Rattle.std.proofs.Common.{◌≡◌, ℕ, ◌≤◌, List, length, slice_set, sym}
use Rattle.std.proofs.lemmas.List.{length-map, map-set, set_past}
use Rattle.yettuvam_wgsl_written.specs.Written.{Written, written_of}
use Rattle.yettuvam_wgsl_written.specs.declared.written.Written.{Written as WrittenByCode}
use Rattle.yettuvam_wgsl_write_types.specs.Types.{values_of}

pub put_written : (xs : List WrittenByCode) (k : ℕ) (w : WrittenByCode) → values_of (slice_set xs k w) ≡ slice_set (values_of xs) k (written_of w)
put_written xs k w = map-set written_of xs k w

pub put_past : (xs : List WrittenByCode) (k : ℕ) (w : Written) → length xs ≤ k → values_of xs ≡ slice_set (values_of xs) k w
put_past xs k w h = sym (set_past (values_of xs) k w (rw (length-map xs written_of) h))
