-- What holds of the names that are made.
use Rattle.std.specs.Prelude.{◌≡◌, ◌≤◌, ◌^◌, ◌++◌, ◌∷◌, [], true, false, Some, Ok}
use Rattle.naga_oil_ir.specs.declared.span.Span.{Span}
use Rattle.naga_oil_words.specs.Marks.{has_module_mark}
use Rattle.yettuvam_wgsl_names.specs.Table.{Name}
use Rattle.yettuvam_wgsl_written_names.specs.Items.{Naming, add_name}
use Rattle.yettuvam_wgsl_written_names.specs.Taken.{Taken, has, count_of, fresh}

-- a name that is made wasn't taken; a list of names holds fewer than 2^62
abbrev pub FreeLaw : Type 0
FreeLaw = (t : Taken) (n : Name) → count_of t ≤ 2 ^ 62 → has t (fresh t n).name ≡ false

-- a name that is free stays as it is
abbrev pub KeptLaw : Type 0
KeptLaw = (t : Taken) (n : Name) → has t n ≡ false → (fresh t n).name ≡ n

-- the decorated name of an item stays as it is, or is refused
abbrev pub DecoratedLaw : Type 0
DecoratedLaw = (s : Naming) (n : Name) (span : Span) (r : Naming) → has_module_mark n ≡ true → add_name s (Some n, span) ≡ Ok r → r.names ≡ s.names ++ Some n ∷ []
