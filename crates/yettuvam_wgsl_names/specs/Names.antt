-- What the predeclared names mean.
use Rattle.std.specs.Prelude.{List, map}
use Rattle.yettuvam_wgsl_names.specs.Table.{Name}
use Rattle.yettuvam_wgsl_names.specs.declared.names.Predeclared.{Predeclared}
use Rattle.yettuvam_wgsl_names.specs.declared.names.TheConstants.{PREDECLARED}

-- the predeclared names, each with what it means
abbrev pub predeclared_rows : List (Name × Predeclared)
predeclared_rows = map (λ e. (e.0.now, e.1)) PREDECLARED
