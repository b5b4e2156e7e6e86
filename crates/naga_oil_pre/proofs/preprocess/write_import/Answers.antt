use Rattle.std.proofs.Common.{◌≡◌, refl, string_bytes, Ok}
use Rattle.naga_oil_imports.specs.Declarations.{declared_of}
use Rattle.naga_oil_imports.specs.Leaves.{import_leaves, with_import}
use Rattle.naga_oil_pre.specs.KnownView.{known_of}
use Rattle.naga_oil_conditions.specs.SourceView.{line_of}
use Rattle.naga_oil_pre.specs.Reading.{taken}
use Rattle.naga_oil_pre.proofs.LoopLemmas.{import_turn, on_ok}
use Rattle.naga_oil_pre.proofs.TakingLemmas.{takes_blanks}
use Rattle.naga_oil_pre.proofs.preprocess.write_import.Goals as goal

pub returns-clause-ok : goal.returns-clause-ok
returns-clause-ok c =
    on_ok c.declare.result (with_import (declared_of c.args.imports.now.declared) (import_leaves (string_bytes c.in_ok-import.import)) ≡ Ok (declared_of c.declare.new.declared)) _ (rw (← c.as_str.ensures.value) c.declare.ensures.ok)
    (λ declares defs end levels.
    import_turn defs end levels (known_of c.args.imports.now) (known_of (record c.args.imports.now { declared = c.declare.new.declared })) (line_of c.args.line) c.args.braces c.args.source.now.left
    c.read_import.new.source.left (string_bytes c.args.out.now) (string_bytes c.blank_line.new.out) (string_bytes c.read_import.new.sink) (string_bytes c.in_ok-import.import)
    c.in_ok-import.ensures.left c.in_ok-import.ensures.text declares refl c.in_ok-blank_line.ensures
    (takes_blanks (c.blank_line.new.out) (c.read_import.new.sink) (taken c.args.braces c.args.source.now.left) c.in_ok-import.ensures.sink))
