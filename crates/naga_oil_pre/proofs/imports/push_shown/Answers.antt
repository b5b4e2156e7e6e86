use Rattle.std.specs.Str.{chars}
use Rattle.naga_oil_imports.specs.Declarations.{declared_of}
use Rattle.naga_oil_imports.specs.Substituted.{sites, usize_sites}
use Rattle.naga_oil_lines.specs.Tokens.{lexemes}
use Rattle.naga_oil_imports.specs.Uses.{uses_of}
use Rattle.naga_oil_pre.proofs.LoopLemmas.{never_ambiguous}
use Rattle.naga_oil_pre.proofs.imports.push_shown.Goals as goal

pub unreachable-requires : goal.unreachable-requires
unreachable-requires c =
    never_ambiguous (declared_of c.args.imports.now.declared) (usize_sites (sites 0 (lexemes 0 0 (chars c.as_str.result.now)))) (uses_of c.new-unused.result) (uses_of c.walk.new.used_imports)
    c.in-Err-Ambiguous.field-0 c.in-Err-Ambiguous.field-0-0 c.in-Err-Ambiguous.ensures.fault c.in-Err-Ambiguous.field-0-is
