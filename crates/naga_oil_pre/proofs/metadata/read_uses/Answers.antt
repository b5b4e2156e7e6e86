use Rattle.std.proofs.Common.{rules, arith, ◌≡◌, ◌+◌, ◌<◌, ◌^◌, length, ap, ◌∙◌}
use Rattle.std.specs.Str.{chars}
use Rattle.naga_oil_imports.specs.Declarations.{declared_of}
use Rattle.naga_oil_imports.specs.Substituted.{sites, usize_sites, mentions_in, with_mentions}
use Rattle.naga_oil_lines.specs.Tokens.{lexemes}
use Rattle.naga_oil_imports.specs.Uses.{uses_of}
use Rattle.naga_oil_conditions.specs.SourceView.{line_of}
use Rattle.naga_oil_pre.proofs.LoopLemmas.{never_ambiguous, counted}
use Rattle.naga_oil_pre.proofs.metadata.read_uses.Goals as goal

pub unreachable-requires : goal.unreachable-requires
unreachable-requires c =
    never_ambiguous (declared_of c.args.imports.now.declared) (usize_sites (sites c.args.line.now.offset (lexemes 0 0 (chars c.as_str.result.now)))) (uses_of c.args.imports.now.used) (uses_of c.walk.new.used_imports)
    c.in-Err-Ambiguous.field-0 c.in-Err-Ambiguous.field-0-0 c.in-Err-Ambiguous.ensures.fault c.in-Err-Ambiguous.field-0-is

pub returns-in-Ok-clause-used : goal.returns-in-Ok-clause-used
returns-in-Ok-clause-used c =
    let text = c.as_str.result.now in
    let whole = (line_of c.args.line.now).covered in
    let same : text ≡ whole = search rules in
    let fits : c.args.line.now.offset + length text < 2 ^ 64 = search (rules, arith) in
    c.in-Ok.ensures.used
    ∙ ap (λ ss. with_mentions (uses_of c.args.imports.now.used) (mentions_in (declared_of c.args.imports.now.declared) ss)) (counted c.args.line.now.offset text whole c.as_str.utf8 same fits)
