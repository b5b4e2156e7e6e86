use Rattle.std.proofs.Common.{rules, arith, ◌≡◌, ◌+◌, ◌<◌, ◌^◌, length, false, sym, ap, ◌∙◌}
use Rattle.std.specs.BTreeMap.{get_by_text}
use Rattle.naga_oil_imports.specs.Declarations.{declared_of}
use Rattle.naga_oil_imports.specs.Uses.{uses_of}
use Rattle.naga_oil_imports.specs.Substituted.{sites, first_ambiguous, usize_sites, mentions_in, with_mentions}
use Rattle.naga_oil_lines.specs.Tokens.{lexemes}
use Rattle.std.specs.Str.{chars}
use Rattle.naga_oil_pre.specs.Preprocessed.{tokens_of}
use Rattle.naga_oil_conditions.specs.Replaced.{replaced}
use Rattle.naga_oil_conditions.specs.SourceView.{line_of}
use Rattle.naga_oil_pre.proofs.LoopLemmas.{counted, uses_refused}
use Rattle.naga_oil_pre.proofs.imports.use_line.Goals as goal

pub returns-in-Ok-clause-ok : goal.returns-in-Ok-clause-ok
returns-in-Ok-clause-ok c =
    let text = c.as_str-2.result.now in
    let whole = replaced (get_by_text c.args.definitions.now) (line_of c.args.line.now).covered in
    let same : text ≡ whole = search rules in
    let fits : c.args.line.now.offset + length text < 2 ^ 64 = search (rules, arith) in
    ap (first_ambiguous (declared_of c.args.imports.now.declared) false) (sym (counted c.args.line.now.offset text whole c.as_str-2.utf8 same fits)) ∙ c.in-Ok.ensures.allowed

pub returns-in-Ok-clause-used : goal.returns-in-Ok-clause-used
returns-in-Ok-clause-used c =
    let text = c.as_str-2.result.now in
    let whole = replaced (get_by_text c.args.definitions.now) (line_of c.args.line.now).covered in
    let same : text ≡ whole = search rules in
    let fits : c.args.line.now.offset + length text < 2 ^ 64 = search (rules, arith) in
    c.in-Ok.ensures.used
    ∙ ap (λ ss. with_mentions (uses_of c.args.imports.now.used) (mentions_in (declared_of c.args.imports.now.declared) ss)) (counted c.args.line.now.offset text whole c.as_str-2.utf8 same fits)

pub returns-clause-err : goal.returns-clause-err
returns-clause-err c = λ known.
    let text = c.as_str-2.result.now in
    let whole = replaced (get_by_text c.args.definitions.now) (line_of c.args.line.now).covered in
    let same : text ≡ whole = search rules in
    let fits : c.args.line.now.offset + length text < 2 ^ 64 = search (rules, arith) in
    uses_refused (get_by_text c.args.definitions.now) known (line_of c.args.line.now) (declared_of c.args.imports.now.declared)
    (usize_sites (sites c.args.line.now.offset (lexemes 0 0 (chars text)))) (sites c.args.line.now.offset (tokens_of whole)) (uses_of c.args.imports.now.used) (uses_of c.walk.new.used_imports)
    c.in-Err.fault c.ambiguous.result (counted c.args.line.now.offset text whole c.as_str-2.utf8 same fits) c.in-Err.ensures.fault c.ambiguous.ensures
