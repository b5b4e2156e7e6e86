use Rattle.std.proofs.Common.{◌≡◌, false, ap, sym, ◌∙◌, map, length}
use Rattle.std.specs.Str.{chars}
use Rattle.std.proofs.lemmas.Result.{err_from_is_err_and}
use Rattle.naga_oil_lines.specs.Tokens.{lexemes, emit}
use Rattle.naga_oil_lines.specs.Tokenizer.{lexeme_of}
use Rattle.naga_oil_imports.specs.Leaves.{parts, line_leaves}
use Rattle.naga_oil_imports.specs.ImportReader.{run}
use Rattle.naga_oil_imports.specs.ImportView.{reader_of}
use Rattle.naga_oil_imports.proofs.LeavesLemmas.{line_read, line_refused, part_read, part_refused, end_read, end_refused}
use Rattle.naga_oil_imports.proofs.DeclarationLemmas.{refuses_by}
use Rattle.naga_oil_imports.proofs.parse_imports.read_leaves.Goals as goal

pub returns-in_err-rest-clause-err : goal.returns-in_err-rest-clause-err
returns-in_err-rest-clause-err c =
    let p = err_from_is_err_and c.from_residual-in_err-rest.result c.from_residual-in_err-rest.ensures.1 in
    let end = length c.args.input.now in
    let same : map lexeme_of c.as_slice.result.now ≡ emit false (lexemes 0 0 (chars c.args.input.now)) = ap (map lexeme_of) c.as_slice.ensures.value ∙ c.in_ok-tokens.ensures in
    rw (p.1, p.2) (refuses_by _ _ _ (λ f e. ap (line_leaves end) (sym same) ∙ line_refused end (map lexeme_of c.as_slice.result.now) f e) c.in_err-rest.ensures.err)

pub loop-part-init : goal.loop-part-init
loop-part-init c =
    let end = length c.args.input.now in
    let same : map lexeme_of c.as_slice.result.now ≡ emit false (lexemes 0 0 (chars c.args.input.now)) = ap (map lexeme_of) c.as_slice.ensures.value ∙ c.in_ok-tokens.ensures in
    ap (λ r. run end r (parts 0 (map lexeme_of c.in_ok-rest.rest.now))) c.new-line.ensures
    ∙ line_read end (map lexeme_of c.as_slice.result.now) (map lexeme_of c.in_ok-rest.rest.now) c.in_ok-rest.ensures.ok ∙ ap (line_leaves end) same

pub returns-in_err-take_part-clause-err : goal.returns-in_err-take_part-clause-err
returns-in_err-take_part-clause-err c =
    let p = err_from_is_err_and c.from_residual-in_err-take_part.result c.from_residual-in_err-take_part.ensures.1 in
    rw (p.1, p.2) (refuses_by _ _ _ (λ f e. part_refused (length c.args.input.now) _ _ _ _ f _ c.in-Some.ensures.parts e c.loop-part.invariant) c.in_err-take_part.ensures.err)

pub loop-part-preserved : goal.loop-part-preserved
loop-part-preserved c = part_read (length c.args.input.now) _ _ _ _ _ _ c.in-Some.ensures.parts c.in_ok-take_part.ensures.ok c.loop-part.invariant

pub returns-then-not-may_end-clause-err : goal.returns-then-not-may_end-clause-err
returns-then-not-may_end-clause-err c = end_refused (length c.args.input.now) (reader_of c.loop-part.line) _ _ c.in_default.ensures.parts (sym c.may_end.ensures ∙ c.if-not-may_end.true) c.loop-part.invariant

pub returns-clause-ok : goal.returns-clause-ok
returns-clause-ok c = end_read (length c.args.input.now) (reader_of c.loop-part.line) _ _ c.in_default.ensures.parts (sym c.may_end.ensures ∙ c.if-not-may_end.false) c.loop-part.invariant
