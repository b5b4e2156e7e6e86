use Rattle.std.proofs.Common.{◌≡◌, Ok, string_bytes}
use Rattle.std.specs.BTreeMap.{get_by_text}
use Rattle.std.proofs.lemmas.Result.{err_from_is_err_and}
use Rattle.naga_oil_conditions.specs.Line.{source_lines}
use Rattle.naga_oil_conditions.specs.View.{Fails}
use Rattle.naga_oil_pre.specs.Metadata.{none_defined, own_defines}
use Rattle.naga_oil_pre.proofs.DefinesLemmas.{text_defines, defines_refused, directives_refuse}
use Rattle.naga_oil_pre.proofs.preprocess.Preprocessor.get_preprocessor_defines.Goals as goal

pub returns-in_err-cleaned : goal.returns-in_err-cleaned
returns-in_err-cleaned c =
    let p = err_from_is_err_and c.from_residual.result c.from_residual.ensures.1 in
    rw (p.1, p.2) (directives_refuse _ c.args.allow_defines c.args.shader_str.now c.in_err-cleaned.ensures)

pub returns-in_err-defines : goal.returns-in_err-defines
returns-in_err-defines c =
    let p = err_from_is_err_and c.from_residual-in_err-defines.result c.from_residual-in_err-defines.ensures.1 in
    let fails : Fails c.in_err-defines.field-0.0 (own_defines c.args.allow_defines none_defined (source_lines (string_bytes c.in_ok-cleaned.cleaned))) = rw (← c.as_str.ensures.value) c.in_err-defines.ensures in
    rw (p.1, p.2) (defines_refused _ c.args.allow_defines c.args.shader_str.now _ _ c.in_ok-cleaned.ensures fails)

pub returns : goal.returns
returns c =
    let defines : own_defines c.args.allow_defines none_defined (source_lines (string_bytes c.in_ok-cleaned.cleaned)) ≡ Ok (get_by_text c.in_ok-defines.defines) = rw (← c.as_str.ensures.value) c.in_ok-defines.ensures in
    text_defines c.args.allow_defines c.args.shader_str.now _ _ _ c.in_ok-cleaned.ensures defines
