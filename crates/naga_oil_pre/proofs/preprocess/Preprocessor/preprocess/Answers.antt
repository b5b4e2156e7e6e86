use Rattle.std.proofs.Common.{◌≡◌, ◌∙◌, [], false, map, ap, refl, rules, string_bytes}
use Rattle.std.specs.List.{list_all}
use Rattle.std.proofs.lemmas.Result.{err_from_is_err_and}
use Rattle.std.proofs.lemmas.Option.{MatchOption-at_some}
use Rattle.naga_oil_imports.specs.Declarations.{declared_of}
use Rattle.naga_oil_imports.specs.NameMarks.{has_mark, keys_of}
use Rattle.naga_oil_imports.specs.Uses.{uses_of, use_of}
use Rattle.naga_oil_conditions.specs.Scope.{is_open}
use Rattle.naga_oil_pre.specs.KnownView.{known_of, output_of}
use Rattle.naga_oil_pre.proofs.LineEndLemmas.{as_many_ends}
use Rattle.naga_oil_pre.proofs.QuotelessLemmas.{quoteless_paths}
use Rattle.naga_oil_pre.proofs.LoopLemmas.{nothing_is, told_first, fails_first, uses_of_values, told_last}
use Rattle.naga_oil_conditions.proofs.SourceLemmas.{source_begins}
use Rattle.naga_oil_pre.proofs.preprocess.Preprocessor.preprocess.Goals as goal

pub loop-imports-init : goal.loop-imports-init
loop-imports-init c =
    let declared : declared_of c.new.result ≡ [] = search rules in
    let used : uses_of c.new-3.result ≡ [] = search rules in
    let source = source_begins _ _ _ c.new-source.ensures c.lines-lines.ensures.rest in
    record {
      marked = ap (λ d. list_all (has_mark c.new-2.result) (keys_of d)) declared;
      end = rw source refl;
      told = rw (source, c.new-scope.ensures) (told_first _ (known_of (record { declared = c.new.result; names = c.new-2.result; used = c.new-3.result })) _ _ (nothing_is (known_of (record { declared = c.new.result; names = c.new-2.result; used = c.new-3.result })) declared used) c.in_ok-out.ensures.bytes);
    }

pub returns-in_err-write_line-clause-value : goal.returns-in_err-write_line-clause-value
returns-in_err-write_line-clause-value c =
    let p = err_from_is_err_and c.from_residual-in_err-write_line.result c.from_residual-in_err-write_line.ensures.1 in
    let step = MatchOption-at_some _ _ _ c.in-Some.is c.in_ok-line.ensures.steps in
    rw (p.1, p.2) (fails_first _ _ _ _ _ _ _ _ _ _ step c.loop-imports.invariant.told c.in_err-write_line.ensures.err)

pub returns-clause-value : goal.returns-clause-value
returns-clause-value c =
    let items : c.in_ok-collect.field-0.items ≡ map (λ e. e.1) c.loop-imports.imports.used.entries = search rules in
    let none : c.loop-imports.source.left ≡ [] = search rules in
    let closed : is_open c.loop-imports.scope ≡ false = search rules in
    told_last _ (known_of c.loop-imports.imports) _ _ _ (string_bytes c.loop-imports.out) (map use_of c.in_ok-collect.field-0.items) _ none closed c.loop-imports.invariant.told
    (ap (map use_of) items ∙ uses_of_values c.loop-imports.imports.used.entries)

pub returns-clause-line_ends : goal.returns-clause-line_ends
returns-clause-line_ends c = as_many_ends _ _ (output_of (record { preprocessed_source = c.loop-imports.out; imports = c.in_ok-collect.field-0 })) c.utf8.shader_str (returns-clause-value c)

pub returns-clause-quoteless : goal.returns-clause-quoteless
returns-clause-quoteless c none = returns-clause-line_ends c (quoteless_paths _ _ c.utf8.shader_str none)
