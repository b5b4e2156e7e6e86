use Rattle.std.proofs.Common.{◌≡◌, ◌+◌, ◌∷◌, ◌++◌, codes, suc, drop, map, option_map, string_bytes, rules, arith, ap, sym, ◌∙◌, drop-cons}
use Rattle.std.proofs.lemmas.Grind.{common_steps}
use Rattle.std.proofs.lemmas.Result.{err_from_is_err_and}
use Rattle.naga_oil_ir.specs.ModuleValue.{argument_value}
use Rattle.naga_oil_mini_writer.specs.Writer.{cons_some, parameter_word, parameter_words, parameters_text, with_parameters}
use Rattle.naga_oil_mini_writer.proofs.WriterLemmas.{past_first, first_parameter, next_parameter, last_parameter, parameter_lacks}
use Rattle.naga_oil_mini_writer.proofs.writer.push_parameters.Goals as goal

pub loop-argument-init : goal.loop-argument-init
loop-argument-init c =
    let old = string_bytes c.args.out.now in
    let rest = parameter_words (map argument_value c.in-Some.rest.now) in
    let split : c.args.arguments.now ≡ c.in-Some.first.now ∷ c.in-Some.rest.now = search rules in
    first_parameter old _ _ rest c.in_ok-push_str.ensures.bytes
    ∙ ap (λ o. option_map (λ ps. old ++ parameters_text ps) (cons_some o rest)) (sym c.in_ok-parameter_word.ensures)
    ∙ ap (λ xs. with_parameters old (map argument_value xs)) (sym split)

pub loop-argument-preserved : goal.loop-argument-preserved
loop-argument-preserved c =
    let rest = c.in-Some.rest.now in
    let i = c.loop-argument.argument-index in
    let x = c.argument-item.result in
    let out = string_bytes c.loop-argument.out in
    let next : suc i ≡ i + 1 = omega arith in
    let cut : drop i rest ≡ x ∷ drop (i + 1) rest = drop-cons rest i x c.loop-argument-test.true ∙ (λ j. sym c.argument-item.is j ∷ drop (next j) rest) in
    let more = parameter_words (map argument_value (drop (i + 1) rest)) in
    let text : string_bytes c.push_str-in-loop-argument-2.new.self ≡ (out ++ codes ", ") ++ c.in_ok-parameter_word-2.field-0.now = grind (arith, common_steps) in
    next_parameter out _ _ more text
    ∙ ap (λ o. past_first out (cons_some o more)) (sym c.in_ok-parameter_word-2.ensures)
    ∙ ap (λ xs. past_first out (parameter_words (map argument_value xs))) (sym cut)
    ∙ c.loop-argument.invariant

pub returns-in_err-parameter_word-2 : goal.returns-in_err-parameter_word-2
returns-in_err-parameter_word-2 c =
    let rest = c.in-Some.rest.now in
    let i = c.loop-argument.argument-index in
    let x = c.argument-item.result in
    let out = string_bytes c.loop-argument.out in
    let next : suc i ≡ i + 1 = omega arith in
    let cut : drop i rest ≡ x ∷ drop (i + 1) rest = drop-cons rest i x c.loop-argument-test.true ∙ (λ j. sym c.argument-item.is j ∷ drop (next j) rest) in
    let more = parameter_words (map argument_value (drop (i + 1) rest)) in
    let whole : with_parameters (string_bytes c.args.out.now) (map argument_value c.args.arguments.now) ≡ past_first out (cons_some (parameter_word (argument_value x)) more) =
    sym c.loop-argument.invariant ∙ ap (λ xs. past_first out (parameter_words (map argument_value xs))) cut in
    let p = err_from_is_err_and c.from_residual-in_err-parameter_word-2.result c.from_residual-in_err-parameter_word-2.ensures.1 in
    rw (p.1, p.2, whole) (parameter_lacks out (parameter_word (argument_value x)) more _ c.in_err-parameter_word-2.ensures)

pub returns : goal.returns
returns c = grind (arith, common_steps, last_parameter)
