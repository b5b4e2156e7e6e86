use Rattle.std.proofs.Common.{◌++◌, ◌∷◌, [], ◌∙◌, ap, sym, append-nil, fold}
use Rattle.std.proofs.lemmas.List.{map-append}
use Rattle.naga_oil_ir.specs.ModuleValue.{entry_value, function_value}
use Rattle.naga_oil_ir.specs.Spans.{undefined}
use Rattle.naga_oil_words.specs.Texts.{with_name, texts}
use Rattle.naga_oil_link.specs.Owned.{demoted_name, function_names, function_values}
use Rattle.naga_oil_link.proofs.NamesLemmas.{bytes-insert}
use Rattle.naga_oil_link.proofs.OwnedLemmas.{demoted-none, demoted-one, is_known}
use Rattle.naga_oil_link.proofs.items.demote_one.Goals as goal

pub returns-then-contains-clause-functions : goal.returns-then-contains-clause-functions
returns-then-contains-clause-functions c =
    let d = c.args.decoration.now in
    let e = entry_value c.args.entry_point in
    let known = is_known c.args.names.now.keys c.as_str.result.now (demoted_name d e) c.contains.result c.contains.ensures (c.as_str.ensures.value ∙ c.in_ok-name.ensures.name) in
    sym (ap (λ fs. function_values c.args.functions.now ++ fs) (demoted-none d (texts c.args.names.now.keys) e (known ∙ c.if-contains.true)) ∙ append-nil (function_values c.args.functions.now))

pub returns-then-contains-clause-owned : goal.returns-then-contains-clause-owned
returns-then-contains-clause-owned c =
    let d = c.args.decoration.now in
    let e = entry_value c.args.entry_point in
    let known = is_known c.args.names.now.keys c.as_str.result.now (demoted_name d e) c.contains.result c.contains.ensures (c.as_str.ensures.value ∙ c.in_ok-name.ensures.name) in
    sym (ap (λ fs. fold with_name (texts c.args.owned.now.keys) (function_names fs)) (demoted-none d (texts c.args.names.now.keys) e (known ∙ c.if-contains.true)))

pub returns-clause-functions : goal.returns-clause-functions
returns-clause-functions c =
    let d = c.args.decoration.now in
    let e = entry_value c.args.entry_point in
    let known = is_known c.args.names.now.keys c.as_str.result.now (demoted_name d e) c.contains.result c.contains.ensures (c.as_str.ensures.value ∙ c.in_ok-name.ensures.name) in
    ap function_values c.in_ok-append.ensures.appended
    ∙ map-append (λ f. (function_value f.0, f.1)) c.args.functions.now ((c.in_ok-name.function, undefined) ∷ [])
    ∙ ap (λ f. function_values c.args.functions.now ++ (f, undefined) ∷ []) c.in_ok-name.ensures.function
    ∙ sym (ap (λ fs. function_values c.args.functions.now ++ fs) (demoted-one d (texts c.args.names.now.keys) e (known ∙ c.if-contains.false)))

pub returns-clause-owned : goal.returns-clause-owned
returns-clause-owned c =
    let d = c.args.decoration.now in
    let e = entry_value c.args.entry_point in
    let known = is_known c.args.names.now.keys c.as_str.result.now (demoted_name d e) c.contains.result c.contains.ensures (c.as_str.ensures.value ∙ c.in_ok-name.ensures.name) in
    ap texts c.in_ok-insert.ensures.keys
    ∙ bytes-insert c.args.owned.now.keys c.in_ok-name.name
    ∙ ap (with_name (texts c.args.owned.now.keys)) c.in_ok-name.ensures.name
    ∙ sym (ap (λ fs. fold with_name (texts c.args.owned.now.keys) (function_names fs)) (demoted-one d (texts c.args.names.now.keys) e (known ∙ c.if-contains.false)))
