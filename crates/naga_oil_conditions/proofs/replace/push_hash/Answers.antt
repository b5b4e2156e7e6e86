use Rattle.std.proofs.Common.{rules, ◌≡◌, ◌++◌, ◌∷◌, [], Some, None}
use Rattle.std.specs.String.{string_bytes}
use Rattle.std.specs.BTreeMap.{get_by_text}
use Rattle.naga_oil_conditions.proofs.ReplacedLemmas.{bare_written, value_written, name_written}
use Rattle.naga_oil_conditions.proofs.replace.push_hash.Goals as goal

pub returns-in_default-clause-value : goal.returns-in_default-clause-value
returns-in_default-clause-value c =
    let e : string_bytes c.push.new.self ≡ string_bytes c.args.out.now ++ 35 ∷ [] = search rules in
    bare_written _ _ _ _ c.in_default.ensures e

pub returns-in_default-get-clause-value : goal.returns-in_default-get-clause-value
returns-in_default-get-clause-value c =
    let undefined : get_by_text c.args.definitions.now c.in-Some.name.now ≡ None = search rules in
    let e : string_bytes c.push_str.new.self ≡ (string_bytes c.args.out.now ++ 35 ∷ []) ++ c.text_before.result.now = search rules in
    name_written _ _ _ _ _ _ c.in-Some.ensures _ undefined c.text_before.ensures c.text_before.utf8 e

pub returns-clause-value : goal.returns-clause-value
returns-clause-value c =
    let defined : get_by_text c.args.definitions.now c.in-Some.name.now ≡ Some c.in-Some-get.value.now = search rules in
    value_written _ _ _ _ _ _ c.in-Some.ensures _ defined c.in_ok-push_value.ensures
