use Rattle.std.proofs.Common.{◌≡◌, ◌++◌, ◌∙◌, sym, ap, rules}
use Rattle.std.specs.String.{string_bytes}
use Rattle.std.specs.BTreeMap.{get_by_text}
use Rattle.std.specs.Str.{chars}
use Rattle.naga_oil_conditions.specs.Replaced.{replaced, replaced_from}
use Rattle.naga_oil_conditions.proofs.ReplacedLemmas.{to_next_hash, replaced_plain}
use Rattle.naga_oil_conditions.proofs.replace.push_replaced.Goals as goal

pub loop-front-preserved : goal.loop-front-preserved
loop-front-preserved c = record {
  text = c.in_ok-rest.ensures.utf8;
  same = c.in_ok-rest.ensures.value ∙ to_next_hash _ _ _ _ _ _ c.in-Some.ensures c.in_ok-push_str.ensures.bytes ∙ c.loop-front.invariant.same;
}

pub returns : goal.returns
unfolding replaced
returns c =
    let plain : replaced_from (get_by_text c.args.definitions.now) (chars c.loop-front.rest.now) ≡ c.loop-front.rest.now = replaced_plain _ _ c.loop-front.invariant.text c.in_default.ensures in
    let whole : string_bytes c.loop-front.out ++ c.loop-front.rest.now ≡ string_bytes c.args.out.now ++ replaced_from (get_by_text c.args.definitions.now) (chars c.args.line.now) =
    ap (λ l. string_bytes c.loop-front.out ++ l) (sym plain) ∙ c.loop-front.invariant.same in
    search (rules, whole)
