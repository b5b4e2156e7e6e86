use Rattle.std.proofs.Common.{◌≡◌, ◌+◌, ◌-◌, ◌||◌, drop, cond, true, false, bytes_eq, string_bytes, sym, ap, ◌∙◌, rules, arith}
use Rattle.std.proofs.lemmas.Map.Text.{btree_set_updates_text}
use Rattle.std.specs.BTreeSet.{contains_text}
use Rattle.std.specs.List.{list_any}
use Rattle.naga_oil_registry.specs.Registered.{definition_of}
use Rattle.naga_oil_registry.specs.Registry.{reaches}
use Rattle.naga_oil_registry.proofs.KeptLemmas.{none_after}
use Rattle.naga_oil_registry.proofs.RegistryLemmas.{gone-more, gone-same}
use Rattle.naga_oil_registry.proofs.RemovedLemmas.{none-gone, reaches-unregistered}
use Rattle.naga_oil_registry.proofs.registry.Registry.gone_with.Goals as goal

pub returns-in_default : goal.returns-in_default
returns-in_default c = λ other. none-gone c.new-gone.result other c.new-gone.ensures.len ∙ sym (reaches-unregistered c.args.name.now c.args.self.now other c.in_default.ensures.none)

pub loop-at-init : goal.loop-at-init
loop-at-init c =
    let ds = c.args.self.now in
    let only = c.in-Some.ensures.some in
    let h = only.within in
    record {
      in_range = omega (arith, h);
      gone = λ other. none-gone c.new-gone.result other c.new-gone.ensures.len
          ∙ sym (reaches-unregistered c.args.name.now (drop (c.in-Some.first + 1) ds) other (none_after (λ d. bytes_eq d.name c.args.name.now) ds c.in-Some.first (c.in-Some.first + 1) (omega arith) only));
    }

pub at-definition-requires : goal.at-definition-requires
at-definition-requires c = omega (arith, c.loop-at.invariant.in_range)

pub loop-at-preserved-in_ok-insert : goal.loop-at-preserved-in_ok-insert
loop-at-preserved-in_ok-insert c =
    let d = definition_of c.at-definition.result.now in
    let next : c.loop-at.at - 1 + 1 ≡ c.loop-at.at = omega arith in
    let before = rw (← next) at c.loop-at.invariant.gone in
    let goes : (bytes_eq d.name c.args.name.now || list_any (λ u. contains_text c.loop-at.gone u.import.import) d.imports) ≡ true = search rules in
    let same : string_bytes c.in_ok-clone.field-0 ≡ d.name = search rules in
    let more = btree_set_updates_text (string_bytes c.in_ok-clone.field-0) c.loop-at.gone c.insert.new.self true c.in_ok-insert.ensures.updates in
    record {
      in_range = omega (arith, c.loop-at.invariant.in_range);
      gone = λ other. more other ∙ ap (λ n. cond (bytes_eq n other) true (contains_text c.loop-at.gone other)) same
          ∙ gone-more c.args.self.now (c.loop-at.at - 1) d c.args.name.now (contains_text c.loop-at.gone) c.at-definition.ensures c.requires before goes other;
    }

pub loop-at-preserved : goal.loop-at-preserved
loop-at-preserved c =
    let d = definition_of c.at-definition.result.now in
    let next : c.loop-at.at - 1 + 1 ≡ c.loop-at.at = omega arith in
    let before = rw (← next) at c.loop-at.invariant.gone in
    let stays : (bytes_eq d.name c.args.name.now || list_any (λ u. contains_text c.loop-at.gone u.import.import) d.imports) ≡ false = search rules in
    record {
      in_range = omega (arith, c.loop-at.invariant.in_range);
      gone = λ other. gone-same c.args.self.now (c.loop-at.at - 1) d c.args.name.now (contains_text c.loop-at.gone) c.at-definition.ensures c.requires before stays other;
    }

pub returns : goal.returns
returns c =
    let end : c.loop-at.at ≡ 0 = omega (arith, c.loop-at-test.false) in
    λ other. c.loop-at.invariant.gone other ∙ ap (λ n. reaches (drop n c.args.self.now) other c.args.name.now) end
