use Rattle.std.proofs.Common.{◌≡◌, [], Result, sym, subst, ◌∙◌}
use Rattle.std.proofs.lemmas.Bool.{true≢false}
use Rattle.naga_oil_ir.specs.ModuleValue.{ModuleValue, module_value}
use Rattle.naga_oil_conditions.specs.Fault.{Fault}
use Rattle.naga_oil_conditions.specs.View.{Gives}
use Rattle.naga_oil_link.specs.BuiltModule.{overriding_of}
use Rattle.naga_oil.proofs.ChainLemmas.{chains, no_chains, none_overridden, some_overridden}
use Rattle.naga_oil.proofs.compose.chain.chain.Goals as goal

pub returns-then-is_empty : goal.returns-then-is_empty
returns-then-is_empty c = no_chains (overriding_of c.args.all.now) (module_value c.args.whole) (none_overridden c.args.all.now.entries (c.is_empty.ensures.0 c.if-is_empty.true))

pub returns : goal.returns
returns c =
    let all = overriding_of c.args.all.now in
    let some = λ (e : all ≡ []). true≢false (sym (c.is_empty.ensures.1 (some_overridden c.args.all.now.entries e)) ∙ c.if-is_empty.false) in
    subst (λ (v : Result ModuleValue Fault). Gives module_value c.chain_all.result v) (sym (chains all (module_value c.args.whole) some)) c.chain_all.ensures
