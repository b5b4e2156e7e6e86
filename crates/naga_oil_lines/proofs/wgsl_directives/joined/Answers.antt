use Rattle.std.proofs.Common.{◌≡◌, Ok, codes, ◌∙◌, rules}
use Rattle.std.specs.declared.alloc.AllocError.{AllocError}
use Rattle.std.proofs.lemmas.Iterator.{items_from_collect}
use Rattle.std.proofs.lemmas.Iterator.Consumers.{YieldsList-from_rest}
use Rattle.std.proofs.lemmas.Result.{IfOk-weaker}
use Rattle.naga_oil_lines.proofs.DirectiveLemmas.{joined_names}
use Rattle.naga_oil_lines.proofs.wgsl_directives.joined.Goals as goal

pub returns : goal.returns
returns c =
    let items : c.in_ok-names.names.items ≡ c.args.names.keys = items_from_collect {E = AllocError} (Ok c.in_ok-names.names) c.in_ok-names.ensures.ran (YieldsList-from_rest c.args.names.keys (search rules)) in
    let same = joined_names (codes ", ") c.deref.result.now c.args.names.keys (c.deref.ensures.value ∙ items) in
    IfOk-weaker c.join.result _ _ (λ t h. h ∙ same) c.join.ensures.ok
