use Rattle.std.proofs.Common.{nat_eq, ap, sym, ◌∙◌}
use Rattle.indexmap.specs.IndexMap.{insert_entry}
use Rattle.yettuvam_wgsl_scope.specs.Refused.{done}
use Rattle.yettuvam_wgsl_values.specs.Body.{name_expression, named_view, declared_name, state_of}
use Rattle.yettuvam_wgsl_values.proofs.Named.{named_more}
use Rattle.yettuvam_wgsl_values.proofs.body.Body.name_expression.Goals as goal

pub returns : goal.returns
unfolding name_expression
returns c =
    let old = c.args.self.now in
    let names = named_view old.named.entries in
    let entries = ap named_view c.in_ok-insert.ensures.entries in
    let seen = named_more old.named.entries c.new.result c.in_ok-name.name in
    let name = ap (λ text. insert_entry nat_eq names c.new.result text) c.in_ok-name.ensures in
    let place = ap (λ handle. insert_entry nat_eq names handle (declared_name (state_of old))) c.new.ensures in
    ap (λ named. done (record (state_of old) { named = named })) (sym (entries ∙ seen ∙ name ∙ place))
