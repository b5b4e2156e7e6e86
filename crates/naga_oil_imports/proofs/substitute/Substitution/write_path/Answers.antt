use Rattle.std.proofs.Common.{rules}
use Rattle.naga_oil_imports.specs.Uses.{uses_of}
use Rattle.naga_oil_imports.proofs.SiteLemmas.{begins_all, written_item, written_quoted, written_plain, no_mention, use_recorded, on_ok, on_err}
use Rattle.naga_oil_imports.proofs.SubstituteLemmas.{path_is_whole, path_splits}
use Rattle.naga_oil_imports.proofs.substitute.Substitution.write_path.Goals as goal

pub returns-then-self-clause-text : goal.returns-then-self-clause-text
returns-then-self-clause-text c =
    λ w. rw (written_item c.args.identifier.now c.args.path.now c.in-Some.module_name.now c.in-Some.item.now (path_splits c.args.path.now c.in-Some.module_name.now c.in-Some.item.now c.in-Some.ensures.cases)) c.push_decorated.ensures

pub returns-then-self-clause-used : goal.returns-then-self-clause-used
returns-then-self-clause-used c =
    on_ok c.push_decorated.result
    (use_recorded (uses_of c.args.used_imports.now) (uses_of c.record_use.new.used_imports) c.args.place c.args.path.now c.in-Some.module_name.now c.in-Some.item.now (path_splits c.args.path.now c.in-Some.module_name.now c.in-Some.item.now c.in-Some.ensures.cases) c.in_ok-record_use.ensures.ok)

pub returns-then-self-clause-begun : goal.returns-then-self-clause-begun
returns-then-self-clause-begun c =
    on_err c.push_decorated.result
    (begins_all _ (uses_of c.args.used_imports.now) (uses_of c.record_use.new.used_imports)
    (use_recorded (uses_of c.args.used_imports.now) (uses_of c.record_use.new.used_imports) c.args.place c.args.path.now c.in-Some.module_name.now c.in-Some.item.now (path_splits c.args.path.now c.in-Some.module_name.now c.in-Some.item.now c.in-Some.ensures.cases) c.in_ok-record_use.ensures.ok))

pub returns-in-Some-clause-used : goal.returns-in-Some-clause-used
returns-in-Some-clause-used c =
    use_recorded (uses_of c.args.used_imports.now) (uses_of c.record_use.new.used_imports) c.args.place c.args.path.now c.in-Some.module_name.now c.in-Some.item.now (path_splits c.args.path.now c.in-Some.module_name.now c.in-Some.item.now c.in-Some.ensures.cases) c.in_ok-record_use.ensures.ok

pub returns-then-contains-clause-text : goal.returns-then-contains-clause-text
returns-then-contains-clause-text c =
    λ w. rw (written_quoted c.args.identifier.now c.args.path.now c.as_bytes.result.now c.contains.result (path_is_whole c.args.path.now c.in_default.ensures.cases) c.as_bytes.ensures.value c.contains.ensures.value c.if-contains.true) (c.write.ensures.text w)

pub returns-then-contains-clause-used : goal.returns-then-contains-clause-used
returns-then-contains-clause-used c = rw (no_mention c.args.place c.args.path.now (path_is_whole c.args.path.now c.in_default.ensures.cases)) (search rules)

pub returns-clause-text : goal.returns-clause-text
returns-clause-text c =
    λ w. rw (written_plain c.args.identifier.now c.args.path.now c.as_bytes.result.now c.contains.result (path_is_whole c.args.path.now c.in_default.ensures.cases) c.as_bytes.ensures.value c.contains.ensures.value c.if-contains.false) (c.write-2.ensures.text w)

pub returns-clause-used : goal.returns-clause-used
returns-clause-used c = rw (no_mention c.args.place c.args.path.now (path_is_whole c.args.path.now c.in_default.ensures.cases)) (search rules)
