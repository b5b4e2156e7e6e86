use Rattle.std.proofs.Common.{◌≡◌, sym, ap, ◌∙◌, rules, map}
use Rattle.naga_oil_imports.specs.Uses.{use_entry, first_use, use_of}
use Rattle.naga_oil_imports.proofs.UsesLemmas.{use_pushed, use_refused, use_first}
use Rattle.naga_oil_imports.proofs.substitute.record_use.Goals as goal

pub returns-in-Some-clause-ok : goal.returns-in-Some-clause-ok
returns-in-Some-clause-ok c =
    use_pushed c.push_item.result c.args.module_name.now c.args.item.now c.args.place c.args.used_imports.now.entries (c.get_mut.follows.lender c.push_item.new.self).entries
    c.in-Some.used.now c.push_item.new.self (sym c.in-Some.ensures.value) (c.get_mut.follows.holds c.push_item.new.self).0 (search rules)

pub returns-in-Some-clause-err : goal.returns-in-Some-clause-err
returns-in-Some-clause-err c =
    use_refused c.push_item.result c.args.module_name.now c.args.used_imports.now.entries (c.get_mut.follows.lender c.push_item.new.self).entries
    c.in-Some.used.now c.push_item.new.self (sym c.in-Some.ensures.value) (c.get_mut.follows.holds c.push_item.new.self).0 c.push_item.ensures.err

pub returns-clause-ok : goal.returns-clause-ok
returns-clause-ok c =
    let same : c.get_mut.follows.lender-at-none ≡ c.args.used_imports.now = search rules in
    let first : use_of c.in_ok-first.first ≡ first_use c.args.module_name.now c.args.item.now c.args.place = search rules in
    ap (map use_entry) c.in_ok-insert.ensures.entries
    ∙ rw same (use_first c.in_ok-key.key c.args.module_name.now c.args.item.now c.args.place c.args.used_imports.now.entries c.in_ok-first.first c.in_ok-key.ensures.ok (sym c.in_default.ensures.value) first)
