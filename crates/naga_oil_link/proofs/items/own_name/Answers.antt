use Rattle.std.proofs.Common.{◌≡◌, ◌++◌, false, ap, ◌∙◌, cond, string_bytes, rules}
use Rattle.naga_oil_words.specs.Marks.{has_module_mark}
use Rattle.naga_oil_link.proofs.OwnedLemmas.{of_not, owned-noted}
use Rattle.naga_oil_link.proofs.items.own_name.Goals as goal

pub returns-in_ok-insert-clause-owned : goal.returns-in_ok-insert-clause-owned
returns-in_ok-insert-clause-owned c =
    let n = string_bytes c.args.name.now in
    let unmarked : has_module_mark n ≡ false = of_not (has_module_mark n) c.in_ok-own.own c.in_ok-own.ensures.reported c.if-own.true in
    let named : string_bytes c.add_decoration.new.name ≡ n ++ c.args.suffix.now = c.in_ok-own.ensures.name ∙ ap (λ b. cond b n (n ++ c.args.suffix.now)) unmarked in
    let same : string_bytes c.in_ok-clone.field-0 ≡ n ++ c.args.suffix.now = search (rules, named) in
    owned-noted _ _ _ _ c.in_ok-clone.field-0 unmarked same c.in_ok-insert.ensures.keys
