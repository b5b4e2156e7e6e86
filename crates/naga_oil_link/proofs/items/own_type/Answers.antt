use Rattle.std.proofs.Common.{◌≡◌, ◌++◌, true, false, if◌then◌else◌, Some, option_map, ap, sym, ◌∙◌, string_bytes}
use Rattle.naga_oil_words.specs.Texts.{with_name, texts}
use Rattle.naga_oil_link.specs.Owned.{is_own_type, with_own_type}
use Rattle.naga_oil_link.proofs.NamesLemmas.{bytes-insert}
use Rattle.naga_oil_link.proofs.OwnedLemmas.{type-own}
use Rattle.naga_oil_link.proofs.items.own_type.Goals as goal

pub returns-then-is_kept-clause-own : goal.returns-then-is_kept-clause-own
returns-then-is_kept-clause-own c = λ m h.
    let named : Some c.in-Some.name.now ≡ option_map string_bytes c.args.ty.now.name = ap (option_map (λ n. n.now)) (sym c.in-Some.is) ∙ c.named.ensures in
    sym (sym (ap (is_own_type m) named) ∙ type-own m _ _ true h (sym c.is_kept.ensures ∙ c.if-is_kept.true))

pub returns-then-is_kept-clause-owned : goal.returns-then-is_kept-clause-owned
returns-then-is_kept-clause-owned c = λ m h.
    let names = texts c.args.owned.now.keys in
    let named : Some c.in-Some.name.now ≡ option_map string_bytes c.args.ty.now.name = ap (option_map (λ n. n.now)) (sym c.in-Some.is) ∙ c.named.ensures in
    sym (sym (ap (with_own_type m c.args.suffix.now names) named) ∙ ap (λ b. if b then with_name names (c.in-Some.name.now ++ c.args.suffix.now) else names) (type-own m _ _ true h (sym c.is_kept.ensures ∙ c.if-is_kept.true)))

pub returns-clause-own : goal.returns-clause-own
returns-clause-own c = λ m h.
    let named : Some c.in-Some.name.now ≡ option_map string_bytes c.args.ty.now.name = ap (option_map (λ n. n.now)) (sym c.in-Some.is) ∙ c.named.ensures in
    sym (sym (ap (is_own_type m) named) ∙ type-own m _ _ false h (sym c.is_kept.ensures ∙ c.if-is_kept.false))

pub returns-clause-owned : goal.returns-clause-owned
returns-clause-owned c = λ m h.
    let names = texts c.args.owned.now.keys in
    let named : Some c.in-Some.name.now ≡ option_map string_bytes c.args.ty.now.name = ap (option_map (λ n. n.now)) (sym c.in-Some.is) ∙ c.named.ensures in
    ap texts c.in_ok-insert.ensures.keys ∙ bytes-insert c.args.owned.now.keys c.in_ok-format.field-0 ∙ ap (with_name names) c.in_ok-format.ensures.ok
    ∙ sym (sym (ap (with_own_type m c.args.suffix.now names) named) ∙ ap (λ b. if b then with_name names (c.in-Some.name.now ++ c.args.suffix.now) else names) (type-own m _ _ false h (sym c.is_kept.ensures ∙ c.if-is_kept.false)))
