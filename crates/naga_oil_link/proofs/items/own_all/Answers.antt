use Rattle.std.proofs.Common.{◌≡◌, ◌+◌, length, get_or, ap, sym, ◌∙◌, arith}
use Rattle.std.proofs.lemmas.List.{drop-set-lt}
use Rattle.std.proofs.lemmas.Grind.{drop_more_same}
use Rattle.naga_oil_words.specs.Texts.{texts}
use Rattle.naga_oil_link.specs.Owned.{is_own_name, owned_item, with_owned}
use Rattle.naga_oil_link.proofs.OwnedLemmas.{changed-more, folded-more}
use Rattle.naga_oil_link.proofs.PlaceLemmas.{item_put, item_left, items_ended}
use Rattle.naga_oil_link.proofs.items.own_all.Goals as goal
use Rattle.naga_oil_link.proofs.items.own_all.Goals.{then-branch+in_ok-insert, else-branch}

pub loop-at-preserved : goal.loop-at-preserved
loop-at-preserved g c =
    let row = g.T.Ownable.row_of in
    let items = c.loop-at.item-items in
    let i = c.loop-at.at in
    let d = c.item-item.result in
    let kept = c.loop-at.invariant in
    record {
      items = changed-more (λ e. (row e.0, e.1)) (owned_item c.args.suffix.now) items i d _ (omega arith) (ap (λ r. (r, (get_or items i d).1)) c.in_ok-own.ensures.item) ∙ kept.items;
      owned = folded-more (λ e. (row e.0, e.1)) (λ e. e.0.label.name) (with_owned c.args.suffix.now) items i d _ (texts c.loop-at.owned.keys) (texts c.own.new.owned.keys) (omega arith) c.in_ok-own.ensures.owned ∙ kept.owned;
      left = drop-set-lt (i + 1) items i _ (omega arith) ∙ drop_more_same items c.args.of.now i kept.left;
      places = elim c.if-branch.branch [
        | then-branch+in_ok-insert w ↦ ap (λ p. p.keys) w.places-is ∙ item_put (λ e. (row e.0, e.1)) (λ e. e.0.label.name) is_own_name c.args.of.now items i d c.loop-at.places.keys w.insert.new.self.keys (omega arith) kept.left (sym c.in_ok-own.ensures.own ∙ w.if-branch.true) kept.places w.in_ok-insert.ensures.keys
        | else-branch w ↦ ap (λ p. p.keys) w.places-is ∙ item_left (λ e. (row e.0, e.1)) (λ e. e.0.label.name) is_own_name c.args.of.now items i d c.loop-at.places.keys (omega arith) kept.left (sym c.in_ok-own.ensures.own ∙ w.if-branch.false) kept.places
      ];
    }

pub returns-clause-places : goal.returns-clause-places
returns-clause-places g c =
    let row = g.T.Ownable.row_of in
    let long : length c.loop-at.item-items ≡ length c.args.of.now = c.loop-at.auto.item-items ∙ ap length (c.deref_mut-item-items.ensures.value ∙ c.into_items-items.ensures ∙ c.replace.ensures.value) in
    items_ended (λ e. (row e.0, e.1)) (λ e. e.0.label.name) is_own_name c.args.of.now c.loop-at.at c.loop-at.places.keys (omega arith) c.loop-at.invariant.places
