use Rattle.std.proofs.Common.{◌∙◌, ap, take, refl}
use Rattle.std.specs.List.{flat_map}
use Rattle.naga_oil_form.specs.Links.{lists, added}
use Rattle.naga_oil_walk.specs.Walk.{brief, notes_of, Notes}
use Rattle.naga_oil_walk.proofs.WalkLemmas.{added-token, notes-more}
use Rattle.naga_oil_walk.specs.Naming.{token_names}
use Rattle.naga_oil_walk.proofs.NamingLemmas.{Adds-none, Adds-more}
use Rattle.naga_oil_walk.proofs.function_walk.add_tokens.Goals as goal

pub loop-token-preserved : goal.loop-token-preserved
loop-token-preserved c =
    let ls = lists c.args.of.now.links.items in
    let ks = c.args.of.now.kinds.items in
    let o = c.args.walk.now.places.items in
    let es = c.args.walk.now.emitted.items in
    let ts = c.args.tokens.now in
    let i = c.loop-token.token-index in
    let t = c.token-item.result in
    let before = take i ts in
    record {
      so_far = c.in_ok-add_token.ensures.order ∙ ap (λ p. added p (brief ks ls t)) c.loop-token.invariant.so_far ∙ added-token (brief ks ls) o ts i t c.loop-token-test.true c.token-item.is;
      emitted = c.in_ok-add_token.ensures.emitted ∙ ap (λ p. notes_of ks ls p c.loop-token.walk.emitted.items t) c.loop-token.invariant.so_far ∙ ap (λ (n : Notes). notes_of ks ls (added o (flat_map (brief ks ls) before)) n t) c.loop-token.invariant.emitted ∙ notes-more ks ls o es ts i t c.loop-token-test.true c.token-item.is;
      requests = Adds-more (token_names ks c.args.of.now.named.items ls) c.args.walk.now.requests.items c.loop-token.walk.requests.items c.add_token.new.walk.requests.items ts i t c.loop-token-test.true c.token-item.is c.loop-token.invariant.requests c.in_ok-add_token.ensures.requests;
      over = c.in_ok-add_token.ensures.over;
    }

pub loop-token-init : goal.loop-token-init
loop-token-init c = record { so_far = refl; emitted = refl; requests = Adds-none c.args.walk.now.requests.items; over = c.requires.over }
