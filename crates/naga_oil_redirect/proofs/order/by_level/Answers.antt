use Rattle.std.proofs.Common.{◌≡◌, ◌∙◌, ℕ, ◌<◌, ◌++◌, ◌∷◌, [], List, Option, Some, None, IfSome, Vec, Global, length, length-set, take, get_or, sym, ap, subst, arith}
use Rattle.std.specs.List.{flat_map}
use Rattle.std.specs.Option.{option_flatten}
use Rattle.std.proofs.lemmas.List.{take_all}
use Rattle.std.proofs.lemmas.Option.{slice_get-get_or}
use Rattle.naga_oil_form.specs.Links.{lists, linked}
use Rattle.naga_oil_form.proofs.LinkLemmas.{linked-at}
use Rattle.naga_oil_redirect.specs.Level.{known}
use Rattle.naga_oil_redirect.proofs.OrderLemmas.{AreRounds, rounds_none, rounds_some, all_rounds}
use Rattle.naga_oil_redirect.proofs.order.by_level.Goals as goal

pub loop-place-preserved-in_default : goal.loop-place-preserved-in_default
loop-place-preserved-in_default c = record {
  long = c.loop-place.invariant.long;
  rounds = rounds_none (lists c.loop-place.rounds.items) c.args.levels.now c.loop-place.place (omega arith) c.in_default.is c.loop-place.invariant.rounds;
}

-- the level that was read lies below the number of functions
low : (levels : List (Option ℕ)) (i l : ℕ) → i < length levels → get_or levels i None ≡ Some l → ((k : ℕ) → IfSome (known levels k) (λ m. m < length levels)) → l < length levels
low levels i l h e all =
    let P : Option ℕ → Type 0 = λ o. IfSome o (λ m. m < length levels) in
    subst P (ap option_flatten (slice_get-get_or levels i None h) ∙ e) (all i)

pub index_mut-requires : goal.index_mut-requires
index_mut-requires c =
    let i = low c.args.levels.now c.loop-place.place c.in-Some.level (omega arith) c.in-Some.is c.requires in
    omega (arith, i, c.loop-place.invariant.long, c.loop-place.rounds.ok.0)

pub loop-place-preserved : goal.loop-place-preserved
loop-place-preserved c =
    let vs = c.loop-place.rounds.items in
    let l = c.in-Some.level in
    let i = low c.args.levels.now c.loop-place.place l (omega arith) c.in-Some.is c.requires in
    let j : l < length vs = omega (arith, i, c.loop-place.invariant.long) in
    let items : c.push.new.self.items ≡ linked (lists vs) l ++ c.loop-place.place ∷ [] = c.in_ok-push.ensures.items ∙ ap (λ xs. xs ++ c.loop-place.place ∷ []) (sym (linked-at vs l c.index_mut.result.now j c.index_mut.ensures.value)) in
    record {
      long = length-set vs l c.push.new.self ∙ c.loop-place.invariant.long;
      rounds = rounds_some vs c.args.levels.now c.loop-place.place l c.push.new.self (omega arith) c.in-Some.is j items c.loop-place.invariant.rounds;
    }

pub returns : goal.returns
returns c =
    let vs = c.loop-place.rounds.items in
    let all : take c.loop-round.round-index c.deref-round-items.result.now ≡ vs = take_all c.loop-round.round-index c.deref-round-items.result.now (omega arith) ∙ c.deref-round-items.ensures.value in
    let P : List (Option ℕ) → Type 0 = λ levels. AreRounds (lists vs) levels in
    let rounds = subst P (take_all c.loop-place.place c.args.levels.now (omega arith)) c.loop-place.invariant.rounds in
    c.loop-round.invariant ∙ ap (λ (ws : List (Vec ℕ Global)). flat_map (λ v. v.items) ws) all ∙ all_rounds vs c.args.levels.now c.loop-place.invariant.long rounds
