use Rattle.std.proofs.Common.{◌≡◌, ◌++◌, ◌∷◌, [], ◌∙◌, List, ap, sym, subst, refl, length, append_assoc, length-append, arith}
use Rattle.std.proofs.lemmas.List.{append-nil}
use Rattle.std.specs.Vec.Iter.{into_iter_items}
use Rattle.naga_oil_ir.specs.Backend.{FrontEnd}
use Rattle.naga_oil.specs.Run.{Step, Run}
use Rattle.naga_oil.specs.State.{State}
use Rattle.naga_oil.specs.declared.compose.command.Command.{Command}
use Rattle.naga_oil.specs.declared.compose.command.Reply.{Reply}
use Rattle.naga_oil.proofs.compose.command.run.Goals as goal

ran-more : {B : Type 0} (front : B → FrontEnd) (first before mid : State B) (all left rest : List Command) (c : Command) (done more : List Reply) (r : Reply) → left ≡ c ∷ rest → more ≡ done ++ r ∷ [] → Step front before c r mid → ((rs : List Reply) (end : State B) → Run front before left rs end → Run front first all (done ++ rs) end) → (rs : List Reply) (end : State B) → Run front mid rest rs end → Run front first all (more ++ rs) end
ran-more front first before mid all left rest c done more r e f answer ran rs end h =
    let moved : Run front before left (r ∷ rs) end = subst (λ (cs : List Command). Run front before cs (r ∷ rs) end) (sym e) (mid, answer, h) in
    let joined : more ++ rs ≡ done ++ (r ∷ rs) = ap (λ (ys : List Reply). ys ++ rs) f ∙ append_assoc done (r ∷ []) rs in
    subst (λ (ys : List Reply). Run front first all ys end) (sym joined) (ran (r ∷ rs) end moved)

ran-all : {B : Type 0} (front : B → FrontEnd) (first end : State B) (all left : List Command) (done : List Reply) → left ≡ [] → ((rs : List Reply) (end' : State B) → Run front end left rs end' → Run front first all (done ++ rs) end') → Run front first all done end
ran-all front first end all left done e ran =
    let last : Run front end left [] end = subst (λ (cs : List Command). Run front end cs [] end) (sym e) refl in
    subst (λ (ys : List Reply). Run front first all ys end) (append-nil done) (ran [] end last)

none : {X : Type 0} (xs : List X) → length xs ≡ 0 → xs ≡ []
none [] e = refl
none (x ∷ xs) e = absurd (omega arith)

pub loop-command-preserved : goal.loop-command-preserved
loop-command-preserved g c =
    let kept = c.loop-command.invariant in
    let steps = c.in-Some.ensures.steps in
    let fewer = ap length steps.0 in
    let pushed : c.push.new.self.items ≡ c.loop-command.replies.items ++ c.step.result ∷ [] = rw c.unwrap.ensures at c.push.ensures.items in
    let longer = ap length pushed ∙ length-append c.loop-command.replies.items (c.step.result ∷ []) in
    record {
      can_next = tt;
      is_finite = tt;
      same = omega (arith, steps.1, fewer, kept.same);
      room = omega (arith, fewer, longer, kept.room, c.push.ensures.capacity);
      run = ran-more _ _ _ _ _ _ _ _ _ _ _ steps.0 pushed c.step.ensures kept.run;
    }

pub returns-clause-ran : goal.returns-clause-ran
returns-clause-ran g c =
    let ended : length (into_iter_items c.loop-command.command-iterator) ≡ 0 = omega (arith, c.in-None.ensures.steps.0, c.loop-command.invariant.same) in
    ran-all _ _ _ _ _ _ (none _ ended) c.loop-command.invariant.run
