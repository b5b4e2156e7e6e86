use Rattle.std.proofs.Common.{◌≡◌, ℕ, ◌-◌, List, ◌++◌, length, take, drop, ap, ◌∙◌, append_assoc, take-append-drop}
use Rattle.std.proofs.lemmas.List.{take_rest}
use Rattle.std.proofs.KnownBytes.{Appends-trans, Appends-kept}
use Rattle.yettuvam_build.proofs.streams.put.Goals.{in-Ok, in-Err}
use Rattle.yettuvam_build.proofs.streams.put.Goals as goal

-- a front grows by what is taken of the rest
front_grows : (all front rest : List ℕ) (n : ℕ) → front ++ rest ≡ all → (front ++ take n rest) ++ take (length rest - n) (drop n rest) ≡ all
front_grows all front rest n e = ap (λ l. (front ++ take n rest) ++ l) (take_rest rest n) ∙ append_assoc front (take n rest) (drop n rest) ∙ ap (λ l. front ++ l) (take-append-drop n rest) ∙ e

pub loop-preserved : goal.loop-preserved
loop-preserved g c =
    let (front, split, appended) = c.loop.invariant in
    let rest = c.loop.rest.now in
    elim c.match-write.branch [
      | in-Ok w ↦ (front ++ take w.in-Ok.n rest, rw w.rest-is (front_grows c.args.bytes.now front rest w.in-Ok.n split), Appends-trans _ _ _ _ _ appended w.in-Ok.ensures.bytes)
      | in-Err w ↦ (front, rw w.rest-is split, Appends-kept _ _ _ _ appended w.in-Err.ensures.bytes)
    ]
