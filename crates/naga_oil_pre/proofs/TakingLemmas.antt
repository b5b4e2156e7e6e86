-- The lines that an import takes, given to a sink one after another.
use Rattle.std.proofs.Common.{◌≡◌, ℕ, ◌<◌, List, [], ◌∷◌, ◌++◌, refl, sym, ap, subst, ◌∙◌, append_assoc, append-nil, string_bytes, String, Global}
use Rattle.naga_oil_conditions.specs.Line.{Line}
use Rattle.naga_oil_pre.specs.Preprocessed.{end_line, spaces, blanks}
use Rattle.naga_oil_pre.specs.Reading.{braces_after, taken}
use Rattle.naga_oil_pre.specs.Taking.{TakesAll}
use Rattle.naga_oil_pre.proofs.LoopLemmas.{taken_first, taken_none}

-- one line, and those after it
pub takes_more : {S : Type 0} (takes : S → Line → S → Type 0) (old mid new : S) (n m : ℕ) (l : Line) (left rest : List Line) → 0 < n → left ≡ l ∷ rest → m ≡ braces_after n l.covered
    → takes old l mid → TakesAll takes mid (taken m rest) new → TakesAll takes old (taken n left) new
takes_more takes old mid new n m l left rest some e b one more =
    let is : taken n left ≡ l ∷ taken m rest = ap (taken n) e ∙ taken_first n l rest some ∙ ap (λ k. l ∷ taken k rest) (sym b) in
    subst (λ ls. TakesAll takes old ls new) (sym is) (mid, one, more)

-- no brace is open
pub takes_closed : {S : Type 0} (takes : S → Line → S → Type 0) (sink : S) (n : ℕ) (left : List Line) → n ≡ 0 → TakesAll takes sink (taken n left) sink
takes_closed takes sink n left e = subst (λ k. TakesAll takes sink (taken k left) sink) (sym e) refl

-- no line is left
pub takes_none : {S : Type 0} (takes : S → Line → S → Type 0) (sink : S) (n : ℕ) (left : List Line) → left ≡ [] → TakesAll takes sink (taken n left) sink
takes_none takes sink n left e = subst (λ ls. TakesAll takes sink ls sink) (sym (ap (taken n) e ∙ taken_none n)) refl

-- the taken lines are blanked
pub takes_blanks : (old new : String Global) (ls : List Line) → TakesAll (λ (o : String Global) (l : Line) (n : String Global). string_bytes n ≡ string_bytes o ++ end_line (spaces l)) old ls new
    → string_bytes new ≡ string_bytes old ++ blanks ls
takes_blanks old new [] h = ap string_bytes h ∙ sym (append-nil (string_bytes old))
takes_blanks old new (l ∷ ls) h = takes_blanks h.0 new ls h.2 ∙ ap (λ t. t ++ blanks ls) h.1 ∙ append_assoc (string_bytes old) (end_line (spaces l)) (blanks ls)
