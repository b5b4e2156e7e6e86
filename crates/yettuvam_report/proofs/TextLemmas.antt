-- What is written to the end of a text.
use Rattle.std.proofs.Common.{◌≡◌, ℕ, ◌+◌, ◌-◌, ◌<◌, ◌≤◌, map, refl, Result, Ok, Err, OnOk, List, [], ◌∷◌, ◌++◌, length, replicate, ap, sym, ◌∙◌, append_assoc, append-nil, arith}
use Rattle.std.specs.Bool.{if◌then◌else◌}
use Rattle.std.specs.Fmt.{decimal}
use Rattle.std.specs.Prelude.{codes}
use Rattle.std.specs.Result.{is_ok}
use Rattle.std.specs.Str.{chars}
use Rattle.std.proofs.lemmas.List.{replicate-append-replicate}
use Rattle.std.proofs.lemmas.Result.{on_ok_weaker}
use Rattle.yettuvam_report.specs.Report.{Mark, gutter, mark_of, number_front, shown}
use Rattle.yettuvam_report.specs.declared.layout.Mark.{Mark as CodeMark}

-- one more of a byte
pub one_more : (before old new : List ℕ) (count byte : ℕ) → old ≡ before ++ replicate count byte → new ≡ old ++ byte ∷ [] → new ≡ before ++ replicate (count + 1) byte
one_more before old new count byte e p = p ∙ ap (λ t. t ++ byte ∷ []) e ∙ append_assoc before (replicate count byte) (byte ∷ []) ∙ ap (λ l. before ++ l) (replicate-append-replicate count 1 byte)

-- nothing is left to be shown
pub shown_end : (out whole rest : List ℕ) → length rest ≡ 0 → out ++ shown rest ≡ whole → out ≡ whole
unfolding chars
shown_end out whole [] z e = sym (append-nil out) ∙ e
shown_end out whole (b ∷ rest) z e = absurd (omega arith)

-- what a text gains, unless out of memory
on_pushed : {T E : Type 0} (r : Result T E) (new old before more all : List ℕ) → new ≡ (if is_ok r then old ++ more else old) → old ++ more ≡ before ++ all → OnOk r (new ≡ before ++ all)
on_pushed (Ok x) new old before more all h e = h ∙ e
on_pushed (Err x) new old before more all h e = tt

-- the number of a line
pub number_written : {T E : Type 0} (r : Result T E) (new second first old digits : List ℕ) (gutter indent n : ℕ) → digits ≡ decimal n → indent ≡ gutter - length digits → first ≡ old ++ replicate indent 32 → second ≡ first ++ digits
    → new ≡ (if is_ok r then second ++ codes " | " else second) → OnOk r (new ≡ old ++ number_front gutter n)
number_written r new second first old digits gutter indent n d i f s h =
    let ds = decimal n in
    let spaces : first ≡ old ++ replicate (gutter - length ds) 32 = f ∙ ap (λ k. old ++ replicate k 32) (i ∙ ap (λ t. gutter - length t) d) in
    let numbered : second ≡ (old ++ replicate (gutter - length ds) 32) ++ ds = s ∙ (λ j. spaces j ++ d j) in
    on_pushed r new second old (codes " | ") (number_front gutter n) h
    (ap (λ t. t ++ codes " | ") (numbered ∙ append_assoc old (replicate (gutter - length ds) 32) ds) ∙ append_assoc old (replicate (gutter - length ds) 32 ++ ds) (codes " | "))

-- the text of a line
pub line_written : {T E : Type 0} (r : Result T E) (new third second first old a b c : List ℕ) → first ≡ old ++ a → second ≡ first ++ b → third ≡ second ++ c → new ≡ (if is_ok r then third ++ codes "\n" else third)
    → OnOk r (new ≡ old ++ (a ++ b ++ c ++ codes "\n"))
line_written r new third second first old a b c p q s h =
    let two : second ≡ old ++ (a ++ b) = q ∙ ap (λ t. t ++ b) p ∙ append_assoc old a b in
    let three : third ≡ old ++ (a ++ b ++ c) = s ∙ ap (λ t. t ++ c) two ∙ append_assoc old (a ++ b) c in
    on_pushed r new third old (codes "\n") (a ++ b ++ c ++ codes "\n") h (ap (λ t. t ++ codes "\n") three ∙ append_assoc old (a ++ b ++ c) (codes "\n"))

-- five parts, one after the other
pub excerpt_written : {T E : Type 0} (r : Result T E) (new fourth third second first old a b c d e : List ℕ) → first ≡ old ++ a → second ≡ first ++ b → third ≡ second ++ c → fourth ≡ third ++ d → OnOk r (new ≡ fourth ++ e)
    → OnOk r (new ≡ old ++ (a ++ b ++ c ++ d ++ e))
excerpt_written r new fourth third second first old a b c d e p q s t h =
    let two : second ≡ old ++ (a ++ b) = q ∙ ap (λ x. x ++ b) p ∙ append_assoc old a b in
    let three : third ≡ old ++ (a ++ b ++ c) = s ∙ ap (λ x. x ++ c) two ∙ append_assoc old (a ++ b) c in
    let four : fourth ≡ old ++ (a ++ b ++ c ++ d) = t ∙ ap (λ x. x ++ d) three ∙ append_assoc old (a ++ b ++ c) d in
    on_ok_weaker r (λ h. h ∙ ap (λ x. x ++ e) four ∙ append_assoc old (a ++ b ++ c ++ d) e) h

-- ---- the gutter
pub gutter_least : (text : List ℕ) (marks : List Mark) → 2 ≤ gutter text marks
gutter_least text [] = omega arith
gutter_least text (m ∷ marks) = omega (arith, gutter_least text marks)

pub gutter_of_none : (text : List ℕ) (marks : List CodeMark) → length marks < 1 → gutter text (map mark_of marks) ≡ 2
gutter_of_none text [] h = refl
gutter_of_none text (m ∷ marks) h = absurd (omega arith)
