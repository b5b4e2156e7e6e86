-- What is written to the end of a text.
use Rattle.std.proofs.Common.{◌≡◌, ℕ, List, [], ◌∷◌, ◌++◌, Result, Ok, Err, OnOk, ap, sym, ◌∙◌, append_assoc, arith}
use Rattle.std.proofs.lemmas.Fmt.{decimal_digit}
use Rattle.std.specs.Bool.{if◌then◌else◌}
use Rattle.std.specs.Fmt.{decimal}
use Rattle.std.specs.Prelude.{codes}
use Rattle.std.specs.Result.{is_ok}
use Rattle.naga_oil_registry.specs.Report.{place_line}

-- what a text gains, unless out of memory
pub on_pushed : {T E : Type 0} (r : Result T E) (new old more : List ℕ) → new ≡ (if is_ok r then old ++ more else old) → OnOk r (new ≡ old ++ more)
on_pushed (Ok x) new old more h = h
on_pushed (Err e) new old more h = tt

glued : (a p c d e s : List ℕ) → (((((a ++ p) ++ c) ++ d) ++ c) ++ e) ++ s ≡ a ++ (p ++ (c ++ (d ++ (c ++ (e ++ s)))))
glued a p c d e s = simp append_assoc

-- the place at the start of a line, as it is written
pub start_of_line : (path : List ℕ) (n : ℕ) → codes "  at " ++ (path ++ (58 ∷ (decimal n ++ (58 ∷ 49 ∷ 10 ∷ [])))) ≡ place_line path (n, 1) []
start_of_line path n =
    ap (λ one. codes "  at " ++ (path ++ (58 ∷ (decimal n ++ (58 ∷ (one ++ (10 ∷ []))))))) (sym (decimal_digit 1 (omega arith)))
    ∙ sym (glued (codes "  at ") path (codes ":") (decimal n) (decimal 1) (10 ∷ []))
