-- `strip_prefix` of a word.
use Rattle.std.proofs.Common.{◌≡◌, ◌≢◌, ℕ, false, cond, eqb, List, [], ◌∷◌, refl, sym, ap, Option, Some, None, option_map, MatchOption, arith, Bor}
use Rattle.std.proofs.lemmas.Bool.Decides.{nat_tests}
use Rattle.naga_oil_mini.specs.Words.{import_of}

pub import_of_value : (word : List ℕ) (r : Option (Bor (List ℕ))) → MatchOption r ((rest : List ℕ) → word ≢ 43 ∷ rest) (λ x. word ≡ 43 ∷ x.now) → option_map (λ x. x.now) r ≡ import_of word
import_of_value word (Some x) h = sym (ap import_of h)
import_of_value [] None h = refl
import_of_value (b ∷ name) None h =
    let other : b ≢ 43 = λ e. h name (ap (λ k. k ∷ name) e) in
    let test : eqb b 43 ≡ false = grind (arith, nat_tests) in
    sym (ap (λ t. cond t (Some name) None) test)
