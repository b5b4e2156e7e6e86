-- Whether a text occurs in another.
use Rattle.std.proofs.Common.{◌≡◌, ⊎_elim, ℕ, Bool, true, false, ◌||◌, List, [], ◌∷◌, ◌++◌, nat_eq, length, drop, refl, sym, ap, ◌∙◌, ◌↔◌}
use Rattle.std.specs.List.{starts_with}
use Rattle.std.specs.Str.Iter.{HasSubslice}
use Rattle.std.proofs.lemmas.Bool.{or_cases}
use Rattle.std.proofs.lemmas.Bool.Decides.{Decides-eqb}
use Rattle.std.proofs.lemmas.Slice.Eq.{starts_is}
use Rattle.naga_oil_words.specs.Marks.{module_mark, is_within, has_module_mark}

same_by : (a b : Bool) → (a ≡ true → b ≡ true) → (b ≡ true → a ≡ true) → a ≡ b
same_by true b f g = sym (f refl)
same_by false true f g = g refl
same_by false false f g = refl

or_later : (b c : Bool) → c ≡ true → (b || c) ≡ true
or_later true c e = refl
or_later false c e = e

or_now : (b c : Bool) → b ≡ true → (b || c) ≡ true
or_now b c e = ap (λ x. x || c) e

starts : (p s : List ℕ) → (starts_with nat_eq s p ≡ true) → (b : List ℕ) × (s ≡ p ++ b)
starts p s h = (drop (length p) s, (starts_is Decides-eqb s p (starts_with nat_eq s p) refl).0 h)

starts_front : (p b : List ℕ) → starts_with nat_eq (p ++ b) p ≡ true
starts_front p b = (starts_is Decides-eqb (p ++ b) p (starts_with nat_eq (p ++ b) p) refl).1 b refl

within_found : (p s : List ℕ) → is_within p s ≡ true → HasSubslice s p
within_found p [] h = let r = starts p [] h in ([], r.0, r.1)
within_found p (x ∷ s) h =
    ⊎_elim (λ i. let r = starts p (x ∷ s) i in ([], r.0, r.1)) (λ i. let r = within_found p s i in (x ∷ r.0, r.1, ap (λ t. x ∷ t) r.2)) (or_cases (starts_with nat_eq (x ∷ s) p) (is_within p s) h)

within_front : (p s : List ℕ) → starts_with nat_eq s p ≡ true → is_within p s ≡ true
within_front p [] h = h
within_front p (x ∷ s) h = or_now (starts_with nat_eq (x ∷ s) p) (is_within p s) h

within_there : (p a b : List ℕ) → is_within p (a ++ (p ++ b)) ≡ true
within_there p [] b = within_front p (p ++ b) (starts_front p b)
within_there p (x ∷ a) b = or_later (starts_with nat_eq (x ∷ (a ++ (p ++ b))) p) (is_within p (a ++ (p ++ b))) (within_there p a b)

-- a result that reports whether the mark of a module was found equals whether the name has the mark
pub found_is : (r : Bool) (name : List ℕ) → (r ≡ true) ↔ HasSubslice name module_mark → r ≡ has_module_mark name
unfolding has_module_mark
found_is r name d =
    same_by r (is_within module_mark name) (λ h. let w = d.0 h in ap (is_within module_mark) w.2 ∙ within_there module_mark w.0 w.1) (λ h. d.1 (within_found module_mark name h))
