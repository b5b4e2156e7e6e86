-- What is read from a list, and what holds of a result that is handed on.
use Rattle.std.proofs.Common.{◌≡◌, ℕ, ◌<◌, ◌≤◌, List, length, get_or, Option, Some, None, option_map, sym, ◌∙◌, subst, Result, Ok, Err, OnOk}
use Rattle.std.specs.Borrow.{Bor}
use Rattle.std.specs.Slice.{IsItemAt}
use Rattle.std.proofs.lemmas.Option.{none-some, same_Some}

pub item_found : {X : Type 0} (xs : List X) (i : ℕ) (r : Option (Bor X)) (o : Option X) (x : X) → IsItemAt xs i r → o ≡ option_map (λ (b : Bor X). b.now) r → o ≡ Some x → (i < length xs) × (x ≡ get_or xs i x)
item_found xs i None o x h e f = absurd (none-some x (sym e ∙ f))
item_found xs i (Some b) o x h e f = (h.3.0, subst (λ y. y ≡ get_or xs i y) (same_Some b.now x (sym e ∙ f)) h.1)

pub item_past : {X : Type 0} (xs : List X) (i : ℕ) (r : Option (Bor X)) (o : Option X) → IsItemAt xs i r → o ≡ option_map (λ (b : Bor X). b.now) r → ((x : X) → o ≡ Some x → ⊥) → length xs ≤ i
item_past xs i None o h e n = h.3
item_past xs i (Some b) o h e n = absurd (n b.now e)

pub ok_then : {A B : Type 0} (r : Result A B) {P Q : Type 0} → (P → Q) → OnOk r P → OnOk r Q
ok_then (Ok x) f p = f p
ok_then (Err x) f p = tt
