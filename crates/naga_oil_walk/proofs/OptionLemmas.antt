-- Options that hold nothing.
use Rattle.std.proofs.Common.{◌≡◌, Bool, false, Option, Some, None, is_some, refl, sym, ◌∙◌}
use Rattle.std.proofs.lemmas.Bool.{false≢true}

none : {A : Type 0} (o : Option A) → is_some o ≡ false → o ≡ None
none None e = refl
none (Some x) e = absurd (false≢true (sym e))

pub none_of : {A : Type 0} (o : Option A) (b : Bool) → b ≡ is_some o → b ≡ false → o ≡ None
none_of o b e f = none o (sym e ∙ f)

pub none_if : {A : Type 0} (o : Option A) → ((x : A) → o ≡ Some x → ⊥) → o ≡ None
none_if None f = refl
none_if (Some x) f = absurd (f x refl)
