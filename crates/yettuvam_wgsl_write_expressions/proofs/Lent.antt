-- What an arena lends.
use Rattle.std.proofs.Common.{◌≡◌, ℕ, List, map, Option, Some, None, option_map, option_copied, slice_get, refl, sym, ap, ◌∙◌}
use Rattle.std.proofs.lemmas.Option.{slice_get-map}
use Rattle.naga_oil_ir.specs.declared.span.Span.{Span}
use denote.Ref.{Bor}

module _ {X Y : Type 0} (f : X → Y) where
  abbrev of_item : X × Span → Y
  of_item x = f x.0

  picked : (o : Option (X × Span)) → option_map of_item o ≡ option_map f (option_map (λ e. e.0) o)
  picked None = refl
  picked (Some x) = refl

  copied : (o : Option (Bor X)) → option_map (λ x. f x.now) o ≡ option_map f (option_copied o)
  copied None = refl
  copied (Some x) = refl

  -- a part of the item that an arena lends is that of the item at its place
  pub lent : (xs : List (X × Span)) (place : ℕ) (o : Option (Bor X)) → option_copied o ≡ option_map (λ e. e.0) (slice_get xs place) → option_map (λ x. f x.now) o ≡ slice_get (map of_item xs) place
  lent xs place o e = copied o ∙ ap (option_map f) e ∙ sym (picked (slice_get xs place)) ∙ sym (slice_get-map of_item xs place)
