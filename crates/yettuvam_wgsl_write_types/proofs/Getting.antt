-- The row of the item at a place.
use Rattle.std.proofs.Common.{◌≡◌, ℕ, List, [], map, Ok, Err, Option, Some, None, option_map, option_copied, slice_get, refl, sym, ap, ◌∙◌}
use Rattle.std.proofs.lemmas.Option.{slice_get-map}
use Rattle.naga_oil_ir.specs.Rows.{Row}
use Rattle.naga_oil_ir.specs.declared.names.ItemPlace.TheVariants.{ExpressionItem}
use Rattle.naga_oil_ir.specs.declared.span.Span.{Span}
use Rattle.yettuvam_wgsl_write_types.specs.Types.{row_of, row_at, place_of}
use Rattle.yettuvam_wgsl_written.specs.Outcomes.{Outcome, after}
use denote.Ref.{Bor}

module _ {X : Type 0} (f : X → Row) where
  abbrev with_span : X × Span → Row × Span
  with_span x = (f x.0, x.1)

  by_item : (o : Option (X × Span)) → row_of (option_map with_span o) ≡ option_map f (option_map (λ e. e.0) o)
  by_item None = refl
  by_item (Some x) = refl

  copied : (o : Option (Bor X)) → option_map (λ x. f x.now) o ≡ option_map f (option_copied o)
  copied None = refl
  copied (Some x) = refl

  -- the item that an arena lends has the row at its place
  pub got : (xs : List (X × Span)) (place : ℕ) (o : Option (Bor X)) → option_copied o ≡ option_map (λ e. e.0) (slice_get xs place) → option_map (λ x. f x.now) o ≡ row_at (map with_span xs) place
  got xs place o e = copied o ∙ ap (option_map f) e ∙ sym (by_item (slice_get xs place)) ∙ sym (ap row_of (slice_get-map with_span xs place))

-- the place of an initial value that may be absent
pub init_back : (o : Option ℕ) → place_of (option_map ExpressionItem o) ≡ o
init_back None = refl
init_back (Some h) = refl

-- an outcome that nothing comes before
pub after_nothing : (o : Outcome) → after [] o ≡ o
after_nothing (Ok ps) = refl
after_nothing (Err span) = refl
