-- A module reads alike in two modules that have special types for the same keys, which read alike.
use Rattle.std.proofs.Common.{◌≡◌, ℕ, zero, suc, if◌then◌else◌, Bool, true, false, List, [], ◌∷◌, Option, Some, None, option_map, refl, ap, sym, ◌∙◌}
use Rattle.std.proofs.lemmas.Option.{none-some}
use Rattle.naga_oil_ir.specs.ModuleValue.{ModuleValue}
use Rattle.naga_oil_ir.specs.declared.names.ItemPlace.{ItemPlace}
use Rattle.naga_oil_ir.specs.declared.names.ItemPlace.TheVariants.{TypeItem}
use Rattle.naga_oil_derive.specs.declared.special.SpecialKey.{SpecialKey}
use Rattle.naga_oil_derive.specs.Collected.{depth}
use Rattle.naga_oil_derive.specs.Tree.{World, tree, reading, kept_tree, row_tree}
use Rattle.naga_oil_derive.specs.World.{world, or_option, special_at, special_entries}
use Rattle.naga_oil_copy_laws.specs.Frame.{AreAlike}
use Rattle.naga_oil_link_laws.specs.KeptAlike.{same_tree, kept_where, kept_alike, scope_alike}
use Rattle.naga_oil_link_laws.specs.OrderedCopies.{KeepsSpecialTypes}

or_map : (h : ℕ → ℕ) (o p : Option ℕ) → or_option (option_map h o) (option_map h p) ≡ option_map h (or_option o p)
or_map h None p = refl
or_map h (Some x) p = refl

if_map : (h : ℕ → ℕ) (b : Bool) (o p : Option ℕ) → p ≡ option_map h o → (if b then p else None) ≡ option_map h (if b then o else None)
if_map h true o p e = e
if_map h false o p e = refl

where_placed : (h : ℕ → ℕ) (is : ℕ → Bool) (f g : SpecialKey → Option ℕ) → ((k : SpecialKey) → g k ≡ option_map h (f k)) → (es : List (SpecialKey × ℕ)) → kept_where is g es ≡ option_map h (kept_where is f es)
where_placed h is f g e [] = refl
where_placed h is f g e (x ∷ es) =
    ap (λ o. or_option o (if is x.1 then g x.0 else None)) (where_placed h is f g e es) ∙ ap (or_option (option_map h (kept_where is f es))) (if_map h (is x.1) (f x.0) (g x.0) (e x.0)) ∙ or_map h (kept_where is f es) (if is x.1 then f x.0 else None)

-- what is kept is the special type for a key
kept_has_key : (is : ℕ → Bool) (f : SpecialKey → Option ℕ) (es : List (SpecialKey × ℕ)) (k : ℕ) → kept_where is f es ≡ Some k → (key : SpecialKey) × (f key ≡ Some k)
kept_has_key is f [] k e = absurd (none-some k e)
kept_has_key is f (x ∷ es) k e = one (kept_has_key is f es k) (kept_where is f es) refl (is x.1) e
  where
    one : (kept_where is f es ≡ Some k → (key : SpecialKey) × (f key ≡ Some k)) → (o : Option ℕ) → kept_where is f es ≡ o → (b : Bool) → or_option o (if b then f x.0 else None) ≡ Some k → (key : SpecialKey) × (f key ≡ Some k)
    one rest None p true q = (x.0, q)
    one rest None p false q = absurd (none-some k q)
    one rest (Some y) p b q = rest (p ∙ q)

module _ (w : World) (p t n : ModuleValue) (h : KeepsSpecialTypes t n) where
  abbrev is : ItemPlace → ℕ → Bool
  is q k = same_tree (tree (depth p) w (TypeItem k)) (tree (depth p) w q)

  abbrev kept_at : ModuleValue → ItemPlace → Option ℕ
  kept_at u q = kept_where (is q) (special_at u.special_types) (special_entries p.special_types)

  kept_is : (u : ModuleValue) (q : ItemPlace) → kept_alike w p u q ≡ option_map TypeItem (kept_at u q)
  unfolding kept_alike
  kept_is u q = refl

  step : (j : ℕ) (q : ItemPlace) → reading j w (world n) (kept_alike w p n) ≡ reading j w (world t) (kept_alike w p t) → (o : Option ℕ) → kept_at t q ≡ o → kept_tree (tree (suc j) (world n)) (kept_alike w p n q) (row_tree (reading j w (world n) (kept_alike w p n)) (w q)) ≡ kept_tree (tree (suc j) (world t)) (kept_alike w p t q) (row_tree (reading j w (world t) (kept_alike w p t)) (w q))
  step j q below o e =
      ap (λ (x : Option ItemPlace). kept_tree (tree (suc j) (world n)) x (row_tree (reading j w (world n) (kept_alike w p n)) (w q))) now ∙ one o e ∙ sym (ap (λ (x : Option ItemPlace). kept_tree (tree (suc j) (world t)) x (row_tree (reading j w (world t) (kept_alike w p t)) (w q))) before)
    where
      now : kept_alike w p n q ≡ option_map TypeItem (option_map h.places o)
      now = kept_is n q ∙ ap (option_map TypeItem) (where_placed h.places (is q) (special_at t.special_types) (special_at n.special_types) h.keys (special_entries p.special_types) ∙ ap (option_map h.places) e)

      before : kept_alike w p t q ≡ option_map TypeItem o
      before = kept_is t q ∙ ap (option_map TypeItem) e

      one : (o : Option ℕ) → kept_at t q ≡ o → kept_tree (tree (suc j) (world n)) (option_map TypeItem (option_map h.places o)) (row_tree (reading j w (world n) (kept_alike w p n)) (w q)) ≡ kept_tree (tree (suc j) (world t)) (option_map TypeItem o) (row_tree (reading j w (world t) (kept_alike w p t)) (w q))
      one None e = ap (λ f. row_tree f (w q)) below
      one (Some k) e =
          let key = kept_has_key (is q) (special_at t.special_types) (special_entries p.special_types) k e in
          h.alike key.0 k key.1 (suc j)

  reads_same : (j : ℕ) (q : ItemPlace) → reading j w (world n) (kept_alike w p n) q ≡ reading j w (world t) (kept_alike w p t) q
  unfolding reading
  reads_same zero q = refl
  reads_same (suc j) q = step j q (λ i x. reads_same j x i) (kept_at t q) refl

  -- the module reads alike
  pub kept_scope : AreAlike (scope_alike w p t) (scope_alike w p n)
  kept_scope = record { reads = λ q j. reads_same j q; names = λ k. refl }
