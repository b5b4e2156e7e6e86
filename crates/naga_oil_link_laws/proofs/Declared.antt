-- The header of a build declares functions that its module has.
use Rattle.std.proofs.Common.{◌≡◌, ◌⊎◌, inl, inr, ⊎_elim, ℕ, zero, suc, Bool, true, false, if◌then◌else◌, List, [], ◌∷◌, fold, Some, IsSome, slice_get, refl, ap, sym, ◌∙◌, subst}
use Rattle.std.proofs.lemmas.Bool.{false≢true}
use Rattle.std.proofs.lemmas.Option.{none-some, same_Some}
use Rattle.naga_oil_ir.specs.ModuleValue.{ModuleValue}
use Rattle.naga_oil_ir.specs.Rows.{Text}
use Rattle.naga_oil_ir.specs.declared.names.ItemPlace.{ItemPlace}
use Rattle.naga_oil_ir.specs.declared.names.ItemPlace.TheVariants.{TypeItem, ConstantItem, OverrideItem, GlobalItem, ExpressionItem}
use Rattle.naga_oil_derive.specs.CopiedEntry.{make_module}
use Rattle.naga_oil_derive.specs.Derived.{Derived, nothing}
use Rattle.naga_oil_derive.specs.DerivedValue.{import_function}
use Rattle.naga_oil_link.specs.BuiltModule.{BuiltModule}
use Rattle.naga_oil_link.specs.CopiedBuild.{OwnCopies, import_own, copy_own, copy_other, copy_at, nothing_copied, copy_places, has_name_among, copy_with_body, copy_stub, copy_whole, copy_header}
use Rattle.naga_oil_link.specs.CopySources.{stub_of}
use Rattle.naga_oil_link.specs.OwnPlaces.{OwnPlaces, is_own}
use Rattle.naga_oil_link.specs.Places.{places_of}
use Rattle.naga_oil_link_laws.specs.Headers.{HasNamed, HasDeclarations}
use Rattle.naga_oil_link_laws.specs.ThroughBuilds.{Holds}
use Rattle.naga_oil_link_laws.proofs.Names.{Function, Quiet, quiet_same, quiet_then, item_quiet, rename_quiet, set_functions, Grows, grows_same, grows_then, function_grows, function_named, named_stays, declared, make_named}
use Rattle.naga_oil_link_laws.specs.Requested.{HasPassing}
use Rattle.naga_oil_link_laws.proofs.Asks.{passing_after}

-- ---- items

module _ (m : ModuleValue) (own : OwnPlaces) (decoration : List ℕ) where
  own_quiet : (d : Derived) (p : ItemPlace) → Quiet d (import_own m decoration d p)
  own_quiet d (TypeItem k) = rename_quiet d k _
  own_quiet d (ConstantItem k) = item_quiet d (ConstantItem k)
  own_quiet d (OverrideItem k) = item_quiet d (OverrideItem k)
  own_quiet d (GlobalItem k) = item_quiet d (GlobalItem k)
  own_quiet d (ExpressionItem k) = item_quiet d (ExpressionItem k)

  other_quiet : (all : Bool) (c : OwnCopies) (p : ItemPlace) → Quiet c.derived (copy_other all c p).derived
  other_quiet false c p = quiet_same c.derived
  other_quiet true c (TypeItem k) = item_quiet c.derived (TypeItem k)
  other_quiet true c (ConstantItem k) = quiet_same c.derived
  other_quiet true c (OverrideItem k) = quiet_same c.derived
  other_quiet true c (GlobalItem k) = quiet_same c.derived
  other_quiet true c (ExpressionItem k) = quiet_same c.derived

  one_quiet : (all : Bool) (c : OwnCopies) (p : ItemPlace) (b : Bool) → Quiet c.derived (let r : OwnCopies = if b then copy_own m decoration c p else copy_other all c p in r.derived)
  one_quiet all c p true = own_quiet c.derived p
  one_quiet all c p false = other_quiet all c p

  all_quiet : (all : Bool) (ps : List ItemPlace) (c : OwnCopies) → Quiet c.derived (fold (copy_at all m own decoration) c ps).derived
  all_quiet all [] c = quiet_same c.derived
  all_quiet all (p ∷ ps) c =
      let e = copy_at all m own decoration c p in
      quiet_then c.derived e.derived (fold (copy_at all m own decoration) e ps).derived (one_quiet all c p (is_own own p)) (all_quiet all ps e)

  -- copying items adds no function
  places_quiet : (all : Bool) → ((copy_places all m own decoration).derived.target.functions ≡ []) × IsSome (copy_places all m own decoration).derived.source
  unfolding copy_places
  places_quiet all =
      let q = all_quiet all (places_of m) (nothing_copied m) in
      (q.functions ∙ set_functions nothing m 0, q.source refl)

-- ---- the header

module _ (names : List (List ℕ)) where
  abbrev among : Function → Bool
  among f = has_name_among names f.0.name

  -- a function without a body, with the name of one that is copied
  abbrev IsDeclared : List Function → Function → Type 0
  IsDeclared fs y = (y.0.body ≡ []) × HasPassing among fs y.0.name

  stubs_declared : (fs : List Function) (d : Derived) (k : ℕ) (y : Function) → slice_get (fold (copy_stub names) d fs).target.functions k ≡ Some y → (slice_get d.target.functions k ≡ Some y) ⊎ IsDeclared fs y
  stubs_declared [] d k y at = inl at
  stubs_declared (f ∷ fs) d k y at = one (among f) refl (λ e. stubs_declared fs e k y) at
    where
      following : IsDeclared fs y → IsDeclared (f ∷ fs) y
      following h = (h.0, passing_after among f fs y.0.name h.1)

      one : (b : Bool) → among f ≡ b → ((e : Derived) → slice_get (fold (copy_stub names) e fs).target.functions k ≡ Some y → (slice_get e.target.functions k ≡ Some y) ⊎ IsDeclared fs y) → slice_get (let r : Derived = fold (copy_stub names) (if b then import_function d (stub_of f.0) f.1 else d) fs in r.target.functions) k ≡ Some y → (slice_get d.target.functions k ≡ Some y) ⊎ IsDeclared (f ∷ fs) y
      one true q rest at =
          ⊎_elim
          (λ (old : slice_get (import_function d (stub_of f.0) f.1).target.functions k ≡ Some y). ⊎_elim (λ x. inl x) (λ (new : (f.0.name ≡ y.0.name) × (y.0.body ≡ [])). inr (new.1, (zero, f, refl, q, new.0))) (declared d (stub_of f.0) f.1 refl k y old))
          (λ (new : IsDeclared fs y). inr (following new))
          (rest (import_function d (stub_of f.0) f.1) at)
      one false q rest at = ⊎_elim (λ x. inl x) (λ (new : IsDeclared fs y). inr (following new)) (rest d at)

  -- ---- the module

  bodies_grow : (fs : List Function) (d : Derived) → Grows d (fold (copy_with_body names) d fs)
  bodies_grow [] d = grows_same d
  bodies_grow (f ∷ fs) d = one (among f) (bodies_grow fs)
    where
      one : (b : Bool) → ((e : Derived) → Grows e (fold (copy_with_body names) e fs)) → Grows d (let e : Derived = if b then import_function d f.0 f.1 else d in fold (copy_with_body names) e fs)
      one true rest = grows_then d (import_function d f.0 f.1) (fold (copy_with_body names) (import_function d f.0 f.1) fs) (function_grows d f.0 f.1) (rest (import_function d f.0 f.1))
      one false rest = rest d

  bodies_named : (fs : List Function) (d : Derived) → IsSome d.source → (n : Text) → HasPassing among fs n → HasNamed (fold (copy_with_body names) d fs).target n
  bodies_named [] d s n h = absurd (none-some h.1 h.2)
  bodies_named (f ∷ fs) d s n h = one (among f) refl (bodies_named fs) h.0 h.2
    where
      one : (b : Bool) → among f ≡ b → ((e : Derived) → IsSome e.source → (n : Text) → HasPassing among fs n → HasNamed (fold (copy_with_body names) e fs).target n) → (k : ℕ) → slice_get (f ∷ fs) k ≡ Some h.1 → HasNamed (let r : Derived = fold (copy_with_body names) (if b then import_function d f.0 f.1 else d) fs in r.target) n
      one true q rest zero at =
          let e = import_function d f.0 f.1 in
          let own : f ≡ h.1 = same_Some f h.1 at in
          let name : f.0.name ≡ n = ap (λ (x : Function). x.0.name) own ∙ h.4 in
          named_stays e.target (fold (copy_with_body names) e fs).target n (bodies_grow fs e).functions (subst (HasNamed e.target) name (function_named d f.0 f.1 s))
      one true q rest (suc k) at = rest (import_function d f.0 f.1) ((function_grows d f.0 f.1).source s) n (k, h.1, at, h.3, h.4)
      one false q rest zero at = absurd (false≢true (sym q ∙ ap among (same_Some f h.1 at) ∙ h.3))
      one false q rest (suc k) at = rest d s n (k, h.1, at, h.3, h.4)

-- a build that holds a module declares functions that it has
pub declarations : (b : BuiltModule) (m : ModuleValue) (own : OwnPlaces) → Holds b m own → HasDeclarations b
declarations b m own h =
    let names = h.functions in
    let header = (copy_header m own b.decoration names).derived.target in
    let value = make_module (copy_whole m own b.decoration names).derived in
    let each = λ (k : ℕ) (y : Function) (at : slice_get header.functions k ≡ Some y). (let r : IsDeclared names m.functions y = ⊎_elim (λ (old : slice_get (copy_places false m own b.decoration).derived.target.functions k ≡ Some y). absurd (none-some y (ap (λ (xs : List Function). slice_get xs k) (sym (places_quiet m own b.decoration false).0) ∙ old))) (λ x. x) (stubs_declared names m.functions (copy_places false m own b.decoration).derived k y at) in r) in
    let is = λ (k : ℕ) (y : Function) (at : slice_get b.header.functions k ≡ Some y). (let r : slice_get header.functions k ≡ Some y = ap (λ (v : ModuleValue). slice_get v.functions k) (sym h.header) ∙ at in r) in
    record {
      without_bodies = λ k y at. (each k y (is k y at)).0;
      named = λ k y at.
          let d = (copy_places true m own b.decoration).derived in
          subst (λ (v : ModuleValue). HasNamed v y.0.name) (sym h.value)
          (make_named (fold (copy_with_body names) d m.functions) y.0.name (bodies_named names m.functions d (places_quiet m own b.decoration true).1 y.0.name (each k y (is k y at)).1));
    }
