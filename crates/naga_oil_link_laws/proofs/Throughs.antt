-- Copies of what a build holds are copies of what was parsed.
use Rattle.std.proofs.Common.{◌≡◌, ℕ, ◌+◌, ◌*◌, ◌==◌, ◌&&◌, min, if◌then◌else◌, Bool, true, false, List, [], ◌∷◌, length, map, Some, IsSome, slice_get, All, refl, ap, sym, ◌∙◌, subst, arith}
use Rattle.std.proofs.lemmas.List.Elements.{All-nil, All-cons, All-head, All-tail}
use Rattle.std.proofs.lemmas.Bool.{false≢true, and_parts}
use Rattle.naga_oil_ir.specs.ModuleValue.{ModuleValue, FunctionValue}
use Rattle.naga_oil_ir.specs.declared.names.ItemPlace.{ItemPlace}
use Rattle.naga_oil_ir.specs.declared.names.ItemPlace.TheVariants.{TypeItem}
use Rattle.naga_oil_ir.specs.declared.span.Span.{Span}
use Rattle.naga_oil_form.proofs.LinkLemmas.{eqb_eq, eq_eqb}
use Rattle.naga_oil_derive.specs.CopiedEntry.{make_module}
use Rattle.naga_oil_derive.specs.Tree.{World}
use Rattle.naga_oil_derive.specs.declared.special.SpecialKey.{SpecialKey}
use Rattle.naga_oil_derive.specs.World.{world, shifted, moved, special_at, special_entries}
use Rattle.naga_oil_form_laws.proofs.SpecialLemmas.{at_key}
use Rattle.naga_oil_link.specs.BuiltModule.{BuiltModule}
use Rattle.naga_oil_link.specs.CopiedBuild.{copy_whole}
use Rattle.naga_oil_link.specs.OwnPlaces.{OwnPlaces}
use Rattle.naga_oil_copy_laws.specs.Scope.{ReadAlike, scope_of, scope_by}
use Rattle.naga_oil_copy_laws.specs.ByTree.{CopiesByTree}
use Rattle.naga_oil_copy_laws.specs.ByTreeLaw.{HasEarlierOperands}
use Rattle.naga_oil_copy_laws.specs.InTurn.{CanCopyModule}
use Rattle.naga_oil_copy_laws.specs.EntryByTree.{EntryAlike}
use Rattle.naga_oil_copy_laws.proofs.ComposeLaws.{compose}
use Rattle.naga_oil_copy_laws.proofs.EntryLaws.{entry_on, entry_then}
use Rattle.naga_oil_link_laws.specs.ReadIn.{scope_in, HasKeysOf}
use Rattle.naga_oil_link_laws.specs.HeldBuild.{scope_reading, DecoratesTypes, CopiesPlainly}
use Rattle.naga_oil_link_laws.specs.KeptAlike.{scope_alike}
use Rattle.naga_oil_link_laws.specs.LinkedCopies.{CopiesOfBuild}
use Rattle.naga_oil_link_laws.specs.ThroughBuilds.{Holds, CopiesHeld, GoesThrough, ThroughLaw}
use Rattle.naga_oil_link_laws.proofs.FormedSources.{can_copy}
use Rattle.naga_oil_link_laws.proofs.Holds.{HeldWhole, held_whole}
use Rattle.naga_oil_link_laws.proofs.Lifts.{Alike, rows_alike, row_at, lifted, copies_on}
use Rattle.naga_oil_link_laws.proofs.Specials.{CarriesKey, entries_at, all_both}
use Rattle.naga_oil_ir.specs.Spans.{span_stride}

-- ---- spans that are moved twice

abbrev span : ℕ → ℕ → Span
span s e = record { start = s; end = e }

min_twice : (s a b : ℕ) → min (min (s + a) 4294967295 + b) 4294967295 ≡ min (s + (a + b)) 4294967295
min_twice s a b = omega arith

stays_zero : (x a : ℕ) → min (x + a) 4294967295 ≡ 0 → x ≡ 0
stays_zero x a e = omega (arith, e)

-- a span of a text that is moved stays in a text
abbrev is_nowhere : Span → Bool
is_nowhere s = (s.start == 0) && (s.end == 0)

not_nowhere : (s : Span) (a : ℕ) → is_nowhere s ≡ false → is_nowhere (span (moved a s.start) (moved a s.end)) ≡ false
not_nowhere s a n = one (is_nowhere (span (moved a s.start) (moved a s.end))) refl
  where
    one : (b : Bool) → is_nowhere (span (moved a s.start) (moved a s.end)) ≡ b → is_nowhere (span (moved a s.start) (moved a s.end)) ≡ false
    one false e = e
    one true e =
        let p = and_parts (moved a s.start == 0) (moved a s.end == 0) e in
        let x = eq_eqb s.start 0 (stays_zero s.start a (eqb_eq (moved a s.start) 0 p.0)) in
        let y = eq_eqb s.end 0 (stays_zero s.end a (eqb_eq (moved a s.end) 0 p.1)) in
        absurd (false≢true (sym n ∙ ap (λ t. t && (s.end == 0)) x ∙ y))

pub shifted_twice : (a b : ℕ) (s : Span) → shifted b (shifted a s) ≡ shifted (a + b) s
shifted_twice a b s = one (is_nowhere s) refl
  where
    by : (k : ℕ) (x : Span) (c : Bool) → is_nowhere x ≡ c → shifted k x ≡ (if c then x else span (moved k x.start) (moved k x.end))
    by k x c e = ap (λ (t : Bool). if t then x else span (moved k x.start) (moved k x.end)) e

    one : (c : Bool) → is_nowhere s ≡ c → shifted b (shifted a s) ≡ shifted (a + b) s
    one true e = ap (shifted b) (by a s true e) ∙ by b s true e ∙ sym (by (a + b) s true e)
    one false e =
        let x = span (moved a s.start) (moved a s.end) in
        ap (shifted b) (by a s false e) ∙ by b x false (not_nowhere s a e) ∙ ap (λ k. span k (moved b x.end)) (min_twice s.start a b) ∙ ap (span (moved (a + b) s.start)) (min_twice s.end a b) ∙ sym (by (a + b) s false e)

-- ---- through a build

-- what holds of what each maps to
mapped_back : {X Y : Type 0} (f : X → Y) (Q : Y → Type 0) (xs : List X) → All Q (map f xs) → All (λ x. Q (f x)) xs
mapped_back f Q [] h = All-nil (λ x. Q (f x))
mapped_back f Q (x ∷ xs) h = All-cons (λ y. Q (f y)) x xs (All-head Q (f x) (map f xs) h) (mapped_back f Q xs (All-tail Q (f x) (map f xs) h))

mapped_to : {X Y : Type 0} (f : X → Y) (Q : Y → Type 0) (xs : List X) → All (λ x. Q (f x)) xs → All Q (map f xs)
mapped_to f Q [] h = All-nil Q
mapped_to f Q (x ∷ xs) h = All-cons Q (f x) (map f xs) (All-head (λ x. Q (f x)) x xs h) (mapped_to f Q xs (All-tail (λ x. Q (f x)) x xs h))

module _ (b : BuiltModule) (m : ModuleValue) (own : OwnPlaces) (t u : ModuleValue) (h : HeldWhole m own b.decoration u) (can : CanCopyModule m) (is : b.value ≡ u) where
  abbrev w : World
  w = h.copies.reads

  abbrev shift : ℕ
  shift = b.index * span_stride

  reads_on : (p q : ItemPlace) → ReadAlike (scope_reading w m) (scope_of u) p q → ReadAlike (scope_alike w m t) (scope_in u t) p q
  reads_on p q a n = lifted w m u t h.special n p q a

  moved_once : (s : Span) → shifted shift (shifted 0 s) ≡ shifted shift s
  moved_once s = shifted_twice 0 shift s ∙ ap (λ k. shifted k s) (let e : 0 + shift ≡ shift = omega arith in e)

  held_copy : (f g k : FunctionValue) → HasEarlierOperands f → CopiesPlainly w m u f g → CopiesOfBuild b t g k → CopiesHeld b m own t f k
  held_copy f g k earlier x y =
      let first = copies_on (λ n. n) (scope_reading w m) (scope_of u) (scope_alike w m t) (scope_in u t) reads_on (λ n. refl) (λ n. refl) (shifted 0) f g x.copies in
      let second : CopiesByTree (shifted shift) (λ n. n) (scope_in u t) g (scope_of t) k = subst (λ v. CopiesByTree (shifted shift) (λ n. n) (scope_in v t) g (scope_of t) k) is y.copies in
      let both = compose (shifted 0) (shifted shift) (λ n. n) (λ n. n) (scope_alike w m t) (scope_in u t) (scope_of t) f g k earlier x.earlier first second in
      record {
        reads = w;
        decorated = h.copies.decorated;
        copies = subst (λ f2. CopiesByTree f2 (λ n. n) (scope_alike w m t) f (scope_of t) k) (λ i s. moved_once s i) both;
        source_earlier = earlier;
        earlier = y.earlier;
      }

  -- each key of the module is one of what the build holds
  keys_held : HasKeysOf b.value t → HasKeysOf m t
  keys_held keys =
      let HasKey = λ (e : SpecialKey × ℕ). IsSome (special_at t.special_types e.0) in
      let there = λ (e : SpecialKey × ℕ). (let f : SpecialKey × ℕ = (e.0, h.special.places e.1) in f) in
      let held : All HasKey (special_entries u.special_types) = subst (λ (v : ModuleValue). All HasKey (special_entries v.special_types)) is keys in
      mapped_back there HasKey (special_entries m.special_types) (subst (All HasKey) h.special.entries held)

  through : GoesThrough b m own t
  unfolding held_copy
  through = record {
    keys = keys_held;
    function = λ k c.
        let x = h.copies.copies.functions c.place c.function (ap (λ (v : ModuleValue). slice_get v.functions c.place) (sym is) ∙ c.at) in
        record {
          keys = keys_held c.keys;
          place = x.place;
          function = x.function;
          at = x.at;
          copies = held_copy x.function.0 c.function.0 k.0 (can.functions x.place x.function x.at).0.copyable.may.form.earlier x.copies c.copies;
          span = c.span ∙ ap (shifted shift) x.span ∙ moved_once x.function.1;
        };
    entry_point = λ i y c.
        let x = h.copies.copies.entry_points i c.entry (ap (λ (v : ModuleValue). slice_get v.entry_points i) (sym is) ∙ c.at) in
        let first = entry_on (scope_reading w m) (scope_of u) (scope_alike w m t) (scope_in u t) reads_on (λ s. s) x.entry c.entry x.whole in
        let second = subst (λ v. EntryAlike (λ s. s) (scope_in v t) (scope_of t) c.entry y) is c.whole in
        record {
          entry = x.entry;
          at = x.at;
          copies = held_copy x.entry.function c.entry.function y.function (can.entry_points i x.entry x.at).0.copyable.may.form.earlier x.copies c.copies;
          whole = entry_then (scope_alike w m t) (scope_in u t) (scope_of t) (λ s. s) (λ s. s) x.entry c.entry y first second;
        };
    as_many = ap (λ (v : ModuleValue). length v.entry_points) is ∙ h.copies.copies.as_many;
    item = λ q c.
        let there = subst (λ v. ReadAlike (scope_in v t) (scope_of t) c.0 q) is c.2 in
        let x = h.copies.copies.items c.0 c.1.0 (ap (λ (v : ModuleValue). world v c.0) (sym is) ∙ c.1.1) in
        let first = reads_on x.0 c.0 x.2 in
        record { reads = w; decorated = h.copies.decorated; place = x.0; stands = x.1; alike = λ n. there n ∙ first n };
  }

  -- ---- special types

  abbrev Entry : Type 0
  Entry = SpecialKey × ℕ

  -- the special type that what the build holds has for a key, as the module has it
  abbrev HeldKey : ℕ → Entry → Type 0
  HeldKey q e = CarriesKey (scope_by t (world u) u) (scope_alike w m t) t t q q (world u) w m e.0 e.1

  abbrev at_place : Entry → Entry
  at_place e = (e.0, h.special.places e.1)

  held_entry : (q : ℕ) (e : Entry) → Alike (world u) w (TypeItem e.1) (TypeItem (h.special.places e.1)) → special_at m.special_types e.0 ≡ Some e.1 → HeldKey q (at_place e)
  held_entry q e same own = record {
    place = e.1;
    at = own;
    same = same;
    copied = λ z. record {
      there = z.there;
      reads = λ n. z.reads n ∙ rows_alike (world u) w (λ x. (scope_by t (world u) u).reads x n) (λ x. (scope_alike w m t).reads x n) (λ x y a. lifted w m u t h.special n x y a) (world u (TypeItem (h.special.places e.1))) (w (TypeItem e.1)) (row_at (world u) w (TypeItem e.1) (TypeItem (h.special.places e.1)) same);
    };
  }

  held_key : (q : ℕ) (key : SpecialKey) (k : ℕ) → special_at u.special_types key ≡ Some k → HeldKey q (key, k)
  held_key q key k at =
      let es = special_entries m.special_types in
      let own = all_both (λ (e : Entry). Alike (world u) w (TypeItem e.1) (TypeItem (h.special.places e.1))) (λ (e : Entry). special_at m.special_types e.0 ≡ Some e.1) (λ (e : Entry). HeldKey q (at_place e)) (held_entry q) es h.special.alike (entries_at m.special_types can.special.distinct) in
      let all : All (HeldKey q) (special_entries u.special_types) = subst (All (HeldKey q)) (sym h.special.entries) (mapped_to at_place (HeldKey q) es own) in
      at_key (HeldKey q) u.special_types key k all at

-- the module that a build holds, as it reads, and what it says of the build's special types
pub record HeldKeys (b : BuiltModule) (m : ModuleValue) (own : OwnPlaces) (t : ModuleValue) (q : ℕ) : Type 0 where
  pub reads : World
  pub decorated : DecoratesTypes m own b.decoration reads
  pub each : (key : SpecialKey) (k : ℕ) → special_at b.value.special_types key ≡ Some k → CarriesKey (scope_by t (world b.value) b.value) (scope_alike reads m t) t t q q (world b.value) reads m key k

pub held_keys : (b : BuiltModule) (m : ModuleValue) (own : OwnPlaces) (t : ModuleValue) (q : ℕ) → Holds b m own → HeldKeys b m own t q
held_keys b m own t q h =
    let u = make_module (copy_whole m own b.decoration h.functions).derived in
    let held = held_whole m own b.decoration h.functions h.form in
    let w = held.copies.reads in
    record {
      reads = w;
      decorated = held.copies.decorated;
      each = subst (λ (v : ModuleValue). (key : SpecialKey) (k : ℕ) → special_at v.special_types key ≡ Some k → CarriesKey (scope_by t (world v) v) (scope_alike w m t) t t q q (world v) w m key k) (sym h.value) (held_key b m own t u held (can_copy m h.form) h.value q);
    }

pub through_law : ThroughLaw
through_law b m own t h = through b m own t (make_module (copy_whole m own b.decoration h.functions).derived) (held_whole m own b.decoration h.functions h.form) (can_copy m h.form) h.value
