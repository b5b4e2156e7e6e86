-- Modules with the oldest first, each under its name, as a list with the newest first.
use Rattle.std.proofs.Common.{◌≡◌, ◌≢◌, ℕ, zero, suc, ◌+◌, ◌-◌, ◌<◌, ◌≤◌, List, [], ◌∷◌, ◌++◌, Bool, true, false, not, cond, ◌||◌, refl, sym, ap, ◌∙◌, map, reverse, filter, find, position, drop, get_or, length, slice_get, nat_lt, Some, None, is_some, String, Global, string_bytes, string_eq, bytes_eq, eqb, true≢false, append-nil, ⊎_elim, eq-or-lt_of_le, arith}
use Rattle.std.proofs.lemmas.Bool.{or_parts, or_from, lt-ltb, le-ltb, ltb-true, ltb-false}
use Rattle.std.proofs.lemmas.List.{length-map, length-reverse, length-drop, get_or-map, get_or-reverse, get_or-drop, map-append, reverse-append, reverse-reverse}
use Rattle.std.proofs.lemmas.List.Elements.{filter-append}
use Rattle.std.proofs.lemmas.List.Quantifiers.{position-Some}
use Rattle.std.proofs.lemmas.List.Sums.{prefix_len_is}
use Rattle.std.proofs.lemmas.Map.Entries.{length-values_of, length-keys_of}
use Rattle.std.proofs.lemmas.Map.Keys.{IsDistinct-head, IsDistinct-tail}
use Rattle.std.specs.Cmp.Lexicographic.{nat_list_eq_equiv}
use Rattle.std.specs.List.{list_any, position_or_len, IsDistinct, AllByRecursion}
use Rattle.std.specs.Map.{keys_of, values_of, lookup}
use Rattle.naga_oil_registry.specs.Registered.{Registered, definition_of}
use Rattle.naga_oil_registry.specs.Registry.{registered, standing, taken}
use Rattle.naga_oil_registry.specs.RegistryView.{newest_first, AreUnderNames, AreMarks, MarksMore, IsOnly}
use Rattle.naga_oil_registry.specs.declared.definition.ComposableModuleDefinition.{ComposableModuleDefinition}
use Rattle.naga_oil_registry.proofs.RegistryLemmas.{bytes_same, opened_at}

-- ---- what passes
module _ {X : Type 0} (p : X → Bool) where
  pub none_passes : (xs : List X) → ((k : ℕ) (d : X) → k < length xs → p (get_or xs k d) ≡ false) → list_any p xs ≡ false
  none_passes [] h = refl
  none_passes (x ∷ xs) h = or_from (p x) (list_any p xs) (h 0 x (omega arith)) (none_passes xs (λ k d lt. h (suc k) d (omega (arith, lt))))

  pub passes_none : (xs : List X) → list_any p xs ≡ false → (k : ℕ) (d : X) → k < length xs → p (get_or xs k d) ≡ false
  passes_none [] e k d lt = absurd (omega (arith, lt))
  passes_none (x ∷ xs) e zero d lt = (or_parts (p x) (list_any p xs) e).0
  passes_none (x ∷ xs) e (suc k) d lt = passes_none xs (or_parts (p x) (list_any p xs) e).1 k d (omega (arith, lt))

  none_reversed : (xs : List X) → list_any p xs ≡ false → list_any p (reverse xs) ≡ false
  none_reversed xs e =
      none_passes (reverse xs) (λ k d lt.
      let size = length-reverse xs in
      ap p (get_or-reverse xs k d (omega (arith, lt, size))) ∙ passes_none xs e (length xs - 1 - k) d (omega (arith, lt, size)))

  pub none_forward : (xs : List X) → list_any p (reverse xs) ≡ false → list_any p xs ≡ false
  none_forward xs e = ap (list_any p) (sym (reverse-reverse xs)) ∙ none_reversed (reverse xs) e

  pub none_dropped : (n : ℕ) (xs : List X) → list_any p xs ≡ false → list_any p (drop n xs) ≡ false
  none_dropped zero xs e = e
  none_dropped (suc n) [] e = refl
  none_dropped (suc n) (x ∷ xs) e = none_dropped n xs (or_parts (p x) (list_any p xs) e).1

  pub find_none : (xs : List X) → list_any p xs ≡ false → find p xs ≡ None
  find_none [] e = refl
  find_none (x ∷ xs) e = let h = or_parts (p x) (list_any p xs) e in ap (λ b. cond b (Some x) (find p xs)) h.0 ∙ find_none xs h.1

  pub position_none : (xs : List X) → list_any p xs ≡ false → position p xs ≡ None
  position_none [] e = refl
  position_none (x ∷ xs) e =
      let all : position_or_len p (x ∷ xs) ≡ length (x ∷ xs) = prefix_len_is (λ y. not (p y)) (x ∷ xs) (length (x ∷ xs)) x (omega arith) (λ k lt. ap not (passes_none (x ∷ xs) e k x lt)) (λ lt. absurd (omega (arith, lt))) in
      ap (λ n. cond (nat_lt n (length (x ∷ xs))) (Some n) None) all ∙ ap (λ b. cond b (Some (length (x ∷ xs))) None) (not_below (length (x ∷ xs)))
    where
      not_below : (n : ℕ) → nat_lt n n ≡ false
      not_below n = le-ltb n n (omega arith)

-- ---- what passes alone
module _ {X : Type 0} (p : X → Bool) where
  pub find_only : (xs : List X) (place : ℕ) (d : X) → IsOnly p xs place → find p xs ≡ Some (get_or xs place d)
  find_only [] place d o = let h = o.within in absurd (omega (arith, h))
  find_only (x ∷ xs) zero d o = ap (λ b. cond b (Some x) (find p xs)) (o.passes d)
  find_only (x ∷ xs) (suc place) d o =
      let h = o.within in
      ap (λ b. cond b (Some x) (find p xs)) (o.others 0 d (omega arith) (λ e. omega (arith, e)))
      ∙ find_only xs place d (record { within = omega (arith, h); passes = o.passes; others = λ k d lt ne. o.others (suc k) d (omega (arith, lt)) (λ e. ne (omega (arith, e))) })

  only_after : (xs : List X) (place from : ℕ) → from ≤ place → IsOnly p xs place → IsOnly p (drop from xs) (place - from)
  only_after xs place from le o =
      let h = o.within in
      let size = length-drop from xs in
      let at : from + (place - from) ≡ place = omega (arith, le) in
      record {
        within = omega (arith, h, le, size);
        passes = λ d. ap p (get_or-drop from xs (place - from) d ∙ ap (λ k. get_or xs k d) at) ∙ o.passes d;
        others = λ k d lt ne. ap p (get_or-drop from xs k d) ∙ o.others (from + k) d (omega (arith, lt, size)) (λ e. ne (omega (arith, e, le)));
      }

  pub position_only : (xs : List X) (place : ℕ) (d : X) → IsOnly p xs place → position p xs ≡ Some place
  position_only xs place d o =
      let h = o.within in
      let first : position_or_len p xs ≡ place = prefix_len_is (λ y. not (p y)) xs place d (omega (arith, h)) (λ k lt. ap not (o.others k d (omega (arith, lt, h)) (λ e. omega (arith, e, lt)))) (λ lt. ap not (o.passes d)) in
      ap (λ n. cond (nat_lt n (length xs)) (Some n) None) first ∙ ap (λ b. cond b (Some place) None) (lt-ltb place (length xs) h)

  pub position_after : (xs : List X) (place from : ℕ) (d : X) → from ≤ place → IsOnly p xs place → position p (drop from xs) ≡ Some (place - from)
  position_after xs place from d le o = position_only (drop from xs) (place - from) d (only_after xs place from le o)

  pub none_after : (xs : List X) (place from : ℕ) → place < from → IsOnly p xs place → list_any p (drop from xs) ≡ false
  none_after xs place from above o =
      none_passes p (drop from xs) (λ k d lt.
      let size = length-drop from xs in
      ap p (get_or-drop from xs k d) ∙ o.others (from + k) d (omega (arith, lt, size)) (λ e. omega (arith, e, above)))

-- ---- the newest first
pub length_newest : (es : List (String Global × ComposableModuleDefinition)) → length (newest_first (values_of es)) ≡ length es
length_newest es = length-reverse (map definition_of (values_of es)) ∙ length-map (values_of es) definition_of ∙ length-values_of es

newest_get : (ms : List ComposableModuleDefinition) (place : ℕ) (v : ComposableModuleDefinition) (d : Registered) → place < length ms → get_or (newest_first ms) place d ≡ definition_of (get_or ms (length ms - 1 - place) v)
newest_get ms place v d lt =
    let size : length (map definition_of ms) ≡ length ms = length-map ms definition_of in
    get_or-reverse (map definition_of ms) place d (omega (arith, lt, size))
    ∙ ap (λ n. get_or (map definition_of ms) (n - 1 - place) d) size
    ∙ get_or-map definition_of ms (length ms - 1 - place) v d (omega (arith, lt))

-- ---- names
same_name : (es : List (String Global × ComposableModuleDefinition)) → AreUnderNames es → (i : ℕ) (k : String Global) (v : ComposableModuleDefinition) → i < length es → string_bytes (get_or (keys_of es) i k) ≡ string_bytes (get_or (values_of es) i v).name
same_name [] under i k v lt = absurd (omega (arith, lt))
same_name (e ∷ es) under zero k v lt = under.0
same_name (e ∷ es) under (suc i) k v lt = same_name es under.1 i k v (omega (arith, lt))

all_at : {X : Type 0} (P : X → Type 0) (xs : List X) → AllByRecursion P xs → (i : ℕ) (d : X) → i < length xs → P (get_or xs i d)
all_at P [] h i d lt = absurd (omega (arith, lt))
all_at P (x ∷ xs) h zero d lt = h.0
all_at P (x ∷ xs) h (suc i) d lt = all_at P xs h.1 i d (omega (arith, lt))

apart_at : {X : Type 0} (eq : X → X → Bool) (xs : List X) → IsDistinct eq xs → (i j : ℕ) (d : X) → i < j → j < length xs → eq (get_or xs i d) (get_or xs j d) ≡ false
apart_at eq [] h i j d below lt = absurd (omega (arith, lt))
apart_at eq (x ∷ xs) h zero zero d below lt = absurd (omega (arith, below))
apart_at eq (x ∷ xs) h zero (suc j) d below lt = all_at (λ y. eq x y ≡ false) xs (IsDistinct-head eq x xs h) j d (omega (arith, lt))
apart_at eq (x ∷ xs) h (suc i) zero d below lt = absurd (omega (arith, below))
apart_at eq (x ∷ xs) h (suc i) (suc j) d below lt = apart_at eq xs (IsDistinct-tail eq x xs h) i j d (omega (arith, below)) (omega (arith, lt))

module _ (name : List ℕ) where
  -- whether a key is the name, and whether a module has it
  abbrev is_key : String Global → Bool
  is_key k = bytes_eq name (string_bytes k)

  abbrev is_named : Registered → Bool
  is_named d = bytes_eq d.name name

  key_named : (k : String Global) (v : ComposableModuleDefinition) → string_bytes k ≡ string_bytes v.name → is_named (definition_of v) ≡ is_key k
  key_named k v e = nat_list_eq_equiv.symm (string_bytes v.name) name ∙ ap (bytes_eq name) (sym e)

  -- a name that the map doesn't find isn't registered
  unfound : (es : List (String Global × ComposableModuleDefinition)) → AreUnderNames es → is_some (lookup is_key es) ≡ false → list_any is_named (map definition_of (values_of es)) ≡ false
  unfound [] under e = refl
  unfound (x ∷ es) under e = by (is_key x.0) refl e (λ e. unfound es under.1 e)
    where
      by : (b : Bool) → is_key x.0 ≡ b → is_some (cond b (Some x.1) (lookup is_key es)) ≡ false → (is_some (lookup is_key es) ≡ false → list_any is_named (map definition_of (values_of es)) ≡ false) → (is_named (definition_of x.1) || list_any is_named (map definition_of (values_of es))) ≡ false
      by true q e rest = absurd (true≢false e)
      by false q e rest = or_from (is_named (definition_of x.1)) (list_any is_named (map definition_of (values_of es))) (key_named x.0 x.1 under.0 ∙ q) (rest e)

  pub unregistered : (es : List (String Global × ComposableModuleDefinition)) → AreUnderNames es → is_some (lookup is_key es) ≡ false → registered name (newest_first (values_of es)) ≡ false
  unregistered es under e = none_reversed is_named (map definition_of (values_of es)) (unfound es under e)

  -- and the converse
  unlisted : (key : String Global) (es : List (String Global × ComposableModuleDefinition)) → string_bytes key ≡ name → AreUnderNames es → list_any is_named (map definition_of (values_of es)) ≡ false → lookup (string_eq key) es ≡ None
  unlisted key [] is under e = refl
  unlisted key (x ∷ es) is under e =
      let h = or_parts (is_named (definition_of x.1)) (list_any is_named (map definition_of (values_of es))) e in
      let other : string_eq key x.0 ≡ false = ap (λ n. bytes_eq n (string_bytes x.0)) is ∙ sym (key_named x.0 x.1 under.0) ∙ h.0 in
      ap (λ b. cond b (Some x.1) (lookup (string_eq key) es)) other ∙ unlisted key es is under.1 h.1

  pub unkept : (key : String Global) (es : List (String Global × ComposableModuleDefinition)) → string_bytes key ≡ name → AreUnderNames es → registered name (newest_first (values_of es)) ≡ false → lookup (string_eq key) es ≡ None
  unkept key es is under e = unlisted key es is under (none_forward is_named (map definition_of (values_of es)) e)

  -- a name that the map finds is that of one module, as far from the newest as the key is from the last
  module _ (k0 : String Global) (v0 : ComposableModuleDefinition) (es : List (String Global × ComposableModuleDefinition)) (under : AreUnderNames es) (apart : IsDistinct string_eq (keys_of es)) (i : ℕ) (at : position is_key (keys_of es) ≡ Some i) where
    named_at : (place : ℕ) (d : Registered) → place < length es → is_named (get_or (newest_first (values_of es)) place d) ≡ is_key (get_or (keys_of es) (length es - 1 - place) k0)
    named_at place d lt =
        let size = length-values_of es in
        let older = length es - 1 - place in
        ap is_named (newest_get (values_of es) place v0 d (omega (arith, lt, size)) ∙ ap (λ n. definition_of (get_or (values_of es) (n - 1 - place) v0)) size)
        ∙ key_named (get_or (keys_of es) older k0) (get_or (values_of es) older v0) (same_name es under older k0 v0 (omega (arith, lt)))

    other_key : (j : ℕ) → j < length es → j ≢ i → is_key (get_or (keys_of es) j k0) ≡ false
    other_key j lt ne =
        let size = length-keys_of es in
        let found = position-Some is_key (keys_of es) i k0 at in
        let within = found.0 in
        let is : name ≡ string_bytes (get_or (keys_of es) i k0) = bytes_same name (string_bytes (get_or (keys_of es) i k0)) found.1 in
        elim (nat_lt j i) as (λ b. nat_lt j i ≡ b → is_key (get_or (keys_of es) j k0) ≡ false) [
          | true ↦ λ q. found.2 j (ltb-true j i q)
          | false ↦ λ q.
              let above = ltb-false j i q in
              ap (λ n. bytes_eq n (string_bytes (get_or (keys_of es) j k0))) is ∙ apart_at string_eq (keys_of es) apart i j k0 (strictly i j above (λ e. ne (sym e))) (omega (arith, lt, size))
        ] refl
      where
        strictly : (i j : ℕ) → i ≤ j → (i ≡ j → ⊥) → i < j
        strictly i j le ne = ⊎_elim (λ e. absurd (ne e)) (λ l. l) (eq-or-lt_of_le le)

    only_from : IsOnly is_named (newest_first (values_of es)) (length es - 1 - i)
    only_from =
        let size = length-keys_of es in
        let long = length_newest es in
        let found = position-Some is_key (keys_of es) i k0 at in
        let within = found.0 in
        let back : length es - 1 - (length es - 1 - i) ≡ i = omega (arith, within, size) in
        record {
          within = omega (arith, within, size, long);
          passes = λ d. named_at (length es - 1 - i) d (omega (arith, within, size)) ∙ ap (λ j. is_key (get_or (keys_of es) j k0)) back ∙ found.1;
          others = λ k d lt ne. named_at k d (omega (arith, lt, long)) ∙ other_key (length es - 1 - k) (omega (arith, lt, long)) (λ e. ne (omega (arith, e, lt, long, within, size)));
        }

  pub only_named : (es : List (String Global × ComposableModuleDefinition)) → AreUnderNames es → IsDistinct string_eq (keys_of es) → (i : ℕ) → position is_key (keys_of es) ≡ Some i → IsOnly is_named (newest_first (values_of es)) (length es - 1 - i)
  only_named [] under apart i at = absurd cc
  only_named (e ∷ es) under apart i at = only_from e.0 e.1 (e ∷ es) under apart i at

-- ---- some are removed
filter_reversed : {X : Type 0} (p : X → Bool) (xs : List X) → reverse (filter p xs) ≡ filter p (reverse xs)
filter_reversed p [] = refl
filter_reversed p (x ∷ xs) = by (p x) refl (filter_reversed p xs)
  where
    last : reverse (x ∷ xs) ≡ reverse xs ++ x ∷ []
    last = reverse-append (x ∷ []) xs

    by : (b : Bool) → p x ≡ b → reverse (filter p xs) ≡ filter p (reverse xs) → reverse (cond b (x ∷ filter p xs) (filter p xs)) ≡ filter p (reverse (x ∷ xs))
    by b q rest =
        let split : filter p (reverse (x ∷ xs)) ≡ filter p (reverse xs) ++ cond b (x ∷ []) [] = ap (filter p) last ∙ filter-append p (reverse xs) (x ∷ []) ∙ ap (λ c. filter p (reverse xs) ++ cond c (x ∷ []) []) q in
        go b split
      where
        go : (b : Bool) → filter p (reverse (x ∷ xs)) ≡ filter p (reverse xs) ++ cond b (x ∷ []) [] → reverse (cond b (x ∷ filter p xs) (filter p xs)) ≡ filter p (reverse (x ∷ xs))
        go true split = reverse-append (x ∷ []) (filter p xs) ∙ ap (λ ys. ys ++ x ∷ []) rest ∙ sym split
        go false split = rest ∙ sym (append-nil (filter p (reverse xs))) ∙ sym split

module _ (leaves : List ℕ → Bool) where
  -- the entries that stay
  abbrev pub kept_entries : List (String Global × ComposableModuleDefinition) → List (String Global × ComposableModuleDefinition)
  kept_entries es = filter (λ e. not (leaves (string_bytes e.0))) es

  stay_oldest : (es : List (String Global × ComposableModuleDefinition)) → AreUnderNames es → map definition_of (values_of (kept_entries es)) ≡ standing leaves (map definition_of (values_of es))
  stay_oldest [] under = refl
  stay_oldest (e ∷ es) under = by (leaves (string_bytes e.0)) refl (stay_oldest es under.1)
    where
      by : (b : Bool) → leaves (string_bytes e.0) ≡ b → map definition_of (values_of (kept_entries es)) ≡ standing leaves (map definition_of (values_of es))
          → map definition_of (values_of (cond (not b) (e ∷ kept_entries es) (kept_entries es))) ≡ standing leaves (map definition_of (values_of (e ∷ es)))
      by b q rest =
          let named : leaves (string_bytes e.1.name) ≡ b = ap leaves (sym under.0) ∙ q in
          go b rest ∙ ap (λ c. cond (not c) (definition_of e.1 ∷ standing leaves (map definition_of (values_of es))) (standing leaves (map definition_of (values_of es)))) (sym named)
        where
          go : (b : Bool) → map definition_of (values_of (kept_entries es)) ≡ standing leaves (map definition_of (values_of es)) → map definition_of (values_of (cond (not b) (e ∷ kept_entries es) (kept_entries es))) ≡ cond (not b) (definition_of e.1 ∷ standing leaves (map definition_of (values_of es))) (standing leaves (map definition_of (values_of es)))
          go true rest = rest
          go false rest = ap (λ ds. definition_of e.1 ∷ ds) rest

  pub stay_newest : (es : List (String Global × ComposableModuleDefinition)) → AreUnderNames es → newest_first (values_of (kept_entries es)) ≡ standing leaves (newest_first (values_of es))
  stay_newest es under = ap reverse (stay_oldest es under) ∙ filter_reversed (λ d. not (leaves d.name)) (map definition_of (values_of es))

  pub stay_named : (es : List (String Global × ComposableModuleDefinition)) → AreUnderNames es → AreUnderNames (kept_entries es)
  stay_named [] under = tt
  stay_named (e ∷ es) under = by (not (leaves (string_bytes e.0))) (stay_named es under.1)
    where
      by : (b : Bool) → AreUnderNames (kept_entries es) → AreUnderNames (cond b (e ∷ kept_entries es) (kept_entries es))
      by true rest = (under.0, rest)
      by false rest = rest

-- ---- one more
pub more_newest : (es : List (String Global × ComposableModuleDefinition)) (k : String Global) (v : ComposableModuleDefinition) → newest_first (values_of (es ++ (k, v) ∷ [])) ≡ definition_of v ∷ newest_first (values_of es)
more_newest es k v =
    ap newest_first (map-append (λ (e : String Global × ComposableModuleDefinition). e.1) es ((k, v) ∷ []))
    ∙ ap reverse (map-append definition_of (values_of es) (v ∷ []))
    ∙ reverse-append (map definition_of (values_of es)) (definition_of v ∷ [])

pub more_named : (es : List (String Global × ComposableModuleDefinition)) (k : String Global) (v : ComposableModuleDefinition) → string_bytes k ≡ string_bytes v.name → AreUnderNames es → AreUnderNames (es ++ (k, v) ∷ [])
more_named [] k v is under = (is, tt)
more_named (e ∷ es) k v is under = (under.0, more_named es k v is under.1)

-- ---- marks
or_moved : (a b c : Bool) → (a || (b || c)) ≡ (b || (a || c))
or_moved true true c = refl
or_moved true false c = refl
or_moved false b c = refl

pub marks_more : (marks more : List Bool) (d : Registered) (ds : List Registered) → MarksMore marks d more → AreMarks marks ds → AreMarks more (d ∷ ds)
marks_more marks more d ds m h some =
    let size = m.0 in
    let k = h (omega (arith, some, size)) in
    let all = k.0 in
    (size ∙ all, λ index lt. m.1 index (omega (arith, lt, all)) ∙ ap (λ b. eqb d.index index || b) (k.1 index lt) ∙ or_moved (eqb d.index index) (eqb index 0) (taken ds index))

-- the marks so far, and the indices that are taken from a place on
module _ (leaves : List ℕ → Bool) (ds : List Registered) (place : ℕ) (d : Registered) (at : slice_get ds place ≡ Some d) where
  left_on : standing leaves (drop place ds) ≡ cond (not (leaves d.name)) (d ∷ standing leaves (drop (place + 1) ds)) (standing leaves (drop (place + 1) ds))
  left_on = ap (standing leaves) (opened_at ds place d at)

  pub taken_on : leaves d.name ≡ false → (index : ℕ) (old new : Bool) → new ≡ (eqb d.index index || old) → (new || taken (standing leaves (drop (place + 1) ds)) index) ≡ (old || taken (standing leaves (drop place ds)) index)
  taken_on stays index old new is =
      ap (λ b. b || taken (standing leaves (drop (place + 1) ds)) index) is ∙ or_joined (eqb d.index index) old (taken (standing leaves (drop (place + 1) ds)) index)
      ∙ ap (λ l. old || taken l index) (sym (left_on ∙ ap (λ b. cond (not b) (d ∷ standing leaves (drop (place + 1) ds)) (standing leaves (drop (place + 1) ds))) stays))
    where
      or_joined : (a b c : Bool) → ((a || b) || c) ≡ (b || (a || c))
      or_joined true true c = refl
      or_joined true false c = refl
      or_joined false b c = refl

  pub taken_same : leaves d.name ≡ true → (index : ℕ) → taken (standing leaves (drop (place + 1) ds)) index ≡ taken (standing leaves (drop place ds)) index
  taken_same goes index = ap (λ l. taken l index) (sym (left_on ∙ ap (λ b. cond (not b) (d ∷ standing leaves (drop (place + 1) ds)) (standing leaves (drop (place + 1) ds))) goes))

pub or_nothing : (b : Bool) → b ≡ (b || false)
or_nothing true = refl
or_nothing false = refl
