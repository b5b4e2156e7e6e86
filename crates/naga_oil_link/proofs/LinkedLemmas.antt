-- What is linked of builds: items at places, builds by their names, and imports one after another.
use Rattle.std.proofs.Common.{◌≡◌, ◌<◌, ◌≤◌, ◌+◌, ◌-◌, ◌++◌, ◌&&◌, ◌||◌, zero, suc, ℕ, List, [], ◌∷◌, map, fold, take, drop, reverse, length, get_or, Bool, true, false, not, nat_lt, nat_eq, min, cond, Ordering, Less, Equal, Greater, if◌then◌else◌, Option, Some, None, Result, Ok, Err, IfOk, OnOk, option_map, slice_get, position, refl, sym, ap, subst, ◌∙◌, String, Global, Vec, string_bytes, bytes_eq, append_assoc, append-nil, arith}
use Rattle.std.proofs.Math.Path.{transport}
use Rattle.std.proofs.lemmas.List.{drop_more, map-append, length-map, length-take, length-take-le, length-drop, get_or-drop, get_or-take, take-take, take-append-drop, take_all, take_more, reverse-append}
use Rattle.std.proofs.lemmas.List.Elements.{All-from_get_or}
use Rattle.std.proofs.lemmas.List.Folds.{list_any_none}
use Rattle.std.proofs.lemmas.List.Quantifiers.{position-Some}
use Rattle.std.proofs.lemmas.List.Sorted.{IsPermutation-reverse, list_any-IsPermutation}
use Rattle.std.proofs.lemmas.List.Sums.{fold-append, prefix_len_passes}
use Rattle.std.proofs.lemmas.Map.Keys.{IsDistinct-head, IsDistinct-tail}
use Rattle.std.proofs.lemmas.Map.Lookups.{exact_unsigned}
use Rattle.std.proofs.lemmas.Option.{slice_get-map, slice_get-get_or, get_or_from_slice_get}
use Rattle.std.proofs.lemmas.Bool.Decides.{nat_tests}
use Rattle.std.proofs.lemmas.Slice.Eq.{bytes_eq-Decides}
use Rattle.std.specs.Arc.{arc_value}
use Rattle.std.specs.BTreeMap.{is_at}
use Rattle.std.specs.BTreeSet.{insert_key}
use Rattle.std.specs.List.{filter, flat_map, list_any, prefix_len, range_with_len, AllByRecursion, IsDistinct}
use Rattle.std.specs.Map.{keys_of, values_of}
use Rattle.std.specs.Ordering.{nat_cmp, is_eq, match_ordering}
use Rattle.std.specs.declared.sync.Arc.{Arc}
use Rattle.naga_oil_ir.specs.ModuleValue.{ModuleValue, module_value}
use Rattle.naga_oil_ir.specs.Rows.{Text}
use Rattle.naga_oil_ir.specs.declared.module.Module.{Module}
use Rattle.naga_oil_derive.specs.CopiedEntry.{make_module}
use Rattle.naga_oil_derive.specs.Derived.{Derived, nothing}
use Rattle.naga_oil_derive.specs.DerivedValue.{set_source}
use Rattle.naga_oil_derive.specs.World.{value_of}
use Rattle.naga_oil_form_laws.specs.EntryForm.{IsModuleFormed}
use Rattle.naga_oil_words.specs.Texts.{texts, is_among}
use Rattle.naga_oil_imports.specs.Uses.{Import, import_of}
use Rattle.naga_oil_imports.specs.declared.import_definition.ImportDefinition.{ImportDefinition}
use Rattle.naga_oil_link.specs.BuiltModule.{BuiltModule, Builds, built_of, builds_of}
use Rattle.naga_oil_link.specs.ByName.{places_where, text_at}
use Rattle.naga_oil_link.specs.CopiedBuild.{has_name_among}
use Rattle.naga_oil_link.specs.CopySources.{CopiesFrom}
use Rattle.naga_oil_link.specs.Linked.{LinkState, Asked, passes, asked_of, link_source, link_items, link_asked, enter, link_within, link_import, link_imports, nothing_linked, link_whole}
use Rattle.naga_oil_link.specs.LinkView.{step_if, IsState, LinksImports}
use Rattle.naga_oil_link.specs.declared.link.Linker.{Linker}
use Rattle.naga_oil_link.specs.declared.module.ComposableModule.{ComposableModule}
use Rattle.naga_oil_link.proofs.ByNameLemmas.{text_there}

-- what precedes a step of a walk over a list
pub next_item : {X : Type 0} (xs : List X) (i : ℕ) (x : X) → i < length xs → x ≡ get_or xs i x → drop i xs ≡ x ∷ drop (i + 1) xs
next_item xs i x within is = drop_more xs i x within ∙ ap (λ y. y ∷ drop (i + 1) xs) (sym is)

-- what follows, one step further
pub one_more : {X : Type 0} (xs : List X) (i : ℕ) (x : X) → i < length xs → x ≡ get_or xs i x → take (i + 1) xs ≡ take i xs ++ x ∷ []
one_more xs i x within is = take_more xs i x within ∙ ap (λ y. take i xs ++ y ∷ []) (sym is)

-- ---- names

-- the functions that override others, entry by entry
pub names_by_entry : (es : List (String Global × Vec (String Global) Global)) → flat_map (λ (v : Vec (String Global) Global). texts v.items) (values_of es) ≡ flat_map (λ (o : List ℕ × List (List ℕ)). o.1) (map (λ (e : String Global × Vec (String Global) Global). (string_bytes e.0, texts e.1.items)) es)
names_by_entry [] = refl
names_by_entry (e ∷ es) = ap (λ ns. texts e.1.items ++ ns) (names_by_entry es)

-- ---- items at places

-- one step of a walk
pub fold_step : {X Y : Type 0} (f : Y → X → Y) (d e : Y) (x : X) (xs ys : List X) (all : Y) → ys ≡ x ∷ xs → e ≡ f d x → fold f d ys ≡ all → fold f e xs ≡ all
fold_step f d e x xs ys all next step h = ap (λ y. fold f y xs) step ∙ ap (fold f d) (sym next) ∙ h

-- the end of a walk
pub fold_end : {X Y : Type 0} (f : Y → X → Y) (d : Y) (ys : List X) (all : Y) → ys ≡ [] → fold f d ys ≡ all → d ≡ all
fold_end f d ys all none h = ap (fold f d) (sym none) ∙ h

module _ {X : Type 0} (test : X → Bool) (step : Derived → X → Derived) (d : Derived) (o : Option X) where
  -- there is no item
  pub none_there : o ≡ None → d ≡ step_if test step d o
  none_there none = ap (step_if test step d) (sym none)

  module _ (x : X) (there : o ≡ Some x) where
    -- the item doesn't pass
    pub left_there : test x ≡ false → d ≡ step_if test step d o
    left_there fails = sym (ap (step_if test step d) there ∙ ap (λ (b : Bool). if b then step d x else d) fails)

    -- the item passes
    pub made_there : test x ≡ true → (e : Derived) → e ≡ step d x → e ≡ step_if test step d o
    made_there passes e is = is ∙ sym (ap (step_if test step d) there ∙ ap (λ (b : Bool). if b then step d x else d) passes)

-- a name that passes the test of names is among them
pub same_test : (names : List (List ℕ)) (name : Text) → passes (is_among names) name ≡ has_name_among names name
same_test names None = refl
same_test names (Some n) = refl

module _ {X : Type 0} (own : X → Bool) (step : Derived → X → Derived) where
  abbrev at : List X → Derived → ℕ → Derived
  at fs d k = step_if own step d (slice_get fs k)

  module _ (test : ℕ → Bool) (links : X → Bool) (fs : List X) where
    step_here : (a : ℕ) (x : X) (ks : List ℕ) (xs : List X) (d : Derived) → slice_get fs a ≡ Some x → ((e : Derived) → fold (at fs) e ks ≡ fold step e xs) → (b c l : Bool) → own x ≡ c → (b && c) ≡ l → fold (at fs) d (if b then a ∷ ks else ks) ≡ fold step d (if l then x ∷ xs else xs)
    step_here a x ks xs d there more true true l is same = ap (λ e. fold (at fs) e ks) (ap (step_if own step d) there ∙ ap (λ (c : Bool). if c then step d x else d) is) ∙ more (step d x) ∙ ap (λ (m : Bool). fold step d (if m then x ∷ xs else xs)) same
    step_here a x ks xs d there more true false l is same = ap (λ e. fold (at fs) e ks) (ap (step_if own step d) there ∙ ap (λ (c : Bool). if c then step d x else d) is) ∙ more d ∙ ap (λ (m : Bool). fold step d (if m then x ∷ xs else xs)) same
    step_here a x ks xs d there more false c l is same = more d ∙ ap (λ (m : Bool). fold step d (if m then x ∷ xs else xs)) same

    folded_from : (xs : List X) (a : ℕ) → ((k : ℕ) → slice_get fs (a + k) ≡ slice_get xs k) → ((k : ℕ) (x : X) → slice_get fs k ≡ Some x → (test k && own x) ≡ links x) → (d : Derived) → fold (at fs) d (filter test (range_with_len a (length xs))) ≡ fold step d (filter links xs)
    folded_from [] a same h d = refl
    folded_from (x ∷ xs) a same h d =
        let there : slice_get fs a ≡ Some x = ap (slice_get fs) (omega arith) ∙ same 0 in
        let later : (k : ℕ) → slice_get fs (a + 1 + k) ≡ slice_get xs k = λ k. ap (slice_get fs) (omega arith) ∙ same (suc k) in
        step_here a x (filter test (range_with_len (a + 1) (length xs))) (filter links xs) d there (folded_from xs (a + 1) later h) (test a) (own x) (links x) refl (h a x there)

  -- a walk over the places of the names that pass a test makes the steps of the own items that pass the test
  pub folded_where : (name : X → Text) (test : Text → Bool) (xs : List X) (d : Derived) → fold (at xs) d (places_where test (map name xs)) ≡ fold step d (filter (λ x. test (name x) && own x) xs)
  folded_where name test xs d =
      ap (λ n. fold (at xs) d (filter (λ k. test (text_at (map name xs) k)) (range_with_len 0 n))) (length-map xs name)
      ∙ folded_from (λ k. test (text_at (map name xs) k)) (λ x. test (name x) && own x) xs xs 0 (λ k. ap (slice_get xs) (omega arith)) (λ k x there. ap (λ n. test n && own x) (text_there name xs k x there)) d

-- ---- a source

-- a module that was set is the source
pub set_copies : (m : Module) (shift : ℕ) (d e : Derived) → IsModuleFormed (module_value m) → e ≡ set_source d (value_of m) shift → CopiesFrom m e
unfolding CopiesFrom value_of
set_copies m shift d e form is = record { form = form; source = _; set = ap (λ (x : Derived). x.source) is; value = refl }

-- ---- one build

module _ {T E : Type 0} (r : Result T E) (b : BuiltModule) (asked : Asked) (v : ModuleValue) (d e : Derived) where
  -- the header of the build is linked
  pub header_linked : (of_headers : Bool) → of_headers ≡ true → v ≡ b.header → OnOk r (e ≡ link_source b b.own_in_header v asked d) → OnOk r (e ≡ link_items of_headers b asked d)
  unfolding link_items
  header_linked of_headers is same h =
      subst (λ (x : Derived). OnOk r (e ≡ x)) (ap (λ (w : ModuleValue). link_source b b.own_in_header w asked d) same ∙ ap (λ (x : Bool). if x then link_source b b.own_in_header b.header asked d else link_source b b.own_in_value b.value asked d) (sym is)) h

  -- the whole of the build is linked
  pub value_linked : (of_headers : Bool) → of_headers ≡ false → v ≡ b.value → OnOk r (e ≡ link_source b b.own_in_value v asked d) → OnOk r (e ≡ link_items of_headers b asked d)
  unfolding link_items
  value_linked of_headers is same h =
      subst (λ (x : Derived). OnOk r (e ≡ x)) (ap (λ (w : ModuleValue). link_source b b.own_in_value w asked d) same ∙ ap (λ (x : Bool). if x then link_source b b.own_in_header b.header asked d else link_source b b.own_in_value b.value asked d) (sym is)) h

-- ---- builds by their names

prefix_len-map : {X Y : Type 0} (p : Y → Bool) (f : X → Y) (xs : List X) → prefix_len p (map f xs) ≡ prefix_len (λ x. p (f x)) xs
prefix_len-map p f [] = refl
prefix_len-map p f (x ∷ xs) = ap (λ n. cond (p (f x)) (1 + n) 0) (prefix_len-map p f xs)

position-map : {X Y : Type 0} (p : Y → Bool) (f : X → Y) (xs : List X) → position p (map f xs) ≡ position (λ x. p (f x)) xs
position-map p f xs =
    let long = length-map xs f in
    let front = prefix_len-map (λ y. not (p y)) f xs in
    λ i. cond (nat_lt (front i) (long i)) (Some (front i)) None

abbrev pub Entries : Type 0
Entries = List (String Global × Arc ComposableModule Global)

abbrev pub entry_of : String Global × Arc ComposableModule Global → List ℕ × BuiltModule
entry_of e = (string_bytes e.0, built_of (arc_value e.1))

abbrev pub named : List ℕ → List ℕ × BuiltModule → Bool
named name e = bytes_eq name e.0

same_position : (es : Entries) (name : List ℕ) → position (named name) (map entry_of es) ≡ position (λ k. bytes_eq name (string_bytes k)) (keys_of es)
same_position es name = position-map (named name) entry_of es ∙ sym (position-map (λ k. bytes_eq name (string_bytes k)) (λ e. e.0) es)

-- the names of builds are distinct
abbrev pub AreApart : Builds → Type 0
AreApart bs = (j k : ℕ) (e f : List ℕ × BuiltModule) → slice_get bs j ≡ Some e → slice_get bs k ≡ Some f → bytes_eq e.0 f.0 ≡ nat_eq j k

one_name : (x y : List ℕ) → x ≡ y → bytes_eq x y ≡ true
one_name x y e = (bytes_eq-Decides x y).1 e

flipped : (x y : List ℕ) → bytes_eq x y ≡ false → bytes_eq y x ≡ false
flipped x y e = by (bytes_eq y x) refl
  where
    by : (b : Bool) → bytes_eq y x ≡ b → b ≡ false
    by false is = refl
    by true is = sym (one_name x y (sym ((bytes_eq-Decides y x).0 is))) ∙ e

other_name : (n : String Global) (es : Entries) (k : ℕ) (f : List ℕ × BuiltModule) → AllByRecursion (λ k. bytes_eq (string_bytes n) (string_bytes k) ≡ false) (keys_of es) → slice_get (map entry_of es) k ≡ Some f → bytes_eq (string_bytes n) f.0 ≡ false
other_name n [] k f h is = absurd cc
other_name n (e ∷ es) zero f h is =
    let same : entry_of e ≡ f = cc in
    ap (λ (x : List ℕ × BuiltModule). bytes_eq (string_bytes n) x.0) (sym same) ∙ h.0
other_name n (e ∷ es) (suc k) f h is = other_name n es k f h.1 is

pub entries_apart : (es : Entries) → IsDistinct (λ j k. bytes_eq (string_bytes j) (string_bytes k)) (keys_of es) → AreApart (map entry_of es)
entries_apart [] u j k e f p q = absurd cc
entries_apart (x ∷ xs) u zero zero e f p q =
    let same : e ≡ f = cc in
    one_name e.0 f.0 (ap (λ (y : List ℕ × BuiltModule). y.0) same)
entries_apart (x ∷ xs) u zero (suc k) e f p q =
    let same : entry_of x ≡ e = cc in
    let apart : nat_eq 0 (suc k) ≡ false = grind (arith, nat_tests) in
    ap (λ (y : List ℕ × BuiltModule). bytes_eq y.0 f.0) (sym same) ∙ other_name x.0 xs k f (IsDistinct-head _ _ _ u) q ∙ sym apart
entries_apart (x ∷ xs) u (suc j) zero e f p q =
    let same : entry_of x ≡ f = cc in
    let apart : nat_eq (suc j) 0 ≡ false = grind (arith, nat_tests) in
    ap (λ (y : List ℕ × BuiltModule). bytes_eq e.0 y.0) (sym same) ∙ flipped (string_bytes x.0) e.0 (other_name x.0 xs j e (IsDistinct-head _ _ _ u) p) ∙ sym apart
entries_apart (x ∷ xs) u (suc j) (suc k) e f p q =
    let same : nat_eq j k ≡ nat_eq (suc j) (suc k) = grind (arith, nat_tests) in
    entries_apart xs (IsDistinct-tail _ _ _ u) j k e f p q ∙ same

-- ---- one more number

same_number : (k x : ℕ) → is_eq (nat_cmp k x) ≡ nat_eq k x
same_number k x = grind (arith, nat_tests)

pub same_numbers : (ks : List ℕ) (k : ℕ) → list_any (is_at (nat_cmp k)) ks ≡ list_any (nat_eq k) ks
same_numbers [] k = refl
same_numbers (x ∷ xs) k = λ i. same_number k x i || same_numbers xs k i

or_again : (a b : Bool) → (a || b) ≡ (a || (a || b))
or_again true b = refl
or_again false b = refl

or_swapped : (a b c : Bool) → (a || (b || c)) ≡ (b || (a || c))
or_swapped true true c = refl
or_swapped true false c = refl
or_swapped false b c = refl

among-insert : (ks : List ℕ) (k q : ℕ) → list_any (nat_eq q) (insert_key nat_cmp ks k) ≡ (nat_eq q k || list_any (nat_eq q) ks)
among-insert [] k q = refl
among-insert (x ∷ xs) k q = by (nat_cmp k x) refl (among-insert xs k q)
  where
    by : (o : Ordering) → nat_cmp k x ≡ o → list_any (nat_eq q) (insert_key nat_cmp xs k) ≡ (nat_eq q k || list_any (nat_eq q) xs) → list_any (nat_eq q) (match_ordering o (k ∷ x ∷ xs) (x ∷ xs) (x ∷ insert_key nat_cmp xs k)) ≡ (nat_eq q k || list_any (nat_eq q) (x ∷ xs))
    by Less e rest = refl
    by Equal e rest =
        let same : k ≡ x = exact_unsigned k x e in
        or_again (nat_eq q x) (list_any (nat_eq q) xs) ∙ ap (λ y. nat_eq q y || list_any (nat_eq q) (x ∷ xs)) (sym same)
    by Greater e rest = ap (λ b. nat_eq q x || b) rest ∙ or_swapped (nat_eq q x) (nat_eq q k) (list_any (nat_eq q) xs)

-- ---- an import from builds, the newest first

or_neither : (a b : Bool) → (a || b) ≡ false → (a ≡ false) × (b ≡ false)
or_neither true b h = absurd cc
or_neither false b h = (refl, h)

module _ (of_headers : Bool) (s : LinkState) (i : Import) where
  -- builds with other names are skipped
  passed : (xs ys : Builds) → list_any (named i.import) xs ≡ false → link_import of_headers (xs ++ ys) s i ≡ link_import of_headers ys s i
  unfolding link_import
  passed [] ys h = refl
  passed (x ∷ xs) ys h =
      let both = or_neither (bytes_eq i.import x.0) (list_any (named i.import) xs) h in
      ap (λ (b : Bool). if b then link_asked of_headers i x.1 (link_within (link_import of_headers (xs ++ ys)) x s) else link_import of_headers (xs ++ ys) s i) both.0 ∙ passed xs ys both.1

  -- no build has the name of the import
  pub import_missing : (bs : Builds) → list_any (named i.import) bs ≡ false → link_import of_headers (reverse bs) s i ≡ s
  unfolding link_import
  import_missing bs h =
      let none : list_any (named i.import) (reverse bs) ≡ false = sym (list_any-IsPermutation (named i.import) bs (reverse bs) (IsPermutation-reverse bs)) ∙ h in
      ap (λ xs. link_import of_headers xs s i) (sym (append-nil (reverse bs))) ∙ passed (reverse bs) [] none

  newest : (e : List ℕ × BuiltModule) (bs : Builds) → bytes_eq i.import e.0 ≡ true → link_import of_headers (e ∷ bs) s i ≡ link_asked of_headers i e.1 (link_within (link_import of_headers bs) e s)
  unfolding link_import
  newest e bs h = ap (λ (b : Bool). if b then link_asked of_headers i e.1 (link_within (link_import of_headers bs) e s) else link_import of_headers bs s i) h

  -- the last build with the name is e
  last : (xs ys : Builds) (e : List ℕ × BuiltModule) → bytes_eq i.import e.0 ≡ true → list_any (named i.import) ys ≡ false → link_import of_headers (reverse (xs ++ (e ∷ ys))) s i ≡ link_asked of_headers i e.1 (link_within (link_import of_headers (reverse xs)) e s)
  last xs ys e h none =
      let turned : reverse (xs ++ (e ∷ ys)) ≡ reverse ys ++ (e ∷ reverse xs) = reverse-append xs (e ∷ ys) ∙ ap (λ zs. zs ++ reverse xs) (reverse-append (e ∷ []) ys) ∙ append_assoc (reverse ys) (e ∷ []) (reverse xs) in
      let others : list_any (named i.import) (reverse ys) ≡ false = sym (list_any-IsPermutation (named i.import) ys (reverse ys) (IsPermutation-reverse ys)) ∙ none in
      ap (λ zs. link_import of_headers zs s i) turned ∙ passed (reverse ys) (e ∷ reverse xs) others ∙ newest e (reverse xs) h

-- ---- the place of the build with a name

module _ (bs : Builds) (name : List ℕ) where
  module _ (k : ℕ) (e : List ℕ × BuiltModule) (at : position (named name) bs ≡ Some k) (is : slice_get bs k ≡ Some e) where
    -- the build at the place has the name, and none before does
    at_place : (k < length bs) × (bytes_eq name e.0 ≡ true) × ((j : ℕ) → j < k → bytes_eq name (get_or bs j e).0 ≡ false)
    at_place =
        let p = position-Some (named name) bs k e at in
        let same : get_or bs k e ≡ e = get_or_from_slice_get bs k e e is in
        (p.0, ap (λ (x : List ℕ × BuiltModule). bytes_eq name x.0) (sym same) ∙ p.1, p.2)

    -- none before an earlier end has the name
    pub none_before : (end : ℕ) → end ≤ k → list_any (named name) (take end bs) ≡ false
    none_before end l =
        let long : length (take end bs) ≡ end = length-take-le end bs (omega (arith, at_place.0)) in
        list_any_none (named name) (take end bs) (All-from_get_or (λ x. named name x ≡ false) (take end bs) e (λ j h.
        let within : j < end = omega (arith, long, h) in
        ap (named name) (get_or-take end bs j e within) ∙ at_place.2 j (omega arith)))

    -- no build after the place has the name
    pub none_after : AreApart bs → (end : ℕ) → list_any (named name) (drop (k + 1) (take end bs)) ≡ false
    none_after apart end =
        let long : length (take end bs) ≡ min end (length bs) = length-take end bs in
        let rest : length (drop (k + 1) (take end bs)) ≡ length (take end bs) - (k + 1) = length-drop (k + 1) (take end bs) in
        list_any_none (named name) (drop (k + 1) (take end bs)) (All-from_get_or (λ x. named name x ≡ false) (drop (k + 1) (take end bs)) e (λ j h.
        let before : k + 1 + j < end = omega (arith, long, rest, h) in
        let within : k + 1 + j < length bs = omega (arith, long, rest, h) in
        let other : nat_eq k (k + 1 + j) ≡ false = grind (arith, nat_tests) in
        let there : get_or (drop (k + 1) (take end bs)) j e ≡ get_or bs (k + 1 + j) e = get_or-drop (k + 1) (take end bs) j e ∙ get_or-take end bs (k + 1 + j) e before in
        ap (named name) there
        ∙ ap (λ n. bytes_eq n (get_or bs (k + 1 + j) e).0) ((bytes_eq-Decides name e.0).0 at_place.1)
        ∙ apart k (k + 1 + j) e (get_or bs (k + 1 + j) e) is (slice_get-get_or bs (k + 1 + j) e within)
        ∙ other))

    -- the builds before an end are those before the build, the build, and those after it
    pub around : (end : ℕ) → k < end → take end bs ≡ take k bs ++ (e ∷ drop (k + 1) (take end bs))
    around end l =
        let long : length (take end bs) ≡ min end (length bs) = length-take end bs in
        let within : k < length (take end bs) = omega (arith, long, at_place.0) in
        let here : get_or (take end bs) k e ≡ e = get_or-take end bs k e l ∙ get_or_from_slice_get bs k e e is in
        sym (take-append-drop k (take end bs))
        ∙ (λ j. take-take k end bs (omega arith) j ++ (drop_more (take end bs) k e within ∙ ap (λ x. x ∷ drop (k + 1) (take end bs)) here) j)

no_place : (n m : ℕ) → cond (nat_lt n m) (Some n) None ≡ None → m ≤ n
no_place n m h = by (nat_lt n m) refl h
  where
    by : (b : Bool) → nat_lt n m ≡ b → cond b (Some n) None ≡ None → m ≤ n
    by true e h = absurd cc
    by false e h = grind (arith, nat_tests)

pub not_true : (b : Bool) → not b ≡ true → b ≡ false
not_true true h = absurd cc
not_true false h = refl

pub not_false : (b : Bool) → not b ≡ false → b ≡ true
not_false true h = refl
not_false false h = absurd cc

-- no build has the name
pub none_has : (bs : Builds) (name : List ℕ) → position (named name) bs ≡ None → list_any (named name) bs ≡ false
none_has [] name at = refl
none_has (x ∷ xs) name at =
    let past = no_place (prefix_len (λ y. not (named name y)) (x ∷ xs)) (length (x ∷ xs)) at in
    list_any_none (named name) (x ∷ xs) (All-from_get_or (λ y. named name y ≡ false) (x ∷ xs) x (λ j h.
    not_true (named name (get_or (x ∷ xs) j x)) (prefix_len_passes (λ y. not (named name y)) (x ∷ xs) j x (omega (arith, past, h)))))

-- ---- the linked module, and the places of the builds whose imports are linked

module _ (bs : Builds) where
  -- a name is entered, and the place of its build
  pub entering : AreApart bs → (k : ℕ) (e : List ℕ × BuiltModule) → slice_get bs k ≡ Some e → (s : LinkState) (d : Derived) (places : List ℕ) → IsState bs s d places → IsState bs (enter e.0 s) d (insert_key nat_cmp places k)
  entering apart k e is s d places h = record {
    derived = h.derived;
    entered = λ j f at. (λ i. apart j k f e at is i || h.entered j f at i) ∙ sym (among-insert places k j);
  }

-- an import is linked from the builds before a place
abbrev pub LinksImport : (of_headers : Bool) → Builds → (end : ℕ) → Import → Derived → List ℕ → Derived → List ℕ → Type 0
LinksImport of_headers bs end i d places e after = (s : LinkState) → IsState bs s d places → IsState bs (link_import of_headers (reverse (take end bs)) s i) e after

module _ (of_headers : Bool) (bs : Builds) (end : ℕ) where
  pub imports_none : (d : Derived) (places : List ℕ) → LinksImports of_headers bs end [] d places d places
  imports_none d places s h = h

  -- one more import
  pub imports_more : (is : List Import) (i : Import) (d e f : Derived) (p q r : List ℕ) → LinksImports of_headers bs end is d p e q → LinksImport of_headers bs end i e q f r → LinksImports of_headers bs end (is ++ i ∷ []) d p f r
  imports_more is i d e f p q r before one s h =
      let step = link_import of_headers (reverse (take end bs)) in
      subst (λ (t : LinkState). IsState bs t f r) (sym (fold-append step s is (i ∷ []))) (one (fold step s is) (before s h))

  -- no build has the name of the import
  pub links_nothing : (i : Import) (d : Derived) (p : List ℕ) → list_any (named i.import) (take end bs) ≡ false → LinksImport of_headers bs end i d p d p
  links_nothing i d p none s h = subst (λ (t : LinkState). IsState bs t d p) (sym (import_missing of_headers s i (take end bs) none)) h

  module _ (apart : AreApart bs) (i : Import) (k : ℕ) (e : List ℕ × BuiltModule) (at : position (named i.import) bs ≡ Some k) (is : slice_get bs k ≡ Some e) (before : k < end) where
    found : (s : LinkState) → link_import of_headers (reverse (take end bs)) s i ≡ link_asked of_headers i e.1 (link_within (link_import of_headers (reverse (take k bs))) e s)
    found s =
        ap (λ xs. link_import of_headers (reverse xs) s i) (around bs i.import k e at is end before)
        ∙ last of_headers s i (take k bs) (drop (k + 1) (take end bs)) e (at_place bs i.import k e at is).1 (none_after bs i.import k e at is apart end)

    -- the imports of the build are linked
    pub links_known : (d f : Derived) (p : List ℕ) → list_any (nat_eq k) p ≡ true → f ≡ link_items of_headers e.1 (asked_of i e.1) d → LinksImport of_headers bs end i d p f p
    links_known d f p known linked s h =
        let skipped : link_within (link_import of_headers (reverse (take k bs))) e s ≡ s = ap (λ (b : Bool). if b then s else fold (link_import of_headers (reverse (take k bs))) (enter e.0 s) e.1.imports) (h.entered k e is ∙ known) in
        subst (λ (t : LinkState). IsState bs t f p) (sym (found s ∙ ap (link_asked of_headers i e.1) skipped)) (record { derived = linked ∙ ap (link_items of_headers e.1 (asked_of i e.1)) h.derived; entered = h.entered })

    -- the imports of the build are linked first
    pub links_after : (d g f : Derived) (p q : List ℕ) → list_any (nat_eq k) p ≡ false → LinksImports of_headers bs k e.1.imports d (insert_key nat_cmp p k) g q → f ≡ link_items of_headers e.1 (asked_of i e.1) g → LinksImport of_headers bs end i d p f q
    links_after d g f p q new imports linked s h =
        let entered : link_within (link_import of_headers (reverse (take k bs))) e s ≡ link_imports of_headers (take k bs) e.1.imports (enter e.0 s) = ap (λ (b : Bool). if b then s else fold (link_import of_headers (reverse (take k bs))) (enter e.0 s) e.1.imports) (h.entered k e is ∙ new) in
        let after = imports (enter e.0 s) (entering bs apart k e is s d p h) in
        subst (λ (t : LinkState). IsState bs t f q) (sym (found s ∙ ap (link_asked of_headers i e.1) entered)) (record { derived = linked ∙ ap (link_items of_headers e.1 (asked_of i e.1)) after.derived; entered = after.entered })

-- ---- the same for the code's imports and builds

none_front : {X : Type 0} (p : X → Bool) (n : ℕ) (xs : List X) → list_any p xs ≡ false → list_any p (take n xs) ≡ false
none_front p zero xs h = refl
none_front p (suc n) [] h = refl
none_front p (suc n) (x ∷ xs) h = let both = or_neither (p x) (list_any p xs) h in λ i. both.0 i || none_front p n xs both.1 i

module _ (of_headers : Bool) (bs : Builds) (end : ℕ) (is : List ImportDefinition) (at : ℕ) (x : ImportDefinition) (within : at < length is) (here : x ≡ get_or is at x) (d e : Derived) (p q : List ℕ) (before : LinksImports of_headers bs end (map import_of (take at is)) d p e q) where
  -- the next import is linked
  pub import_linked : (f : Derived) (r : List ℕ) → LinksImport of_headers bs end (import_of x) e q f r → LinksImports of_headers bs end (map import_of (take (at + 1) is)) d p f r
  import_linked f r one =
      let more : map import_of (take (at + 1) is) ≡ map import_of (take at is) ++ import_of x ∷ [] = ap (map import_of) (one_more is at x within here) ∙ map-append import_of (take at is) (x ∷ []) in
      subst (λ (js : List Import). LinksImports of_headers bs end js d p f r) (sym more) (imports_more of_headers bs end (map import_of (take at is)) (import_of x) d e f p q r before one)

  -- the next import has no build before the end
  pub import_left : list_any (named (import_of x).import) (take end bs) ≡ false → LinksImports of_headers bs end (map import_of (take (at + 1) is)) d p e q
  import_left none = import_linked e q (links_nothing of_headers bs end (import_of x) e q none)

  -- the next import has no build
  pub import_unknown : list_any (named (import_of x).import) bs ≡ false → LinksImports of_headers bs end (map import_of (take (at + 1) is)) d p e q
  import_unknown none = import_left (none_front (named (import_of x).import) end bs none)

module _ (es : Entries) (name : List ℕ) where
  pub found_at : (k : ℕ) → position (λ (n : String Global). bytes_eq name (string_bytes n)) (keys_of es) ≡ Some k → position (named name) (map entry_of es) ≡ Some k
  found_at k at = same_position es name ∙ at

  pub entry_at : (k : ℕ) (n : String Global) (b : Arc ComposableModule Global) → slice_get es k ≡ Some (n, b) → slice_get (map entry_of es) k ≡ Some (string_bytes n, built_of (arc_value b))
  entry_at k n b is = slice_get-map entry_of es k ∙ ap (option_map entry_of) is

  pub missing_at : position (λ (n : String Global). bytes_eq name (string_bytes n)) (keys_of es) ≡ None → list_any (named name) (map entry_of es) ≡ false
  missing_at at = none_has (map entry_of es) name (same_position es name ∙ at)

-- ---- what is linked of builds

-- nothing is linked, and no imports are
pub from_nothing : (bs : Builds) → IsState bs nothing_linked nothing []
from_nothing bs = record { derived = refl; entered = λ k e at. refl }

-- what a new linker links of all builds
pub linked_all : (start : Linker) (of_headers : Bool) (bs : Builds) (end : ℕ) (imports : List Import) (e : Derived) (after : List ℕ) → start.of_headers ≡ of_headers → builds_of start.builds.now ≡ bs → start.derived ≡ nothing → start.descended.keys ≡ [] → length bs ≤ end → LinksImports start.of_headers (builds_of start.builds.now) end imports start.derived start.descended.keys e after → e ≡ (link_imports of_headers bs imports nothing_linked).derived
linked_all start of_headers bs end imports e after headers same none keys all h =
    let linked : LinksImports of_headers bs end imports nothing [] e after = transport (λ i. LinksImports (headers i) (same i) end imports (none i) (keys i) e after) h in
    (linked nothing_linked (from_nothing bs)).derived ∙ ap (λ xs. (link_imports of_headers xs imports nothing_linked).derived) (take_all end bs all)

-- a build whose imports were linked, then its items, and whose source was set again for its entry points
pub whole_made : {E : Type 0} (bs : Builds) (b : BuiltModule) (r : Result Module E) (m : Module) (of_headers : Bool) (d e f : Derived) → d ≡ (link_imports false bs b.imports nothing_linked).derived → of_headers ≡ false → e ≡ link_items of_headers b None d → module_value m ≡ b.value → f ≡ set_source e (value_of m) 0 → IfOk r (λ w. value_of w ≡ make_module f) → IfOk r (λ w. module_value w ≡ link_whole bs b)
unfolding value_of link_whole
whole_made bs b (Ok w) m of_headers d e f imported headers owned same set made = made ∙ ap make_module (set ∙ (λ i. set_source ((owned ∙ (λ j. link_items (headers j) b None (imported j))) i) (same i) 0))
whole_made bs b (Err x) m of_headers d e f imported headers owned same set made = tt
