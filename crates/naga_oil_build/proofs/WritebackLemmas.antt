-- The names that survive.
use Rattle.std.proofs.Common.{◌≡◌, ◌&&◌, ◌||◌, ℕ, ◌+◌, ◌<◌, List, [], ◌∷◌, ◌++◌, map, filter, nat_eq, get_or, slice_get, arith, Bool, true, false, not, cond, Option, Some, None, option_map, unwrap_or, Result, Ok, Err, Bor, find, take, length, refl, sym, ap, ◌∙◌, string_bytes, String, Global}
use Rattle.std.proofs.lemmas.Bool.{false≢true}
use Rattle.std.proofs.lemmas.Slice.Eq.{bytes_eq-Decides}
use Rattle.std.proofs.lemmas.Grind.{flat_map-append}
use Rattle.std.proofs.lemmas.List.{append-nil, length-map, length-take-le, map-append, take_more}
use Rattle.std.proofs.lemmas.List.Elements.{filter-append}
use Rattle.std.specs.Prelude.{zip, if◌then◌else◌, MatchOption, IfOk}
use Rattle.std.proofs.lemmas.Option.{get_or_from_slice_get, slice_get-map, slice_get_within}
use Rattle.std.proofs.lemmas.Map.Text.{btree_map_updates_str}
use Rattle.std.specs.BTreeMap as tree
use Rattle.std.specs.BTreeMap.{BTreeMap}
use Rattle.std.specs.BTreeSet.{BTreeSet}
use Rattle.std.specs.Cmp.Lexicographic.{slice_cmp}
use Rattle.std.specs.List.{enumerate_from, list_any}
use Rattle.std.specs.Option.{option_eq, option_or, option_copied, is_some}
use Rattle.std.specs.Ordering.{nat_cmp}
use Rattle.std.specs.Str.{bytes_eq}
use Rattle.naga_oil_ir.specs.Backend.{FrontEnd}
use Rattle.naga_oil_ir.specs.ModuleValue.{ModuleValue, FunctionValue}
use Rattle.naga_oil_ir.specs.Rows.{Row, Text, member_label}
use Rattle.naga_oil_ir.specs.declared.backend.Capabilities.{Capabilities}
use Rattle.naga_oil_ir.specs.declared.language.ShaderLanguage.TheVariants.{Wgsl, Glsl}
use Rattle.naga_oil_link.specs.CopiedBuild.{has_name_among}
use Rattle.naga_oil_ir.specs.declared.span.Span.{Span}
use Rattle.naga_oil_ir.specs.Spans.{undefined}
use Rattle.naga_oil_ir.specs.declared.types.StructMember.{StructMember}
use Rattle.naga_oil_ir.specs.declared.types.Type.{«Type» as TypeOfShader}
use Rattle.naga_oil_conditions.specs.Fault.{Fault}
use Rattle.naga_oil_words.specs.Texts.{is_among}
use Rattle.naga_oil_conditions.specs.View.{Fails, fault_of}
use Rattle.naga_oil_conditions.specs.declared.fault.ComposerErrorInner.{ComposerErrorInner}
use Rattle.naga_oil_build.specs.Built.{header_text, parsed_text}
use Rattle.naga_oil_link.specs.BuiltModule.{BuiltModule}
use Rattle.naga_oil_link.specs.OwnPlaces.{OwnPlaces}
use Rattle.naga_oil_build.specs.Writeback.{NamedItem, named_item, named_items, items_at, struct_members, named_functions, last_named, has_other_name, lost_member, lost_of, lost_by, lost_among, have_come_back, lost, unless_lost, came_back}
use Rattle.naga_oil_build.specs.WritebackView.{named_of, held, is_asked, items_asked}
use Rattle.naga_oil_build.specs.declared.writeback.NamedItem.{NamedItem as CodeItem}

-- ---- members
abbrev pub differs : StructMember × StructMember → Bool
differs (our, their) = not (option_eq (λ a b. bytes_eq (string_bytes a) (string_bytes b)) our.name their.name)

abbrev pub name_of : StructMember × StructMember → List ℕ
name_of p = unwrap_or (option_map string_bytes p.0.name) []

same_names : (a b : Option (String Global)) → option_eq (λ a b. bytes_eq (string_bytes a) (string_bytes b)) a b ≡ option_eq bytes_eq (option_map string_bytes a) (option_map string_bytes b)
same_names None None = refl
same_names None (Some b) = refl
same_names (Some a) None = refl
same_names (Some a) (Some b) = refl

pub members_lost : (ours theirs : List StructMember) → option_map name_of (find differs (zip ours theirs)) ≡ lost_member (map member_label ours) (map member_label theirs)
members_lost [] theirs = refl
members_lost (a ∷ ours) [] = refl
members_lost (a ∷ ours) (b ∷ theirs) =
    by (differs (a, b)) (members_lost ours theirs) ∙ ap (λ d. option_map (λ p. unwrap_or p.0.name []) (cond d (Some (member_label a, member_label b)) (find has_other_name (zip (map member_label ours) (map member_label theirs))))) (ap not (same_names a.name b.name))
  where
    by : (d : Bool) → option_map name_of (find differs (zip ours theirs)) ≡ lost_member (map member_label ours) (map member_label theirs)
        → option_map name_of (cond d (Some (a, b)) (find differs (zip ours theirs))) ≡ option_map (λ p. unwrap_or p.0.name []) (cond d (Some (member_label a, member_label b)) (find has_other_name (zip (map member_label ours) (map member_label theirs))))
    by true h = refl
    by false h = h

-- ---- items by their names
or_assoc : {X : Type 0} (a b c : Option X) → option_or a (option_or b c) ≡ option_or (option_or a b) c
or_assoc None b c = refl
or_assoc (Some x) b c = refl

pub held_more : (old new : BTreeMap (Bor (List ℕ)) CodeItem) (key : Bor (List ℕ)) (i : CodeItem) (more : List NamedItem) → key.now ≡ i.name.now
    → tree.UpdatesBy (λ x y. slice_cmp nat_cmp x.now y.now) (λ k. slice_cmp nat_cmp key.now k.now) old new (Some i)
    → (name : List ℕ) → option_or (last_named more name) (held new name) ≡ option_or (last_named (named_of i ∷ more) name) (held old name)
held_more old new key i more same h name =
    ap (λ o. option_or (last_named more name) (option_map named_of o)) (btree_map_updates_str key.now old new (Some i) h name)
    ∙ ap (λ n. option_or (last_named more name) (option_map named_of (cond (bytes_eq n name) (Some i) (tree.get_by (λ k. slice_cmp nat_cmp name k.now) old)))) same
    ∙ ap (option_or (last_named more name)) (by (bytes_eq i.name.now name) (tree.get_by (λ k. slice_cmp nat_cmp name k.now) old)) ∙ or_assoc (last_named more name) (if bytes_eq i.name.now name then Some (named_of i) else None) (held old name)
  where
    by : (b : Bool) (o : Option CodeItem) → option_map named_of (cond b (Some i) o) ≡ option_or (if b then Some (named_of i) else None) (option_map named_of o)
    by true o = refl
    by false o = refl

pub copied_named : (o : Option (Bor CodeItem)) → option_map (λ i. named_of i.now) o ≡ option_map named_of (option_copied o)
copied_named None = refl
copied_named (Some i) = refl

-- ---- an owned item, and one that isn't
pub not_owned : (owned : List (List ℕ)) (name : List ℕ) (back : List ℕ → Option NamedItem) (i : NamedItem) → is_among owned name ≡ false → lost_by owned name back i ≡ None
not_owned owned name back i e = rw e refl

pub owned_lost : (owned : List (List ℕ)) (name : List ℕ) (back : List ℕ → Option NamedItem) (i : NamedItem) (o : Option (List ℕ)) → is_among owned name ≡ true → o ≡ lost_of i (back name)
    → option_map (λ name. (name, i.span)) o ≡ lost_by owned name back i
owned_lost owned name back i o e f = rw (e, f) refl

-- ---- what a header is parsed to
pub fails_then : {Y Z : Type 0} (e : ComposerErrorInner) (v : Result Y Fault) (w : Result Z Fault) → ((f : Fault) → v ≡ Err f → w ≡ Err f) → Fails e v → Fails e w
fails_then e v w so h = by (fault_of e) h
  where
    by : (o : Option Fault) → MatchOption o (Unit {0}) (λ f. v ≡ Err f) → MatchOption o (Unit {0}) (λ f. w ≡ Err f)
    by None h = tt
    by (Some f) h = so f h

module _ (front : FrontEnd) (capabilities : Capabilities) (m : ModuleValue) (own : OwnPlaces) (b : BuiltModule) (functions : ℕ) (text : List ℕ) (back : ModuleValue) (written : header_text front capabilities Wgsl b.header ≡ Ok text) (read : parsed_text front Wgsl text ≡ Ok back) where
  pub something_lost : (f : Fault) → unless_lost (lost m own back b functions) ≡ Err f → came_back front capabilities m own b functions ≡ Err f
  unfolding came_back
  something_lost f e = rw (written, read, e) refl

  pub not_written : (f : Fault) → unless_lost (lost m own back b functions) ≡ Ok tt → header_text front capabilities Glsl b.header ≡ Err f → came_back front capabilities m own b functions ≡ Err f
  unfolding came_back
  not_written f e w = rw (written, read, e, w) refl

-- ---- the first that is lost
abbrev pub seen : Option (Bor (List ℕ) × Span) → Option (List ℕ × Span)
seen lost = option_map (λ l. (l.0.now, l.1)) lost

-- a value with the same view, by an equal one
pub same_value : {X Y E : Type 0} (f : X → Y) (r : Result X E) (v w : Y) → v ≡ w → IfOk r (λ x. f x ≡ v) → IfOk r (λ x. f x ≡ w)
same_value f (Ok x) v w e h = h ∙ e
same_value f (Err x) v w e h = tt

pub same_among : (owned : List (List ℕ)) {d c : List ℕ} {theirs others ours mine : List NamedItem} → d ≡ c → theirs ≡ others → ours ≡ mine → lost_among owned d (last_named theirs) ours ≡ lost_among owned c (last_named others) mine
same_among owned e f g = rw (e, f, g) refl

-- the first of two, or the second if there is no first
pub some_first : (r : Option (Bor (List ℕ) × Span)) (v w : Option (List ℕ × Span)) → seen r ≡ v → is_some r ≡ true → seen r ≡ option_or v w
some_first None v w e s = absurd cc
some_first (Some x) v w e s = ap (λ o. option_or o w) e

pub none_first : (r : Option (Bor (List ℕ) × Span)) (v w : Option (List ℕ × Span)) → seen r ≡ v → is_some r ≡ false → w ≡ option_or v w
none_first None v w e s = ap (λ o. option_or o w) e
none_first (Some x) v w e s = absurd cc

pub lost-is : (m : ModuleValue) (own : OwnPlaces) (back : ModuleValue) (b : BuiltModule) (functions : ℕ)
    → lost m own back b functions ≡ option_or (lost_among b.types b.decoration (last_named (named_items back.types)) (named_items (items_at own.types m.types))) (option_or (lost_among b.constants [] (last_named (named_items back.constants)) (named_items (items_at own.constants m.constants))) (option_or (lost_among b.globals [] (last_named (named_items back.global_variables)) (named_items (items_at own.globals m.global_variables))) (lost_among b.functions [] (last_named (named_functions back.functions)) (named_functions (take functions m.functions)))))
unfolding lost
lost-is m own back b functions = refl

-- ---- requested items
place_last : {X : Type 0} (n : ℕ) (xs : List X) (x : X) → enumerate_from n (xs ++ x ∷ []) ≡ enumerate_from n xs ++ (n + length xs, x) ∷ []
place_last n [] x = ap (λ k. (k, x) ∷ []) (omega arith)
place_last n (y ∷ xs) x = ap (λ es. (n, y) ∷ es) (place_last (n + 1) xs x ∙ ap (λ k. enumerate_from (n + 1) xs ++ (k, x) ∷ []) (omega arith))

pub asked_more : {X : Type 0} (at : Option (Bor (BTreeSet ℕ))) (xs : List X) (x : X) → items_asked at (xs ++ x ∷ []) ≡ items_asked at xs ++ cond (is_asked at (length xs)) (x ∷ []) []
asked_more None xs x = refl
asked_more {X = X} (Some places) xs x =
    ap (λ (es : List (ℕ × X)). map (λ e. e.1) (filter is_own es)) (place_last 0 xs x ∙ ap (λ k. enumerate_from 0 xs ++ (k, x) ∷ []) (omega arith))
    ∙ ap (map (λ (e : ℕ × X). e.1)) (filter-append is_own (enumerate_from 0 xs) ((length xs, x) ∷ []))
    ∙ map-append (λ (e : ℕ × X). e.1) (filter is_own (enumerate_from 0 xs)) (filter is_own ((length xs, x) ∷ []))
    ∙ ap (λ ys. items_at places.now.keys xs ++ ys) (by (is_own (length xs, x)))
  where
    is_own : ℕ × X → Bool
    is_own e = list_any (nat_eq e.0) places.now.keys

    by : (b : Bool) → map (λ (e : ℕ × X). e.1) (cond b ((length xs, x) ∷ []) []) ≡ cond b (x ∷ []) []
    by true = refl
    by false = refl

-- a type and its span
pub type_there : (of : List (TypeOfShader × Span)) (i : ℕ) (ty : TypeOfShader) (span : Span) → slice_get (map (λ e. e.0) of) i ≡ Some ty → span ≡ unwrap_or (option_map (λ e. e.1) (slice_get of i)) undefined → slice_get of i ≡ Some (ty, span)
type_there of i ty span there is = by (slice_get of i) (sym (slice_get-map (λ (e : TypeOfShader × Span). e.0) of i) ∙ there) is
  where
    by : (o : Option (TypeOfShader × Span)) → option_map (λ e. e.0) o ≡ Some ty → span ≡ unwrap_or (option_map (λ e. e.1) o) undefined → o ≡ Some (ty, span)
    by None e f = absurd cc
    by (Some (t, s)) e f = cc

module _ {X : Type 0} (row : X → Row × Span) (at : Option (Bor (BTreeSet ℕ))) (xs : List X) (i : ℕ) (x : X) (there : slice_get xs i ≡ Some x) where
  -- the names of the requested items among the first few
  abbrev pub names_before : ℕ → List NamedItem
  names_before n = named_items (items_asked at (map row (take n xs)))

  row_more : names_before (i + 1) ≡ names_before i ++ named_items (cond (is_asked at i) (row x ∷ []) [])
  row_more =
      let lt : i < length xs = slice_get_within xs i x there in
      let rows : map row (take (i + 1) xs) ≡ map row (take i xs) ++ row x ∷ [] = ap (map row) (take_more xs i x lt) ∙ map-append row (take i xs) (get_or xs i x ∷ []) ∙ ap (λ y. map row (take i xs) ++ row y ∷ []) (get_or_from_slice_get xs i x x there) in
      let long : length (map row (take i xs)) ≡ i = length-map (take i xs) row ∙ length-take-le i xs (omega (arith, lt)) in
      ap (λ rs. named_items (items_asked at rs)) rows
      ∙ ap named_items (asked_more at (map row (take i xs)) (row x) ∙ ap (λ n. items_asked at (map row (take i xs)) ++ cond (is_asked at n) (row x ∷ []) []) long)
      ∙ flat_map-append (λ (e : Row × Span). named_item e.0.label.name (struct_members e.0) e.1) (items_asked at (map row (take i xs))) (cond (is_asked at i) (row x ∷ []) [])

  abbrev here : List NamedItem
  here = named_item (row x).0.label.name (struct_members (row x).0) (row x).1

  -- a requested item comes last
  pub item_named : (items more : List NamedItem) → is_asked at i ≡ true → items ≡ names_before i → more ≡ items ++ here → more ≡ names_before (i + 1)
  item_named items more asked before pushed =
      pushed ∙ ap (λ ys. ys ++ here) before
      ∙ ap (λ ys. names_before i ++ ys) (sym (append-nil here))
      ∙ ap (λ b. names_before i ++ named_items (cond b (row x ∷ []) [])) (sym asked) ∙ sym row_more

  -- an item that isn't requested is left out
  pub item_unnamed : (items : List NamedItem) → is_asked at i ≡ false → items ≡ names_before i → items ≡ names_before (i + 1)
  item_unnamed items unasked before = before ∙ sym (append-nil (names_before i)) ∙ ap (λ b. names_before i ++ named_items (cond b (row x ∷ []) [])) (sym unasked) ∙ sym row_more

-- ---- functions that aren't owned

-- nothing is lost of a function that isn't owned
pub unowned_function : (owned : List (List ℕ)) (back : List ℕ → Option NamedItem) (name : Text) (span : Span) → has_name_among owned name ≡ false → lost_among owned [] back (named_item name None span) ≡ None
unowned_function owned back None span e = refl
unowned_function owned back (Some n) span e =
    ap (λ o. option_or o None) (not_owned owned (n ++ []) back (record { name = n; members = None; span = span }) (ap (is_among owned) (append-nil n) ∙ e))

-- ---- names that all survive

and_both : (a b : Bool) → (a && b) ≡ true → (a ≡ true) × (b ≡ true)
and_both true b e = (refl, e)
and_both false b e = absurd (false≢true e)

came_by : (back : List ℕ → Option NamedItem) (names : List (List ℕ)) (q : List ℕ) → have_come_back back names ≡ true → is_among names q ≡ true → is_some (back q) ≡ true
came_by back [] q all e = absurd (false≢true e)
came_by back (n ∷ ns) q all e =
    let there = and_both (is_some (back n)) (have_come_back back ns) all in
    by (bytes_eq q n) refl there.0 (came_by back ns q there.1) e
  where
    by : (b : Bool) → bytes_eq q n ≡ b → is_some (back n) ≡ true → (is_among ns q ≡ true → is_some (back q) ≡ true) → (b || is_among ns q) ≡ true → is_some (back q) ≡ true
    by true same here more h = ap (λ m. is_some (back m)) ((bytes_eq-Decides q n).0 same) ∙ here
    by false other here more h = more h

back_alone : (o : Option NamedItem) (n : List ℕ) (span : Span) → is_some o ≡ true → lost_of (record { name = n; members = None; span = span }) o ≡ None
back_alone None n span e = absurd (false≢true e)
back_alone (Some i) n span e = refl

kept_function : (owned : List (List ℕ)) (back : List ℕ → Option NamedItem) (name : Text) (span : Span) → have_come_back back owned ≡ true → lost_among owned [] back (named_item name None span) ≡ None
kept_function owned back None span all = refl
kept_function owned back (Some n) span all = by (is_among owned (n ++ [])) refl
  where
    i : NamedItem
    i = record { name = n; members = None; span = span }

    by : (b : Bool) → is_among owned (n ++ []) ≡ b → option_or (lost_by owned (n ++ []) back i) None ≡ None
    by true e = ap (λ o. option_or o None) (sym (owned_lost owned (n ++ []) back i None e (sym (back_alone (back (n ++ [])) n span (came_by back owned (n ++ []) all e)))))
    by false e = ap (λ o. option_or o None) (not_owned owned (n ++ []) back i e)

first_kept : (owned : List (List ℕ)) (back : List ℕ → Option NamedItem) (one more : List NamedItem) → lost_among owned [] back one ≡ None → lost_among owned [] back more ≡ None → lost_among owned [] back (one ++ more) ≡ None
first_kept owned back [] more e f = f
first_kept owned back (i ∷ one) more e f = by (lost_by owned (i.name ++ []) back i) e (λ h. first_kept owned back one more h f)
  where
    by : (o : Option (List ℕ × Span)) → option_or o (lost_among owned [] back one) ≡ None → (lost_among owned [] back one ≡ None → lost_among owned [] back (one ++ more) ≡ None) → option_or o (lost_among owned [] back (one ++ more)) ≡ None
    by None h g = g h
    by (Some l) h g = absurd cc

-- no function is lost
pub functions_kept : (owned : List (List ℕ)) (back : List ℕ → Option NamedItem) (fs : List (FunctionValue × Span)) → have_come_back back owned ≡ true → lost_among owned [] back (named_functions fs) ≡ None
functions_kept owned back [] all = refl
functions_kept owned back (f ∷ fs) all = first_kept owned back (named_item f.0.name None f.1) (named_functions fs) (kept_function owned back f.0.name f.1 all) (functions_kept owned back fs all)
