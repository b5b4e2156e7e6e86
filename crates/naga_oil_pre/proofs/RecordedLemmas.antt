-- A set after names are recorded, and the `#` names of a text from its front.
use Rattle.std.proofs.Common.{◌≡◌, ℕ, zero, suc, Bool, true, false, ◌||◌, cond, eqb, Some, None, List, [], ◌∷◌, ◌++◌, drop, refl, sym, ap, ◌∙◌, append-nil}
use Rattle.std.specs.Prelude.{bytes_eq, String, string_bytes}
use Rattle.std.specs.declared.alloc.Global.{Global}
use Rattle.std.specs.BTreeSet as sorted
use Rattle.std.specs.BTreeSet.{BTreeSet, contains_text}
use Rattle.std.specs.Cmp.Lexicographic.{slice_cmp}
use Rattle.std.specs.List.{flat_map}
use Rattle.std.specs.Ordering.{nat_cmp}
use Rattle.std.specs.Str.{IsUtf8, NoCharPasses, NonePass, chars, encode_utf8_all}
use Rattle.std.specs.String.{string_cmp}
use Rattle.std.proofs.lemmas.List.Folds.{list_any-append}
use Rattle.std.proofs.lemmas.Map.Text.{btree_set_updates_text}
use Rattle.std.proofs.lemmas.Slice.Eq.{bytes_eq-Decides}
use Rattle.std.proofs.lemmas.Str.{chars-append, chars_from_encodes}
use Rattle.naga_oil_pre.specs.MetadataView.{has_with, Gains}
use Rattle.naga_oil_pre.specs.Recorded.{names_from}
use Rattle.naga_oil_words.specs.Texts.{is_among}
use Rattle.naga_oil_conditions.specs.Replaced.{HashName, hash_name, pieces, name_of}
use Rattle.naga_oil_conditions.specs.Splits.{SplitsHashName, SplitsAtHash}

-- ---- the names of a set
or_assoc : (a b c : Bool) → ((a || b) || c) ≡ (a || (b || c))
or_assoc true b c = refl
or_assoc false b c = refl

or_false : (b : Bool) → (b || false) ≡ b
or_false true = refl
or_false false = refl

pub gains_nothing : (s : BTreeSet (String Global)) → Gains s s []
gains_nothing s = λ name. sym (or_false (contains_text s name))

-- a set that has gained names, with others left
pub gained : (old new : BTreeSet (String Global)) (names left all : List (List ℕ)) → Gains old new names → all ≡ names ++ left → (name : List ℕ) → has_with new left name ≡ has_with old all name
gained old new names left all h e name =
    ap (λ b. b || is_among left name) (h name)
    ∙ or_assoc (contains_text old name) (is_among names name) (is_among left name)
    ∙ ap (λ b. contains_text old name || b) (sym (list_any-append (bytes_eq name) names left) ∙ ap (λ ns. is_among ns name) (sym e))

pub gains_both : (old mid new : BTreeSet (String Global)) (names more : List (List ℕ)) → Gains old mid names → Gains mid new more → Gains old new (names ++ more)
gains_both old mid new names more h g = λ name. g name ∙ gained old mid names more (names ++ more) h refl name

or_twice : (b : Bool) → (b || b) ≡ b
or_twice true = refl
or_twice false = refl

-- names that are gained twice
pub gains_twice : (old new : BTreeSet (String Global)) (names again : List (List ℕ)) → again ≡ names → Gains old new names → Gains old new (names ++ again)
gains_twice old new names again e h = λ name.
    h name
    ∙ ap (λ b. contains_text old name || b)
    (sym (or_twice (is_among names name)) ∙ ap (λ ns. is_among names name || is_among ns name) (sym e) ∙ sym (list_any-append (bytes_eq name) names again))

-- no name is left
pub gains_all : (old new : BTreeSet (String Global)) (left all : List (List ℕ)) → left ≡ [] → ((name : List ℕ) → has_with new left name ≡ has_with old all name) → Gains old new all
gains_all old new left all e h = λ name. sym (or_false (contains_text new name)) ∙ ap (λ ns. has_with new ns name) (sym e) ∙ h name

absorbs : (a b : Bool) → (b ≡ true → a ≡ true) → a ≡ (a || (b || false))
absorbs true b h = refl
absorbs false true h = h refl
absorbs false false h = refl

-- a name that is there
pub gains_known : (s : BTreeSet (String Global)) (bytes : List ℕ) → contains_text s bytes ≡ true → Gains s s (bytes ∷ [])
gains_known s bytes known = λ name. absorbs (contains_text s name) (bytes_eq name bytes) (λ same. ap (contains_text s) ((bytes_eq-Decides name bytes).0 same) ∙ known)

chosen : (a b c : Bool) → a ≡ b → cond a true c ≡ (c || (b || false))
chosen true true true e = refl
chosen true true false e = refl
chosen true false c e = cc
chosen false true c e = cc
chosen false false true e = refl
chosen false false false e = refl

same_tests : (xs ys : List ℕ) → bytes_eq xs ys ≡ bytes_eq ys xs
same_tests xs ys = go (bytes_eq xs ys) (bytes_eq ys xs) (λ e. (bytes_eq-Decides ys xs).1 (sym ((bytes_eq-Decides xs ys).0 e))) (λ e. (bytes_eq-Decides xs ys).1 (sym ((bytes_eq-Decides ys xs).0 e)))
  where
    go : (a b : Bool) → (a ≡ true → b ≡ true) → (b ≡ true → a ≡ true) → a ≡ b
    go true b f g = sym (f refl)
    go false true f g = g refl
    go false false f g = refl

-- a name that is inserted
pub gains_new : (old new : BTreeSet (String Global)) (key : String Global) (bytes : List ℕ) → string_bytes key ≡ bytes → sorted.UpdatesBy string_cmp (λ k. slice_cmp nat_cmp (string_bytes key) (string_bytes k)) old new true → Gains old new (bytes ∷ [])
gains_new old new key bytes e updates = λ name.
    btree_set_updates_text (string_bytes key) old new true updates name
    ∙ chosen (bytes_eq (string_bytes key) name) (bytes_eq name bytes) (contains_text old name) (ap (λ b. bytes_eq b name) e ∙ same_tests bytes name)

-- ---- the `#` names from the front
told : (n : ℕ) (cs : List ℕ) → pieces n cs ≡ pieces 0 (drop n cs)
unfolding pieces
told zero cs = refl
told (suc n) [] = refl
told (suc n) (c ∷ cs) = told n cs

names_at_plain : (c : ℕ) (cs : List ℕ) → eqb c 35 ≡ false → names_from (c ∷ cs) ≡ names_from cs
unfolding names_from pieces
names_at_plain c cs e = rw (e, pieces) refl

names_at_bare : (cs : List ℕ) → hash_name cs ≡ None → names_from (35 ∷ cs) ≡ names_from cs
unfolding names_from pieces
names_at_bare cs e = rw (e, pieces) refl

names_at_told : (cs : List ℕ) (h : HashName) → hash_name cs ≡ Some h → names_from (35 ∷ cs) ≡ encode_utf8_all h.name ∷ flat_map name_of (pieces h.taken cs)
unfolding names_from pieces
names_at_told cs h e = rw (e, pieces) refl

names_at_name : (cs : List ℕ) (h : HashName) → hash_name cs ≡ Some h → names_from (35 ∷ cs) ≡ encode_utf8_all h.name ∷ names_from (drop h.taken cs)
unfolding names_from
names_at_name cs h e = names_at_told cs h e ∙ ap (λ ps. encode_utf8_all h.name ∷ flat_map name_of ps) (told h.taken cs)

names_after_plain : (cs ds : List ℕ) → NonePass (λ c. eqb c 35) cs → names_from (cs ++ ds) ≡ names_from ds
names_after_plain [] ds none = refl
names_after_plain (c ∷ cs) ds none = names_at_plain c (cs ++ ds) none.0 ∙ names_after_plain cs ds none.1

-- a front without `#` has none
names_front : (front cs : List ℕ) → IsUtf8 front → NoCharPasses (λ c. eqb c 35) front → names_from (chars front ++ cs) ≡ names_from cs
names_front front cs u none =
    ap (λ l. names_from (l ++ cs)) (sym (chars_from_encodes none.0 front u none.1)) ∙ names_after_plain none.0 cs none.2

chars_hash : (bs : List ℕ) → chars (35 ∷ bs) ≡ 35 ∷ chars bs
unfolding chars
chars_hash [] = refl
chars_hash (b ∷ bs) = refl

pub names_to_hash : (text front rest : List ℕ) → SplitsAtHash text front rest → names_from (chars text) ≡ names_from (35 ∷ chars rest)
names_to_hash text front rest s =
    ap names_from (ap chars s.whole ∙ chars-append front (35 ∷ rest) s.front_utf8 ∙ ap (λ l. chars front ++ l) (chars_hash rest))
    ∙ names_front front (35 ∷ chars rest) s.front_utf8 s.plain

pub no_names : (text : List ℕ) → IsUtf8 text → NoCharPasses (λ c. eqb c 35) text → names_from (chars text) ≡ []
unfolding names_from pieces
no_names text u none = ap names_from (sym (append-nil (chars text))) ∙ names_front text [] u none

-- after a `#` without a name, and with one
pub bare_recorded : (s : BTreeSet (String Global)) (text : List ℕ) → hash_name (chars text) ≡ None → (name : List ℕ) → has_with s (names_from (chars text)) name ≡ has_with s (names_from (35 ∷ chars text)) name
bare_recorded s text e name = ap (λ ns. has_with s ns name) (sym (names_at_bare (chars text) e))

pub name_recorded : (old new : BTreeSet (String Global)) (text spelled rest : List ℕ) → SplitsHashName text spelled rest → Gains old new (spelled ∷ [])
    → (name : List ℕ) → has_with new (names_from (chars rest)) name ≡ has_with old (names_from (35 ∷ chars text)) name
name_recorded old new text spelled rest s h =
    gained old new (spelled ∷ []) (names_from (chars rest)) (names_from (35 ∷ chars text)) h
    (names_at_name (chars text) s.found s.is ∙ ap (λ n. n ∷ names_from (drop s.found.taken (chars text))) (sym s.spelled) ∙ ap (λ cs. spelled ∷ names_from cs) (sym s.following.left))
