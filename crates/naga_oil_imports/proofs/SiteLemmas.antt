-- Uses that are recorded one after another, and the identifiers that make them.
use Rattle.std.proofs.Common.{◌≡◌, ℕ, ◌+◌, ◌<◌, Bool, true, false, cond, List, [], ◌∷◌, ◌++◌, length, map, take, drop, get_or, Some, None, String, string_bytes, Result, Ok, Err, OnOk, OnErr, ◌==◌, refl, sym, ap, ◌∙◌, append_assoc, append-nil, take-append-drop}
use Rattle.std.specs.declared.alloc.Global.{Global}
use Rattle.std.specs.declared.alloc.AllocError.{AllocError}
use Rattle.std.specs.List.{flat_map, list_any}
use Rattle.std.proofs.lemmas.Grind.{flat_map-append}
use Rattle.std.proofs.lemmas.List.{take_more, map-append}
use Rattle.naga_oil_lines.specs.Decorate.{decorated_name}
use Rattle.naga_oil_imports.specs.Uses.{Uses, with_use}
use Rattle.naga_oil_imports.specs.Substituted.{module_and_item, longer_path, longer_paths, path_text_by, path_text, mention_of, mentions_at, Mention, with_mentions, BeginsUses}

pub with_mentions-append : (uses : Uses) (xs ys : List Mention) → with_mentions uses (xs ++ ys) ≡ with_mentions (with_mentions uses xs) ys
with_mentions-append uses [] ys = refl
with_mentions-append uses (m ∷ xs) ys = with_mentions-append (with_use uses m.import m.item m.place) xs ys

-- none of the uses is recorded
pub begins_none : (all : List Mention) (old new : Uses) → new ≡ old → BeginsUses all old new
begins_none all old new e = record { done = []; left = all; whole = refl; now = e }

-- all the uses are recorded
pub begins_all : (all : List Mention) (old new : Uses) → new ≡ with_mentions old all → BeginsUses all old new
begins_all all old new e = record { done = all; left = []; whole = append-nil all; now = e }

-- a beginning of some uses after others that are recorded
pub begins_later : (front one rest all : List Mention) (old mid new : Uses) → mid ≡ with_mentions old front → all ≡ front ++ (one ++ rest) → BeginsUses one mid new → BeginsUses all old new
begins_later front one rest all old mid new m e b = record {
  done = front ++ b.done;
  left = b.left ++ rest;
  whole =
      append_assoc front b.done (b.left ++ rest)
      ∙ ap (λ l. front ++ l) (sym (append_assoc b.done b.left rest) ∙ ap (λ l. l ++ rest) b.whole)
      ∙ sym e;
  now = b.now ∙ ap (λ u. with_mentions u b.done) m ∙ sym (with_mentions-append old front b.done);
}

-- ---- the paths of an identifier
abbrev pub of_paths : {B : Type 0} → (List ℕ → List B) → (following : List ℕ) → List (String Global) → List B
of_paths f following xs = flat_map f (longer_paths (map string_bytes xs) following)

pub of_paths-append : {B : Type 0} (f : List ℕ → List B) (following : List ℕ) (xs ys : List (String Global)) → of_paths f following (xs ++ ys) ≡ of_paths f following xs ++ of_paths f following ys
of_paths-append f following xs ys =
    ap (λ l. flat_map f (longer_paths l following)) (map-append string_bytes xs ys)
    ∙ ap (flat_map f) (map-append (λ path. longer_path path following) (map string_bytes xs) (map string_bytes ys))
    ∙ flat_map-append f (longer_paths (map string_bytes xs) following) (longer_paths (map string_bytes ys) following)

-- one more path is written
pub of_paths-more : {B : Type 0} (f : List ℕ → List B) (following : List ℕ) (xs : List (String Global)) (i : ℕ) (x : String Global) → i < length xs → x ≡ get_or xs i x
    → of_paths f following (take (i + 1) xs) ≡ of_paths f following (take i xs) ++ f (longer_path (string_bytes x) following)
of_paths-more f following xs i x h e =
    ap (of_paths f following) (take_more xs i x h ∙ ap (λ y. take i xs ++ y ∷ []) (sym e))
    ∙ of_paths-append f following (take i xs) (x ∷ [])
    ∙ ap (λ l. of_paths f following (take i xs) ++ l) (append-nil (f (longer_path (string_bytes x) following)))

-- the paths before one, the one, and the paths after it
pub of_paths-all : {B : Type 0} (f : List ℕ → List B) (following : List ℕ) (xs : List (String Global)) (i : ℕ) (x : String Global) → i < length xs → x ≡ get_or xs i x
    → of_paths f following xs ≡ of_paths f following (take i xs) ++ (f (longer_path (string_bytes x) following) ++ of_paths f following (drop (i + 1) xs))
of_paths-all f following xs i x h e =
    ap (of_paths f following) (sym (take-append-drop (i + 1) xs))
    ∙ of_paths-append f following (take (i + 1) xs) (drop (i + 1) xs)
    ∙ ap (λ l. l ++ of_paths f following (drop (i + 1) xs)) (of_paths-more f following xs i x h e)
    ∙ append_assoc (of_paths f following (take i xs)) (f (longer_path (string_bytes x) following)) (of_paths f following (drop (i + 1) xs))

-- ---- the text written for a path, and its use
pub written_item : (name path m item : List ℕ) → Some (m, item) ≡ module_and_item path → path_text name path ≡ decorated_name (Some m) item
unfolding path_text
written_item name path m item e = ap (path_text_by name path) (sym e)

pub written_quoted : (name path bytes : List ℕ) (r : Bool) → None ≡ module_and_item path → bytes ≡ path → r ≡ list_any (λ b. b == 34) bytes → r ≡ true → path_text name path ≡ name
unfolding path_text
written_quoted name path bytes r e b q t = let quoted : list_any (λ b. b == 34) path ≡ true = ap (list_any (λ b. b == 34)) (sym b) ∙ sym q ∙ t in ap (path_text_by name path) (sym e) ∙ ap (λ b. cond b name path) quoted

pub written_plain : (name path bytes : List ℕ) (r : Bool) → None ≡ module_and_item path → bytes ≡ path → r ≡ list_any (λ b. b == 34) bytes → r ≡ false → path_text name path ≡ path
unfolding path_text
written_plain name path bytes r e b q t = let quoted : list_any (λ b. b == 34) path ≡ false = ap (list_any (λ b. b == 34)) (sym b) ∙ sym q ∙ t in ap (path_text_by name path) (sym e) ∙ ap (λ b. cond b name path) quoted

pub one_mention : (place : ℕ) (path m item : List ℕ) → Some (m, item) ≡ module_and_item path → mentions_at place path ≡ record { import = m; item = item; place = place } ∷ []
unfolding mentions_at
one_mention place path m item e = ap (mention_of place) (sym e)

pub no_mention : (place : ℕ) (path : List ℕ) → None ≡ module_and_item path → mentions_at place path ≡ []
unfolding mentions_at
no_mention place path e = ap (mention_of place) (sym e)

pub use_recorded : (uses new : Uses) (place : ℕ) (path m item : List ℕ) → Some (m, item) ≡ module_and_item path → new ≡ with_use uses m item place → new ≡ with_mentions uses (mentions_at place path)
use_recorded uses new place path m item e h = h ∙ ap (with_mentions uses) (sym (one_mention place path m item e))

pub on_ok : {P : Type 0} (r : Result (Unit {0}) AllocError) → P → OnOk r P
on_ok (Ok u) p = p
on_ok (Err e) p = tt

pub on_err : {P : Type 0} (r : Result (Unit {0}) AllocError) → P → OnErr r P
on_err (Ok u) p = tt
on_err (Err e) p = p

-- one more path is written, or its use recorded
pub text_more : (f : List ℕ → List ℕ) (following : List ℕ) (xs : List (String Global)) (i : ℕ) (x : String Global) (whole old mid new : List ℕ) → i < length xs → x ≡ get_or xs i x
    → whole ≡ longer_path (string_bytes x) following → mid ≡ old ++ of_paths f following (take i xs) → new ≡ mid ++ f whole → new ≡ old ++ of_paths f following (take (i + 1) xs)
text_more f following xs i x whole old mid new h e w m n =
    n ∙ (λ j. m j ++ f (w j)) ∙ append_assoc old (of_paths f following (take i xs)) (f (longer_path (string_bytes x) following))
    ∙ ap (λ l. old ++ l) (sym (of_paths-more f following xs i x h e))

pub uses_more : (f : List ℕ → List Mention) (following : List ℕ) (xs : List (String Global)) (i : ℕ) (x : String Global) (whole : List ℕ) (old mid new : Uses) → i < length xs → x ≡ get_or xs i x
    → whole ≡ longer_path (string_bytes x) following → mid ≡ with_mentions old (of_paths f following (take i xs)) → new ≡ with_mentions mid (f whole) → new ≡ with_mentions old (of_paths f following (take (i + 1) xs))
uses_more f following xs i x whole old mid new h e w m n =
    n ∙ (λ j. with_mentions (m j) (f (w j))) ∙ sym (with_mentions-append old (of_paths f following (take i xs)) (f (longer_path (string_bytes x) following)))
    ∙ ap (with_mentions old) (sym (of_paths-more f following xs i x h e))

pub begins_path : (f : List ℕ → List Mention) (following : List ℕ) (xs : List (String Global)) (i : ℕ) (x : String Global) (whole : List ℕ) (old mid new : Uses) → i < length xs → x ≡ get_or xs i x
    → whole ≡ longer_path (string_bytes x) following → mid ≡ with_mentions old (of_paths f following (take i xs)) → BeginsUses (f whole) mid new → BeginsUses (of_paths f following xs) old new
begins_path f following xs i x whole old mid new h e w m b =
    begins_later (of_paths f following (take i xs)) (f whole) (of_paths f following (drop (i + 1) xs)) (of_paths f following xs) old mid new m
    (of_paths-all f following xs i x h e ∙ ap (λ p. of_paths f following (take i xs) ++ (f p ++ of_paths f following (drop (i + 1) xs))) (sym w)) b

pub begins_paths : (f : List ℕ → List Mention) (following : List ℕ) (xs : List (String Global)) (i : ℕ) (old mid : Uses) → mid ≡ with_mentions old (of_paths f following (take i xs)) → BeginsUses (of_paths f following xs) old mid
begins_paths f following xs i old mid m = record {
  done = of_paths f following (take i xs);
  left = of_paths f following (drop i xs);
  whole = sym (of_paths-append f following (take i xs) (drop i xs)) ∙ ap (of_paths f following) (take-append-drop i xs);
  now = m;
}
