-- The requests that `oil` itself doesn't take.
use Rattle.std.proofs.Common.{◌≡◌, ℕ, Bool, true, false, cond, List, [], ◌∷◌, length, refl, sym, ap, subst, Option, Some, None}
use Rattle.std.specs.Prelude.{◌&&◌, IsSome, codes, bytes_eq}
use Rattle.std.proofs.lemmas.Bool.{false≢true}
use Rattle.std.proofs.lemmas.Slice.Eq.{bytes_eq-Decides}
use Rattle.naga_oil_mini.specs.Extra.{Extra, help, version, metadata_of_file, extra, extra_of_word, extra_of_file}
use Rattle.naga_oil_mini.specs.Words.{asked, imports, is_file, takes}
use Rattle.naga_oil_mini.specs.declared.mini.words.Task.TheVariants.{Preprocess}

-- ---- `oil` doesn't take these requests

is_text : (word text : List ℕ) → bytes_eq word text ≡ true → word ≡ text
is_text word text same = (bytes_eq-Decides word text).0 same

word_apart : (word : List ℕ) (e : Extra) → extra_of_word word ≡ Some e → asked (word ∷ []) ≡ None
word_apart word e = by (bytes_eq word (codes "--help")) (bytes_eq word (codes "--version")) refl refl
  where
    by : (a b : Bool) → bytes_eq word (codes "--help") ≡ a → bytes_eq word (codes "--version") ≡ b → cond a (Some help) (cond b (Some version) None) ≡ Some e → asked (word ∷ []) ≡ None
    by true b p q h = subst (λ w. asked (w ∷ []) ≡ None) (sym (is_text word _ p)) refl
    by false true p q h = subst (λ w. asked (w ∷ []) ≡ None) (sym (is_text word _ q)) refl
    by false false p q h = absurd cc

-- `pre` of two files
two_files : (file : List ℕ) → is_file file ≡ true → asked (codes "pre" ∷ codes "--metadata" ∷ file ∷ []) ≡ None
two_files file is =
    ap (λ b. let fs = codes "--metadata" ∷ cond b (file ∷ []) [] in
    let is = imports (codes "--metadata" ∷ file ∷ []) in
    cond (takes Preprocess (length fs) (length is)) (Some (record { task = Preprocess; override_any = false; files = fs; imports = is })) None) is

file_apart : (command option file : List ℕ) (e : Extra) → extra_of_file command option file ≡ Some e → asked (command ∷ option ∷ file ∷ []) ≡ None
file_apart command option file e = by (bytes_eq command (codes "pre")) (bytes_eq option (codes "--metadata")) (is_file file) refl refl refl
  where
    by : (a b c : Bool) → bytes_eq command (codes "pre") ≡ a → bytes_eq option (codes "--metadata") ≡ b → is_file file ≡ c → cond (a && b && c) (Some (metadata_of_file file)) None ≡ Some e → asked (command ∷ option ∷ file ∷ []) ≡ None
    by true true true p q r h = subst (λ w. asked (w ∷ option ∷ file ∷ []) ≡ None) (sym (is_text command _ p)) (subst (λ o. asked (codes "pre" ∷ o ∷ file ∷ []) ≡ None) (sym (is_text option _ q)) (two_files file r))
    by true true false p q r h = absurd cc
    by true false c p q r h = absurd cc
    by false b c p q r h = absurd cc

extra_apart : (words : List (List ℕ)) (e : Extra) → extra words ≡ Some e → asked words ≡ None
extra_apart [] e h = absurd cc
extra_apart (word ∷ []) e h = word_apart word e h
extra_apart (command ∷ option ∷ []) e h = absurd cc
extra_apart (command ∷ option ∷ file ∷ []) e h = file_apart command option file e h
extra_apart (command ∷ option ∷ file ∷ word ∷ words) e h = absurd cc

pub is_apart : (words : List (List ℕ)) → IsSome (extra words) → asked words ≡ None
is_apart words = by (extra words) refl
  where
    by : (o : Option Extra) → extra words ≡ o → IsSome o → asked words ≡ None
    by (Some e) is some = extra_apart words e is
    by None is some = absurd (false≢true some)
