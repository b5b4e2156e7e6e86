-- A request has a file.
use Rattle.std.proofs.Common.{◌≡◌, ℕ, ◌<◌, Bool, true, false, cond, List, [], ◌∷◌, length, refl, ap, arith, length-append}
use Rattle.std.specs.Prelude.{◌||◌, ◌&&◌}
use Rattle.std.proofs.lemmas.Bool.{false≢true}
use Rattle.std.proofs.lemmas.List.{length-map}
use Rattle.yettuvam_files.specs.Files.{texts_of}
use Rattle.yettuvam_build.specs.Words.{Request, Role, awaited_after, collected, file, defining, importing, overriding, wanting, wrong, is_file, is_met, is_request, is_wrong, no_request, request_view, role_of, with_role}
use Rattle.yettuvam_build.specs.declared.words.Awaited.{Awaited}
use Rattle.yettuvam_build.specs.declared.words.Awaited.TheVariants.{Nothing}
use Rattle.yettuvam_build.specs.declared.words.Request.{Request as CodeRequest}

first_holds : (a b : Bool) → a && b ≡ true → a ≡ true
first_holds true b e = refl
first_holds false b e = e

or_false : (a : Bool) → a || false ≡ true → a ≡ true
or_false true e = refl
or_false false e = e

abbrev HasFileAfter : Bool → Request → Awaited → List (List ℕ) → Type 0
HasFileAfter has r next words = (has ≡ true → 0 < length r.files) → is_request has next words ≡ true → 0 < length (collected r next words).files

one_more : (has : Bool) (r : Request) (role : Role) (next : Awaited) (words : List (List ℕ)) → ((h : Bool) (q : Request) (next : Awaited) → HasFileAfter h q next words) → (has ≡ true → 0 < length r.files) → cond (is_wrong role) false (is_request (has || is_file role) next words) ≡ true → 0 < length (collected (with_role r role) next words).files
one_more has r (file path) next words more h is = more (has || true) (with_role r (file path)) next (λ _. omega (arith, length-append r.files (path ∷ []))) is
one_more has r (defining text) next words more h is = more (has || false) (with_role r (defining text)) next (λ e. h (or_false has e)) is
one_more has r (importing name) next words more h is = more (has || false) (with_role r (importing name)) next (λ e. h (or_false has e)) is
one_more has r overriding next words more h is = more (has || false) (with_role r overriding) next (λ e. h (or_false has e)) is
one_more has r (wanting wanted) next words more h is = more (has || false) r next (λ e. h (or_false has e)) is
one_more has r wrong next words more h is = absurd (false≢true is)

has_file_after : (words : List (List ℕ)) (has : Bool) (r : Request) (next : Awaited) → HasFileAfter has r next words
unfolding is_request collected
has_file_after [] has r next h is = h (first_holds has (is_met next) is)
has_file_after (word ∷ words) has r next h is = one_more has r (role_of next word) (awaited_after next (role_of next word)) words (λ h q n. has_file_after words h q n) h is

some_file : (words : List (List ℕ)) → is_request false Nothing words ≡ true → 0 < length (collected no_request Nothing words).files
some_file words is = has_file_after words false no_request Nothing (λ e. absurd (false≢true e)) is

-- what is collected of words that are a request has a file
pub file_of_request : (words : List (List ℕ)) (r : CodeRequest) → is_request false Nothing words ≡ true → request_view r ≡ collected no_request Nothing words → 0 < length r.files.items
file_of_request words r is all =
    let some : 0 < length (collected no_request Nothing words).files = some_file words is in
    let same : length (texts_of r.files.items) ≡ length (collected no_request Nothing words).files = ap (λ (q : Request). length q.files) all in
    let count : length (texts_of r.files.items) ≡ length r.files.items = length-map r.files.items (λ t. t.now) in
    omega arith
