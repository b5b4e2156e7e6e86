-- A token of the code that is marked, seen as a token.
use Rattle.std.proofs.Common.{◌≡◌, ℕ, ◌<◌, true, nat_lt, List, length, slice_index_or, slice_set, sym, ap, ◌∙◌, arith}
use Rattle.std.proofs.lemmas.Bool.Decides.{nat_tests}
use Rattle.std.proofs.lemmas.List.{get_or-map, length-map, map-set}
use Rattle.yettuvam_wgsl_words.specs.declared.token.Token.{Token as TokenOfCode}
use Rattle.yettuvam_wgsl_words.specs.Scan.{Token, token_view, view}
use Rattle.yettuvam_wgsl_templates.specs.Finder.{marked, opened, no_token}

pub marks : (xs : List TokenOfCode) (n : ℕ) (x y : TokenOfCode) → n < length xs → x ≡ slice_index_or xs n x → token_view y ≡ opened (token_view x) → view (slice_set xs n y) ≡ marked n (view xs)
marks xs n x y h e q =
    let t : nat_lt n (length (view xs)) ≡ true = rw (length-map xs token_view) (grind (arith, nat_tests, h)) in
    let v : slice_index_or (view xs) n no_token ≡ token_view x = get_or-map token_view xs n x no_token h ∙ ap token_view (sym e) in
    rw (t, v, map-set token_view xs n y) (ap (λ (z : Token). slice_set (view xs) n z) q)
