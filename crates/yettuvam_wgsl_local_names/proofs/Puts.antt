-- Names that are put at a place or at the end, seen as their bytes.
use Rattle.std.proofs.Common.{◌≡◌, ℕ, ◌+◌, ◌≤◌, List, [], ◌∷◌, ◌++◌, length, slice_set, Option, Some, None, Global, String, string_bytes, ap, sym, ◌∙◌}
use Rattle.std.proofs.lemmas.List.{length-map, map-append, map-set, replicate_more, set_past}
use Rattle.std.specs.Prelude.{option_map}
use Rattle.yettuvam_wgsl_names.specs.Table.{Name}
use Rattle.yettuvam_wgsl_local_names.specs.LocalNames.{no_names, put, texts_value}

pub put_text : (xs : List (Option (String Global))) (k : ℕ) (n : String Global) → texts_value (slice_set xs k (Some n)) ≡ put (texts_value xs) k (string_bytes n)
put_text xs k n = map-set (option_map string_bytes) xs k (Some n)

pub put_past : (xs : List (Option (String Global))) (k : ℕ) (n : Name) → length xs ≤ k → texts_value xs ≡ put (texts_value xs) k n
put_past xs k n h = sym (set_past (texts_value xs) k (Some n) (rw (length-map xs (option_map string_bytes)) h))

pub one_more : (xs : List (Option (String Global))) (n : ℕ) → texts_value xs ≡ no_names n → texts_value (xs ++ None ∷ []) ≡ no_names (n + 1)
one_more xs n h =
    map-append (option_map string_bytes) xs (None ∷ []) ∙ ap (λ (ys : List (Option Name)). ys ++ None ∷ []) h ∙ replicate_more n None
