-- Made names, worked by hand.
use Rattle.std.specs.Prelude.{◌≡◌, ◌+◌, length, refl, true, false, Some, codes}
use Rattle.std.specs.Fmt.{digits}
use Rattle.yettuvam_wgsl_names.specs.Names.{predeclared_rows}
use Rattle.yettuvam_wgsl_names.specs.Words.{word_rows}
use Rattle.yettuvam_wgsl_written_names.specs.Language.{is_in_language, is_built_in_function, language_count}
use Rattle.yettuvam_wgsl_written_names.specs.Spelled.{is_name}
use Rattle.yettuvam_wgsl_written_names.specs.Taken.{none_taken, inside, take, fresh, fresh_for, free_from, Taken}

-- `a` and `a_1` are taken: the next is `a_2`, and then `a_3`
abbrev two_taken : Taken
two_taken = take (take none_taken (codes "a")) (codes "a_1")

numbered_row : (fresh two_taken (codes "a")).name ≡ codes "a_2"
unfolding free_from digits is_in_language is_built_in_function
numbered_row = refl

next_row : (fresh (fresh two_taken (codes "a")).taken (codes "a")).name ≡ codes "a_3"
unfolding free_from digits is_in_language is_built_in_function
next_row = refl

-- a local may have the name of a built-in function, once
hiding_row : (fresh_for (inside none_taken) (Some (codes "abs")) (codes "l") true).name ≡ codes "abs"
unfolding free_from digits is_in_language is_built_in_function
hiding_row = refl

kept_row : (fresh_for (inside none_taken) (Some (codes "abs")) (codes "l") false).name ≡ codes "abs_1"
unfolding free_from digits is_in_language is_built_in_function
kept_row = refl

spelled_rows : (is_name (codes "a_1") ≡ true) × (is_name (codes "1a") ≡ false) × (is_name (codes "_") ≡ false) × (is_name (codes "_a") ≡ true) × (is_name (codes "__a") ≡ false)
spelled_rows = (refl, refl, refl, refl, refl)

-- keywords, reserved words and predeclared names, and no other
language_rows : (is_in_language (codes "fn") ≡ true) × (is_in_language (codes "enum") ≡ true) × (is_in_language (codes "f32") ≡ true) × (is_in_language (codes "colour") ≡ false)
unfolding is_in_language
language_rows = (refl, refl, refl, refl)

built_in_rows : (is_built_in_function (codes "abs") ≡ true) × (is_built_in_function (codes "f32") ≡ false) × (is_built_in_function (codes "colour") ≡ false)
unfolding is_built_in_function
built_in_rows = (refl, refl, refl)

count_row : language_count ≡ length word_rows + length predeclared_rows
count_row = refl
