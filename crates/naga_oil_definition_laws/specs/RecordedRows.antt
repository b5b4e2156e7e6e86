-- Worked rows: definitions that agree on the names that a text records preprocess it alike, and others don't.
use Rattle.std.proofs.Common.{◌≡◌, ℕ, List, [], Bool, true, false, ◌||◌, if◌then◌else◌, Option, Some, None, Result, Ok, Err, refl, ap, sym, subst, ◌∙◌}
use Rattle.std.specs.Prelude.{◌==◌, codes, bytes_eq, slice_index}
use Rattle.std.specs.Fmt.{digits}
use Rattle.std.specs.Str.{chars}
use Rattle.std.proofs.lemmas.Slice.Eq.{bytes_eq-Decides}
use Rattle.naga_oil_lines.specs.Cover.{cover}
use Rattle.naga_oil_lines.specs.Tokens.{lexemes, more_in_token, tail_len}
use Rattle.naga_oil_imports.specs.Substituted.{paths_for, path_text, mentions_at}
use Rattle.naga_oil_conditions.specs.Computing.{line_kinds}
use Rattle.naga_oil_conditions.specs.Fault.{Definitions, Fault}
use Rattle.naga_oil_conditions.specs.Replaced.{name_at, name_in_braces, hash_name, pieces, replaced_from, replaced, hash_names}
use Rattle.naga_oil_conditions.specs.declared.shader_def.ShaderDefValue.{ShaderDefValue}
use Rattle.naga_oil_conditions.specs.declared.shader_def.ShaderDefValue.TheVariants as def
use Rattle.naga_oil_pre.specs.Preprocessed.{Output, preprocessed}
use Rattle.naga_oil_pre.specs.Reading.{reading, read_block, read_arms}
use Rattle.naga_oil_pre.specs.Recorded.{names_from, names_of, is_recorded, AgreeOn}
use Rattle.naga_oil_pre.proofs.Agreement.{recorded_names_decide}
use Rattle.ucd_perl.proofs.Computing.{ucd_perl}
use Rattle.unicode_ident.specs.Ident.{is_xid_start, is_xid_continue}
use Rattle.unicode_ident.proofs.Computing.{unicode_ident}
use lib.Utf8.{encode}

-- `unfolding tokens` lets `refl` compute lines and their tokens
unfoldable tokens : Unit {0}
unfolding cover line_kinds chars encode ucd_perl unicode_ident is_xid_start is_xid_continue lexemes more_in_token tail_len paths_for path_text mentions_at
tokens = tt

-- `unfolding computing` lets `refl` compute what a text records, and what it becomes
unfoldable computing : Unit {0}
unfolding tokens names_from names_of pieces name_at name_in_braces hash_name hash_names replaced_from replaced digits preprocessed reading read_block read_arms
computing = tt

-- a text with a condition on FAST and the value of SIZE
abbrev pub text : List ℕ
text = codes "#ifdef FAST\na #SIZE\n#endif"

-- the two names, one after the other, and any other name
abbrev defining : (fast size other : Option ShaderDefValue) → Definitions
defining fast size other name = if bytes_eq (codes "FAST") name then fast else (if bytes_eq (codes "SIZE") name then size else other)

abbrev first : Definitions
first = defining (Some (def.Bool true)) (Some (def.UInt 4)) None

-- with each other name defined too
abbrev second : Definitions
second = defining (Some (def.Bool true)) (Some (def.UInt 4)) (Some (def.Bool false))

-- with another value of SIZE, and without FAST
abbrev of_another_size : Definitions
of_another_size = defining (Some (def.Bool true)) (Some (def.UInt 5)) None

abbrev without_fast : Definitions
without_fast = defining None (Some (def.UInt 4)) None

-- ---- the names that the text records

records_condition : is_recorded text (codes "FAST") ≡ true
unfolding computing
records_condition = refl

records_value : is_recorded text (codes "SIZE") ≡ true
unfolding computing
records_value = refl

-- what is neither in a condition nor after a `#` isn't recorded
records_no_word : is_recorded text (codes "a") ≡ false
unfolding computing
records_no_word = refl

-- ---- definitions that agree on them

-- one of the two names is the one
either : (name : List ℕ) (p q : Bool) → bytes_eq name (codes "FAST") ≡ p → bytes_eq name (codes "SIZE") ≡ q → (p || (q || (q || false))) ≡ true → first name ≡ second name
either name true q e f is = subst (λ (n : List ℕ). first n ≡ second n) (sym ((bytes_eq-Decides name (codes "FAST")).0 e)) refl
either name false true e f is = subst (λ (n : List ℕ). first n ≡ second n) (sym ((bytes_eq-Decides name (codes "SIZE")).0 f)) refl
either name false false e f is = absurd cc

agree : AgreeOn (is_recorded text) first second
unfolding computing
agree name is = either name (bytes_eq name (codes "FAST")) (bytes_eq name (codes "SIZE")) refl refl is

another_size_is_refused : AgreeOn (is_recorded text) first of_another_size → ⊥
another_size_is_refused h = let e : Some (def.UInt 4) ≡ Some (def.UInt 5) = h (codes "SIZE") records_value in absurd cc

undefined_is_refused : AgreeOn (is_recorded text) first without_fast → ⊥
undefined_is_refused h = let e : Some (def.Bool true) ≡ None = h (codes "FAST") records_condition in absurd cc

-- ---- what the text becomes

abbrev becomes : List ℕ → Result Output Fault
becomes written = Ok (record { text = written; uses = [] })

under_first : preprocessed first text ≡ becomes (codes "           \na 4    \n      \n")
unfolding computing
under_first = refl

-- the same under definitions that agree
under_second : preprocessed second text ≡ becomes (codes "           \na 4    \n      \n")
under_second = sym (recorded_names_decide text first second agree) ∙ under_first

under_another_size : preprocessed of_another_size text ≡ becomes (codes "           \na 5    \n      \n")
unfolding computing
under_another_size = refl

under_no_fast : preprocessed without_fast text ≡ becomes (codes "           \n       \n      \n")
unfolding computing
under_no_fast = refl

-- so definitions that don't agree may preprocess a text otherwise: here a digit differs
abbrev has_four : Result Output Fault → Bool
has_four (Ok out) = slice_index out.text 14 == 52
has_four (Err f) = false

another_size_differs : preprocessed first text ≡ preprocessed of_another_size text → ⊥
another_size_differs h = let e : true ≡ false = ap has_four (sym under_first ∙ h ∙ under_another_size) in absurd cc
