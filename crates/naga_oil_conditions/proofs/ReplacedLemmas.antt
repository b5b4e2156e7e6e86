-- Lines with the values of their `#` names.
use Rattle.std.proofs.Common.{◌≡◌, ◌≢◌, ℕ, zero, suc, ◌+◌, ◌<◌, ◌/◌, ◌%◌, ◌==◌, nat_lt, Bool, true, false, cond, eqb, ltb, Option, Some, None, List, [], ◌∷◌, ◌++◌, length, take, drop, get_or, eq-eqb, refl, sym, ap, subst, ◌∙◌, arith, append_assoc, append-nil}
use denote.Ref.{Bor}
use borrow.Author.Tests.{eqb-true, ne_eqb}
use lib.Utf8.{encode, next}
use lib.IntN.{pos, negsuc}
use Rattle.std.specs.Option.{MatchOption}
use Rattle.std.specs.List.{prefix_len, flat_map, count_by}
use Rattle.std.specs.Char.{is_whitespace, encode_utf8}
use Rattle.std.specs.Str.{IsUtf8, NoCharPasses, NonePass, chars, encode_utf8_all}
use Rattle.std.proofs.lemmas.Bool.{lt-ltb}
use Rattle.std.proofs.lemmas.Str.{chars-nil, chars-append, encodes-chars, chars_from_encodes, NoCharPasses-byte}
use Rattle.std.proofs.lemmas.List.{nil_from_length, drop-drop}
use Rattle.std.proofs.lemmas.List.Folds.{length-prefix_len}
use Rattle.naga_oil_lines.specs.Text.{BeginsWithChar}
use Rattle.naga_oil_lines.proofs.TextLemmas.{chars_before}
use Rattle.naga_oil_lines.proofs.TokenLemmas.{suffix_more}
use Rattle.naga_oil_conditions.specs.declared.shader_def.ShaderDefValue.{ShaderDefValue}
use Rattle.naga_oil_conditions.specs.Fault.{Definitions}
use Rattle.naga_oil_conditions.specs.LineKinds.{is_name_char}
use Rattle.naga_oil_conditions.specs.Replaced.{HashName, plain, named, begins_with, name_at, name_in_braces, hash_name, pieces, piece_text, value_text, value_or, replaced_from, replaced}
use Rattle.naga_oil_conditions.specs.Splits.{IsAfter, SplitsName, SplitsHashName, SplitsAtHash}
use Rattle.std.specs.Fmt.{decimal, digits, digits_onto, digit_glyph}
use Rattle.std.proofs.lemmas.List.Sums.{sum_by-append, sum_by-cons}
use Rattle.naga_oil_conditions.specs.declared.shader_def.ShaderDefValue.TheVariants as def

-- ---- the rest of a text
pub after_after : (i j : ℕ) (text middle rest : List ℕ) → IsAfter i text middle → IsAfter j middle rest → IsAfter (i + j) text rest
after_after i j text middle rest f s = record {
  left = s.left ∙ ap (drop j) f.left ∙ drop-drop j i (chars text);
  suffix = suffix_more _ _ _ _ _ f.suffix.1 s.suffix.1;
  utf8 = s.utf8;
}

pub after_char : (text rest : List ℕ) (c : ℕ) → BeginsWithChar text c rest → IsAfter 1 text rest
after_char text rest c b = record {
  left = rw b.spelled refl;
  suffix = (encode_utf8 c, b.bytes);
  utf8 = b.utf8;
}

-- ---- a name at the front
chars-none : (bs : List ℕ) → IsUtf8 bs → chars bs ≡ [] → length bs ≡ 0
chars-none bs u e = ap length (sym (encodes-chars bs u) ∙ ap encode_utf8_all e)

module _ (text front rest : List ℕ) (cut : text ≡ front ++ rest) (utf8 : IsUtf8 front) (after : chars rest ≡ drop (prefix_len is_name_char (chars text)) (chars text)) where
  front_is : chars front ≡ take (prefix_len is_name_char (chars text)) (chars text)
  front_is = chars_before text front rest (prefix_len is_name_char (chars text)) cut utf8 after

  pub no_name : length front ≡ 0 → prefix_len is_name_char (chars text) ≡ 0
  no_name e =
      sym (length-prefix_len is_name_char (chars text)) ∙ ap length (sym front_is ∙ ap chars (nil_from_length front e) ∙ chars-nil)

  pub a_name : length front ≢ 0 → IsUtf8 rest → SplitsName text front rest
  a_name e u =
      let some : prefix_len is_name_char (chars text) ≢ 0 = λ z. e (chars-none front utf8 (front_is ∙ ap (λ k. take k (chars text)) z)) in
      record {
        some = omega arith;
        spelled = sym (encodes-chars front utf8) ∙ ap encode_utf8_all front_is;
        following = record { left = after; suffix = (front, cut); utf8 = u };
      }

-- ---- the grammar of a `#` name
name_at_none : (before after : ℕ) (cs : List ℕ) → prefix_len is_name_char cs ≡ 0 → name_at before after cs ≡ None
unfolding name_at
name_at_none before after cs e = rw e refl

name_at_some : (before after : ℕ) (cs : List ℕ) → 0 < prefix_len is_name_char cs
    → name_at before after cs ≡ Some (record { name = take (prefix_len is_name_char cs) cs; taken = before + prefix_len is_name_char cs + after })
unfolding name_at
name_at_some before after cs some =
    ap (λ b. cond b (Some (record { name = take (prefix_len is_name_char cs) cs; taken = before + prefix_len is_name_char cs + after })) None) (lt-ltb 0 (prefix_len is_name_char cs) some)

in_braces_none : (before : ℕ) (cs : List ℕ) → prefix_len is_name_char cs ≡ 0 → name_in_braces before cs ≡ None
unfolding name_in_braces
in_braces_none before cs e =
    elim (begins_with 125 (drop (prefix_len is_name_char cs) cs)) as (λ b. cond b (name_at before 1 cs) None ≡ None) [
      | true ↦ name_at_none before 1 cs e
      | false ↦ refl
    ]

in_braces_open : (before : ℕ) (cs : List ℕ) → begins_with 125 (drop (prefix_len is_name_char cs) cs) ≡ false → name_in_braces before cs ≡ None
unfolding name_in_braces
in_braces_open before cs e = rw e refl

in_braces_closed : (before : ℕ) (cs : List ℕ) → begins_with 125 (drop (prefix_len is_name_char cs) cs) ≡ true → name_in_braces before cs ≡ name_at before 1 cs
unfolding name_in_braces
in_braces_closed before cs e = rw e refl

hash_name_bare : (cs ds : List ℕ) → ds ≡ drop (prefix_len is_whitespace cs) cs → begins_with 123 ds ≡ false → hash_name cs ≡ name_at (prefix_len is_whitespace cs) 0 ds
unfolding hash_name
hash_name_bare cs ds e b = rw (← e, b) refl

hash_name_braced : (cs ds es : List ℕ) → ds ≡ drop (prefix_len is_whitespace cs) cs → ds ≡ 123 ∷ es → hash_name cs ≡ name_in_braces (prefix_len is_whitespace cs + 1) es
unfolding hash_name
hash_name_braced cs ds es e b = rw (← e, b) refl

-- ---- the pieces of a line
told : (n : ℕ) (cs : List ℕ) → pieces n cs ≡ pieces 0 (drop n cs)
unfolding pieces
told zero cs = refl
told (suc n) [] = refl
told (suc n) (c ∷ cs) = told n cs

plain_step : (defs : Definitions) (c : ℕ) (cs : List ℕ) → eqb c 35 ≡ false → replaced_from defs (c ∷ cs) ≡ encode_utf8 c ++ replaced_from defs cs
unfolding replaced_from pieces
plain_step defs c cs e = rw (e, pieces) refl

pub replaced_at_bare : (defs : Definitions) (cs : List ℕ) → hash_name cs ≡ None → replaced_from defs (35 ∷ cs) ≡ 35 ∷ replaced_from defs cs
unfolding replaced_from pieces encode
replaced_at_bare defs cs e = rw (e, pieces) refl

name_step : (defs : Definitions) (cs : List ℕ) (h : HashName) → hash_name cs ≡ Some h
    → replaced_from defs (35 ∷ cs) ≡ value_or (defs (encode_utf8_all h.name)) (encode_utf8_all (35 ∷ take h.taken cs)) ++ flat_map (piece_text defs) (pieces h.taken cs)
unfolding replaced_from pieces
name_step defs cs h e = rw (e, pieces) refl

pub replaced_at_name : (defs : Definitions) (cs : List ℕ) (h : HashName) → hash_name cs ≡ Some h
    → replaced_from defs (35 ∷ cs) ≡ value_or (defs (encode_utf8_all h.name)) (encode_utf8_all (35 ∷ take h.taken cs)) ++ replaced_from defs (drop h.taken cs)
unfolding replaced_from
replaced_at_name defs cs h e =
    name_step defs cs h e ∙ ap (λ ps. value_or (defs (encode_utf8_all h.name)) (encode_utf8_all (35 ∷ take h.taken cs)) ++ flat_map (piece_text defs) ps) (told h.taken cs)

none_to_replace : (defs : Definitions) (cs ds : List ℕ) → NonePass (λ c. eqb c 35) cs → replaced_from defs (cs ++ ds) ≡ encode_utf8_all cs ++ replaced_from defs ds
none_to_replace defs [] ds none = refl
none_to_replace defs (c ∷ cs) ds none =
    plain_step defs c (cs ++ ds) none.0 ∙ ap (λ l. encode_utf8 c ++ l) (none_to_replace defs cs ds none.1) ∙ sym (append_assoc (encode_utf8 c) (encode_utf8_all cs) (replaced_from defs ds))

-- a front without `#` is unchanged
pub replaced_front : (defs : Definitions) (front cs : List ℕ) → IsUtf8 front → NoCharPasses (λ c. eqb c 35) front → replaced_from defs (chars front ++ cs) ≡ front ++ replaced_from defs cs
replaced_front defs front cs u none =
    let spelled : chars front ≡ none.0 = sym (chars_from_encodes none.0 front u none.1) in
    ap (λ l. replaced_from defs (l ++ cs)) spelled ∙ none_to_replace defs none.0 cs none.2 ∙ ap (λ l. l ++ replaced_from defs cs) none.1

-- ---- how the code reads a `#` name
pub bare_name : (text start : List ℕ) (r : Option (Bor (List ℕ) × Bor (List ℕ))) → IsAfter (prefix_len is_whitespace (chars text)) text start → begins_with 123 (chars start) ≡ false
    → MatchOption r (prefix_len is_name_char (chars start) ≡ 0) (λ x. SplitsName start x.0.now x.1.now) → MatchOption r (hash_name (chars text) ≡ None) (λ x. SplitsHashName text x.0.now x.1.now)
bare_name text start None white bare none =
    hash_name_bare (chars text) (chars start) white.left bare ∙ name_at_none (prefix_len is_whitespace (chars text)) 0 (chars start) none
bare_name text start (Some x) white bare name = record {
  found = record { name = take (prefix_len is_name_char (chars start)) (chars start); taken = prefix_len is_whitespace (chars text) + prefix_len is_name_char (chars start) + 0 };
  is = hash_name_bare (chars text) (chars start) white.left bare ∙ name_at_some (prefix_len is_whitespace (chars text)) 0 (chars start) name.some;
  spelled = name.spelled;
  following =
      let whole = after_after _ _ _ _ _ white name.following in
      let none : prefix_len is_whitespace (chars text) + prefix_len is_name_char (chars start) ≡ prefix_len is_whitespace (chars text) + prefix_len is_name_char (chars start) + 0 = omega arith in
      subst (λ k. IsAfter k text x.1.now) none whole;
}

module _ (text start inner : List ℕ) (white : IsAfter (prefix_len is_whitespace (chars text)) text start) (brace : BeginsWithChar start 123 inner) where
  in_braces : hash_name (chars text) ≡ name_in_braces (prefix_len is_whitespace (chars text) + 1) (chars inner)
  in_braces = hash_name_braced (chars text) (chars start) (chars inner) white.left brace.spelled

  pub no_braced_name : prefix_len is_name_char (chars inner) ≡ 0 → hash_name (chars text) ≡ None
  no_braced_name none = in_braces ∙ in_braces_none (prefix_len is_whitespace (chars text) + 1) (chars inner) none

  module _ (name closing : List ℕ) (split : SplitsName inner name closing) where
    pub unclosed_name : begins_with 125 (chars closing) ≡ false → hash_name (chars text) ≡ None
    unclosed_name at_end =
        in_braces ∙ in_braces_open (prefix_len is_whitespace (chars text) + 1) (chars inner) (ap (begins_with 125) (sym split.following.left) ∙ at_end)

    pub braced_name : (rest : List ℕ) → BeginsWithChar closing 125 rest → SplitsHashName text name rest
    braced_name rest close = record {
      found = record { name = take (prefix_len is_name_char (chars inner)) (chars inner); taken = prefix_len is_whitespace (chars text) + 1 + prefix_len is_name_char (chars inner) + 1 };
      is = in_braces
          ∙ in_braces_closed (prefix_len is_whitespace (chars text) + 1) (chars inner) (ap (begins_with 125) (sym split.following.left ∙ close.spelled))
          ∙ name_at_some (prefix_len is_whitespace (chars text) + 1) 1 (chars inner) split.some;
      spelled = split.spelled;
      following = after_after _ _ _ _ _ (after_after _ _ _ _ _ (after_after _ _ _ _ _ white (after_char _ _ _ brace)) split.following) (after_char _ _ _ close);
    }

-- ---- the text that the code writes for a `#` name
pub bare_written : (defs : Definitions) (text before after : List ℕ) → hash_name (chars text) ≡ None → after ≡ before ++ 35 ∷ [] → after ++ replaced_from defs (chars text) ≡ before ++ replaced_from defs (35 ∷ chars text)
bare_written defs text before after none e =
    ap (λ l. l ++ replaced_from defs (chars text)) e
    ∙ append_assoc before (35 ∷ []) (replaced_from defs (chars text))
    ∙ ap (λ l. before ++ l) (sym (replaced_at_bare defs (chars text) none))

module _ (defs : Definitions) (text name rest before after : List ℕ) (s : SplitsHashName text name rest) where
  own : List ℕ
  own = encode_utf8_all (35 ∷ take s.found.taken (chars text))

  written : (o : Option ShaderDefValue) → defs name ≡ o → after ≡ before ++ value_or o own → after ++ replaced_from defs (chars rest) ≡ before ++ replaced_from defs (35 ∷ chars text)
  unfolding own
  written o same e =
      let known : defs (encode_utf8_all s.found.name) ≡ o = ap defs (sym s.spelled) ∙ same in
      let whole : replaced_from defs (35 ∷ chars text) ≡ value_or o own ++ replaced_from defs (chars rest) =
      replaced_at_name defs (chars text) s.found s.is
      ∙ ap (λ x. value_or x own ++ replaced_from defs (drop s.found.taken (chars text))) known
      ∙ ap (λ l. value_or o own ++ replaced_from defs l) (sym s.following.left) in
      ap (λ l. l ++ replaced_from defs (chars rest)) e ∙ append_assoc before (value_or o own) (replaced_from defs (chars rest)) ∙ ap (λ l. before ++ l) (sym whole)

  pub value_written : (value : ShaderDefValue) → defs name ≡ Some value → after ≡ before ++ value_text value → after ++ replaced_from defs (chars rest) ≡ before ++ replaced_from defs (35 ∷ chars text)
  value_written value same e = written (Some value) same e

  -- a name that has no value is unchanged
  pub name_written : (spelling : List ℕ) → defs name ≡ None → text ≡ spelling ++ rest → IsUtf8 spelling → after ≡ (before ++ 35 ∷ []) ++ spelling
      → after ++ replaced_from defs (chars rest) ≡ before ++ replaced_from defs (35 ∷ chars text)
  unfolding own encode
  name_written spelling same cut u e =
      let spelled : chars spelling ≡ take s.found.taken (chars text) = chars_before text spelling rest s.found.taken cut u s.following.left in
      let own_is : own ≡ 35 ∷ spelling = ap (λ l. 35 ∷ l) (ap encode_utf8_all (sym spelled) ∙ encodes-chars spelling u) in
      written None same (e ∙ append_assoc before (35 ∷ []) spelling ∙ ap (λ l. before ++ l) (sym own_is))

-- ---- the scan from one `#` to the next
chars_hash : (bs : List ℕ) → chars (35 ∷ bs) ≡ 35 ∷ chars bs
unfolding chars
chars_hash [] = refl
chars_hash (b ∷ bs) = refl

pub to_next_hash : (defs : Definitions) (text front rest before after : List ℕ) → SplitsAtHash text front rest → after ≡ before ++ front
    → after ++ replaced_from defs (35 ∷ chars rest) ≡ before ++ replaced_from defs (chars text)
to_next_hash defs text front rest before after s e =
    let spelled : chars text ≡ chars front ++ 35 ∷ chars rest = ap chars s.whole ∙ chars-append front (35 ∷ rest) s.front_utf8 ∙ ap (λ l. chars front ++ l) (chars_hash rest) in
    let whole : replaced_from defs (chars text) ≡ front ++ replaced_from defs (35 ∷ chars rest) = ap (replaced_from defs) spelled ∙ replaced_front defs front (35 ∷ chars rest) s.front_utf8 s.plain in
    ap (λ l. l ++ replaced_from defs (35 ∷ chars rest)) e ∙ append_assoc before front (replaced_from defs (35 ∷ chars rest)) ∙ ap (λ l. before ++ l) (sym whole)

-- a text without `#` is unchanged
pub replaced_plain : (defs : Definitions) (text : List ℕ) → IsUtf8 text → NoCharPasses (λ c. eqb c 35) text → replaced_from defs (chars text) ≡ text
unfolding replaced_from pieces
replaced_plain defs text u none = ap (replaced_from defs) (sym (append-nil (chars text))) ∙ replaced_front defs text [] u none ∙ append-nil text

hash_is_there : (text : List ℕ) (k : ℕ) → k < length text → get_or text k 0 ≡ 35 → NoCharPasses (λ c. eqb c 35) text → ⊥
hash_is_there text k inside at none =
    let no : eqb (get_or text k 0) 35 ≡ false = NoCharPasses-byte (λ c. eqb c 35) text k none inside (omega arith) in
    let yes : eqb (get_or text k 0) 35 ≡ true = eq-eqb (get_or text k 0) 35 at in
    cc

pub cannot_be_plain : (text : List ℕ) → (k : ℕ) × (k < length text) × (get_or text k 0 ≡ 35) → NoCharPasses (λ c. eqb c 35) text → ⊥
cannot_be_plain text at none = hash_is_there text at.0 at.1 at.2 none

-- ---- line ends
abbrev is_end : ℕ → Bool
is_end b = eqb b 10

no_end : (b : ℕ) → 10 < b → is_end b ≡ false
no_end b above = ne_eqb b 10 (λ e. absurd (omega arith))

another : (b : ℕ) (bs : List ℕ) → is_end b ≡ false → count_by is_end bs ≡ 0 → count_by is_end (b ∷ bs) ≡ 0
another b bs e f = sum_by-cons (λ x. cond (is_end x) 1 0) b bs ∙ ap (λ t. cond t 1 0 + count_by is_end bs) e ∙ ap (λ n. 0 + n) f

pub no_ends_in_both : (xs ys : List ℕ) → count_by is_end xs ≡ 0 → count_by is_end ys ≡ 0 → count_by is_end (xs ++ ys) ≡ 0
no_ends_in_both xs ys e f =
    let parts : count_by is_end (xs ++ ys) ≡ count_by is_end xs + count_by is_end ys = sum_by-append (λ b. cond (is_end b) 1 0) xs ys in
    omega arith

pub no_ends_in_character : (c : ℕ) → is_end c ≡ false → count_by is_end (encode_utf8 c) ≡ 0
unfolding encode
no_ends_in_character c e =
    let last : (b : ℕ) → count_by is_end ((128 + b % 64) ∷ []) ≡ 0 = λ (b : ℕ). another (128 + b % 64) [] (no_end (128 + b % 64) (omega arith)) refl in
    let three : (b d : ℕ) → count_by is_end ((128 + b % 64) ∷ (128 + d % 64) ∷ []) ≡ 0 = λ (b : ℕ) (d : ℕ). another (128 + b % 64) ((128 + d % 64) ∷ []) (no_end (128 + b % 64) (omega arith)) (last d) in
    elim (ltb c 128) as (λ t. count_by is_end (cond t (c ∷ []) (cond (ltb c 2048) ((192 + c / 64) ∷ next c ∷ []) (cond (ltb c 65536) ((224 + c / 4096) ∷ next (c / 64) ∷ next c ∷ []) ((240 + c / 262144) ∷ next (c / 4096) ∷ next (c / 64) ∷ next c ∷ [])))) ≡ 0) [
      | true ↦ another c [] e refl
      | false ↦ elim (ltb c 2048) as (λ t. count_by is_end (cond t ((192 + c / 64) ∷ next c ∷ []) (cond (ltb c 65536) ((224 + c / 4096) ∷ next (c / 64) ∷ next c ∷ []) ((240 + c / 262144) ∷ next (c / 4096) ∷ next (c / 64) ∷ next c ∷ []))) ≡ 0) [
        | true ↦ another (192 + c / 64) (next c ∷ []) (no_end (192 + c / 64) (omega arith)) (last c)
        | false ↦ elim (ltb c 65536) as (λ t. count_by is_end (cond t ((224 + c / 4096) ∷ next (c / 64) ∷ next c ∷ []) ((240 + c / 262144) ∷ next (c / 4096) ∷ next (c / 64) ∷ next c ∷ [])) ≡ 0) [
          | true ↦ another (224 + c / 4096) (next (c / 64) ∷ next c ∷ []) (no_end (224 + c / 4096) (omega arith)) (three (c / 64) c)
          | false ↦ another (240 + c / 262144) (next (c / 4096) ∷ next (c / 64) ∷ next c ∷ []) (no_end (240 + c / 262144) (omega arith))
              (another (next (c / 4096)) (next (c / 64) ∷ next c ∷ []) (no_end (next (c / 4096)) (omega arith)) (three (c / 64) c))
        ]
      ]
    ]

pub no_ends_in_text : (cs : List ℕ) → NonePass is_end cs → count_by is_end (encode_utf8_all cs) ≡ 0
no_ends_in_text [] none = refl
no_ends_in_text (c ∷ cs) none =
    no_ends_in_both (encode_utf8 c) (encode_utf8_all cs) (no_ends_in_character c none.0) (no_ends_in_text cs none.1)

is_no_end : (c : ℕ) (rest : List ℕ) → count_by is_end (encode_utf8 c ++ rest) ≡ 0 → is_end c ≡ false
unfolding encode
is_no_end c rest e =
    elim (is_end c) as (λ b. is_end c ≡ b → b ≡ false) [
      | true ↦ λ q.
          let one : count_by is_end (encode_utf8 10 ++ rest) ≡ 0 = subst (λ x. count_by is_end (encode_utf8 x ++ rest) ≡ 0) (eqb-true c 10 q) e in
          let positive : 1 + count_by is_end rest ≡ 0 = sym (sum_by-cons (λ x. cond (is_end x) 1 0) 10 rest) ∙ one in
          absurd (omega arith)
      | false ↦ λ q. refl
    ] refl

no_ends_among : (cs : List ℕ) → count_by is_end (encode_utf8_all cs) ≡ 0 → NonePass is_end cs
no_ends_among [] e = tt
no_ends_among (c ∷ cs) e =
    let parts : count_by is_end (encode_utf8_all (c ∷ cs)) ≡ count_by is_end (encode_utf8 c) + count_by is_end (encode_utf8_all cs) =
    sum_by-append (λ b. cond (is_end b) 1 0) (encode_utf8 c) (encode_utf8_all cs) in
    (is_no_end c (encode_utf8_all cs) e, no_ends_among cs (omega arith))

none_in_front : (n : ℕ) (cs : List ℕ) → NonePass is_end cs → NonePass is_end (take n cs)
none_in_front zero cs none = tt
none_in_front (suc n) [] none = tt
none_in_front (suc n) (c ∷ cs) none = (none.0, none_in_front n cs none.1)

no_ends_in_digits : (k n : ℕ) (acc : List ℕ) → count_by is_end acc ≡ 0 → count_by is_end (digits_onto k 10 false n acc) ≡ 0
no_ends_in_digits zero n acc e = e
no_ends_in_digits (suc k) n acc e =
    let glyph : is_end (digit_glyph false (n % 10)) ≡ false =
    elim (nat_lt (n % 10) 10) as (λ b. is_end (cond b (48 + n % 10) (87 + n % 10)) ≡ false) [
      | true ↦ no_end (48 + n % 10) (omega arith)
      | false ↦ no_end (87 + n % 10) (omega arith)
    ] in
    let more : count_by is_end (digit_glyph false (n % 10) ∷ acc) ≡ 0 = another (digit_glyph false (n % 10)) acc glyph e in
    elim (n / 10 == 0) as (λ b. count_by is_end (cond b (digit_glyph false (n % 10) ∷ acc) (digits_onto k 10 false (n / 10) (digit_glyph false (n % 10) ∷ acc))) ≡ 0) [
      | true ↦ more
      | false ↦ no_ends_in_digits k (n / 10) (digit_glyph false (n % 10) ∷ acc) more
    ]

no_ends_in_decimal : (n : ℕ) → count_by is_end (decimal n) ≡ 0
unfolding digits
no_ends_in_decimal n = no_ends_in_digits 64 n [] refl

no_ends_in_value : (value : ShaderDefValue) → count_by is_end (value_text value) ≡ 0
no_ends_in_value (def.Bool true) = refl
no_ends_in_value (def.Bool false) = refl
no_ends_in_value (def.Int (pos n)) = no_ends_in_decimal n
no_ends_in_value (def.Int (negsuc n)) = another 45 (decimal (suc n)) refl (no_ends_in_decimal (suc n))
no_ends_in_value (def.UInt n) = no_ends_in_decimal n

no_ends_in_either : (o : Option ShaderDefValue) (text : List ℕ) → count_by is_end text ≡ 0 → count_by is_end (value_or o text) ≡ 0
no_ends_in_either (Some value) text e = no_ends_in_value value
no_ends_in_either None text e = e

no_ends_in_pieces : (defs : Definitions) (n : ℕ) (cs : List ℕ) → NonePass is_end cs → count_by is_end (flat_map (piece_text defs) (pieces n cs)) ≡ 0
unfolding pieces
no_ends_in_pieces defs zero [] none = refl
no_ends_in_pieces defs (suc n) [] none = refl
no_ends_in_pieces defs (suc n) (c ∷ cs) none = no_ends_in_pieces defs n cs none.1
no_ends_in_pieces defs zero (c ∷ cs) none =
    elim (cond (eqb c 35) (hash_name cs) None) as (λ o. count_by is_end (flat_map (piece_text defs) (elim o [ None ↦ plain c ∷ pieces zero cs | Some h ↦ named h.name (c ∷ take h.taken cs) ∷ pieces h.taken cs ])) ≡ 0) [
      | None ↦ no_ends_in_both (encode_utf8 c) _ (no_ends_in_character c none.0) (no_ends_in_pieces defs zero cs none.1)
      | Some h ↦ no_ends_in_both (value_or (defs (encode_utf8_all h.name)) (encode_utf8_all (c ∷ take h.taken cs))) _
          (no_ends_in_either (defs (encode_utf8_all h.name)) _ (no_ends_in_text (c ∷ take h.taken cs) (none.0, none_in_front h.taken cs none.1)))
          (no_ends_in_pieces defs h.taken cs none.1)
    ]

-- a line without a line end has none when its names are replaced
pub replaced_holds_no_newline : (defs : Definitions) (line : List ℕ) → IsUtf8 line → count_by (λ b. eqb b 10) line ≡ 0 → count_by (λ b. eqb b 10) (replaced defs line) ≡ 0
unfolding replaced replaced_from
replaced_holds_no_newline defs line u e =
    no_ends_in_pieces defs 0 (chars line) (no_ends_among (chars line) (ap (count_by is_end) (encodes-chars line u) ∙ e))
