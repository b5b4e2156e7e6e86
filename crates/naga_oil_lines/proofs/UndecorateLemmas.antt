-- Marks of decorated names, found from the front of a text.
use Rattle.std.proofs.Common.{◌≡◌, ◌≢◌, ℕ, zero, suc, ◌-◌, Bool, true, false, cond, eqb, eq-eqb, Option, Some, None, List, [], ◌∷◌, ◌++◌, length, take, drop, refl, sym, ap, ◌∙◌, arith, append_assoc, length-append}
use borrow.Author.Tests.{ne_eqb}
use Rattle.std.proofs.Math.Seq.{take-append_seam, drop-append_seam}
use Rattle.std.specs.Prelude.{codes}
use Rattle.std.specs.Char.{encode_utf8}
use Rattle.std.specs.List.{prefix_len}
use Rattle.std.specs.Option.{option_map, option_or, option_and_then, is_some}
use Rattle.std.specs.Str.{IsUtf8, chars, encode_utf8_all}
use Rattle.std.proofs.lemmas.Option.{some_pair_parts}
use Rattle.std.proofs.lemmas.Str.{chars-append, encodes-chars}
use Rattle.ucd_perl.specs.Perl.{is_word_char}
use Rattle.naga_oil_lines.specs.Decorate.{decoded}
use Rattle.naga_oil_words.specs.Marks.{module_mark, override_mark}
use Rattle.naga_oil_lines.specs.Text.{past_word}
use Rattle.naga_oil_lines.proofs.TextLemmas.{past_word-some, chars_before}
use Rattle.naga_oil_lines.specs.Undecorate.{is_code_char, from_last_x, mark_code, from_last_mark, split_at_mark, with_module, run_shown, with_modules, override_at, with_overrides}

-- ---- a value that a later one takes precedence over
or_some : {A : Type 0} (o p : Option A) (x : A) → option_or (option_or o (Some x)) p ≡ option_or o (Some x)
or_some None p x = refl
or_some (Some y) p x = refl

or_none : {A : Type 0} (o p : Option A) → option_or (option_or o None) p ≡ option_or o p
or_none None p = refl
or_none (Some y) p = refl

or_last : {A : Type 0} (o : Option A) → option_or o None ≡ o
or_last None = refl
or_last (Some y) = refl

-- ---- the last `X`
module _ (all : List ℕ) (c : ℕ) (cs : List ℕ) (found : Option (List ℕ)) (first : all ≡ c ∷ cs) where
  pub at_x : is_code_char c ≡ true → c ≡ 88 → option_or (from_last_x cs) (Some all) ≡ option_or (from_last_x all) found
  unfolding from_last_x
  at_x code e = rw (first, code, eq-eqb c 88 e) (sym (or_some (from_last_x cs) found (c ∷ cs)))

  pub at_other : is_code_char c ≡ true → c ≢ 88 → option_or (from_last_x cs) found ≡ option_or (from_last_x all) found
  unfolding from_last_x
  at_other code n = rw (first, code, ne_eqb c 88 n) (sym (or_none (from_last_x cs) found))

  pub at_end : is_code_char c ≡ false → found ≡ option_or (from_last_x all) found
  unfolding from_last_x
  at_end code = rw (first, code) refl

pub none_x : (all : List ℕ) (found : Option (List ℕ)) → all ≡ [] → found ≡ option_or (from_last_x all) found
unfolding from_last_x
none_x all found e = rw e refl

pub from_last_x-first : (text : List ℕ) → option_or (from_last_x text) None ≡ from_last_x text
from_last_x-first text = or_last (from_last_x text)

-- ---- a code
-- the text before a rest, by its characters
pub text_before_rest : (text front rest : List ℕ) → text ≡ front ++ rest → IsUtf8 front → front ≡ encode_utf8_all (take (length (chars text) - length (chars rest)) (chars text))
text_before_rest text front rest e u =
    let spelled : chars text ≡ chars front ++ chars rest = ap chars e ∙ chars-append front rest u in
    let count : length (chars text) - length (chars rest) ≡ length (chars front) = omega (arith, ap length spelled, length-append (chars front) (chars rest)) in
    sym (encodes-chars front u) ∙ ap encode_utf8_all (sym (ap (λ k. take k (chars text)) count ∙ ap (take (length (chars front))) spelled ∙ take-append_seam (chars front) (chars rest)))

pub spelled_module_mark : chars module_mark ≡ module_mark
unfolding chars
spelled_module_mark = refl

pub spelled_override_mark : chars override_mark ≡ override_mark
unfolding chars
spelled_override_mark = refl

pub spelled_x : chars (codes "X") ≡ codes "X"
unfolding chars
spelled_x = refl

module _ (mark text : List ℕ) where
  pub no_mark : None ≡ past_word mark text → None ≡ mark_code mark text
  unfolding mark_code
  no_mark e = rw (← e) refl

  pub no_code : (rest : List ℕ) → Some rest ≡ past_word mark text → None ≡ from_last_x rest → None ≡ mark_code mark text
  unfolding mark_code
  no_code rest e f = rw (← e, ← f) refl

  pub no_end : (rest end : List ℕ) → Some rest ≡ past_word mark text → Some end ≡ from_last_x rest → None ≡ past_word (codes "X") end → None ≡ mark_code mark text
  unfolding mark_code
  no_end rest end e f g = rw (← e, ← f, ← g) refl

  pub a_mark : (rest end following code : List ℕ) → Some rest ≡ past_word mark text → Some end ≡ from_last_x rest → Some following ≡ past_word (codes "X") end
      → code ≡ encode_utf8_all (take (length rest - length end) rest) → (let found : Option (List ℕ × List ℕ) = Some (code, following) in found ≡ mark_code mark text)
  unfolding mark_code
  a_mark rest end following code e f g h = rw (← e, ← f, ← g, h) refl

-- ---- the text after a mark
from_last_x-suffix : (cs end : List ℕ) → from_last_x cs ≡ Some end → (front : List ℕ) × (cs ≡ front ++ end)
unfolding from_last_x
from_last_x-suffix [] end e = cc
from_last_x-suffix (c ∷ cs) end e = go (is_code_char c) (from_last_x cs) (eqb c 88) (from_last_x-suffix cs end) refl e
  where
    go : (k : Bool) (o : Option (List ℕ)) (x : Bool) → (from_last_x cs ≡ Some end → (front : List ℕ) × (cs ≡ front ++ end)) → from_last_x cs ≡ o → cond k (option_or o (cond x (Some (c ∷ cs)) None)) None ≡ Some end
        → (front : List ℕ) × (c ∷ cs ≡ front ++ end)
    go true (Some t) x more p e = let q = more (p ∙ e) in (c ∷ q.0, ap (λ l. c ∷ l) q.1)
    go true None true more p e = ([], cc)
    go true None false more p e = cc
    go false o x more p e = cc

mark_code-suffix : (mark cs code following : List ℕ) → (let found : Option (List ℕ × List ℕ) = Some (code, following) in mark_code mark cs ≡ found) → (front : List ℕ) × (cs ≡ mark ++ (front ++ following))
unfolding mark_code
mark_code-suffix mark cs code following e = go (past_word mark cs) refl e
  where
    at_after : (rest end : List ℕ) (o : Option (List ℕ)) → past_word mark cs ≡ Some rest → from_last_x rest ≡ Some end → past_word (codes "X") end ≡ o
        → (let found : Option (List ℕ × List ℕ) = Some (code, following) in option_and_then (λ b. Some (encode_utf8_all (take (length rest - length end) rest), b)) o ≡ found) → (front : List ℕ) × (cs ≡ mark ++ (front ++ following))
    at_after rest end (Some b) p q r e =
        let same : b ≡ following = (some_pair_parts (encode_utf8_all (take (length rest - length end) rest)) code b following e).1 in
        let cut = from_last_x-suffix rest end q in
        (cut.0 ++ codes "X", past_word-some mark cs rest p ∙ ap (λ l. mark ++ l) (cut.1 ∙ ap (λ l. cut.0 ++ l) (past_word-some (codes "X") end b r ∙ ap (λ l. codes "X" ++ l) same) ∙ sym (append_assoc cut.0 (codes "X") following)))
    at_after rest end None p q r e = cc

    at_end_x : (rest : List ℕ) (o : Option (List ℕ)) → past_word mark cs ≡ Some rest → from_last_x rest ≡ o
        → (let found : Option (List ℕ × List ℕ) = Some (code, following) in option_and_then (λ end. option_and_then (λ b. Some (encode_utf8_all (take (length rest - length end) rest), b)) (past_word (codes "X") end)) o ≡ found) → (front : List ℕ) × (cs ≡ mark ++ (front ++ following))
    at_end_x rest (Some end) p q e = at_after rest end (past_word (codes "X") end) p q refl e
    at_end_x rest None p q e = cc

    go : (o : Option (List ℕ)) → past_word mark cs ≡ o
        → (let found : Option (List ℕ × List ℕ) = Some (code, following) in option_and_then (λ rest. option_and_then (λ end. option_and_then (λ b. Some (encode_utf8_all (take (length rest - length end) rest), b)) (past_word (codes "X") end)) (from_last_x rest)) o ≡ found)
        → (front : List ℕ) × (cs ≡ mark ++ (front ++ following))
    go (Some rest) p e = at_end_x rest (from_last_x rest) p refl e
    go None p e = cc

-- after the first character of a mark of an override
after_mark : (c : ℕ) (cs code following : List ℕ) → (let found : Option (List ℕ × List ℕ) = Some (code, following) in mark_code override_mark (c ∷ cs) ≡ found) → (front : List ℕ) × (cs ≡ front ++ following)
after_mark c cs code following e =
    let cut = mark_code-suffix override_mark (c ∷ cs) code following e in
    let tail : cs ≡ drop 1 override_mark ++ (cut.0 ++ following) = ap (drop 1) cut.1 in
    (drop 1 override_mark ++ cut.0, tail ∙ sym (append_assoc (drop 1 override_mark) cut.0 following))

-- ---- the last mark
module _ (all : List ℕ) (c : ℕ) (cs : List ℕ) (found : Option (List ℕ)) (first : all ≡ c ∷ cs) where
  pub mark_here : is_some (mark_code module_mark cs) ≡ true → option_or (from_last_mark cs) (Some cs) ≡ option_or (from_last_mark all) found
  unfolding from_last_mark
  mark_here h = rw (first, h) (sym (or_some (from_last_mark cs) found cs))

  pub no_mark_here : is_some (mark_code module_mark cs) ≡ false → option_or (from_last_mark cs) found ≡ option_or (from_last_mark all) found
  unfolding from_last_mark
  no_mark_here h = rw (first, h) (sym (or_none (from_last_mark cs) found))

pub none_marked : (all : List ℕ) (found : Option (List ℕ)) → all ≡ [] → found ≡ option_or (from_last_mark all) found
unfolding from_last_mark
none_marked all found e = rw e refl

pub from_last_mark-first : (run : List ℕ) → option_or (from_last_mark run) None ≡ from_last_mark run
from_last_mark-first run = or_last (from_last_mark run)

module _ (run : List ℕ) where
  pub no_split : None ≡ from_last_mark run → None ≡ split_at_mark run
  unfolding split_at_mark
  no_split e = rw (← e) refl

  pub no_split_after : (at : List ℕ) → Some at ≡ from_last_mark run → None ≡ mark_code module_mark at → None ≡ split_at_mark run
  unfolding split_at_mark
  no_split_after at e f = rw (← e, ← f) refl

  pub a_split : (at before code following : List ℕ) → Some at ≡ from_last_mark run → (let found : Option (List ℕ × List ℕ) = Some (code, following) in found ≡ mark_code module_mark at)
      → before ≡ encode_utf8_all (take (length run - length at) run) → (let parts : Option (List ℕ × List ℕ × List ℕ) = Some (before, code, following) in parts ≡ split_at_mark run)
  unfolding split_at_mark
  a_split at before code following e f h = rw (← e, ← f, h) refl

  pub unmarked : None ≡ split_at_mark run → encode_utf8_all run ≡ run_shown run
  unfolding with_module
  unmarked e = rw (← e) refl

  pub undecoded : (before code following : List ℕ) → (let parts : Option (List ℕ × List ℕ × List ℕ) = Some (before, code, following) in parts ≡ split_at_mark run) → None ≡ decoded code
      → encode_utf8_all run ≡ run_shown run
  unfolding with_module
  undecoded before code following e f = rw (← e, ← f) refl

  pub named : (before code following module_name : List ℕ) → (let parts : Option (List ℕ × List ℕ × List ℕ) = Some (before, code, following) in parts ≡ split_at_mark run) → Some module_name ≡ decoded code
      → module_name ++ codes "::" ++ before ++ encode_utf8_all following ≡ run_shown run
  unfolding with_module
  named before code following module_name e f = rw (← e, ← f) refl

-- ---- characters already read
pub told_modules : (n : ℕ) (cs : List ℕ) → with_modules n cs ≡ with_modules 0 (drop n cs)
unfolding with_modules
told_modules zero cs = refl
told_modules (suc n) [] = refl
told_modules (suc n) (c ∷ cs) = told_modules n cs

pub told_overrides : (n : ℕ) (cs : List ℕ) → with_overrides n cs ≡ with_overrides 0 (drop n cs)
unfolding with_overrides
told_overrides zero cs = refl
told_overrides (suc n) [] = refl
told_overrides (suc n) (c ∷ cs) = told_overrides n cs

-- the text written where a mark of an override may be
abbrev shown_front : ℕ → List ℕ → Option (List ℕ × List ℕ) → List ℕ
shown_front c cs (Some found) = codes "override fn " ++ found.0 ++ codes "::" ++ with_overrides (length cs - length found.1) cs
shown_front c cs None = encode_utf8 c ++ with_overrides 0 cs

at_front : (c : ℕ) (cs : List ℕ) (o : Option (List ℕ × List ℕ)) → override_at (c ∷ cs) ≡ o → with_overrides 0 (c ∷ cs) ≡ shown_front c cs o
unfolding with_overrides
at_front c cs o e = ap (shown_front c cs) e

overriding_none : (cs : List ℕ) → None ≡ mark_code override_mark cs → override_at cs ≡ None
unfolding override_at
overriding_none cs e = rw (← e) refl

overriding_other : (cs code following : List ℕ) → (let found : Option (List ℕ × List ℕ) = Some (code, following) in found ≡ mark_code override_mark cs) → None ≡ decoded code → override_at cs ≡ None
unfolding override_at
overriding_other cs code following e f = rw (← e, ← f) refl

pub overriding_some : (cs code following module_name : List ℕ) → (let found : Option (List ℕ × List ℕ) = Some (code, following) in found ≡ mark_code override_mark cs) → Some module_name ≡ decoded code
    → (let told : Option (List ℕ × List ℕ) = Some (module_name, following) in override_at cs ≡ told)
unfolding override_at
overriding_some cs code following module_name e f = rw (← e, ← f) refl

module _ (all : List ℕ) (c : ℕ) (cs : List ℕ) (first : all ≡ c ∷ cs) where
  pub word_run : (run rest : List ℕ) → is_word_char c ≡ true → rest ≡ drop (prefix_len is_word_char cs) cs → run ≡ c ∷ take (prefix_len is_word_char cs) cs
      → run_shown run ++ with_modules 0 rest ≡ with_modules 0 all
  unfolding with_modules
  word_run run rest word e r =
      rw (first, word, e, r) (ap (λ l. run_shown (c ∷ take (prefix_len is_word_char cs) cs) ++ l) (sym (told_modules (prefix_len is_word_char cs) cs)))

  pub no_word : is_word_char c ≡ false → encode_utf8 c ++ with_modules 0 cs ≡ with_modules 0 all
  unfolding with_modules
  no_word word = rw (first, word) refl

  pub overridden : (code following module_name : List ℕ) → (let found : Option (List ℕ × List ℕ) = Some (code, following) in found ≡ mark_code override_mark all) → Some module_name ≡ decoded code
      → codes "override fn " ++ module_name ++ codes "::" ++ with_overrides 0 following ≡ with_overrides 0 all
  overridden code following module_name e f =
      let here = e ∙ ap (mark_code override_mark) first in
      let cut = after_mark c cs code following (sym here) in
      let count : length cs - length following ≡ length cut.0 = omega (arith, ap length cut.1, length-append cut.0 following) in
      let left : drop (length cs - length following) cs ≡ following = ap (λ k. drop k cs) count ∙ ap (drop (length cut.0)) cut.1 ∙ drop-append_seam cut.0 following in
      ap (λ l. codes "override fn " ++ module_name ++ codes "::" ++ l) (sym (told_overrides (length cs - length following) cs ∙ ap (with_overrides 0) left))
      ∙ sym (at_front c cs (Some (module_name, following)) (overriding_some (c ∷ cs) code following module_name here f)) ∙ ap (with_overrides 0) (sym first)

  pub not_marked : None ≡ mark_code override_mark all → encode_utf8 c ++ with_overrides 0 cs ≡ with_overrides 0 all
  not_marked e = sym (at_front c cs None (overriding_none (c ∷ cs) (e ∙ ap (mark_code override_mark) first))) ∙ ap (with_overrides 0) (sym first)

  pub not_decoded : (code following : List ℕ) → (let found : Option (List ℕ × List ℕ) = Some (code, following) in found ≡ mark_code override_mark all) → None ≡ decoded code
      → encode_utf8 c ++ with_overrides 0 cs ≡ with_overrides 0 all
  not_decoded code following e f = sym (at_front c cs None (overriding_other (c ∷ cs) code following (e ∙ ap (mark_code override_mark) first) f)) ∙ ap (with_overrides 0) (sym first)

pub no_modules : (all : List ℕ) → all ≡ [] → with_modules 0 all ≡ []
unfolding with_modules
no_modules all e = rw e refl

pub no_overrides : (all : List ℕ) → all ≡ [] → with_overrides 0 all ≡ []
unfolding with_overrides
no_overrides all e = rw e refl

-- a run of word characters, by its first one and the rest
pub run_before : (bs front rest more : List ℕ) (c : ℕ) → chars bs ≡ c ∷ chars more → bs ≡ front ++ rest → IsUtf8 front → chars rest ≡ drop (prefix_len is_word_char (chars more)) (chars more)
    → chars front ≡ c ∷ take (prefix_len is_word_char (chars more)) (chars more)
run_before bs front rest more c spelled e u d =
    let n = prefix_len is_word_char (chars more) in
    chars_before bs front rest (suc n) e u (d ∙ sym (ap (drop (suc n)) spelled)) ∙ ap (take (suc n)) spelled

-- whether a value is there doesn't depend on how it is read
pub read_is_some : {A B : Type 0} (f : A → B) (o : Option A) (p : Option B) → option_map f o ≡ p → is_some p ≡ is_some o
read_is_some f None p e = ap is_some (sym e)
read_is_some f (Some x) p e = ap is_some (sym e)
