-- Functions after keywords, and the characters of a text with edits.
use Rattle.std.proofs.Common.{◌≡◌, ◌≢◌, ℕ, ◌+◌, ◌-◌, ◌≤◌, ◌&&◌, Bool, true, false, not, cond, eqb, Option, Some, None, option_map, unwrap_or, List, [], ◌∷◌, ◌++◌, length, take, drop, refl, sym, ap, ◌∙◌, arith, IfSome}
use Rattle.std.specs.Prelude.{codes}
use Rattle.std.specs.Bool.{then_some}
use Rattle.std.specs.Char.{encode_utf8, is_whitespace}
use Rattle.std.specs.List.{flat_map, prefix_len}
use Rattle.std.specs.Str.{chars, IsUtf8, encode_utf8_all}
use Rattle.std.proofs.lemmas.Bool.{ne_eqb}
use Rattle.std.proofs.lemmas.Str.{chars-nil, encodes-chars}
use Rattle.std.proofs.lemmas.List.{nil_from_length}
use Rattle.naga_oil_lines.specs.Text.{past_word}
use Rattle.naga_oil_registry.specs.Keywords.{after_spaces, past_spaces, is_name_char, name_at_front, marked_name, edited}

pub no_chars : (text : List ℕ) → length text ≡ 0 → chars text ≡ []
no_chars text e = ap chars (nil_from_length text e) ∙ chars-nil

pub then_holds : {A : Type 0} (b : Bool) (x : A) (P : A → Type 0) → P x → IfSome (then_some b x) P
then_holds true x P h = h
then_holds false x P h = tt

pub no_spaces : (cs : List ℕ) → cs ≡ [] → None ≡ past_spaces cs
no_spaces cs e = rw e refl

pub name_char : (c : ℕ) (b : Bool) → b ≡ is_whitespace c → b ≡ false → c ≢ 40 → is_name_char c ≡ true
name_char c b e f ne = ap (λ w. not w && not (eqb c 40)) (sym e ∙ f) ∙ ap (λ q. not false && not q) (ne_eqb c 40 ne)

-- a text is empty if it has no character
pub empty_chars : (text : List ℕ) → IsUtf8 text → eqb (length text) 0 ≡ eqb (length (chars text)) 0
empty_chars [] u = rw chars-nil refl
empty_chars (x ∷ xs) u = by (chars (x ∷ xs)) (encodes-chars (x ∷ xs) u)
  where
    by : (cs : List ℕ) → encode_utf8_all cs ≡ x ∷ xs → eqb (length (x ∷ xs)) 0 ≡ eqb (length cs) 0
    by [] e = absurd cc
    by (c ∷ cs) e = ne_eqb (length (x ∷ xs)) 0 (λ h. omega (arith, h)) ∙ sym (ne_eqb (length (c ∷ cs)) 0 (λ h. omega (arith, h)))

-- ---- the name after a keyword
module _ (cs : List ℕ) where
  pub none_first : None ≡ past_spaces cs → None ≡ marked_name cs
  unfolding marked_name
  none_first e = rw (← e) refl

  module _ (w a : List ℕ) (word : w ≡ codes "fn") (first : Some a ≡ past_spaces cs) where
    pub none_word : None ≡ past_word w a → None ≡ marked_name cs
    unfolding marked_name
    none_word e =
        let none : past_word (codes "fn") a ≡ None = ap (λ w. past_word w a) (sym word) ∙ sym e in
        rw (← first) (rw none refl)

    module _ (b : List ℕ) (following : Some b ≡ past_word w a) where
      pub none_second : None ≡ past_spaces b → None ≡ marked_name cs
      unfolding marked_name
      none_second e =
          let some : past_word (codes "fn") a ≡ Some b = ap (λ w. past_word w a) (sym word) ∙ sym following in
          rw (← first) (rw some (rw (← e) refl))

      pub onwards : (o : List ℕ) → Some o ≡ past_spaces b → name_at_front o ≡ marked_name cs
      unfolding marked_name
      onwards o e =
          let some : past_word (codes "fn") a ≡ Some b = ap (λ w. past_word w a) (sym word) ∙ sym following in
          rw (← first) (rw some (rw (← e) refl))

module _ (o w rest : List ℕ) (word : w ≡ codes "(") (following : rest ≡ after_spaces (drop (prefix_len is_name_char o) o)) where
  pub none_open : None ≡ past_word w rest → None ≡ name_at_front o
  none_open e =
      let none : past_word (codes "(") (after_spaces (drop (prefix_len is_name_char o) o)) ≡ None = ap (past_word (codes "(")) (sym following) ∙ ap (λ w. past_word w rest) (sym word) ∙ sym e in
      rw none refl

  pub name_found : (arguments name : List ℕ) (empty : Bool) → Some arguments ≡ past_word w rest → name ≡ take (prefix_len is_name_char o) o → empty ≡ eqb (length name) 0
      → then_some {T = List ℕ × List ℕ × List ℕ} (not empty) (name, o, arguments) ≡ name_at_front o
  name_found arguments name empty e f g =
      let some : past_word (codes "(") (after_spaces (drop (prefix_len is_name_char o) o)) ≡ Some arguments = ap (past_word (codes "(")) (sym following) ∙ ap (λ w. past_word w rest) (sym word) ∙ sym e in
      rw (some, ← f, ← g) (by empty)
    where
      by : (b : Bool) → then_some {T = List ℕ × List ℕ × List ℕ} (not b) (name, o, arguments) ≡ cond b None (Some (name, o, arguments))
      by true = refl
      by false = refl

pub map_then : {A B : Type 0} (b : Bool) (x : A) (f : A → B) → option_map f (then_some b x) ≡ then_some b (f x)
map_then true x f = refl
map_then false x f = refl

-- ---- edits
pub edited_step : (other : ℕ → Option ℕ) (at next first x : ℕ) (cs more : List ℕ) → cs ≡ first ∷ more → next ≡ at + length (encode_utf8 first) → x ≡ unwrap_or (other at) first
    → encode_utf8 x ++ flat_map encode_utf8 (edited other next more) ≡ flat_map encode_utf8 (edited other at cs)
unfolding edited
edited_step other at next first x cs more e f g = rw (e, f, g) refl

pub edited_nothing : (other : ℕ → Option ℕ) (at : ℕ) (cs : List ℕ) → cs ≡ [] → flat_map encode_utf8 (edited other at cs) ≡ []
unfolding edited
edited_nothing other at cs e = rw e refl
