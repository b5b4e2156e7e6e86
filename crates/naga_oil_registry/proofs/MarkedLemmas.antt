-- Functions after keywords, from left to right.
use mathlib.Core.Path.{fun_ext}
use Rattle.std.proofs.Common.{◌≡◌, ◌≢◌, ℕ, zero, suc, ◌+◌, ◌-◌, ◌<◌, ◌≤◌, Bool, true, false, eqb, List, [], ◌∷◌, ◌++◌, length, take, drop, Option, Some, None, MatchOption, option_map, Bor, refl, sym, ap, ◌∙◌, append_assoc, length-append, arith}
use Rattle.std.proofs.Math.Seq.{drop-append_seam}
use Rattle.std.proofs.lemmas.Bool.Decides.{Decides-eqb, Decides-ltb, not_from_Decides}
use Rattle.std.proofs.lemmas.List.{length-drop}
use Rattle.std.proofs.lemmas.Slice.Eq.{starts_is}
use Rattle.std.proofs.lemmas.Str.{encodes-chars}
use Rattle.std.specs.BTreeMap.{BTreeMap, UpdatesBy, get}
use Rattle.std.specs.List.{starts_with}
use Rattle.std.specs.Ordering.{nat_cmp, is_eq}
use Rattle.std.specs.Cmp.{nat_cmp_is}
use Rattle.std.specs.declared.cmp.Ordering.TheVariants.{Less, Equal, Greater}
use Rattle.std.specs.Prelude.{◌==◌, nat_lt, if◌then◌else◌}
use Rattle.std.specs.Str.{chars, encode_utf8_all, IsUtf8}
use Rattle.std.specs.Str.Pattern.{FindsText, LacksTextAt, SplitsAroundMatch}
use Rattle.naga_oil_registry.specs.Keywords.{MarkedFunction, marked_name, name_after, marked_at, marked_after}

same_marked : (m : MarkedFunction) (keyword : ℕ) (name : List ℕ) (place : ℕ) → m.keyword ≡ keyword → m.name ≡ name → m.place ≡ place → m ≡ record { keyword = keyword; name = name; place = place }
same_marked m keyword name place p q r = ap (λ x. record { keyword = x; name = m.name; place = m.place }) p ∙ ap (λ x. record { keyword = keyword; name = x; place = m.place }) q ∙ ap (λ x. record { keyword = keyword; name = name; place = x }) r

pub begins : (mark rest : List ℕ) → starts_with eqb (mark ++ rest) mark ≡ true
begins mark rest = (starts_is Decides-eqb (mark ++ rest) mark (starts_with eqb (mark ++ rest) mark) refl).1 rest refl

pub begins_not : (mark text : List ℕ) → LacksTextAt mark text 0 → starts_with eqb text mark ≡ false
begins_not mark text none = by (starts_with eqb text mark) refl
  where
    by : (b : Bool) → starts_with eqb text mark ≡ b → starts_with eqb text mark ≡ false
    by true e = absurd (none (drop (length mark) text) ((starts_is Decides-eqb text mark (starts_with eqb text mark) refl).0 e))
    by false e = e

module _ (k : ℕ) (ks : List ℕ) where
  -- no keyword is there
  pub none_marked : (at : ℕ) (text : List ℕ) → ((i : ℕ) → i ≤ length text → LacksTextAt (k ∷ ks) text i) → marked_after 0 (k ∷ ks) at text ≡ []
  unfolding marked_after
  none_marked at [] none = refl
  none_marked at (b ∷ more) none = rw (begins_not (k ∷ ks) (b ∷ more) (none 0 (omega arith))) (none_marked (at + 1) more (λ i le. none (suc i) (omega (arith, le))))

  -- no keyword is there up to a place
  pub marked_later : (at : ℕ) (text : List ℕ) (i : ℕ) → i ≤ length text → ((j : ℕ) → j < i → LacksTextAt (k ∷ ks) text j) → marked_after 0 (k ∷ ks) at text ≡ marked_after 0 (k ∷ ks) (at + i) (drop i text)
  unfolding marked_after
  marked_later at text zero le none = let e : at ≡ at + 0 = omega arith in ap (λ n. marked_after 0 (k ∷ ks) n text) e
  marked_later at [] (suc i) le none = absurd (omega arith)
  marked_later at (b ∷ more) (suc i) le none =
      let e : at + 1 + i ≡ at + suc i = omega arith in
      rw (begins_not (k ∷ ks) (b ∷ more) (none 0 (omega arith))) (marked_later (at + 1) more i (omega arith) (λ j lt. none (suc j) (omega (arith, lt))) ∙ ap (λ n. marked_after 0 (k ∷ ks) n (drop i more)) e)

  -- bytes that were read are skipped
  pub past_read : (read text : List ℕ) (at : ℕ) → marked_after (length read) (k ∷ ks) at (read ++ text) ≡ marked_after 0 (k ∷ ks) (at + length read) text
  unfolding marked_after
  past_read [] text at = let e : at ≡ at + 0 = omega arith in ap (λ n. marked_after 0 (k ∷ ks) n text) e
  past_read (c ∷ read) text at = let e : at + 1 + length read ≡ at + suc (length read) = omega arith in past_read read text (at + 1) ∙ ap (λ n. marked_after 0 (k ∷ ks) n text) e

  -- a keyword at the front
  pub marked_here : (at : ℕ) (following : List ℕ) → marked_after 0 (k ∷ ks) at (k ∷ ks ++ following) ≡ marked_at (k ∷ ks) at (length (k ∷ ks ++ following)) (name_after following) (λ passed. marked_after (passed - 1) (k ∷ ks) (at + 1) (ks ++ following))
  unfolding marked_after
  marked_here at following =
      rw (begins (k ∷ ks) following) (ap (λ text. marked_at (k ∷ ks) at (length (k ∷ ks ++ following)) (name_after text) (λ passed. marked_after (passed - 1) (k ∷ ks) (at + 1) (ks ++ following))) (drop-append_seam (k ∷ ks) following))

  -- no function follows the keyword
  pub nothing_marked : (at : ℕ) (following : List ℕ) → name_after following ≡ None → marked_after 0 (k ∷ ks) at (k ∷ ks ++ following) ≡ marked_after 0 (k ∷ ks) (at + length (k ∷ ks)) following
  nothing_marked at following none =
      let e : length (k ∷ ks) - 1 ≡ length ks = omega arith in
      let f : at + 1 + length ks ≡ at + length (k ∷ ks) = omega arith in
      marked_here at following ∙ ap (λ o. marked_at (k ∷ ks) at (length (k ∷ ks ++ following)) o (λ passed. marked_after (passed - 1) (k ∷ ks) (at + 1) (ks ++ following))) none
      ∙ ap (λ n. marked_after n (k ∷ ks) (at + 1) (ks ++ following)) e ∙ past_read ks following (at + 1) ∙ ap (λ n. marked_after 0 (k ∷ ks) n following) f

  -- a function follows the keyword
  pub function_marked : (at : ℕ) (following name front rest : List ℕ) (onwards : ℕ) → name_after following ≡ Some (name, onwards, length rest) → following ≡ front ++ rest
      → marked_after 0 (k ∷ ks) at (k ∷ ks ++ following) ≡ record { keyword = at; name = name; place = at + (length (k ∷ ks ++ following) - onwards) } ∷ marked_after 0 (k ∷ ks) (at + length (k ∷ ks) + length front) rest
  function_marked at following name front rest onwards found split =
      let whole : ks ++ following ≡ (ks ++ front) ++ rest = ap (λ l. ks ++ l) split ∙ sym (append_assoc ks front rest) in
      let size : length (k ∷ ks ++ following) - length rest - 1 ≡ length (ks ++ front) = omega (arith, ap length whole, length-append (ks ++ front) rest) in
      let f : at + 1 + length (ks ++ front) ≡ at + length (k ∷ ks) + length front = omega (arith, length-append ks front) in
      let first : MarkedFunction = record { keyword = at; name = name; place = at + (length (k ∷ ks ++ following) - onwards) } in
      marked_here at following ∙ ap (λ o. marked_at (k ∷ ks) at (length (k ∷ ks ++ following)) o (λ passed. marked_after (passed - 1) (k ∷ ks) (at + 1) (ks ++ following))) found
      ∙ ap (λ ms. first ∷ ms) (ap (λ n. marked_after n (k ∷ ks) (at + 1) (ks ++ following)) size ∙ ap (λ l. marked_after (length (ks ++ front)) (k ∷ ks) (at + 1) l) whole ∙ past_read (ks ++ front) rest (at + 1) ∙ ap (λ n. marked_after 0 (k ∷ ks) n rest) f)

-- the name after a keyword, by its bytes
pub name_by_bytes : (text name onwards arguments : List ℕ) → Some (chars name, chars onwards, chars arguments) ≡ marked_name (chars text) → IsUtf8 name → IsUtf8 onwards → IsUtf8 arguments → name_after text ≡ Some (name, length onwards, length arguments)
name_by_bytes text name onwards arguments e u v w =
    ap (option_map (λ m. (encode_utf8_all m.0, length (encode_utf8_all m.1), length (encode_utf8_all m.2)))) (sym e)
    ∙ ap (λ n. Some (n, length (encode_utf8_all (chars onwards)), length (encode_utf8_all (chars arguments)))) (encodes-chars name u)
    ∙ ap (λ o. Some (name, length o, length (encode_utf8_all (chars arguments)))) (encodes-chars onwards v)
    ∙ ap (λ a. Some (name, length onwards, length a)) (encodes-chars arguments w)

pub no_name : (text : List ℕ) → None ≡ marked_name (chars text) → name_after text ≡ None
no_name text e = ap (option_map (λ m. (encode_utf8_all m.0, length (encode_utf8_all m.1), length (encode_utf8_all m.2)))) (sym e)

-- where a text is cut at a keyword
module _ (k : ℕ) (ks text before following : List ℕ) (cut : SplitsAroundMatch (FindsText (k ∷ ks)) text before following) where
  pub cut_here : (at : ℕ) → marked_after 0 (k ∷ ks) at text ≡ marked_after 0 (k ∷ ks) (at + length before) (k ∷ ks ++ following)
  cut_here at =
      let f = cut.2 in
      let le : cut.0 ≤ length text = omega (arith, f.1.ends, cut.7) in
      marked_later k ks at text cut.0 le f.0 ∙ ap (λ i. marked_after 0 (k ∷ ks) (at + i) (drop cut.0 text)) (sym cut.6) ∙ ap (marked_after 0 (k ∷ ks) (at + length before)) (f.1.split ∙ ap (λ l. k ∷ ks ++ l) (sym cut.4))

-- the lengths of the parts
pub cut_sizes : (keyword text before following : List ℕ) → SplitsAroundMatch (FindsText keyword) text before following → length before + length keyword + length following ≡ length text
cut_sizes keyword text before following cut = let f = cut.2 in omega (arith, f.1.ends, cut.6, cut.7)

-- one more keyword, and no more
pub step_end : (keyword text : List ℕ) (at : ℕ) → 0 < length keyword → FindsText keyword text None → marked_after 0 keyword at text ≡ []
step_end [] text at some none = absurd (omega arith)
step_end (k ∷ ks) text at some none = none_marked k ks at text none

pub step_past : (keyword text before following : List ℕ) (at next : ℕ) → 0 < length keyword → SplitsAroundMatch (FindsText keyword) text before following → name_after following ≡ None → next ≡ at + length before + length keyword
    → marked_after 0 keyword next following ≡ marked_after 0 keyword at text
step_past [] text before following at next some cut none e = absurd (omega arith)
step_past (k ∷ ks) text before following at next some cut none e =
    ap (λ n. marked_after 0 (k ∷ ks) n following) e ∙ sym (cut_here k ks text before following cut at ∙ nothing_marked k ks (at + length before) following none)

pub step_marked : (keyword text before following name front rest : List ℕ) (onwards at next : ℕ) (m : MarkedFunction) → 0 < length keyword → SplitsAroundMatch (FindsText keyword) text before following
    → name_after following ≡ Some (name, onwards, length rest) → following ≡ front ++ rest → next ≡ at + length before + length keyword + length front
    → m.keyword ≡ at + length before → m.name ≡ name → m.place ≡ at + length before + (length keyword + length following - onwards)
    → m ∷ marked_after 0 keyword next rest ≡ marked_after 0 keyword at text
step_marked [] text before following name front rest onwards at next m some cut found split e p q r = absurd (omega arith)
step_marked (k ∷ ks) text before following name front rest onwards at next m some cut found split e p q r =
    let size : length (k ∷ ks ++ following) ≡ length (k ∷ ks) + length following = length-append (k ∷ ks) following in
    let place : m.place ≡ at + length before + (length (k ∷ ks ++ following) - onwards) = r ∙ ap (λ n. at + length before + (n - onwards)) (sym size) in
    ap (λ n. m ∷ marked_after 0 (k ∷ ks) n rest) e
    ∙ ap (λ (x : MarkedFunction). x ∷ marked_after 0 (k ∷ ks) (at + length before + length (k ∷ ks) + length front) rest) (same_marked m (at + length before) name (at + length before + (length (k ∷ ks ++ following) - onwards)) p q place)
    ∙ sym (cut_here k ks text before following cut at ∙ function_marked k ks (at + length before) following name front rest onwards found split)

-- ---- edits
before_other : (a b : ℕ) → a ≢ b → (b < a → ⊥) → a < b
before_other zero zero other past = absurd (other refl)
before_other zero (suc b) other past = omega arith
before_other (suc a) zero other past = absurd (past (omega arith))
before_other (suc a) (suc b) other past = let less : a < b = before_other a b (λ e. other (ap suc e)) (λ l. past (omega (arith, l))) in omega arith

same_place : (place at : ℕ) → is_eq (nat_cmp place at) ≡ (at == place)
same_place place at = by (at == place) (nat_lt place at) refl refl
  where
    by : (e l : Bool) → (at == place) ≡ e → nat_lt place at ≡ l → is_eq (nat_cmp place at) ≡ e
    by true l e f = let same : place ≡ at = sym ((Decides-eqb at place).0 e) in ap is_eq (sym (nat_cmp_is place at Equal same))
    by false true e f = ap is_eq (sym (nat_cmp_is place at Less ((Decides-ltb place at).0 f)))
    by false false e f =
        let other : at ≢ place = not_from_Decides (at == place) (Decides-eqb at place) e in
        let past : place < at → ⊥ = not_from_Decides (nat_lt place at) (Decides-ltb place at) f in
        let more : at < place = before_other at place other past in
        ap is_eq (sym (nat_cmp_is place at Greater more))

pub edited_at : (old new : BTreeMap ℕ ℕ) (place c : ℕ) → UpdatesBy nat_cmp (nat_cmp place) old new (Some c) → get nat_cmp new ≡ (λ at. if at == place then Some c else get nat_cmp old at)
edited_at old new place c h = fun_ext (λ at. h.0 at ∙ ap (λ b. if b then Some c else get nat_cmp old at) (same_place place at))
