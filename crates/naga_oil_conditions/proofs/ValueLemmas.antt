-- The results of `parse` are the values that are read.
use Rattle.std.proofs.Common.{◌≡◌, ℕ, ◌^◌, Bool, true, false, ◌&&◌, cond, ltb, List, length, ℤ, Option, Some, None, Result, Ok, Err, Decides, refl, ap, sym}
use Rattle.std.specs.Prelude.{OkIff, bytes_eq}
use Rattle.std.specs.Result.{result_ok}
use Rattle.std.specs.Str.{all_ascii_digits}
use Rattle.std.specs.Str.Parse.{IsNumeral, digits_value, without_leading_plus, without_leading_sign, signed_digits_value, true_text, false_text, ParsesUnsigned, ParsesSigned, ParsesBool}
use Rattle.std.proofs.lemmas.Bool.Decides.{Decides-and, Decides-ltb, Decides-like}
use Rattle.std.proofs.lemmas.Str.Parse.{IsNumeralModel, numerals_by_value, tells_all_ascii_digits}
use Rattle.std.proofs.lemmas.Slice.Eq.{bytes_eq-Decides}
use lib.Signed.{mag}
use mir.Syntax.{w32}
use mir.Val.{SFits}
use Rattle.naga_oil_conditions.specs.Values.{is_numeral, read_u32, read_i32, read_bool}

own : IsNumeralModel (λ ds. all_ascii_digits ds ≡ true) (digits_value 10)
own = numerals_by_value (λ ds. all_ascii_digits ds ≡ true) tells_all_ascii_digits

numeral_decides : (ds : List ℕ) → Decides (is_numeral ds) (IsNumeral 10 ds)
numeral_decides ds = Decides-and (ltb 0 (length ds)) (all_ascii_digits ds) (Decides-ltb 0 (length ds)) (own.to ds, own.from ds)

ok_by : {T E : Type 0} {P : Type 0} (r : Result T E) (v : T) (b : Bool) → Decides b P → OkIff r P v → result_ok r ≡ cond b (Some v) None
ok_by (Ok x) v true d h = ap Some h.1
ok_by (Ok x) v false d h = let e = d.1 h.0 in cc
ok_by (Err e) v true d h = absurd (h (d.0 refl))
ok_by (Err e) v false d h = refl

pub parses_u32 : {E : Type 0} (bs : List ℕ) (r : Result ℕ E) → ParsesUnsigned 32 10 bs r → result_ok r ≡ read_u32 bs
unfolding read_u32
parses_u32 bs r h =
    let ds = without_leading_plus bs in
    ok_by r (digits_value 10 ds) (is_numeral ds && ltb (digits_value 10 ds) (2 ^ 32)) (Decides-and (is_numeral ds) (ltb (digits_value 10 ds) (2 ^ 32)) (numeral_decides ds) (Decides-ltb (digits_value 10 ds) (2 ^ 32))) h

fits_decides : (z : ℤ) → Decides (ltb (mag z) (2 ^ 31)) (SFits w32 z)
fits_decides z = Decides-like (ltb (mag z) (2 ^ 31)) (λ l. record { sfits = l }) (λ f. f.sfits) (Decides-ltb (mag z) (2 ^ 31))

pub parses_i32 : {E : Type 0} (bs : List ℕ) (r : Result ℤ E) → ParsesSigned w32 10 bs r → result_ok r ≡ read_i32 bs
unfolding read_i32
parses_i32 bs r h =
    let ds = without_leading_sign bs in
    let z = signed_digits_value 10 bs in
    ok_by r z (is_numeral ds && ltb (mag z) (2 ^ 31)) (Decides-and (is_numeral ds) (ltb (mag z) (2 ^ 31)) (numeral_decides ds) (fits_decides z)) h

pub parses_bool : {E : Type 0} (bs : List ℕ) (r : Result Bool E) → ParsesBool bs r → result_ok r ≡ read_bool bs
unfolding read_bool
parses_bool bs (Ok true) h = ap (λ v. cond (bytes_eq v true_text) (Some true) (cond (bytes_eq v false_text) (Some false) None)) (sym h)
parses_bool bs (Ok false) h = ap (λ v. cond (bytes_eq v true_text) (Some true) (cond (bytes_eq v false_text) (Some false) None)) (sym h)
parses_bool bs (Err e) h = go (bytes_eq bs true_text) (bytes_eq bs false_text) (bytes_eq-Decides bs true_text) (bytes_eq-Decides bs false_text)
  where
    go : (a b : Bool) → Decides a (bs ≡ true_text) → Decides b (bs ≡ false_text) → (let none : Option Bool = None in none ≡ cond a (Some true) (cond b (Some false) None))
    go true b d1 d2 = absurd (h.0 (d1.0 refl))
    go false true d1 d2 = absurd (h.1 (d2.0 refl))
    go false false d1 d2 = refl
