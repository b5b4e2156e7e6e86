use Rattle.std.proofs.Common.{◌≡◌, ℕ, Bool, true, false, cond, ◌&&◌, Some, None, Result, Ok, Err, Vec, String, List, ap, sym, subst, refl, ◌∙◌, rules}
use Rattle.std.specs.List.{flat_map}
use Rattle.std.specs.Option.{option_map}
use Rattle.std.specs.Result.{IfOk, IsOk, result_ok}
use Rattle.std.specs.Str.{IsUtf8, is_utf8, bytes_eq}
use Rattle.std.specs.String.{string_bytes, string_vec}
use Rattle.std.specs.declared.alloc.Global.{Global}
use Rattle.std.proofs.lemmas.Bool.{false≢true}
use Rattle.std.proofs.lemmas.Str.{IsUtf8-from_is_utf8, is_utf8-from_IsUtf8, IsUtf8-string_bytes}
use Rattle.naga_oil_lines.specs.Decorate.{bits, base32, value_of, bytes_of}
use Rattle.naga_oil_lines.proofs.DecorateLemmas.{read_code}
use Rattle.naga_oil_lines.proofs.decorate.decode.Goals as goal

-- bytes are read as a text exactly if they are UTF-8
read_text : {E : Type 0} (bytes : Vec ℕ Global) (r : Result (String Global) E) → IfOk r (λ t. string_vec t ≡ bytes) → (IsUtf8 bytes.items → IsOk r)
    → option_map string_bytes (result_ok r) ≡ cond (is_utf8 bytes.items) (Some bytes.items) None
read_text bytes (Ok t) e h =
    let same : string_bytes t ≡ bytes.items = ap (λ v. v.items) e in
    rw (is_utf8-from_IsUtf8 bytes.items (subst IsUtf8 same (IsUtf8-string_bytes t))) (ap Some same)
read_text bytes (Err x) e h = go (is_utf8 bytes.items) refl
  where
    go : (b : Bool) → is_utf8 bytes.items ≡ b → None ≡ cond b (Some bytes.items) None
    go true q = absurd (false≢true (h (IsUtf8-from_is_utf8 bytes.items q)))
    go false q = refl

abbrev bytes_of_code : List ℕ → List ℕ
bytes_of_code code = bytes_of (flat_map (λ c. bits 5 (value_of c)) code)

pub returns-then-ne : goal.returns-then-ne
returns-then-ne c =
    let bytes = c.in_ok-bytes.bytes.items in
    let again = c.as_str.result.now in
    let written : again ≡ base32 bytes = search rules in
    let differs : bytes_eq again c.args.code.now ≡ false = search rules in
    sym (ap (λ b. cond (b && is_utf8 bytes) (Some bytes) None) differs) ∙ read_code c.args.code.now bytes again (c.in_ok-bytes.ensures ∙ ap bytes_of_code c.as_bytes.ensures.value) written

pub returns : goal.returns
returns c =
    let bytes = c.in_ok-bytes.bytes.items in
    let again = c.as_str.result.now in
    let written : again ≡ base32 bytes = search rules in
    let alike : bytes_eq again c.args.code.now ≡ true = search rules in
    ap (option_map string_bytes) c.ok.ensures.value
    ∙ read_text c.in_ok-bytes.bytes c.from_utf8.result c.from_utf8.ensures.ok c.from_utf8.ensures.succeeds
    ∙ sym (ap (λ b. cond (b && is_utf8 bytes) (Some bytes) None) alike) ∙ read_code c.args.code.now bytes again (c.in_ok-bytes.ensures ∙ ap bytes_of_code c.as_bytes.ensures.value) written
