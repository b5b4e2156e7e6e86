-- What callers call in place of overridden functions.
use Rattle.std.proofs.Common.{◌≡◌, ◌∙◌, ℕ, zero, suc, ◌||◌, Bool, true, false, if◌then◌else◌, List, [], ◌∷◌, slice_get, bytes_eq, Option, Some, None, refl, ap, sym, subst, arith}
use Rattle.std.specs.List.{list_any}
use Rattle.std.proofs.lemmas.Bool.{false≢true}
use Rattle.std.proofs.lemmas.Bool.Decides.{same_from_decides}
use Rattle.std.proofs.lemmas.Option.{none-some, same_Some}
use Rattle.std.proofs.lemmas.Slice.Eq.{bytes_eq-Decides}
use Rattle.naga_oil_form.specs.NameForm.{Name}
use Rattle.naga_oil_ir.specs.Rows.{Text}
use Rattle.naga_oil_words.specs.Texts.{is_among}
use Rattle.naga_oil_link.specs.BuiltModule.{Overriding}
use Rattle.naga_oil_redirect.specs.Chain.{destination}
use Rattle.naga_oil_redirect.specs.ChainLaw.{is_in_chain}
use Rattle.naga_oil_redirect.specs.Redirected.{is_named}
use Rattle.naga_oil_copy_laws.specs.SentByTree.{instead_of}
use Rattle.naga_oil.specs.CallsSent.{call_sent, call_sent_down, call_goes}
use Rattle.naga_oil.specs.ChainsLaw.{IsApart, StandsApart, CallsLaw}

-- ---- names

same_name : (n : Name) → bytes_eq n n ≡ true
same_name n = (bytes_eq-Decides n n).1 refl

turned : (a b : Name) → bytes_eq a b ≡ bytes_eq b a
turned a b =
    let d = bytes_eq-Decides b a in
    same_from_decides (bytes_eq a b) (bytes_eq b a) (bytes_eq-Decides a b) (λ e. sym (d.0 e), λ e. d.1 (sym e))

-- the left side of the or, or the right one
or_true : (b c : Bool) → c ≡ true → (b || c) ≡ true
or_true true c e = refl
or_true false c e = e

neither : (b c : Bool) → (b || c) ≡ false → (b ≡ false) × (c ≡ false)
neither true c e = absurd (false≢true (sym e))
neither false c e = (refl, e)

-- ---- one chain

-- calls of other names stay
name_stays : (base other : Name) (n : Name) → bytes_eq n base ≡ false → instead_of (Some base) (Some other) (Some n) ≡ Some n
name_stays base other n e = ap (λ (b : Bool). let t : Text = if b then Some other else Some n in t) (turned base n ∙ e)

sent_stays : (b : Bool) (caller : Text) (base other : Name) (n : Name) → bytes_eq n base ≡ false → (let t : Text = if b then Some n else instead_of (Some base) (Some other) (Some n) in t) ≡ Some n
sent_stays true caller base other n e = refl
sent_stays false caller base other n e = name_stays base other n e

other_stays : (caller : Text) (base : Name) (others omitted : List Name) (n : Name) → is_in_chain base others n ≡ false → call_sent_down caller base others omitted (Some n) ≡ Some n
other_stays caller base [] omitted n e = refl
other_stays caller base (other ∷ more) omitted n e =
    let both = neither (bytes_eq n base) (list_any (bytes_eq n) (other ∷ more)) e in
    ap (call_sent_down caller other more (other ∷ omitted)) (sent_stays (is_named (bytes_eq other) caller || is_named (is_among omitted) caller) caller base other n both.0)
    ∙ other_stays caller other more (other ∷ omitted) n both.1

-- a caller that is omitted calls what it called
omitted_stays : (caller : Name) (base : Name) (others omitted : List Name) (n : Text) → is_among omitted caller ≡ true → call_sent_down (Some caller) base others omitted n ≡ n
omitted_stays caller base [] omitted n e = refl
omitted_stays caller base (other ∷ more) omitted n e =
    ap (λ (b : Bool). call_sent_down (Some caller) other more (other ∷ omitted) (if b then n else instead_of (Some base) (Some other) n)) (or_true (bytes_eq other caller) (is_among omitted caller) e)
    ∙ omitted_stays caller other more (other ∷ omitted) n (or_true (bytes_eq caller other) (is_among omitted caller) e)

-- a call of the base becomes a call of the other
base_goes : (base other : Name) → instead_of (Some base) (Some other) (Some base) ≡ Some other
base_goes base other = ap (λ (b : Bool). let t : Text = if b then Some other else Some base in t) (same_name base)

-- no function
none_calls : (base : Name) (others omitted : List Name) → call_sent_down None base others omitted (Some base) ≡ Some (destination others None base)
none_calls base [] omitted = refl
none_calls base (other ∷ more) omitted = ap (call_sent_down None other more (other ∷ omitted)) (base_goes base other) ∙ none_calls other more (other ∷ omitted)

named_calls : (caller base : Name) (others omitted : List Name) → is_among omitted caller ≡ false → call_sent_down (Some caller) base others omitted (Some base) ≡ Some (destination others (Some caller) base)
named_calls caller base [] omitted e = refl
named_calls caller base (other ∷ more) omitted e = by (bytes_eq caller other) refl (named_calls caller other more (other ∷ omitted))
  where
    rest : Bool → Text
    rest b = call_sent_down (Some caller) other more (other ∷ omitted) (if b then Some base else instead_of (Some base) (Some other) (Some base))

    by : (b : Bool) → bytes_eq caller other ≡ b
        → ((bytes_eq caller other || is_among omitted caller) ≡ false → call_sent_down (Some caller) other more (other ∷ omitted) (Some other) ≡ Some (destination more (Some caller) other))
        → rest (bytes_eq other caller || is_among omitted caller) ≡ Some (if b then base else destination more (Some caller) other)
    by true p next =
        ap (λ (b : Bool). rest (b || is_among omitted caller)) (turned other caller ∙ p)
        ∙ omitted_stays caller other more (other ∷ omitted) (Some base) (ap (λ (b : Bool). b || is_among omitted caller) p)
    by false p next =
        ap (λ (b : Bool). rest (b || is_among omitted caller)) (turned other caller ∙ p)
        ∙ ap rest e
        ∙ ap (call_sent_down (Some caller) other more (other ∷ omitted)) (base_goes base other)
        ∙ next (ap (λ (b : Bool). b || is_among omitted caller) p ∙ e)

base_calls : (caller : Text) (base : Name) (others : List Name) → call_sent_down caller base others [] (Some base) ≡ Some (destination others caller base)
base_calls None base others = none_calls base others []
base_calls (Some caller) base others = named_calls caller base others [] refl

-- the destination is in the chain
ends_in : (caller : Text) (base : Name) (rs : List Name) → is_in_chain base rs (destination rs caller base) ≡ true
ends_in caller base [] = ap (λ (b : Bool). b || false) (same_name base)
ends_in caller base (r ∷ rs) = by (is_named (λ n. bytes_eq n r) caller) (ends_in caller r rs)
  where
    by : (b : Bool) → is_in_chain r rs (destination rs caller r) ≡ true → is_in_chain base (r ∷ rs) (if b then base else destination rs caller r) ≡ true
    by true e = ap (λ (b : Bool). b || list_any (bytes_eq base) (r ∷ rs)) (same_name base)
    by false e = or_true (bytes_eq (destination rs caller r) base) (is_in_chain r rs (destination rs caller r)) e

-- ---- all chains

module _ (a : List ℕ × List (List ℕ)) where
  -- a name of a chain isn't in a chain that stands apart
  not_in : (b : List ℕ × List (List ℕ)) (n : Name) → IsApart a b → is_in_chain a.0 a.1 n ≡ true → is_in_chain b.0 b.1 n ≡ false
  not_in b n apart e = by (is_in_chain b.0 b.1 n) refl
    where
      by : (x : Bool) → is_in_chain b.0 b.1 n ≡ x → x ≡ false
      by true p = absurd (false≢true (sym (apart n p) ∙ e))
      by false p = refl

  goes_after : (all : Overriding) (caller : Text) (n : Name) → ((j : ℕ) (b : List ℕ × List (List ℕ)) → slice_get all j ≡ Some b → IsApart a b) → is_in_chain a.0 a.1 n ≡ true → call_goes all caller (Some n) ≡ Some n
  goes_after [] caller n apart e = refl
  goes_after (o ∷ more) caller n apart e =
      ap (call_goes more caller) (other_stays caller o.0 o.1 [] n (not_in o n (apart 0 o refl) e))
      ∙ goes_after more caller n (λ j b at. apart (suc j) b at) e

  goes_at : (all : Overriding) (i : ℕ) (caller : Text) → slice_get all i ≡ Some a → StandsApart all i a → call_goes all caller (Some a.0) ≡ Some (destination a.1 caller a.0)
  goes_at [] i caller at apart = absurd (none-some a at)
  goes_at (o ∷ more) zero caller at apart =
      let same : o ≡ a = same_Some o a at in
      ap (λ (x : List ℕ × List (List ℕ)). call_goes more caller (call_sent_down caller x.0 x.1 [] (Some a.0))) same
      ∙ ap (call_goes more caller) (base_calls caller a.0 a.1)
      ∙ goes_after more caller (destination a.1 caller a.0) (λ j b there. apart (suc j) b there (λ q. absurd (omega (arith, q)))) (ends_in caller a.0 a.1)
  goes_at (o ∷ more) (suc i) caller at apart =
      let own : is_in_chain o.0 o.1 a.0 ≡ false = not_in o a.0 (apart 0 o refl (λ q. absurd (omega (arith, q)))) (ap (λ (b : Bool). b || list_any (bytes_eq a.0) a.1) (same_name a.0)) in
      ap (call_goes more caller) (other_stays caller o.0 o.1 [] a.0 own)
      ∙ goes_at more i caller at (λ j b there other. apart (suc j) b there (λ q. other (omega (arith, q))))

pub calls_law : CallsLaw
calls_law all i a caller at apart = goes_at a all i caller at apart
