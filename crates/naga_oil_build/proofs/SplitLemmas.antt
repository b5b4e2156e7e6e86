-- Decorated names, cut at the last mark.
use Rattle.std.proofs.Common.{◌≡◌, ℕ, zero, suc, ◌+◌, ◌-◌, ◌<◌, ◌≤◌, Bool, true, false, not, eqb, List, [], ◌∷◌, ◌++◌, length, take, drop, Option, Some, None, option_map, Result, Ok, Err, IfOk, refl, sym, ap, ◌∙◌, append_assoc, length-append, arith}
use Rattle.std.specs.Prelude.{codes, ◌==◌, ◌&&◌}
use Rattle.std.proofs.Math.Seq.{drop-append_seam}
use Rattle.std.proofs.lemmas.Bool.{true≢false}
use Rattle.std.proofs.lemmas.List.{take-append-drop}
use Rattle.std.proofs.lemmas.Bool.Decides.{Decides-eqb}
use Rattle.std.proofs.lemmas.Slice.Eq.{ends_is}
use Rattle.std.specs.List.{starts_with, ends_with}
use Rattle.std.specs.Option.{option_or}
use Rattle.std.specs.Str.Pattern.{RFindsText, FindsTextSuffix, LacksTextAt, SplitsAroundMatch, StripsSuffix}
use Rattle.naga_oil_lines.specs.Decorate.{decoded}
use Rattle.naga_oil_words.specs.Marks.{module_mark}
use Rattle.naga_oil_imports.specs.Uses.{Import}
use Rattle.naga_oil_conditions.specs.Fault.{Fault}
use Rattle.naga_oil_conditions.specs.View.{fault_of}
use Rattle.naga_oil_conditions.specs.declared.fault.ComposerErrorInner.{ComposerErrorInner}
use Rattle.naga_oil_link.specs.BuiltModule.{Builds, Overriding}
use Rattle.naga_oil_registry.specs.Keywords.{MarkedFunction}
use Rattle.naga_oil_build.specs.Overriding.{overridden}
use Rattle.naga_oil_build.specs.Virtuals.{AreItemAndCode, around_last, without_end, are_parts, item_and_code, item_and_module, Overrides, marked_override, override_name, override_fault, noted, with_override}
use Rattle.naga_oil_registry.proofs.MarkedLemmas.{begins, begins_not}

module _ (k : ℕ) (ks : List ℕ) where
  no_last : (text : List ℕ) → ((i : ℕ) → i ≤ length text → LacksTextAt (k ∷ ks) text i) → around_last (k ∷ ks) text ≡ None
  unfolding around_last
  no_last [] none = refl
  no_last (b ∷ more) none = rw (no_last more (λ i le. none (suc i) (omega (arith, le))), begins_not (k ∷ ks) (b ∷ more) (none 0 (omega arith))) refl

  last_at : (text : List ℕ) (i : ℕ) (back : List ℕ) → ((j : ℕ) → i < j → j ≤ length text → LacksTextAt (k ∷ ks) text j) → drop i text ≡ k ∷ ks ++ back → around_last (k ∷ ks) text ≡ Some (take i text, back)
  unfolding around_last
  last_at [] zero back none at = absurd cc
  last_at [] (suc i) back none at = absurd cc
  last_at (b ∷ more) zero back none at =
      let here : starts_with eqb (b ∷ more) (k ∷ ks) ≡ true = ap (λ t. starts_with eqb t (k ∷ ks)) at ∙ begins (k ∷ ks) back in
      let following : drop (length (k ∷ ks)) (b ∷ more) ≡ back = ap (drop (length (k ∷ ks))) at ∙ drop-append_seam (k ∷ ks) back in
      rw (no_last more (λ j le. none (suc j) (omega arith) (omega (arith, le))), here) (ap (λ l. Some ([], l)) following)
  last_at (b ∷ more) (suc i) back none at = rw (last_at more i back (λ j lt le. none (suc j) (omega (arith, lt)) (omega (arith, le))) at) refl

-- what a cut at the last mark returns
pub cut_last : (k : ℕ) (ks text front back : List ℕ) → SplitsAroundMatch (RFindsText (k ∷ ks)) text front back → around_last (k ∷ ks) text ≡ Some (front, back)
cut_last k ks text front back cut =
    let f = cut.2 in
    last_at k ks text cut.0 back f.0 (f.1.split ∙ ap (λ l. k ∷ ks ++ l) (sym cut.4)) ∙ ap (λ l. Some (l, back)) (sym cut.3)

pub cut_none : (k : ℕ) (ks text : List ℕ) → RFindsText (k ∷ ks) text None → around_last (k ∷ ks) text ≡ None
cut_none k ks text none = no_last k ks text none

-- an `X` at the end
pub ends_so : (name marked : List ℕ) → StripsSuffix (FindsTextSuffix (codes "X")) name marked → without_end name ≡ Some marked
ends_so name marked h =
    let end = (ends_is Decides-eqb name (codes "X") (ends_with eqb name (codes "X")) refl).1 (take (length name - h.0) name) h.1.1 in
    rw end (ap (λ n. Some (take (length name - n) name)) (sym h.1.0) ∙ ap (λ l. Some l) (sym h.2))

pub ends_not : (name : List ℕ) → FindsTextSuffix (codes "X") name None → without_end name ≡ None
ends_not name none = by (ends_with eqb name (codes "X")) refl
  where
    by : (b : Bool) → ends_with eqb name (codes "X") ≡ b → without_end name ≡ None
    by true e = absurd (none (take (length name - length (codes "X")) name) ((ends_is Decides-eqb name (codes "X") (ends_with eqb name (codes "X")) refl).0 e))
    by false e = rw e refl

-- the item and the code
pub no_end : (name : List ℕ) → without_end name ≡ None → item_and_code name ≡ None
unfolding item_and_code
no_end name e = rw e refl

pub no_mark : (name marked : List ℕ) → without_end name ≡ Some marked → around_last module_mark marked ≡ None → item_and_code name ≡ None
unfolding item_and_code
no_mark name marked e f = rw (e, f) refl

pub no_parts : (name marked item code : List ℕ) → without_end name ≡ Some marked → around_last module_mark marked ≡ Some (item, code) → are_parts item code ≡ false → item_and_code name ≡ None
unfolding item_and_code
no_parts name marked item code e f g = rw (e, f, g) refl

pub has_parts : (name marked item code : List ℕ) → without_end name ≡ Some marked → around_last module_mark marked ≡ Some (item, code) → are_parts item code ≡ true → item_and_code name ≡ Some (item, code)
unfolding item_and_code
has_parts name marked item code e f g = rw (e, f, g) refl

some_length : (xs : List ℕ) → not (length xs == 0) ≡ true → 0 < length xs
some_length [] e = absurd (true≢false (sym e))
some_length (x ∷ xs) e = omega arith

both : (a b : Bool) → (a && b) ≡ true → (a ≡ true) × (b ≡ true)
both true true e = (refl, refl)
both true false e = absurd (true≢false (sym e))
both false b e = absurd (true≢false (sym e))

pub none_empty : (item code : List ℕ) → are_parts item code ≡ true → (0 < length item) × (0 < length code)
none_empty item code e =
    let p = both _ _ e in
    let q = both _ _ p.0 in
    (some_length item q.0, some_length code q.1)

-- ---- functions that override others
pub parts_known : (name item code module_name : List ℕ) → Some (item, code) ≡ item_and_code name → Some module_name ≡ decoded code → item_and_module name ≡ Some (item, code, module_name)
parts_known name item code module_name e f = rw (← e) (rw (← f) refl)

pub read_so : {E : Type 0} (r : Result (Option ComposerErrorInner) E) (value : Option Fault) (P : Option Fault → Type 0) → P value → IfOk r (λ fault. option_map fault_of fault ≡ option_map (λ f. Some f) value)
    → IfOk r (λ fault. (told : Option Fault) × (option_map fault_of fault ≡ option_map (λ f. Some f) told) × P told)
read_so (Ok x) value P p h = (value, h, p)
read_so (Err e) value P p h = tt

pub one_noted : (any : Bool) (builds : Builds) (imports : List Import) (decoration : List ℕ) (edits next : ℕ → Option ℕ) (known more : Overriding) (f : MarkedFunction) (item code module_name : List ℕ) → item_and_module f.name ≡ Some (item, code, module_name)
    → next ≡ marked_override edits f item → more ≡ overridden known f.name (override_name item code decoration) → (before : Option Fault)
    → ◌≡◌ {A = Overrides} (record { edits = next; overriding = more; fault = option_or (override_fault any builds imports module_name item f.place) before }) (with_override any builds imports decoration (record { edits = edits; overriding = known; fault = before }) f)
one_noted any builds imports decoration edits next known more f item code module_name e p q before =
    ap (λ (x : ℕ → Option ℕ). record { edits = x; overriding = more; fault = option_or (override_fault any builds imports module_name item f.place) before }) p
    ∙ ap (λ (x : Overriding). record { edits = marked_override edits f item; overriding = x; fault = option_or (override_fault any builds imports module_name item f.place) before }) q
    ∙ ap (noted any builds imports decoration (record { edits = edits; overriding = known; fault = before }) f) (sym e)

pub or_told : (fault last : Option ComposerErrorInner) (told known : Option Fault) → option_map fault_of fault ≡ option_map (λ f. Some f) told → option_map fault_of last ≡ option_map (λ f. Some f) known
    → option_map fault_of (option_or fault last) ≡ option_map (λ f. Some f) (option_or told known)
or_told None last None known e h = h
or_told None last (Some f) known e h = absurd cc
or_told (Some x) last None known e h = absurd cc
or_told (Some x) last (Some f) known e h = e

-- an item and its code, as a decorated name is cut
pub cut_name : (name marked item code : List ℕ) (end i j : ℕ) → end ≡ length (codes "X") → marked ≡ take (length name - end) name → name ≡ take (length name - end) name ++ codes "X"
    → drop i marked ≡ module_mark ++ drop j marked → item ≡ take i marked → code ≡ drop j marked → name ≡ item ++ (module_mark ++ (code ++ codes "X"))
cut_name name marked item code end i j e m n s f g =
    n ∙ ap (λ l. l ++ codes "X") (sym m ∙ sym (take-append-drop i marked) ∙ ap (λ l. take i marked ++ l) s ∙ ap (λ l. l ++ (module_mark ++ drop j marked)) (sym f) ∙ ap (λ l. item ++ (module_mark ++ l)) (sym g))
    ∙ append_assoc item (module_mark ++ code) (codes "X") ∙ ap (λ l. item ++ l) (append_assoc module_mark code (codes "X"))

-- the length of an item, compared with its decorated name
pub item_within : (name item code : List ℕ) → AreItemAndCode name item code → length item + 17 ≤ length name
item_within name item code h =
    let whole = ap length h.parts ∙ length-append item (module_mark ++ (code ++ codes "X")) ∙ ap (λ n. length item + n) (length-append module_mark (code ++ codes "X") ∙ ap (λ n. 16 + n) (length-append code (codes "X"))) in
    omega (arith, whole, h.coded)
