-- The reader of directives reads exactly what the grammar says.
use Rattle.std.proofs.Common.{◌≡◌, ◌≢◌, ◌⊎◌, inl, inr, ℕ, ◌+◌, ◌==◌, ◌||◌, not, Bool, true, false, cond, Option, Some, None, List, [], ◌∷◌, ◌++◌, length, take, drop, codes, refl, sym, ap, ◌∙◌, subst, arith, length-append, length-drop, append_assoc}
use Rattle.std.specs.Prelude.{◌↔◌}
use borrow.Author.Tests.{eqb-true, ne_eqb}
use Rattle.std.specs.List.{position_or_len, before_first, after_first}
use Rattle.std.specs.Char.{is_whitespace}
use Rattle.std.specs.Str.{byte, chars, trim, trim_start}
use Rattle.std.proofs.Math.Seq.{drop-append_seam}
use Rattle.std.proofs.lemmas.List.{nil_from_length}
use Rattle.std.proofs.lemmas.List.Sums.{prefix_len-le-length}
use Rattle.std.proofs.lemmas.List.Folds.{length-prefix_len}
use Rattle.std.proofs.lemmas.Bool.{and_parts}
use Rattle.naga_oil_words.specs.OptionSteps.{◌>>=◌}
use Rattle.naga_oil_lines.specs.Text.{past_word}
use Rattle.naga_oil_lines.proofs.TextLemmas.{past_word-append, past_word-some}
use Rattle.naga_oil_conditions.specs.LineGrammar.{IsRun}
use Rattle.naga_oil_pre.specs.DirectiveLines.{Directive, enabling, requiring, treating, wrong, passing, ending, cut_at, begins_list, listed, treated, extensions, is_severity, unknown_severity, is_between, named, graded, directive_of}
use Rattle.naga_oil_pre.specs.DirectiveGrammar.{IsUpTo, IsList, HasList, IsNaming, IsNameless, IsDiagnostic, IsNone, IsDirective}
use Rattle.naga_oil_conditions.proofs.RunLemmas.{some_is, bind_some, run-only, run-is}

-- ---- up to a byte
past_first : (before following : List ℕ) (c n : ℕ) (text : List ℕ) → text ≡ before ++ (c ∷ following) → n ≡ length before → drop (n + 1) text ≡ following
past_first before following c n text e size =
    let more : n + 1 ≡ length (before ++ (c ∷ [])) = omega (arith, length-append before (c ∷ [])) in
    (λ i. drop (more i) ((e ∙ sym (append_assoc before (c ∷ []) following)) i)) ∙ drop-append_seam (before ++ (c ∷ [])) following

cut-reads : (c : ℕ) (text before following : List ℕ) → IsUpTo c text before following → cut_at c text ≡ Some (before, following)
unfolding cut_at
cut-reads c text before following h =
    let p = λ (b : ℕ). not (b == c) in
    let u = run-only p text before (c ∷ following) h in
    let size = ap length h.whole in
    let back = ap length u.1 in
    let some : position_or_len (λ b. b == c) text ≢ length text = λ z. omega (arith, z, back, length-drop (position_or_len (λ b. b == c) text) text) in
    let at : position_or_len (λ b. b == c) text ≡ length before = omega (arith, size, length-append before (c ∷ following), back, length-drop (position_or_len (λ b. b == c) text) text) in
    rw (ne_eqb (position_or_len (λ b. b == c) text) (length text) some, sym u.0, past_first before following c (position_or_len (λ b. b == c) text) text h.whole at) refl

cut_from : (c : ℕ) (text before rest a b : List ℕ) (n : ℕ) → IsRun (λ b. not (b == c)) text before rest → length rest ≢ 0 → n ≡ length before → a ≡ before → b ≡ drop (n + 1) text → IsUpTo c text a b
cut_from c text before [] a b n h some size p q = absurd (some refl)
cut_from c text before (d ∷ rest) a b n h some size p q =
    let same : d ≡ c = eqb-true d c (elim (d == c) as (λ t. not t ≡ false → t ≡ true) [ true ↦ λ e. refl | false ↦ λ e. cc ] h.stops) in
    let rest_is : b ≡ rest = q ∙ past_first before rest d n text h.whole size in
    subst (λ x. IsRun (λ y. not (y == c)) text x (c ∷ b)) (sym p) (subst (IsRun (λ y. not (y == c)) text before) (λ i. same i ∷ sym rest_is i) h)

cut-is : (c : ℕ) (text a b : List ℕ) → cut_at c text ≡ Some (a, b) → IsUpTo c text a b
unfolding cut_at
cut-is c text a b h =
    let n = position_or_len (λ b. b == c) text in
    let found : Option (List ℕ × List ℕ) = Some (before_first (λ b. b == c) text, after_first (λ b. b == c) text) in
    elim (n == length text) as (λ t. (n == length text) ≡ t → cond t None found ≡ Some (a, b) → IsUpTo c text a b) [
      | true ↦ λ t q. cc
      | false ↦ λ t q.
          let both : (let x : List ℕ × List ℕ = (before_first (λ b. b == c) text, after_first (λ b. b == c) text) in x ≡ (a, b)) = some_is _ _ q in
          let le = prefix_len-le-length (λ b. not (b == c)) text in
          let some : length (drop n text) ≢ 0 = λ z. grind (arith, t, z, le, length-drop n text) in
          cut_from c text (take n text) (drop n text) a b n (run-is (λ b. not (b == c)) text) some (sym (length-prefix_len (λ b. not (b == c)) text)) (sym (ap (λ x. x.0) both)) (sym (ap (λ x. x.1) both))
    ] refl h

-- ---- lists
list_reads : (text : List ℕ) → IsList text → begins_list (chars text) ≡ true
list_reads text h =
    let some : length (h.next ∷ h.more) ≢ 0 = λ z. omega (arith, z) in
    rw (h.spelled, h.gap, ne_eqb (length (h.next ∷ h.more)) 0 some) refl

list_of : (text cs : List ℕ) → chars text ≡ cs → begins_list cs ≡ true → IsList text
list_of text [] e h = cc
list_of text (c ∷ []) e h = let t = (and_parts (is_whitespace c) false h).1 in cc
list_of text (c ∷ d ∷ more) e h = record { white = c; next = d; more = more; spelled = e; gap = (and_parts (is_whitespace c) (not (length (d ∷ more) == 0)) h).0 }

listed_by : (word line rest list more : List ℕ) → past_word word line ≡ Some rest → cut_at (byte ";") rest ≡ Some (list, more) → begins_list (chars list) ≡ true → listed word line ≡ Some list
unfolding listed
listed_by word line rest list more p q r = rw (p, q, r) refl

listed-reads : (word line list : List ℕ) → HasList word line list → listed word line ≡ Some list
listed-reads word line list h =
    listed_by word line h.following list h.rest (ap (past_word word) h.start ∙ past_word-append word h.following) (cut-reads (byte ";") h.following list h.rest h.end) (list_reads list h.is)

listed-is : (word line list : List ℕ) → listed word line ≡ Some list → HasList word line list
unfolding listed
listed-is word line list h =
    let last = λ (found : List ℕ × List ℕ). (let x : Option (List ℕ) = cond (begins_list (chars found.0)) (Some found.0) None in x) in
    let b = bind_some (past_word word line) (λ rest. cut_at (byte ";") rest >>= last) list h in
    let d = bind_some (cut_at (byte ";") b.0) last list b.2 in
    tested b.0 d.0.0 d.0.1 b.1 d.1 (begins_list (chars d.0.0)) refl d.2
  where
    tested : (rest found more : List ℕ) → past_word word line ≡ Some rest → cut_at (byte ";") rest ≡ Some (found, more) → (t : Bool) → begins_list (chars found) ≡ t → cond t (Some found) None ≡ Some list → HasList word line list
    tested rest found more p q false e h = cc
    tested rest found more p q true e h =
        let same = some_is _ _ h in
        record {
          following = rest;
          rest = more;
          start = past_word-some word line rest p;
          end = subst (λ x. IsUpTo (byte ";") rest x more) same (cut-is (byte ";") rest found more q);
          is = subst IsList same (list_of found (chars found) refl e);
        }

-- ---- diagnostics
no_length : (xs : List ℕ) → (xs ≡ [] → ⊥) → (length xs == 0) ≡ false
no_length xs some = ne_eqb (length xs) 0 (λ z. some (nil_from_length xs z))

treated_by : (line following inside first more second end rest : List ℕ) → past_word (codes "diagnostic") line ≡ Some following → past_word (codes "(") (trim_start following) ≡ Some inside → cut_at (byte ",") inside ≡ Some (first, more)
    → cut_at (byte ")") more ≡ Some (second, end) → past_word (codes ";") (trim_start end) ≡ Some rest → (length first == 0) ≡ false → (length second == 0) ≡ false → treated line ≡ Some (trim first, trim second)
unfolding treated
treated_by line following inside first more second end rest p q r s t u v = rw (p, q, r, s, t, u, v) refl

diagnostic-reads : (severity rule line : List ℕ) → IsDiagnostic severity rule line → treated line ≡ Some (severity, rule)
diagnostic-reads severity rule line h =
    treated_by line h.following h.inside h.first h.more h.second h.end h.rest (ap (past_word (codes "diagnostic")) h.word ∙ past_word-append (codes "diagnostic") h.following)
    (ap (past_word (codes "(")) h.opens ∙ past_word-append (codes "(") h.inside) (cut-reads (byte ",") h.inside h.first h.more h.comma) (cut-reads (byte ")") h.more h.second h.end h.bracket)
    (ap (past_word (codes ";")) h.closes ∙ past_word-append (codes ";") h.rest) (no_length h.first h.some_severity) (no_length h.second h.some_rule)
    ∙ (λ i. Some (sym h.severity_is i, sym h.rule_is i))

diagnostic-is : (severity rule line : List ℕ) → treated line ≡ Some (severity, rule) → IsDiagnostic severity rule line
unfolding treated
diagnostic-is severity rule line h =
    let last = λ (s r : List ℕ × List ℕ) (end : List ℕ). (let x : Option (List ℕ × List ℕ) = cond (length s.0 == 0 || (length r.0 == 0)) None (Some (trim s.0, trim r.0)) in x) in
    let a = bind_some (past_word (codes "diagnostic") line) (λ following. past_word (codes "(") (trim_start following) >>= (λ inside. cut_at (byte ",") inside >>= (λ s. cut_at (byte ")") s.1 >>= (λ r. past_word (codes ";") (trim_start r.1) >>= last s r)))) (severity, rule) h in
    let b = bind_some (past_word (codes "(") (trim_start a.0)) (λ inside. cut_at (byte ",") inside >>= (λ s. cut_at (byte ")") s.1 >>= (λ r. past_word (codes ";") (trim_start r.1) >>= last s r))) (severity, rule) a.2 in
    let d = bind_some (cut_at (byte ",") b.0) (λ s. cut_at (byte ")") s.1 >>= (λ r. past_word (codes ";") (trim_start r.1) >>= last s r)) (severity, rule) b.2 in
    let e = bind_some (cut_at (byte ")") d.0.1) (λ r. past_word (codes ";") (trim_start r.1) >>= last d.0 r) (severity, rule) d.2 in
    let f = bind_some (past_word (codes ";") (trim_start e.0.1)) (last d.0 e.0) (severity, rule) e.2 in
    tested a.0 b.0 d.0.0 d.0.1 e.0.0 e.0.1 f.0 a.1 b.1 d.1 e.1 f.1 (length d.0.0 == 0) (length e.0.0 == 0) refl refl f.2
  where
    tested : (following inside first more second end rest : List ℕ) → past_word (codes "diagnostic") line ≡ Some following → past_word (codes "(") (trim_start following) ≡ Some inside → cut_at (byte ",") inside ≡ Some (first, more)
        → cut_at (byte ")") more ≡ Some (second, end) → past_word (codes ";") (trim_start end) ≡ Some rest → (t u : Bool) → (length first == 0) ≡ t → (length second == 0) ≡ u
        → (let x : Option (List ℕ × List ℕ) = cond (t || u) None (Some (trim first, trim second)) in x ≡ Some (severity, rule)) → IsDiagnostic severity rule line
    tested following inside first more second end rest p q r s v true u e f h = cc
    tested following inside first more second end rest p q r s v false true e f h = cc
    tested following inside first more second end rest p q r s v false false e f h =
        let both : (let x : List ℕ × List ℕ = (trim first, trim second) in x ≡ (severity, rule)) = some_is _ _ h in
        record {
          following = following;
          inside = inside;
          first = first;
          more = more;
          second = second;
          end = end;
          rest = rest;
          word = past_word-some (codes "diagnostic") line following p;
          opens = past_word-some (codes "(") (trim_start following) inside q;
          comma = cut-is (byte ",") inside first more r;
          bracket = cut-is (byte ")") more second end s;
          closes = past_word-some (codes ";") (trim_start end) rest v;
          some_severity = λ z. let t : true ≡ false = sym (ap (λ l. length l == 0) z) ∙ e in cc;
          some_rule = λ z. let t : true ≡ false = sym (ap (λ l. length l == 0) z) ∙ f in cc;
          severity_is = sym (ap (λ x. x.0) both);
          rule_is = sym (ap (λ x. x.1) both);
        }

-- ---- at most one of them
none_without : {A : Type 0} (o : Option A) → ((x : A) → o ≡ Some x → ⊥) → o ≡ None
none_without None h = refl
none_without (Some x) h = absurd (h x refl)

listed_elsewhere : (word line : List ℕ) → past_word word line ≡ None → listed word line ≡ None
unfolding listed
listed_elsewhere word line e = rw e refl

requires_no_enable : (following : List ℕ) → past_word (codes "enable") (codes "requires" ++ following) ≡ None
unfolding past_word
requires_no_enable following = refl

diagnostic_no_enable : (following : List ℕ) → past_word (codes "enable") (codes "diagnostic" ++ following) ≡ None
unfolding past_word
diagnostic_no_enable following = refl

diagnostic_no_requires : (following : List ℕ) → past_word (codes "requires") (codes "diagnostic" ++ following) ≡ None
unfolding past_word
diagnostic_no_requires following = refl

by_enable : (line list : List ℕ) → listed (codes "enable") line ≡ Some list → directive_of line ≡ named enabling (extensions list)
unfolding directive_of listed past_word
by_enable line list e = rw e refl

by_requires : (line list : List ℕ) → listed (codes "enable") line ≡ None → listed (codes "requires") line ≡ Some list → directive_of line ≡ named requiring (extensions list)
unfolding directive_of listed past_word
by_requires line list e f = rw (e, f) refl

by_diagnostic : (line severity rule : List ℕ) → listed (codes "enable") line ≡ None → listed (codes "requires") line ≡ None → treated line ≡ Some (severity, rule) → directive_of line ≡ graded severity rule
unfolding directive_of listed past_word
by_diagnostic line severity rule e f g = rw (e, f, g) refl

by_none : (line : List ℕ) → listed (codes "enable") line ≡ None → listed (codes "requires") line ≡ None → treated line ≡ None → directive_of line ≡ cond (is_between line) passing ending
unfolding directive_of listed past_word
by_none line e f g = rw (e, f, g) refl

enables_read : (line list : List ℕ) → HasList (codes "enable") line list → directive_of line ≡ named enabling (extensions list)
enables_read line list h = by_enable line list (listed-reads (codes "enable") line list h)

requires_read : (line list : List ℕ) → HasList (codes "requires") line list → directive_of line ≡ named requiring (extensions list)
requires_read line list h =
    by_requires line list (listed_elsewhere (codes "enable") line (ap (past_word (codes "enable")) h.start ∙ requires_no_enable h.following)) (listed-reads (codes "requires") line list h)

diagnostic_read : (line severity rule : List ℕ) → IsDiagnostic severity rule line → directive_of line ≡ graded severity rule
diagnostic_read line severity rule h =
    by_diagnostic line severity rule (listed_elsewhere (codes "enable") line (ap (past_word (codes "enable")) h.word ∙ diagnostic_no_enable h.following))
    (listed_elsewhere (codes "requires") line (ap (past_word (codes "requires")) h.word ∙ diagnostic_no_requires h.following)) (diagnostic-reads severity rule line h)

none_read : (line : List ℕ) → IsNone line → directive_of line ≡ cond (is_between line) passing ending
none_read line h =
    by_none line (none_without _ (λ list e. h.enables list (listed-is (codes "enable") line list e))) (none_without _ (λ list e. h.requires list (listed-is (codes "requires") line list e)))
    (none_without _ (λ x e. h.diagnoses x.0 x.1 (diagnostic-is x.0 x.1 line e)))

named_some : (kind : List (List ℕ) → Directive) (names : List (List ℕ)) → (names ≡ [] → ⊥) → named kind names ≡ kind names
named_some kind [] some = absurd (some refl)
named_some kind (name ∷ names) some = refl

only_directive : (d : Directive) (line : List ℕ) → IsDirective d line → d ≡ directive_of line
only_directive (enabling names) line h = sym (enables_read line h.list h.has ∙ ap (named enabling) (sym h.parts) ∙ named_some enabling names h.some)
only_directive (requiring names) line h = sym (requires_read line h.list h.has ∙ ap (named requiring) (sym h.parts) ∙ named_some requiring names h.some)
only_directive (treating severity rule) line h = sym (diagnostic_read line severity rule h.0 ∙ ap (λ b. cond b (treating severity rule) (wrong (unknown_severity severity))) h.1)
only_directive (wrong reason) line (inl h) = nameless h.0.1
  where
    nameless : (HasList (codes "enable") line h.0.0 ⊎ HasList (codes "requires") line h.0.0) → wrong reason ≡ directive_of line
    nameless (inl has) = sym (enables_read line h.0.0 has ∙ ap (named enabling) h.0.2 ∙ ap wrong (sym h.1))
    nameless (inr has) = sym (requires_read line h.0.0 has ∙ ap (named requiring) h.0.2 ∙ ap wrong (sym h.1))
only_directive (wrong reason) line (inr h) =
    sym (diagnostic_read line h.0 h.1.0 h.1.1 ∙ ap (λ b. cond b (treating h.0 h.1.0) (wrong (unknown_severity h.0))) h.1.2 ∙ ap wrong (sym h.2))
only_directive passing line h = sym (none_read line h.0 ∙ ap (λ b. cond b passing ending) h.1)
only_directive ending line h = sym (none_read line h.0 ∙ ap (λ b. cond b passing ending) h.1)

-- ---- at least one of them
naming_is : (word line list : List ℕ) → HasList word line list → (names : List (List ℕ)) → extensions list ≡ names → (kind : List (List ℕ) → Directive) → ((some : List (List ℕ)) → IsNaming word some line → IsDirective (kind some) line) → (IsNameless line → IsDirective (named kind []) line)
    → (extensions list ≡ [] → IsNameless line) → IsDirective (named kind names) line
naming_is word line list has [] e kind make none nameless = none (nameless e)
naming_is word line list has (name ∷ names) e kind make none nameless = make (name ∷ names) (record { list = list; has = has; parts = sym e; some = λ z. cc })

graded_is : (line severity rule : List ℕ) → IsDiagnostic severity rule line → (b : Bool) → is_severity severity ≡ b → IsDirective (cond b (treating severity rule) (wrong (unknown_severity severity))) line
graded_is line severity rule h true e = (h, e)
graded_is line severity rule h false e = inr (severity, (rule, h, e), refl)

between_is : (line : List ℕ) → IsNone line → (b : Bool) → is_between line ≡ b → IsDirective (cond b passing ending) line
between_is line h true e = (h, e)
between_is line h false e = (h, e)

here_directive : (line : List ℕ) → IsDirective (directive_of line) line
here_directive line = by_enables (listed (codes "enable") line) refl
  where
    by_treated : (o : Option (List ℕ × List ℕ)) → treated line ≡ o → listed (codes "enable") line ≡ None → listed (codes "requires") line ≡ None → IsDirective (directive_of line) line
    by_treated (Some found) e none_enabled none_required =
        subst (λ d. IsDirective d line) (sym (by_diagnostic line found.0 found.1 none_enabled none_required e)) (graded_is line found.0 found.1 (diagnostic-is found.0 found.1 line e) (is_severity found.0) refl)
    by_treated None e none_enabled none_required =
        let none : IsNone line = record {
          enables = λ list h. let t = listed-reads (codes "enable") line list h in cc;
          requires = λ list h. let t = listed-reads (codes "requires") line list h in cc;
          diagnoses = λ severity rule h. let t = diagnostic-reads severity rule line h in cc;
        } in
        subst (λ d. IsDirective d line) (sym (by_none line none_enabled none_required e)) (between_is line none (is_between line) refl)

    by_requiring : (o : Option (List ℕ)) → listed (codes "requires") line ≡ o → listed (codes "enable") line ≡ None → IsDirective (directive_of line) line
    by_requiring (Some list) e none_enabled =
        let has = listed-is (codes "requires") line list e in
        subst (λ d. IsDirective d line) (sym (by_requires line list none_enabled e))
        (naming_is (codes "requires") line list has (extensions list) refl requiring (λ names h. h) (λ h. inl (h, refl)) (λ none. (list, inr has, none)))
    by_requiring None e none_enabled = by_treated (treated line) refl none_enabled e

    by_enables : (o : Option (List ℕ)) → listed (codes "enable") line ≡ o → IsDirective (directive_of line) line
    by_enables (Some list) e =
        let has = listed-is (codes "enable") line list e in
        subst (λ d. IsDirective d line) (sym (by_enable line list e))
        (naming_is (codes "enable") line list has (extensions list) refl enabling (λ names h. h) (λ h. inl (h, refl)) (λ none. (list, inl has, none)))
    by_enables None e = by_requiring (listed (codes "requires") line) refl e

pub one_directive : (line : List ℕ) (d : Directive) → IsDirective d line ↔ (d ≡ directive_of line)
one_directive line d = (only_directive d line, λ e. subst (λ x. IsDirective x line) (sym e) (here_directive line))
