-- Directives are removed from a text line by line.
use Rattle.std.proofs.Common.{◌≡◌, ℕ, ◌+◌, ◌<◌, ◌==◌, if◌then◌else◌, Bool, true, false, List, [], ◌∷◌, ◌++◌, length, flat_map, refl, sym, ap, ◌∙◌, append_assoc, append-nil, ⊎_elim, Result, Ok, Err, Some, None, MatchOption, arith, length-append, length-drop}
use borrow.Author.Tests.{ne_eqb}
use Rattle.std.specs.List.{join_with_byte}
use Rattle.std.specs.Char.{encode_utf8}
use Rattle.std.specs.Str.{trim}
use Rattle.std.specs.Str.Lines.{IsFirstLine, lines}
use Rattle.std.proofs.lemmas.Bool.{cases_lt}
use Rattle.std.proofs.lemmas.List.{nil_from_length}
use Rattle.std.proofs.lemmas.Str.{length-encode, len_utf8_bounds}
use Rattle.naga_oil_lines.specs.Directives.{Directives, no_directives}
use Rattle.naga_oil_lines.proofs.LineLemmas.{lines_first}
use Rattle.naga_oil_conditions.specs.declared.fault.ComposerErrorInner.{ComposerErrorInner}
use Rattle.naga_oil_conditions.specs.Fault.{Fault}
use Rattle.naga_oil_conditions.specs.View.{Fails, fault_of}
use Rattle.naga_oil_pre.specs.DirectiveLines.{Directive, enabling, requiring, treating, wrong, passing, ending, directive_of}
use Rattle.naga_oil_pre.specs.Extracted.{Extracted, kept, found, goes_on, ◌and◌, onto, taken_out, join_lines, extracted}

-- further lines, each after a line end
abbrev pub followed : List (List ℕ) → List ℕ
followed ls = flat_map (λ line. 10 ∷ line) ls

-- the line end before a line with this number
abbrev pub apart : ℕ → List ℕ
apart index = if index == 0 then [] else 10 ∷ []

-- lines from this number on, after those before them
abbrev pub glued : ℕ → List (List ℕ) → List ℕ
glued index ls = if index == 0 then join_with_byte 10 ls else followed ls

pub followed_more : (w x rest out next : List ℕ) → 0 < length w → IsFirstLine w x rest → next ≡ (out ++ 10 ∷ []) ++ x → next ++ followed (lines rest) ≡ out ++ followed (lines w)
followed_more w x rest out next some first e =
    ap (λ v. v ++ followed (lines rest)) e ∙ append_assoc (out ++ 10 ∷ []) x (followed (lines rest)) ∙ append_assoc out (10 ∷ []) (x ++ followed (lines rest)) ∙ ap (λ v. out ++ followed v) (sym (lines_first w x rest some first))

joined_first : (line : List ℕ) (more : List (List ℕ)) → join_with_byte 10 (line ∷ more) ≡ line ++ followed more
joined_first line [] = sym (append-nil line)
joined_first line (next ∷ more) = ap (λ v. line ++ 10 ∷ v) (joined_first next more)

glued_first : (index : ℕ) (line : List ℕ) (more : List (List ℕ)) → glued index (line ∷ more) ≡ apart index ++ (line ++ followed more)
glued_first index line more =
    elim (index == 0) as (λ b. (if b then join_with_byte 10 (line ∷ more) else followed (line ∷ more)) ≡ (if b then [] else 10 ∷ []) ++ (line ++ followed more)) [ true ↦ joined_first line more | false ↦ refl ]

glued_none : (index : ℕ) → glued index [] ≡ []
glued_none index = elim (index == 0) as (λ b. (if b then join_with_byte 10 [] else followed []) ≡ []) [ true ↦ refl | false ↦ refl ]

glued_on : (index : ℕ) (more : List (List ℕ)) → glued (index + 1) more ≡ followed more
glued_on index more = ap (λ b. if b then join_with_byte 10 more else followed more) (ne_eqb (index + 1) 0 (λ z. omega (arith, z)))

-- the result for a text whose lines before this number have become text and own
abbrev pub following : (text : List ℕ) (own : Directives) (index : ℕ) → Result Extracted Fault → Result (List ℕ × Directives) Fault
following text own index (Ok e) = Ok (text ++ glued index e.lines, own and e.directives)
following text own index (Err f) = Err f

and_assoc : (a b c : Directives) → (a and b) and c ≡ a and (b and c)
and_assoc a b c = λ i. record {
  enables = append_assoc a.enables b.enables c.enables i;
  requires = append_assoc a.requires b.requires c.requires i;
  diagnostics = append_assoc a.diagnostics b.diagnostics c.diagnostics i;
}

and_none : (a : Directives) → a and no_directives ≡ a
and_none a = λ i. record { enables = append-nil a.enables i; requires = append-nil a.requires i; diagnostics = append-nil a.diagnostics i }

-- ---- before the first line
after_nothing : (t : Result Extracted Fault) → following [] no_directives 0 t ≡ join_lines t
after_nothing (Ok e) = refl
after_nothing (Err f) = refl

pub first_after : (source rest text : List ℕ) (own : Directives) → text ≡ [] → own ≡ no_directives → rest ≡ source → following text own 0 (taken_out 0 (lines rest)) ≡ extracted source
unfolding extracted
first_after source rest text own e1 e2 e3 = (λ i. following (e1 i) (e2 i) 0 (taken_out 0 (lines (e3 i)))) ∙ after_nothing (taken_out 0 (lines source))

-- ---- after the last line
pub last_after : (index : ℕ) (rest text : List ℕ) (own : Directives) (r : Result (List ℕ × Directives) Fault) → length rest ≡ 0 → following text own index (taken_out index (lines rest)) ≡ r → r ≡ Ok (text, own)
unfolding taken_out
last_after index rest text own r none e =
    sym e ∙ ap (λ v. following text own index (taken_out index (lines v))) (nil_from_length rest none) ∙ (λ i. Ok (text ++ glued_none index i, and_none own i)) ∙ ap (λ v. Ok (v, own)) (append-nil text)

-- ---- a line
onto_after : (index : ℕ) (line text next : List ℕ) (before own : Directives) (t : Result Extracted Fault) → next ≡ (text ++ apart index) ++ line → following text before index (onto line own t) ≡ following next (before and own) (index + 1) t
onto_after index line text next before own (Err f) e = refl
onto_after index line text next before own (Ok rest) e =
    let glue : text ++ glued index (line ∷ rest.lines) ≡ next ++ glued (index + 1) rest.lines =
    ap (λ v. text ++ v) (glued_first index line rest.lines) ∙ sym (append_assoc text (apart index) (line ++ followed rest.lines)) ∙ sym (append_assoc (text ++ apart index) line (followed rest.lines))
    ∙ (λ i. sym e i ++ sym (glued_on index rest.lines) i) in
    λ i. Ok (glue i, sym (and_assoc before own rest.directives) i)

is_ending : (index : ℕ) (line : List ℕ) (d : Directive) → goes_on index line d ≡ Ok false → d ≡ ending
is_ending index line (enabling names) e = cc
is_ending index line (requiring names) e = cc
is_ending index line (treating severity rule) e = cc
is_ending index line (wrong reason) e = cc
is_ending index line passing e = cc
is_ending index line ending e = refl

module _ (index : ℕ) (w x rest text : List ℕ) (before : Directives) (r : Result (List ℕ × Directives) Fault) (some : 0 < length w) (first : IsFirstLine w x rest) (e : following text before index (taken_out index (lines w)) ≡ r) where
  line_after : following text before index (taken_out index (x ∷ lines rest)) ≡ r
  line_after = ap (λ v. following text before index (taken_out index v)) (sym (lines_first w x rest some first)) ∙ e

  -- more directives may follow
  pub next_after : (mid next : List ℕ) (own : Directives) → goes_on index (trim x) (directive_of (trim x)) ≡ Ok true → mid ≡ text ++ apart index → next ≡ mid ++ kept x (directive_of (trim x)) → own ≡ before and found index (directive_of (trim x))
      → following next own (index + 1) (taken_out (index + 1) (lines rest)) ≡ r
  unfolding taken_out
  next_after mid next own on e0 e1 e2 =
      ap (λ v. following next v (index + 1) (taken_out (index + 1) (lines rest))) e2
      ∙ sym (onto_after index (kept x (directive_of (trim x))) text next before (found index (directive_of (trim x))) (taken_out (index + 1) (lines rest)) (e1 ∙ ap (λ v. v ++ kept x (directive_of (trim x))) e0))
      ∙ ap (λ (v : Result Bool Fault). following text before index (elim v [
        | Ok true ↦ onto (kept x (directive_of (trim x))) (found index (directive_of (trim x))) (taken_out (index + 1) (lines rest))
        | Ok false ↦ Ok (record { lines = x ∷ lines rest; directives = no_directives })
        | Err f ↦ Err f
      ])) (sym on)
      ∙ line_after

  -- no directive follows
  pub end_after : (mid next all : List ℕ) (own : Directives) → goes_on index (trim x) (directive_of (trim x)) ≡ Ok false → mid ≡ text ++ apart index → next ≡ mid ++ kept x (directive_of (trim x)) → own ≡ before and found index (directive_of (trim x))
      → all ≡ next ++ followed (lines rest) → r ≡ Ok (all, own)
  unfolding taken_out
  end_after mid next all own off e0 e1 e2 e3 =
      let ends : directive_of (trim x) ≡ ending = is_ending index (trim x) (directive_of (trim x)) off in
      let line : next ≡ (text ++ apart index) ++ x = e1 ∙ (λ i. e0 i ++ kept x (ends i)) in
      let none : own ≡ before = e2 ∙ ap (λ d. before and found index d) ends ∙ and_none before in
      let glue : text ++ glued index (x ∷ lines rest) ≡ all =
      ap (λ v. text ++ v) (glued_first index x (lines rest)) ∙ sym (append_assoc text (apart index) (x ++ followed (lines rest))) ∙ sym (append_assoc (text ++ apart index) x (followed (lines rest)))
      ∙ ap (λ v. v ++ followed (lines rest)) (sym line) ∙ sym e3 in
      sym line_after
      ∙ ap (λ (v : Result Bool Fault). following text before index (elim v [
        | Ok true ↦ onto (kept x (directive_of (trim x))) (found index (directive_of (trim x))) (taken_out (index + 1) (lines rest))
        | Ok false ↦ Ok (record { lines = x ∷ lines rest; directives = no_directives })
        | Err f ↦ Err f
      ])) off
      ∙ (λ i. Ok (glue i, (and_none before ∙ sym none) i))

  -- the line is wrong
  pub wrong_after : (f : Fault) → goes_on index (trim x) (directive_of (trim x)) ≡ Err f → r ≡ Err f
  unfolding taken_out
  wrong_after f is =
      sym line_after
      ∙ ap (λ (v : Result Bool Fault). following text before index (elim v [
        | Ok true ↦ onto (kept x (directive_of (trim x))) (found index (directive_of (trim x))) (taken_out (index + 1) (lines rest))
        | Ok false ↦ Ok (record { lines = x ∷ lines rest; directives = no_directives })
        | Err f ↦ Err f
      ])) is

  pub fails_after : (error : ComposerErrorInner) → Fails error (goes_on index (trim x) (directive_of (trim x))) → Fails error r
  fails_after error h =
      elim (fault_of error) as (λ o. MatchOption o (Unit {0}) (λ f. goes_on index (trim x) (directive_of (trim x)) ≡ Err f) → MatchOption o (Unit {0}) (λ f. r ≡ Err f)) [ None ↦ λ _. tt | Some f ↦ wrong_after f ] h

-- fewer bytes are left after a line
pub line_shorter : (w x rest : List ℕ) → 0 < length w → IsFirstLine w x rest → length rest < length w
line_shorter w x rest some h =
    let n : ℕ = h.0 in
    ⊎_elim
    (λ l. let o = h.2 (omega (arith, length-drop n w)) in
    omega (arith, ap length o.2, length-append (encode_utf8 o.0) rest, length-encode o.0, len_utf8_bounds o.0, length-drop n w))
    (λ l. omega (arith, h.3))
    (cases_lt n (length w))
