-- Worked rows: the pieces of directives by grammar, and lines that have other pieces.
use Rattle.std.proofs.Common.{◌≡◌, inl, ℕ, List, [], ◌∷◌, true, false, refl, ap, ◌∙◌, arith}
use lib.Utf8.{encode}
use Rattle.std.specs.Char.{is_whitespace}
use Rattle.std.specs.Prelude.{codes, slice_index}
use Rattle.std.specs.Str.{chars, trim_start, trim_end}
use Rattle.naga_oil_lines.specs.Text.{past_word}
use Rattle.naga_oil_pre.proofs.DirectiveGrammarLemmas.{one_directive}
use Rattle.naga_oil_pre.specs.DirectiveGrammar.{HasList, IsDiagnostic, IsDirective, IsEnabling, IsList, IsNameless, IsNaming, IsNone, IsRequiring, IsTreating, IsUngraded, IsUpTo, IsWrong}
use Rattle.naga_oil_pre.specs.DirectiveLines.{Directive, cut_at, listed, treated, directive_of, enabling, requiring, treating, wrong, passing, ending, unknown_severity}

-- `unfolding directives` lets `refl` compute the kind of a line among directives
unfoldable directives : Unit {0}
unfolding directive_of listed treated cut_at past_word trim_start trim_end chars encode
directives = tt

-- ---- up to a byte

up_to_semicolon : IsUpTo 59 (codes "a;b;c") (codes "a") (codes "b;c")
up_to_semicolon = record { whole = refl; inside = refl; stops = refl }

past_the_first_is_refused : IsUpTo 59 (codes "a;b;c") (codes "a;b") (codes "c") → ⊥
past_the_first_is_refused h = let e : false ≡ true = h.inside in absurd cc

-- ---- lists of names

list : IsList (codes " f16")
unfolding directives
list = record { white = 32; next = 102; more = codes "16"; spelled = refl; gap = refl }

-- the first character of a list
abbrev first_of : List ℕ → ℕ
first_of cs = slice_index cs 0

list_without_white_space_is_refused : IsList (codes "f16") → ⊥
unfolding directives
list_without_white_space_is_refused h = let e : false ≡ true = ap (λ c. is_whitespace c) (ap first_of h.spelled) ∙ h.gap in absurd cc

has_list : HasList (codes "enable") (codes "enable f16;") (codes " f16")
has_list = record { following = codes " f16;"; rest = []; start = refl; end = record { whole = refl; inside = refl; stops = refl }; is = list }

another_word_is_refused : HasList (codes "requires") (codes "enable f16;") (codes " f16") → ⊥
another_word_is_refused h = let e : 101 ≡ 114 = ap first_of h.start in absurd (omega (arith, e))

-- ---- names of extensions

abbrev f16 : List (List ℕ)
f16 = codes "f16" ∷ []

enables : IsEnabling f16 (codes "enable f16;")
unfolding directives
enables = (one_directive (codes "enable f16;") (enabling f16)).1 refl

names : IsNaming (codes "enable") f16 (codes "enable f16;")
names = enables

-- the number of names of a directive that enables
abbrev enabled : Directive → List (List ℕ)
enabled (enabling ns) = ns
enabled (requiring ns) = []
enabled (treating severity rule) = []
enabled (wrong reason) = []
enabled passing = []
enabled ending = []

further_name_is_refused : IsEnabling (codes "f16" ∷ codes "f32" ∷ []) (codes "enable f16;") → ⊥
unfolding directives
further_name_is_refused h = let e : codes "f16" ∷ codes "f32" ∷ [] ≡ f16 = ap enabled ((one_directive (codes "enable f16;") (enabling (codes "f16" ∷ codes "f32" ∷ []))).0 h) in absurd cc

lost_name_is_refused : IsNaming (codes "enable") f16 (codes "enable f16, f32;") → ⊥
unfolding directives
lost_name_is_refused h = let e : f16 ≡ codes "f16" ∷ codes "f32" ∷ [] = ap enabled ((one_directive (codes "enable f16, f32;") (enabling f16)).0 h) in absurd cc

requires_it : IsRequiring f16 (codes "requires f16;")
unfolding directives
requires_it = (one_directive (codes "requires f16;") (requiring f16)).1 refl

enabled_isnt_required : IsRequiring f16 (codes "enable f16;") → ⊥
unfolding directives
enabled_isnt_required h = let e : requiring f16 ≡ enabling f16 = (one_directive (codes "enable f16;") (requiring f16)).0 h in absurd cc

-- two spaces are a list without names
blank : HasList (codes "enable") (codes "enable  ;") (codes "  ")
unfolding directives
blank = record { following = codes "  ;"; rest = []; start = refl; end = record { whole = refl; inside = refl; stops = refl }; is = blanks }
  where
    blanks : IsList (codes "  ")
    blanks = record { white = 32; next = 32; more = []; spelled = refl; gap = refl }

nameless : IsNameless (codes "enable  ;")
unfolding directives
nameless = (codes "  ", inl blank, refl)

named_isnt_nameless : IsNameless (codes "enable f16;") → ⊥
unfolding directives
named_isnt_nameless h = let e : wrong (codes "No extensions specified") ≡ enabling f16 = (one_directive (codes "enable f16;") (wrong (codes "No extensions specified"))).0 (inl (h, refl)) in absurd cc

-- ---- diagnostics

treats : IsTreating (codes "off") (codes "x") (codes "diagnostic(off, x);")
unfolding directives
treats = (one_directive (codes "diagnostic(off, x);") (treating (codes "off") (codes "x"))).1 refl

diagnostic : IsDiagnostic (codes "off") (codes "x") (codes "diagnostic(off, x);")
diagnostic = treats.0

no_diagnostic : (severity rule : List ℕ) → IsDiagnostic severity rule (codes "enable f16;") → ⊥
no_diagnostic severity rule h = let e : 101 ≡ 100 = ap first_of h.word in absurd (omega (arith, e))

unknown_severity_is_refused : (rule : List ℕ) → IsTreating (codes "of") rule (codes "diagnostic(of, x);") → ⊥
unknown_severity_is_refused rule h = let e : false ≡ true = h.1 in absurd cc

ungraded : IsUngraded (codes "of") (codes "diagnostic(of, x);")
unfolding directives
ungraded = (codes "x", diagnosed, refl)
  where
    diagnosed : IsDiagnostic (codes "of") (codes "x") (codes "diagnostic(of, x);")
    diagnosed = record {
      following = codes "(of, x);";
      inside = codes "of, x);";
      first = codes "of";
      more = codes " x);";
      second = codes " x";
      end = codes ";";
      rest = [];
      word = refl;
      opens = refl;
      comma = record { whole = refl; inside = refl; stops = refl };
      bracket = record { whole = refl; inside = refl; stops = refl };
      closes = refl;
      some_severity = λ e. absurd cc;
      some_rule = λ e. absurd cc;
      severity_is = refl;
      rule_is = refl;
    }

known_severity_is_refused : IsUngraded (codes "off") (codes "diagnostic(off, x);") → ⊥
known_severity_is_refused h = let e : true ≡ false = h.2 in absurd cc

-- ---- wrong lines, and lines without a directive

is_wrong : IsWrong (unknown_severity (codes "of")) (codes "diagnostic(of, x);")
unfolding directives
is_wrong = (one_directive (codes "diagnostic(of, x);") (wrong (unknown_severity (codes "of")))).1 refl

right_line_is_refused : (reason : List ℕ) → IsWrong reason (codes "enable f16;") → ⊥
unfolding directives
right_line_is_refused reason h = let e : wrong reason ≡ enabling f16 = (one_directive (codes "enable f16;") (wrong reason)).0 h in absurd cc

no_directive : IsNone (codes "fn f() {}")
unfolding directives
no_directive = (let d : IsDirective ending (codes "fn f() {}") = (one_directive (codes "fn f() {}") ending).1 refl in d).0

directive_is_refused : IsNone (codes "enable f16;") → ⊥
directive_is_refused h = h.enables (codes " f16") has_list
