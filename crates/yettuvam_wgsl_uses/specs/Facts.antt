-- What each expression is to the choice of `let`s.
use Rattle.std.specs.Prelude.{ℕ, ◌==◌, ◌&&◌, ◌||◌, not, Bool, false, List, [], ◌∷◌, ◌++◌, length, slice_get, Option, Some, None, unwrap_or}
use Rattle.naga_oil_ir.specs.Kinds.{binary_kind, load_kind}
use Rattle.naga_oil_ir.specs.Parts.{Parts}
use Rattle.yettuvam_wgsl_counts.specs.Locals.{Expressions}
use Rattle.yettuvam_wgsl_counts.specs.Times.{times_at, is_never, is_more}
use Rattle.yettuvam_wgsl_counts.specs.declared.times.Times.{Times}
use Rattle.yettuvam_wgsl_counts.specs.declared.times.Times.TheVariants.{Never}
use Rattle.yettuvam_wgsl_lines.specs.Line.{LineValue}
use Rattle.yettuvam_wgsl_natures.specs.declared.natures.Nature.{Nature}
use Rattle.yettuvam_wgsl_uses.specs.Texts.{emitted_by}
use Rattle.yettuvam_wgsl_uses.specs.declared.facts.Fact.{Fact}
use Rattle.yettuvam_wgsl_uses.specs.declared.facts.TheConstants.{AND, OR}

abbrev pub number_at : List ℕ → ℕ → ℕ
number_at ns k = unwrap_or (slice_get ns k) 0

-- ---- expressions

abbrev pub plain : Nature
plain = record { is_constant = false; is_place = false; is_timed = false }

abbrev pub nature_at : List Nature → ℕ → Nature
nature_at ns h = unwrap_or (slice_get ns h) plain

abbrev pub is_load : Parts → Bool
is_load p = p.kind == load_kind

abbrev pub is_logical : List ℕ → Bool
is_logical (op ∷ xs) = op == AND || op == OR
is_logical [] = false

-- `&&` and `||` evaluate the right operand only if the left one doesn't decide
abbrev pub is_short : Parts → Bool
is_short p = p.kind == binary_kind && is_logical p.plain

-- what depends on the time of its evaluation, and is no load, must be evaluated where it is emitted
abbrev pub make_fact : List Nature → List Times → ℕ → Parts → Fact
make_fact ns ts h e = record {
  nature = nature_at ns h;
  times = times_at ts h;
  is_firm = (nature_at ns h).is_timed && not (is_load e);
  is_short = is_short e;
}

-- the expressions after others
abbrev pub facts_from : List Nature → List Times → List Fact → Expressions → List Fact
facts_from ns ts fs [] = fs
facts_from ns ts fs (e ∷ es) = facts_from ns ts (fs ++ make_fact ns ts (length fs) e.0 ∷ []) es

-- what each expression of a function is
abbrev pub facts_of : List Nature → List Times → Expressions → List Fact
facts_of ns ts es = facts_from ns ts [] es

abbrev pub no_fact : Fact
no_fact = record { nature = plain; times = Never; is_firm = false; is_short = false }

abbrev pub fact_at : List Fact → ℕ → Fact
fact_at fs h = unwrap_or (slice_get fs h) no_fact

-- ---- what follows for a line, wherever its expression is used

-- an expression without a name may be a `let` if it is neither a constant nor a place
abbrev pub may_be_let : Fact → Bool
may_be_let f = not f.nature.is_constant && not f.nature.is_place

-- an emitted expression is a `let` if it has a name or is used more than once
abbrev pub is_declared : List Fact → LineValue → ℕ → Bool
is_declared fs l h = l.is_named || (may_be_let (fact_at fs h) && is_more (fact_at fs h).times)

abbrev pub unwritten_by : Option ℕ → List Fact → LineValue → Bool
unwritten_by None fs l = false
unwritten_by (Some h) fs l = not l.is_named && is_never (fact_at fs h).times

-- an emitted expression that nothing uses isn't written
abbrev pub is_unwritten : List Fact → LineValue → Bool
is_unwritten fs l = unwritten_by (emitted_by l) fs l

abbrev pub repeated_by : Option ℕ → List Fact → LineValue → Bool
repeated_by None fs l = false
repeated_by (Some h) fs l =
    not l.is_named && (fact_at fs h).nature.is_place && is_more (fact_at fs h).times

-- a place without a name that is used more than once is written more than once
abbrev pub is_repeated : List Fact → LineValue → Bool
is_repeated fs l = repeated_by (emitted_by l) fs l

abbrev pub short_by : Option ℕ → List Fact → Bool
short_by None fs = false
short_by (Some h) fs = (fact_at fs h).is_short

abbrev pub is_short_line : List Fact → LineValue → Bool
is_short_line fs l = short_by (emitted_by l) fs
