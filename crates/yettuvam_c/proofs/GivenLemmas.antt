-- The errors of definitions, by the first with an error.
use Rattle.std.proofs.Common.{◌≡◌, ℕ, zero, suc, ◌+◌, ◌<◌, List, [], ◌∷◌, length, get_or, drop, sym, ap, ◌∙◌, arith, Option, None, Some, Result, Err}
use mathlib.Core.Logic.{inl, inr}
use Rattle.std.specs.Str.{IsUtf8}
use Rattle.std.proofs.lemmas.List.{drop_more}
use Rattle.naga_oil_conditions.specs.Fault.{Definitions}
use Rattle.naga_oil_pre.specs.Metadata.{none_defined, with_definition}
use Rattle.naga_oil_conditions.specs.declared.shader_def.ShaderDefValue.{ShaderDefValue}
use Rattle.yettuvam_c.specs.Given.{given_value, defined_by, HasOther, RefusesOne, RefusesGiven, RefusesSource, Refuses}
use Rattle.yettuvam_c.specs.declared.page.Define.{Define}
use Rattle.yettuvam_c.specs.declared.page.Source.{Source}
use Rattle.yettuvam_c.specs.declared.given.Refusal.{Refusal}
use Rattle.yettuvam_c.specs.declared.given.Refusal.TheVariants.{Memory, NotUtf8, BadDefinition}

other_at : (ds : List Define) (i : ℕ) (d : Define) → i < length ds → (IsUtf8 (get_or ds i d).name.now → ⊥) → HasOther ds
other_at [] i d h other = absurd (omega (arith, h))
other_at (x ∷ ds) zero d h other = inl other
other_at (x ∷ ds) (suc i) d h other = inr (other_at ds i d (omega (arith, h)) other)

-- definitions, by the value of the first
abbrev stop_or : ℕ → Definitions → Define → List Define → Option ShaderDefValue → Result Definitions ℕ
stop_or i defs d more None = Err i
stop_or i defs d more (Some value) = defined_by (i + 1) (with_definition defs d.name.now value) more

-- definitions stop at the first without a value
stops : (i k : ℕ) (defs : Definitions) (d : Define) (more : List Define) → k ≡ i → given_value d.kind d.value ≡ None → defined_by i defs (d ∷ more) ≡ Err k
stops i k defs d more same none = ap (stop_or i defs d more) none ∙ ap Err (sym same)

-- the error of one of the definitions is the error of all
pub refused_at : (ds : List Define) (i : ℕ) (d : Define) (defs : Definitions) (e : Refusal) → i < length ds → defined_by 0 none_defined ds ≡ defined_by i defs (drop i ds) → RefusesOne i (get_or ds i d) e → RefusesGiven ds e
refused_at ds i d defs Memory h so_far why = absurd why
refused_at ds i d defs NotUtf8 h so_far why = other_at ds i d h why
refused_at ds i d defs (BadDefinition k) h so_far why = so_far ∙ ap (defined_by i defs) (drop_more ds i d h) ∙ stops i k defs (get_or ds i d) (drop (i + 1) ds) why.0 why.1

pub source_refused : (s : Source) (ds : List Define) (e : Refusal) → RefusesSource s e → Refuses s ds e
source_refused s ds Memory why = why
source_refused s ds NotUtf8 why = inl why
source_refused s ds (BadDefinition k) why = absurd why

pub given_refused : (s : Source) (ds : List Define) (e : Refusal) → RefusesGiven ds e → Refuses s ds e
given_refused s ds Memory why = why
given_refused s ds NotUtf8 why = inr why
given_refused s ds (BadDefinition k) why = why
