-- The errors of sources and of names, by the first with an error.
use Rattle.std.proofs.Common.{ℕ, zero, suc, ◌<◌, List, [], ◌∷◌, length, get_or, arith}
use mathlib.Core.Logic.{inl, inr}
use Rattle.yettuvam_c.specs.Built.{HasNoName, HasNoText, IsNoName, RefusesName, RefusesNames, RefusesSources, RefusesTask}
use Rattle.yettuvam_c.specs.Given.{IsNotText, RefusesGiven, RefusesSource}
use Rattle.yettuvam_c.specs.declared.given.Refusal.{Refusal}
use Rattle.yettuvam_c.specs.declared.given.Refusal.TheVariants.{Memory, NotUtf8, BadDefinition}
use Rattle.yettuvam_c.specs.declared.page.Name.{Name}
use Rattle.yettuvam_c.specs.declared.page.Source.{Source}
use Rattle.yettuvam_c.specs.declared.page.Task.{Task}

no_text_at : (ss : List Source) (i : ℕ) (s : Source) → i < length ss → IsNotText (get_or ss i s) → HasNoText ss
no_text_at [] i s h other = absurd (omega (arith, h))
no_text_at (x ∷ ss) zero s h other = inl other
no_text_at (x ∷ ss) (suc i) s h other = inr (no_text_at ss i s (omega (arith, h)) other)

-- the error of one of the sources is the error of all
pub sources_refused_at : (ss : List Source) (i : ℕ) (s : Source) (e : Refusal) → i < length ss → RefusesSource (get_or ss i s) e → RefusesSources ss e
sources_refused_at ss i s Memory h why = why
sources_refused_at ss i s NotUtf8 h why = no_text_at ss i s h why
sources_refused_at ss i s (BadDefinition k) h why = absurd why

no_name_at : (ns : List Name) (i : ℕ) (n : Name) → i < length ns → IsNoName (get_or ns i n) → HasNoName ns
no_name_at [] i n h other = absurd (omega (arith, h))
no_name_at (x ∷ ns) zero n h other = inl other
no_name_at (x ∷ ns) (suc i) n h other = inr (no_name_at ns i n (omega (arith, h)) other)

-- the error of one of the names is the error of all
pub names_refused_at : (ns : List Name) (i : ℕ) (n : Name) (e : Refusal) → i < length ns → RefusesName (get_or ns i n) e → RefusesNames ns e
names_refused_at ns i n Memory h why = absurd why
names_refused_at ns i n NotUtf8 h why = no_name_at ns i n h why
names_refused_at ns i n (BadDefinition k) h why = absurd why

-- ---- a task

pub given_refused_task : (t : Task) (e : Refusal) → RefusesGiven t.definitions.now e → RefusesTask t e
given_refused_task t Memory why = why
given_refused_task t NotUtf8 why = inl why
given_refused_task t (BadDefinition k) why = why

pub shader_refused_task : (t : Task) (e : Refusal) → RefusesSource t.shader e → RefusesTask t e
shader_refused_task t Memory why = why
shader_refused_task t NotUtf8 why = inr (inl why)
shader_refused_task t (BadDefinition k) why = absurd why

pub modules_refused_task : (t : Task) (e : Refusal) → RefusesSources t.modules.now e → RefusesTask t e
modules_refused_task t Memory why = why
modules_refused_task t NotUtf8 why = inr (inr (inl why))
modules_refused_task t (BadDefinition k) why = absurd why

pub imports_refused_task : (t : Task) (e : Refusal) → RefusesNames t.imports.now e → RefusesTask t e
imports_refused_task t Memory why = why
imports_refused_task t NotUtf8 why = inr (inr (inr why))
imports_refused_task t (BadDefinition k) why = absurd why
