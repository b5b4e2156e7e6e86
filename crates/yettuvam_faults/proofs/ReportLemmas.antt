-- Texts that can't be read stay as they are.
use Rattle.std.proofs.Common.{◌≡◌, ℕ, false, List, Option, Some, None, Err, MatchOption, ap, sym, ◌∙◌}
use Rattle.std.specs.Prelude.{is_none}
use Rattle.std.proofs.lemmas.Bool.{false≢true}
use Rattle.naga_oil_conditions.specs.Fault.{Fault}
use Rattle.naga_oil_pre.specs.Extracted.{extracted}
use Rattle.naga_oil_registry.specs.Added.{read_source}
use Rattle.yettuvam_faults.specs.Reports.{cleaned_or, cleaned_source, text_or, without_directives}

pub not_extracted : (text seen : List ℕ) (fault : Option Fault) → seen ≡ text → is_none fault ≡ false → MatchOption fault (Unit {0}) (λ f. extracted seen ≡ Err f) → text ≡ without_directives text
not_extracted text seen None same some h = absurd (false≢true (sym some))
not_extracted text seen (Some f) same some h = sym (ap (text_or text) (ap extracted (sym same) ∙ h))

pub not_read : (counter : ℕ) (source : List ℕ) (fault : Option Fault) → is_none fault ≡ false → MatchOption fault (Unit {0}) (λ f. read_source counter source ≡ Err f) → source ≡ cleaned_source counter source
unfolding cleaned_source
not_read counter source None some h = absurd (false≢true (sym some))
not_read counter source (Some f) some h = sym (ap (cleaned_or source) h)
