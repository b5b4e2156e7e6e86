-- Outcomes one after the other.
use Rattle.std.proofs.Common.{◌≡◌, ℕ, List, [], ◌∷◌, ◌++◌, map, Some, Ok, Err, Result, refl, ap, sym, ◌∙◌, append_assoc}
use Rattle.naga_oil_ir.specs.declared.span.Span.{Span}
use Rattle.yettuvam_wgsl_pieces.specs.Pieces.{Piece}
use Rattle.yettuvam_wgsl_written.specs.Outcomes.{Outcome, ◌>>=◌, after, Puts}
use Rattle.yettuvam_wgsl_written.specs.Written.{Written}
use Rattle.yettuvam_wgsl_written.specs.declared.refusal.Refusal.{Refusal}
use Rattle.yettuvam_wgsl_written.specs.declared.refusal.Refusal.TheVariants as refusal
use Rattle.yettuvam_wgsl_written_names.specs.Items.{Becomes}
use Rattle.yettuvam_wgsl_write_expressions.specs.Operands.{followed, present, as_value, after_written, value, argument, is_last, arguments_from, arguments_end}

after_both : (a b : List Piece) (o : Outcome) → after (a ++ b) o ≡ after a (after b o)
after_both a b (Ok ps) = ap Ok (append_assoc a b ps)
after_both a b (Err s) = refl

-- what is refused after other pieces is refused
pub refused : (old : List Piece) (o : Outcome) (s : Span) → after old o ≡ Err s → o ≡ Err s
refused old (Ok ps) s e = cc
refused old (Err t) s e = e

-- a call that makes this of what was there appends pieces, or is refused
pub becomes_puts : (o made : Outcome) (old new : List Piece) (r : Result (Unit {0}) Refusal) → made ≡ after old o → Becomes made r new → Puts o r old new
becomes_puts o made old new (Ok u) e h = sym e ∙ h
becomes_puts o made old new (Err (refusal.NotInWgsl s)) e h = refused old o s (sym e ∙ h)
becomes_puts o made old new (Err refusal.Memory) e h = tt

-- arguments after other pieces
pub from_end : (known : List Written) (hs : List ℕ) (span : Span) (s : List Piece) → arguments_from s known hs span ≡ after s (arguments_end known hs span)
unfolding arguments_from arguments_end
from_end known [] span s = refl
from_end known (h ∷ hs) span s = by (argument known h (is_last hs) span) (from_end known hs span)
  where
    by : (o : Outcome) → ((t : List Piece) → arguments_from t known hs span ≡ after t (arguments_end known hs span)) → (after s o >>= (λ t. arguments_from t known hs span)) ≡ after s (followed o (arguments_end known hs span))
    by (Ok ps) more = more (s ++ ps) ∙ after_both s ps (arguments_end known hs span)
    by (Err e) more = refl

-- operands that are all there
pub present_all : (hs : List ℕ) → present (map Some hs) ≡ hs
present_all [] = refl
present_all (h ∷ hs) = ap (λ l. h ∷ l) (present_all hs)

-- pieces that were appended are a value
pub valued : (o : Outcome) (old new : List Piece) → after old o ≡ Ok new → after_written old (as_value o) ≡ Ok (value new)
valued (Ok ps) old new e = let n : new ≡ old ++ ps = cc in ap (λ l. Ok (value l)) (sym n)
valued (Err s) old new e = cc
