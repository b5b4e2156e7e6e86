-- Folds that read the last item first.
use Rattle.std.proofs.Common.{◌≡◌, ℕ, Bool, List, [], ◌∷◌, ◌++◌, refl, ap, ◌∙◌}
use Rattle.yettuvam_wgsl_lines.specs.Line.{lines_value, line_value}
use Rattle.yettuvam_wgsl_lines.specs.declared.line.Line.{Line}
use Rattle.yettuvam_wgsl_uses.specs.Choice.{spread, spread_all}
use Rattle.yettuvam_wgsl_uses.specs.Order.{State, take_operand, take_operands}
use Rattle.yettuvam_wgsl_uses.specs.Texts.{raise_line, raise_lines}
use Rattle.yettuvam_wgsl_uses.specs.declared.facts.Fact.{Fact}

raise_snoc : (lets : List Bool) (groups : List ℕ) (more : List Line) (l : Line) (last : List ℕ) → raise_lines lets groups (lines_value (more ++ l ∷ [])) last ≡ raise_lines lets groups (lines_value more) (raise_line lets groups (line_value l) last)
raise_snoc lets groups [] l last = refl
raise_snoc lets groups (x ∷ more) l last = ap (raise_line lets groups (line_value x)) (raise_snoc lets groups more l last)

pub raise_last : (lets : List Bool) (groups : List ℕ) (rest more : List Line) (l : Line) (last : List ℕ) → rest ≡ more ++ l ∷ [] → raise_lines lets groups (lines_value rest) last ≡ raise_lines lets groups (lines_value more) (raise_line lets groups (line_value l) last)
raise_last lets groups rest more l last h =
    ap (λ (ls : List Line). raise_lines lets groups (lines_value ls) last) h ∙ raise_snoc lets groups more l last

spread_snoc : (fs : List Fact) (more : List Line) (l : Line) (early : List Bool) → spread_all fs (lines_value (more ++ l ∷ [])) early ≡ spread_all fs (lines_value more) (spread fs (line_value l) early)
spread_snoc fs [] l early = refl
spread_snoc fs (x ∷ more) l early = ap (spread fs (line_value x)) (spread_snoc fs more l early)

pub spread_last : (fs : List Fact) (rest more : List Line) (l : Line) (early : List Bool) → rest ≡ more ++ l ∷ [] → spread_all fs (lines_value rest) early ≡ spread_all fs (lines_value more) (spread fs (line_value l) early)
spread_last fs rest more l early h =
    ap (λ (ls : List Line). spread_all fs (lines_value ls) early) h ∙ spread_snoc fs more l early

take_snoc : (more : List ℕ) (h : ℕ) (s : State) → take_operands (more ++ h ∷ []) s ≡ take_operands more (take_operand h s)
take_snoc [] h s = refl
take_snoc (x ∷ more) h s = ap (take_operand x) (take_snoc more h s)

pub take_last : (rest more : List ℕ) (h : ℕ) (s : State) → rest ≡ more ++ h ∷ [] → take_operands rest s ≡ take_operands more (take_operand h s)
take_last rest more h s e = ap (λ (hs : List ℕ). take_operands hs s) e ∙ take_snoc more h s
