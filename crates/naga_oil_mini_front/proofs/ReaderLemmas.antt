-- A text's lines, one by one.
use Rattle.std.proofs.Common.{◌≡◌, ℕ, ◌<◌, ◌+◌, ◌-◌, List, ◌∷◌, ◌++◌, length, map, Option, Some, None, Result, Ok, Err, ap, sym, ◌∙◌, [], ◌≢◌, refl, Bor, bytes_eq, codes, false}
use Rattle.naga_oil_ir.specs.ModuleValue.{ModuleValue, FunctionValue, function_value}
use Rattle.naga_oil_ir.specs.declared.module.Function.{Function}
use Rattle.naga_oil_ir.specs.Backend.{FaultValue}
use Rattle.naga_oil_ir.specs.declared.backend.BackendRefusal.TheVariants.{Memory}
use Rattle.naga_oil_ir.specs.declared.span.Span.{Span}
use Rattle.naga_oil_mini_front.specs.Making.{Inside}
use Rattle.naga_oil_mini_front.specs.Reader.{with_line, with_lines, span_at, placed_lines, first_line, fault_at, read_parameters, parameters_from, with_symbols, function_of, name_of}
use Rattle.naga_oil_mini_front.proofs.LineLemmas.{first_begins}
use Rattle.naga_oil_mini_symbols.specs.Refused.{LineFault, not_understood, Refuses, Faults, ◌>>◌}
use Rattle.naga_oil_mini_symbols.specs.Symbols.{line_of}
use Rattle.naga_oil_mini_symbols.specs.declared.symbol.Refusal.{Refusal}
use Rattle.naga_oil_mini_symbols.specs.declared.symbol.Refusal.TheVariants.{NotUnderstood, Unknown, Memory}
use Rattle.naga_oil_mini_symbols.specs.declared.symbol.Symbol.{Symbol as SymbolOfCode}
use Rattle.naga_oil_mini_symbols.specs.declared.symbol.Symbol.TheVariants as code

-- the lines after a line, by the module of that line
onward : Span → List (ℕ × List ℕ) → Result ModuleValue LineFault → Result ModuleValue FaultValue
onward at ls (Ok n) = with_lines ls n
onward at ls (Err f) = Err (fault_at at f)

with_lines_first : (at : ℕ) (l : List ℕ) (ls : List (ℕ × List ℕ)) (m : ModuleValue) (r : Result ModuleValue LineFault) → with_line l (span_at at l) m ≡ r → with_lines ((at, l) ∷ ls) m ≡ onward (span_at at l) ls r
unfolding onward
with_lines_first at l ls m r e =
    ap (λ v. elim v as (λ _. Result ModuleValue FaultValue) [ Ok n ↦ with_lines ls n | Err f ↦ Err (fault_at (span_at at l) f) ]) e ∙ same r
  where
    same : (v : Result ModuleValue LineFault) → (elim v as (λ _. Result ModuleValue FaultValue) [ Ok n ↦ with_lines ls n | Err f ↦ Err (fault_at (span_at at l) f) ]) ≡ onward (span_at at l) ls v
    same (Ok n) = refl
    same (Err f) = refl

pub line_read : (at : ℕ) (w x rest : List ℕ) (m n : ModuleValue) → 0 < length w → (x, rest) ≡ first_line w → with_line x (span_at at x) m ≡ Ok n → with_lines (placed_lines at w) m ≡ with_lines (placed_lines (at + (length w - length rest)) rest) n
unfolding onward
line_read at w x rest m n some first e = ap (λ ls. with_lines ls m) (first_begins at w x rest some first).first ∙ with_lines_first at x _ m (Ok n) e

pub line_refused : (at : ℕ) (w x rest : List ℕ) (m : ModuleValue) (f : LineFault) → 0 < length w → (x, rest) ≡ first_line w → with_line x (span_at at x) m ≡ Err f → with_lines (placed_lines at w) m ≡ Err (fault_at (span_at at x) f)
unfolding onward
line_refused at w x rest m f some first e = ap (λ ls. with_lines ls m) (first_begins at w x rest some first).first ∙ with_lines_first at x _ m (Err f) e

-- a line's fault is that of the text
pub answered : (e : Refusal) (line : Result ModuleValue LineFault) (at : Span) (value : FaultValue) (whole : Result ModuleValue FaultValue) → Refuses e line → Faults e (λ f. value ≡ fault_at at f) → ((f : LineFault) → line ≡ Err f → whole ≡ Err (fault_at at f)) → whole ≡ Err value
answered NotUnderstood line at value whole r f to = to _ r ∙ ap Err (sym f)
answered (Unknown n) line at value whole r f to = to _ r ∙ ap Err (sym f)
answered Memory line at value whole r f to = absurd f

-- ---- parameters
pub same_then : {A B : Type 0} (r : Result (A × B) LineFault) → (r >> λ p. Ok (p.0, p.1)) ≡ r
same_then (Ok p) = refl
same_then (Err e) = refl

pub parameters_unclosed : (ss : List SymbolOfCode) → ((rest : List SymbolOfCode) → ss ≢ code.Closes ∷ rest) → read_parameters (line_of ss) ≡ parameters_from (line_of ss)
parameters_unclosed [] h = refl
parameters_unclosed (code.Name n ∷ ss) h = refl
parameters_unclosed (code.Opens n ∷ ss) h = refl
parameters_unclosed (code.Number n ∷ ss) h = refl
parameters_unclosed (code.Equals ∷ ss) h = refl
parameters_unclosed (code.Plus ∷ ss) h = refl
parameters_unclosed (code.Comma ∷ ss) h = refl
parameters_unclosed (code.Closes ∷ ss) h = absurd (h ss refl)

-- symbols that go on neither with `NAME ,` nor with `NAME )`
pub parameters_unfinished : (ss : List SymbolOfCode) → ((n : Bor (List ℕ)) (rest : List SymbolOfCode) → ss ≢ code.Name n ∷ code.Comma ∷ rest) → ((n : Bor (List ℕ)) (rest : List SymbolOfCode) → ss ≢ code.Name n ∷ code.Closes ∷ rest)
    → parameters_from (line_of ss) ≡ Err not_understood
parameters_unfinished [] more last = refl
parameters_unfinished (code.Name n ∷ []) more last = refl
parameters_unfinished (code.Name n ∷ code.Name k ∷ ss) more last = refl
parameters_unfinished (code.Name n ∷ code.Opens k ∷ ss) more last = refl
parameters_unfinished (code.Name n ∷ code.Number k ∷ ss) more last = refl
parameters_unfinished (code.Name n ∷ code.Equals ∷ ss) more last = refl
parameters_unfinished (code.Name n ∷ code.Plus ∷ ss) more last = refl
parameters_unfinished (code.Name n ∷ code.Comma ∷ ss) more last = absurd (more n ss refl)
parameters_unfinished (code.Name n ∷ code.Closes ∷ ss) more last = absurd (last n ss refl)
parameters_unfinished (code.Opens n ∷ ss) more last = refl
parameters_unfinished (code.Number n ∷ ss) more last = refl
parameters_unfinished (code.Equals ∷ ss) more last = refl
parameters_unfinished (code.Plus ∷ ss) more last = refl
parameters_unfinished (code.Comma ∷ ss) more last = refl
parameters_unfinished (code.Closes ∷ ss) more last = refl

-- ---- items
-- a line that no keyword begins
pub symbols_other : (ss : List SymbolOfCode) (at : Span) (m : ModuleValue) → ((k : Bor (List ℕ)) (rest : List SymbolOfCode) → ss ≡ code.Name k ∷ rest → (bytes_eq k.now (codes "const") ≡ false) × (bytes_eq k.now (codes "var") ≡ false) × (bytes_eq k.now (codes "fn") ≡ false) × (bytes_eq k.now (codes "entry") ≡ false))
    → with_symbols at m (line_of ss) ≡ Err not_understood
symbols_other [] at m h = refl
symbols_other (code.Name k ∷ ss) at m h = let p = h k ss refl in rw (p.0, p.1, p.2, p.3) refl
symbols_other (code.Opens n ∷ ss) at m h = refl
symbols_other (code.Number n ∷ ss) at m h = refl
symbols_other (code.Equals ∷ ss) at m h = refl
symbols_other (code.Plus ∷ ss) at m h = refl
symbols_other (code.Comma ∷ ss) at m h = refl
symbols_other (code.Closes ∷ ss) at m h = refl

-- ---- functions
name_in : Result FunctionValue LineFault → Option (List ℕ)
name_in (Ok f) = f.name
name_in (Err e) = None

-- a function that was made has its name
pub function_named : (n : List ℕ) (ps : List (List ℕ)) (b : Result Inside LineFault) (f : FunctionValue) → (b >> λ r. Ok (function_of n ps r)) ≡ Ok f → f.name ≡ Some n
unfolding name_in
function_named n ps (Ok b) f e = ap name_in (sym e)
function_named n ps (Err x) f e = let no : Err x ≡ Ok f = e in cc

-- the names of functions as the code has them
abbrev names_of : List (Function × Span) → List (List ℕ)
names_of fs = map {A = FunctionValue × Span} {B = List ℕ} (λ e. name_of e.0.name) (map {A = Function × Span} {B = FunctionValue × Span} (λ e. (function_value e.0, e.1)) fs)

names_one_more : (fs : List (Function × Span)) (f : Function) (at : Span) → names_of (fs ++ (f, at) ∷ []) ≡ names_of fs ++ name_of (function_value f).name ∷ []
names_one_more [] f at = refl
names_one_more (g ∷ fs) f at = ap (λ ns. name_of (function_value g.0).name ∷ ns) (names_one_more fs f at)

-- the names once a function more is last
pub names_with_function : (fs gs : List (Function × Span)) (f : Function) (at : Span) (n : List ℕ) (ns ms : List (List ℕ))
    → ns ≡ names_of fs → ms ≡ ns ++ n ∷ [] → gs ≡ fs ++ (f, at) ∷ [] → (function_value f).name ≡ Some n → ms ≡ names_of gs
names_with_function fs gs f at n ns ms known pushed appended named =
    pushed ∙ ap (λ l. l ++ n ∷ []) known ∙ ap (λ t. names_of fs ++ name_of t ∷ []) (sym named) ∙ sym (names_one_more fs f at) ∙ ap names_of (sym appended)
