-- What Mini reads of a text has the shape of a module.
use Rattle.std.proofs.Common.{◌≡◌, ℕ, List, [], ◌∷◌, length, Some, None, Result, Ok, Err, bytes_eq, codes}
use Rattle.std.specs.Result.{IfOk}
use Rattle.std.proofs.lemmas.Result.{IfOk-at_ok}
use Rattle.naga_oil_ir.specs.Backend.{FaultValue}
use Rattle.naga_oil_ir.specs.ModuleValue.{ModuleValue}
use Rattle.naga_oil_ir.specs.Spans.{undefined}
use Rattle.naga_oil_ir.specs.declared.parts.Named.TheVariants.{Nothing, GlobalAt}
use Rattle.naga_oil_ir.specs.declared.span.Span.{Span}
use Rattle.naga_oil_mini_symbols.specs.Refused.{LineFault, understood}
use Rattle.naga_oil_mini_symbols.specs.Symbols.{Symbol, name, opens, number, equals, symbols}
use Rattle.naga_oil_mini_front.specs.Making.{literal, made, Inside}
use Rattle.naga_oil_mini_front.specs.Reader.{scope, function_of, function, with_function, entry_of, with_entry_point, read_parameters, constant_line, global_line, declared, function_line, entry_line, with_item, with_symbols, is_skipped, lacks_space, with_line, span_at, placed_lines, fault_at, with_lines, parsed, start}
use Rattle.naga_oil_form_laws.specs.Shape.{NamesGlobalAsGlobal, HasFunctionShape}
use Rattle.naga_oil_front_laws.specs.MiniShape.{MiniLaw, MiniFrontLaw}
use Rattle.naga_oil_front_laws.proofs.Bodies.{AreFine, callees, results, alone}
use Rattle.naga_oil_front_laws.proofs.Makings.{then_if, then_any, in_either, fine_made}
use Rattle.naga_oil_front_laws.proofs.Modules.{IsInShape, shape_of, start_shape, constant_shape, global_shape, function_shape, entry_shape}

literal_at : (n : ℕ) → NamesGlobalAsGlobal (literal n)
literal_at n g e = let no : Nothing ≡ GlobalAt g = e in cc

-- ---- functions

function_fits : (n : List ℕ) (ps : List (List ℕ)) (b : Inside) → AreFine b.expressions b.body → HasFunctionShape (function_of n ps b)
function_fits n ps b a = record { callees = callees b.expressions b.body a; results = results b.expressions b.body a; alone = alone b.expressions b.body a }

made_fits : (n : List ℕ) (ps : List (List ℕ)) (xs : List Symbol) (at : Span) (m : ModuleValue) → IfOk (function n ps xs at m) HasFunctionShape
made_fits n ps xs at m = then_if (made (scope m ps) at xs) (λ b. Ok (function_of n ps b)) (λ b. AreFine b.expressions b.body) HasFunctionShape (fine_made (scope m ps) at xs) (function_fits n ps)

declared_fits : (n : List ℕ) (xs : List Symbol) (at : Span) (m : ModuleValue) → IfOk (declared n xs at m) HasFunctionShape
declared_fits n xs at m = then_any (read_parameters xs) _ HasFunctionShape (λ p. made_fits n p.0 p.1 at m)

-- ---- lines

-- what a line makes of a module is in shape
abbrev StaysInShape : Result ModuleValue LineFault → Type 0
StaysInShape r = IfOk r IsInShape

module _ (at : Span) (m : ModuleValue) (s : IsInShape m) where
  constant_kept : (xs : List Symbol) → StaysInShape (constant_line xs at m)
  constant_kept (name n ∷ equals ∷ number v ∷ []) = constant_shape m (literal v) (Some n) 0 (length m.global_expressions) at at (literal_at v) s
  constant_kept _ = tt

  global_kept : (xs : List Symbol) → StaysInShape (global_line xs at m)
  global_kept (name n ∷ equals ∷ number v ∷ []) = global_shape m (literal v) (Some n) (Some 1 ∷ None ∷ []) 0 (length m.global_expressions) at at (literal_at v) s
  global_kept _ = tt

  function_kept : (xs : List Symbol) → StaysInShape (function_line xs at m)
  function_kept (opens n ∷ xs) = then_if (declared n xs at m) (λ f. Ok (with_function f at m)) HasFunctionShape IsInShape (declared_fits n xs at m) (λ f h. function_shape m f at h s)
  function_kept _ = tt

  entry_kept : (xs : List Symbol) → StaysInShape (entry_line xs at m)
  entry_kept (name n ∷ x ∷ xs) = then_if (function n [] (x ∷ xs) at m) (λ f. Ok (with_entry_point (entry_of n f) m)) HasFunctionShape IsInShape (made_fits n [] (x ∷ xs) at m) (λ f h. entry_shape m (entry_of n f) h s)
  entry_kept _ = tt

  item_kept : (k : List ℕ) (xs : List Symbol) → StaysInShape (with_item k xs at m)
  item_kept k xs =
      in_either (bytes_eq k (codes "const")) _ _ StaysInShape (constant_kept xs)
      (in_either (bytes_eq k (codes "var")) _ _ StaysInShape (global_kept xs)
      (in_either (bytes_eq k (codes "fn")) _ _ StaysInShape (function_kept xs)
      (in_either (bytes_eq k (codes "entry")) _ _ StaysInShape (entry_kept xs) tt)))

  symbols_kept : (xs : List Symbol) → StaysInShape (with_symbols at m xs)
  symbols_kept (name k ∷ xs) = item_kept k xs
  symbols_kept _ = tt

  line_kept : (line : List ℕ) → StaysInShape (with_line line at m)
  unfolding with_line
  line_kept line = in_either (is_skipped line) _ _ StaysInShape s (in_either (lacks_space line) _ _ StaysInShape tt (then_any (understood (symbols line)) (with_symbols at m) IsInShape symbols_kept))

-- ---- texts

-- what lines make of a line's value
onward : (ls : List (ℕ × List ℕ)) (at : Span) (r : Result ModuleValue LineFault) → ((n : ModuleValue) → IsInShape n → IfOk (with_lines ls n) IsInShape) → IfOk r IsInShape → IfOk (elim r as (λ _. Result ModuleValue FaultValue) [ Ok n ↦ with_lines ls n | Err f ↦ Err (fault_at at f) ]) IsInShape
onward ls at (Ok n) keep h = keep n h
onward ls at (Err f) keep h = tt

lines_kept : (ls : List (ℕ × List ℕ)) (m : ModuleValue) → IsInShape m → IfOk (with_lines ls m) IsInShape
lines_kept [] m s = s
lines_kept (l ∷ ls) m s = onward ls (span_at l.0 l.1) (with_line l.1 (span_at l.0 l.1) m) (lines_kept ls) (line_kept (span_at l.0 l.1) m s l.1)

text_kept : (text : List ℕ) → IfOk (parsed text) IsInShape
unfolding parsed
text_kept text = lines_kept (placed_lines 0 text) start (start_shape undefined)

pub mini_shape : MiniLaw
mini_shape text m e = shape_of m (IfOk-at_ok IsInShape e (text_kept text))

pub front_shape : MiniFrontLaw
front_shape language text m e = mini_shape text m e
