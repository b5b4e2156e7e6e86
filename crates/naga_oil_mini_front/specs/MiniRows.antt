-- Worked rows: lines that are read, and lines that are written.
use lib.Utf8.{encode}
use Rattle.std.specs.Prelude.{◌≡◌, refl, ℕ, true, Some, None, Option, List, [], ◌∷◌, ◌++◌, map, Result, Ok, Err, codes}
use Rattle.std.specs.Fmt.{digits}
use Rattle.std.specs.Str.{chars, trim_start}
use Rattle.naga_oil_words.specs.Bytes.{carriage_return, newline}
use Rattle.ucd_perl.proofs.Computing.{ucd_perl}
use Rattle.naga_oil_ir.specs.Kinds.{emit_head, return_head}
use Rattle.naga_oil_ir.specs.Backend.{FaultValue}
use Rattle.naga_oil_ir.specs.Body.{Tokens}
use Rattle.naga_oil_ir.specs.ModuleValue.{LocalValue}
use Rattle.naga_oil_ir.specs.Parts.{Parts}
use Rattle.naga_oil_ir.specs.declared.span.Span.{Span}
use Rattle.naga_oil_ir.specs.declared.tokens.Token.TheVariants.{At, Head, Use, Emitted}
use Rattle.naga_oil_ir.specs.Spans.{undefined}
use Rattle.naga_oil_conditions.specs.Values.{read_u32}
use Rattle.naga_oil_mini_writer.specs.BodyReader.{end_of}
use Rattle.naga_oil_mini_symbols.specs.NameTable.{last_place}
use Rattle.naga_oil_mini_writer.specs.Order.{has_order}
use Rattle.naga_oil_mini_front.specs.Making.{Inside, literal, global, local, load, binary}
use Rattle.naga_oil_mini_front.specs.Reader.{is_skipped, with_line, start, with_constant, with_global, with_function, function_of, parsed}
use Rattle.naga_oil_mini_symbols.specs.Refused.{not_understood, unknown, message}
use Rattle.naga_oil_mini_symbols.specs.Symbols.{symbols, name, opens, number, equals, plus, comma, closes}
use Rattle.naga_oil_mini_writer.specs.Writer.{header_text, body_line, function_text, entry_text, items_text, module_text}

-- `unfolding rows_unfold` lets `refl` compute the modules of texts and the texts of modules
unfoldable rows_unfold : Unit {0}
unfolding read_u32 with_line parsed end_of has_order body_line function_text entry_text items_text module_text digits trim_start chars encode ucd_perl
rows_unfold = tt

-- ---- lines
pub symbols_row : symbols (codes "fn  f ( x ,y )=x+ 007") ≡ Some (name (codes "fn") ∷ opens (codes "f") ∷ name (codes "x") ∷ comma ∷ name (codes "y") ∷ closes ∷ equals ∷ name (codes "x") ∷ plus ∷ number 7 ∷ [])
unfolding rows_unfold
symbols_row = refl

pub greatest_number_row : symbols (codes "2147483647") ≡ Some (number 2147483647 ∷ [])
unfolding rows_unfold
greatest_number_row = refl

pub number_too_great : symbols (codes "2147483648") ≡ None
unfolding rows_unfold
number_too_great = refl

pub digit_first : symbols (codes "2x") ≡ None
unfolding rows_unfold
digit_first = refl

pub last_of_equal_names : last_place (codes "x") (codes "x" ∷ codes "y" ∷ codes "x" ∷ codes "z" ∷ []) ≡ Some 2
last_of_equal_names = refl

pub comment_is_skipped : is_skipped (codes "  // x") ≡ true
unfolding rows_unfold
comment_is_skipped = refl

pub constant_row : with_line (codes "const N = 3") undefined start ≡ Ok (with_constant (codes "N") 3 undefined start)
unfolding rows_unfold
constant_row = refl

pub unknown_name : with_line (codes "fn f(x) = x + g(N)") undefined start ≡ Err (unknown (codes "g"))
unfolding rows_unfold
unknown_name = refl

pub no_sum : with_line (codes "fn f(x) = x +") undefined start ≡ Err not_understood
unfolding rows_unfold
no_sum = refl

pub no_keyword : with_line (codes "let x = 1") undefined start ≡ Err not_understood
unfolding rows_unfold
no_keyword = refl

pub global_row : with_line (codes "var G = 3") undefined start ≡ Ok (with_global (codes "G") 3 undefined start)
unfolding rows_unfold
global_row = refl

pub no_space_before_with : with_line (codes "fn f()with V = 1 = V") undefined start ≡ Err not_understood
unfolding rows_unfold
no_space_before_with = refl

pub global_in_initialiser : with_line (codes "fn f() with V = G = V") undefined (with_global (codes "G") 3 undefined start) ≡ Err (unknown (codes "G"))
unfolding rows_unfold
global_in_initialiser = refl

pub stub_with_locals : with_line (codes "fn f() with V = 1") undefined start ≡ Err not_understood
unfolding rows_unfold
stub_with_locals = refl

-- ---- what is written
pub header_row : header_text (codes "f") (codes "x" ∷ codes "y" ∷ []) ≡ codes "fn f(x, y)"
header_row = refl

-- the text of the module of a text, if it has one
abbrev pub rewritten : List ℕ → Result (Option (List ℕ)) FaultValue
rewritten text = elim (parsed text) [ Ok m ↦ Ok (module_text m) | Err f ↦ Err f ]

pub constant_again : rewritten (codes "const N = 007") ≡ Ok (Some (codes "const N = 7" ++ 10 ∷ []))
unfolding rows_unfold
constant_again = refl

pub sum_again : rewritten (codes " fn f(x,y)=x+1") ≡ Ok (Some (codes "fn f(x, y) = x + 1" ++ 10 ∷ []))
unfolding rows_unfold
sum_again = refl

pub stub_and_call_again : rewritten (codes "fn f(x)" ++ 10 ∷ codes "entry main = f(f(1)+2)") ≡ Ok (Some (codes "fn f(x)" ++ 10 ∷ codes "entry main = f(f(1) + 2)" ++ 10 ∷ []))
unfolding rows_unfold
stub_and_call_again = refl

pub second_line_refused : rewritten (codes "fn f(x)" ++ 10 ∷ codes "fn g() = h(1)") ≡ Err (record { message = codes "unknown name h"; spans = (record { start = 8; end = 21 }, []) ∷ []; notes = [] })
unfolding rows_unfold
second_line_refused = refl

-- ---- spans of lines that end in `\r\n`
pub lines_after_returns : parsed (codes "const N = 3" ++ carriage_return ∷ newline ∷ codes "const M = 4" ++ carriage_return ∷ newline ∷ []) ≡ Ok (with_constant (codes "M") 4 (record { start = 13; end = 24 }) (with_constant (codes "N") 3 (record { start = 0; end = 11 }) start))
unfolding rows_unfold
lines_after_returns = refl

pub fault_after_return : rewritten (codes "const N = 3" ++ carriage_return ∷ newline ∷ codes "nonsense") ≡ Err (record { message = message not_understood; spans = (record { start = 13; end = 21 }, []) ∷ []; notes = [] })
unfolding rows_unfold
fault_after_return = refl

-- ---- globals and locals
-- a body's statements
abbrev statement : Tokens → Tokens
statement ts = At undefined ∷ ts

abbrev emit : (from to : ℕ) → Tokens
emit a b = statement (Head emit_head ∷ Emitted (a, b) ∷ [])

abbrev give_back : ℕ → Tokens
give_back h = statement (Head return_head ∷ Use h ∷ [])

abbrev placed : List Parts → List (Parts × Span)
placed es = map (λ e. (e, undefined)) es

-- a local of the one type
abbrev local_of : List ℕ → ℕ → LocalValue × Span
local_of n h = (record { name = Some n; ty = 0; init = Some h }, undefined)

-- the text of a function `f` of `x` after a global `G`
abbrev text_of : Inside → Option (List ℕ)
text_of b = module_text (with_function (function_of (codes "f") (codes "x" ∷ []) b) undefined (with_global (codes "G") 3 undefined start))

abbrev locals_text : Option (List ℕ)
locals_text = Some (codes "var G = 3" ++ 10 ∷ codes "fn f(x) with V = 1 + 2, W = 1 + 2 = G + V + W" ++ 10 ∷ [])

pub locals_again : rewritten (codes "var G = 3" ++ 10 ∷ codes "fn f ( x ) with V=1+2 ,W = 1 + 2=G + V + W") ≡ Ok locals_text
unfolding rows_unfold
locals_again = refl

-- equal initialisers that were merged, by the tokens that emit them
abbrev with_merged : Tokens → Inside
with_merged ts = record {
  locals = local_of (codes "V") 2 ∷ local_of (codes "W") 2 ∷ [];
  expressions = placed (literal 1 ∷ literal 2 ∷ binary 0 1 ∷ global 0 ∷ load 3 ∷ local 0 ∷ load 5 ∷ binary 4 6 ∷ local 1 ∷ load 8 ∷ binary 7 9 ∷ []);
  body = ts ++ emit 4 5 ++ emit 6 7 ++ emit 7 8 ++ emit 9 10 ++ emit 10 11 ++ give_back 10;
}

pub merged_initialisers : text_of (with_merged (emit 3 3 ++ emit 3 3)) ≡ locals_text
unfolding rows_unfold
merged_initialisers = refl

pub merged_initialisers_emitted : text_of (with_merged (emit 2 3 ++ emit 3 3)) ≡ locals_text
unfolding rows_unfold
merged_initialisers_emitted = refl

pub initialiser_without_emit : text_of (with_merged (emit 3 3)) ≡ None
unfolding rows_unfold
initialiser_without_emit = refl

pub initialiser_in_sum : text_of (record { locals = local_of (codes "V") 0 ∷ []; expressions = placed (literal 1 ∷ []); body = give_back 0 }) ≡ None
unfolding rows_unfold
initialiser_in_sum = refl

pub load_without_emit : text_of (record { locals = local_of (codes "V") 0 ∷ []; expressions = placed (literal 1 ∷ local 0 ∷ load 1 ∷ []); body = give_back 2 }) ≡ None
unfolding rows_unfold
load_without_emit = refl
