-- Functions and entry points as pieces.
use Rattle.std.specs.Prelude.{List, [], ◌∷◌, Option, Some, None, Ok, Err}
use Rattle.naga_oil_ir.specs.ModuleValue.{EntryValue, FunctionValue}
use Rattle.naga_oil_ir.specs.Spans.{undefined}
use Rattle.naga_oil_ir.specs.declared.span.Span.{Span}
use Rattle.yettuvam_wgsl_names.specs.Table.{Name}
use Rattle.yettuvam_wgsl_pieces.specs.Pieces.{Piece}
use Rattle.yettuvam_wgsl_write_bodies.specs.Bodies.{body}
use Rattle.yettuvam_wgsl_write_expressions.specs.Context.{Context}
use Rattle.yettuvam_wgsl_write_items.specs.Signatures.{Entry, Head, put_entry_head, put_head}
use Rattle.yettuvam_wgsl_write_items.specs.Text.{Inputs}
use Rattle.yettuvam_wgsl_written.specs.Outcomes.{Outcome, ◌>>=◌, after}
use Rattle.yettuvam_wgsl_write.specs.Plans.{Plan}

abbrev pub first_name : List (Option Name) → Option Name
first_name (n ∷ ns) = n
first_name [] = None

abbrev pub after_first : List (Option Name) → List (Option Name)
after_first (n ∷ ns) = ns
after_first [] = []

abbrev pub head_of : Name → Plan → FunctionValue → Head
head_of name p f = record { name = name; names = p.names.arguments; arguments = f.arguments; result = f.result }

abbrev pub body_of : Context → Plan → FunctionValue → Outcome
body_of c p f = body c f p.names p.uses p.tokens

-- a function after other pieces
unfoldable pub function : Context → Option Name → Plan → FunctionValue → Span → List Piece → Outcome
function c None p f span s = Err span
function c (Some name) p f span s = put_head c (head_of name p f) span s >>= (λ t. after t (body_of c p f))

abbrev pub entry_of : Name → Plan → EntryValue → Entry
entry_of name p e = record {
  attributes = record { code = e.stage; numbers = e.workgroup_size; replaced = e.workgroup_size_overrides };
  head = head_of name p e.function;
}

-- an entry point after other pieces
unfoldable pub entry_point : Inputs → Option Name → Plan → EntryValue → List Piece → Outcome
entry_point i None p e s = Err undefined
entry_point i (Some name) p e s =
    put_entry_head i (entry_of name p e) s >>= (λ t. after t (body_of i.context p e.function))

-- functions after other pieces, each with its name and its plan
unfoldable pub each_function : Context → List (Option Name) → List Plan → List (FunctionValue × Span) → List Piece → Outcome
each_function c names ps [] s = Ok s
each_function c names [] (f ∷ fs) s = Err f.1
each_function c names (p ∷ ps) (f ∷ fs) s =
    function c (first_name names) p f.0 f.1 s >>= (λ t. each_function c (after_first names) ps fs t)

abbrev pub functions : Context → List Plan → List (FunctionValue × Span) → List Piece → Outcome
functions c ps fs s = each_function c c.names.functions ps fs s

-- entry points after other pieces, each with its name and its plan
unfoldable pub each_entry_point : Inputs → List (Option Name) → List Plan → List EntryValue → List Piece → Outcome
each_entry_point i names ps [] s = Ok s
each_entry_point i names [] (e ∷ es) s = Err undefined
each_entry_point i names (p ∷ ps) (e ∷ es) s =
    entry_point i (first_name names) p e s >>= (λ t. each_entry_point i (after_first names) ps es t)

abbrev pub entry_points : Inputs → List Plan → List EntryValue → List Piece → Outcome
entry_points i ps es s = each_entry_point i i.context.names.entry_points ps es s
