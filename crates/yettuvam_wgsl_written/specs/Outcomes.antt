-- What writing returns: pieces, or the span of what WGSL can't say.
use Rattle.std.specs.Prelude.{◌≡◌, List, ◌++◌, [], ◌∷◌, Option, Some, None, Result, Ok, Err}
use Rattle.yettuvam_wgsl_pieces.specs.Pieces.{Piece, Word}
use Rattle.naga_oil_ir.specs.declared.span.Span.{Span}
use Rattle.yettuvam_wgsl_names.specs.Table.{Name}
use Rattle.yettuvam_wgsl_written.specs.declared.refusal.Refusal.{Refusal}
use Rattle.yettuvam_wgsl_written.specs.declared.refusal.Refusal.TheVariants as refusal

-- pieces, or the span of what WGSL can't say
abbrev pub Outcome : Type 0
Outcome = Result (List Piece) Span

infixl 10 ◌>>=◌
abbrev pub ◌>>=◌ : {A B : Type 0} → Result A Span → (A → Result B Span) → Result B Span
(Ok a) >>= f = f a
(Err s) >>= f = Err s

-- a refusal has the outcome's span, unless memory ran out
abbrev pub Refuses : {A : Type 0} → Refusal → Result A Span → Type 0
Refuses (refusal.NotInWgsl s) o = o ≡ Err s
Refuses refusal.Memory o = Unit {0}

-- an outcome after other pieces
abbrev pub after : List Piece → Outcome → Outcome
after old (Ok ps) = Ok (old ++ ps)
after old (Err s) = Err s

-- a call appends the pieces of the outcome, or refuses
abbrev pub Puts : Outcome → Result (Unit {0}) Refusal → (old new : List Piece) → Type 0
Puts o (Ok u) old new = after old o ≡ Ok new
Puts o (Err e) old new = Refuses e o

-- a result, seen by view, is the outcome's value, or a refusal
abbrev pub Finds : {X Y : Type 0} → (X → Y) → Result X Refusal → Result Y Span → Type 0
Finds view (Ok x) o = o ≡ Ok (view x)
Finds view (Err e) o = Refuses e o

-- a word of the language, if there is one
abbrev pub word : Option Name → Span → Outcome
word (Some name) s = Ok (Word name ∷ [])
word None s = Err s
