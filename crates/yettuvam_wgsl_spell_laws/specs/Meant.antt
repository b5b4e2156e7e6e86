-- The tokens that pieces are meant to be, and what the lexer makes of them.
use Rattle.std.specs.Prelude.{◌≡◌, ℕ, ◌+◌, ◌==◌, ◌&&◌, if◌then◌else◌, Bool, true, false, List, [], ◌∷◌, ◌++◌, length}
use Rattle.yettuvam_wgsl_pieces.specs.Layout.{after, depth_after}
use Rattle.yettuvam_wgsl_pieces.specs.Numbers.{class_of}
use Rattle.yettuvam_wgsl_pieces.specs.Pieces.{Piece, Word, Number, Literal, Letters, Sign, text}
use Rattle.yettuvam_wgsl_pieces.specs.declared.sign.Sign.{Sign as SignOfText}
use Rattle.yettuvam_wgsl_pieces.specs.declared.sign.Sign.TheVariants as sign
use Rattle.yettuvam_wgsl_words.specs.Class.{Text}
use Rattle.yettuvam_wgsl_words.specs.Cut.{cut}
use Rattle.yettuvam_wgsl_words.specs.Scan.{Token}
use Rattle.yettuvam_wgsl_words.specs.declared.cut.Piece.TheVariants as piece_is
use Rattle.yettuvam_wgsl_words.specs.declared.token.Kind.{Kind}
use Rattle.yettuvam_wgsl_words.specs.declared.token.Kind.TheVariants as k

-- the kind of token that a sign is meant to be
abbrev pub sign_kind : SignOfText → Kind
sign_kind sign.And = k.And
sign_kind sign.AndAnd = k.AndAnd
sign_kind sign.AndEqual = k.AndEqual
sign_kind sign.Arrow = k.Arrow
sign_kind sign.At = k.At
sign_kind sign.Colon = k.Colon
sign_kind sign.Comma = k.Comma
sign_kind sign.Dot = k.Dot
sign_kind sign.Equal = k.Equal
sign_kind sign.EqualEqual = k.EqualEqual
sign_kind sign.Greater = k.Greater
sign_kind sign.GreaterEqual = k.GreaterEqual
sign_kind sign.LeftBrace = k.OpenBrace
sign_kind sign.LeftBracket = k.OpenBracket
sign_kind sign.LeftParen = k.OpenParenthesis
sign_kind sign.Less = k.Less
sign_kind sign.LessEqual = k.LessEqual
sign_kind sign.Minus = k.Minus
sign_kind sign.MinusEqual = k.MinusEqual
sign_kind sign.MinusMinus = k.MinusMinus
sign_kind sign.NotEqual = k.NotEqual
sign_kind sign.Or = k.Or
sign_kind sign.OrEqual = k.OrEqual
sign_kind sign.OrOr = k.OrOr
sign_kind sign.Percent = k.Percent
sign_kind sign.PercentEqual = k.PercentEqual
sign_kind sign.Plus = k.Plus
sign_kind sign.PlusEqual = k.PlusEqual
sign_kind sign.PlusPlus = k.PlusPlus
sign_kind sign.RightBrace = k.CloseBrace
sign_kind sign.RightBracket = k.CloseBracket
sign_kind sign.RightParen = k.CloseParenthesis
sign_kind sign.Semicolon = k.Semicolon
sign_kind sign.ShiftLeft = k.ShiftLeft
sign_kind sign.ShiftLeftEqual = k.ShiftLeftEqual
sign_kind sign.ShiftRight = k.ShiftRight
sign_kind sign.ShiftRightEqual = k.ShiftRightEqual
sign_kind sign.Slash = k.Slash
sign_kind sign.SlashEqual = k.SlashEqual
sign_kind sign.Star = k.Star
sign_kind sign.StarEqual = k.StarEqual
sign_kind sign.Underscore = k.Underscore
sign_kind sign.Xor = k.Xor
sign_kind sign.XorEqual = k.XorEqual
sign_kind sign.Not = k.Bang
sign_kind sign.Complement = k.Tilde
sign_kind sign.Negate = k.Minus
sign_kind sign.AddressOf = k.And
sign_kind sign.Indirection = k.Star
sign_kind sign.TemplateOpen = k.TemplateOpen
sign_kind sign.TemplateClose = k.TemplateClose
sign_kind sign.MemberComma = k.Comma
sign_kind sign.HeadSemicolon = k.Semicolon
sign_kind sign.CaseColon = k.Colon
sign_kind sign.AliasWord = k.Alias
sign_kind sign.BreakWord = k.Break
sign_kind sign.CaseWord = k.Case
sign_kind sign.ConstWord = k.Const
sign_kind sign.ConstAssertWord = k.ConstAssert
sign_kind sign.ContinueWord = k.Continue
sign_kind sign.ContinuingWord = k.Continuing
sign_kind sign.DefaultWord = k.Default
sign_kind sign.DiagnosticWord = k.Diagnostic
sign_kind sign.DiscardWord = k.Discard
sign_kind sign.ElseWord = k.Else
sign_kind sign.EnableWord = k.Enable
sign_kind sign.FalseWord = k.False
sign_kind sign.FnWord = k.Fn
sign_kind sign.ForWord = k.For
sign_kind sign.IfWord = k.If
sign_kind sign.LetWord = k.Let
sign_kind sign.LoopWord = k.Loop
sign_kind sign.OverrideWord = k.Override
sign_kind sign.RequiresWord = k.Requires
sign_kind sign.ReturnWord = k.Return
sign_kind sign.StructWord = k.Struct
sign_kind sign.SwitchWord = k.Switch
sign_kind sign.TrueWord = k.True
sign_kind sign.VarWord = k.Var
sign_kind sign.WhileWord = k.While

-- a literal is a number, or `false` or `true`
abbrev pub literal_kind : (kind bits : ℕ) → Kind
literal_kind kind bits = if class_of kind == 0 then (if bits == 0 then k.False else k.True) else k.Number

-- the kind of token that a piece is meant to be
abbrev pub meant_kind : Piece → Kind
meant_kind (Word word) = k.Name
meant_kind (Number value) = k.Number
meant_kind (Literal kind bits) = literal_kind kind bits
meant_kind (Letters size pattern) = k.Name
meant_kind (Sign sign) = sign_kind sign

-- a token of a text, from a place on
abbrev pub token : Kind → (at : ℕ) → Text → Token
token kind at text = record { kind = kind; span = record { start = at; end = at + length text }; text = text }

-- the place after a piece and what stands between it and the next ones
abbrev pub place_after : (at depth : ℕ) → Piece → List Piece → ℕ
place_after at depth piece more = at + length (text piece ++ after (depth_after depth piece) piece more)

-- the tokens of pieces from a place on, where some braces are open, and the end of the text
unfoldable pub meant_from : (at depth : ℕ) → List Piece → List Token
meant_from at depth [] = token k.End at [] ∷ []
meant_from at depth (piece ∷ more) =
    token (meant_kind piece) at (text piece) ∷ meant_from (place_after at depth piece more) (depth_after depth piece) more

-- the tokens of pieces that are a whole text
abbrev pub meant_tokens : List Piece → List Token
meant_tokens pieces = meant_from 0 0 pieces

-- ---- what the lexer makes of tokens

-- for the lexer, brackets of template arguments are comparisons
abbrev pub kind_cut : Kind → Kind
kind_cut k.TemplateOpen = k.Less
kind_cut k.TemplateClose = k.Greater
kind_cut kind = kind

-- the end of a list of template arguments
abbrev pub is_closing : Kind → Bool
is_closing k.TemplateClose = true
is_closing _ = false

-- a token as the lexer finds it
abbrev pub unmarked : Token → Token
unmarked t = record { kind = kind_cut t.kind; span = t.span; text = t.text }

-- one token of two that stand side by side
abbrev pub shift : (first second : Token) → Token
shift first second = record { kind = k.ShiftRight; span = record { start = first.span.start; end = second.span.end }; text = first.text ++ second.text }

-- the tokens that the lexer finds: two closing brackets side by side are one `>>`
unfoldable pub cut_tokens : List Token → List Token
cut_tokens [] = []
cut_tokens (t ∷ []) = unmarked t ∷ []
cut_tokens (t ∷ next ∷ more) =
    if is_closing t.kind && is_closing next.kind then shift t next ∷ cut_tokens more else unmarked t ∷ cut_tokens (next ∷ more)

-- ---- pieces that are tokens

-- the text of a piece is one token of its kind
abbrev pub IsGood : Piece → Type 0
IsGood piece = cut (text piece) ≡ (piece_is.Token (kind_cut (meant_kind piece)), [])
