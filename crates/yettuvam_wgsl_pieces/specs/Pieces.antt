-- Pieces, each of which is one token, and their texts.
use Rattle.std.specs.Prelude.{ℕ, zero, suc, ◌/◌, ◌%◌, ◌==◌, if◌then◌else◌, Bool, List, [], ◌++◌, codes}
use Rattle.std.specs.Fmt.{decimal}
use Rattle.yettuvam_wgsl_pieces.specs.Numbers.{literal_text}
use Rattle.yettuvam_wgsl_pieces.specs.Signs.{sign_text}
use Rattle.yettuvam_wgsl_pieces.specs.declared.piece.Piece.{Piece as PieceOfCode}
use Rattle.yettuvam_wgsl_pieces.specs.declared.piece.Piece.TheVariants as code
use Rattle.yettuvam_wgsl_pieces.specs.declared.sign.Sign.{Sign as SignOfText}

-- a token to be written
pub data Piece : Type 0 where
  Word : List ℕ → Piece
  Number : ℕ → Piece
  Literal : ℕ → ℕ → Piece
  Letters : ℕ → ℕ → Piece
  Sign : SignOfText → Piece

abbrev pub piece_of : PieceOfCode → Piece
piece_of (code.Word word) = Word word.now
piece_of (code.Number value) = Number value
piece_of (code.Literal kind bits) = Literal kind bits
piece_of (code.Letters size pattern) = Letters size pattern
piece_of (code.Sign sign) = Sign sign

-- the name of a component: of `xyzw`, or of `rgba`
abbrev pub letter : Bool → ℕ → List ℕ
letter colors place =
    if place == 0 then (if colors then codes "r" else codes "x")
    else (if place == 1 then (if colors then codes "g" else codes "y")
    else (if place == 2 then (if colors then codes "b" else codes "z")
    else (if colors then codes "a" else codes "w")))

-- the letters of a swizzle, two bits each, the first lowest
abbrev pub letters : Bool → ℕ → ℕ → List ℕ
letters colors zero pattern = []
letters colors (suc size) pattern = letter colors (pattern % 4) ++ letters colors size (pattern / 4)

abbrev pub has_colors : ℕ → Bool
has_colors pattern = (pattern / 256) % 2 == 1

-- the most letters of a swizzle
abbrev pub at_most_four : ℕ → ℕ
at_most_four size = if size == 0 then 0 else (if size == 1 then 1 else (if size == 2 then 2 else (if size == 3 then 3 else 4)))

abbrev pub text : Piece → List ℕ
text (Word word) = word
text (Number value) = decimal value
text (Literal kind bits) = literal_text kind bits
text (Letters size pattern) = letters (has_colors pattern) (at_most_four size) pattern
text (Sign sign) = sign_text sign
