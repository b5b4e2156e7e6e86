-- Written expressions and the parentheses that they need.
use Rattle.std.specs.Prelude.{◌||◌, if◌then◌else◌, Bool, true, false, not, List, [], ◌∷◌, ◌++◌, map}
use Rattle.yettuvam_wgsl_pieces.specs.Pieces.{Piece, Word, Sign, piece_of}
use Rattle.yettuvam_wgsl_pieces.specs.declared.sign.Sign.{Sign as SignOfText}
use Rattle.yettuvam_wgsl_pieces.specs.declared.sign.Sign.TheVariants as sign
use Rattle.yettuvam_wgsl_names.specs.Table.{Name}
use Rattle.yettuvam_wgsl_written.specs.Operators.{is_singular, may_open}
use Rattle.yettuvam_wgsl_written.specs.declared.operators.Level.{Level}
use Rattle.yettuvam_wgsl_written.specs.declared.operators.Level.TheVariants as level
use Rattle.yettuvam_wgsl_written.specs.declared.written.Role.{Role}
use Rattle.yettuvam_wgsl_written.specs.declared.written.Role.TheVariants as role
use Rattle.yettuvam_wgsl_written.specs.declared.written.Written.{Written as WrittenByCode}

-- an expression as pieces
pub record Written : Type 0 where
  pub pieces : List Piece
  pub level : Level
  pub role : Role

abbrev pub written_of : WrittenByCode → Written
written_of w = record { pieces = map piece_of w.pieces.items; level = w.level; role = w.role }

-- an expression that isn't written
abbrev pub nothing : Written
nothing = record { pieces = []; level = level.Singular; role = role.Value }

-- an expression that is a name
abbrev pub name : Name → Role → Written
name n r = record { pieces = Word n ∷ []; level = level.Singular; role = r }

-- ---- values, pointers and places

abbrev pub is_place : Role → Bool
is_place role.Place = true
is_place _ = false

abbrev pub is_pointer : Role → Bool
is_pointer role.Pointer = true
is_pointer _ = false

-- the level as a value: the pointer to a place has an operator
abbrev pub value_level : Written → Level
value_level w = if is_place w.role then level.Unary else w.level

-- the level as a place: the place of a pointer has an operator
abbrev pub place_level : Written → Level
place_level w = if is_pointer w.role then level.Unary else w.level

abbrev pub sign_if : Bool → SignOfText → List Piece
sign_if true s = Sign s ∷ []
sign_if false s = []

-- pieces in parentheses unless they fit
abbrev pub bracketed : Bool → List Piece → List Piece
bracketed fits ps = sign_if (not fits) sign.LeftParen ++ (ps ++ sign_if (not fits) sign.RightParen)

-- an expression as a value or as a pointer
abbrev pub value_pieces : Written → Bool → List Piece
value_pieces w fits = bracketed fits (sign_if (is_place w.role) sign.AddressOf ++ w.pieces)

-- an expression as a place
abbrev pub place_pieces : Written → Bool → List Piece
place_pieces w fits = bracketed fits (sign_if (is_pointer w.role) sign.Indirection ++ w.pieces)

-- an expression of which a member or an element follows
abbrev pub base_by : Role → Written → List Piece
base_by role.Value w = value_pieces w (is_singular w.level)
base_by _ w = place_pieces w (is_singular (place_level w))

abbrev pub base_pieces : Written → List Piece
base_pieces w = base_by w.role w

-- an argument, with a comma unless it is the last one
abbrev pub argument_pieces : Written → Bool → List Piece
argument_pieces w is_last = value_pieces w (is_last || not (may_open (value_level w))) ++ sign_if (not is_last) sign.Comma
