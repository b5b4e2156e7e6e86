-- What declares locals and values.
use Rattle.std.specs.Prelude.{ℕ, ◌==◌, ◌&&◌, if◌then◌else◌, Bool, true, false, List, [], ◌∷◌, ◌++◌, Option, Some, None, Ok, Err}
use Rattle.naga_oil_ir.specs.Parts.{Parts}
use Rattle.naga_oil_ir.specs.Rows.{Row, Kind, TypeKind}
use Rattle.naga_oil_ir.specs.declared.names.ItemPlace.{ItemPlace}
use Rattle.naga_oil_ir.specs.declared.names.ItemPlace.TheVariants.{TypeItem}
use Rattle.naga_oil_ir.specs.declared.parts.Named.{Named}
use Rattle.naga_oil_ir.specs.declared.parts.Named.TheVariants.{TypeOf}
use Rattle.naga_oil_ir.specs.declared.span.Span.{Span}
use Rattle.yettuvam_wgsl_names.specs.Table.{Name}
use Rattle.yettuvam_wgsl_pieces.specs.Pieces.{Piece, Word, Sign}
use Rattle.yettuvam_wgsl_pieces.specs.declared.sign.Sign.TheVariants as sign
use Rattle.yettuvam_wgsl_written.specs.Outcomes.{Outcome, ◌>>=◌}
use Rattle.yettuvam_wgsl_written.specs.Written.{Written, value_pieces}
use Rattle.yettuvam_wgsl_write_types.specs.Types.{pointer_kind}
use Rattle.yettuvam_wgsl_write_expressions.specs.Context.{Context, Scope, declared, is_told, type_at, type_text}
use Rattle.yettuvam_wgsl_write_expressions.specs.Kinds.{compose_kind, conversion_kind, typed_const, typed_let, zero_value_kind}
use Rattle.yettuvam_wgsl_write_items.specs.Items.{initial_value}
use Rattle.yettuvam_wgsl_write_statements.specs.declared.declarations.ValueHead.{ValueHead}

-- ---- what declares a value

abbrev pub head : Bool → Option ℕ → ValueHead
head is_const ty = record { is_const = is_const; ty = ty }

-- the conversion that copies a value to a `const`
abbrev pub const_copy : ℕ
const_copy = 2

abbrev pub copied_head : ℕ → ValueHead
copied_head convert = head (convert == const_copy) None

-- a pointer type may be the mark of a type that is written
abbrev pub marked_head : (base space : ℕ) → ValueHead
marked_head base space =
    if space == typed_let then head false (Some base)
    else (if space == typed_const then head true (Some base) else head false None)

abbrev pub pointer_head : List (Option ℕ) → List (Option ItemPlace) → ValueHead
pointer_head (Some space ∷ []) (Some (TypeItem base) ∷ []) = marked_head base space
pointer_head _ _ = head false None

abbrev pub head_of_kind : Kind → Row → ValueHead
head_of_kind (TypeKind kind) r = if kind == pointer_kind then pointer_head r.label.plain r.names else head false None
head_of_kind _ r = head false None

abbrev pub head_of_row : Row → ValueHead
head_of_row r = head_of_kind r.label.kind r

abbrev pub head_by : Option Row → ValueHead
head_by (Some r) = head_of_row r
head_by None = head false None

-- a value that is composed of a type
unfoldable pub composed_head : Context → ℕ → ValueHead
composed_head c ty = head_by (type_at c ty)

abbrev pub copied_by : List ℕ → ValueHead
copied_by (kind ∷ convert ∷ []) = copied_head convert
copied_by _ = head false None

abbrev pub composed_by : Context → Named → ValueHead
composed_by c (TypeOf ty) = composed_head c ty
composed_by c _ = head false None

-- `let` or `const`, and the type that is written
unfoldable pub value_head : Context → Parts → ValueHead
value_head c p =
    if p.kind == conversion_kind then copied_by p.plain
    else (if p.kind == compose_kind then composed_by c p.named else head false None)

-- `: TYPE`, if the type is written
abbrev pub head_type : Scope → Option ℕ → Outcome
head_type s (Some ty) = type_text s.context ty s.span >>= (λ t. Ok (Sign sign.Colon ∷ t))
head_type s None = Ok []

abbrev pub head_word : Bool → List Piece
head_word true = Sign sign.ConstWord ∷ []
head_word false = Sign sign.LetWord ∷ []

-- `let NAME: TYPE =`
unfoldable pub head_text : Scope → Name → ValueHead → Outcome
head_text s name h = head_type s h.ty >>= (λ t. Ok (head_word h.is_const ++ Word name ∷ (t ++ Sign sign.Equal ∷ [])))

-- `let NAME: TYPE = VALUE`, of a value that is written
unfoldable pub value_declaration : Scope → Name → Parts → Written → Outcome
value_declaration s name p w = head_text s name (value_head s.context p) >>= (λ h. Ok (h ++ value_pieces w true))

-- ---- locals

abbrev pub zero_by : Named → ℕ → Bool
zero_by (TypeOf base) ty = base == ty
zero_by _ ty = false

-- the zero of a type
abbrev pub is_zero_of : Parts → ℕ → Bool
is_zero_of p ty = if p.kind == zero_value_kind then zero_by p.named ty else false

abbrev pub first_value : List Written → ℕ → Bool → Span → Outcome
first_value known h is_left_out span = if is_left_out then Ok [] else initial_value known h span

-- a value that is the zero of a type that is written is left out
abbrev pub local_end : List Written → Option ℕ → (is_told is_zero : Bool) → Span → Outcome
local_end known (Some h) is_told is_zero span = first_value known h (is_told && is_zero) span
local_end known None is_told is_zero span = if is_told then Ok [] else Err span

-- `var NAME: TYPE = VALUE`
unfoldable pub local : Scope → List Written → Option Name → ℕ → Option ℕ → Bool → Outcome
local s known (Some name) ty value is_zero =
    declared s.context name ty s.span >>= (λ d. local_end known value (is_told s.context ty) is_zero s.span
    >>= (λ v. Ok (Sign sign.VarWord ∷ (d ++ v))))
local s known None ty value is_zero = Err s.span
