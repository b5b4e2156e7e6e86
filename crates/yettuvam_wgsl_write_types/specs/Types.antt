-- How types are written where they are used, and whether a declaration is written with its type.
use Rattle.std.specs.Prelude.{ℕ, ◌+◌, ◌/◌, ◌%◌, ◌==◌, ◌&&◌, ◌||◌, not, nat_lt, if◌then◌else◌, Bool, true, false, List, [], ◌∷◌, ◌++◌, length, map, Option, Some, None, is_some, option_map, slice_get, codes, Result, Ok, Err}
use Rattle.std.specs.Prelude.{Vec}
use Rattle.std.specs.declared.alloc.Global.{Global}
use Rattle.yettuvam_wgsl_pieces.specs.declared.piece.Piece.{Piece as PieceOfCode}
use Rattle.naga_oil_ir.specs.Rows.{Row, Kind, TypeKind, override_row, type_row}
use Rattle.naga_oil_ir.specs.ModuleValue.{ModuleValue}
use Rattle.naga_oil_ir.specs.declared.names.ItemPlace.{ItemPlace}
use Rattle.naga_oil_ir.specs.declared.names.ItemPlace.TheVariants.{TypeItem, OverrideItem, ExpressionItem}
use Rattle.naga_oil_ir.specs.declared.span.Span.{Span}
use Rattle.naga_oil_ir.specs.declared.types.Override.{Override}
use Rattle.naga_oil_ir.specs.declared.types.Type.{«Type» as TypeOfShader}
use Rattle.yettuvam_wgsl_names.specs.Table.{Name}
use Rattle.yettuvam_wgsl_pieces.specs.Pieces.{Piece, Word, Number, Sign}
use Rattle.yettuvam_wgsl_pieces.specs.declared.sign.Sign.TheVariants as sign
use Rattle.yettuvam_wgsl_written.specs.Codes.{scalar_name, vector_name, matrix_name, sampler_name, texture_name, texel_format_name, access_name, space_name}
use Rattle.yettuvam_wgsl_written.specs.Operators.{fits_right}
use Rattle.yettuvam_wgsl_written.specs.Outcomes.{Outcome, ◌>>=◌, word}
use Rattle.yettuvam_wgsl_written.specs.Written.{Written, written_of, value_pieces}
use Rattle.yettuvam_wgsl_written.specs.declared.written.Written.{Written as WrittenByCode}
use Rattle.yettuvam_wgsl_written.specs.declared.operators.Level.TheVariants as level
use Rattle.yettuvam_wgsl_written_names.specs.Items.{ItemNames, names_of, name_at}
use Rattle.yettuvam_wgsl_write_types.specs.Texts.{text_at, texts_of, is_set, template}
use Rattle.yettuvam_wgsl_write_types.specs.declared.types.Known.{Known as KnownByCode}

-- what the texts of types depend on: the names of the items, the overrides, and the global expressions once they are written
pub record Known : Type 0 where
  pub names : ItemNames
  pub overrides : List (Row × Span)
  pub values : Option (List Written)

abbrev pub override_rows : List (Override × Span) → List (Row × Span)
override_rows xs = map (λ x. (override_row x.0, x.1)) xs

abbrev pub values_of : List WrittenByCode → List Written
values_of ws = map written_of ws

abbrev pub known_of : KnownByCode → Known
known_of k = record { names = names_of k.names.now; overrides = override_rows k.of.now.overrides; values = option_map (λ v. values_of v.now) k.values }

abbrev pub row_of : Option (Row × Span) → Option Row
row_of (Some r) = Some r.0
row_of None = None

-- the row of the item at a place
abbrev pub row_at : List (Row × Span) → ℕ → Option Row
row_at rs place = row_of (slice_get rs place)

-- ---- kinds of types

abbrev pub scalar_kind : ℕ
scalar_kind = 0

abbrev pub vector_kind : ℕ
vector_kind = 1

abbrev pub matrix_kind : ℕ
matrix_kind = 2

abbrev pub image_kind : ℕ
image_kind = 4

abbrev pub sampler_kind : ℕ
sampler_kind = 5

abbrev pub atomic_kind : ℕ
atomic_kind = 6

abbrev pub pointer_kind : ℕ
pointer_kind = 9

abbrev pub array_kind : ℕ
array_kind = 11

abbrev pub binding_array_kind : ℕ
binding_array_kind = 12

-- the code of `bool` among scalars
abbrev pub bool_code : ℕ
bool_code = 1

-- the first space of a pointer type that is no pointer but a mark: of an alias, of a `let` and of a `const` with a type
abbrev pub first_mark : ℕ
first_mark = 64

abbrev pub last_mark : ℕ
last_mark = 66

abbrev pub is_mark : ℕ → Bool
is_mark space = (space == first_mark) || ((space == 65) || (space == last_mark))

-- ---- plain types

-- a scalar type; a pseudo-type isn't written
abbrev pub scalar_by : Option Name → List Piece
scalar_by (Some name) = Word name ∷ []
scalar_by None = []

abbrev pub scalar : ℕ → List Piece
scalar code = scalar_by (scalar_name code)

-- a scalar type in template brackets
unfoldable pub scalar_template : ℕ → Span → Outcome
scalar_template code span = word (scalar_name code) span >>= (λ w. Ok (template w))

-- the component of vectors of `bool`, which have no name of their own
abbrev pub component_template : ℕ → List Piece
component_template code = if code / 16 == bool_code then template (Word (codes "bool") ∷ []) else []

unfoldable pub vector : ℕ → Span → Outcome
vector code span = word (vector_name code) span >>= (λ w. Ok (w ++ component_template code))

unfoldable pub atomic : ℕ → Span → Outcome
atomic code span = scalar_template code span >>= (λ t. Ok (Word (codes "atomic") ∷ t))

-- ---- textures

-- the format of a storage texture
unfoldable pub format_word : ℕ → Span → Outcome
format_word code span = word (texel_format_name ((code / 256) % 256)) span

-- the access of a storage texture
unfoldable pub access_word : ℕ → Span → Outcome
access_word code span = word (access_name (code / 65536)) span

-- the format and the access of a storage texture
unfoldable pub storage_words : ℕ → Span → Outcome
storage_words code span = format_word code span >>= (λ f. access_word code span >>= (λ a. Ok (f ++ Sign sign.Comma ∷ a)))

unfoldable pub storage_template : ℕ → Span → Outcome
storage_template code span = storage_words code span >>= (λ ps. Ok (template ps))

-- the component of a texture that is sampled
abbrev pub sampled_template : ℕ → Span → Outcome
sampled_template element span = if element == 0 then Ok [] else scalar_template element span

abbrev pub texture_template : ℕ → Span → Outcome
texture_template code span = if code / 65536 == 0 then sampled_template ((code / 256) % 256) span else storage_template code span

unfoldable pub texture : ℕ → Span → Outcome
texture code span = word (texture_name (code % 256)) span >>= (λ w. texture_template code span >>= (λ t. Ok (w ++ t)))

-- ---- pointers and arrays

unfoldable pub space_access : ℕ → Span → Outcome
space_access space span = if space / 16 == 0 then Ok [] else (word (access_name (space / 16)) span >>= (λ w. Ok (Sign sign.Comma ∷ w)))

unfoldable pub pointer : List (List Piece) → (base space : ℕ) → Span → Outcome
pointer types base space span =
    word (space_name (space % 16)) span >>= (λ w. text_at types base span >>= (λ t. space_access space span
    >>= (λ a. Ok (Word (codes "ptr") ∷ template (w ++ Sign sign.Comma ∷ (t ++ a))))))

-- a pointer type, or the base that a mark stands for
abbrev pub pointer_or_base : List (List Piece) → (base space : ℕ) → Span → Outcome
pointer_or_base types base space span = if is_mark space then text_at types base span else pointer types base space span

abbrev pub place_of : Option ItemPlace → Option ℕ
place_of (Some (ExpressionItem h)) = Some h
place_of _ = None

abbrev pub init_by : List (Option ItemPlace) → Option ℕ
init_by (ty ∷ init ∷ []) = place_of init
init_by _ = None

abbrev pub init_of : Option Row → Option ℕ
init_of (Some r) = init_by r.names
init_of None = None

-- the initial value of an override
abbrev pub override_init : List (Row × Span) → ℕ → Option ℕ
override_init overrides o = init_of (row_at overrides o)

abbrev pub value_by : Option Written → Span → Outcome
value_by (Some w) span = Ok (value_pieces w (fits_right level.Sum w.level))
value_by None span = Err span

-- the value at a place, as a size
abbrev pub value_at : List Written → ℕ → Span → Outcome
value_at values h span = value_by (slice_get values h) span

abbrev pub size_value : Option (List Written) → Option ℕ → Span → Outcome
size_value (Some values) (Some h) span = value_at values h span
size_value _ _ span = Err span

abbrev pub pending_by : Option Name → Known → ℕ → Span → Outcome
pending_by (Some name) k o span = Ok (Word name ∷ [])
pending_by None k o span = size_value k.values (override_init k.overrides o) span

-- the size that an override gives: its name, or the value of one that has no name
unfoldable pub pending : Known → ℕ → Span → Outcome
pending k o span = pending_by (name_at k.names.overrides o) k o span

-- the size of an array
unfoldable pub size : Known → List (Option ℕ) → Option ItemPlace → Span → Outcome
size k (Some how ∷ Some count ∷ []) None span = if how == 0 then Ok (Sign sign.Comma ∷ Number count ∷ []) else Err span
size k (Some how ∷ []) (Some (OverrideItem o)) span = if how == 1 then (pending k o span >>= (λ ps. Ok (Sign sign.Comma ∷ ps))) else Err span
size k (Some how ∷ []) None span = if how == 2 then Ok [] else Err span
size k _ _ span = Err span

-- an array of a base and of a size
unfoldable pub sized : Known → List (List Piece) → Name → ℕ → List (Option ℕ) → Option ItemPlace → Span → Outcome
sized k types name base how o span =
    text_at types base span >>= (λ t. size k how o span >>= (λ s. Ok (Word name ∷ template (t ++ s))))

abbrev pub is_pending : Option ItemPlace → Bool
is_pending (Some o) = true
is_pending None = false

-- an array whose size names an override isn't written before the global expressions are; one of elements without a type has none
unfoldable pub array : Known → List (List Piece) → List Bool → ℕ → List (Option ℕ) → Option ItemPlace → Span → Outcome
array k types told base how o span =
    if is_pending o && not (is_some k.values) then Ok []
    else (if is_set told base then sized k types (codes "array") base how o span else Ok (Word (codes "array") ∷ []))

-- ---- all types

abbrev pub with_code : (ℕ → Outcome) → List (Option ℕ) → Span → Outcome
with_code f (Some code ∷ []) span = f code
with_code f _ span = Err span

abbrev pub with_base : (ℕ → ℕ → Outcome) → List (Option ℕ) → List (Option ItemPlace) → Span → Outcome
with_base f (Some space ∷ []) (Some (TypeItem base) ∷ []) span = f base space
with_base f _ _ span = Err span

abbrev pub with_size : (ℕ → List (Option ℕ) → Option ItemPlace → Outcome) → List (Option ℕ) → List (Option ItemPlace) → Span → Outcome
with_size f how (Some (TypeItem base) ∷ o ∷ []) span = f base how o
with_size f _ _ span = Err span

abbrev pub after_stride : List (Option ℕ) → List (Option ℕ)
after_stride (stride ∷ how) = how
after_stride [] = []

-- the texts of the earlier types, and whether declarations are written with them
pub record Texts : Type 0 where
  pub types : List (List Piece)
  pub told : List Bool

abbrev pub texts : List (List Piece) → List Bool → Texts
texts types told = record { types = types; told = told }

abbrev pub state_of : List (Vec PieceOfCode Global) → List Bool → Texts
state_of types told = texts (texts_of types) told

abbrev pub kind_text : Known → Texts → ℕ → List (Option ℕ) → List (Option ItemPlace) → Span → Outcome
kind_text k s kind plain names span =
    if kind == scalar_kind then with_code (λ code. Ok (scalar code)) plain span
    else (if kind == vector_kind then with_code (λ code. vector code span) plain span
    else (if kind == matrix_kind then with_code (λ code. word (matrix_name code) span) plain span
    else (if kind == atomic_kind then with_code (λ code. atomic code span) plain span
    else (if kind == image_kind then with_code (λ code. texture code span) plain span
    else (if kind == sampler_kind then with_code (λ code. word (sampler_name code) span) plain span
    else (if kind == pointer_kind then with_base (λ base space. pointer_or_base s.types base space span) plain names span
    else (if kind == array_kind then with_size (λ base how o. array k s.types s.told base how o span) (after_stride plain) names span
    else (if kind == binding_array_kind then with_size (λ base how o. sized k s.types (codes "binding_array") base how o span) plain names span
    else Err span))))))))

abbrev pub kind_by : Known → Texts → Kind → List (Option ℕ) → List (Option ItemPlace) → Span → Outcome
kind_by k s (TypeKind kind) plain names span = kind_text k s kind plain names span
kind_by k s _ plain names span = Err span

-- a type without a name
unfoldable pub unnamed : Known → Texts → Row → Span → Outcome
unnamed k s r span = kind_by k s r.label.kind r.label.plain r.names span

abbrev pub named_or : Option Name → Outcome → Outcome
named_or (Some name) o = Ok (Word name ∷ [])
named_or None o = o

-- a type after the earlier ones: its name, if it has one
abbrev pub text : Known → Texts → Row → Span → Outcome
text k s r span = named_or (name_at k.names.types (length s.types)) (unnamed k s r span)

-- ---- whether a declaration is written with its type

abbrev pub code_or : (ℕ → Bool) → List (Option ℕ) → Bool
code_or f (Some code ∷ []) = f code
code_or f _ = true

abbrev pub base_or : (ℕ → Bool) → List (Option ItemPlace) → Bool
base_or f (Some (TypeItem base) ∷ more) = f base
base_or f _ = true

abbrev pub is_pointer : List (Option ℕ) → Bool
is_pointer plain = code_or (λ space. nat_lt space first_mark) plain

abbrev pub kind_told : List Bool → ℕ → List (Option ℕ) → List (Option ItemPlace) → Bool
kind_told told kind plain names =
    if kind == scalar_kind then code_or (λ code. is_some (scalar_name code)) plain
    else (if kind == vector_kind then code_or (λ code. not (code / 16 == 0)) plain
    else (if kind == matrix_kind then code_or (λ code. not (code / 256 == 0)) plain
    else (if kind == pointer_kind then is_pointer plain && base_or (is_set told) names
    else (if kind == array_kind then base_or (is_set told) names
    else (if kind == binding_array_kind then base_or (is_set told) names else true)))))

abbrev pub told_by : List Bool → Kind → List (Option ℕ) → List (Option ItemPlace) → Bool
told_by told (TypeKind kind) plain names = kind_told told kind plain names
told_by told _ plain names = true

-- the type is known and isn't left to the reader, as in `let x = 5;`
unfoldable pub is_told : List Bool → Row → Bool
is_told told r = told_by told r.label.kind r.label.plain r.names

-- ---- all types of a module

abbrev pub with_text : Texts → Row → List Piece → Texts
with_text s r ps = record { types = s.types ++ ps ∷ []; told = s.told ++ is_told s.told r ∷ [] }

-- a type after the earlier ones
unfoldable pub add_type : Known → Texts → Row × Span → Result Texts Span
add_type k s (r, span) = text k s r span >>= (λ ps. Ok (with_text s r ps))

unfoldable pub each_type : Known → Texts → List (Row × Span) → Result Texts Span
each_type k s [] = Ok s
each_type k s (r ∷ rs) = add_type k s r >>= (λ t. each_type k t rs)

abbrev pub type_rows : List (TypeOfShader × Span) → List (Row × Span)
type_rows xs = map (λ x. (type_row x.0, x.1)) xs

-- how each type is written where it is used
abbrev pub type_texts : Known → List (Row × Span) → Result Texts Span
type_texts k rs = each_type k (texts [] []) rs
