-- Declarations of types, constants, overrides and global variables.
use Rattle.std.specs.Prelude.{ℕ, ◌/◌, ◌%◌, ◌==◌, if◌then◌else◌, true, List, [], ◌∷◌, ◌++◌, Option, Some, None, option_map, codes, Ok, Err}
use Rattle.naga_oil_ir.specs.Rows.{Row, Member, Kind, TypeKind, member_label, member_type}
use Rattle.naga_oil_ir.specs.declared.names.ItemPlace.{ItemPlace}
use Rattle.naga_oil_ir.specs.declared.names.ItemPlace.TheVariants.{TypeItem, ExpressionItem}
use Rattle.naga_oil_ir.specs.declared.span.Span.{Span}
use Rattle.naga_oil_ir.specs.declared.types.StructMember.{StructMember}
use Rattle.yettuvam_wgsl_names.specs.Table.{Name}
use Rattle.yettuvam_wgsl_pieces.specs.Pieces.{Piece, Word, Sign}
use Rattle.yettuvam_wgsl_pieces.specs.declared.sign.Sign.TheVariants as sign
use Rattle.yettuvam_wgsl_written.specs.Attributes.{binding, number_attribute}
use Rattle.yettuvam_wgsl_written.specs.Codes.{space_name}
use Rattle.yettuvam_wgsl_written.specs.Outcomes.{Outcome, ◌>>=◌, after, word}
use Rattle.yettuvam_wgsl_written.specs.Written.{Written, value_pieces}
use Rattle.yettuvam_wgsl_write_types.specs.Texts.{template}
use Rattle.yettuvam_wgsl_write_types.specs.Types.{pointer_kind, first_mark, space_access}
use Rattle.yettuvam_wgsl_write_expressions.specs.Context.{Context, type_text, declared}
use Rattle.yettuvam_wgsl_write_expressions.specs.Kinds.{handle_space}
use Rattle.yettuvam_wgsl_write_expressions.specs.Operands.{operand}
use Rattle.yettuvam_wgsl_write_expressions.specs.Shapes.{member_labels, member_types, struct_kind}
use Rattle.yettuvam_wgsl_write_items.specs.Text.{Inputs}

-- ---- structs and aliases

-- a size that the text gives; 0 stands for none
abbrev pub size_attribute : ℕ → List Piece
size_attribute size = if size == 0 then [] else number_attribute (codes "size") size

-- a name that must be there
abbrev pub given_name : Option Name → Span → Outcome
given_name name span = word name span

-- `NAME: TYPE,`
unfoldable pub typed_member : Context → Option Name → ℕ → Span → Outcome
typed_member c name ty span =
    given_name name span >>= (λ n. type_text c ty span
    >>= (λ t. Ok (n ++ Sign sign.Colon ∷ (t ++ Sign sign.MemberComma ∷ []))))

abbrev pub member_of_type : Context → Option Name → Option ItemPlace → Span → Outcome
member_of_type c name (Some (TypeItem ty)) span = typed_member c name ty span
member_of_type c name _ span = Err span

-- a member with its attributes
unfoldable pub member : Context → Member → Option ItemPlace → Span → Outcome
member c m ty span =
    binding m.binding span >>= (λ b. member_of_type c m.name ty span
    >>= (λ t. Ok (size_attribute m.offset ++ (b ++ t))))

-- a member of a struct
abbrev pub member_of : Context → StructMember → Span → Outcome
member_of c m span = member c (member_label m) (member_type m) span

-- the members of a struct after other pieces
unfoldable pub each_member : Context → Span → List Piece → List Member → List (Option ItemPlace) → Outcome
each_member c span s (m ∷ ms) (ty ∷ tys) = after s (member c m ty span) >>= (λ t. each_member c span t ms tys)
each_member c span s _ _ = Ok s

-- the members of a struct
abbrev pub put_members : Context → List StructMember → Span → List Piece → Outcome
put_members c ms span s = each_member c span s (member_labels ms) (member_types ms)

-- `struct NAME {`
abbrev pub struct_head : Name → List Piece
struct_head name = Sign sign.StructWord ∷ Word name ∷ Sign sign.LeftBrace ∷ []

-- `struct NAME { MEMBERS }`
unfoldable pub put_struct : Context → Name → List Member → List (Option ItemPlace) → Span → List Piece → Outcome
put_struct c name ms tys span s =
    each_member c span (s ++ struct_head name) ms tys >>= (λ t. Ok (t ++ Sign sign.RightBrace ∷ []))

abbrev pub put_struct_of : Context → Name → List StructMember → Span → List Piece → Outcome
put_struct_of c name ms span s = put_struct c name (member_labels ms) (member_types ms) span s

-- `alias NAME = TYPE;`
unfoldable pub alias : Context → Name → ℕ → Span → Outcome
alias c name base span =
    type_text c base span
    >>= (λ t. Ok (Sign sign.AliasWord ∷ Word name ∷ Sign sign.Equal ∷ (t ++ Sign sign.Semicolon ∷ [])))

-- a pointer type with a name
abbrev pub put_pointer : Context → Name → (base space : ℕ) → Span → List Piece → Outcome
put_pointer c name base space span s = if space == first_mark then after s (alias c name base span) else Err span

abbrev pub put_pointer_by : Context → Name → List (Option ℕ) → List (Option ItemPlace) → Span → List Piece → Outcome
put_pointer_by c name (Some space ∷ []) (Some (TypeItem base) ∷ []) span s = put_pointer c name base space span s
put_pointer_by c name _ _ span s = Err span

abbrev pub put_kind : Context → Name → ℕ → Row → Span → List Piece → Outcome
put_kind c name kind r span s =
    if kind == struct_kind then put_struct c name r.label.members r.names span s
    else (if kind == pointer_kind then put_pointer_by c name r.label.plain r.names span s else Err span)

abbrev pub put_named_by : Context → Name → Kind → Row → Span → List Piece → Outcome
put_named_by c name (TypeKind kind) r span s = put_kind c name kind r span s
put_named_by c name _ r span s = Err span

-- the declaration of a type that has a name, after other pieces
unfoldable pub put_named : Context → Name → Row → Span → List Piece → Outcome
put_named c name r span s = put_named_by c name r.label.kind r span s

abbrev pub put_type : Context → Option Name → Row → Span → List Piece → Outcome
put_type c (Some name) r span s = put_named c name r span s
put_type c None r span s = Ok s

-- ---- values

-- `= VALUE`
unfoldable pub initial_value : List Written → ℕ → Span → Outcome
initial_value known h span = operand known h span >>= (λ w. Ok (Sign sign.Equal ∷ value_pieces w true))

abbrev pub some_initial : List Written → Option ItemPlace → Span → Outcome
some_initial known (Some (ExpressionItem h)) span = initial_value known h span
some_initial known None span = Ok []
some_initial known _ span = Err span

-- the item that an initial value is, if there is one
abbrev pub item_of : Option ℕ → Option ItemPlace
item_of init = option_map ExpressionItem init

-- `NAME`, `: TYPE`, `= VALUE` and `;`
unfoldable pub declaration : Inputs → Name → ℕ → Option ItemPlace → Span → Outcome
declaration i name ty init span =
    declared i.context name ty span >>= (λ d. some_initial i.known init span
    >>= (λ v. Ok (d ++ (v ++ Sign sign.Semicolon ∷ []))))

-- of a type and a value, or of none
abbrev pub declaration_by : Inputs → Name → List (Option ItemPlace) → Span → Outcome
declaration_by i name (Some (TypeItem ty) ∷ init ∷ []) span = declaration i name ty init span
declaration_by i name _ span = Err span

-- ---- constants, overrides and global variables

-- `const`
unfoldable pub constant : Inputs → Option Name → Row → Span → Outcome
constant i (Some name) r span = after (Sign sign.ConstWord ∷ []) (declaration_by i name r.names span)
constant i None r span = Err span

abbrev pub id_attribute : Option ℕ → List Piece
id_attribute (Some id) = number_attribute (codes "id") id
id_attribute None = []

abbrev pub id_of : List (Option ℕ) → List Piece
id_of (id ∷ []) = id_attribute id
id_of _ = []

-- `override`; one without a name is written where its value is used
unfoldable pub of_override : Inputs → Option Name → Row → Span → Outcome
of_override i (Some name) r span =
    after (id_of r.label.plain ++ Sign sign.OverrideWord ∷ []) (declaration_by i name r.names span)
of_override i None r span = Ok []

-- an address space and its access mode; textures and samplers have none
unfoldable pub space : ℕ → Span → Outcome
space code span =
    if code == handle_space then Ok []
    else (word (space_name (code % 16)) span >>= (λ w. space_access code span >>= (λ a. Ok (template (w ++ a)))))

-- the group of a resource; the first part is its binding
abbrev pub group_unit : ℕ
group_unit = 4294967296

abbrev pub resource : Option ℕ → List Piece
resource (Some b) =
    number_attribute (codes "group") (b / group_unit) ++ number_attribute (codes "binding") (b % group_unit)
resource None = []

abbrev pub variable : Inputs → Name → List (Option ℕ) → List (Option ItemPlace) → Span → Outcome
variable i name (Some code ∷ b ∷ []) names span =
    space code span >>= (λ s. declaration_by i name names span
    >>= (λ d. Ok (resource b ++ Sign sign.VarWord ∷ (s ++ d))))
variable i name _ names span = Err span

-- `var`
unfoldable pub global : Inputs → Option Name → Row → Span → Outcome
global i (Some name) r span = variable i name r.label.plain r.names span
global i None r span = Err span

-- ---- all items

abbrev pub first_name : List (Option Name) → Option Name
first_name (n ∷ ns) = n
first_name [] = None

abbrev pub after_first : List (Option Name) → List (Option Name)
after_first (n ∷ ns) = ns
after_first [] = []

-- the declarations of types, each with its name, after other pieces
unfoldable pub each_type : Context → List (Option Name) → List Piece → List (Row × Span) → Outcome
each_type c names s [] = Ok s
each_type c names s (r ∷ rs) =
    put_type c (first_name names) r.0 r.1 s >>= (λ t. each_type c (after_first names) t rs)

unfoldable pub each_constant : Inputs → List (Option Name) → List Piece → List (Row × Span) → Outcome
each_constant i names s [] = Ok s
each_constant i names s (r ∷ rs) =
    after s (constant i (first_name names) r.0 r.1) >>= (λ t. each_constant i (after_first names) t rs)

unfoldable pub each_override : Inputs → List (Option Name) → List Piece → List (Row × Span) → Outcome
each_override i names s [] = Ok s
each_override i names s (r ∷ rs) =
    after s (of_override i (first_name names) r.0 r.1) >>= (λ t. each_override i (after_first names) t rs)

unfoldable pub each_global : Inputs → List (Option Name) → List Piece → List (Row × Span) → Outcome
each_global i names s [] = Ok s
each_global i names s (r ∷ rs) =
    after s (global i (first_name names) r.0 r.1) >>= (λ t. each_global i (after_first names) t rs)

abbrev pub put_types : Context → List Piece → Outcome
put_types c s = each_type c c.names.types s c.types

abbrev pub put_constants : Inputs → List Piece → Outcome
put_constants i s = each_constant i i.context.names.constants s i.context.constants

abbrev pub put_overrides : Inputs → List Piece → Outcome
put_overrides i s = each_override i i.context.names.overrides s i.context.overrides

abbrev pub put_globals : Inputs → List Piece → Outcome
put_globals i s = each_global i i.context.names.globals s i.context.globals

unfoldable pub put_first : Inputs → List Piece → Outcome
put_first i s = put_types i.context s >>= (λ t. put_constants i t)

unfoldable pub put_last : Inputs → List Piece → Outcome
put_last i s = put_overrides i s >>= (λ t. put_globals i t)

-- the declarations of a module, after other pieces
unfoldable pub put_items : Inputs → List Piece → Outcome
put_items i s = put_first i s >>= (λ t. put_last i t)
