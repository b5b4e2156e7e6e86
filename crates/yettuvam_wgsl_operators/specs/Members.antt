-- Pointers, members, swizzles and elements.
use Rattle.std.specs.Prelude.{ℕ, [], ◌∷◌, length, Option, Some, None, Ok, Err}
use Rattle.naga_oil_ir.specs.Parts.{parts}
use Rattle.naga_oil_ir.specs.declared.expression.Expression.TheVariants as expression
use Rattle.yettuvam_wgsl_machine.specs.Machine.{Node}
use Rattle.yettuvam_wgsl_predeclared.specs.Letters.{letter_number, swizzle_pattern}
use Rattle.yettuvam_wgsl_predeclared.specs.Words.{word_of}
use Rattle.yettuvam_wgsl_scope.specs.Refused.{Outcome, ◌>>=◌, fault}
use Rattle.yettuvam_wgsl_scope.specs.declared.refusal.Reason.TheVariants as reason
use Rattle.yettuvam_wgsl_types.specs.Types as types
use Rattle.yettuvam_wgsl_types.specs.declared.types.Member.{Member}
use Rattle.yettuvam_wgsl_types.specs.declared.types.Member.TheVariants as found
use Rattle.yettuvam_wgsl_types.specs.declared.shape.Shape.{Shape}
use Rattle.yettuvam_wgsl_types.specs.declared.shape.Shape.TheVariants as shape
use Rattle.yettuvam_wgsl_words.specs.Class.{Text}
use Rattle.yettuvam_wgsl_values.specs.Body.{State, Done, give, take_value, settle, operand, compute}
use Rattle.yettuvam_wgsl_values.specs.Value.{Value, What, Place, Pointer, Plain, Word, shaped, handle_of}
use Rattle.yettuvam_wgsl_operators.specs.Operators.{give_computed}

abbrev pub address_by : What → Value → Node → State → Done
address_by (Place place) v node s = give (shaped (Pointer place) v.shape) s
address_by _ v node s = Err (fault reason.NoReference node.span)

-- the pointer to a place
unfoldable pub address_of : Node → State → Done
address_of node s = take_value node s >>= (λ v. address_by v.what v node)

abbrev pub dereference_by : What → Value → Node → State → Done
dereference_by (Pointer place) v node s = give (shaped (Place place) v.shape) s
dereference_by _ v node s = Err (fault reason.NoPointer node.span)

-- the place of a pointer
unfoldable pub dereference : Node → State → Done
dereference node s = take_value node s >>= (λ v. dereference_by v.what v node)

-- a part of a place is a place, a part of a value is a value
abbrev pub part_of : What → ℕ → Shape → Value
part_of (Place p) place sh = shaped (Place place) sh
part_of (Pointer p) place sh = shaped (Place place) sh
part_of _ place sh = shaped (Plain place) sh

abbrev pub whole_by : What → Value → Node → State → Outcome State Value
whole_by (Place p) v node s = Ok (v, s)
whole_by (Pointer p) v node s = Ok (v, s)
whole_by _ v node s = settle v node s

-- the value of which a part is taken: it is read unless it is a place or a pointer
unfoldable pub whole : Value → Node → State → Outcome State Value
whole v node s = whole_by v.what v node s

unfoldable pub element : Value → (index : ℕ) → Node → State → Done
element v index node s =
    let sh = types.element s.types v.shape in
    compute (parts (expression.Access (handle_of v) index)) node.span s >>= (λ place. give (part_of v.what place sh))

-- an element by its index, which is the last value
unfoldable pub index : Node → State → Done
index node s =
    operand node s >>= (λ i t. take_value node t >>= (λ v u. whole v node u >>= (λ w. element w i node)))

unfoldable pub part : Value → (index : ℕ) → Shape → Node → State → Done
part v index sh node s =
    compute (parts (expression.AccessIndex (handle_of v) index)) node.span s >>= (λ place. give (part_of v.what place sh))

-- a part of a value by its number
unfoldable pub numbered_part : Value → (index : ℕ) → Shape → Node → State → Done
numbered_part v index sh node s = whole v node s >>= (λ w. part w index sh node)

abbrev pub read_by : What → Value → Node → State → Outcome State Value
read_by (Pointer place) v node s = settle (shaped (Place place) v.shape) node s
read_by _ v node s = settle v node s

-- the value that is read of a place or of a pointer's place
unfoldable pub read_whole : Value → Node → State → Outcome State Value
read_whole v node s = read_by v.what v node s

unfoldable pub swizzle_by : Value → (pattern : ℕ) → Node → State → Done
swizzle_by v pattern node s =
    read_whole v node s >>= (λ w. give_computed (parts (expression.Swizzle (length node.text) (handle_of w) pattern)) None node)

abbrev pub swizzle_if : Option ℕ → Value → Node → State → Done
swizzle_if (Some pattern) v node s = swizzle_by v pattern node s
swizzle_if None v node s = Err (fault reason.NoMember node.span)

-- two to four components of a vector by their letters
unfoldable pub swizzle : Value → Node → State → Done
swizzle v node s = swizzle_if (swizzle_pattern node.text) v node s

abbrev pub component_if : Option ℕ → Value → Node → State → Done
component_if (Some index) v node s = numbered_part v index shape.Plain node s
component_if None v node s = Err (fault reason.NoMember node.span)

unfoldable pub component : Value → (letter : ℕ) → Node → State → Done
component v letter node s = component_if (letter_number letter) v node s

abbrev pub by_letters_of : Text → Value → Node → State → Done
by_letters_of (letter ∷ []) v node s = component v letter node s
by_letters_of [] v node s = swizzle v node s
by_letters_of (a ∷ b ∷ more) v node s = swizzle v node s

-- one component or more of a vector by their letters
unfoldable pub by_letters : Value → Node → State → Done
by_letters v node s = by_letters_of node.text v node s

abbrev pub member_found : Member → Value → Node → State → Done
member_found (found.Typed number ty) v node s = numbered_part v number (types.shape_of s.types ty) node s
member_found (found.Untyped number) v node s = numbered_part v number shape.Plain node s
member_found found.Missing v node s = Err (fault reason.NoMember node.span)
member_found found.NoStruct v node s = by_letters v node s

unfoldable pub member_by : Value → Member → Node → State → Done
member_by v m node s = member_found m v node s

unfoldable pub member_of : Value → Node → State → Done
member_of v node s = member_by v (types.member s.types v.shape (word_of node.text)) node s

abbrev pub member_in : What → Value → Node → State → Done
member_in (Word name) v node s = give v s
member_in _ v node s = member_of v node s

-- a member of a value, a swizzle, or the second part of a word with a point
unfoldable pub member : Node → State → Done
member node s = take_value node s >>= (λ v. member_in v.what v node)
