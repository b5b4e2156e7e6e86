-- The items and functions that a function names, in the order of copying.
use Rattle.std.specs.Prelude.{ℕ, zero, suc, ◌≡◌, List, [], ◌∷◌, ◌++◌, map, Option, Some, None, option_map, option_to_list, slice_get}
use Rattle.std.specs.List.{flat_map}
use Rattle.naga_oil_form.specs.Links.{Links, linked}
use Rattle.naga_oil_ir.specs.Body.{block_tokens}
use Rattle.naga_oil_form.specs.BodyForm.{kinds, callee, named_of, operand_links}
use Rattle.naga_oil_ir.specs.declared.module.Function.{Function}
use Rattle.naga_oil_ir.specs.declared.types.LocalVariable.{LocalVariable}
use Rattle.naga_oil_ir.specs.declared.span.Span.{Span}
use Rattle.naga_oil_ir.specs.declared.parts.Named.{Named}
use Rattle.naga_oil_ir.specs.Rows.{named_place}
use Rattle.naga_oil_ir.specs.declared.names.ItemPlace.{ItemPlace}
use Rattle.naga_oil_ir.specs.declared.names.ItemPlace.TheVariants.{TypeItem}
use Rattle.naga_oil_walk.specs.declared.walk.Request.{Request}
use Rattle.naga_oil_walk.specs.declared.walk.Request.TheVariants.{Item, Call}
use Rattle.naga_oil_ir.specs.declared.tokens.Token.{Token}
use Rattle.naga_oil_ir.specs.declared.tokens.Token.TheVariants.{Callee}
use Rattle.naga_oil_walk.specs.Walk.{brief}

-- the request of an item, if there is one
abbrev pub requested : Option ItemPlace → List Request
requested None = []
requested (Some p) = Item p ∷ []

abbrev pub item_of : Option Named → Option ItemPlace
item_of None = None
item_of (Some n) = named_place n

-- the request of a named item or function
abbrev pub asked : Named → List Request
asked n = option_to_list (option_map Call (callee n)) ++ requested (named_place n)

-- the request of the item that the expression at a place names
abbrev pub requests_at : List Named → ℕ → List Request
requests_at ns k = requested (item_of (slice_get ns k))

-- the items that an expression and all expressions that it reaches name; n is greater than its place
abbrev pub naming : ℕ → List Named → Links → ℕ → List Request
naming zero ns ls k = []
naming (suc n) ns ls k = requests_at ns k ++ flat_map (naming n ns ls) (linked ls k)

unfoldable pub names_from : List Named → Links → ℕ → List Request
names_from ns ls k = naming (suc k) ns ls k

-- the requests of a local variable: its type, and the items that its initialiser reaches
abbrev pub local_names : List Named → Links → LocalVariable × Span → List Request
local_names ns ls l = Item (TypeItem l.0.ty) ∷ flat_map (names_from ns ls) (option_to_list l.0.init)

-- the requests of a part of a body: the called function, or the items that the listed expressions name
abbrev pub token_names : List ℕ → List Named → Links → Token → List Request
token_names ks ns ls (Callee f) = Call f ∷ []
token_names ks ns ls t = flat_map (requests_at ns) (brief ks ls t)

-- the types of arguments and of the result
abbrev pub signature_names : Function → List Request
signature_names f = map (λ a. Item (TypeItem a.ty)) f.arguments.items ++ option_to_list (option_map (λ r. Item (TypeItem r.ty)) f.result)

-- a function has neither local variables nor statements
abbrev pub IsStub : Function → Type 0
IsStub f = (f.local_variables ≡ []) × (block_tokens f.body ≡ [])

-- the requests of a function, with repeats
abbrev pub function_names : Function → List Request
function_names f =
    (signature_names f ++ flat_map (local_names (named_of f.expressions) (operand_links f.expressions)) f.local_variables) ++ flat_map (token_names (kinds f.expressions) (named_of f.expressions) (operand_links f.expressions)) (block_tokens f.body)

-- ---- without repeats

abbrev pub IsAmong : List Request → Request → Type 0
IsAmong xs x = (i : ℕ) × (slice_get xs i ≡ Some x)

-- ys is xs without some elements that occur earlier in xs, or in s
pub data Thins : List Request → List Request → List Request → Type 0 where
  Ends : {s : List Request} → Thins s [] []
  Keeps : {s xs ys : List Request} {x : Request} → Thins (s ++ x ∷ []) xs ys → Thins s (x ∷ xs) (x ∷ ys)
  Drops : {s xs ys : List Request} {x : Request} → IsAmong s x → Thins s xs ys → Thins s (x ∷ xs) ys

-- new is old followed by xs without some repeats
abbrev pub Adds : List Request → List Request → List Request → Type 0
Adds old xs new = (ys : List Request) × (new ≡ old ++ ys) × Thins old xs ys
