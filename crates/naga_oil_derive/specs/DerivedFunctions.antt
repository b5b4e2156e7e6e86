-- What a caller sees of copies of functions.
use Rattle.std.specs.Prelude.{◌≡◌, ◌<◌, ◌⊎◌, ℕ, zero, suc, List, [], ◌∷◌, ◌++◌, length, map, Option, Some, None, option_map, option_to_list, slice_get, unwrap_or, All, IfSome, IsSome, bytes_eq}
use Rattle.std.specs.List.{flat_map}
use Rattle.std.specs.Map.{lookup}
use Rattle.indexmap.specs.IndexMap.{insert_entry}
use Rattle.naga_oil_ir.specs.Rows.{Row, Text}
use Rattle.naga_oil_form.specs.Links.{Links}
use Rattle.naga_oil_form.specs.BodyForm.{callee, MayStand}
use Rattle.naga_oil_ir.specs.ModuleValue.{ModuleValue, FunctionValue, LocalValue}
use Rattle.naga_oil_ir.specs.declared.module.Module.{Module}
use Rattle.naga_oil_ir.specs.declared.module.Function.{Function}
use Rattle.naga_oil_ir.specs.declared.names.ItemPlace.{ItemPlace}
use Rattle.naga_oil_ir.specs.declared.names.ItemPlace.TheVariants.{TypeItem}
use Rattle.naga_oil_ir.specs.declared.parts.Named.{Named}
use Rattle.naga_oil_ir.specs.declared.span.Span.{Span}
use Rattle.naga_oil_walk.specs.declared.walk.Request.{Request}
use Rattle.naga_oil_walk.specs.declared.walk.Request.TheVariants.{Item, Call}
use Rattle.naga_oil_rename.specs.Renames.{Renames}
use Rattle.naga_oil_derive.specs.World.{world, shifted, Begins, Extends}
use Rattle.naga_oil_derive.specs.Copying.{handle_under}
use Rattle.naga_oil_derive.specs.Copies.{value_links}
use Rattle.naga_oil_derive.specs.Functions.{Copies}
use Rattle.naga_oil_walk.specs.Naming.{names_from, token_names}
use Rattle.naga_oil_derive.specs.Derived.{Source, Derived, IsImported, ReadsAsBefore, Keeps, KeepsSource}

-- ---- functions by their names

-- names with the functions that they mean
abbrev pub Meanings : Type 0
Meanings = List (List ℕ × ℕ)

abbrev pub meant : Meanings → Text → Option ℕ
meant ns None = None
meant ns (Some n) = lookup (bytes_eq n) ns

abbrev pub meant_at : Meanings → Option (FunctionValue × Span) → Option ℕ
meant_at ns None = None
meant_at ns (Some e) = meant ns e.0.name

-- what the items and functions of a source map to
abbrev pub going : Source → Meanings → Renames
going s ns = record {
  ty = handle_under s.places.types;
  constant = handle_under s.places.constants;
  pipeline_override = handle_under s.places.overrides;
  global = handle_under s.places.global_variables;
  function = λ h. unwrap_or (meant_at ns (slice_get s.value.functions h)) h;
  expression = handle_under s.places.global_expressions;
  range = λ r. r;
  span = shifted s.offset;
}

-- ---- what can be copied

-- the kinds of the expressions of a function, and what they name
abbrev pub kinds_in : FunctionValue → List ℕ
kinds_in f = map (λ e. e.0.kind) f.expressions

abbrev pub named_in : FunctionValue → List Named
named_in f = map (λ e. e.0.named) f.expressions

-- the initialisers of local variables
abbrev pub initialisers_in : FunctionValue → List ℕ
initialisers_in f = flat_map (λ l. option_to_list l.0.init) f.local_variables

-- what a local variable names
abbrev pub local_requests : List Named → Links → LocalValue × Span → List Request
local_requests ns ls l = Item (TypeItem l.0.ty) ∷ flat_map (names_from ns ls) (option_to_list l.0.init)

-- the types of arguments and of the result
abbrev pub signature_requests : FunctionValue → List Request
signature_requests f =
    map (λ a. Item (TypeItem a.ty)) f.arguments ++
    option_to_list (option_map (λ r. Item (TypeItem r.ty)) f.result)

-- what a function names, in the order of copying
abbrev pub requests_of : FunctionValue → List Request
requests_of f =
    (signature_requests f ++
    flat_map (local_requests (named_in f) (value_links f.expressions)) f.local_variables) ++
    flat_map (token_names (kinds_in f) (named_in f) (value_links f.expressions)) f.body

-- what is named is there: an item, or a function that passes a test
abbrev pub MayAsk : ModuleValue → (ℕ → Type 0) → Request → Type 0
MayAsk m P (Item p) = (r : Row) × (world m p ≡ Some r)
MayAsk m P (Call f) = (f < length m.functions) × P f

-- a function passes the test of form, except that its calls may be of any functions that pass a test
pub record MayCopy (m : ModuleValue) (P : ℕ → Type 0) (f : FunctionValue) : Type 0 where
  pub form : MayStand (kinds_in f) (map callee (named_in f)) (value_links f.expressions) (initialisers_in f) f.body
  pub requests : All (MayAsk m P) (requests_of f)

-- a function can be called: its name is known, or it has a name and can be copied, where calls of functions whose names aren't
-- known nest at most n levels
abbrev pub MayCall : ModuleValue → Meanings → ℕ → ℕ → Type 0
MayCall m ns zero f = IsSome (meant_at ns (slice_get m.functions f))
MayCall m ns (suc n) f =
    IsSome (meant_at ns (slice_get m.functions f)) ⊎
    IfSome (slice_get m.functions f) (λ e. IsSome e.0.name × MayCopy m (MayCall m ns n) e.0)

-- a function can be called in a source, where such calls nest at most as many levels as the source has functions
abbrev pub MayReach : Meanings → Source → ℕ → Type 0
MayReach ns s f = MayCall s.value ns (length s.value.functions) f

-- a source is set, and a function over its handles can be copied
abbrev pub CanCopy : Derived → FunctionValue → Type 0
CanCopy d f = IsSome d.source × IfSome d.source (λ s. MayCopy s.value (MayReach d.function_names s) f)

-- a function with a name can be copied
abbrev pub CanImport : Derived → FunctionValue → Type 0
CanImport d f = CanCopy d f × IsSome f.name

-- a source is set, and has a function at k that can be called
abbrev pub CanCall : Derived → ℕ → Type 0
CanCall d k = IsSome d.source × IfSome d.source (λ s. MayAsk s.value (MayReach d.function_names s) (Call k))

-- ---- what is copied

-- a module with these functions
abbrev pub having : Module → List (Function × Span) → Module
having m fs = record m { functions = fs }

-- a module with the functions of another
abbrev pub with_functions : ModuleValue → ModuleValue → ModuleValue
with_functions m n = record m { functions = n.functions }

-- each item and function keeps its handle and its span, each known name is known, and the source stays
pub record KeepsFunctions (d e : Derived) : Type 0 where
  pub items : Extends d.target (with_functions e.target d.target)
  pub functions : Begins d.target.functions e.target.functions
  pub names : (n : Text) → IsSome (meant d.function_names n) → IsSome (meant e.function_names n)
  pub source : KeepsSource d.source e.source

-- each known name keeps its meaning
abbrev pub KeepsMeanings : Derived → Derived → Type 0
KeepsMeanings d e = (n : Text) (h : ℕ) → meant d.function_names n ≡ Some h → meant e.function_names n ≡ Some h

-- g is a copy of f, by what items and functions map to
abbrev pub IsLocalized : Derived → FunctionValue → FunctionValue → Type 0
IsLocalized e f g = IfSome e.source (λ s. Copies (going s e.function_names) f g)

-- names, with one name that now means h
abbrev pub meaning : Meanings → Text → ℕ → Meanings
meaning ns None h = ns
meaning ns (Some n) h = insert_entry bytes_eq ns n h

-- a copy of f is appended to d, at h, with its span; its name means the copy from then on, and its calls are by the names before
pub record ComesLast (s : Source) (f : FunctionValue) (span : Span) (d e : Derived) (h : ℕ) : Type 0 where
  pub copy : FunctionValue
  pub copies : Copies (going s d.function_names) f copy
  pub target : e.target ≡ record d.target { functions = d.target.functions ++ (copy, shifted s.offset span) ∷ [] }
  pub place : h ≡ length d.target.functions
  pub names : e.function_names ≡ meaning d.function_names f.name h
  pub means : meant e.function_names f.name ≡ Some h
  pub source : e.source ≡ d.source

-- requests are answered one after another: an item is copied with what it reaches, a function whose name isn't known after what
-- that function names
pub data Answers (v : ModuleValue) : Derived → List Request → Derived → Type 0 where
  AllAnswered : {d : Derived} → Answers v d [] d
  ItemCopied :
      {d e f : Derived} {p : ItemPlace} {rs : List Request} (q : ItemPlace) → IsImported d e p q →
      ReadsAsBefore d e → Keeps d e → Answers v e rs f → Answers v d (Item p ∷ rs) f
  NameKnown :
      {d f : Derived} {k h : ℕ} {rs : List Request} →
      meant_at d.function_names (slice_get v.functions k) ≡ Some h → Answers v d rs f →
      Answers v d (Call k ∷ rs) f
  FunctionCopied :
      {d e f g : Derived} {k : ℕ} {x : FunctionValue × Span} {rs : List Request} (h : ℕ) →
      meant_at d.function_names (slice_get v.functions k) ≡ None →
      slice_get v.functions k ≡ Some x → Answers v d (requests_of x.0) e →
      IfSome e.source (λ s. ComesLast s x.0 x.1 e f h) → Answers v f rs g →
      Answers v d (Call k ∷ rs) g

-- the requests of d's source were answered
abbrev pub AreAnswered : Derived → List Request → Derived → Type 0
AreAnswered d rs e = IfSome d.source (λ s. Answers s.value d rs e)

-- the requests of f were answered, and then its copy was appended, at h; known names keep their meanings until then
pub record FunctionStands (d e : Derived) (f : FunctionValue) (span : Span) (h : ℕ) (s : Source) : Type 0 where
  pub between : Derived
  pub answered : Answers s.value d (requests_of f) between
  pub known : KeepsMeanings d between
  pub last : ComesLast s f span between e h

abbrev pub IsFunctionImported : Derived → Derived → FunctionValue → Span → ℕ → Type 0
IsFunctionImported d e f span h = IfSome e.source (FunctionStands d e f span h)

-- the name of the source's function at k means h
abbrev pub MeansAt : Derived → ℕ → ℕ → Type 0
MeansAt e k h = IfSome e.source (λ s. meant_at e.function_names (slice_get s.value.functions k) ≡ Some h)
