-- The destinations of a base's calls that are redirected along a chain of replacements, by names.
use Rattle.std.specs.Prelude.{ℕ, ◌≡◌, ◌<◌, Bool, false, List, [], ◌∷◌, map, length, slice_get, Some, Ok, IsSome, All, bytes_eq, ◌||◌, if◌then◌else◌}
use Rattle.naga_oil_ir.specs.ModuleValue.{ModuleValue, FunctionValue, EntryValue}
use Rattle.naga_oil_form.specs.NameForm.{Name}
use Rattle.naga_oil_ir.specs.Rows.{Text}
use Rattle.naga_oil_ir.specs.declared.span.Span.{Span}
use Rattle.naga_oil_redirect.specs.Ordered.{callees_of, function_name_at}
use Rattle.naga_oil_redirect.specs.Redirected.{is_named, matched, redirected}

-- ---- destinations of calls

-- the last of some replacements, or the base if there are none
abbrev pub last_of : List Name → (base : Name) → Name
last_of [] base = base
last_of (r ∷ rs) base = last_of rs r

-- the destination of a caller's call of the base: if the caller is one of the replacements, what stands before it in the chain of
-- the base and its replacements; otherwise the last replacement
abbrev pub destination : List Name → (caller : Text) → (base : Name) → Name
destination [] caller base = base
destination (r ∷ rs) caller base = if is_named (λ n. bytes_eq n r) caller then base else destination rs caller r

-- ---- redirections one after another

-- n is m with the calls of a function redirected to the first of others, those of the first to the second, and so on; calls in
-- omitted functions and in earlier replacements stay
pub data SentInTurn :
    (m : ModuleValue) → (original : Name) → (others : List Name) → (omitted : Name → Bool) →
    (n : ModuleValue) → Type 0 where
  NoMore : {m : ModuleValue} {original : Name} {omitted : Name → Bool} → SentInTurn m original [] omitted m
  OneMore :
      {m n : ModuleValue} {original other : Name} {more : List Name} {omitted : Name → Bool} (pair : ℕ × ℕ) →
      matched m.functions original other ≡ Ok pair →
      SentInTurn (redirected m pair.0 pair.1 omitted) other more (λ name. bytes_eq name other || omitted name) n →
      SentInTurn m original (other ∷ more) omitted n

abbrev pub none_omitted : Name → Bool
none_omitted name = false

-- ---- what is called

-- what a function calls, in order, by name
abbrev pub called : List (FunctionValue × Span) → FunctionValue → List Name
called fs f = map (function_name_at fs) (callees_of f.body)

-- where one calls the base, the other calls what the call is redirected to
abbrev pub AreSent : (base to : Name) → (before after : List Name) → Type 0
AreSent base to before after = (i : ℕ) → slice_get before i ≡ Some base → slice_get after i ≡ Some to

-- g, of n, has the name of a function of m, and calls the destination where that function calls the base
pub record IsSentFunction (base : Name) (rs : List Name) (m n : ModuleValue) (g : FunctionValue) : Type 0 where
  pub place : ℕ
  pub source : FunctionValue × Span
  pub at : slice_get m.functions place ≡ Some source
  pub name : source.0.name ≡ g.name
  pub calls : AreSent base (destination rs g.name base) (called m.functions source.0) (called n.functions g)

-- the entry point at i of m calls the base where y, of n, calls the last replacement
pub record IsSentEntry (base : Name) (rs : List Name) (m n : ModuleValue) (i : ℕ) (y : EntryValue) : Type 0 where
  pub source : EntryValue
  pub at : slice_get m.entry_points i ≡ Some source
  pub calls : AreSent base (last_of rs base) (called m.functions source.function) (called n.functions y.function)

-- a function of that name is there
abbrev pub HasFunction : ModuleValue → Text → Type 0
HasFunction n name = (k : ℕ) × (g : FunctionValue × Span) × (slice_get n.functions k ≡ Some g) × (g.0.name ≡ name)

-- n has the functions and entry points of m, with each call of the base redirected to its destination
pub record IsSentDown (base : Name) (rs : List Name) (m n : ModuleValue) : Type 0 where
  pub functions :
      (k : ℕ) (g : FunctionValue × Span) → slice_get n.functions k ≡ Some g → IsSentFunction base rs m n g.0
  pub all : (k : ℕ) (f : FunctionValue × Span) → slice_get m.functions k ≡ Some f → HasFunction n f.0.name
  pub entry_points : (i : ℕ) (y : EntryValue) → slice_get n.entry_points i ≡ Some y → IsSentEntry base rs m n i y
  pub as_many : length n.entry_points ≡ length m.entry_points

-- ---- modules whose calls are known by names

-- called functions are there
abbrev pub CallsWithin : ModuleValue → FunctionValue → Type 0
CallsWithin m f = All (λ c. c < length m.functions) (callees_of f.body)

-- functions have names of their own, and called functions are there
pub record HasNamedCalls (m : ModuleValue) : Type 0 where
  pub named : (k : ℕ) (e : FunctionValue × Span) → slice_get m.functions k ≡ Some e → IsSome e.0.name
  pub distinct :
      (j k : ℕ) (e f : FunctionValue × Span) → slice_get m.functions j ≡ Some e → slice_get m.functions k ≡ Some f →
      e.0.name ≡ f.0.name → j ≡ k
  pub functions : (k : ℕ) (e : FunctionValue × Span) → slice_get m.functions k ≡ Some e → CallsWithin m e.0
  pub entry_points : (i : ℕ) (y : EntryValue) → slice_get m.entry_points i ≡ Some y → CallsWithin m y.function
