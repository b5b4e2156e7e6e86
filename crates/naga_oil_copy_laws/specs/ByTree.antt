-- Copies of functions without the handles of either module: items by their trees, callees by their names.
use Rattle.std.specs.Prelude.{ℕ, ◌≡◌, ◌<◌, ◌⊎◌, true, List, [], ◌++◌, length, map, Option, Some, None, option_map, option_to_list, slice_get, IfSome}
use Rattle.std.specs.List.{filter}
use Rattle.std.specs.Map.{keys_of}
use Rattle.naga_oil_ir.specs.Parts.{Parts}
use Rattle.naga_oil_ir.specs.Rows.{Text, named_place}
use Rattle.naga_oil_form.specs.BodyForm.{callee, places}
use Rattle.naga_oil_form.specs.Links.{has, added}
use Rattle.naga_oil_ir.specs.ModuleValue.{FunctionValue}
use Rattle.naga_oil_ir.specs.declared.parts.Named.{Named}
use Rattle.naga_oil_ir.specs.declared.names.ItemPlace.TheVariants.{TypeItem}
use Rattle.naga_oil_ir.specs.declared.span.Span.{Span}
use Rattle.naga_oil_ir.specs.declared.tokens.Token.{Token}
use Rattle.naga_oil_ir.specs.declared.tokens.Token.TheVariants.{GiveCall, Callee}
use Rattle.naga_oil_derive.specs.CopiedFunctionLaw.{reached_in, EmitsAt}
use Rattle.naga_oil_derive.specs.Functions.{argument_under, result_under, local_under, begun}
use Rattle.naga_oil_rename.specs.Renames.{Renames, rename, rename_tokens, rename_place}
use Rattle.naga_oil_walk.specs.Walk.{others}
use Rattle.naga_oil_copy_laws.specs.Scope.{Scope, ReadAlike, CalledAlike}

-- ---- expressions

-- initialisers or the body reach the expression at k
abbrev pub IsReached : FunctionValue → ℕ → Type 0
IsReached f k = has (reached_in f) k ≡ true

-- initialisers reach the expression at k
abbrev pub IsBegun : FunctionValue → ℕ → Type 0
IsBegun f k = has (begun f) k ≡ true

-- the expression at k of f has its copy in g, which reads as the expression with its names renamed
pub record HasCopy (r : Renames) (f g : FunctionValue) (k : ℕ) : Type 0 where
  pub source : Parts × Span
  pub copy : Parts × Span
  pub at_source : slice_get f.expressions k ≡ Some source
  pub at_copy : slice_get g.expressions (r.expression k) ≡ Some copy
  pub reads : copy.0 ≡ rename r source.0

-- the copy of the expression at k has the moved span of an expression that it copies
pub record HasSpan (moves : Span → Span) (r : Renames) (f g : FunctionValue) (k : ℕ) : Type 0 where
  pub first : ℕ
  pub reached : IsReached f first
  pub same : r.expression first ≡ r.expression k
  pub spans :
      (x y : Parts × Span) → slice_get f.expressions first ≡ Some x →
      slice_get g.expressions (r.expression k) ≡ Some y → y.1 ≡ moves x.1

-- what f reaches maps onto what g reaches
pub record GoesOnto (moves : Span → Span) (r : Renames) (f g : FunctionValue) : Type 0 where
  -- each reached expression has a copy
  pub copies : (k : ℕ) → IsReached f k → HasCopy r f g k
  pub spans : (k : ℕ) → IsReached f k → HasSpan moves r f g k
  -- everything that the copy reaches is the copy of a reached expression
  pub onto : (h : ℕ) → IsReached g h → (k : ℕ) × IsReached f k × (r.expression k ≡ h)
  -- two expressions share a copy only if initialisers reach both
  pub shared :
      (j k : ℕ) → IsReached f j → IsReached f k → r.expression j ≡ r.expression k →
      (j ≡ k) ⊎ (IsBegun f j × IsBegun f k)

-- ---- names of expressions

-- the reached expressions of f that have names, in order
abbrev pub named_places : FunctionValue → List ℕ
named_places f = added [] (filter (λ k. has (reached_in f) k) (keys_of f.named_expressions))

-- the expression at k has the name n
abbrev pub IsNamed : FunctionValue → ℕ → List ℕ → Type 0
IsNamed f k n = (i : ℕ) × (slice_get f.named_expressions i ≡ Some (k, n))

-- the copy at h has the name n of one that it copies
pub record NameComes (r : Renames) (f : FunctionValue) (h : ℕ) (n : List ℕ) : Type 0 where
  pub place : ℕ
  pub reached : IsReached f place
  pub named : IsNamed f place n
  pub goes : r.expression place ≡ h

-- copies of named expressions have names, in order; a copy with more than one name keeps one, at the place of the first
pub record KeepNames (r : Renames) (f g : FunctionValue) : Type 0 where
  pub order : named_places g ≡ added [] (map r.expression (named_places f))
  pub each : (h : ℕ) (n : List ℕ) → IsReached g h → IsNamed g h n → NameComes r f h n

-- ---- what a function names

-- the types of arguments, of the result and of local variables
abbrev pub types_in : FunctionValue → List ℕ
types_in f =
    (map (λ a. a.ty) f.arguments ++ option_to_list (option_map (λ r. r.ty) f.result)) ++
    map (λ l. l.0.ty) f.local_variables

-- what an expression names reads alike: an item by its tree, a function by its name
abbrev pub NamesAlike : (Text → Text) → Scope → Scope → Renames → Named → Type 0
NamesAlike sends a b r n =
    IfSome (named_place n) (λ p. ReadAlike a b p (rename_place r p)) ×
    IfSome (callee n) (λ h. CalledAlike sends a b h (r.function h))

-- the function that a part of a body calls
abbrev pub callee_in : Token → Option ℕ
callee_in (Callee f) = Some f
callee_in (GiveCall f h) = Some f
callee_in _ = None

-- what f names in one scope reads like what it maps to in another
pub record NameAlike (sends : Text → Text) (a b : Scope) (r : Renames) (f : FunctionValue) : Type 0 where
  pub types : (k : ℕ) → has (types_in f) k ≡ true → ReadAlike a b (TypeItem k) (TypeItem (r.ty k))
  pub expressions :
      (k : ℕ) (e : Parts × Span) → IsReached f k → slice_get f.expressions k ≡ Some e →
      NamesAlike sends a b r e.0.named
  pub callees :
      (i : ℕ) (t : Token) → slice_get f.body i ≡ Some t →
      IfSome (callee_in t) (λ h. CalledAlike sends a b h (r.function h))

-- ---- nothing else

-- initialisers or the body reach each expression of g, each name is that of an expression that is there, and g has no leaf of
-- diagnostic filters
pub record HasNothingElse (g : FunctionValue) : Type 0 where
  pub expressions : (h : ℕ) → h < length g.expressions → IsReached g h
  pub names : (i : ℕ) (e : ℕ × List ℕ) → slice_get g.named_expressions i ≡ Some e → IsReached g e.0
  pub leaf : g.diagnostic_filter_leaf ≡ None

-- ---- functions

-- g in the scope b is a copy of f in the scope a: spans are moved, items read alike, and where f calls a function, g calls the one
-- whose name stands for that function's
pub record CopiesByTree
    (moves : Span → Span) (sends : Text → Text) (a : Scope) (f : FunctionValue) (b : Scope)
    (g : FunctionValue) : Type 0 where
  -- what handles, emitted ranges and spans map to
  pub goes : Renames
  pub name : g.name ≡ f.name
  pub arguments : g.arguments ≡ map (argument_under goes) f.arguments
  pub outcome : g.result ≡ option_map (result_under goes) f.result
  pub locals : g.local_variables ≡ map (local_under goes) f.local_variables
  pub body : g.body ≡ rename_tokens goes f.body
  pub spans : (s : Span) → goes.span s ≡ moves s
  pub expressions : GoesOnto moves goes f g
  -- an emitted range covers exactly the copies of its places, in order, without those that initialisers reach
  pub emits :
      (i : ℕ) (p : ℕ × ℕ) → EmitsAt f i p →
      places (goes.range p) ≡ map goes.expression (others (begun f) (places p))
  pub names : KeepNames goes f g
  pub alike : NameAlike sends a b goes f
  pub nothing_else : HasNothingElse g
