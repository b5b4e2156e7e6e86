-- Copies of functions.
use Rattle.std.specs.Prelude.{ℕ, ◌≡◌, List, [], ◌∷◌, map, Option, Some, None, option_map, option_to_list, slice_get, nat_eq, String, string_bytes}
use Rattle.std.specs.Global.{Global}
use Rattle.std.specs.List.{flat_map}
use Rattle.std.specs.Option.{option_flatten}
use Rattle.indexmap.specs.IndexMap.{insert_entry}
use Rattle.naga_oil_ir.specs.Body.{Tokens}
use Rattle.naga_oil_form.specs.BodyForm.{places}
use Rattle.naga_oil_form.specs.Links.{started}
use Rattle.naga_oil_ir.specs.ModuleValue.{FunctionValue, ArgumentValue, LocalValue}
use Rattle.naga_oil_ir.specs.declared.module.FunctionResult.{FunctionResult}
use Rattle.naga_oil_ir.specs.declared.span.Span.{Span}
use Rattle.naga_oil_ir.specs.declared.tokens.Token.{Token}
use Rattle.naga_oil_ir.specs.declared.tokens.Token.TheVariants.{Emitted}
use Rattle.naga_oil_rename.specs.Renames.{Renames, rename_tokens}
use Rattle.naga_oil_walk.specs.Walk.{walked, others}
use Rattle.naga_oil_derive.specs.Copies.{Table, place_under, under_table, value_links, AreCopies}

-- names as plain data
abbrev pub named_values : List (ℕ × String Global) → List (ℕ × List ℕ)
named_values es = map (λ e. (e.0, string_bytes e.1)) es

-- an argument under a renaming
abbrev pub argument_under : Renames → ArgumentValue → ArgumentValue
argument_under r a = record a { ty = r.ty a.ty }

-- a function's result under a renaming
abbrev pub result_under : Renames → FunctionResult → FunctionResult
result_under r a = record a { ty = r.ty a.ty }

-- a local variable under a renaming
abbrev pub local_under : Renames → LocalValue × Span → LocalValue × Span
local_under r l = (record { name = l.0.name; ty = r.ty l.0.ty; init = option_map r.expression l.0.init }, r.span l.1)

-- a name of the copy of what it names, if that has one
abbrev pub name_put : Option ℕ → List ℕ → List (ℕ × List ℕ) → List (ℕ × List ℕ)
name_put None n done = done
name_put (Some h) n done = insert_entry nat_eq done h n

-- the names of copies, in order; a copy with more than one name keeps the last, at the place of the first
abbrev pub names_under : Table → List (ℕ × List ℕ) → List (ℕ × List ℕ) → List (ℕ × List ℕ)
names_under t done [] = done
names_under t done (e ∷ es) = names_under t (name_put (option_flatten (slice_get t e.0)) e.1 done) es

-- an emitted range's copy covers exactly the copies of its places, in order, without those in s
abbrev pub IsCovered : Table → (ℕ × ℕ → ℕ × ℕ) → List ℕ → Token → Type 0
IsCovered t f s (Emitted r) = places (f r) ≡ map (place_under t) (others s (places r))
IsCovered t f s _ = Unit {0}

abbrev pub AreCovered : Table → (ℕ × ℕ → ℕ × ℕ) → List ℕ → Tokens → Type 0
AreCovered t f s [] = Unit {0}
AreCovered t f s (x ∷ ts) = IsCovered t f s x × AreCovered t f s ts

-- what the initialisers of a function reach
abbrev pub begun : FunctionValue → List ℕ
begun v = started (value_links v.expressions) (flat_map (λ l. option_to_list l.0.init) v.local_variables)

-- the expressions of a function in the order of first reach
abbrev pub order_of : FunctionValue → List ℕ
order_of v =
    walked (map (λ e. e.0.kind) v.expressions) (value_links v.expressions)
    (flat_map (λ l. option_to_list l.0.init) v.local_variables) v.body

-- w is a copy of the function v, where r renames items and functions
pub record Copies (r : Renames) (v w : FunctionValue) : Type 0 where
  -- the place of each expression's copy
  pub table : Table
  -- the range that each emitted range maps to
  pub range : ℕ × ℕ → ℕ × ℕ
  pub name : w.name ≡ v.name
  pub arguments : w.arguments ≡ map (argument_under r) v.arguments
  pub outcome : w.result ≡ option_map (result_under r) v.result
  pub expressions : AreCopies r v.expressions (begun v) (order_of v) table w.expressions
  pub locals : w.local_variables ≡ map (local_under (under_table r table range)) v.local_variables
  pub named_expressions : w.named_expressions ≡ names_under table [] v.named_expressions
  pub body : w.body ≡ rename_tokens (under_table r table range) v.body
  pub emits : AreCovered table range (begun v) v.body
  pub leaf : w.diagnostic_filter_leaf ≡ None
