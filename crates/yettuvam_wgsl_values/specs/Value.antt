-- What parts of a text give, and what names mean.
use Rattle.std.specs.Prelude.{ℕ, List, map, Option, None}
use Rattle.yettuvam_wgsl_scope.specs.Items.{Name, name_view}
use Rattle.yettuvam_wgsl_shape.specs.declared.number.Number.{Number}
use Rattle.yettuvam_wgsl_types.specs.declared.shape.Shape.{Shape}
use Rattle.yettuvam_wgsl_types.specs.declared.shape.Shape.TheVariants as shape
use Rattle.yettuvam_wgsl_values.specs.declared.value.Returns.{Returns}
use Rattle.yettuvam_wgsl_values.specs.declared.value.What.{What as WhatOfCode}
use Rattle.yettuvam_wgsl_values.specs.declared.value.What.TheVariants as code
use Rattle.yettuvam_wgsl_values.specs.declared.value.Value.{Value as ValueOfCode}

-- what a part of a text gives
pub data What : Type 0 where
  -- the expression of a place in memory, which is read where its value is wanted
  Place : ℕ → What
  -- the expression of a place in memory, of which the pointer is the value
  Pointer : ℕ → What
  -- an expression
  Plain : ℕ → What
  -- a literal, a constant or an override of which there is no expression yet
  Literal : (kind bits : ℕ) → What
  Constant : ℕ → What
  Override : ℕ → What
  -- a function of the module
  Callee : ℕ → Returns → What
  TypeAt : ℕ → What
  -- a word that no declaration of the module means
  Word : Name → What
  -- `bitcast` with its type
  Cast : (kind : ℕ) → What
  -- `var` without an address space, and with one
  NoSpace : What
  Space : ℕ → What
  -- `default` of a switch
  Default : What
  -- what is left out
  Absent : What
  -- the result of a function that returns nothing
  Nothing : What

abbrev pub what_view : WhatOfCode → What
what_view (code.Place place) = Place place
what_view (code.Pointer place) = Pointer place
what_view (code.Plain place) = Plain place
what_view (code.Literal kind bits) = Literal kind bits
what_view (code.Constant place) = Constant place
what_view (code.Override place) = Override place
what_view (code.Callee function returns) = Callee function returns
what_view (code.«Type» place) = TypeAt place
what_view (code.Word name) = Word (name_view name)
what_view (code.Cast kind) = Cast kind
what_view code.NoSpace = NoSpace
what_view (code.Space space) = Space space
what_view code.Default = Default
what_view code.Absent = Absent
what_view code.Nothing = Nothing

-- a value that nothing has taken yet
pub record Value : Type 0 where
  pub what : What
  pub shape : Shape
  -- what it is, if the front end can compute it
  pub number : Option Number

abbrev pub value_view : ValueOfCode → Value
value_view v = record { what = what_view v.what; shape = v.shape; number = v.number }

abbrev pub values_view : List ValueOfCode → List Value
values_view vs = map value_view vs

-- a value of a shape
abbrev pub shaped : What → Shape → Value
shaped what s = record { what = what; shape = s; number = None }

-- a value of which nothing more is known
abbrev pub bare : What → Value
bare what = shaped what shape.Plain

-- the expression of a value that is read
abbrev pub place_in : What → ℕ
place_in (Place place) = place
place_in (Pointer place) = place
place_in (Plain place) = place
place_in _ = 0

abbrev pub handle_of : Value → ℕ
handle_of v = place_in v.what

abbrev pub handles : List Value → List ℕ
handles vs = map handle_of vs
