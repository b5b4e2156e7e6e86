-- Modules whose calls may go to any function, and their copies with sorted functions.
use Rattle.std.specs.Prelude.{ℕ, ◌≡◌, ◌<◌, Bool, length, option_map, slice_get, Some, Ok, IsSome}
use Rattle.naga_oil_ir.specs.ModuleValue.{ModuleValue, FunctionValue, EntryValue}
use Rattle.naga_oil_form.specs.NameForm.{Name}
use Rattle.naga_oil_ir.specs.declared.names.ItemPlace.TheVariants.{TypeItem}
use Rattle.naga_oil_ir.specs.declared.span.Span.{Span}
use Rattle.naga_oil_ir.specs.Spans.{u32_max}
use Rattle.naga_oil_derive.specs.CopiedLaw.{IsCopyable, AreSpecial}
use Rattle.naga_oil_derive.specs.declared.special.SpecialKey.{SpecialKey}
use Rattle.naga_oil_derive.specs.World.{world, special_at}
use Rattle.naga_oil_form_laws.specs.EntryForm.{IsEntryFormed, IsModuleFormed}
use Rattle.naga_oil_form_laws.specs.FunctionForm.{IsFunctionFormed}
use Rattle.naga_oil_redirect.specs.PutInOrder.{put_in_order}
use Rattle.naga_oil_redirect.specs.Redirected.{redirected}
use Rattle.naga_oil_copy_laws.specs.Scope.{ReadAlike, scope_of}
use Rattle.naga_oil_copy_laws.specs.ByTreeLaw.{IsAsCopied}
use Rattle.naga_oil_copy_laws.specs.SentByTree.{IsOnlyOfItsName, AreAsCopied}
use Rattle.naga_oil_link_laws.specs.HeldBuild.{CopiesAs}

-- the items of a module can be copied, and its functions and entry points pass the test of form, except that calls may go to any
-- of its functions; each function has a name, and the names are distinct
pub record CallsAnywhere (m : ModuleValue) : Type 0 where
  pub items : IsCopyable m
  pub special : AreSpecial m
  pub named : (k : ℕ) (e : FunctionValue × Span) → slice_get m.functions k ≡ Some e → IsSome e.0.name
  pub distinct :
      (j k : ℕ) (e f : FunctionValue × Span) → slice_get m.functions j ≡ Some e → slice_get m.functions k ≡ Some f →
      e.0.name ≡ f.0.name → j ≡ k
  pub forms : (k : ℕ) (e : FunctionValue × Span) → slice_get m.functions k ≡ Some e → IsFunctionFormed m (length m.functions) u32_max e.0
  pub entry_points : (i : ℕ) (v : EntryValue) → slice_get m.entry_points i ≡ Some v → IsEntryFormed m u32_max v

-- LAW: this holds of a module of good form
abbrev pub FormedCallsLaw : Type 0
FormedCallsLaw = (m : ModuleValue) → IsModuleFormed m → CallsAnywhere m

-- calls that can be redirected: from a function that is there to one that is there
pub record MaySend (m : ModuleValue) (from to : ℕ) : Type 0 where
  pub as_copied : AreAsCopied m
  pub only : IsOnlyOfItsName (scope_of m) from
  pub there : to < length m.functions

-- LAW: this still holds after calls are redirected
abbrev pub SentCallsLaw : Type 0
SentCallsLaw = (m : ModuleValue) (from to : ℕ) (omitted : Name → Bool) → CallsAnywhere m → MaySend m from to →
    ((i : ℕ) (v : EntryValue) → slice_get m.entry_points i ≡ Some v → IsAsCopied v.function) →
    CallsAnywhere (redirected m from to omitted)

-- n has special types for the keys for which m has one, and they read as those of m
pub record KeepsSpecialTypes (m n : ModuleValue) : Type 0 where
  pub places : ℕ → ℕ
  pub keys : (key : SpecialKey) → special_at n.special_types key ≡ option_map places (special_at m.special_types key)
  pub alike : (key : SpecialKey) (k : ℕ) → special_at m.special_types key ≡ Some k → ReadAlike (scope_of m) (scope_of n) (TypeItem k) (TypeItem (places k))

-- LAW: if such a module can be sorted, the result copies it, and keeps its special types
abbrev pub OrderedCopiesLaw : Type 0
OrderedCopiesLaw = (m n : ModuleValue) → CallsAnywhere m → put_in_order m ≡ Ok n →
    CopiesAs (world m) m n × KeepsSpecialTypes m n
