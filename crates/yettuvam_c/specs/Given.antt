-- The definitions of a caller.
use Rattle.std.specs.Prelude.{◌≡◌, ℕ, zero, suc, ◌+◌, ◌==◌, ◌⊎◌, nat_lt, if◌then◌else◌, ℤ, pos, negsuc, Bool, true, false, List, [], ◌∷◌, Option, Some, None, Result, Ok, Err, ⊤}
use Rattle.std.specs.Str.{IsUtf8}
use Rattle.naga_oil_conditions.specs.Fault.{Definitions}
use Rattle.naga_oil_pre.specs.Metadata.{none_defined, with_definition}
use Rattle.naga_oil_registry.specs.Merged.{with_def}
use Rattle.naga_oil_registry.specs.Registered.{Defs}
use Rattle.naga_oil_conditions.specs.declared.shader_def.ShaderDefValue.{ShaderDefValue}
use Rattle.naga_oil_conditions.specs.declared.shader_def.ShaderDefValue.TheVariants as def
use Rattle.yettuvam_c.specs.Kinds.{bool_kind, int_kind, uint_kind}
use Rattle.yettuvam_c.specs.declared.page.Define.{Define}
use Rattle.yettuvam_c.specs.declared.page.Source.{Source}
use Rattle.yettuvam_c.specs.declared.given.Refusal.{Refusal}
use Rattle.yettuvam_c.specs.declared.given.Refusal.TheVariants.{Memory, NotUtf8, BadDefinition}

abbrev pub is_true : ℤ → Bool
is_true (pos zero) = false
is_true (pos (suc n)) = true
is_true (negsuc n) = true

-- the number of values of an `i32` from 0 on, and of a `u32`
abbrev pub i32_values : ℕ
i32_values = 2147483648

abbrev pub u32_values : ℕ
u32_values = 4294967296

-- a number that an `i32` holds
abbrev pub int_value : ℤ → Option ShaderDefValue
int_value (pos n) = if nat_lt n i32_values then Some (def.Int (pos n)) else None
int_value (negsuc n) = if nat_lt n i32_values then Some (def.Int (negsuc n)) else None

-- a number that a `u32` holds
abbrev pub uint_value : ℤ → Option ShaderDefValue
uint_value (pos n) = if nat_lt n u32_values then Some (def.UInt n) else None
uint_value (negsuc n) = None

-- the value with a kind, if the kind is known and can hold the value
abbrev pub given_value : (kind : ℕ) → ℤ → Option ShaderDefValue
given_value kind value =
    if kind == bool_kind then Some (def.Bool (is_true value))
    else (if kind == int_kind then int_value value
    else (if kind == uint_kind then uint_value value else None))

-- the definitions, with these added one after the other, the first of which has the index; or the index of the first without a
-- value
abbrev pub defined_by : ℕ → Definitions → List Define → Result Definitions ℕ
defined_by index defs [] = Ok defs
defined_by index defs (d ∷ more) = elim (given_value d.kind d.value) [ None ↦ Err index | Some value ↦ defined_by (index + 1) (with_definition defs d.name.now value) more ]

-- definitions in byte order of their names, with these that have a value added one after the other
abbrev pub listed : Defs → List Define → Defs
listed defs [] = defs
listed defs (d ∷ more) = elim (given_value d.kind d.value) [ None ↦ listed defs more | Some value ↦ listed (with_def defs (d.name.now, value)) more ]

-- a name isn't UTF-8
abbrev pub HasOther : List Define → Type 0
HasOther [] = ⊥
HasOther (d ∷ more) = (IsUtf8 d.name.now → ⊥) ⊎ HasOther more

-- a source isn't UTF-8
abbrev pub IsNotText : Source → Type 0
IsNotText source = (IsUtf8 source.path.now → ⊥) ⊎ (IsUtf8 source.text.now → ⊥)

-- the errors of a source
abbrev pub RefusesSource : Source → Refusal → Type 0
RefusesSource source Memory = ⊤
RefusesSource source NotUtf8 = IsNotText source
RefusesSource source (BadDefinition index) = ⊥

-- the errors of the definition at an index
abbrev pub RefusesOne : ℕ → Define → Refusal → Type 0
RefusesOne index d Memory = ⊥
RefusesOne index d NotUtf8 = IsUtf8 d.name.now → ⊥
RefusesOne index d (BadDefinition i) = (i ≡ index) × (given_value d.kind d.value ≡ None)

-- the errors of definitions
abbrev pub RefusesGiven : List Define → Refusal → Type 0
RefusesGiven definitions Memory = ⊤
RefusesGiven definitions NotUtf8 = HasOther definitions
RefusesGiven definitions (BadDefinition index) = defined_by 0 none_defined definitions ≡ Err index

-- the errors of a source with definitions
abbrev pub Refuses : Source → List Define → Refusal → Type 0
Refuses source given Memory = ⊤
Refuses source given NotUtf8 = IsNotText source ⊎ HasOther given
Refuses source given (BadDefinition index) = defined_by 0 none_defined given ≡ Err index
