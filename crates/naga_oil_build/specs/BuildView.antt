-- The settings of a builder, and the results of a build.
use Rattle.std.specs.Prelude.{◌≡◌, ℕ, Bool, false, Result, Ok, Err, MatchOption, String, string_bytes}
use Rattle.std.specs.declared.alloc.Global.{Global}
use Rattle.naga_oil_ir.specs.Backend.{FrontEnd}
use Rattle.naga_oil_conditions.specs.View.{fault_of}
use Rattle.naga_oil_conditions.specs.declared.fault.ComposerErrorInner.{ComposerErrorInner}
use Rattle.naga_oil_link.specs.BuiltModule.{built_of}
use Rattle.naga_oil_link.specs.declared.module.ComposableModule.{ComposableModule}
use Rattle.naga_oil_build.specs.Build.{Unbuilt, WholeText}
use Rattle.naga_oil_build.specs.Held.{Settings, settings}
use Rattle.naga_oil_build.specs.declared.builder.Builder.{Builder}
use Rattle.naga_oil_build.specs.declared.builder.Unbuilt.{Unbuilt as CodeUnbuilt}
use Rattle.naga_oil_build.specs.declared.settings.Settings.{Settings as CodeSettings}

-- settings, with the front end as a value
abbrev pub settings_with : {B : Type 0} → (front : B → FrontEnd) → CodeSettings B → Settings
settings_with front s = settings (front s.front) s.capabilities s.validate s.override_any

-- settings with no capabilities, under which only virtual functions may be overridden
abbrev pub bare_settings : {B : Type 0} → (front : B) → (validate : Bool) → CodeSettings B
bare_settings front validate = record { front = front; capabilities = record { 0 = 0 }; validate = validate; override_any = false }

-- the settings of a builder
abbrev pub settings_in : {B : Type 0} → (front : B → FrontEnd) → Builder B → Settings
settings_in front b = settings_with front b.settings.now

-- a whole text, and what was built of it
abbrev pub whole_with : ComposableModule → String Global → WholeText
whole_with built text = record { text = string_bytes text; built = built_of built }

-- an error is the fault of the value, or out of memory
abbrev pub TellsUnbuilt : {Y : Type 0} → CodeUnbuilt → Result Y Unbuilt → Type 0
TellsUnbuilt e value = MatchOption (fault_of e.inner) (Unit {0}) (λ f. value ≡ Err (record { fault = f; offset = e.offset }))

-- a result, seen by view, is the value, or out of memory
abbrev pub GivesBuilt : {X Y : Type 0} → (X → Y) → Result X CodeUnbuilt → Result Y Unbuilt → Type 0
GivesBuilt view (Ok x) value = value ≡ Ok (view x)
GivesBuilt view (Err e) value = TellsUnbuilt e value

-- the same result, where a fault's places count from an offset
abbrev pub IsFromOffset : {X : Type 0} → ℕ → Result X ComposerErrorInner → Result X CodeUnbuilt → Type 0
IsFromOffset offset (Ok x) r = r ≡ Ok x
IsFromOffset offset (Err inner) r = r ≡ Err (record { inner = inner; offset = offset })
