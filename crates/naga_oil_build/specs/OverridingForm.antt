-- The functions that are overridden in builds: each is listed once, and no function overrides two.
use Rattle.std.specs.Prelude.{ℕ, ◌≡◌, Bool, true, false, List, [], ◌∷◌, ◌++◌, slice_get, Option, Some, Ok, bytes_eq, All}
use Rattle.std.specs.List.{list_any}
use Rattle.naga_oil_lines.specs.Decorate.{base32, decorated_name}
use Rattle.naga_oil_words.specs.Marks.{override_mark}
use Rattle.naga_oil_words.specs.Texts.{is_among}
use Rattle.naga_oil_imports.specs.Uses.{Use}
use Rattle.naga_oil_registry.specs.Registered.{Registered}
use Rattle.naga_oil_link.specs.BuiltModule.{BuiltModule, Builds, Overriding}
use Rattle.naga_oil_build.specs.Build.{WholeText, begin_build, write_whole}
use Rattle.naga_oil_build.specs.Held.{Settings}
use Rattle.naga_oil_build.specs.Virtuals.{override_name, overrides_in}

-- ---- names

-- a name is that of a function that overrides an item of a module, whose name is base, within another module or a shader
pub record IsOverrideName (base name : List ℕ) : Type 0 where
  pub item : List ℕ
  pub module_name : List ℕ
  pub within : Option (List ℕ)
  pub is : base ≡ decorated_name (Some module_name) item
  pub named : name ≡ override_name item (base32 module_name) (decorated_name within [])

-- LAW: such a name determines what the function overrides
abbrev pub NameLaw : Type 0
NameLaw = (a b name : List ℕ) → IsOverrideName a name → IsOverrideName b name → a ≡ b

-- ---- all that is overridden

-- whether a function is overridden
abbrev pub is_overridden : Overriding → (base : List ℕ) → Bool
is_overridden all base = list_any (λ o. bytes_eq base o.0) all

-- each overridden function is listed once, and those that override it are named accordingly
abbrev pub OverridesEachOnce : Overriding → Type 0
OverridesEachOnce [] = Unit {0}
OverridesEachOnce (o ∷ more) = (is_overridden more o.0 ≡ false) × All (IsOverrideName o.0) o.1 × OverridesEachOnce more

-- two functions are distinct, and none overrides both
pub record ShareNoName (a b : List ℕ × List (List ℕ)) : Type 0 where
  pub base : bytes_eq b.0 a.0 ≡ false
  pub names : (n : List ℕ) → is_among b.1 n ≡ true → is_among a.1 n ≡ false

-- no two of the overridden functions share an overriding one
abbrev pub NoNameShared : Overriding → Type 0
NoNameShared all = (i j : ℕ) (a b : List ℕ × List (List ℕ)) →
    slice_get all i ≡ Some a → slice_get all j ≡ Some b → (j ≡ i → ⊥) → ShareNoName a b

-- LAW: this holds if each is listed once
abbrev pub NoNameSharedLaw : Type 0
NoNameSharedLaw = (all : Overriding) → OverridesEachOnce all → NoNameShared all

-- ---- builds

-- each overridden function is listed once in each build
abbrev pub BuildsOverrideOnce : Builds → Type 0
BuildsOverrideOnce builds = (i : ℕ) (e : List ℕ × BuiltModule) → slice_get builds i ≡ Some e → OverridesEachOnce e.1.overriding

-- LAW: and then also in the build of a whole text over these
abbrev pub WholeTextLaw : Type 0
WholeTextLaw = (s : Settings) (d : Registered) (builds : Builds) (uses : List Use) (text : List ℕ) (whole : WholeText) →
    BuildsOverrideOnce builds → write_whole s d builds text (begin_build builds d uses) ≡ Ok whole → OverridesEachOnce whole.built.overriding

-- ---- names without the mark of an override

-- the mark of an override stands nowhere in a name
abbrev pub LacksOverrideMark : List ℕ → Type 0
LacksOverrideMark n = (x y : List ℕ) → n ≡ x ++ override_mark ++ y → ⊥

-- no function that is overridden has the mark in its name
abbrev pub BasesLackMark : Overriding → Type 0
BasesLackMark all = All (λ o. LacksOverrideMark o.0) all

-- neither of two overridden functions overrides the other
abbrev pub NeitherOverrides : (a b : List ℕ × List (List ℕ)) → Type 0
NeitherOverrides a b = (is_among a.1 b.0 ≡ false) × (is_among b.1 a.0 ≡ false)

-- LAW: of overridden functions whose names lack the mark, none overrides another
abbrev pub NoneOverridesLaw : Type 0
NoneOverridesLaw = (all : Overriding) → OverridesEachOnce all → BasesLackMark all →
    (i j : ℕ) (a b : List ℕ × List (List ℕ)) → slice_get all i ≡ Some a → slice_get all j ≡ Some b → NeitherOverrides a b

-- ---- texts without overrides of overriding functions

-- the names after the keyword of an override in a text lack the mark: the text overrides no function that overrides another
abbrev pub OverridesOriginals : (text : List ℕ) → Type 0
OverridesOriginals text = All (λ f. LacksOverrideMark f.name) (overrides_in text)

-- in each build no overridden function has the mark in its name
abbrev pub BuildsLackMark : Builds → Type 0
BuildsLackMark builds = (i : ℕ) (e : List ℕ × BuiltModule) → slice_get builds i ≡ Some e → BasesLackMark e.1.overriding

-- LAW: then this also holds of the build of a whole text over these, if the text overrides no overriding function
abbrev pub OriginalsLaw : Type 0
OriginalsLaw = (s : Settings) (d : Registered) (builds : Builds) (uses : List Use) (text : List ℕ) (whole : WholeText) →
    BuildsLackMark builds → OverridesOriginals text → write_whole s d builds text (begin_build builds d uses) ≡ Ok whole →
    BasesLackMark whole.built.overriding
