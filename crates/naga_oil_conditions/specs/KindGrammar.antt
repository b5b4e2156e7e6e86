-- The kind of a line by grammar: the first kind of the table that fits.
use Rattle.std.specs.Prelude.{◌≡◌, ◌⊎◌, ℕ, Bool, true, List, Option}
use Rattle.std.specs.Str.{chars}
use Rattle.naga_oil_conditions.specs.Kind.{LineKind, version, condition, endif, imports, import_path, define, other, defined, undefined, compares, otherwise}
use Rattle.naga_oil_conditions.specs.LineGrammar.{IsAfterHash, IsVersion, IsIfdef, IsIfndef, IsIf, IsElse, IsEndif, IsImport, IsImportPath, IsDefine}

-- the kind of a row that fits, or else that of the rows below it
infixr 20 ◌above◌
abbrev pub ◌above◌ : (row rows : LineKind → Type 0) → LineKind → Type 0
row above rows = λ k. row k ⊎ (((j : LineKind) → row j → ⊥) × rows k)

-- the rows of the table, each with the kind that it makes of the characters after a `#`
abbrev pub IfdefRow : List ℕ → LineKind → Type 0
IfdefRow cs k = (is_else : Bool) × (name : List ℕ) × (k ≡ condition is_else (defined name)) × IsIfdef is_else name cs

abbrev pub IfndefRow : List ℕ → LineKind → Type 0
IfndefRow cs k = (is_else : Bool) × (name : List ℕ) × (k ≡ condition is_else (undefined name)) × IsIfndef is_else name cs

abbrev pub IfRow : List ℕ → LineKind → Type 0
IfRow cs k = (is_else : Bool) × (name : List ℕ) × (operator : List ℕ) × (value : List ℕ) × (k ≡ condition is_else (compares name operator value)) × IsIf is_else name operator value cs

abbrev pub ElseRow : List ℕ → LineKind → Type 0
ElseRow cs k = (k ≡ condition true otherwise) × IsElse cs

abbrev pub EndifRow : List ℕ → LineKind → Type 0
EndifRow cs k = (k ≡ endif) × IsEndif cs

abbrev pub ImportRow : List ℕ → LineKind → Type 0
ImportRow cs k = (k ≡ imports) × IsImport cs

abbrev pub ImportPathRow : List ℕ → LineKind → Type 0
ImportPathRow cs k = (path : List ℕ) × (k ≡ import_path path) × IsImportPath path cs

abbrev pub DefineRow : List ℕ → LineKind → Type 0
DefineRow cs k = (name : List ℕ) × (value : Option (List ℕ)) × (k ≡ define name value) × IsDefine name value cs

-- a line that fits no row is of no kind
abbrev pub OtherRow : LineKind → Type 0
OtherRow k = k ≡ other

-- the kind of the characters after a `#`
abbrev pub IsKindAfterHash : List ℕ → LineKind → Type 0
IsKindAfterHash cs = IfdefRow cs above (IfndefRow cs above (IfRow cs above (ElseRow cs above (EndifRow cs above (ImportRow cs above (ImportPathRow cs above (DefineRow cs above OtherRow)))))))

-- the kind of a line with a `#`
abbrev pub HashRow : (line : List ℕ) → LineKind → Type 0
HashRow line k = (cs : List ℕ) × IsAfterHash (chars line) cs × IsKindAfterHash cs k

abbrev pub VersionRow : (line : List ℕ) → LineKind → Type 0
VersionRow line k = (cs : List ℕ) × (known : Bool) × IsAfterHash (chars line) cs × (k ≡ version known) × IsVersion known cs

-- the kind of a line where versions are not read
abbrev pub IsUnversionedKind : (line : List ℕ) → LineKind → Type 0
IsUnversionedKind line = HashRow line above OtherRow

-- the kind of a line
abbrev pub IsKind : (line : List ℕ) → LineKind → Type 0
IsKind line = VersionRow line above IsUnversionedKind line
