-- The types of the import reader, seen as those of `Leaves`.
use Rattle.std.specs.Prelude.{ℕ, Bool, true, false, Option, Some, None, Result, Err, List, ◌++◌, ◌≡◌, map, codes, string_bytes, MatchOption}
use Rattle.naga_oil_imports.specs.Leaves as lines
use Rattle.naga_oil_imports.specs.Leaves.{SyntaxFault}
use Rattle.naga_oil_imports.specs.ImportReader.{Reader}
use Rattle.naga_oil_imports.specs.declared.parse_imports.ImportFault.{ImportFault}
use Rattle.naga_oil_imports.specs.declared.parse_imports.ImportFault.TheVariants.{Syntax, Memory}
use Rattle.naga_oil_imports.specs.declared.parse_imports.Alias.{Alias}
use Rattle.naga_oil_imports.specs.declared.parse_imports.Alias.TheVariants.{NoAlias, Name, Lacking}
use Rattle.naga_oil_imports.specs.declared.parse_imports.ImportPart.{ImportPart}
use Rattle.naga_oil_imports.specs.declared.parse_imports.ImportPart.TheVariants.{Head, Item, Close, Nothing, Wrong}
use Rattle.naga_oil_imports.specs.declared.parse_imports.Leaf.{Leaf}
use Rattle.naga_oil_imports.specs.declared.parse_imports.ImportLine.{ImportLine}

-- the fault; out of memory is none
abbrev pub fault_of : ImportFault → Option SyntaxFault
fault_of (Syntax text at) = Some (text.now, at)
fault_of Memory = None

-- the error is the fault of the value, or out of memory
abbrev pub RefusesImport : {X : Type 0} → ImportFault → Result X SyntaxFault → Type 0
RefusesImport e value = MatchOption (fault_of e) (Unit {0}) (λ f. value ≡ Err f)

abbrev pub alias_of : Alias → lines.Alias
alias_of NoAlias = lines.no_alias
alias_of (Name name) = lines.as_name name.now
alias_of (Lacking at) = lines.lacking at

-- the head that a name is, in the old form or before a brace
abbrev pub head_of : List ℕ → Bool → lines.ImportPart
head_of name true = lines.head true (name ++ codes "::")
head_of name false = lines.head false name

abbrev pub part_of : ImportPart → lines.ImportPart
part_of (Head name is_old) = head_of name.now is_old
part_of (Item key name) = lines.leaf key.now name.now
part_of (Close at) = lines.close at
part_of Nothing = lines.nothing
part_of (Wrong text at) = lines.wrong (text.now, at)

abbrev pub leaf_of : Leaf → lines.Leaf
leaf_of l = (string_bytes l.key, string_bytes l.path)

abbrev pub reader_of : ImportLine → Reader
reader_of l = record { heads = map string_bytes l.heads.items; old_form = l.has_old_form; leaves = map leaf_of l.leaves.items }
