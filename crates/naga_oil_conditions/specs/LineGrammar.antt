-- The kinds of lines as a grammar: the pieces of a line, one after another. Each run is as long as
-- possible, each kind is read after the line's `#`, and the text after its last piece is ignored.
use Rattle.std.specs.Prelude.{◌≡◌, ℕ, Bool, true, false, List, [], ◌∷◌, ◌++◌, Option, Some, None, codes, encode_utf8_all, bytes_eq, ◌||◌, ◌⊎◌, ◌↔◌}
use Rattle.std.specs.List.{list_all}
use Rattle.std.specs.Char.{is_whitespace, is_not_whitespace, is_ascii_digit}
use Rattle.naga_oil_conditions.specs.LineKinds.{is_name_char, is_value_char, is_operator_char}

-- whether the characters begin with one of the class
abbrev pub starts_in : (class : ℕ → Bool) → List ℕ → Bool
starts_in class [] = false
starts_in class (c ∷ cs) = class c

-- all characters of the class at the front, perhaps none, and the rest
pub record IsRun (class : ℕ → Bool) (cs run rest : List ℕ) : Type 0 where
  pub whole : cs ≡ run ++ rest
  pub inside : list_all class run ≡ true
  pub stops : starts_in class rest ≡ false

-- the text of such a run, with at least one character, and the rest
pub record IsWord (class : ℕ → Bool) (cs text rest : List ℕ) : Type 0 where
  pub first : ℕ
  pub more : List ℕ
  pub run : IsRun class cs (first ∷ more) rest
  pub spelled : text ≡ encode_utf8_all (first ∷ more)

-- white space, perhaps none, and the rest
abbrev pub IsAfterWhite : (cs rest : List ℕ) → Type 0
IsAfterWhite cs rest = (white : List ℕ) × IsRun is_whitespace cs white rest

-- white space, at least one character, and the rest
abbrev pub IsAfterGap : (cs rest : List ℕ) → Type 0
IsAfterGap cs rest = (c : ℕ) × (white : List ℕ) × IsRun is_whitespace cs (c ∷ white) rest

-- the line's `#`, with perhaps white space before it, and the rest
abbrev pub IsAfterHash : (line rest : List ℕ) → Type 0
IsAfterHash line rest = IsAfterWhite line (codes "#" ++ rest)

-- perhaps white space, the word, and the rest
abbrev pub IsAfterKeyword : (word cs rest : List ℕ) → Type 0
IsAfterKeyword word cs rest = IsAfterWhite cs (word ++ rest)

-- perhaps white space, the word, white space, and the rest
abbrev pub IsAfterDirective : (word cs rest : List ℕ) → Type 0
IsAfterDirective word cs rest = (following : List ℕ) × IsAfterKeyword word cs following × IsAfterGap following rest

-- `else` and white space if the arm is a further one of its chain, and the rest
abbrev pub IsAfterElse : (is_else : Bool) → (cs rest : List ℕ) → Type 0
IsAfterElse true cs rest = (following : List ℕ) × (cs ≡ codes "else" ++ following) × IsAfterGap following rest
IsAfterElse false cs rest = cs ≡ rest

-- perhaps white space and an `else`, the word of an arm, white space, and the rest
pub record IsAfterArm (word : List ℕ) (is_else : Bool) (cs rest : List ℕ) : Type 0 where
  pub start : List ℕ
  pub following : List ℕ
  pub front : IsAfterWhite cs start
  pub perhaps : IsAfterElse is_else start (word ++ following)
  pub gap : IsAfterGap following rest

-- perhaps `else`, the word, and a name
pub record IsNamedArm (word : List ℕ) (is_else : Bool) (name cs : List ℕ) : Type 0 where
  pub rest : List ℕ
  pub more : List ℕ
  pub arm : IsAfterArm word is_else cs rest
  pub spelling : IsWord is_name_char rest name more

-- `version` and digits; known are 440 and 450
pub record IsVersion (known : Bool) (cs : List ℕ) : Type 0 where
  pub following : List ℕ
  pub rest : List ℕ
  pub number : List ℕ
  pub more : List ℕ
  pub word : cs ≡ codes "version" ++ following
  pub gap : IsAfterGap following rest
  pub digits : IsWord is_ascii_digit rest number more
  pub knows : known ≡ (bytes_eq number (codes "440") || bytes_eq number (codes "450"))

abbrev pub IsIfdef : (is_else : Bool) (name cs : List ℕ) → Type 0
IsIfdef is_else name cs = IsNamedArm (codes "ifdef") is_else name cs

abbrev pub IsIfndef : (is_else : Bool) (name cs : List ℕ) → Type 0
IsIfndef is_else name cs = IsNamedArm (codes "ifndef") is_else name cs

-- an operator, perhaps empty, and a value, with perhaps white space before each
pub record IsOperation (operator value cs : List ℕ) : Type 0 where
  pub start : List ℕ
  pub sign : List ℕ
  pub following : List ℕ
  pub rest : List ℕ
  pub more : List ℕ
  pub front : IsAfterWhite cs start
  pub run : IsRun is_operator_char start sign following
  pub spelled : operator ≡ encode_utf8_all sign
  pub white : IsAfterWhite following rest
  pub operand : IsWord is_value_char rest value more

-- a name, then an operator and a value
pub record IsCompared (name operator value cs : List ℕ) : Type 0 where
  pub rest : List ℕ
  pub spelling : IsWord is_name_char cs name rest
  pub operation : IsOperation operator value rest

-- a name of two characters or more with no value after it: its last character is the value, and the
-- operator is empty
pub record IsCut (name operator value cs : List ℕ) : Type 0 where
  pub first : ℕ
  pub more : List ℕ
  pub last : ℕ
  pub rest : List ℕ
  pub run : IsRun is_name_char cs (first ∷ (more ++ (last ∷ []))) rest
  pub alone : (o v : List ℕ) → IsOperation o v rest → ⊥
  pub front : name ≡ encode_utf8_all (first ∷ more)
  pub empty : operator ≡ []
  pub end : value ≡ encode_utf8_all (last ∷ [])

-- perhaps `else`, `if`, and a name with an operator and a value
pub record IsIf (is_else : Bool) (name operator value cs : List ℕ) : Type 0 where
  pub rest : List ℕ
  pub arm : IsAfterArm (codes "if") is_else cs rest
  pub parts : IsCompared name operator value rest ⊎ IsCut name operator value rest

-- `else`, then anything
abbrev pub IsElse : List ℕ → Type 0
IsElse cs = (rest : List ℕ) × IsAfterKeyword (codes "else") cs rest

-- `endif`, then anything
abbrev pub IsEndif : List ℕ → Type 0
IsEndif cs = (rest : List ℕ) × IsAfterKeyword (codes "endif") cs rest

-- `import` and white space
abbrev pub IsImport : List ℕ → Type 0
IsImport cs = (rest : List ℕ) × IsAfterDirective (codes "import") cs rest

-- `define_import_path` and a path, of characters that are no white space
pub record IsImportPath (path cs : List ℕ) : Type 0 where
  pub rest : List ℕ
  pub more : List ℕ
  pub word : IsAfterDirective (codes "define_import_path") cs rest
  pub spelling : IsWord is_not_whitespace rest path more

-- the value after a define's name, if there is one
abbrev pub IsDefineValue : Option (List ℕ) → List ℕ → Type 0
IsDefineValue (Some value) cs = (more : List ℕ) × IsWord is_value_char cs value more
IsDefineValue None cs = starts_in is_value_char cs ≡ false

-- `define`, a name, and perhaps a value
pub record IsDefine (name : List ℕ) (value : Option (List ℕ)) (cs : List ℕ) : Type 0 where
  pub rest : List ℕ
  pub following : List ℕ
  pub start : List ℕ
  pub word : IsAfterDirective (codes "define") cs rest
  pub spelling : IsWord is_name_char rest name following
  pub white : IsAfterWhite following start
  pub definition : IsDefineValue value start

-- a reader returns groups exactly if the characters have the form with these groups
abbrev pub Reads : {A : Type 0} → (reader : List ℕ → Option A) → (form : A → List ℕ → Type 0) → Type 0
Reads {A = A} reader form = (cs : List ℕ) (groups : A) → (reader cs ≡ Some groups) ↔ form groups cs

-- a test holds exactly if the characters have the form
abbrev pub Tests : (test : List ℕ → Bool) → (form : List ℕ → Type 0) → Type 0
Tests test form = (cs : List ℕ) → (test cs ≡ true) ↔ form cs
