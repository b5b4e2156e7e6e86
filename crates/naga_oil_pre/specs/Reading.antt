-- The reading of a text: a tree of lines, imports and chains of arms.
use Rattle.std.specs.Prelude.{◌≡◌, ℕ, zero, suc, ◌+◌, ◌-◌, ◌*◌, length, Bool, true, false, not, ◌&&◌, ◌||◌, ◌==◌, count_by, List, [], ◌∷◌, ◌++◌}
use Rattle.naga_oil_words.specs.Bytes.{open_brace, close_brace}
use Rattle.naga_oil_conditions.specs.Line.{Line}
use Rattle.naga_oil_conditions.specs.Kind.{LineKind, version, condition, endif, imports, import_path, define, other, kind_of}
use Rattle.naga_oil_conditions.specs.Fault.{Definitions, holds}

mutual
  -- units, one after another
  pub data Block : Type 0 where
    nothing : Block
    -- a plain line
    line : Line → Block → Block
    -- an import, and the lines that it takes
    import : Line → List Line → Block → Block
    -- a chain of arms and the line of its end
    chain : Arms → Line → Block → Block
    -- a chain that extends to the end of the text
    unclosed : Arms → Block

  -- arms, each the line of its condition and the block under it
  pub data Arms : Type 0 where
    last_arm : Line → Block → Arms
    arm : Line → Block → Arms → Arms

-- the lines of a block
abbrev mutual
  pub lines_of : Block → List Line
  lines_of nothing = []
  lines_of (line l more) = l ∷ lines_of more
  lines_of (import l taken more) = l ∷ (taken ++ lines_of more)
  lines_of (chain arms end more) = arm_lines arms ++ end ∷ lines_of more
  lines_of (unclosed arms) = arm_lines arms

  pub arm_lines : Arms → List Line
  arm_lines (last_arm l block) = l ∷ lines_of block
  arm_lines (arm l block arms) = l ∷ (lines_of block ++ arm_lines arms)

-- whether a line is the condition of a first arm, or of a further one
abbrev pub begins_arm : (is_else : Bool) → LineKind → Bool
begins_arm false (condition false c) = true
begins_arm true (condition true c) = true
begins_arm _ _ = false

abbrev pub ends_chain : LineKind → Bool
ends_chain endif = true
ends_chain _ = false

abbrev pub is_import : LineKind → Bool
is_import imports = true
is_import _ = false

-- whether a line is plain: it begins no chain; in an arm it is no else and no end; in an active
-- block it is no import
abbrev pub is_plain : (active in_arm : Bool) → LineKind → Bool
is_plain active in_arm (version known) = true
is_plain active in_arm (condition false c) = false
is_plain active in_arm (condition true c) = not in_arm
is_plain active in_arm endif = not in_arm
is_plain active in_arm imports = not active
is_plain active in_arm (import_path name) = true
is_plain active in_arm (define name value) = true
is_plain active in_arm other = true

-- the number of braces open after a line
abbrev pub braces_after : ℕ → List ℕ → ℕ
braces_after n text = n + count_by (λ b. b == open_brace) text - count_by (λ b. b == close_brace) text

-- the lines that an import with open braces takes, and those after them
abbrev pub taken : ℕ → List Line → List Line
taken zero lines = []
taken (suc n) [] = []
taken (suc n) (l ∷ more) = l ∷ taken (braces_after (suc n) l.covered) more

abbrev pub after_taken : ℕ → List Line → List Line
after_taken zero lines = lines
after_taken (suc n) [] = []
after_taken (suc n) (l ∷ more) = after_taken (braces_after (suc n) l.covered) more

-- the taken lines: up to the closing of the last brace, or to the end of the text
abbrev pub Takes : ℕ → (at_end : Bool) → List Line → Type 0
Takes zero at_end [] = Unit {0}
Takes zero at_end (l ∷ more) = ⊥
Takes (suc n) at_end [] = at_end ≡ true
Takes (suc n) at_end (l ∷ more) = Takes (braces_after (suc n) l.covered) at_end more

abbrev pub is_nothing : Block → Bool
is_nothing nothing = true
is_nothing _ = false

-- each line is in its place, and only the last chain of the text may have no end
abbrev mutual
  pub IsBlock : Definitions → (active in_arm at_end : Bool) → Block → Type 0
  IsBlock defs active in_arm at_end nothing = Unit {0}
  IsBlock defs active in_arm at_end (line l more) = (is_plain active in_arm (kind_of l.covered) ≡ true) × IsBlock defs active in_arm at_end more
  IsBlock defs active in_arm at_end (import l taken more) = (is_import (kind_of l.covered) ≡ true) × (active ≡ true) × Takes (braces_after 0 l.covered) (at_end && is_nothing more) taken × IsBlock defs active in_arm at_end more
  IsBlock defs active in_arm at_end (chain arms end more) = AreArms defs active false false false arms × (ends_chain (kind_of end.covered) ≡ true) × IsBlock defs active in_arm at_end more
  IsBlock defs active in_arm at_end (unclosed arms) = (at_end ≡ true) × AreArms defs active false false true arms

  -- in an active block the first arm whose condition holds is active, in an inactive block none
  pub AreArms : Definitions → (active met is_else at_end : Bool) → Arms → Type 0
  AreArms defs active met is_else at_end (last_arm l block) =
      (begins_arm is_else (kind_of l.covered) ≡ true) × IsBlock defs (active && (not met && holds defs l)) true at_end block
  AreArms defs active met is_else at_end (arm l block arms) =
      (begins_arm is_else (kind_of l.covered) ≡ true) × IsBlock defs (active && (not met && holds defs l)) true false block × AreArms defs active (met || holds defs l) true at_end arms

-- the lines are read as this block
pub record IsReading (defs : Definitions) (lines : List Line) (block : Block) : Type 0 where
  pub whole : lines_of block ≡ lines
  pub placed : IsBlock defs true false true block

-- whether the last chain has no end
abbrev pub is_unclosed : Block → Bool
is_unclosed nothing = false
is_unclosed (line l more) = is_unclosed more
is_unclosed (import l taken more) = is_unclosed more
is_unclosed (chain arms end more) = is_unclosed more
is_unclosed (unclosed arms) = true

-- the role of a line: a plain line, the begin of a chain, an import, or a line after the block
pub data Role : Type 0 where
  plain : Role
  opens : Role
  takes : Role
  leaves : Role

abbrev pub role_of : (is_plain begins_chain is_import : Bool) → Role
role_of true b i = plain
role_of false true i = opens
role_of false false true = takes
role_of false false false = leaves

abbrev pub role : (active in_arm : Bool) → LineKind → Role
role active in_arm k = role_of (is_plain active in_arm k) (begins_arm false k) (is_import k)

-- a block or arms from the front of the lines, and the rest of the lines
abbrev pub Read : Type 0
Read = Block × List Line

abbrev pub ReadArms : Type 0
ReadArms = Arms × List Line

-- one unit and the block after it, by readers of a block and of arms
abbrev pub chain_read : (List Line → Read) → ReadArms → Read
chain_read block (arms, []) = (unclosed arms, [])
chain_read block (arms, end ∷ more) = let r = block more in (chain arms end r.0, r.1)

abbrev pub unit_read : (List Line → Read) → (Line → List Line → ReadArms) → Role → Line → List Line → Read
unit_read block arms plain l more = let r = block more in (line l r.0, r.1)
unit_read block arms opens l more = chain_read block (arms l more)
unit_read block arms takes l more = let r = block (after_taken (braces_after 0 l.covered) more) in (import l (taken (braces_after 0 l.covered) more) r.0, r.1)
unit_read block arms leaves l more = (nothing, l ∷ more)

abbrev pub block_read : (List Line → Read) → (Line → List Line → ReadArms) → (active in_arm : Bool) → List Line → Read
block_read block arms active in_arm [] = (nothing, [])
block_read block arms active in_arm (l ∷ more) = unit_read block arms (role active in_arm (kind_of l.covered)) l more

-- one arm and the arms after it
abbrev pub arms_on : (Line → List Line → ReadArms) → Line → Block → Bool → Line → List Line → ReadArms
arms_on arms l b true next more = let r = arms next more in (arm l b r.0, r.1)
arms_on arms l b false next more = (last_arm l b, next ∷ more)

abbrev pub arms_read : (Line → List Line → ReadArms) → Line → Read → ReadArms
arms_read arms l (b, []) = (last_arm l b, [])
arms_read arms l (b, next ∷ more) = arms_on arms l b (begins_arm true (kind_of next.covered)) next more

-- in at most `n` steps
unfoldable mutual
  pub read_block : Definitions → (active in_arm : Bool) → ℕ → List Line → Read
  read_block defs active in_arm zero lines = (nothing, lines)
  read_block defs active in_arm (suc n) lines = block_read (read_block defs active in_arm n) (read_arms defs active false n) active in_arm lines

  pub read_arms : Definitions → (active met : Bool) → ℕ → Line → List Line → ReadArms
  read_arms defs active met zero l lines = (last_arm l nothing, lines)
  read_arms defs active met (suc n) l lines = arms_read (read_arms defs active (met || holds defs l) n) l (read_block defs (active && (not met && holds defs l)) true n lines)

-- the reading of the lines, for which these steps are enough
unfoldable pub reading : Definitions → List Line → Block
reading defs lines = (read_block defs true false (2 * length lines) lines).0
