-- Every text has a reading.
use Rattle.std.proofs.Common.{◌≡◌, ℕ, zero, suc, ◌+◌, ◌*◌, ◌<◌, ◌≤◌, Bool, true, false, ◌&&◌, ◌||◌, not, List, [], ◌∷◌, ◌++◌, length, refl, ap, sym, ◌∙◌, append_assoc, append-nil, arith, length-append}
use Rattle.naga_oil_conditions.specs.Line.{Line}
use Rattle.naga_oil_conditions.specs.Kind.{LineKind, version, condition, endif, imports, import_path, define, other, kind_of}
use Rattle.naga_oil_conditions.specs.Fault.{Definitions, holds}
use Rattle.naga_oil_pre.specs.Reading.{Block, nothing, line, import, chain, unclosed, Arms, last_arm, arm, lines_of, arm_lines, begins_arm, ends_chain, is_import, is_plain, braces_after, taken, after_taken, Takes, is_nothing, IsBlock, AreArms, IsReading, Role, plain, opens, takes, leaves, role_of, role, Read, ReadArms, chain_read, unit_read, arms_on, arms_read, read_block, read_arms, reading}

abbrev is_empty : List Line → Bool
is_empty [] = true
is_empty (l ∷ more) = false

-- the lines after a block: none, or a line that leaves the block
abbrev pub Stops : (active in_arm : Bool) → List Line → Type 0
Stops active in_arm [] = Unit {0}
Stops active in_arm (l ∷ more) = role active in_arm (kind_of l.covered) ≡ leaves

record Reads (defs : Definitions) (active in_arm : Bool) (lines : List Line) (r : Read) : Type 0 where
  whole : lines_of r.0 ++ r.1 ≡ lines
  block : IsBlock defs active in_arm (is_empty r.1) r.0
  stops : Stops active in_arm r.1

-- the lines after arms: none, or an end
abbrev pub StopsArms : List Line → Type 0
StopsArms [] = Unit {0}
StopsArms (l ∷ more) = ends_chain (kind_of l.covered) ≡ true

record ReadsArms (defs : Definitions) (active met is_else : Bool) (lines : List Line) (r : ReadArms) : Type 0 where
  whole : arm_lines r.0 ++ r.1 ≡ lines
  arms : AreArms defs active met is_else (is_empty r.1) r.0
  stops : StopsArms r.1

plain_is : (active in_arm : Bool) (k : LineKind) → role active in_arm k ≡ plain → is_plain active in_arm k ≡ true
plain_is active in_arm k = go (is_plain active in_arm k) (begins_arm false k) (is_import k)
  where
    go : (p b i : Bool) → role_of p b i ≡ plain → p ≡ true
    go true b i e = refl
    go false true i e = cc
    go false false true e = cc
    go false false false e = cc

opens_is : (active in_arm : Bool) (k : LineKind) → role active in_arm k ≡ opens → begins_arm false k ≡ true
opens_is active in_arm k = go (is_plain active in_arm k) (begins_arm false k) (is_import k)
  where
    go : (p b i : Bool) → role_of p b i ≡ opens → b ≡ true
    go true b i e = cc
    go false true i e = refl
    go false false true e = cc
    go false false false e = cc

takes_is : (active in_arm : Bool) (k : LineKind) → role active in_arm k ≡ takes → is_import k ≡ true
takes_is active in_arm k = go (is_plain active in_arm k) (begins_arm false k) (is_import k)
  where
    go : (p b i : Bool) → role_of p b i ≡ takes → i ≡ true
    go true b i e = cc
    go false true i e = cc
    go false false true e = refl
    go false false false e = cc

takes_active : (active in_arm : Bool) (k : LineKind) → role active in_arm k ≡ takes → active ≡ true
takes_active true in_arm k e = refl
takes_active false in_arm imports e = cc
takes_active false in_arm (version known) e = cc
takes_active false in_arm (condition false c) e = cc
takes_active false true (condition true c) e = cc
takes_active false false (condition true c) e = cc
takes_active false true endif e = cc
takes_active false false endif e = cc
takes_active false in_arm (import_path name) e = cc
takes_active false in_arm (define name value) e = cc
takes_active false in_arm other e = cc

-- outside chains nothing leaves a block
never_leaves : (active : Bool) (k : LineKind) → role active false k ≡ leaves → ⊥
never_leaves active (version known) e = cc
never_leaves active (condition false c) e = cc
never_leaves active (condition true c) e = cc
never_leaves active endif e = cc
never_leaves true imports e = cc
never_leaves false imports e = cc
never_leaves active (import_path name) e = cc
never_leaves active (define name value) e = cc
never_leaves active other e = cc

-- a line that leaves a block and begins no further arm ends the chain
leaves_ends : (active in_arm : Bool) (k : LineKind) → role active in_arm k ≡ leaves → begins_arm true k ≡ false → ends_chain k ≡ true
leaves_ends active in_arm (version known) e b = cc
leaves_ends active in_arm (condition false c) e b = cc
leaves_ends active in_arm (condition true c) e b = cc
leaves_ends active in_arm endif e b = refl
leaves_ends true in_arm imports e b = cc
leaves_ends false in_arm imports e b = cc
leaves_ends active in_arm (import_path name) e b = cc
leaves_ends active in_arm (define name value) e b = cc
leaves_ends active in_arm other e b = cc

taken-following : (n : ℕ) (ls : List Line) → taken n ls ++ after_taken n ls ≡ ls
taken-following zero ls = refl
taken-following (suc n) [] = refl
taken-following (suc n) (l ∷ ls) = ap (λ v. l ∷ v) (taken-following (braces_after (suc n) l.covered) ls)

takes_taken : (n : ℕ) (e : Bool) (ls : List Line) → (length (after_taken n ls) ≡ 0 → e ≡ true) → Takes n e (taken n ls)
takes_taken zero e ls h = tt
takes_taken (suc n) e [] h = h refl
takes_taken (suc n) e (l ∷ ls) h = takes_taken (braces_after (suc n) l.covered) e ls h

-- a block and rest without lines
both_empty : (b : Block) (rest : List Line) → length (lines_of b ++ rest) ≡ 0 → (is_empty rest && is_nothing b) ≡ true
both_empty nothing [] e = refl
both_empty nothing (l ∷ rest) e = absurd (omega arith)
both_empty (line l m) rest e = absurd (omega arith)
both_empty (import l t m) rest e = absurd (omega arith)
both_empty (chain (last_arm l b) x m) rest e = absurd (omega arith)
both_empty (chain (arm l b a) x m) rest e = absurd (omega arith)
both_empty (unclosed (last_arm l b)) rest e = absurd (omega arith)
both_empty (unclosed (arm l b a)) rest e = absurd (omega arith)

arm_lines_some : (arms : Arms) → 0 < length (arm_lines arms)
arm_lines_some (last_arm l b) = omega arith
arm_lines_some (arm l b arms) = omega arith

-- a unit, where its reader reads no more than the lines after it
chain_good : (defs : Definitions) (active in_arm : Bool) (size : ℕ) (block : List Line → Read) (lines : List Line) (a : ReadArms) → ((ls : List Line) → length ls ≤ size → Reads defs active in_arm ls (block ls)) → length lines ≤ size + 1
    → ReadsArms defs active false false lines a → Reads defs active in_arm lines (chain_read block a)
chain_good defs active in_arm size block lines (arms, []) go short h = record { whole = h.whole; block = (refl, h.arms); stops = tt }
chain_good defs active in_arm size block lines (arms, end ∷ more) go short h =
    let some = arm_lines_some arms in
    let r = go more (omega (arith, ap length h.whole, length-append (arm_lines arms) (end ∷ more))) in
    record {
      whole = append_assoc (arm_lines arms) (end ∷ lines_of (block more).0) (block more).1 ∙ ap (λ v. arm_lines arms ++ end ∷ v) r.whole ∙ h.whole;
      block = (h.arms, h.stops, r.block);
      stops = r.stops;
    }

unit_good : (defs : Definitions) (active in_arm : Bool) (block : List Line → Read) (arms : Line → List Line → ReadArms) (k : Role) (l : Line) (more : List Line) → ((ls : List Line) → length ls ≤ length more → Reads defs active in_arm ls (block ls))
    → (begins_arm false (kind_of l.covered) ≡ true → ReadsArms defs active false false (l ∷ more) (arms l more)) → role active in_arm (kind_of l.covered) ≡ k → Reads defs active in_arm (l ∷ more) (unit_read block arms k l more)
unit_good defs active in_arm block arms plain l more go go_arms e =
    let r = go more (omega arith) in
    record { whole = ap (λ v. l ∷ v) r.whole; block = (plain_is active in_arm (kind_of l.covered) e, r.block); stops = r.stops }
unit_good defs active in_arm block arms opens l more go go_arms e =
    chain_good defs active in_arm (length more) block (l ∷ more) (arms l more) go (omega arith) (go_arms (opens_is active in_arm (kind_of l.covered) e))
unit_good defs active in_arm block arms takes l more go go_arms e =
    let n = braces_after 0 l.covered in
    let back = after_taken n more in
    let split = taken-following n more in
    let r = go back (omega (arith, ap length split, length-append (taken n more) back)) in
    record {
      whole = ap (λ v. l ∷ v) (append_assoc (taken n more) (lines_of (block back).0) (block back).1 ∙ ap (λ v. taken n more ++ v) r.whole ∙ split);
      block = (takes_is active in_arm (kind_of l.covered) e, takes_active active in_arm (kind_of l.covered) e, takes_taken n (is_empty (block back).1 && is_nothing (block back).0) more (λ none. both_empty (block back).0 (block back).1 (ap length r.whole ∙ none)), r.block);
      stops = r.stops;
    }
unit_good defs active in_arm block arms leaves l more go go_arms e = record { whole = refl; block = tt; stops = e }

arms_good_on : (defs : Definitions) (active met is_else : Bool) (arms : Line → List Line → ReadArms) (l : Line) (b : Block) (go_on : Bool) (next : Line) (more lines : List Line) → begins_arm is_else (kind_of l.covered) ≡ true
    → Reads defs (active && (not met && holds defs l)) true lines (b, next ∷ more) → (begins_arm true (kind_of next.covered) ≡ true → ReadsArms defs active (met || holds defs l) true (next ∷ more) (arms next more))
    → begins_arm true (kind_of next.covered) ≡ go_on → ReadsArms defs active met is_else (l ∷ lines) (arms_on arms l b go_on next more)
arms_good_on defs active met is_else arms l b true next more lines begins h go e =
    let r = go e in
    record {
      whole = ap (λ v. l ∷ v) (append_assoc (lines_of b) (arm_lines (arms next more).0) (arms next more).1 ∙ ap (λ v. lines_of b ++ v) r.whole ∙ h.whole);
      arms = (begins, h.block, r.arms);
      stops = r.stops;
    }
arms_good_on defs active met is_else arms l b false next more lines begins h go e =
    record { whole = ap (λ v. l ∷ v) h.whole; arms = (begins, h.block); stops = leaves_ends (active && (not met && holds defs l)) true (kind_of next.covered) h.stops e }

arms_good_of : (defs : Definitions) (active met is_else : Bool) (arms : Line → List Line → ReadArms) (l : Line) (r : Read) (lines : List Line) → begins_arm is_else (kind_of l.covered) ≡ true
    → Reads defs (active && (not met && holds defs l)) true lines r
    → ((next : Line) (more : List Line) → length more + 1 ≤ length lines → begins_arm true (kind_of next.covered) ≡ true → ReadsArms defs active (met || holds defs l) true (next ∷ more) (arms next more))
    → ReadsArms defs active met is_else (l ∷ lines) (arms_read arms l r)
arms_good_of defs active met is_else arms l (b, []) lines begins h go = record { whole = ap (λ v. l ∷ v) h.whole; arms = (begins, h.block); stops = tt }
arms_good_of defs active met is_else arms l (b, next ∷ more) lines begins h go =
    arms_good_on defs active met is_else arms l b (begins_arm true (kind_of next.covered)) next more lines begins h (go next more (omega (arith, ap length h.whole, length-append (lines_of b) (next ∷ more)))) refl

mutual
  unfolding read_block read_arms

  block_good : (defs : Definitions) (active in_arm : Bool) (n : ℕ) (lines : List Line) → 2 * length lines ≤ n → Reads defs active in_arm lines (read_block defs active in_arm n lines)
  block_good defs active in_arm zero [] fits = record { whole = refl; block = tt; stops = tt }
  block_good defs active in_arm zero (l ∷ more) fits = absurd (omega arith)
  block_good defs active in_arm (suc n) [] fits = record { whole = refl; block = tt; stops = tt }
  block_good defs active in_arm (suc n) (l ∷ more) fits =
      unit_good defs active in_arm (read_block defs active in_arm n) (read_arms defs active false n) (role active in_arm (kind_of l.covered)) l more
      (λ ls short. block_good defs active in_arm n ls (omega arith)) (arms_good defs active false false n l more (omega arith)) refl

  arms_good : (defs : Definitions) (active met is_else : Bool) (n : ℕ) (l : Line) (lines : List Line) → 2 * length lines + 1 ≤ n → begins_arm is_else (kind_of l.covered) ≡ true → ReadsArms defs active met is_else (l ∷ lines) (read_arms defs active met n l lines)
  arms_good defs active met is_else zero l lines fits begins = absurd (omega arith)
  arms_good defs active met is_else (suc n) l lines fits begins =
      arms_good_of defs active met is_else (read_arms defs active (met || holds defs l) n) l (read_block defs (active && (not met && holds defs l)) true n lines) lines begins
      (block_good defs (active && (not met && holds defs l)) true n lines (omega arith))
      (λ next more short. arms_good defs active (met || holds defs l) true n next more (omega arith))

stops_empty : (active : Bool) (rest : List Line) → Stops active false rest → rest ≡ []
stops_empty active [] h = refl
stops_empty active (l ∷ rest) h = absurd (never_leaves active (kind_of l.covered) h)

whole_of : (defs : Definitions) (lines : List Line) (r : Read) → Reads defs true false lines r → r.1 ≡ [] → IsReading defs lines r.0
whole_of defs lines (b, []) h e = record { whole = sym (append-nil (lines_of b)) ∙ h.whole; placed = h.block }
whole_of defs lines (b, l ∷ rest) h e = cc

pub IsReading-reading : (defs : Definitions) (lines : List Line) → IsReading defs lines (reading defs lines)
unfolding reading
IsReading-reading defs lines =
    let h = block_good defs true false (2 * length lines) lines (omega arith) in
    whole_of defs lines (read_block defs true false (2 * length lines) lines) h (stops_empty true _ h.stops)
