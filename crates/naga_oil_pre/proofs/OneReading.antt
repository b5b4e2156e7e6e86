-- A text has exactly one reading.
use Rattle.std.proofs.Common.{◌≡◌, ℕ, zero, suc, ◌+◌, ◌*◌, ◌≤◌, Bool, true, false, ◌&&◌, ◌||◌, not, List, [], ◌∷◌, ◌++◌, length, refl, ap, sym, subst, ◌∙◌, append_assoc, append-nil, arith, length-append}
use Rattle.naga_oil_conditions.specs.Line.{Line}
use Rattle.naga_oil_conditions.specs.Kind.{LineKind, version, condition, endif, imports, import_path, define, other, kind_of}
use Rattle.naga_oil_conditions.specs.Fault.{Definitions, holds}
use Rattle.naga_oil_pre.specs.Reading.{Block, nothing, line, import, chain, unclosed, Arms, last_arm, arm, lines_of, arm_lines, begins_arm, ends_chain, is_import, is_plain, braces_after, taken, after_taken, Takes, is_nothing, IsBlock, AreArms, IsReading, Role, plain, opens, takes, leaves, role_of, role, Read, ReadArms, chain_read, unit_read, block_read, arms_on, arms_read, read_block, read_arms, reading}
use Rattle.naga_oil_pre.proofs.ReadingLemmas.{Stops}

role_plain : (active in_arm : Bool) (k : LineKind) → is_plain active in_arm k ≡ true → role active in_arm k ≡ plain
role_plain active in_arm k h = ap (λ p. role_of p (begins_arm false k) (is_import k)) h

role_opens : (active in_arm : Bool) (k : LineKind) → begins_arm false k ≡ true → role active in_arm k ≡ opens
role_opens active in_arm (condition false c) h = refl
role_opens active in_arm (condition true c) h = cc
role_opens active in_arm (version known) h = cc
role_opens active in_arm endif h = cc
role_opens active in_arm imports h = cc
role_opens active in_arm (import_path name) h = cc
role_opens active in_arm (define name value) h = cc
role_opens active in_arm other h = cc

role_takes : (active in_arm : Bool) (k : LineKind) → is_import k ≡ true → active ≡ true → role active in_arm k ≡ takes
role_takes true in_arm imports h a = refl
role_takes false in_arm imports h a = cc
role_takes active in_arm (condition is_else c) h a = cc
role_takes active in_arm (version known) h a = cc
role_takes active in_arm endif h a = cc
role_takes active in_arm (import_path name) h a = cc
role_takes active in_arm (define name value) h a = cc
role_takes active in_arm other h a = cc

-- in an arm, an else and an end leave the block
role_else : (active : Bool) (k : LineKind) → begins_arm true k ≡ true → role active true k ≡ leaves
role_else active (condition true c) h = refl
role_else active (condition false c) h = cc
role_else active (version known) h = cc
role_else active endif h = cc
role_else active imports h = cc
role_else active (import_path name) h = cc
role_else active (define name value) h = cc
role_else active other h = cc

role_end : (active : Bool) (k : LineKind) → ends_chain k ≡ true → (role active true k ≡ leaves) × (begins_arm true k ≡ false)
role_end active endif h = (refl, refl)
role_end active (condition is_else c) h = cc
role_end active (version known) h = cc
role_end active imports h = cc
role_end active (import_path name) h = cc
role_end active (define name value) h = cc
role_end active other h = cc

-- the lines that an import takes
taken_again : (n : ℕ) (e : Bool) (ls back : List Line) → Takes n e ls → (e ≡ true → back ≡ []) → (taken n (ls ++ back) ≡ ls) × (after_taken n (ls ++ back) ≡ back)
taken_again zero e [] back h ends = (refl, refl)
taken_again zero e (l ∷ ls) back h ends = absurd h
taken_again (suc n) e [] back h ends = (ap (taken (suc n)) (ends h), ap (after_taken (suc n)) (ends h) ∙ sym (ends h))
taken_again (suc n) e (l ∷ ls) back h ends =
    let r = taken_again (braces_after (suc n) l.covered) e ls back h ends in
    (ap (λ v. l ∷ v) r.0, r.1)

-- nothing follows the end of the text
nothing_back : (at_end : Bool) (b : Block) (rest : List Line) → (at_end ≡ true → rest ≡ []) → (at_end && is_nothing b) ≡ true → lines_of b ++ rest ≡ []
nothing_back true nothing rest ends e = ends refl
nothing_back false b rest ends e = cc
nothing_back true (line l m) rest ends e = cc
nothing_back true (import l t m) rest ends e = cc
nothing_back true (chain a l m) rest ends e = cc
nothing_back true (unclosed a) rest ends e = cc

-- the first line of arms, and those after it
abbrev first_line : Arms → Line
first_line (last_arm l b) = l
first_line (arm l b arms) = l

abbrev more_lines : Arms → List Line
more_lines (last_arm l b) = lines_of b
more_lines (arm l b arms) = lines_of b ++ arm_lines arms

arm_lines-first : (arms : Arms) → arm_lines arms ≡ first_line arms ∷ more_lines arms
arm_lines-first (last_arm l b) = refl
arm_lines-first (arm l b arms) = refl

-- the first line is the condition of such an arm
first_begins : (defs : Definitions) (active met is_else at_end : Bool) (arms : Arms) → AreArms defs active met is_else at_end arms → begins_arm is_else (kind_of (first_line arms).covered) ≡ true
first_begins defs active met is_else at_end (last_arm l b) h = h.0
first_begins defs active met is_else at_end (arm l b arms) h = h.0

-- the lines after the last arm: none, or an end
abbrev StopsArms : List Line → Type 0
StopsArms [] = Unit {0}
StopsArms (l ∷ more) = ends_chain (kind_of l.covered) ≡ true

stops_of : (active : Bool) (rest : List Line) → StopsArms rest → Stops active true rest
stops_of active [] h = tt
stops_of active (l ∷ rest) h = (role_end active (kind_of l.covered) h).0

last_read : (arms : Line → List Line → ReadArms) (l : Line) (b : Block) (rest : List Line) → StopsArms rest → (let r : ReadArms = (last_arm l b, rest) in arms_read arms l (b, rest) ≡ r)
last_read arms l b [] h = refl
last_read arms l b (next ∷ more) h = ap (λ v. arms_on arms l b v next more) (role_end true (kind_of next.covered) h).1

arm_read : (arms : Line → List Line → ReadArms) (l : Line) (b : Block) (a : Arms) (rest : List Line) → begins_arm true (kind_of (first_line a).covered) ≡ true → (let r : ReadArms = (a, rest) in arms (first_line a) (more_lines a ++ rest) ≡ r)
    → (let r : ReadArms = (arm l b a, rest) in arms_read arms l (b, arm_lines a ++ rest) ≡ r)
arm_read arms l b a rest begins e =
    ap (λ ls. arms_read arms l (b, ls ++ rest)) (arm_lines-first a)
    ∙ ap (λ v. arms_on arms l b v (first_line a) (more_lines a ++ rest)) begins
    ∙ ap (λ (r : ReadArms). let s : ReadArms = (arm l b r.0, r.1) in s) e

unit_again : (block : List Line → Read) (arms : Line → List Line → ReadArms) (active in_arm : Bool) (k : Role) (l : Line) (more : List Line) → role active in_arm (kind_of l.covered) ≡ k → block_read block arms active in_arm (l ∷ more) ≡ unit_read block arms k l more
unit_again block arms active in_arm k l more e = ap (λ v. unit_read block arms v l more) e

stops_arms : (active : Bool) (a : Arms) (rest : List Line) → begins_arm true (kind_of (first_line a).covered) ≡ true → Stops active true (arm_lines a ++ rest)
stops_arms active (last_arm l b) rest h = role_else active (kind_of l.covered) h
stops_arms active (arm l b a) rest h = role_else active (kind_of l.covered) h

mutual
  unfolding read_block read_arms

  block_again : (defs : Definitions) (active in_arm at_end : Bool) (n : ℕ) (b : Block) (rest : List Line) → 2 * length (lines_of b ++ rest) ≤ n → IsBlock defs active in_arm at_end b → (at_end ≡ true → rest ≡ []) → Stops active in_arm rest
      → (let r : Read = (b, rest) in read_block defs active in_arm n (lines_of b ++ rest) ≡ r)
  block_again defs active in_arm at_end zero nothing rest fits h ends stops = refl
  block_again defs active in_arm at_end (suc n) nothing [] fits h ends stops = refl
  block_again defs active in_arm at_end (suc n) nothing (l ∷ rest) fits h ends stops =
      unit_again (read_block defs active in_arm n) (read_arms defs active false n) active in_arm leaves l rest stops
  block_again defs active in_arm at_end zero (line l more) rest fits h ends stops = absurd (omega arith)
  block_again defs active in_arm at_end (suc n) (line l more) rest fits h ends stops =
      unit_again (read_block defs active in_arm n) (read_arms defs active false n) active in_arm plain l (lines_of more ++ rest) (role_plain active in_arm (kind_of l.covered) h.0)
      ∙ ap (λ (r : Read). let s : Read = (line l r.0, r.1) in s) (block_again defs active in_arm at_end n more rest (omega arith) h.1 ends stops)
  block_again defs active in_arm at_end zero (import l ls more) rest fits h ends stops = absurd (omega arith)
  block_again defs active in_arm at_end (suc n) (import l ls more) rest fits h ends stops =
      let read = read_block defs active in_arm n in
      let m = braces_after 0 l.covered in
      let back = lines_of more ++ rest in
      let t = taken_again m (at_end && is_nothing more) ls back h.2 (nothing_back at_end more rest ends) in
      let size = ap length (append_assoc ls (lines_of more) rest) in
      ap (λ v. read_block defs active in_arm (suc n) (l ∷ v)) (append_assoc ls (lines_of more) rest)
      ∙ unit_again read (read_arms defs active false n) active in_arm takes l (ls ++ back) (role_takes active in_arm (kind_of l.covered) h.0 h.1)
      ∙ ap (λ v. let s : Read = (import l (taken m (ls ++ back)) (read v).0, (read v).1) in s) t.1
      ∙ ap (λ v. let s : Read = (import l v (read back).0, (read back).1) in s) t.0
      ∙ ap (λ (r : Read). let s : Read = (import l ls r.0, r.1) in s) (block_again defs active in_arm at_end n more rest (omega (arith, length-append ls back)) h.3 ends stops)
  block_again defs active in_arm at_end zero (chain arms last more) rest fits h ends stops =
      let size = ap length (append_assoc (arm_lines arms) (last ∷ lines_of more) rest) in
      absurd (omega (arith, length-append (arm_lines arms) (last ∷ (lines_of more ++ rest))))
  block_again defs active in_arm at_end (suc n) (chain arms last more) rest fits h ends stops =
      let read = read_block defs active in_arm n in
      let back = last ∷ (lines_of more ++ rest) in
      let split = append_assoc (arm_lines arms) (last ∷ lines_of more) rest ∙ ap (λ v. v ++ back) (arm_lines-first arms) in
      let size = ap length split in
      ap (read_block defs active in_arm (suc n)) split
      ∙ unit_again read (read_arms defs active false n) active in_arm opens (first_line arms) (more_lines arms ++ back) (role_opens active in_arm (kind_of (first_line arms).covered) (first_begins defs active false false false arms h.0))
      ∙ ap (chain_read read) (arms_again defs active false false false n arms back (omega arith) h.0 (λ e. cc) h.1)
      ∙ ap (λ (r : Read). let s : Read = (chain arms last r.0, r.1) in s) (block_again defs active in_arm at_end n more rest (omega (arith, length-append (more_lines arms) back)) h.2 ends stops)
  block_again defs active in_arm at_end zero (unclosed arms) rest fits h ends stops =
      let size = ap length (ap (λ v. v ++ rest) (arm_lines-first arms)) in
      absurd (omega arith)
  block_again defs active in_arm at_end (suc n) (unclosed arms) rest fits h ends stops =
      let read = read_block defs active in_arm n in
      let split = ap (λ v. v ++ rest) (arm_lines-first arms) in
      let size = ap length split in
      ap (read_block defs active in_arm (suc n)) split
      ∙ unit_again read (read_arms defs active false n) active in_arm opens (first_line arms) (more_lines arms ++ rest) (role_opens active in_arm (kind_of (first_line arms).covered) (first_begins defs active false false true arms h.1))
      ∙ ap (chain_read read) (arms_again defs active false false true n arms rest (omega arith) h.1 (λ _. ends h.0) (subst StopsArms (sym (ends h.0)) tt))
      ∙ ap (λ v. let a : ReadArms = (arms, v) in chain_read read a) (ends h.0)
      ∙ ap (λ v. let s : Read = (unclosed arms, v) in s) (sym (ends h.0))

  arms_again : (defs : Definitions) (active met is_else at_end : Bool) (n : ℕ) (arms : Arms) (rest : List Line) → 2 * length (more_lines arms ++ rest) + 1 ≤ n → AreArms defs active met is_else at_end arms → (at_end ≡ true → rest ≡ []) → StopsArms rest
      → (let r : ReadArms = (arms, rest) in read_arms defs active met n (first_line arms) (more_lines arms ++ rest) ≡ r)
  arms_again defs active met is_else at_end zero (last_arm l b) rest fits h ends stops = absurd (omega arith)
  arms_again defs active met is_else at_end zero (arm l b a) rest fits h ends stops = absurd (omega arith)
  arms_again defs active met is_else at_end (suc n) (last_arm l b) rest fits h ends stops =
      let here = active && (not met && holds defs l) in
      let arms = read_arms defs active (met || holds defs l) n in
      ap (arms_read arms l) (block_again defs here true at_end n b rest (omega arith) h.1 ends (stops_of here rest stops)) ∙ last_read arms l b rest stops
  arms_again defs active met is_else at_end (suc n) (arm l b a) rest fits h ends stops =
      let here = active && (not met && holds defs l) in
      let arms = read_arms defs active (met || holds defs l) n in
      let begins = first_begins defs active (met || holds defs l) true at_end a h.2 in
      let size = ap length (append_assoc (lines_of b) (arm_lines a) rest) in
      let all = length-append (lines_of b) (arm_lines a ++ rest) in
      let first = ap length (ap (λ v. v ++ rest) (arm_lines-first a)) in
      ap (λ v. arms_read arms l (read_block defs here true n v)) (append_assoc (lines_of b) (arm_lines a) rest)
      ∙ ap (arms_read arms l) (block_again defs here true false n b (arm_lines a ++ rest) (omega arith) h.1 (λ e. cc) (stops_arms here a rest begins))
      ∙ arm_read arms l b a rest begins (arms_again defs active (met || holds defs l) true at_end n a rest (omega arith) h.2 ends stops)

back_nothing : (lines : List Line) (b : Block) → lines_of b ≡ lines → lines ≡ lines_of b ++ []
back_nothing lines b e = sym e ∙ sym (append-nil (lines_of b))

pub only_reading : (defs : Definitions) (lines : List Line) (b : Block) → IsReading defs lines b → b ≡ reading defs lines
unfolding reading
only_reading defs lines b h =
    let e = back_nothing lines b h.whole in
    let r = block_again defs true false true (2 * length lines) b [] (omega (arith, ap length e)) h.placed (λ _. refl) tt in
    sym (ap (λ v. (read_block defs true false (2 * length lines) v).0) e ∙ ap (λ (r : Read). r.0) r)
