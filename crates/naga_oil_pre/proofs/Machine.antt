-- The loop agrees with the reading: by induction on the tree.
use Rattle.std.proofs.Common.{◌≡◌, ℕ, zero, suc, Bool, true, false, ◌&&◌, ◌||◌, not, List, [], ◌∷◌, ◌++◌, map, refl, ap, sym, subst, ◌∙◌, append_assoc, append-nil}
use Rattle.naga_oil_conditions.specs.declared.scope.ScopeLevel.{ScopeLevel}
use Rattle.naga_oil_conditions.specs.declared.scope.ScopeLevel.TheVariants.{Active, PreviouslyActive, NotActive}
use Rattle.naga_oil_conditions.specs.Line.{Line}
use Rattle.naga_oil_conditions.specs.Kind.{LineKind, version, condition, endif, imports, import_path, define, other, kind_of}
use Rattle.naga_oil_conditions.specs.Fault.{Definitions, evaluated, outcome, is_met, holds}
use Rattle.naga_oil_pre.specs.Reading.{Block, nothing, line, import, chain, unclosed, Arms, last_arm, arm, lines_of, arm_lines, begins_arm, ends_chain, is_import, is_plain, braces_after, taken, Takes, is_nothing, IsBlock, AreArms, IsReading, is_unclosed}
use Rattle.naga_oil_pre.specs.Preprocessed.{Status, blanked, imported, condition_status, plain_status, statuses, arm_statuses, written, nothing_known, end_status, read_so}
use Rattle.naga_oil_conditions.specs.Scope.{level, is_active_level, has_met, is_active, is_open}
use Rattle.naga_oil_pre.specs.Step.{Step, step, opened, scanned}

-- the result of a step, with the braces that it leaves open
abbrev Turn : Type 0
Turn = Step × ℕ

abbrev turn : Definitions → List ScopeLevel → Line → LineKind → List Line → Turn
turn defs levels l k more = (step defs levels l k more, opened levels l k)

scanned_at : (defs : Definitions) (end : ℕ) (levels next : List ScopeLevel) (braces : ℕ) (l : Line) (s : Status) (more : List Line) → (let t : Turn = ((s, next), braces) in turn defs levels l (kind_of l.covered) more ≡ t)
    → scanned defs end levels 0 (l ∷ more) ≡ s ∷ scanned defs end next braces more
scanned_at defs end levels next braces l s more e = ap (λ (t : Turn). t.0.0 ∷ scanned defs end t.0.1 t.1 more) e

-- only without levels a plain line may be an else or an end
abbrev Fits : Bool → List ScopeLevel → Type 0
Fits in_arm levels = in_arm ≡ false → levels ≡ []

plain_turn : (defs : Definitions) (in_arm : Bool) (levels : List ScopeLevel) (l : Line) (k : LineKind) (more : List Line) → is_plain (is_active levels) in_arm k ≡ true → Fits in_arm levels
    → (let t : Turn = ((plain_status defs (is_active levels) l k, levels), 0) in turn defs levels l k more ≡ t)
plain_turn defs in_arm levels l (version known) more p f = refl
plain_turn defs in_arm levels l (condition false c) more p f = cc
plain_turn defs in_arm [] l (condition true c) more p f = refl
plain_turn defs true (x ∷ xs) l (condition true c) more p f = cc
plain_turn defs false (x ∷ xs) l (condition true c) more p f = let e = f refl in cc
plain_turn defs in_arm [] l endif more p f = refl
plain_turn defs true (x ∷ xs) l endif more p f = cc
plain_turn defs false (x ∷ xs) l endif more p f = let e = f refl in cc
plain_turn defs in_arm [] l imports more p f = cc
plain_turn defs in_arm (Active ∷ xs) l imports more p f = cc
plain_turn defs in_arm (PreviouslyActive ∷ xs) l imports more p f = refl
plain_turn defs in_arm (NotActive ∷ xs) l imports more p f = refl
plain_turn defs in_arm levels l (import_path name) more p f = refl
plain_turn defs in_arm levels l (define name value) more p f = refl
plain_turn defs in_arm levels l other more p f = refl

import_turn : (defs : Definitions) (levels : List ScopeLevel) (l : Line) (k : LineKind) (more : List Line) → is_import k ≡ true → is_active levels ≡ true
    → (let t : Turn = ((imported l (taken (braces_after 0 l.covered) more), levels), braces_after 0 l.covered) in turn defs levels l k more ≡ t)
import_turn defs levels l imports more p a = rw a refl
import_turn defs levels l (version known) more p a = cc
import_turn defs levels l (condition is_else c) more p a = cc
import_turn defs levels l endif more p a = cc
import_turn defs levels l (import_path name) more p a = cc
import_turn defs levels l (define name value) more p a = cc
import_turn defs levels l other more p a = cc

end_turn : (defs : Definitions) (previous : ScopeLevel) (levels : List ScopeLevel) (l : Line) (k : LineKind) (more : List Line) → ends_chain k ≡ true
    → (let t : Turn = ((blanked l, levels), 0) in turn defs (previous ∷ levels) l k more ≡ t)
end_turn defs previous levels l endif more p = refl
end_turn defs previous levels l (version known) more p = cc
end_turn defs previous levels l (condition is_else c) more p = cc
end_turn defs previous levels l imports more p = cc
end_turn defs previous levels l (import_path name) more p = cc
end_turn defs previous levels l (define name value) more p = cc
end_turn defs previous levels l other more p = cc

-- the levels before the condition of an arm: for a further arm, the level of the arm before it
abbrev before : Bool → ScopeLevel → List ScopeLevel → List ScopeLevel
before false previous levels = levels
before true previous levels = previous ∷ levels

-- the level records whether an earlier arm held
abbrev IsMetBy : Bool → Bool → ScopeLevel → List ScopeLevel → Type 0
IsMetBy false met previous levels = met ≡ false
IsMetBy true met previous levels = is_active levels ≡ true → has_met previous ≡ met

level_same : (active met met' h : Bool) → (active ≡ true → met ≡ met') → level active met h ≡ level active met' h
level_same true met met' h e = ap (λ m. level true m h) (e refl)
level_same false met met' h e = refl

arm_turn : (defs : Definitions) (is_else met : Bool) (previous : ScopeLevel) (levels : List ScopeLevel) (l : Line) (k : LineKind) (more : List Line) → begins_arm is_else k ≡ true → IsMetBy is_else met previous levels
    → (let t : Turn = ((condition_status l (outcome defs l k), level (is_active levels) met (is_met (outcome defs l k)) ∷ levels), 0) in turn defs (before is_else previous levels) l k more ≡ t)
arm_turn defs false met previous levels l (condition false c) more p m = rw m refl
arm_turn defs true met previous levels l (condition true c) more p m =
    ap (λ v. let t : Turn = ((condition_status l (evaluated defs l.at c), v ∷ levels), 0) in t) (level_same (is_active levels) (has_met previous) met (is_met (evaluated defs l.at c)) m)
arm_turn defs false met previous levels l (condition true c) more p m = cc
arm_turn defs true met previous levels l (condition false c) more p m = cc
arm_turn defs false met previous levels l endif more p m = cc
arm_turn defs true met previous levels l endif more p m = cc
arm_turn defs false met previous levels l imports more p m = cc
arm_turn defs true met previous levels l imports more p m = cc
arm_turn defs false met previous levels l (version known) more p m = cc
arm_turn defs true met previous levels l (version known) more p m = cc
arm_turn defs false met previous levels l (import_path name) more p m = cc
arm_turn defs false met previous levels l (define name value) more p m = cc
arm_turn defs true met previous levels l (import_path name) more p m = cc
arm_turn defs true met previous levels l (define name value) more p m = cc
arm_turn defs false met previous levels l other more p m = cc
arm_turn defs true met previous levels l other more p m = cc

active_level : (active met h : Bool) → is_active_level (level active met h) ≡ (active && (not met && h))
active_level true true h = refl
active_level true false true = refl
active_level true false false = refl
active_level false met h = refl

met_level : (active met h : Bool) → active ≡ true → has_met (level active met h) ≡ (met || h)
met_level true true h e = refl
met_level true false true e = refl
met_level true false false e = refl
met_level false met h e = cc

in_arm_fits : (levels : List ScopeLevel) → Fits true levels
in_arm_fits levels e = cc

-- the lines that an import takes
taken_whole : (n : ℕ) (ls rest : List Line) → Takes n false ls → taken n (ls ++ rest) ≡ ls
taken_whole zero [] rest h = refl
taken_whole zero (l ∷ ls) rest h = absurd h
taken_whole (suc n) [] rest h = cc
taken_whole (suc n) (l ∷ ls) rest h = ap (λ v. l ∷ v) (taken_whole (braces_after (suc n) l.covered) ls rest h)

scanned_taken : (defs : Definitions) (end : ℕ) (levels : List ScopeLevel) (n : ℕ) (ls rest : List Line) → Takes n false ls → scanned defs end levels n (ls ++ rest) ≡ map blanked ls ++ scanned defs end levels 0 rest
scanned_taken defs end levels zero [] rest h = refl
scanned_taken defs end levels zero (l ∷ ls) rest h = absurd h
scanned_taken defs end levels (suc n) [] rest h = cc
scanned_taken defs end levels (suc n) (l ∷ ls) rest h = ap (λ v. blanked l ∷ v) (scanned_taken defs end levels (braces_after (suc n) l.covered) ls rest h)

-- at the end of the text
taken_all : (n : ℕ) (e : Bool) (ls : List Line) → Takes n e ls → taken n ls ≡ ls
taken_all zero e [] h = refl
taken_all zero e (l ∷ ls) h = absurd h
taken_all (suc n) e [] h = refl
taken_all (suc n) e (l ∷ ls) h = ap (λ v. l ∷ v) (taken_all (braces_after (suc n) l.covered) e ls h)

scanned_all : (defs : Definitions) (end : ℕ) (levels : List ScopeLevel) (n : ℕ) (e : Bool) (ls : List Line) → Takes n e ls → scanned defs end levels n ls ≡ map blanked ls ++ end_status end (is_open levels)
scanned_all defs end levels zero e [] h = refl
scanned_all defs end levels zero e (l ∷ ls) h = absurd h
scanned_all defs end levels (suc n) e [] h = refl
scanned_all defs end levels (suc n) e (l ∷ ls) h = ap (λ v. blanked l ∷ v) (scanned_all defs end levels (braces_after (suc n) l.covered) e ls h)

-- a block that may be empty follows, and the text ends after it
import_open : (defs : Definitions) (end : ℕ) (levels : List ScopeLevel) (n : ℕ) (ls : List Line) (more : Block) → Takes n (is_nothing more) ls
    → scanned defs end levels 0 (lines_of more) ≡ statuses defs (is_active levels) more ++ end_status end (is_unclosed more || is_open levels)
    → (taken n (ls ++ lines_of more) ≡ ls) × (scanned defs end levels n (ls ++ lines_of more) ≡ map blanked ls ++ (statuses defs (is_active levels) more ++ end_status end (is_unclosed more || is_open levels)))
import_open defs end levels n ls nothing h ih =
    (ap (taken n) (append-nil ls) ∙ taken_all n true ls h, ap (scanned defs end levels n) (append-nil ls) ∙ scanned_all defs end levels n true ls h)
import_open defs end levels n ls (line l m) h ih =
    (taken_whole n ls (lines_of (line l m)) h, scanned_taken defs end levels n ls (lines_of (line l m)) h ∙ ap (λ v. map blanked ls ++ v) ih)
import_open defs end levels n ls (import l t m) h ih =
    (taken_whole n ls (lines_of (import l t m)) h, scanned_taken defs end levels n ls (lines_of (import l t m)) h ∙ ap (λ v. map blanked ls ++ v) ih)
import_open defs end levels n ls (chain a l m) h ih =
    (taken_whole n ls (lines_of (chain a l m)) h, scanned_taken defs end levels n ls (lines_of (chain a l m)) h ∙ ap (λ v. map blanked ls ++ v) ih)
import_open defs end levels n ls (unclosed a) h ih =
    (taken_whole n ls (lines_of (unclosed a)) h, scanned_taken defs end levels n ls (lines_of (unclosed a)) h ∙ ap (λ v. map blanked ls ++ v) ih)

-- the status and the level of the arm whose condition is on the line
abbrev arm_status : Definitions → Line → Status
arm_status defs l = condition_status l (outcome defs l (kind_of l.covered))

abbrev arm_level : Definitions → (active met : Bool) → Line → ScopeLevel
arm_level defs active met l = level active met (holds defs l)

mutual
  closed_block : (defs : Definitions) (end : ℕ) (in_arm : Bool) (levels : List ScopeLevel) (b : Block) (rest : List Line) → Fits in_arm levels → IsBlock defs (is_active levels) in_arm false b
      → scanned defs end levels 0 (lines_of b ++ rest) ≡ statuses defs (is_active levels) b ++ scanned defs end levels 0 rest
  closed_block defs end in_arm levels nothing rest f h = refl
  closed_block defs end in_arm levels (line l more) rest f h =
      scanned_at defs end levels levels 0 l _ (lines_of more ++ rest) (plain_turn defs in_arm levels l (kind_of l.covered) (lines_of more ++ rest) h.0 f)
      ∙ ap (λ v. plain_status defs (is_active levels) l (kind_of l.covered) ∷ v) (closed_block defs end in_arm levels more rest f h.1)
  closed_block defs end in_arm levels (import l ls more) rest f h =
      let n = braces_after 0 l.covered in
      ap (λ v. scanned defs end levels 0 (l ∷ v)) (append_assoc ls (lines_of more) rest)
      ∙ scanned_at defs end levels levels n l _ (ls ++ (lines_of more ++ rest)) (import_turn defs levels l (kind_of l.covered) (ls ++ (lines_of more ++ rest)) h.0 h.1)
      ∙ ap (λ v. imported l v ∷ scanned defs end levels n (ls ++ (lines_of more ++ rest))) (taken_whole n ls (lines_of more ++ rest) h.2)
      ∙ ap (λ v. imported l ls ∷ v)
      (scanned_taken defs end levels n ls (lines_of more ++ rest) h.2
      ∙ ap (λ v. map blanked ls ++ v) (closed_block defs end in_arm levels more rest f h.3)
      ∙ sym (append_assoc (map blanked ls) (statuses defs (is_active levels) more) (scanned defs end levels 0 rest)))
  closed_block defs end in_arm levels (chain arms last more) rest f h =
      ap (scanned defs end levels 0) (append_assoc (arm_lines arms) (last ∷ lines_of more) rest)
      ∙ closed_arms defs end false false Active levels arms (last ∷ (lines_of more ++ rest)) (blanked last ∷ (statuses defs (is_active levels) more ++ scanned defs end levels 0 rest)) refl h.0
      (λ p. scanned_at defs end (p ∷ levels) levels 0 last (blanked last) (lines_of more ++ rest) (end_turn defs p levels last (kind_of last.covered) (lines_of more ++ rest) h.1) ∙ ap (λ v. blanked last ∷ v) (closed_block defs end in_arm levels more rest f h.2))
      ∙ sym (append_assoc (arm_statuses defs (is_active levels) false arms) (blanked last ∷ statuses defs (is_active levels) more) (scanned defs end levels 0 rest))
  closed_block defs end in_arm levels (unclosed arms) rest f h = let e = h.0 in cc

  -- the lines after the arms give r under whichever level the last of them leaves
  closed_arms : (defs : Definitions) (end : ℕ) (is_else met : Bool) (previous : ScopeLevel) (levels : List ScopeLevel) (arms : Arms) (rest : List Line) (r : List Status) → IsMetBy is_else met previous levels → AreArms defs (is_active levels) met is_else false arms
      → ((p : ScopeLevel) → scanned defs end (p ∷ levels) 0 rest ≡ r)
      → scanned defs end (before is_else previous levels) 0 (arm_lines arms ++ rest) ≡ arm_statuses defs (is_active levels) met arms ++ r
  closed_arms defs end is_else met previous levels (last_arm l b) rest r m h go =
      let a = is_active levels in
      let here = arm_level defs a met l in
      scanned_at defs end (before is_else previous levels) (here ∷ levels) 0 l (arm_status defs l) (lines_of b ++ rest) (arm_turn defs is_else met previous levels l (kind_of l.covered) (lines_of b ++ rest) h.0 m)
      ∙ ap (λ v. arm_status defs l ∷ v)
      (closed_block defs end true (here ∷ levels) b rest (in_arm_fits (here ∷ levels)) (subst (λ v. IsBlock defs v true false b) (sym (active_level a met (holds defs l))) h.1)
      ∙ ap (λ v. statuses defs v b ++ scanned defs end (here ∷ levels) 0 rest) (active_level a met (holds defs l))
      ∙ ap (λ v. statuses defs (a && (not met && holds defs l)) b ++ v) (go here))
  closed_arms defs end is_else met previous levels (arm l b arms) rest r m h go =
      let a = is_active levels in
      let here = arm_level defs a met l in
      let block = statuses defs (a && (not met && holds defs l)) b in
      scanned_at defs end (before is_else previous levels) (here ∷ levels) 0 l (arm_status defs l) ((lines_of b ++ arm_lines arms) ++ rest) (arm_turn defs is_else met previous levels l (kind_of l.covered) ((lines_of b ++ arm_lines arms) ++ rest) h.0 m)
      ∙ ap (λ v. arm_status defs l ∷ v)
      (ap (scanned defs end (here ∷ levels) 0) (append_assoc (lines_of b) (arm_lines arms) rest)
      ∙ closed_block defs end true (here ∷ levels) b (arm_lines arms ++ rest) (in_arm_fits (here ∷ levels)) (subst (λ v. IsBlock defs v true false b) (sym (active_level a met (holds defs l))) h.1)
      ∙ ap (λ v. statuses defs v b ++ scanned defs end (here ∷ levels) 0 (arm_lines arms ++ rest)) (active_level a met (holds defs l))
      ∙ ap (λ v. block ++ v) (closed_arms defs end true (met || holds defs l) here levels arms rest r (met_level a met (holds defs l)) h.2 go)
      ∙ sym (append_assoc block (arm_statuses defs a (met || holds defs l) arms) r))

or_true : (b : Bool) → (b || true) ≡ true
or_true true = refl
or_true false = refl

or_false : (b : Bool) → (b || false) ≡ b
or_false true = refl
or_false false = refl

mutual
  open_block : (defs : Definitions) (end : ℕ) (in_arm : Bool) (levels : List ScopeLevel) (b : Block) → Fits in_arm levels → IsBlock defs (is_active levels) in_arm true b
      → scanned defs end levels 0 (lines_of b) ≡ statuses defs (is_active levels) b ++ end_status end (is_unclosed b || is_open levels)
  open_block defs end in_arm levels nothing f h = refl
  open_block defs end in_arm levels (line l more) f h =
      scanned_at defs end levels levels 0 l _ (lines_of more) (plain_turn defs in_arm levels l (kind_of l.covered) (lines_of more) h.0 f)
      ∙ ap (λ v. plain_status defs (is_active levels) l (kind_of l.covered) ∷ v) (open_block defs end in_arm levels more f h.1)
  open_block defs end in_arm levels (import l ls more) f h =
      let n = braces_after 0 l.covered in
      let both = import_open defs end levels n ls more h.2 (open_block defs end in_arm levels more f h.3) in
      scanned_at defs end levels levels n l _ (ls ++ lines_of more) (import_turn defs levels l (kind_of l.covered) (ls ++ lines_of more) h.0 h.1)
      ∙ ap (λ v. imported l v ∷ scanned defs end levels n (ls ++ lines_of more)) both.0
      ∙ ap (λ v. imported l ls ∷ v) (both.1 ∙ sym (append_assoc (map blanked ls) (statuses defs (is_active levels) more) (end_status end (is_unclosed more || is_open levels))))
  open_block defs end in_arm levels (chain arms last more) f h =
      closed_arms defs end false false Active levels arms (last ∷ lines_of more) (blanked last ∷ (statuses defs (is_active levels) more ++ end_status end (is_unclosed more || is_open levels))) refl h.0
      (λ p. scanned_at defs end (p ∷ levels) levels 0 last (blanked last) (lines_of more) (end_turn defs p levels last (kind_of last.covered) (lines_of more) h.1) ∙ ap (λ v. blanked last ∷ v) (open_block defs end in_arm levels more f h.2))
      ∙ sym (append_assoc (arm_statuses defs (is_active levels) false arms) (blanked last ∷ statuses defs (is_active levels) more) (end_status end (is_unclosed more || is_open levels)))
  open_block defs end in_arm levels (unclosed arms) f h = open_arms defs end false false Active levels arms refl h.1

  open_arms : (defs : Definitions) (end : ℕ) (is_else met : Bool) (previous : ScopeLevel) (levels : List ScopeLevel) (arms : Arms) → IsMetBy is_else met previous levels → AreArms defs (is_active levels) met is_else true arms
      → scanned defs end (before is_else previous levels) 0 (arm_lines arms) ≡ arm_statuses defs (is_active levels) met arms ++ end_status end true
  open_arms defs end is_else met previous levels (last_arm l b) m h =
      let a = is_active levels in
      let here = arm_level defs a met l in
      scanned_at defs end (before is_else previous levels) (here ∷ levels) 0 l (arm_status defs l) (lines_of b) (arm_turn defs is_else met previous levels l (kind_of l.covered) (lines_of b) h.0 m)
      ∙ ap (λ v. arm_status defs l ∷ v)
      (open_block defs end true (here ∷ levels) b (in_arm_fits (here ∷ levels)) (subst (λ v. IsBlock defs v true true b) (sym (active_level a met (holds defs l))) h.1)
      ∙ ap (λ v. statuses defs v b ++ end_status end (is_unclosed b || true)) (active_level a met (holds defs l))
      ∙ ap (λ v. statuses defs (a && (not met && holds defs l)) b ++ end_status end v) (or_true (is_unclosed b)))
  open_arms defs end is_else met previous levels (arm l b arms) m h =
      let a = is_active levels in
      let here = arm_level defs a met l in
      let block = statuses defs (a && (not met && holds defs l)) b in
      scanned_at defs end (before is_else previous levels) (here ∷ levels) 0 l (arm_status defs l) (lines_of b ++ arm_lines arms) (arm_turn defs is_else met previous levels l (kind_of l.covered) (lines_of b ++ arm_lines arms) h.0 m)
      ∙ ap (λ v. arm_status defs l ∷ v)
      (closed_block defs end true (here ∷ levels) b (arm_lines arms) (in_arm_fits (here ∷ levels)) (subst (λ v. IsBlock defs v true false b) (sym (active_level a met (holds defs l))) h.1)
      ∙ ap (λ v. statuses defs v b ++ scanned defs end (here ∷ levels) 0 (arm_lines arms)) (active_level a met (holds defs l))
      ∙ ap (λ v. block ++ v) (open_arms defs end true (met || holds defs l) here levels arms (met_level a met (holds defs l)) h.2)
      ∙ sym (append_assoc block (arm_statuses defs a (met || holds defs l) arms) (end_status end true)))

-- from no levels on, the loop has the statuses of the reading
pub scanned_statuses : (defs : Definitions) (end : ℕ) (lines : List Line) (b : Block) → IsReading defs lines b → scanned defs end [] 0 lines ≡ statuses defs true b ++ end_status end (is_unclosed b)
scanned_statuses defs end lines b h =
    ap (λ ls. scanned defs end [] 0 ls) (sym h.whole) ∙ open_block defs end false [] b (λ e. refl) h.placed ∙ ap (λ v. statuses defs true b ++ end_status end v) (or_false (is_unclosed b))

-- so the loop has the result of the reading
pub scanned_reading : (defs : Definitions) (end : ℕ) (lines : List Line) (b : Block) → IsReading defs lines b → written defs nothing_known (scanned defs end [] 0 lines) ≡ read_so defs end b
scanned_reading defs end lines b h = ap (written defs nothing_known) (scanned_statuses defs end lines b h)
