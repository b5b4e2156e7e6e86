-- What a text says of functions after keywords.
use Rattle.std.proofs.Common.{◌≡◌, Bool, ℕ, List, Option, Some, None, option_map, MatchOption, Result, Ok, Err, refl, sym, ap, ◌∙◌}
use Rattle.std.specs.Prelude.{codes}
use Rattle.naga_oil_imports.specs.Uses.{Import}
use Rattle.naga_oil_conditions.specs.Fault.{Fault}
use Rattle.naga_oil_conditions.specs.View.{Fails, fault_of}
use Rattle.naga_oil_conditions.specs.declared.fault.ComposerErrorInner.{ComposerErrorInner}
use Rattle.naga_oil_link.specs.BuiltModule.{Builds, Overriding}
use Rattle.naga_oil_registry.specs.Keywords.{MarkedFunction, covered_text, marked_in, with_edits}
use Rattle.naga_oil_build.specs.Virtuals.{Overrides, Functions, names_of, blanked, virtuals_in, with_overrides, told_in, unless_fault, functions_in}

abbrev pub read_ok : (virtuals : List (List ℕ)) → Overriding → (text : List ℕ) → Result Functions Fault
read_ok virtuals overriding text = Ok (record { virtuals = virtuals; overriding = overriding; text = text })

-- a fault of which more is known
pub fault_then : (e : ComposerErrorInner) (P Q : Fault → Type 0) → ((f : Fault) → P f → Q f) → MatchOption (fault_of e) (Unit {0}) P → MatchOption (fault_of e) (Unit {0}) Q
fault_then e P Q so h = by (fault_of e) h
  where
    by : (o : Option Fault) → MatchOption o (Unit {0}) P → MatchOption o (Unit {0}) Q
    by None h = tt
    by (Some f) h = so f h

-- the result, or its fault
abbrev pub unless_fault_in : Overrides → Result Overrides Fault
unless_fault_in o = unless_fault o.fault o

told_ok : (text : List ℕ) (o r : Overrides) (fault : Option Fault) → unless_fault fault o ≡ Ok r
    → unless_fault fault (record { virtuals = names_of (virtuals_in text); overriding = o.overriding; text = with_edits o.edits text }) ≡ read_ok (names_of (virtuals_in text)) r.overriding (with_edits r.edits text)
told_ok text o r None e = let same : o ≡ r = cc in ap (λ (p : Overrides). read_ok (names_of (virtuals_in text)) p.overriding (with_edits p.edits text)) same
told_ok text o r (Some f) e = absurd cc

told_err : (o : Overrides) (functions : Functions) (f : Fault) (fault : Option Fault) → unless_fault fault o ≡ Err f → unless_fault fault functions ≡ Err f
told_err o functions f None e = absurd cc
told_err o functions f (Some g) e = cc

-- the last fault, where there is one and where there is none
module _ (told : Overrides) (edits : ℕ → Option ℕ) (more : Overriding) where
  pub none_told : (known : Option Fault) → None ≡ option_map (λ f. Some f) known → record { edits = edits; overriding = more; fault = known } ≡ told → unless_fault_in told ≡ Ok (record { edits = edits; overriding = more; fault = None })
  none_told None e h = ap unless_fault_in (sym h)
  none_told (Some f) e h = absurd cc

  pub some_told : (x : ComposerErrorInner) (known : Option Fault) → Some (fault_of x) ≡ option_map (λ f. Some f) known → record { edits = edits; overriding = more; fault = known } ≡ told → Fails x (unless_fault_in told)
  some_told x None e h = absurd cc
  some_told x (Some f) e h = let is : fault_of x ≡ Some f = cc in rw is (ap unless_fault_in (sym h))

module _ (any : Bool) (builds : Builds) (imports : List Import) (decoration : List ℕ) (overriding : Overriding) (text covered shown : List ℕ) (vs fs : List MarkedFunction) (none edits : ℕ → Option ℕ)
    (is_covered : covered ≡ covered_text text) (are_virtual : vs ≡ marked_in (codes "virtual") covered) (is_none : none ≡ (λ at. None)) (are_edits : edits ≡ blanked (codes "       ") none vs)
    (is_shown : shown ≡ with_edits edits covered) (are_marked : fs ≡ marked_in (codes "override") shown) where
  named : names_of vs ≡ names_of (virtuals_in text)
  named = ap names_of (are_virtual ∙ ap (marked_in (codes "virtual")) is_covered)

  whole : with_overrides any builds imports decoration (record { edits = edits; overriding = overriding; fault = None }) fs ≡ told_in any builds imports decoration overriding text
  whole =
      rw (are_marked, is_shown, are_edits, is_none, are_virtual, is_covered) refl

  pub functions_ok : (next : ℕ → Option ℕ) (more : Overriding) → unless_fault_in (with_overrides any builds imports decoration (record { edits = edits; overriding = overriding; fault = None }) fs) ≡ Ok (record { edits = next; overriding = more; fault = None })
      → functions_in any builds imports decoration overriding text ≡ Ok (record { virtuals = names_of vs; overriding = more; text = with_edits next text })
  unfolding functions_in
  functions_ok next more e = told_ok text (told_in any builds imports decoration overriding text) (record { edits = next; overriding = more; fault = None }) _ (ap unless_fault_in (sym whole) ∙ e) ∙ ap (λ (ns : List (List ℕ)). read_ok ns more (with_edits next text)) (sym named)

  pub functions_refused : (f : Fault) → unless_fault_in (with_overrides any builds imports decoration (record { edits = edits; overriding = overriding; fault = None }) fs) ≡ Err f → functions_in any builds imports decoration overriding text ≡ Err f
  unfolding functions_in
  functions_refused f e = told_err (told_in any builds imports decoration overriding text) _ f _ (ap unless_fault_in (sym whole) ∙ e)
