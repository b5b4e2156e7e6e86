-- The kind that the readers return is the kind that the grammar gives.
use Rattle.std.proofs.Common.{◌≡◌, inl, inr, ℕ, Bool, true, false, cond, Option, Some, None, List, codes, refl, sym, ap, ◌∙◌, subst}
use Rattle.std.specs.Prelude.{◌↔◌}
use Rattle.std.specs.Str.{chars}
use Rattle.naga_oil_words.specs.OptionSteps.{◌>>=◌}
use Rattle.naga_oil_conditions.specs.LineKinds as grammar
use Rattle.naga_oil_conditions.specs.Kind.{LineKind, version, condition, import_path, define, other, defined, undefined, compares, ◌or_else◌, read_as, kind_after_hash, unversioned_kind_of, kind_of}
use Rattle.naga_oil_conditions.specs.KindGrammar.{◌above◌, IfdefRow, IfndefRow, IfRow, ImportPathRow, DefineRow, OtherRow, IsKindAfterHash, HashRow, VersionRow, IsUnversionedKind, IsKind}
use Rattle.naga_oil_conditions.proofs.RunLemmas.{some_is, bind_some}
use Rattle.naga_oil_conditions.proofs.LineGrammarLemmas.{hash-reads, hash-is, version-reads, version-is, ifdef-reads, ifdef-is, ifndef-reads, ifndef-is, if-reads, if-is, begins-reads, begins-is, import-reads, import-is, import_path-reads, import_path-is, define-reads, define-is}

-- the reader's kind is the kind of the row
record ReadsRow (o : Option LineKind) (row : LineKind → Type 0) : Type 0 where
  reads : (k : LineKind) → row k → o ≡ Some k
  is : (k : LineKind) → o ≡ Some k → row k

-- the kind is that of the rows, and no other
record GivesKind (kind : LineKind) (rows : LineKind → Type 0) : Type 0 where
  here : rows kind
  only : (k : LineKind) → rows k → k ≡ kind

row_above : (o : Option LineKind) (next : LineKind) (row rows : LineKind → Type 0) → ReadsRow o row → GivesKind next rows → GivesKind (o or_else next) (row above rows)
row_above (Some j) next row rows r g = record {
  here = inl (r.is j refl);
  only = λ k h. elim h [
    | inl x ↦ sym (some_is _ _ (r.reads k x))
    | inr x ↦ absurd (x.0 j (r.is j refl))
  ];
}
row_above None next row rows r g = record {
  here = inr (λ j x. let e = r.reads j x in cc, g.here);
  only = λ k h. elim h [
    | inl x ↦ let e = r.reads k x in cc
    | inr x ↦ g.only k x.1
  ];
}

test_above : (b : Bool) (kind next : LineKind) (Fits : Type 0) (rows : LineKind → Type 0) → (Fits → b ≡ true) → (b ≡ true → Fits) → GivesKind next rows → GivesKind (cond b kind next) ((λ k. (k ≡ kind) × Fits) above rows)
test_above true kind next Fits rows to from g = record {
  here = inl (refl, from refl);
  only = λ k h. elim h [
    | inl x ↦ x.0
    | inr x ↦ absurd (x.0 kind (refl, from refl))
  ];
}
test_above false kind next Fits rows to from g = record {
  here = inr (λ j x. let e = to x.1 in cc, g.here);
  only = λ k h. elim h [
    | inl x ↦ let e = to x.1 in cc
    | inr x ↦ g.only k x.1
  ];
}

read_is : {A : Type 0} (f : A → LineKind) (o : Option A) (k : LineKind) → read_as f o ≡ Some k → (x : A) × (o ≡ Some x) × (f x ≡ k)
read_is f None k e = cc
read_is f (Some x) k e = (x, refl, some_is _ _ e)

ifdef_row : (cs : List ℕ) → ReadsRow (read_as (λ r. condition r.0 (defined r.1)) (grammar.ifdef cs)) (IfdefRow cs)
ifdef_row cs = record {
  reads = λ k h. ap (read_as (λ (r : Bool × List ℕ). condition r.0 (defined r.1))) (ifdef-reads h.0 h.1 cs h.3) ∙ ap Some (sym h.2);
  is = λ k e. let r = read_is (λ (r : Bool × List ℕ). condition r.0 (defined r.1)) (grammar.ifdef cs) k e in (r.0.0, r.0.1, sym r.2, ifdef-is r.0.0 r.0.1 cs r.1);
}

ifndef_row : (cs : List ℕ) → ReadsRow (read_as (λ r. condition r.0 (undefined r.1)) (grammar.ifndef cs)) (IfndefRow cs)
ifndef_row cs = record {
  reads = λ k h. ap (read_as (λ (r : Bool × List ℕ). condition r.0 (undefined r.1))) (ifndef-reads h.0 h.1 cs h.3) ∙ ap Some (sym h.2);
  is = λ k e. let r = read_is (λ (r : Bool × List ℕ). condition r.0 (undefined r.1)) (grammar.ifndef cs) k e in (r.0.0, r.0.1, sym r.2, ifndef-is r.0.0 r.0.1 cs r.1);
}

if_row : (cs : List ℕ) → ReadsRow (read_as (λ r. condition r.0 (compares r.1 r.2 r.3)) (grammar.if_condition cs)) (IfRow cs)
if_row cs = record {
  reads = λ k h. ap (read_as (λ (r : Bool × List ℕ × List ℕ × List ℕ). condition r.0 (compares r.1 r.2 r.3))) (if-reads h.0 h.1 h.2 h.3 cs h.5) ∙ ap Some (sym h.4);
  is = λ k e.
      let r = read_is (λ (r : Bool × List ℕ × List ℕ × List ℕ). condition r.0 (compares r.1 r.2 r.3)) (grammar.if_condition cs) k e in
      (r.0.0, r.0.1, r.0.2, r.0.3, sym r.2, if-is r.0.0 r.0.1 r.0.2 r.0.3 cs r.1);
}

path_row : (cs : List ℕ) → ReadsRow (read_as import_path (grammar.import_path cs)) (ImportPathRow cs)
path_row cs = record {
  reads = λ k h. ap (read_as import_path) (import_path-reads h.0 cs h.2) ∙ ap Some (sym h.1);
  is = λ k e. let r = read_is import_path (grammar.import_path cs) k e in (r.0, sym r.2, import_path-is r.0 cs r.1);
}

define_row : (cs : List ℕ) → ReadsRow (read_as (λ r. define r.0 r.1) (grammar.define cs)) (DefineRow cs)
define_row cs = record {
  reads = λ k h. ap (read_as (λ (r : List ℕ × Option (List ℕ)). define r.0 r.1)) (define-reads h.0 h.1 cs h.3) ∙ ap Some (sym h.2);
  is = λ k e. let r = read_is (λ (r : List ℕ × Option (List ℕ)). define r.0 r.1) (grammar.define cs) k e in (r.0.0, r.0.1, sym r.2, define-is r.0.0 r.0.1 cs r.1);
}

other_row : GivesKind other OtherRow
other_row = record { here = refl; only = λ k e. e }

kind_given : (cs : List ℕ) → GivesKind (kind_after_hash cs) (IsKindAfterHash cs)
unfolding kind_after_hash
kind_given cs =
    row_above _ _ _ _ (ifdef_row cs) (row_above _ _ _ _ (ifndef_row cs) (row_above _ _ _ _ (if_row cs)
    (test_above _ _ _ _ _ (λ h. begins-reads (codes "else") cs h.0 h.1) (begins-is (codes "else") cs)
    (test_above _ _ _ _ _ (λ h. begins-reads (codes "endif") cs h.0 h.1) (begins-is (codes "endif") cs)
    (test_above _ _ _ _ _ (import-reads cs) (import-is cs) (row_above _ _ _ _ (path_row cs) (row_above _ _ _ _ (define_row cs) other_row)))))))

hash_row : (line : List ℕ) → ReadsRow (read_as kind_after_hash (grammar.past_hash (chars line))) (HashRow line)
hash_row line = record {
  reads = λ k h. ap (read_as kind_after_hash) (hash-reads (chars line) h.0 h.1) ∙ ap Some (sym ((kind_given h.0).only k h.2));
  is = λ k e.
      let r = read_is kind_after_hash (grammar.past_hash (chars line)) k e in
      (r.0, hash-is (chars line) r.0 r.1, subst (IsKindAfterHash r.0) r.2 (kind_given r.0).here);
}

version_row : (line : List ℕ) → ReadsRow (read_as version (grammar.past_hash (chars line) >>= grammar.version)) (VersionRow line)
version_row line = record {
  reads = λ k h. ap (λ o. read_as version (o >>= grammar.version)) (hash-reads (chars line) h.0 h.2) ∙ ap (read_as version) (version-reads h.1 h.0 h.4) ∙ ap Some (sym h.3);
  is = λ k e.
      let r = read_is version (grammar.past_hash (chars line) >>= grammar.version) k e in
      let b = bind_some (grammar.past_hash (chars line)) grammar.version r.0 r.1 in
      (b.0, r.0, hash-is (chars line) b.0 b.1, sym r.2, version-is r.0 b.0 b.2);
}

unversioned_given : (line : List ℕ) → GivesKind (unversioned_kind_of line) (IsUnversionedKind line)
unfolding unversioned_kind_of
unversioned_given line = row_above _ _ _ _ (hash_row line) other_row

given : (line : List ℕ) → GivesKind (kind_of line) (IsKind line)
unfolding kind_of
given line = row_above _ _ _ _ (version_row line) (unversioned_given line)

pub one_kind : (line : List ℕ) (k : LineKind) → IsKind line k ↔ (k ≡ kind_of line)
one_kind line k = ((given line).only k, λ e. subst (IsKind line) (sym e) (given line).here)

pub one_unversioned_kind : (line : List ℕ) (k : LineKind) → IsUnversionedKind line k ↔ (k ≡ unversioned_kind_of line)
one_unversioned_kind line k = ((unversioned_given line).only k, λ e. subst (IsUnversionedKind line) (sym e) (unversioned_given line).here)
