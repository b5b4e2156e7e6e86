-- A walk over a text from one identifier to the next, written or not.
use Rattle.std.proofs.Common.{◌≡◌, ℕ, ◌+◌, ◌-◌, Bool, true, false, IsTrue, List, [], ◌∷◌, ◌++◌, length, None, refl, ap, ◌∙◌}
use Rattle.std.specs.List.{flat_map}
use Rattle.std.specs.Str.{chars}
use Rattle.naga_oil_imports.specs.Declarations.{Declared}
use Rattle.naga_oil_imports.specs.Sites.{is_own, HasNoSite, FindsSite}
use Rattle.naga_oil_imports.specs.Substituted.{paths_for, path_text, with_mentions, mentions_in, first_ambiguous, substituted, usize_place}
use Rattle.naga_oil_lines.specs.Tokens.{lexemes}
use Rattle.naga_oil_imports.specs.Uses.{Uses}
use Rattle.naga_oil_imports.proofs.WritingLemmas.{Writing, writing_start, written_text, own_read, site_written}

-- the uses are those of a writing, which the output holds if it is written; else the output is unchanged
pub record Walk (declared : Declared) (allowed : Bool) (offset : ℕ) (input start : List ℕ) (old now : Uses) (writes : Bool) (output unwritten rest : List ℕ) : Type 0 where
  pub written : List ℕ
  pub writing : Writing declared allowed offset input start old now written unwritten rest
  pub same : IsTrue writes → output ≡ written
  pub untouched : writes ≡ false → output ≡ start

module _ (declared : Declared) (allowed : Bool) (offset : ℕ) (input start : List ℕ) (old : Uses) (writes : Bool) where
  pub walk_start : Walk declared allowed offset input start old old writes start input input
  walk_start = record { written = start; writing = writing_start declared allowed offset input start old start refl; same = λ w. refl; untouched = λ w. refl }

  module _ (now : Uses) (output unwritten rest : List ℕ) (r : Walk declared allowed offset input start old now writes output unwritten rest) where
    pub walked_text : HasNoSite rest → (new : List ℕ) → (IsTrue writes → new ≡ output ++ unwritten) → IsTrue writes → new ≡ start ++ substituted declared (lexemes 0 0 (chars input))
    walked_text none new e w = written_text declared allowed offset input start old now r.written unwritten rest r.writing none new (e w ∙ ap (λ l. l ++ unwritten) (r.same w))

    -- the next identifier
    module _ (name from more : List ℕ) (is_word : Bool) (site : FindsSite rest name is_word from more) where
      -- the identifier stands for itself
      pub own_passed : is_own declared name ≡ true → Walk declared allowed offset input start old now writes output unwritten more
      own_passed e = record {
        written = r.written;
        writing = own_read declared allowed offset input start old now r.written unwritten rest r.writing name from more is_word site e;
        same = r.same;
        untouched = r.untouched;
      }

      -- the identifier is written, or only its uses are recorded
      pub site_passed : (place : ℕ) → place ≡ usize_place (offset + (length input - length from)) → (new : Uses) (front mid out : List ℕ) → unwritten ≡ front ++ from
          → (IsTrue writes → mid ≡ output ++ front) → (IsTrue writes → out ≡ mid ++ flat_map (path_text name) (paths_for declared name))
          → (writes ≡ false → mid ≡ output) → (writes ≡ false → out ≡ mid)
          → first_ambiguous declared allowed (record { name = name; place = place } ∷ []) ≡ None → new ≡ with_mentions now (mentions_in declared (record { name = name; place = place } ∷ []))
          → Walk declared allowed offset input start old new writes out more more
      site_passed place is new front mid out e m o plain_mid plain_out none uses =
          let text = flat_map (path_text name) (paths_for declared name) in
          let before = r.written ++ front in
          record {
            written = before ++ text;
            writing =
                site_written declared allowed offset input start old now r.written unwritten rest r.writing name from more is_word site place is new front before (before ++ text) e refl refl none uses;
            same = λ w. o w ∙ ap (λ l. l ++ text) (m w ∙ ap (λ l. l ++ front) (r.same w));
            untouched = λ w. plain_out w ∙ (plain_mid w ∙ r.untouched w);
          }
