-- The two readings of a shader, and the module made after them.
use Rattle.std.proofs.Common.{◌≡◌, ◌∙◌, ◌≤◌, ℕ, true, List, Result, Ok, Err, IsErrAnd, refl, sym, ap, arith}
use Rattle.naga_oil_ir.specs.ModuleValue.{ModuleValue}
use Rattle.naga_oil_conditions.specs.Fault.{Fault}
use Rattle.naga_oil_pre.specs.Metadata.{Metadata, metadata}
use Rattle.naga_oil_pre.specs.Preprocessed.{Output}
use Rattle.naga_oil_words.specs.ResultSteps as results
use Rattle.naga_oil_registry.specs.Registered.{Registered, Defs}
use Rattle.naga_oil_registry.specs.Descriptor.{ShaderSource}
use Rattle.naga_oil_registry.specs.Merged.{overwritten}
use Rattle.naga_oil_link.specs.BuiltModule.{Builds}
use Rattle.naga_oil_build.specs.Built.{preprocessed_of}
use Rattle.naga_oil_build.specs.Held.{Settings}
use Rattle.naga_oil.specs.Answer.{in_shader, of_shader, any_use, as_merged, reach_uses, read_and_build_first, read_and_build_second, module_of_text}
use Rattle.naga_oil.specs.Finish.{finish}
use Rattle.naga_oil.specs.MakeView.{memory_nowhere}
use Rattle.naga_oil.specs.Outcome.{Doing, Does, given, ◌>>=◌}
use Rattle.naga_oil.specs.Reach.{Rule, defined}
use Rattle.naga_oil.specs.Refused.{Place, Refused, Answers, Tells, refused_of, in_text, placed}
use Rattle.naga_oil.specs.Shader.{read_shader, shader_found, defs_union_over}
use Rattle.naga_oil.specs.declared.compose.error.ComposerError.{ComposerError}
use Rattle.naga_oil.proofs.DoesLemmas.{Ends, does_given, does_same, does_end, does_then}
use Rattle.naga_oil.proofs.ReachLemmas.{bind_ok, bind_err}

module _ (s : Settings) (ds : List Registered) (text : List ℕ) (d : Registered) (own : Defs) (bs : Builds) where
  abbrev place : Place
  place = in_text d.file_path text 0

  abbrev becomes : Result Output Fault
  becomes = preprocessed_of (defined own) d

  abbrev reached : Defs → Rule → Output → Doing (Unit {0}) Refused
  reached defs rule out = of_shader d.file_path text defs (reach_uses s ds defs rule out.uses)

  abbrev merges : Output → Result Defs Fault
  merges out = defs_union_over ds own out.uses

  abbrev after_merging : Output → Defs → Doing Defs Refused
  after_merging out defs = reached defs any_use out >>= λ done. given (Ok defs)

  abbrev in_first : Output → Doing Defs Refused
  in_first out = in_shader d.file_path text (merges out) >>= after_merging out

  abbrev in_second : Output → Doing Output Refused
  in_second out = reached own (as_merged ds own) out >>= λ done. given (Ok out)

  module _ {Z : Type 0} (e : ComposerError) (result : Result Z ComposerError) (is : IsErrAnd result (λ o. o ≡ e)) where
    -- the text can't be preprocessed
    pub first_unread : (view : Z → Defs) → Tells e (placed place becomes) → Does view refused_of memory_nowhere result bs (read_and_build_first s ds text d own bs)
    unfolding read_and_build_first
    first_unread view h =
        does_end view e result bs (in_shader d.file_path text becomes bs) (read_and_build_first s ds text d own bs) (λ r k. bind_err (in_shader d.file_path text becomes) in_first bs bs r k)
        (does_given (λ (x : Output). x) (Err e) (placed place becomes) bs h) is

    pub second_unread : (view : Z → Output) → Tells e (placed place becomes) → Does view refused_of memory_nowhere result bs (read_and_build_second s ds text d own bs)
    unfolding read_and_build_second
    second_unread view h =
        does_end view e result bs (in_shader d.file_path text becomes bs) (read_and_build_second s ds text d own bs) (λ r k. bind_err (in_shader d.file_path text becomes) in_second bs bs r k)
        (does_given (λ (x : Output). x) (Err e) (placed place becomes) bs h) is

  module _ (out : Output) (read : placed place becomes ≡ Ok out) where
    past_first : read_and_build_first s ds text d own bs ≡ in_first out bs
    unfolding read_and_build_first
    past_first = bind_ok (in_shader d.file_path text becomes) in_first bs bs out (ap (λ r. given r bs) read)

    after_second : read_and_build_second s ds text d own bs ≡ in_second out bs
    unfolding read_and_build_second
    after_second = bind_ok (in_shader d.file_path text becomes) in_second bs bs out (ap (λ r. given r bs) read)

    module _ {Z : Type 0} (e : ComposerError) (result : Result Z ComposerError) (is : IsErrAnd result (λ o. o ≡ e)) where
      -- definitions differ
      pub first_unmerged : (view : Z → Defs) → Tells e (placed place (merges out)) → Does view refused_of memory_nowhere result bs (read_and_build_first s ds text d own bs)
      first_unmerged view h =
          does_end view e result bs (in_shader d.file_path text (merges out) bs) (read_and_build_first s ds text d own bs) (λ r k. past_first ∙ bind_err (in_shader d.file_path text (merges out)) (after_merging out) bs bs r k)
          (does_given (λ (x : Defs). x) (Err e) (placed place (merges out)) bs h) is

      -- an imported module can't be built
      pub second_ended : (view : Z → Output) (new : Builds) → Ends e new (reached own (as_merged ds own) out bs) → Does view refused_of memory_nowhere result new (read_and_build_second s ds text d own bs)
      second_ended view new h =
          does_end view e result new (reached own (as_merged ds own) out bs) (read_and_build_second s ds text d own bs) (λ r k. after_second ∙ bind_err (reached own (as_merged ds own) out) (λ done. given (Ok out)) bs new r k) h is

    -- the imported modules are built, or one can't be
    pub first_read : (defs : Defs) (result : Result (Unit {0}) ComposerError) (view : Unit {0} → Defs) (new : Builds) → placed place (merges out) ≡ Ok defs → view tt ≡ defs → Does (λ done. done) refused_of memory_nowhere result new (reached defs any_use out bs)
        → Does view refused_of memory_nowhere result new (read_and_build_first s ds text d own bs)
    first_read defs result view new merged is does =
        does_same view result new (after_merging out defs bs) (read_and_build_first s ds text d own bs) (past_first ∙ bind_ok (in_shader d.file_path text (merges out)) (after_merging out) bs bs defs (ap (λ r. given r bs) merged))
        (does_then view result (reached defs any_use out) (λ done. done) defs bs new (λ done. is) does)

    pub second_read : (new : Builds) → reached own (as_merged ds own) out bs ≡ record { builds = new; result = Ok tt } → read_and_build_second s ds text d own bs ≡ record { builds = new; result = Ok out }
    second_read new h = after_second ∙ bind_ok (reached own (as_merged ds own) out) (λ done. given (Ok out)) bs new tt h

module _ (s : Settings) (ds : List Registered) (m : ShaderSource) (text : List ℕ) (bs : Builds) where
  abbrev shader_place : Place
  shader_place = in_text m.file_path text 0

  abbrev read_again : Registered → Defs → Doing ModuleValue Refused
  read_again d defs = read_and_build_second s ds text d defs >>= λ out. λ builds. given (finish s defs builds d out m.shader_type) builds

  abbrev read_twice : Registered → Doing ModuleValue Refused
  read_twice d = read_and_build_first s ds text d (overwritten m.defs d.defs) >>= read_again d

  -- the text can't be read
  pub make_unread : {Z : Type 0} (view : Z → ModuleValue) (e : ComposerError) (result : Result Z ComposerError) → IsErrAnd result (λ o. o ≡ e) → Tells e (placed shader_place (read_shader m text)) → Does view refused_of memory_nowhere result bs (module_of_text s ds m text bs)
  unfolding module_of_text
  make_unread view e result is h =
      does_end view e result bs (in_shader m.file_path text (read_shader m text) bs) (module_of_text s ds m text bs) (λ r k. bind_err (in_shader m.file_path text (read_shader m text)) read_twice bs bs r k)
      (does_given (λ (x : Registered). x) (Err e) (placed shader_place (read_shader m text)) bs h) is

  module _ (d : Registered) (read : placed shader_place (read_shader m text) ≡ Ok d) where
    after_shader : module_of_text s ds m text bs ≡ read_twice d bs
    unfolding module_of_text
    after_shader = bind_ok (in_shader m.file_path text (read_shader m text)) read_twice bs bs d (ap (λ r. given r bs) read)

    -- the first reading ends in a fault
    pub make_not_first : {Z : Type 0} (view : Z → ModuleValue) (e : ComposerError) (result : Result Z ComposerError) (new : Builds) → IsErrAnd result (λ o. o ≡ e) → Ends e new (read_and_build_first s ds text d (overwritten m.defs d.defs) bs) → Does view refused_of memory_nowhere result new (module_of_text s ds m text bs)
    make_not_first view e result new is h =
        does_end view e result new (read_and_build_first s ds text d (overwritten m.defs d.defs) bs) (module_of_text s ds m text bs) (λ r k. after_shader ∙ bind_err (read_and_build_first s ds text d (overwritten m.defs d.defs)) (read_again d) bs new r k) h is

    module _ (defs : Defs) (mid : Builds) (first : read_and_build_first s ds text d (overwritten m.defs d.defs) bs ≡ record { builds = mid; result = Ok defs }) where
      after_reading : module_of_text s ds m text bs ≡ read_again d defs mid
      after_reading = after_shader ∙ bind_ok (read_and_build_first s ds text d (overwritten m.defs d.defs)) (read_again d) bs mid defs first

      -- the second reading ends in a fault
      pub make_not_second : {Z : Type 0} (view : Z → ModuleValue) (e : ComposerError) (result : Result Z ComposerError) (new : Builds) → IsErrAnd result (λ o. o ≡ e) → Ends e new (read_and_build_second s ds text d defs mid) → Does view refused_of memory_nowhere result new (module_of_text s ds m text bs)
      make_not_second view e result new is h =
          does_end view e result new (read_and_build_second s ds text d defs mid) (module_of_text s ds m text bs) (λ r k. after_reading ∙ bind_err (read_and_build_second s ds text d defs) (λ out. λ builds. given (finish s defs builds d out m.shader_type) builds) mid new r k) h is

      -- the shader is finished, or can't be
      pub make_finished : {Z : Type 0} (view : Z → ModuleValue) (result : Result Z ComposerError) (out : Output) (new : Builds) → read_and_build_second s ds text d defs mid ≡ record { builds = new; result = Ok out } → Answers view result (finish s defs new d out m.shader_type) → Does view refused_of memory_nowhere result new (module_of_text s ds m text bs)
      make_finished view result out new second h =
          does_same view result new (given (finish s defs new d out m.shader_type) new) (module_of_text s ds m text bs) (after_reading ∙ bind_ok (read_and_build_second s ds text d defs) (λ out. λ builds. given (finish s defs builds d out m.shader_type) builds) mid new out second)
          (does_given view result (finish s defs new d out m.shader_type) new h)

-- a shader's index is 0
index_read : Result Registered Refused → ℕ
index_read (Ok d) = d.index
index_read (Err r) = 0

index_of_found : (at : Place) (m : ShaderSource) (r : Result Metadata Fault) → index_read (placed at (results.◌>>=◌ r (λ found. Ok (shader_found m found)))) ≡ 0
unfolding index_read
index_of_found at m (Ok found) = refl
index_of_found at m (Err f) = refl

pub shader_index : (at : Place) (m : ShaderSource) (text : List ℕ) (d : Registered) → placed at (read_shader m text) ≡ Ok d → d.index ≤ 2047
unfolding read_shader index_read
shader_index at m text d read =
    let none : d.index ≡ 0 = sym (ap index_read read) ∙ index_of_found at m (metadata true text) in
    omega (arith, none)
