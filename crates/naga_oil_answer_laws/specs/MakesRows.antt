-- Worked rows: the small make from nothing kept to one build kept and counted, and what isn't that make.
use Rattle.std.proofs.Common.{◌≡◌, inl, ℕ, List, [], ◌∷◌, ◌++◌, length, false, true, Result, Ok, Err, refl, ap, sym, subst, ◌∙◌, arith}
use Rattle.std.specs.Prelude.{codes}
use Rattle.naga_oil_ir.specs.Backend.{FrontEnd}
use Rattle.naga_oil_ir.specs.ModuleValue.{ModuleValue, FunctionValue, module_value}
use Rattle.naga_oil_ir.specs.declared.backend.Capabilities.{Capabilities}
use Rattle.naga_oil_ir.specs.declared.module.Module.{Module}
use Rattle.naga_oil_ir.specs.declared.span.Span.{Span}
use Rattle.naga_oil_lines.specs.Text.{past_word}
use Rattle.naga_oil_words.specs.Texts.{in_order}
use Rattle.naga_oil_conditions.specs.Replaced.{name_at, name_in_braces, hash_name, pieces, hash_names}
use Rattle.naga_oil_pre.specs.Recorded.{names_from, names_of}
use Rattle.naga_oil_registry.specs.Registered.{Defs}
use Rattle.naga_oil_registry.specs.Registry.{IsRegistry}
use Rattle.naga_oil.specs.Answer.{Answer}
use Rattle.naga_oil.specs.ChainsLaw.{CallsGoDown}
use Rattle.naga_oil.specs.Faithful.{IsFaithful}
use Rattle.naga_oil.specs.Makes.{Makes, answer_of, newly_kept}
use Rattle.naga_oil.specs.NewlyKeptLaw.{not_in, with_keys}
use Rattle.naga_oil.specs.Refused.{Refused}
use Rattle.naga_oil.specs.State.{State}
use Rattle.naga_oil.specs.Store.{Key, Kept}
use Rattle.naga_oil.proofs.FaithfulLemmas.{faithful, calls_go_down}
use Rattle.naga_oil.proofs.MadeAfreshLemmas.{made_afresh}
use Rattle.naga_oil_faithful_laws.specs.SmallMake.{front, small_settings, registry, shader, made_with, right}
use Rattle.naga_oil_faithful_laws.specs.SmallMakeLaw.{without_body}
use Rattle.naga_oil_faithful_laws.proofs.Answered.{answered, answers, defs_made}
use Rattle.naga_oil_faithful_laws.proofs.Builds.{module_build}
use Rattle.naga_oil_faithful_laws.proofs.Texts.{texts}

abbrev pub as_it_is : FrontEnd → FrontEnd
as_it_is f = f

abbrev pub key_of_m : Key
key_of_m = record { name = codes "m"; defs = [] }

abbrev pub one_kept : Kept
one_kept = (key_of_m, module_build) ∷ []

-- the length of the first function's body
abbrev body_in : List (FunctionValue × Span) → ℕ
body_in [] = 0
body_in (f ∷ fs) = length f.0.body

abbrev first_body : Result ModuleValue Refused → ℕ
first_body (Ok m) = body_in m.functions
first_body (Err r) = 0

module _ (c : Capabilities) where
  abbrev pub with_kept : Kept → (count : ℕ) → State FrontEnd
  with_kept kept count = record {
    settings = record { front = front; capabilities = c; validate = false; override_any = true };
    registry = registry;
    counter = 0;
    kept = kept;
    builds = count;
  }

  abbrev pub begun : State FrontEnd
  begun = with_kept [] 0

  abbrev pub ended : State FrontEnd
  ended = with_kept one_kept 1

  abbrev newly : Defs → Answer → Kept → Kept
  newly defs a kept = not_in kept (with_keys registry defs a.builds)

  -- from nothing kept, the build of m is newly kept
  pub one_newly : newly_kept as_it_is begun shader ≡ one_kept
  one_newly = ap (λ (defs : Defs). newly defs (answer_of as_it_is begun shader) []) defs_made ∙ ap (λ (a : Answer). newly [] a []) (answered c)

  -- where it is kept, nothing is
  pub none_newly : newly_kept as_it_is ended shader ≡ []
  none_newly = ap (λ (defs : Defs). newly defs (answer_of as_it_is ended shader) one_kept) defs_made ∙ ap (λ (a : Answer). newly [] a one_kept) (answered c)

  -- ---- the make

  is_registry : IsRegistry registry
  unfolding texts in_order names_from names_of past_word pieces name_at name_in_braces hash_name hash_names
  is_registry = (record { name = refl; index = refl; positive = omega arith; small = omega arith; imports = refl; effective = refl }, tt)

  module _ (m : Module) (is : module_value m ≡ made_with right) where
    pub makes : Makes as_it_is begun shader (Ok m) ended
    makes = record {
      reply = answers c ∙ ap (λ (v : ModuleValue). Ok v) (sym is);
      counter = record { exact = sym (ap (λ (a : Answer). a.counter) (answered c)); either = inl refl };
      kept = sym one_newly;
      afresh = made_afresh (small_settings c) registry 0 shader is_registry;
      more = record { more = one_kept; is = refl };
      builds = refl;
      faithful = subst (IsFaithful (small_settings c) registry 0 shader) (sym is) (faithful (small_settings c) registry 0 shader (made_with right) (answers c));
      chains = subst (CallsGoDown (small_settings c) registry 0 shader) (sym is) (calls_go_down (small_settings c) registry 0 shader (made_with right) (answers c));
      rest = refl;
    }

    -- again: nothing more is kept
    pub makes_again : Makes as_it_is ended shader (Ok m) ended
    makes_again = record {
      reply = answers c ∙ ap (λ (v : ModuleValue). Ok v) (sym is);
      counter = record { exact = sym (ap (λ (a : Answer). a.counter) (answered c)); either = inl refl };
      kept = sym (ap (λ kept. one_kept ++ kept) none_newly);
      afresh = made_afresh (small_settings c) registry 0 shader is_registry;
      more = record { more = []; is = refl };
      builds = refl;
      faithful = subst (IsFaithful (small_settings c) registry 0 shader) (sym is) (faithful (small_settings c) registry 0 shader (made_with right) (answers c));
      chains = subst (CallsGoDown (small_settings c) registry 0 shader) (sym is) (calls_go_down (small_settings c) registry 0 shader (made_with right) (answers c));
      rest = refl;
    }

    -- the build of m is kept
    keeps_nothing_is_refused : (count : ℕ) → Makes as_it_is begun shader (Ok m) (with_kept [] count) → ⊥
    keeps_nothing_is_refused count h = let e : ◌≡◌ {A = ℕ} 0 1 = ap length (h.kept ∙ one_newly) in absurd cc

    -- once, even if it is kept already
    keeps_twice_is_refused : Makes as_it_is ended shader (Ok m) (with_kept (one_kept ++ one_kept) 2) → ⊥
    keeps_twice_is_refused h = let e : ◌≡◌ {A = ℕ} 2 1 = ap length (h.kept ∙ ap (λ kept. one_kept ++ kept) none_newly) in absurd cc

    -- and it is counted
    uncounted_is_refused : Makes as_it_is begun shader (Ok m) (with_kept one_kept 0) → ⊥
    uncounted_is_refused h = let e : ◌≡◌ {A = ℕ} 0 1 = h.builds in absurd cc

    -- a kept build isn't lost
    lost_is_refused : Makes as_it_is ended shader (Ok m) (with_kept [] 1) → ⊥
    lost_is_refused h = let e : ◌≡◌ {A = ℕ} 0 1 = ap length (h.kept ∙ ap (λ kept. one_kept ++ kept) none_newly) in absurd cc

  -- ---- a wrong reply

  -- a module that isn't the answer: a called function has no body
  pub another_module_is_refused : (m : Module) (new : State FrontEnd) → module_value m ≡ made_with without_body → Makes as_it_is begun shader (Ok m) new → ⊥
  another_module_is_refused m new is h =
      let e : ◌≡◌ {A = ℕ} 2 0 = ap first_body (sym (answers c) ∙ h.reply ∙ ap (λ (v : ModuleValue). Ok v) is) in absurd cc
