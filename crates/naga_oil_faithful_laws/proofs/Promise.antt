-- The small make keeps the whole promise, and a text that breaks the condition of chains.
use Rattle.std.proofs.Common.{◌≡◌, inl, inr, ℕ, zero, suc, ◌==◌, ◌&&◌, ◌||◌, Bool, true, false, List, [], ◌∷◌, ◌++◌, Some, Result, Ok, All, slice_get, refl, ap, sym, ◌∙◌, subst}
use Rattle.std.specs.Prelude.{codes}
use Rattle.std.proofs.lemmas.List.Elements.{All-nil, All-cons, All-head}
use Rattle.std.proofs.lemmas.Option.{none-some, same_Some}
use Rattle.naga_oil_ir.specs.ModuleValue.{ModuleValue}
use Rattle.naga_oil_ir.specs.declared.backend.Capabilities.{Capabilities}
use Rattle.naga_oil_words.specs.Marks.{override_mark}
use Rattle.naga_oil_conditions.specs.Fault.{Fault}
use Rattle.naga_oil_pre.specs.Preprocessed.{Output}
use Rattle.naga_oil_registry.specs.Keywords.{MarkedFunction}
use Rattle.naga_oil_registry.specs.Registered.{Registered, Defs}
use Rattle.naga_oil_link.specs.BuiltModule.{BuiltModule}
use Rattle.naga_oil_build.specs.Built.{preprocessed_of}
use Rattle.naga_oil_build.specs.OverridingForm.{LacksOverrideMark, NeitherOverrides, OverridesOriginals}
use Rattle.naga_oil_build.specs.Virtuals.{overrides_in}
use Rattle.naga_oil.specs.ChainsLaw.{TextsOverrideOriginals}
use Rattle.naga_oil.specs.Faithful.{IsBuiltModule, IsBuiltShader, made_builds}
use Rattle.naga_oil.specs.MakeDefs.{make_defs}
use Rattle.naga_oil.specs.Reach.{defined}
use Rattle.naga_oil.specs.Shader.{read_shader}
use Rattle.naga_oil.proofs.FaithfulLemmas.{faithful, calls_go_down}
use Rattle.naga_oil_faithful_laws.specs.SmallMake.{small_settings, registry, shader, module_definition, base_name, override_name, made_with, right}
use Rattle.naga_oil_faithful_laws.specs.PromiseLaw.{PromiseLaw, overriding_name, tricky_text, TrickyLaw, BothLaw, NoneLaw}
use Rattle.naga_oil_faithful_laws.proofs.Texts.{source_read, described, shader_read, module_read, shader_definition, shader_output, module_output}
use Rattle.naga_oil_faithful_laws.proofs.Builds.{keywords}
use Rattle.naga_oil_faithful_laws.proofs.Answered.{defs_made, answers}
use Rattle.naga_oil_faithful_laws.proofs.Comes.{shader_only}

-- ---- names without the mark of an override

begins : List ℕ → List ℕ → Bool
begins xs [] = true
begins [] (y ∷ ys) = false
begins (x ∷ xs) (y ∷ ys) = (x == y) && begins xs ys

has_mark : List ℕ → Bool
has_mark [] = false
has_mark (x ∷ xs) = begins (x ∷ xs) override_mark || has_mark xs

or_true : (b : Bool) → (b || true) ≡ true
or_true true = refl
or_true false = refl

marked : (x y : List ℕ) → has_mark (x ++ override_mark ++ y) ≡ true
unfolding begins has_mark
marked [] y = refl
marked (c ∷ x) y = ap (λ t. begins (c ∷ (x ++ override_mark ++ y)) override_mark || t) (marked x y) ∙ or_true (begins (c ∷ (x ++ override_mark ++ y)) override_mark)

unmarked : (n : List ℕ) → has_mark n ≡ false → LacksOverrideMark n
unmarked n e x y is = let f : false ≡ true = sym e ∙ ap has_mark is ∙ marked x y in absurd cc

base_unmarked : LacksOverrideMark base_name
unfolding begins has_mark
base_unmarked = unmarked base_name refl

-- ---- the texts of the small make

abbrev Original : MarkedFunction → Type 0
Original f = LacksOverrideMark f.name

module_originals : OverridesOriginals module_output.text
unfolding keywords
module_originals = All-nil Original

abbrev in_shader : MarkedFunction
in_shader = record { keyword = 10; name = base_name; place = 22 }

shader_overrides : overrides_in shader_output.text ≡ in_shader ∷ []
unfolding keywords
shader_overrides = refl

shader_originals : OverridesOriginals shader_output.text
shader_originals = subst (All Original) (sym shader_overrides) (All-cons Original in_shader [] base_unmarked (All-nil Original))

same_text : (r : Result Output Fault) (x y : Output) → r ≡ Ok x → r ≡ Ok y → OverridesOriginals x.text → OverridesOriginals y.text
same_text r x y p q h = subst (λ (o : Output). OverridesOriginals o.text) (same_output x y (sym p ∙ q)) h
  where
    same_output : (x y : Output) → (let u : Result Output Fault = Ok x in u) ≡ Ok y → x ≡ y
    same_output x y e = cc

module _ (c : Capabilities) where
  of_module : (b : BuiltModule) (p : ModuleValue) (h : IsBuiltModule (small_settings c) registry (make_defs registry 0 shader) (made_builds (small_settings c) registry 0 shader) b p) → OverridesOriginals h.is.output.text
  of_module b p h =
      let d = only h.registered h.definition h.known in
      let read = ap (λ (defs : Defs). preprocessed_of (defined defs) h.definition) defs_made ∙ ap (preprocessed_of (defined [])) (sym d) ∙ module_read in
      same_text (preprocessed_of (defined (make_defs registry 0 shader)) h.definition) module_output h.is.output read h.is.preprocessed module_originals
    where
      only : (k : ℕ) (d : Registered) → slice_get registry k ≡ Some d → module_definition ≡ d
      only zero d e = same_Some module_definition d e
      only (suc k) d e = absurd (none-some d e)

  of_shader : (b : BuiltModule) (p : ModuleValue) (h : IsBuiltShader (small_settings c) registry 0 shader b p) → OverridesOriginals h.is.output.text
  of_shader b p h =
      let e : (shader.source, 0) ≡ h.read = (let x = sym source_read ∙ h.source in cc) in
      let d : shader_definition ≡ h.definition = (let x = sym described ∙ ap (λ r. read_shader shader r.0) e ∙ h.described in cc) in
      let read = ap (λ (defs : Defs). preprocessed_of (defined defs) h.definition) defs_made ∙ ap (preprocessed_of (defined [])) (sym d) ∙ shader_read in
      same_text (preprocessed_of (defined (make_defs registry 0 shader)) h.definition) shader_output h.is.output read h.is.preprocessed shader_originals

  texts : TextsOverrideOriginals (small_settings c) registry 0 shader
  texts b p (inl h) = of_module b p h
  texts b p (inr h) = of_shader b p h

pub promise : PromiseLaw
promise c =
    let s = small_settings c in
    let down = calls_go_down s registry 0 shader (made_with right) (answers c) in
    let same = (shader_only c down.shader down.parse down.is).0 in
    let overridden = ap (λ (b : BuiltModule). slice_get b.overriding 0) same in
    record {
      faithful = faithful s registry 0 shader (made_with right) (answers c);
      originals = texts c;
      down = down;
      overridden = overridden;
      sent = down.chains (texts c) 0 (base_name, override_name ∷ []) overridden;
    }

-- ---- a text that overrides an overriding function

abbrev in_tricky : MarkedFunction
in_tricky = record { keyword = 27; name = overriding_name; place = 39 }

tricky_overrides : overrides_in tricky_text ≡ in_tricky ∷ []
unfolding keywords
tricky_overrides = refl

pub tricky : TrickyLaw
tricky h = All-head Original in_tricky [] (subst (All Original) tricky_overrides h) (codes "f") (codes "IEXX_naga_oil_mod_XIIX") refl

pub both : BothLaw
both h = let e : true ≡ false = (h 1 _ refl).0 in absurd cc

pub none : NoneLaw
none zero b at = subst (λ (b : List ℕ × List (List ℕ)). NeitherOverrides (base_name, override_name ∷ []) b) (same_Some (base_name, override_name ∷ []) b at) (refl, refl)
none (suc j) b at = absurd (none-some b at)
