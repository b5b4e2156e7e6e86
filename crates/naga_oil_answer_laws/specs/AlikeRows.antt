-- Worked rows: definitions and registries that differ outside of what is reached, and within it.
use Rattle.std.proofs.Common.{◌≡◌, ℕ, zero, suc, List, [], ◌∷◌, Bool, true, false, ◌||◌, Some, None, refl, sym, subst, ◌∙◌}
use Rattle.std.proofs.lemmas.Option.{none-some}
use Rattle.std.specs.Prelude.{codes}
use Rattle.std.specs.Str.{bytes_eq}
use Rattle.naga_oil_ir.specs.declared.language.ShaderLanguage.TheVariants.{Wgsl}
use Rattle.naga_oil_lines.specs.Directives.{no_directives}
use Rattle.naga_oil_conditions.specs.declared.shader_def.ShaderDefValue.TheVariants as def
use Rattle.naga_oil_imports.specs.Uses.{Use}
use Rattle.naga_oil_registry.specs.Registered.{Registered, Defs}
use Rattle.naga_oil_registry.specs.Registry.{module_named, reaches}
use Rattle.naga_oil_registry.proofs.RegistryLemmas.{bytes_same}
use Rattle.naga_oil.specs.ChainsLaw.{StandsApart}
use Rattle.naga_oil.specs.Reach.{defined}
use Rattle.naga_oil.specs.ReachLaw.{HaveOneProjection, AreRegisteredAlike}

abbrev row : (name : List ℕ) → (imports : List Use) → (index : ℕ) → Registered
row name imports index = record {
  name = name;
  source = [];
  language = Wgsl;
  file_path = [];
  defs = [];
  effective = codes "FAST" ∷ [];
  imports = imports;
  additional = [];
  directives = no_directives;
  index = index;
}

-- b imports a, and c is on its own
abbrev a : Registered
a = row (codes "a") [] 1

abbrev b : Registered
b = row (codes "b") (record { import = record { import = codes "a"; items = [] }; offset = 0 } ∷ []) 2

abbrev c : Registered
c = row (codes "c") [] 3

-- ---- definitions

-- another value of a name on which the build of b doesn't depend
abbrev dim : Defs
dim = (codes "FAST", def.Bool true) ∷ (codes "LIGHTS", def.UInt 4) ∷ []

abbrev bright : Defs
bright = (codes "FAST", def.Bool true) ∷ (codes "LIGHTS", def.UInt 5) ∷ []

-- another value of the one on which it does
abbrev slow : Defs
slow = (codes "FAST", def.Bool false) ∷ (codes "LIGHTS", def.UInt 4) ∷ []

or_false : (q : Bool) → (q || false) ≡ q
or_false true = refl
or_false false = refl

fast_alone : (name : List ℕ) → (bytes_eq name (codes "FAST") || false) ≡ true → codes "FAST" ≡ name
fast_alone name is = sym (bytes_same name (codes "FAST") (sym (or_false (bytes_eq name (codes "FAST"))) ∙ is))

same_outside : HaveOneProjection b dim bright
same_outside name is = subst (λ (n : List ℕ). defined dim n ≡ defined bright n) (fast_alone name is) refl

another_value_is_refused : HaveOneProjection b dim slow → ⊥
another_value_is_refused h = let e : Some (def.Bool true) ≡ Some (def.Bool false) = h (codes "FAST") refl in absurd cc

undefined_is_refused : HaveOneProjection b dim [] → ⊥
undefined_is_refused h = let e : Some (def.Bool true) ≡ None = h (codes "FAST") refl in absurd cc

-- ---- registries

module _ (other : List ℕ) where
  -- b reaches just itself and a
  only : (p q : Bool) → bytes_eq (codes "b") other ≡ p → bytes_eq (codes "a") other ≡ q → (p || ((q || false) || false)) ≡ true → module_named other (c ∷ b ∷ a ∷ []) ≡ module_named other (b ∷ a ∷ [])
  only true q e f is = subst (λ (n : List ℕ). module_named n (c ∷ b ∷ a ∷ []) ≡ module_named n (b ∷ a ∷ [])) (bytes_same (codes "b") other e) refl
  only false true e f is = subst (λ (n : List ℕ). module_named n (c ∷ b ∷ a ∷ []) ≡ module_named n (b ∷ a ∷ [])) (bytes_same (codes "a") other f) refl
  only false false e f is = absurd cc

-- c isn't reached
one_module_more : AreRegisteredAlike (b ∷ a ∷ []) (c ∷ b ∷ a ∷ []) (codes "b")
unfolding reaches
one_module_more other is = only other (bytes_eq (codes "b") other) (bytes_eq (codes "a") other) refl refl is

-- a is reached
missing_a_is_refused : AreRegisteredAlike (b ∷ a ∷ []) (b ∷ []) (codes "b") → ⊥
unfolding reaches
missing_a_is_refused h = let e : None ≡ Some a = h (codes "a") refl in absurd cc

-- ---- chains

abbrev f_and_g : List ℕ × List (List ℕ)
f_and_g = (codes "f", codes "g" ∷ [])

-- a chain with a name of another doesn't stand apart
shared_name_is_refused : StandsApart (f_and_g ∷ (codes "g", codes "h" ∷ []) ∷ []) 0 f_and_g → ⊥
shared_name_is_refused h = let e : true ≡ false = h 1 (codes "g", codes "h" ∷ []) refl (λ q. absurd cc) (codes "g") refl in absurd cc

alone : StandsApart (f_and_g ∷ []) 0 f_and_g
alone zero b at other = absurd (other refl)
alone (suc j) b at other = absurd (none-some b at)
