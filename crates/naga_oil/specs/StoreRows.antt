-- Worked rows: the keys of builds, and how builds are kept, forgotten and counted.
use Rattle.std.specs.Prelude.{◌≡◌, refl, pos, ℕ, true, false, List, [], ◌∷◌, map, codes, Some, None}
use Rattle.naga_oil_ir.specs.declared.language.ShaderLanguage.TheVariants.{Wgsl}
use Rattle.naga_oil_lines.specs.Directives.{no_directives}
use Rattle.naga_oil_conditions.specs.declared.shader_def.ShaderDefValue.TheVariants.{Bool, Int, UInt}
use Rattle.naga_oil_registry.specs.Registered.{Registered, Defs}
use Rattle.naga_oil_registry.specs.Registry.{reaches}
use Rattle.naga_oil_link.specs.BuiltModule.{BuiltModule, nothing_built}
use Rattle.naga_oil.specs.Store.{project, Key, key_under, key_named, same_key, Kept, kept_under, is_kept_named, keep_build, keep_builds, forget, count_kept}

-- a module whose build may depend on these names, and that imports these
abbrev row : (name : List ℕ) → (effective imports : List (List ℕ)) → Registered
row name effective imports = record {
  name = name;
  source = [];
  language = Wgsl;
  file_path = [];
  defs = [];
  effective = effective;
  imports = map (λ i. record { import = record { import = i; items = [] }; offset = 0 }) imports;
  additional = [];
  directives = no_directives;
  index = 1;
}

-- b imports a, and c is on its own
abbrev a : Registered
a = row (codes "a") (codes "FAST" ∷ []) []

abbrev b : Registered
b = row (codes "b") (codes "FAST" ∷ codes "FOG" ∷ codes "OFFSET" ∷ []) (codes "a" ∷ [])

abbrev c : Registered
c = row (codes "c") [] []

abbrev modules : List Registered
modules = c ∷ b ∷ a ∷ []

abbrev given : Defs
given = (codes "FAST", Bool true) ∷ (codes "LIGHTS", UInt 4) ∷ (codes "OFFSET", Int (pos 7)) ∷ []

-- with another value of a name on which no build depends
abbrev brighter : Defs
brighter = (codes "FAST", Bool true) ∷ (codes "LIGHTS", UInt 5) ∷ (codes "OFFSET", Int (pos 7)) ∷ []

-- with another value of one on which those of a and b do
abbrev slow : Defs
slow = (codes "FAST", Bool false) ∷ (codes "LIGHTS", UInt 4) ∷ (codes "OFFSET", Int (pos 7)) ∷ []

-- ---- projections

-- a name that isn't defined, and a definition of another name, are left out
some_names : project b given ≡ (codes "FAST", Bool true) ∷ (codes "OFFSET", Int (pos 7)) ∷ []
some_names = refl

no_names : project c given ≡ []
no_names = refl

nothing_given : project b [] ≡ []
nothing_given = refl

-- ---- keys

abbrev key : (name : List ℕ) → Defs → Key
key name defs = record { name = name; defs = defs }

found_by : key_named modules given (codes "a") ≡ Some (key (codes "a") ((codes "FAST", Bool true) ∷ []))
found_by = refl

unknown_name : key_named modules given (codes "x") ≡ None
unknown_name = refl

one_key : same_key (key_under b given) (key_under b brighter) ≡ true
one_key = refl

other_value : same_key (key_under b given) (key_under b slow) ≡ false
other_value = refl

-- two definitions with one name and number, of different kinds
other_kind : same_key (key (codes "a") ((codes "FAST", UInt 1) ∷ [])) (key (codes "a") ((codes "FAST", Int (pos 1)) ∷ [])) ≡ false
other_kind = refl

other_module : same_key (key (codes "a") []) (key (codes "b") []) ≡ false
other_module = refl

one_definition_more : same_key (key (codes "a") []) (key (codes "a") ((codes "FAST", Bool true) ∷ [])) ≡ false
one_definition_more = refl

-- ---- keeping

abbrev leaf : ℕ → BuiltModule
leaf index = nothing_built [] index

-- a under either value, b and c under one
abbrev kept : Kept
kept = (key_under a given, leaf 1) ∷ (key_under b given, leaf 2) ∷ (key_under a slow, leaf 3) ∷ (key_under c given, leaf 4) ∷ []

of_first : kept_under kept (key_under a brighter) ≡ Some (leaf 1)
of_first = refl

of_second : kept_under kept (key_under a slow) ≡ Some (leaf 3)
of_second = refl

not_kept : is_kept_named modules kept (codes "b") slow ≡ false
not_kept = refl

kept_under_any : is_kept_named modules kept (codes "c") [] ≡ true
kept_under_any = refl

unregistered : is_kept_named modules kept (codes "x") given ≡ false
unregistered = refl

-- a kept build stays as it is
kept_already : keep_build kept (key_under b brighter) (leaf 9) ≡ kept
kept_already = refl

-- a make keeps those builds that aren't kept yet, in the order of building
of_a_make : keep_builds modules slow ((key_under a slow, leaf 3) ∷ []) ((codes "a", leaf 3) ∷ (codes "b", leaf 5) ∷ (codes "c", leaf 4) ∷ []) ≡
    (key_under a slow, leaf 3) ∷ (key_under b slow, leaf 5) ∷ (key_under c slow, leaf 4) ∷ []
of_a_make = refl

-- ---- forgetting

-- with a, b is removed too, which imports it, under all definitions
without_a : forget (λ other. reaches modules other (codes "a")) kept ≡ (key_under c given, leaf 4) ∷ []
unfolding reaches
without_a = refl

without_b : forget (λ other. reaches modules other (codes "b")) kept ≡
    (key_under a given, leaf 1) ∷ (key_under a slow, leaf 3) ∷ (key_under c given, leaf 4) ∷ []
unfolding reaches
without_b = refl

-- ---- counting

two_more : count_kept 5 ((key_under a given, leaf 1) ∷ (key_under b given, leaf 2) ∷ []) kept ≡ 7
two_more = refl

none_more : count_kept 5 kept kept ≡ 5
none_more = refl

as_far_as_counted : count_kept 18446744073709551614 [] kept ≡ 18446744073709551615
as_far_as_counted = refl
