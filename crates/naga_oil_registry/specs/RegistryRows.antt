-- Worked rows: prepared sources, and which modules are removed with another.
use Rattle.std.specs.Prelude.{◌≡◌, refl, ℕ, pos, true, false, Some, None, List, [], ◌∷◌, ◌++◌, map, codes}
use Rattle.std.specs.Fmt.{digits}
use Rattle.naga_oil_ir.specs.declared.language.ShaderLanguage.TheVariants.{Wgsl}
use Rattle.naga_oil_lines.specs.Directives.{no_directives}
use Rattle.naga_oil_conditions.specs.declared.shader_def.ShaderDefValue.TheVariants.{Int}
use Rattle.naga_oil_registry.specs.Registered.{Registered}
use Rattle.naga_oil_registry.specs.Merged.{overwritten}
use Rattle.naga_oil_registry.specs.Registry.{reaches, removed, free_among}
use Rattle.naga_oil_registry.specs.Sanitized.{first_decoration, sanitized}

mixed_line_ends : sanitized 0 (codes "x" ++ 13 ∷ 10 ∷ codes "y" ++ 13 ∷ codes "z @binding(auto)") ≡ Some (codes "x" ++ 10 ∷ codes "y" ++ 10 ∷ codes "z @binding(0)" ++ 10 ∷ [], 1)
unfolding sanitized digits
mixed_line_ends = refl

nothing_read : sanitized 7 [] ≡ Some (10 ∷ [], 7)
unfolding sanitized
nothing_read = refl

last_binding : sanitized 4294967294 (codes "@binding(auto)") ≡ Some (codes "@binding(4294967294)" ++ 10 ∷ [], 4294967295)
unfolding sanitized digits
last_binding = refl

no_binding_left : sanitized 4294967294 (codes "@binding(auto)@binding(auto)") ≡ None
unfolding sanitized
no_binding_left = refl

first_mark : first_decoration (codes "f X_naga_oil_vrt_X X_naga_oil_mod_X") ≡ Some 2
unfolding first_decoration
first_mark = refl

no_mark : first_decoration (codes "X_naga_oil_mod_") ≡ None
unfolding first_decoration
no_mark = refl

-- a module with this index that imports these
abbrev row : (name : List ℕ) → (imports : List (List ℕ)) → (index : ℕ) → Registered
row name imports index = record {
  name = name;
  source = [];
  language = Wgsl;
  file_path = [];
  defs = [];
  effective = [];
  imports = map (λ i. record { import = record { import = i; items = [] }; offset = 0 }) imports;
  additional = [];
  directives = no_directives;
  index = index;
}

abbrev a : Registered
a = row (codes "a") [] 1

abbrev b : Registered
b = row (codes "b") (codes "a" ∷ []) 2

abbrev c : Registered
c = row (codes "c") (codes "b" ∷ []) 3

abbrev d : Registered
d = row (codes "d") [] 4

far_reach : reaches (d ∷ c ∷ b ∷ a ∷ []) (codes "c") (codes "a") ≡ true
unfolding reaches
far_reach = refl

no_way_back : reaches (d ∷ c ∷ b ∷ a ∷ []) (codes "a") (codes "c") ≡ false
unfolding reaches
no_way_back = refl

all_that_reach_go : removed (codes "a") (d ∷ c ∷ b ∷ a ∷ []) ≡ d ∷ []
unfolding reaches
all_that_reach_go = refl

the_rest_stays : removed (codes "b") (d ∷ c ∷ b ∷ a ∷ []) ≡ d ∷ a ∷ []
unfolding reaches
the_rest_stays = refl

an_unknown_name : removed (codes "e") (d ∷ c ∷ b ∷ a ∷ []) ≡ d ∷ c ∷ b ∷ a ∷ []
unfolding reaches
an_unknown_name = refl

freed_index : free_among 9 (d ∷ a ∷ []) ≡ Some 2
unfolding free_among
freed_index = refl

no_index : free_among 2 (b ∷ a ∷ []) ≡ None
unfolding free_among
no_index = refl

imports_win : overwritten ((codes "K", Int (pos 2)) ∷ (codes "L", Int (pos 3)) ∷ []) ((codes "K", Int (pos 1)) ∷ (codes "M", Int (pos 4)) ∷ []) ≡ (codes "K", Int (pos 1)) ∷ (codes "L", Int (pos 3)) ∷ (codes "M", Int (pos 4)) ∷ []
imports_win = refl
