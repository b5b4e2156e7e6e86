-- Rows: what words, letters and textures mean in WGSL.
use Rattle.std.specs.Prelude.{◌≡◌, ◌+◌, ◌*◌, true, Some, None, codes, refl}
use Rattle.yettuvam_wgsl_types.specs.declared.types.PlainType.TheVariants as plain
use Rattle.yettuvam_wgsl_predeclared.specs.Letters.{swizzle_pattern}
use Rattle.yettuvam_wgsl_predeclared.specs.Textures.{is_arrayed}
use Rattle.yettuvam_wgsl_predeclared.specs.Words.{plain_of}
use Rattle.yettuvam_wgsl_names.specs.declared.names.Predeclared.TheVariants as word

-- .zyx: the third, the second and the first component
zyx : swizzle_pattern (codes "zyx") ≡ Some (2 + 4 * 1 + 16 * 0)
unfolding swizzle_pattern
zyx = refl

-- .xg mixes the sets
mixed : swizzle_pattern (codes "xg") ≡ None
unfolding swizzle_pattern
mixed = refl

-- vec3f is a type, vec3 wants its scalar type
vec3f : plain_of (word.Vector (3 + 16 * 4)) ≡ Some (plain.Vector 67)
vec3f = refl

vec3 : plain_of (word.Vector 3) ≡ None
vec3 = refl

-- texture_2d_array<f32>
layers : is_arrayed (3 + 256 * 4) ≡ true
unfolding is_arrayed
layers = refl
