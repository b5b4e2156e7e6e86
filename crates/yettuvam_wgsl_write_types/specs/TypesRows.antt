-- Types, worked by hand.
use Rattle.std.specs.Prelude.{◌≡◌, refl, ℕ, ◌+◌, ◌*◌, true, false, [], ◌∷◌, Some, None, codes, Ok, Err}
use Rattle.naga_oil_ir.specs.Spans.{undefined}
use Rattle.naga_oil_ir.specs.declared.names.ItemPlace.TheVariants.{TypeItem}
use Rattle.yettuvam_wgsl_pieces.specs.Pieces.{Word, Number, Sign}
use Rattle.yettuvam_wgsl_pieces.specs.declared.sign.Sign.TheVariants as sign
use Rattle.yettuvam_wgsl_write_types.specs.Results.{result_member_name}
use Rattle.yettuvam_wgsl_write_types.specs.Texts.{template}
use Rattle.yettuvam_wgsl_write_types.specs.Types.{vector, pointer, texture, scalar_template, format_word, access_word, storage_words, storage_template, space_access}

-- `vec3f`, and `vec3<bool>`
vector_rows : (vector (3 + 16 * 4) undefined ≡ Ok (Word (codes "vec3f") ∷ [])) × (vector (3 + 16 * 1) undefined ≡ Ok (Word (codes "vec3") ∷ template (Word (codes "bool") ∷ [])))
unfolding vector
vector_rows = (refl, refl)

-- `texture_2d<f32>`, and `texture_storage_2d<rgba8unorm, write>`
texture_rows :
    (texture (2 + 256 * 4) undefined ≡ Ok (Word (codes "texture_2d") ∷ template (Word (codes "f32") ∷ [])))
    × (texture (15 + 256 * 22 + 65536 * 2) undefined ≡ Ok (Word (codes "texture_storage_2d") ∷ template (Word (codes "rgba8unorm") ∷ Sign sign.Comma ∷ Word (codes "write") ∷ [])))
unfolding texture scalar_template format_word access_word storage_words storage_template
texture_rows = (refl, refl)

-- `ptr<storage, f32, read_write>`
pointer_row : pointer ((Word (codes "f32") ∷ []) ∷ []) 0 (4 + 16 * 3) undefined ≡ Ok (Word (codes "ptr") ∷ template (Word (codes "storage") ∷ Sign sign.Comma ∷ Word (codes "f32") ∷ Sign sign.Comma ∷ Word (codes "read_write") ∷ []))
unfolding pointer space_access
pointer_row = refl

-- no scalar type has the code 9
no_vector_row : vector (3 + 16 * 9) undefined ≡ Err undefined
unfolding vector
no_vector_row = refl

member_rows : (result_member_name 65 1 ≡ Some (codes "exp")) × (result_member_name 64 2 ≡ None)
member_rows = (refl, refl)
