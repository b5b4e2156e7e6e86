-- What the code of a texture says of its calls.
use Rattle.std.specs.Prelude.{ℕ, ◌%◌, nat_le, ◌==◌, Bool, ◌&&◌, ◌||◌}

-- the code without those of the scalar type, the format and the access
abbrev pub kind_of : ℕ → ℕ
kind_of image = image % 256

-- texture_2d_array, texture_cube_array, texture_depth_2d_array, texture_depth_cube_array, texture_storage_2d_array
unfoldable pub is_arrayed : ℕ → Bool
is_arrayed image =
    let kind = kind_of image in kind == 3 || (kind == 6 || (kind == 9 || (kind == 11 || kind == 16)))

-- texture_multisampled_2d, texture_depth_multisampled_2d
unfoldable pub is_multisampled : ℕ → Bool
is_multisampled image = let kind = kind_of image in kind == 7 || kind == 12

-- texture_depth_2d to texture_depth_multisampled_2d
unfoldable pub is_depth : ℕ → Bool
is_depth image = nat_le 8 (kind_of image) && nat_le (kind_of image) 12
