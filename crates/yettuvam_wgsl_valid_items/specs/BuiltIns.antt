-- The built-in values, and which stages have them.
use Rattle.std.specs.Prelude.{ℕ, Bool, false, ◌==◌, ◌&&◌, ◌||◌, nat_le, if◌then◌else◌}
use Rattle.yettuvam_wgsl_names.specs.declared.form_codes.TheConstants.{COMPUTE, FRAGMENT, VERTEX}
use Rattle.yettuvam_wgsl_valid_items.specs.declared.built_ins.TheConstants.{VERTEX_INDEX, INSTANCE_INDEX, CLIP_DISTANCES, POSITION, FRONT_FACING, FRAG_DEPTH, PRIMITIVE_INDEX, SAMPLE_INDEX, SAMPLE_MASK, LOCAL_INVOCATION_ID, SUBGROUP_INVOCATION_ID, SUBGROUP_SIZE, NUM_SUBGROUPS}

-- the inputs of vertex shaders
abbrev pub is_vertex_input : ℕ → Bool
is_vertex_input v = (v == VERTEX_INDEX) || (v == INSTANCE_INDEX)

-- the inputs of fragment shaders
abbrev pub is_fragment_input : ℕ → Bool
is_fragment_input v =
    (v == POSITION) || (v == FRONT_FACING) || (v == PRIMITIVE_INDEX) || (v == SAMPLE_INDEX) || (v == SAMPLE_MASK)
    || (v == SUBGROUP_INVOCATION_ID) || (v == SUBGROUP_SIZE)

-- the inputs of compute shaders: all values that number invocations, workgroups and subgroups
abbrev pub is_compute_input : ℕ → Bool
is_compute_input v = nat_le LOCAL_INVOCATION_ID v && nat_le v NUM_SUBGROUPS

-- the inputs of a stage
abbrev pub is_input_value : ℕ → ℕ → Bool
is_input_value stage v =
    if stage == VERTEX then is_vertex_input v
    else (if stage == FRAGMENT then is_fragment_input v
    else (if stage == COMPUTE then is_compute_input v else false))

-- the outputs of a stage
abbrev pub is_output_value : ℕ → ℕ → Bool
is_output_value stage v =
    if stage == VERTEX then (v == POSITION) || (v == CLIP_DISTANCES)
    else (if stage == FRAGMENT then (v == FRAG_DEPTH) || (v == SAMPLE_MASK) else false)
