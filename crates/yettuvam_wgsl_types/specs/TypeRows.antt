-- Worked rows: types that are made twice, shapes, members.
use Rattle.std.specs.Prelude.{◌≡◌, Some, None, codes, refl}
use Rattle.naga_oil_ir.specs.Spans.{undefined}
use Rattle.naga_oil_ir.specs.declared.names.ItemPlace.TheVariants.{TypeItem}
use Rattle.naga_oil_ir.specs.declared.types.ArraySize.TheVariants.{Dynamic}
use Rattle.yettuvam_wgsl_types.specs.SameRow.{same_row}
use Rattle.yettuvam_wgsl_types.specs.Types.{State, none, plain, array, pointer, alias, with_member, struct_end, intern, row_at, shape_of, element, element_at, pointed, pointed_at, member}
use Rattle.yettuvam_wgsl_types.specs.declared.shape.Shape.TheVariants.{Plain, Of}
use Rattle.yettuvam_wgsl_types.specs.declared.types.Member.TheVariants.{Typed, Untyped, Missing}
use Rattle.yettuvam_wgsl_types.specs.declared.types.PlainType.TheVariants.{Scalar, Vector}

-- `f32`, `vec3f`, a struct `S { x: vec3f, y: f32 }`, `array<S>`, `ptr<private, S>`, an alias of `S`, the result of `modf`
abbrev some_types : State
some_types =
    let f = plain (Scalar 4) none in
    let v = plain (Vector 67) f.1 in
    let x = with_member (record { name = Some (codes "x"); binding = None; offset = 0 }, Some (TypeItem 1)) v.1 in
    let y = with_member (record { name = Some (codes "y"); binding = None; offset = 0 }, Some (TypeItem 0)) x.1 in
    let s = struct_end (codes "S") undefined y.1 in
    let a = array 2 Dynamic s.1 in
    let p = pointer 2 1 a.1 in
    let l = alias (codes "A") 2 undefined p.1 in
    (plain (Scalar 64) l.1).1

a_type_is_made_once : (plain (Vector 67) some_types).0 ≡ 1
unfolding plain array pointer alias with_member struct_end intern same_row
a_type_is_made_once = refl

another_type_is_last : (plain (Vector 83) some_types).0 ≡ 7
unfolding plain array pointer alias with_member struct_end intern same_row
another_type_is_last = refl

a_vector_has_no_shape : shape_of some_types 1 ≡ Plain
unfolding plain array pointer alias with_member struct_end intern same_row shape_of row_at
a_vector_has_no_shape = refl

a_struct_has_a_shape : shape_of some_types 2 ≡ Of 2
unfolding plain array pointer alias with_member struct_end intern same_row shape_of row_at
a_struct_has_a_shape = refl

an_element_is_a_struct : element some_types (Of 3) ≡ Of 2
unfolding plain array pointer alias with_member struct_end intern same_row shape_of row_at element element_at
an_element_is_a_struct = refl

a_pointer_points : pointed some_types 4 ≡ Some (Of 2)
unfolding plain array pointer alias with_member struct_end intern same_row shape_of row_at pointed pointed_at
a_pointer_points = refl

an_alias_is_no_pointer : pointed some_types 5 ≡ None
unfolding plain array pointer alias with_member struct_end intern same_row shape_of row_at pointed pointed_at
an_alias_is_no_pointer = refl

the_second_member : member some_types (Of 2) (codes "y") ≡ Typed 1 0
unfolding plain array pointer alias with_member struct_end intern same_row row_at member
the_second_member = refl

no_member : member some_types (Of 2) (codes "z") ≡ Missing
unfolding plain array pointer alias with_member struct_end intern same_row row_at member
no_member = refl

a_result_has_members : member some_types (Of 6) (codes "whole") ≡ Untyped 1
unfolding plain array pointer alias with_member struct_end intern same_row row_at member
a_result_has_members = refl
