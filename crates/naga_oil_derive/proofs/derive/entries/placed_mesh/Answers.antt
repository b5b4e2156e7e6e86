use Rattle.std.proofs.Common.{◌≡◌, ◌∙◌, Option, Some, option_map, ap, sym, rules}
use Rattle.naga_oil_ir.specs.declared.module.MeshInfo.{MeshInfo}
use Rattle.naga_oil_derive.specs.CopiedEntry.{place_mesh}
use Rattle.naga_oil_derive.specs.DerivedView.{source_of}
use Rattle.naga_oil_derive.proofs.derive.entries.placed_mesh.Goals as goal

pub returns : goal.returns
returns c =
    let m = c.in_ok-mesh.mesh in
    λ s. (let is : c.args.mesh ≡ Some m = search rules in
    let f = place_mesh (Some (source_of c.args.maps.now s)) in
    let placed : Some _ ≡ Some (f m) = λ i. Some (record { vertex_output_type = c.ty.ensures i; primitive_output_type = c.ty-2.ensures i; output = c.global.ensures i; max_vertices = c.placed_expression.ensures s i; max_primitives = c.placed_expression-2.ensures s i; topology = m.topology }) in
    placed ∙ ap (λ (o : Option MeshInfo). option_map f o) (sym is))
