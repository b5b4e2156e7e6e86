use Rattle.std.proofs.Common.{◌≡◌, map, [], ◌∷◌, ◌++◌, ap, append_assoc, ◌∙◌}
use Rattle.std.proofs.lemmas.List.{map-append}
use Rattle.std.specs.Prelude.{codes}
use Rattle.yettuvam_wgsl_pieces.specs.Pieces.{Piece, Sign, piece_of}
use Rattle.yettuvam_wgsl_pieces.specs.declared.sign.Sign.TheVariants as sign
use Rattle.yettuvam_wgsl_written.specs.Attributes.{attribute}
use Rattle.yettuvam_wgsl_write_items.specs.Text.{pieces_of}
use Rattle.yettuvam_wgsl_write_items.proofs.signatures.push_size_start.Goals as goal

-- the pieces before, the attribute, and the parenthesis
pub returns : goal.returns
returns c =
    ap (map piece_of) c.in_ok-push.ensures.items
    ∙ map-append piece_of c.push_attribute.new.out.items _
    ∙ ap (λ ps. ps ++ Sign sign.LeftParen ∷ []) c.in_ok-push_attribute.ensures
    ∙ append_assoc (pieces_of c.args.out.now) (attribute (codes "workgroup_size")) (Sign sign.LeftParen ∷ [])
