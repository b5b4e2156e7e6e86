use Rattle.std.proofs.Common.{◌≡◌, take, map, option_map}
use Rattle.naga_oil_ir.specs.Rows.{member_label, member_type}
use Rattle.naga_oil_rename.specs.Renames.{rename_place}
use Rattle.naga_oil_rename.proofs.renamed_items.renamed_members.Given as goal

abbrev pub invariant-loop-of : goal.invariant-loop-of
invariant-loop-of g l = record {
  labels : map member_label l.out.items ≡ map member_label (take l.of-index l.list);
  types : map member_type l.out.items ≡ map (option_map (rename_place (g.R.Renaming.renames l.names))) (map member_type (take l.of-index l.list));
}
