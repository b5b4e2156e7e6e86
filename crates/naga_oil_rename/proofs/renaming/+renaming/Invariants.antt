use Rattle.std.proofs.Common.{◌≡◌, take}
use Rattle.std.specs.List.{flat_map}
use Rattle.naga_oil_ir.specs.Body.{spanned_tokens, case_tokens}
use Rattle.naga_oil_rename.specs.Renames.{rename_tokens}
use Rattle.naga_oil_rename.proofs.renaming.+renaming.Given as goal

abbrev pub invariant-renamed_block-loop-entry : goal.invariant-renamed_block-loop-entry
invariant-renamed_block-loop-entry g l =
    flat_map spanned_tokens l.body.items ≡ rename_tokens (g.R.Renaming.renames l.names) (flat_map spanned_tokens (take l.entry-index l.entry-items))

abbrev pub invariant-renamed_cases-loop-case : goal.invariant-renamed_cases-loop-case
invariant-renamed_cases-loop-case g l =
    flat_map case_tokens l.copies.items ≡ rename_tokens (g.R.Renaming.renames l.names) (flat_map case_tokens (take l.case-index l.cases))
