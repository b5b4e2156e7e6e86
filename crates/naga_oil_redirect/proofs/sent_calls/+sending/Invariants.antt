use Rattle.std.proofs.Common.{◌≡◌, take}
use Rattle.std.specs.List.{flat_map}
use Rattle.naga_oil_ir.specs.Body.{spanned_tokens, case_tokens}
use Rattle.naga_oil_ir.specs.declared.statement.Block.{out-Block}
use Rattle.naga_oil_rename.specs.Renames.{rename_tokens}
use Rattle.naga_oil_redirect.specs.Redirected.{sent}
use Rattle.naga_oil_redirect.proofs.sent_calls.+sending.Given as goal

abbrev pub invariant-send_block-loop-place : goal.invariant-send_block-loop-place
invariant-send_block-loop-place l = record {
  unvisited : goal.unvisited-send_block-loop-place l;
  sent : flat_map spanned_tokens (take l.place (out-Block l.block).body.items) ≡ rename_tokens (sent l.from l.to) (flat_map spanned_tokens (take l.place (out-Block l.initial.block).body.items));
}

abbrev pub invariant-send_cases-loop-place : goal.invariant-send_cases-loop-place
invariant-send_cases-loop-place l = record {
  unvisited : goal.unvisited-send_cases-loop-place l;
  sent : flat_map case_tokens (take l.place l.cases.items) ≡ rename_tokens (sent l.from l.to) (flat_map case_tokens (take l.place l.initial.cases.items));
}
