use Rattle.std.proofs.Common.{◌≡◌, ℕ, List, [], drop, string_bytes}
use Rattle.std.specs.BTreeSet.{contains_text}
use Rattle.naga_oil_words.specs.Texts.{is_among, texts}
use Rattle.naga_oil.specs.Chain.{sent_down}
use Rattle.naga_oil.proofs.compose.chain.send_down.Given as goal

abbrev pub invariant-loop-other : goal.invariant-loop-other
invariant-loop-other l = (omitted : List (List ℕ)) × (contains_text l.omit ≡ is_among omitted) × (sent_down l.redirector (string_bytes l.original) (texts (drop l.other-index l.others)) omitted ≡ sent_down l.fn.redirector (string_bytes l.base) (texts l.others) [])
