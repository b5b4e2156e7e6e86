use Rattle.std.proofs.Common.{◌≡◌, ◌+◌, ◌++◌, length}
use denote.Text.{Utf8}
use denote.Shadow.{shadow}
use Rattle.std.specs.String.{string_bytes}
use Rattle.naga_oil_registry.specs.Sanitized.{parts_around, auto_binding, numbered}
use Rattle.naga_oil_registry.proofs.sanitize.with_bindings.Given as goal

abbrev pub invariant-loop-before : goal.invariant-loop-before
invariant-loop-before l = record {
  text : shadow (Utf8 l.rest);
  count : l.next + length (parts_around auto_binding l.rest) ≡ l.counter + length (parts_around auto_binding l.text);
  same : string_bytes l.numbered ++ numbered l.next (parts_around auto_binding l.rest) ≡ numbered l.counter (parts_around auto_binding l.text);
}

abbrev pub decreases-loop-before : goal.decreases-loop-before
decreases-loop-before l = length l.rest
