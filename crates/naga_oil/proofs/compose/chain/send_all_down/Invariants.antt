use Rattle.std.proofs.Common.{◌≡◌, map, string_bytes}
use Rattle.naga_oil_link.specs.BuiltModule.{overriding_of}
use Rattle.naga_oil.specs.Chain.{all_sent_down}
use Rattle.naga_oil_words.specs.Texts.{texts}
use Rattle.naga_oil.proofs.compose.chain.send_all_down.Given as goal

abbrev pub invariant-loop-base : goal.invariant-loop-base
invariant-loop-base l = all_sent_down l.redirector (map (λ e. (string_bytes e.0, texts e.1.items)) l.base-iterator) ≡ all_sent_down l.fn.redirector (overriding_of l.all)
