-- A sentence of parts.
use Rattle.std.specs.Prelude.{List, ℕ, ◌++◌}
use Rattle.yettuvam_faults.specs.declared.message.Phrase.{Phrase}

abbrev pub phrase_text : Phrase → List ℕ
phrase_text p = p.start.now ++ p.name.now ++ p.middle.now ++ p.other.now ++ p.end.now
