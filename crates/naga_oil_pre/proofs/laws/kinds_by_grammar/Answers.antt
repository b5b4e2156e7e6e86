use Rattle.std.specs.Prelude.{codes}
use Rattle.naga_oil_conditions.proofs.LineGrammarLemmas.{version-reads, version-is, ifdef-reads, ifdef-is, ifndef-reads, ifndef-is, if-reads, if-is, begins-reads, begins-is, import-reads, import-is, import_path-reads, import_path-is, define-reads, define-is}
use Rattle.naga_oil_pre.proofs.laws.kinds_by_grammar.Goals as goal

pub returns : goal.returns
returns c = record {
  version = λ cs known. (version-is known cs, version-reads known cs);
  ifdef = λ cs g. (ifdef-is g.0 g.1 cs, ifdef-reads g.0 g.1 cs);
  ifndef = λ cs g. (ifndef-is g.0 g.1 cs, ifndef-reads g.0 g.1 cs);
  condition = λ cs g. (if-is g.0 g.1 g.2 g.3 cs, if-reads g.0 g.1 g.2 g.3 cs);
  plain_else = λ cs. (begins-is (codes "else") cs, λ h. begins-reads (codes "else") cs h.0 h.1);
  endif = λ cs. (begins-is (codes "endif") cs, λ h. begins-reads (codes "endif") cs h.0 h.1);
  imports = λ cs. (import-is cs, import-reads cs);
  import_path = λ cs path. (import_path-is path cs, import_path-reads path cs);
  define = λ cs g. (define-is g.0 g.1 cs, define-reads g.0 g.1 cs);
}
