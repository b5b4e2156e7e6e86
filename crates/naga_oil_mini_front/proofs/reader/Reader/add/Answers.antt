use Rattle.std.proofs.Common.{rules}
use Rattle.naga_oil_ir.specs.ModuleValue.{module_value}
use Rattle.naga_oil_mini_front.proofs.ReaderLemmas.{symbols_other}
use Rattle.naga_oil_mini_front.proofs.reader.Reader.add.Goals as goal
use Rattle.naga_oil_mini_front.proofs.reader.Reader.add.Goals.{in_default-via-then-symbols-lt1, in_default-via-else-symbols-lt1+in-Name+in_default, in_default-via-else-symbols-lt1+in-Opens-1}

pub returns-in_default-clause-value : goal.returns-in_default-clause-value
returns-in_default-clause-value c =
    let m = module_value c.args.self.now.module_ in
    let at = c.args.self.now.span in
    symbols_other c.args.symbols.now at m (λ k rest e. elim c.in_default.branch [
      | in_default-via-then-symbols-lt1 w ↦ (search rules, search rules, search rules, search rules)
      | in_default-via-else-symbols-lt1+in-Name+in_default w ↦ (search rules, search rules, search rules, search rules)
      | in_default-via-else-symbols-lt1+in-Opens-1 w ↦ (search rules, search rules, search rules, search rules)
    ])
