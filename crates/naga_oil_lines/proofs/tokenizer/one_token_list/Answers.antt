use Rattle.std.proofs.Common.{subst, sym}
use Rattle.naga_oil_lines.specs.TokenGrammar.{AreTokens}
use Rattle.naga_oil_lines.proofs.GrammarLemmas.{AreTokens-lexemes}
use Rattle.naga_oil_lines.proofs.OneTokenList.{only_tokens}
use Rattle.naga_oil_lines.proofs.tokenizer.one_token_list.Goals as goal

pub returns : goal.returns
returns c = λ at cs ts. (only_tokens at cs ts, λ e. subst (AreTokens at cs) (sym e) (AreTokens-lexemes at cs))
