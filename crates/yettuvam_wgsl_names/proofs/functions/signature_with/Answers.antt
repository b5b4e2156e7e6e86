use Rattle.std.proofs.Common.{◌∙◌, ap, sym, option_map}
use Rattle.yettuvam_wgsl_names.proofs.TableLemmas.{lookup_map}
use Rattle.yettuvam_wgsl_names.proofs.functions.signature_with.Goals as goal

pub returns : goal.returns
returns c = ap (option_map (λ s. (s.0.now, s.1, s.2))) c.find_code.ensures ∙ sym (lookup_map (λ s. (s.0.now, s.1, s.2)) c.args.table.now c.args.code)
