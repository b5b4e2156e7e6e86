use Rattle.std.proofs.Common.{◌≡◌, ◌++◌, map, take}
use Rattle.naga_oil_ir.specs.declared.tokens.Token.TheVariants.{Use}
use Rattle.naga_oil_ir.proofs.tokens.push_uses.Given as goal

abbrev pub invariant-loop-h : goal.invariant-loop-h
invariant-loop-h l = l.out.items ≡ l.fn.out.items ++ map Use (take l.h-index l.handles)
