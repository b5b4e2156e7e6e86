-- Parts of statements and groups of lines, worked by hand.
use Rattle.std.specs.Prelude.{◌≡◌, ℕ, refl, Bool, true, false, List, [], ◌∷◌, Option, Some, None}
use Rattle.naga_oil_ir.specs.Body.{Tokens}
use Rattle.naga_oil_ir.specs.Spans.{undefined}
use Rattle.naga_oil_ir.specs.declared.tokens.Token.TheVariants.{At, Head, Plain, Use, Give}
use Rattle.yettuvam_wgsl_lines.specs.Groups.{groups_of}
use Rattle.yettuvam_wgsl_lines.specs.Line.{LineValue}
use Rattle.yettuvam_wgsl_lines.specs.Parts.{operands_by, made_by, function_by}

-- `atomicCompareExchangeWeak(p, c, v)`, where `p` is the expression 0, `c` is 2 and `v` is 3, before a `break`
abbrev exchange : Tokens
exchange = Plain 1545 ∷ Use 2 ∷ Use 0 ∷ Use 3 ∷ Give 4 ∷ At undefined ∷ Head 5 ∷ []

exchange_rows : (operands_by 13 exchange ≡ 0 ∷ 2 ∷ 3 ∷ []) × (made_by exchange ≡ Some 4) × (function_by 13 (0 ∷ 2 ∷ 3 ∷ []) exchange ≡ 1545)
exchange_rows = (refl, refl, refl)

abbrev line : ℕ → ℕ → Bool → Option ℕ → Bool → LineValue
line n kind follows made named = record {
  kind = kind;
  at = 0;
  number = n;
  block = 0;
  follows = follows;
  function = 0;
  operands = [];
  made = made;
  is_named = named;
}

-- after the line before the first: `let x = e;`, an expression and a store of it, a `break` in the next block
abbrev some_lines : List LineValue
some_lines = line 0 22 false None false ∷ line 1 0 true (Some 5) true ∷ line 2 0 true (Some 6) false ∷ line 3 11 true None false ∷ line 4 5 false None false ∷ []

groups_row : groups_of [] some_lines ≡ 0 ∷ 1 ∷ 2 ∷ 2 ∷ 4 ∷ []
groups_row = refl

-- a call whose result is part of the store after it
merged_row : groups_of (true ∷ []) (line 0 16 false (Some 0) false ∷ line 1 11 true None false ∷ []) ≡ 0 ∷ 0 ∷ []
merged_row = refl
