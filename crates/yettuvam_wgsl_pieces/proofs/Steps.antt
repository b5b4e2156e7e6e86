-- One step of what is defined by counting.
use Rattle.std.proofs.Common.{◌≡◌, ℕ, zero, suc, ◌-◌, ◌/◌, ◌%◌, ◌<◌, ◌++◌, Bool, codes, sym, ap, arith}
use Rattle.yettuvam_wgsl_pieces.specs.Layout.{indent}
use Rattle.yettuvam_wgsl_pieces.specs.Numbers.{pointed, digit}
use Rattle.yettuvam_wgsl_pieces.specs.Pieces.{letters, letter}

pub indent_step : (depth : ℕ) → 0 < depth → indent depth ≡ codes "    " ++ indent (depth - 1)
indent_step zero p = grind arith
indent_step (suc depth) p = let e : suc depth - 1 ≡ depth = omega arith in ap (λ n. codes "    " ++ indent n) (sym e)

pub pointed_step : (places value : ℕ) → 0 < places → pointed places value ≡ pointed (places - 1) (value / 10) ++ digit (value % 10)
pointed_step zero value p = grind arith
pointed_step (suc places) value p = let e : suc places - 1 ≡ places = omega arith in ap (λ n. pointed n (value / 10) ++ digit (value % 10)) (sym e)

pub letters_step : (colors : Bool) → (size pattern : ℕ) → 0 < size → letters colors size pattern ≡ letter colors (pattern % 4) ++ letters colors (size - 1) (pattern / 4)
letters_step colors zero pattern p = grind arith
letters_step colors (suc size) pattern p = let e : suc size - 1 ≡ size = omega arith in ap (λ n. letter colors (pattern % 4) ++ letters colors n (pattern / 4)) (sym e)
