-- A value fits a type: std's relation and the test.
use Rattle.std.proofs.Common.{◌≡◌, zero, suc, ℤ, pos, negsuc, Option, Some, None, refl, arith}
use Rattle.std.specs.Prelude.{SomeIff, FitsSigned, int_div, if◌then◌else◌}
use Rattle.std.specs.Int.{w32, w64, CanDivide}
use Rattle.std.proofs.lemmas.Int.{ints}
use Rattle.std.proofs.lemmas.Grind.{common_steps}
use Rattle.yettuvam_wgsl_shape.specs.Numbers.{is_untyped, is_signed}
use Rattle.yettuvam_wgsl_shape.specs.Operators.{untyped_if_fits, untyped_quotient, signed_quotient}

pub if_untyped : (r : Option ℤ) (z : ℤ) → SomeIff r (FitsSigned w64 z) z → r ≡ untyped_if_fits z
if_untyped None (pos n) h = grind (arith, common_steps)
if_untyped None (negsuc n) h = grind (arith, common_steps)
if_untyped (Some x) (pos n) h = grind (arith, common_steps)
if_untyped (Some x) (negsuc n) h = grind (arith, common_steps)

-- ---- quotients: the divisor isn't zero, and the quotient fits

untyped_by : (r : Option ℤ) (d z : ℤ) → SomeIff r (FitsSigned w64 d) z → r ≡ (if is_untyped d then Some z else None)
untyped_by None (pos n) z h = grind (arith, common_steps)
untyped_by None (negsuc n) z h = grind (arith, common_steps)
untyped_by (Some x) (pos n) z h = grind (arith, common_steps)
untyped_by (Some x) (negsuc n) z h = grind (arith, common_steps)

signed_by : (r : Option ℤ) (d z : ℤ) → SomeIff r (FitsSigned w32 d) z → r ≡ (if is_signed d then Some z else None)
signed_by None (pos n) z h = grind (arith, common_steps)
signed_by None (negsuc n) z h = grind (arith, common_steps)
signed_by (Some x) (pos n) z h = grind (arith, common_steps)
signed_by (Some x) (negsuc n) z h = grind (arith, common_steps)

without_first : (r : Option ℤ) (z : ℤ) (P Q : Type 0) → P → SomeIff r (P × Q) z → SomeIff r Q z
without_first None z P Q p h = λ q. h (p, q)
without_first (Some x) z P Q p h = (h.0.1, h.1)

pub if_untyped_quotient : (r : Option ℤ) (a b z : ℤ) → FitsSigned w64 b → SomeIff r (CanDivide w64 a b) z → r ≡ untyped_quotient a b z
if_untyped_quotient None a (pos zero) z f h = refl
if_untyped_quotient (Some x) a (pos zero) z f h = absurd (omega (arith, ints, h.0.0))
if_untyped_quotient r a (pos (suc n)) z f h =
    untyped_by r (int_div a (pos (suc n))) z (without_first r z _ _ (omega (arith, ints)) h)
if_untyped_quotient r a (negsuc n) z f h =
    untyped_by r (int_div a (negsuc n)) z (without_first r z _ _ (omega (arith, ints)) h)

pub if_signed_quotient : (r : Option ℤ) (a b z : ℤ) → FitsSigned w32 b → SomeIff r (CanDivide w32 a b) z → r ≡ signed_quotient a b z
if_signed_quotient None a (pos zero) z f h = refl
if_signed_quotient (Some x) a (pos zero) z f h = absurd (omega (arith, ints, h.0.0))
if_signed_quotient r a (pos (suc n)) z f h =
    signed_by r (int_div a (pos (suc n))) z (without_first r z _ _ (omega (arith, ints)) h)
if_signed_quotient r a (negsuc n) z f h =
    signed_by r (int_div a (negsuc n)) z (without_first r z _ _ (omega (arith, ints)) h)
