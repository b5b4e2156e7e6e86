-- One step of the search for a free number.
use Rattle.std.proofs.Common.{◌≡◌, ℕ, zero, suc, ◌+◌, ◌-◌, ◌<◌, ◌≤◌, Bool, if◌then◌else◌, sym, ap, arith, refl}
use Rattle.yettuvam_wgsl_names.specs.Table.{Name}
use Rattle.yettuvam_wgsl_written_names.specs.Taken.{free_from, numbered}

pub free_step : (f : Name → Bool) → (base : Name) → (tries n : ℕ) → 0 < tries → free_from f base tries n ≡ (if f (numbered base n) then free_from f base (tries - 1) (n + 1) else n)
unfolding free_from
free_step f base zero n p = grind arith
free_step f base (suc tries) n p = let e : suc tries - 1 ≡ tries = omega arith in ap (λ k. if f (numbered base n) then free_from f base k (n + 1) else n) (sym e)

pub free_end : (f : Name → Bool) → (base : Name) → (tries n : ℕ) → tries ≤ 0 → free_from f base tries n ≡ n
unfolding free_from
free_end f base zero n p = refl
free_end f base (suc tries) n p = grind arith
