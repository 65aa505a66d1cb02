-- The cut of flags that are held in an array: it is that of any set with these flags, and of limited size.
use mathlib.Core.Path.{◌≡◌, ap₂}
use mathlib.Core.Bool.{Bool, not, ◌&&◌}
use Prim.Native.Nat.{ℕ, ◌*◌, ◌%◌, ◌≤◌, ◌<◌}
use native.Mathlib.Omega.{arith}
use lib.IntN.{ℤ}
use Rattle.integers.specs.Sum.{Integers, when}
use Rattle.integers.specs.inner.Limited.{Limited}
use Rattle.integers.proofs.Limits.{limited_when, limited_sum, limited_more}
use Rattle.integers.proofs.Sums.{sum_ext}
use Rattle.maps.specs.Dart.{rev}
use Rattle.cuts.specs.inner.Cut.{leaves_of, cut_of}
use Rattle.cuts.proofs.Adding.{reverse_in}

-- sets that agree on the nodes that an array has flags of have one cut
pub cut_flags : (darts : ℕ) (tail : ℕ → ℕ) (c : ℕ → ℤ) (S S' : ℕ → Bool) → darts % 2 ≡ 0 → ((d : ℕ) → d < darts → tail d < 1024)
    → ((v : ℕ) → v < 1024 → S v ≡ S' v) → cut_of darts tail c S ≡ cut_of darts tail c S'
unfolding cut_of
cut_flags darts tail c S S' even tail_in same =
    sum_ext Integers darts _ _ (λ d l. ap₂ (λ a b. when (a && not b) (c d)) (same (tail d) (tail_in d l))
    (same (tail (rev d)) (tail_in (rev d) (reverse_in darts d even l))))

-- 1,024 darts of at most 2,000,000
pub cut_limited : (darts : ℕ) (tail : ℕ → ℕ) (c : ℕ → ℤ) (S : ℕ → Bool) → darts ≤ 1024 → ((d : ℕ) → d < darts → Limited 2000000 (c d))
    → Limited 2048000000 (cut_of darts tail c S)
unfolding cut_of
cut_limited darts tail c S few small =
    limited_more {a = darts * 2000000} (omega arith) (limited_sum darts 2000000 _ (λ d l. limited_when (leaves_of tail S d) (small d l)))
