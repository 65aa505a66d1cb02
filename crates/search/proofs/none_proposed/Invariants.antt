-- Where nothing was added, 1024 stands for each face before f.
use Rattle.std.proofs.Common.{◌≡◌, ℕ, ◌<◌, ◌≤◌}
use Rattle.arrays.specs.At.{at}
use Rattle.search.proofs.none_proposed.Given as goal

abbrev pub invariant-loop-f : goal.invariant-loop-f
invariant-loop-f l = record { few : l.some ≤ l.f; none : l.some ≡ 0 → (x : ℕ) → x < l.f → at l.parents x ≡ 1024 }
