-- A unit flow from s to t, and the one along a walk: one on each of its darts, minus one on their reverses. What carries a value.
use Rattle.std.specs.Prelude.{◌≡◌, ℕ, eqb, ℤ, pos, ◌+ℤ◌, ◌-ℤ◌, ◌*ℤ◌}
use Rattle.integers.specs.Sum.{when}
use Rattle.maps.specs.Dart.{rev}
use Rattle.maps.specs.Map.{Map}
use Rattle.maps.specs.Walk.{Walk, here, along}
use Rattle.maps.specs.Flow.{Antisymmetric, net}

pub record UnitFlow (𝓜 : Map) (s t : ℕ) (π : ℕ → ℤ) : Type 0 where
  pub antisymmetric : Antisymmetric 𝓜 π
  pub nets : (v : ℕ) → net 𝓜 π v ≡ when (eqb v s) (pos 1) -ℤ when (eqb v t) (pos 1)

-- the value times π leaves s and arrives at t. A unit flow carries every value; for the value 0 each antisymmetric π does, also where no walk joins s and t
-- (document 02, Job 8)
pub record Carrier (𝓜 : Map) (s t : ℕ) (value : ℤ) (π : ℕ → ℤ) : Type 0 where
  pub antisymmetric : Antisymmetric 𝓜 π
  pub nets : (v : ℕ) → value *ℤ net 𝓜 π v ≡ value *ℤ (when (eqb v s) (pos 1) -ℤ when (eqb v t) (pos 1))

-- one on the dart d, minus one on its reverse
abbrev pub single : ℕ → ℕ → ℤ
single d i = when (eqb i d) (pos 1) -ℤ when (eqb i (rev d)) (pos 1)

-- one along each dart of a walk
unfoldable pub walk_flow : {𝓜 : Map} {v w : ℕ} → Walk 𝓜 v w → ℕ → ℤ
walk_flow here i = pos 0
walk_flow (along d l e r) i = single d i +ℤ walk_flow r i
