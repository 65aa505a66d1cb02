-- What the sheet checks 9, 10 and 12 refuse. Document 01, "Operations": "Then 9 a turn has another tail, or two darts have one turn; 10 some node's darts do
-- not form exactly one round, or it has none"; "12 not flat". Document 02, Job 8: "Refusal 11 no longer occurs."
use Rattle.std.specs.Prelude.{ℕ, ◌<◌, ◌≡◌, ◌⊎◌, ◌≢◌}
use Rattle.maps.specs.Orbit.{Orbit}
use Rattle.maps.specs.Map.{Map, darts}
use Rattle.maps.specs.Flat.{Flat}

-- what the checks 4 and 5 leave: every end is a node, every turn a dart
pub record InRange (𝓜 : Map) : Type 0 where
  pub tail_in : (d : ℕ) → d < darts 𝓜 → 𝓜.tail d < 𝓜.nodes
  pub rotation_in : (d : ℕ) → d < darts 𝓜 → 𝓜.rotation d < darts 𝓜

-- 9
abbrev pub RotationFault : Map → Type 0
RotationFault 𝓜 =
    ((d : ℕ) × (d < darts 𝓜) × (𝓜.tail (𝓜.rotation d) ≢ 𝓜.tail d))
    ⊎ ((c : ℕ) × (d : ℕ) × (c < d) × (d < darts 𝓜) × (𝓜.rotation c ≡ 𝓜.rotation d))

-- 10: the node has no dart, or two darts that one round does not hold
abbrev pub NodeFault : Map → Type 0
NodeFault 𝓜 =
    (v : ℕ) × (v < 𝓜.nodes)
    × (((d : ℕ) → d < darts 𝓜 → 𝓜.tail d ≢ v)
    ⊎ ((c : ℕ) × (d : ℕ) × (c < darts 𝓜) × (d < darts 𝓜) × (𝓜.tail c ≡ v) × (𝓜.tail d ≡ v) × (Orbit 𝓜.rotation c d → ⊥)))

-- 12
abbrev pub NotFlat : Map → Type 0
NotFlat 𝓜 = Flat 𝓜 → ⊥

-- what the checks 9 and 10 leave, said positively: the darts that leave a node are one round of the rotation, and every node has one
pub record Sound (𝓜 : Map) : Type 0 where
  pub range : InRange 𝓜
  pub same_tail : (d : ℕ) → d < darts 𝓜 → 𝓜.tail (𝓜.rotation d) ≡ 𝓜.tail d
  pub injective : (c d : ℕ) → c < darts 𝓜 → d < darts 𝓜 → 𝓜.rotation c ≡ 𝓜.rotation d → c ≡ d
  pub one_round : (c d : ℕ) → c < darts 𝓜 → d < darts 𝓜 → 𝓜.tail c ≡ 𝓜.tail d → Orbit 𝓜.rotation c d
  pub has_dart : (v : ℕ) → v < 𝓜.nodes → (d : ℕ) × (d < darts 𝓜) × (𝓜.tail d ≡ v)
