-- A register: under the key of each place, 1 more than its value; 0 under a key that no place has.
use Rattle.std.specs.Prelude.{◌≡◌, ◌⊎◌, ◌≢◌, Bool, true, false, ℕ, ◌+◌, ◌<◌}

-- the places 0, .., n - 1 are entered
pub record Register (key value table : ℕ → ℕ) (n : ℕ) : Type 0 where
  pub entered : (d : ℕ) → d < n → table (key d) ≡ value d + 1
  pub from : (k : ℕ) → (table k ≡ 0) ⊎ ((d : ℕ) × (d < n) × (key d ≡ k) × (table k ≡ value d + 1))

-- two places of one key have two values
abbrev pub Clash : (ℕ → ℕ) → (ℕ → ℕ) → ℕ → Type 0
Clash key value n = (c : ℕ) × (d : ℕ) × (c < n) × (d < n) × (key c ≡ key d) × (value c ≢ value d)

-- what a function that enters all places answers: whether it met a clash; if not, the register is whole
abbrev pub Entered : (ℕ → ℕ) → (ℕ → ℕ) → (ℕ → ℕ) → ℕ → Bool → Type 0
Entered key value table n true = Clash key value n
Entered key value table n false = Register key value table n
