-- Finite sums: `sum 𝓜 n f` is f 0 + f 1 + .. + f (n - 1), over a carrier whose addition is commutative and associative with a zero.
-- `sumℤ` and `sumℕ` are the two carriers used; `count n b` is how many of 0, .., n - 1 pass the test b.
use Rattle.std.specs.Prelude.{◌≡◌, Bool, cond, ℕ, zero, suc, ◌+◌, ℤ, pos, ◌+ℤ◌}
use Rattle.std.proofs.Common.{add-zero, add_comm, add_assoc}
use Rattle.std.proofs.Math.IntN.{+ℤ_idr, +ℤ_comm, +ℤ_assoc}

pub record Monoid : Type 1 where
  pub Carrier : Type 0
  pub add : Carrier → Carrier → Carrier
  pub nil : Carrier
  pub add_nil : (a : Carrier) → add a nil ≡ a
  pub commutes : (a b : Carrier) → add a b ≡ add b a
  pub associates : (a b c : Carrier) → add (add a b) c ≡ add a (add b c)

abbrev pub Integers : Monoid
Integers = record { Carrier = ℤ; add = ◌+ℤ◌; nil = pos 0; add_nil = +ℤ_idr; commutes = +ℤ_comm; associates = +ℤ_assoc }

abbrev pub Naturals : Monoid
Naturals = record { Carrier = ℕ; add = ◌+◌; nil = 0; add_nil = add-zero; commutes = add_comm; associates = add_assoc }

-- the empty sum is nil; the last term is added at the right
unfoldable pub sum : (𝓜 : Monoid) → ℕ → (ℕ → 𝓜.Carrier) → 𝓜.Carrier
sum 𝓜 zero f = 𝓜.nil
sum 𝓜 (suc n) f = 𝓜.add (sum 𝓜 n f) (f n)

abbrev pub sumℤ : ℕ → (ℕ → ℤ) → ℤ
sumℤ = sum Integers

abbrev pub sumℕ : ℕ → (ℕ → ℕ) → ℕ
sumℕ = sum Naturals

-- x where the test holds, and 0 elsewhere
abbrev pub when : Bool → ℤ → ℤ
when b x = cond b x (pos 0)

abbrev pub bit : Bool → ℕ
bit b = cond b 1 0

abbrev pub count : ℕ → (ℕ → Bool) → ℕ
count n b = sumℕ n (λ i. bit (b i))
