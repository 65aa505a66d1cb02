-- The net flows edge by edge: none at first, an edge's flow out of its tail and into its head, every sum within 32 bits, and at the end `net` of the map.
use mathlib.Core.Path.{◌≡◌, refl, ◌∙◌, ap, ap₂}
use mathlib.Core.Bool.{Bool}
use Prim.Native.Nat.{ℕ, suc, ◌+◌, ◌*◌, ◌≤◌, ◌<◌}
use native.Mathlib.Omega.{arith}
use lib.Dec.{eqb}
use lib.IntN.{ℤ, pos, neg_ℤ, ◌+ℤ◌, ◌-ℤ◌}
use mir.Syntax.{w32}
use mir.Val.{SFits}
use Rattle.integers.specs.Sum.{Integers, sum, when}
use Rattle.integers.specs.inner.Limited.{Limited}
use Rattle.integers.proofs.Limits.{limited_plus, limited_minus, limited_neg, limited_when, limited_sum}
use Rattle.signed.proofs.Limits.{limited_fits}
use Rattle.integers.proofs.Sums.{sum_zero, sum_suc}
use Rattle.maps.specs.Map.{Map}
use Rattle.maps.specs.Flow.{net}
use Rattle.maps.proofs.Darts.{by_edge}
use Rattle.flows.specs.Settings.{on_darts}
use Rattle.flows.proofs.OnDarts.{on_darts_even, on_darts_odd}
use Rattle.balance.specs.inner.SmallFlows.{SmallFlows}
use Rattle.balance.specs.inner.NetUpTo.{net_up_to}

-- the sums that `fill_nets` leaves are the net flows of any map with these tails
pub up_to_all : (𝓜 : Map) (x : ℕ → ℤ) (v : ℕ) → net_up_to 𝓜.tail x (2 * 𝓜.edges) v ≡ net 𝓜 (on_darts x) v
unfolding net_up_to net
up_to_all 𝓜 x v = refl

module _ (tail : ℕ → ℕ) (x : ℕ → ℤ) where
  pub net_none : (v : ℕ) → net_up_to tail x 0 v ≡ pos 0
  unfolding net_up_to
  net_none v = sum_zero Integers _

  -- one edge more
  net_more : (e v : ℕ)
      → net_up_to tail x (2 * (e + 1)) v ≡ (net_up_to tail x (2 * e) v +ℤ when (eqb v (tail (2 * e))) (x e)) +ℤ when (eqb v (tail (2 * e + 1))) (neg_ℤ (x e))
  unfolding net_up_to
  net_more e v =
      ap (λ n. sum Integers n term) two
      ∙ sum_suc Integers (2 * e + 1) term
      ∙ ap₂ ◌+ℤ◌
      (ap (λ n. sum Integers n term) one ∙ sum_suc Integers (2 * e) term
      ∙ ap (λ z. sum Integers (2 * e) term +ℤ when (eqb v (tail (2 * e))) z) (on_darts_even x e))
      (ap (when (eqb v (tail (2 * e + 1)))) (on_darts_odd x e))
    where
      term : ℕ → ℤ
      term d = when (eqb v (tail d)) (on_darts x d)

      one : 2 * e + 1 ≡ suc (2 * e)
      one = omega arith

      two : 2 * (e + 1) ≡ suc (2 * e + 1)
      two = omega arith

  -- the step of the loop: p, q and r are the sums at v before, between and after the two stores
  pub net_stepped : (e v a b : ℕ) {p q r : ℤ} → a ≡ tail (2 * e) → b ≡ tail (2 * e + 1) → p ≡ net_up_to tail x (2 * e) v
      → q ≡ p +ℤ when (eqb v a) (x e) → r ≡ q +ℤ when (eqb v b) (neg_ℤ (x e)) → r ≡ net_up_to tail x (2 * (e + 1)) v
  net_stepped e v a b ea eb ep eq er = cc (net_more e v)

  module _ (edges : ℕ) (small : SmallFlows edges x) where
    small_dart : (d : ℕ) → d < 2 * edges → Limited 1000000 (on_darts x d)
    small_dart = by_edge edges (λ d. Limited 1000000 (on_darts x d)) (λ e l. rw on_darts_even (small e l)) (λ e l. rw on_darts_odd (limited_neg (small e l)))

    net_limited : (e v : ℕ) → e < edges → Limited (2 * e * 1000000) (net_up_to tail x (2 * e) v)
    unfolding net_up_to
    net_limited e v l = limited_sum (2 * e) 1000000 _ (λ d m. limited_when (eqb v (tail d)) (small_dart d (omega arith)))

    -- an edge's flow is added, and then taken away: both sums fit
    pub added_fits : (e v : ℕ) → e < edges → edges ≤ 512 → SFits w32 (net_up_to tail x (2 * e) v +ℤ x e)
    added_fits e v l m = limited_fits _ _ (omega arith) (limited_plus (net_limited e v l) (small e l))

    pub taken_fits : (e v : ℕ) (b : Bool) → e < edges → edges ≤ 512 → SFits w32 ((net_up_to tail x (2 * e) v +ℤ when b (x e)) -ℤ x e)
    taken_fits e v b l m = limited_fits _ _ (omega arith) (limited_minus (limited_plus (net_limited e v l) (limited_when b (small e l))) (small e l))
