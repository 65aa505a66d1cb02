-- What a record that passes its checks is: whole, and of its kind.
use Prim.Native.Nat.{ℕ, ◌+◌, ◌≤◌}
use mathlib.Core.Path.{◌≡◌}
use mathlib.Core.List.{List}
use native.Mathlib.Omega.{arith}
use native.Mathlib.Decide.{ℕ_discrete}
use lib.ListN.{length, get_or}
use Rattle.refusals.specs.Order.{NoneOf}
use Rattle.records.specs.Record.{record_length, record_checks}
use Rattle.records.specs.Sheet.{edge_at}

module _ (s : List ℕ) (kind at : ℕ) (passed : NoneOf (record_checks s kind at)) where
  pub record_whole : at + record_length kind ≤ length s
  unfolding NoneOf record_checks
  record_whole = omega (arith, passed.1.1.0)

  pub record_kind : get_or s at 0 ≡ kind
  unfolding NoneOf record_checks
  record_kind = go (ℕ_discrete (get_or s at 0) kind)
    where
      go : Dec (get_or s at 0 ≡ kind) → get_or s at 0 ≡ kind
      go (yes e) = e
      go (no e) = absurd (passed.1.0 e)

-- the other way round: whole and of its kind, a record passes
pub record_passes : (s : List ℕ) (kind at : ℕ) → get_or s at 0 ≡ kind → at + record_length kind ≤ length s → NoneOf (record_checks s kind at)
unfolding NoneOf record_checks
record_passes s kind at first whole = ((λ h. omega (arith, whole)), ((λ h. h first), ((λ h. omega (arith, whole)), tt)))

pub edge_body : (s : List ℕ) (e : ℕ) → NoneOf (record_checks s 2 (edge_at s e)) → edge_at s e + 17 ≤ length s
edge_body s e h = omega (arith, record_whole s 2 (edge_at s e) h)
