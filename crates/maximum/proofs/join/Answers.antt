-- The total is the cut of the union, and its sign says which of the two is kept.
use Rattle.std.proofs.Common.{◌∙◌, subst, inl, inr, pos, ◌≤ℤ◌, ◌<ℤ◌}
use Rattle.integers.proofs.Laws.{lt_of_test, ge_of_test}
use Rattle.signed.proofs.Laws.{number_of_bits}
use Rattle.maximum.proofs.Joining.{cut_flags}
use Rattle.maximum.proofs.join.Goals as goal

pub returns-then-not-below : goal.returns-then-not-below
returns-then-not-below c =
    let e = c.either_and_both.ensures in (
      c.copy_flags.ensures.0,
      inr (
        λ u l. c.copy_flags.ensures.1 u l ∙ e.3 u l,
        subst (λ t. pos 0 ≤ℤ t)
            (number_of_bits _ (record { sfits = c.capacity-total.type_inv }) ∙ c.capacity-total.ensures ∙ cut_flags _ _ _ _ _ c.requires.3 c.requires.4 e.2)
            (ge_of_test _ _ c.if-not-below.true),
      ),
    )

pub returns-else-not-below : goal.returns-else-not-below
returns-else-not-below c =
    let e = c.either_and_both.ensures in (
      e.0,
      inl (
        e.2,
        subst (λ t. t <ℤ pos 0)
            (number_of_bits _ (record { sfits = c.capacity-total.type_inv }) ∙ c.capacity-total.ensures ∙ cut_flags _ _ _ _ _ c.requires.3 c.requires.4 e.2)
            (lt_of_test _ _ c.if-not-below.false),
      ),
    )
