-- Worked examples of the checks: the order of the refusals, the bounds, and a sheet of one edge that passes.
use Prim.Native.Nat.{ℕ}
use mathlib.Core.Path.{refl}
use mathlib.Core.Logic.{inl, inr}
use mathlib.Core.List.{List, [], ◌∷◌, ◌++◌}
use native.Mathlib.Omega.{arith}
use lib.IntN.{pos, negsuc}
use lib.Signed.{lt_z_yes}
use Rattle.std.specs.Prelude.{Ok}
use Rattle.refusals.specs.Order.{NoneOf, FirstOf, in_turn, Judged}
use Rattle.refusals.specs.Refused.{refused}
use Rattle.refusals.proofs.Order.{neither}
use Rattle.fields.specs.Fields.{u16_at, u32_at, i32_at}
use Rattle.records.specs.Record.{record_checks}
use Rattle.records.specs.Check.{number_checks, field_checks, edge_checks}
use Rattle.records.specs.Sheet.{headLength, outer_of, tail_of, rotation_of, capacity_of, head_record_checks, head_checks, edge_record_checks, byte_checks}

-- no byte at all: 1
no_byte : Judged (byte_checks []) (refused 1 0)
unfolding FirstOf byte_checks head_checks head_record_checks headLength
no_byte = inl (omega arith, refl, refl)

-- one byte of another kind: 2, though the body is cut short too
wrong_kind : Judged (byte_checks (2 ∷ [])) (refused 2 0)
unfolding FirstOf byte_checks head_checks head_record_checks headLength
wrong_kind = inr (λ h. omega arith, inl (((λ h. omega arith), (λ h. omega arith)), refl, refl))

-- the right kind, and no body: 1
cut_short : Judged (byte_checks (1 ∷ [])) (refused 1 0)
unfolding FirstOf byte_checks head_checks head_record_checks headLength
cut_short = inr (λ h. omega arith, inr (λ h. h.0 refl, inl (omega arith, refl, refl)))

-- a head of kind 4 with a body of 5 bytes: 1, though its counts, which are there, are out of range
five_of_six : Judged (byte_checks (4 ∷ 0 ∷ 0 ∷ 0 ∷ 0 ∷ 0 ∷ [])) (refused 1 0)
unfolding FirstOf byte_checks head_checks head_record_checks headLength
five_of_six = inr (λ h. omega arith, inr (λ h. h.1 refl, inl (omega arith, refl, refl)))

-- 513 nodes and 512 edges are in range, 514 nodes are not
most : Judged (number_checks 513 512 0) (Ok tt)
unfolding NoneOf number_checks
most = (neither (neither (λ h. omega arith) (λ h. omega arith)) (neither (λ h. omega arith) (λ h. omega arith)), ((λ h. omega arith), tt))

too_many : Judged (number_checks 514 512 0) (refused 3 0)
unfolding FirstOf number_checks
too_many = inl (inl (inr (omega arith)), refl, refl)

-- the last dart is 1,023; 1,024 is none, and is told only where the counts are in range
last_dart : Judged (number_checks 513 512 1023) (Ok tt)
unfolding NoneOf number_checks
last_dart = (neither (neither (λ h. omega arith) (λ h. omega arith)) (neither (λ h. omega arith) (λ h. omega arith)), ((λ h. omega arith), tt))

no_dart : Judged (number_checks 513 512 1024) (refused 24 0)
unfolding FirstOf number_checks
no_dart = inr (neither (neither (λ h. omega arith) (λ h. omega arith)) (neither (λ h. omega arith) (λ h. omega arith)), inl (omega arith, refl, refl))

counts_first : Judged (number_checks 514 512 1024) (refused 3 0)
unfolding FirstOf number_checks
counts_first = inl (inl (inr (omega arith)), refl, refl)

-- −1,000,001 is out of range, and with 0 adds to less than zero: 6 comes before 7
six_before_seven : Judged (field_checks 2 1 0 1 0 1 (negsuc 1000000) (pos 0)) (refused 6 0)
unfolding FirstOf field_checks
six_before_seven =
    inr (neither (λ h. omega arith) (λ h. omega arith), inr (neither (λ h. omega arith) (λ h. omega arith), inl (inl (inl (lt_z_yes tt)), refl, refl)))

-- −1,000,000 and 1,000,000 are in range and add to zero, which passes
furthest : Judged (field_checks 2 1 0 1 0 1 (negsuc 999999) (pos 1000000)) (Ok tt)
unfolding NoneOf field_checks
furthest = (
  neither (λ h. omega arith) (λ h. omega arith),
  (
    neither (λ h. omega arith) (λ h. omega arith),
    (neither (neither (λ h. h.lt) (λ h. h.lt)) (neither (λ h. h.lt) (λ h. h.lt)), ((λ h. h.lt), tt)),
  ),
)

-- one edge from node 0 to node 1, with capacities 5 and −5
unfoldable one_edge : List ℕ
one_edge = 1 ∷ 2 ∷ 0 ∷ 1 ∷ 0 ∷ 2 ∷ 0 ∷ 0 ∷ 1 ∷ 0 ∷ 0 ∷ 0 ∷ 1 ∷ 0 ∷ 5 ∷ 0 ∷ 0 ∷ 0 ∷ 251 ∷ 255 ∷ 255 ∷ 255 ∷ []

one_edge_passes : Judged (byte_checks one_edge) (Ok tt)
unfolding NoneOf in_turn byte_checks head_checks head_record_checks headLength outer_of edge_record_checks record_checks number_checks
    edge_checks field_checks tail_of rotation_of capacity_of u16_at u32_at i32_at one_edge
one_edge_passes = (
  λ h. omega arith,
  (
    λ h. h.0 refl,
    (
      λ h. omega arith,
      (
        neither (neither (λ h. omega arith) (λ h. omega arith)) (neither (λ h. omega arith) (λ h. omega arith)),
        (
          λ h. omega arith,
          (
            λ h. omega arith,
            (
              λ h. h refl,
              (
                λ h. omega arith,
                (
                  neither (λ h. omega arith) (λ h. omega arith),
                  (
                    neither (λ h. omega arith) (λ h. omega arith),
                    (
                      neither (neither (λ h. h.lt) (λ h. h.lt)) (neither (λ h. h.lt) (λ h. h.lt)),
                      ((λ h. h.lt), (λ h. omega arith, tt)),
                    ),
                  ),
                ),
              ),
            ),
          ),
        ),
      ),
    ),
  ),
)

-- the same with a byte after it: 8
one_byte_more : Judged (byte_checks (one_edge ++ (0 ∷ []))) (refused 8 0)
unfolding FirstOf in_turn byte_checks head_checks head_record_checks headLength outer_of edge_record_checks record_checks number_checks
    edge_checks field_checks tail_of rotation_of capacity_of u16_at u32_at i32_at one_edge
one_byte_more =
    inr (
      λ h. omega arith,
      inr (
        λ h. h.0 refl,
        inr (
          λ h. omega arith,
          inr (
            neither (neither (λ h. omega arith) (λ h. omega arith)) (neither (λ h. omega arith) (λ h. omega arith)),
            inr (
              λ h. omega arith,
              inr (
                λ h. omega arith,
                inr (
                  λ h. h refl,
                  inr (
                    λ h. omega arith,
                    inr (
                      neither (λ h. omega arith) (λ h. omega arith),
                      inr (
                        neither (λ h. omega arith) (λ h. omega arith),
                        inr (
                          neither (neither (λ h. h.lt) (λ h. h.lt)) (neither (λ h. h.lt) (λ h. h.lt)),
                          inr ((λ h. h.lt), inl (omega arith, refl, refl)),
                        ),
                      ),
                    ),
                  ),
                ),
              ),
            ),
          ),
        ),
      ),
    )
