-- A head of kind 1 is judged as document 01 has it: "Head: 1 no first byte; 2 kind not 1; 1 body cut short; 3 a count out of range." The kind 4 and the check
-- 24 of document 02, Job 6, change no answer on it.
use Prim.Native.Nat.{ℕ, ◌*◌, ◌≤◌}
use mathlib.Core.Path.{◌≡◌, refl}
use mathlib.Core.Logic.{◌⊎◌, ◌↔◌, inl, inr}
use mathlib.Core.List.{List, [], ◌∷◌, ◌++◌}
use native.Mathlib.Omega.{arith}
use Rattle.std.specs.Prelude.{Result, Ok, Err}
use Rattle.refusals.specs.Order.{Check, ◌when◌, NoneOf, FirstOf, Judged}
use Rattle.refusals.specs.declared.Refusal.{Refusal}
use Rattle.refusals.proofs.Order.{append_none, none_append, append_first, first_left}
use Rattle.refusals.proofs.Same.{Same, same_sym, judged_same}
use Rattle.records.specs.Record.{record_checks}
use Rattle.records.specs.Check.{Outside, number_checks}
use Rattle.records.specs.Sheet.{kind_of, nodes_of, edges_of, outer_of, head_record_checks, head_checks}
use Rattle.records.proofs.Drawing.{not_left, not_right}
use Rattle.records.proofs.Heads.{head_long, kind_one_outer}

-- document 01's checks of a head
abbrev pub plain_head_checks : List ℕ → List Check
plain_head_checks s = record_checks s 1 0 ++ ((3 when Outside 2 513 (nodes_of s) ⊎ Outside 1 512 (edges_of s)) ∷ [])

-- a last check that cannot hold where none before it does decides nothing
judged_but_last : (cs : List Check) (k : ℕ) (P : Type 0) → (NoneOf cs → P → ⊥) → (v : Result Unit Refusal) → Judged (cs ++ ((k when P) ∷ [])) v ↔ Judged cs v
unfolding NoneOf FirstOf
judged_but_last cs k P never (Ok done) = ((λ h. (append_none cs ((k when P) ∷ []) h).0), (λ h. none_append cs ((k when P) ∷ []) h (never h, tt)))
judged_but_last cs k P never (Err r) =
    ((λ h. go (append_first cs ((k when P) ∷ []) r.number r.place h)), first_left cs ((k when P) ∷ []) r.number r.place)
  where
    last : NoneOf cs → FirstOf ((k when P) ∷ []) r.number r.place → ⊥
    last none (inl h) = never none h.0
    last none (inr h) = h.1

    go : FirstOf cs r.number r.place ⊎ (NoneOf cs × FirstOf ((k when P) ∷ []) r.number r.place) → FirstOf cs r.number r.place
    go (inl h) = h
    go (inr h) = absurd (last h.0 h.1)

module _ (s : List ℕ) (one : kind_of s ≡ 1) where
  -- the head's checks but for 24
  abbrev before_24 : List Check
  before_24 = head_record_checks s ++ ((3 when Outside 2 513 (nodes_of s) ⊎ Outside 1 512 (edges_of s)) ∷ [])

  same : Same before_24 (plain_head_checks s)
  unfolding Same head_record_checks record_checks
  same =
      let long = head_long s 1 one in (
        refl,
        refl,
        (λ h. h),
        (λ h. h),
        (
          refl,
          refl,
          (λ h. absurd (h.0 one)),
          (λ h. absurd (h one)),
          (refl, refl, (λ h. omega arith), (λ h. omega arith), (refl, refl, (λ h. h), (λ h. h), tt)),
        ),
      )

  -- where there is an edge, dart 0 is a dart
  never : NoneOf before_24 → 2 * edges_of s ≤ outer_of s → ⊥
  unfolding NoneOf
  never none h =
      let three = (append_none (head_record_checks s) ((3 when Outside 2 513 (nodes_of s) ⊎ Outside 1 512 (edges_of s)) ∷ []) none).1.0 in
      omega (arith, kind_one_outer s one, not_left (not_right three))

  pub kind_one_judged : (v : Result Unit Refusal) → Judged (head_checks s) v ↔ Judged (plain_head_checks s) v
  unfolding head_checks head_record_checks number_checks
  kind_one_judged v =
      let last = judged_but_last before_24 24 (2 * edges_of s ≤ outer_of s) never v in
      let back = same_sym before_24 (plain_head_checks s) same in
      ((λ h. judged_same before_24 (plain_head_checks s) v same (last.0 h)), (λ h. last.1 (judged_same (plain_head_checks s) before_24 v back h)))
