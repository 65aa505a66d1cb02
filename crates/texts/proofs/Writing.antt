-- The digits of a number written from the right: the state of the loop of `put_decimal`, with a lemma for each of its moves.
use mathlib.Core.Path.{◌≡◌, sym, ap, ◌∙◌}
use mathlib.Core.List.{List, [], ◌∷◌, ◌++◌, append-nil}
use mathlib.Core.Logic.{◌⊎◌, inl, inr, ⊎_elim}
use Prim.Native.Nat.{ℕ, ◌+◌, ◌-◌, ◌/◌, ◌%◌, ◌<◌, ◌≤◌}
use native.Mathlib.Nat.{mod-eq_of_lt}
use native.Mathlib.Omega.{arith}
use lib.ListN.{length, set, length-append}
use lib.Seq.{append_snoc}
use Rattle.fields.specs.Fields.{put}
use Rattle.texts.specs.Decimal.{digit, decimal}
use Rattle.texts.proofs.Digits.{decimal_one, decimal_more, below_or_not}
use Rattle.texts.proofs.Length.{length_one, length_more, decimal_positive}
use Rattle.texts.proofs.Pieces.{put_none, put_before}

-- of the digits of n those of m are left to write, the last of them at i; `done` stands behind it
pub record FromRight (n at : ℕ) (old : List ℕ) (m i : ℕ) (now : List ℕ) : Type 0 where
  pub done : List ℕ
  pub all : decimal m ++ done ≡ decimal n
  pub last : at + length (decimal m) ≡ i + 1
  pub bytes : now ≡ put (i + 1) done old

right_start : (n at i : ℕ) (old : List ℕ) → at + length (decimal n) ≡ i + 1 → FromRight n at old n i old
right_start n at i old e = record { done = []; all = append-nil (decimal n); last = e; bytes = sym (put_none (i + 1) old) }

module _ (n at : ℕ) (old : List ℕ) (fits : at + length (decimal n) ≤ length old) (m i : ℕ) (now : List ℕ) (w : FromRight n at old m i now) where
  room : i + 1 + length w.done ≤ length old
  room = omega (arith, w.last, simp length-append at (ap length w.all))

  -- another digit stands before the last
  right_before : 10 ≤ m → at + 1 ≤ i
  right_before h = omega (arith, w.last, length_more m h, decimal_positive (m / 10))

  store : (b : ℕ) → set now i b ≡ put i (b ∷ w.done) old
  store b = ap (λ s. set s i b) w.bytes ∙ put_before i b w.done old (omega (arith, room))

  right_step : (b : ℕ) → b ≡ digit (m % 10) → 10 ≤ m → FromRight n at old (m / 10) (i - 1) (set now i b)
  right_step b e h =
      let back : i ≡ i - 1 + 1 = omega (arith, right_before h) in
      record {
        done = b ∷ w.done;
        all =
            sym (append_snoc (decimal (m / 10)) b w.done)
            ∙ ap (λ d. decimal (m / 10) ++ (d ∷ []) ++ w.done) e
            ∙ ap (λ s. s ++ w.done) (sym (decimal_more m h))
            ∙ w.all;
        last = omega (arith, w.last, length_more m h);
        bytes = store b ∙ ap (λ k. put k (b ∷ w.done) old) back;
      }

  right_end : (b : ℕ) → b ≡ digit (m % 10) → m < 10 → set now i b ≡ put at (decimal n) old
  right_end b e h =
      let place : i ≡ at = omega (arith, w.last, length_one m h) in
      store b
      ∙ ap (λ d. put i (d ∷ w.done) old) (e ∙ ap digit (mod-eq_of_lt h))
      ∙ ap (λ s. put i s old) (ap (λ s. s ++ w.done) (sym (decimal_one m h)) ∙ w.all)
      ∙ ap (λ k. put k (decimal n) old) place

-- what is written when the places from i on are: all, or the digits behind those of m
abbrev pub WrittenFrom : (n at : ℕ) (old : List ℕ) (m i : ℕ) (now : List ℕ) → Type 0
WrittenFrom n at old m i now = ((i ≡ at) × (now ≡ put at (decimal n) old)) ⊎ ((at < i) × FromRight n at old m (i - 1) now)

module _ (n at : ℕ) (old : List ℕ) (fits : at + length (decimal n) ≤ length old) where
  pub from_none : (i : ℕ) → i ≡ at + length (decimal n) → WrittenFrom n at old n i old
  from_none i e =
      let d = decimal_positive n in
      inr (omega arith, right_start n at (i - 1) old (omega arith))

  pub from_more : (m i b : ℕ) (now : List ℕ) → at < i → b ≡ digit (m % 10) → WrittenFrom n at old m i now → WrittenFrom n at old (m / 10) (i - 1)
      (set now (i - 1) b)
  from_more m i b now h e w = ⊎_elim (λ p. absurd (omega (arith, p.0))) (λ p. go p.1) w
    where
      go : FromRight n at old m (i - 1) now → WrittenFrom n at old (m / 10) (i - 1) (set now (i - 1) b)
      go f =
          ⊎_elim
          (λ l. inl (omega (arith, f.last, length_one m l), right_end n at old fits m (i - 1) now f b e l))
          (λ l. inr (omega (arith, right_before n at old fits m (i - 1) now f l), right_step n at old fits m (i - 1) now f b e l))
          (below_or_not m 10)
