-- The queue: a face leaves at its front and comes at its end; there is always room, since no face stands in it twice.
use mathlib.Core.Path.{◌≡◌, refl, sym, ◌∙◌, ap}
use mathlib.Core.List.{List}
use Prim.Native.Nat.{ℕ, ◌+◌, ◌-◌, ◌%◌, ◌≤◌, ◌<◌}
use native.Mathlib.Omega.{arith}
use native.Mathlib.Decide.{ℕ_discrete, dec_lt}
use Rattle.integers.proofs.Pigeonhole.{Twice, pigeonhole}
use Rattle.arrays.specs.At.{at}
use Rattle.search.specs.Queue.{face_at, Stands}
use Rattle.search.specs.inner.Progress.{Line}
use Rattle.search.proofs.Change.{Changed, change, changed}

-- numbers below n, no two equal, are at most n
at_most_n : (n m : ℕ) (g : ℕ → ℕ) → ((i : ℕ) → i < m → g i < n) → ((i j : ℕ) → i < j → j < m → g i ≡ g j → ⊥) → m ≤ n
at_most_n n m g inside apart = go (dec_lt n m)
  where
    clash : n < m → Twice g n → ⊥
    clash l t = apart t.0 t.1 t.2 (omega (arith, t.3)) t.4

    go : Dec (n < m) → m ≤ n
    go (yes l) = absurd (clash l (pigeonhole n g (λ i h. inside i (omega arith))))
    go (no l) = omega (arith, l)

module _ {faces : ℕ} {waiting queue : List ℕ} {first last : ℕ} (h : Line faces waiting queue first last) (ordered : first ≤ last) where
  -- the faces in the order in which they stand
  row : ℕ → ℕ
  row i = face_at queue (first + i)

  -- no more places are taken than there are faces
  pub line_few : last ≤ first + faces
  unfolding row
  line_few = omega (arith, at_most_n faces (last - first) row inside apart)
    where
      inside : (i : ℕ) → i < last - first → row i < faces
      inside i l = h.inside (first + i) (omega arith) (omega arith)

      apart : (i j : ℕ) → i < j → j < last - first → row i ≡ row j → ⊥
      apart i j l m = h.once (first + i) (first + j) (omega arith) (omega arith) (omega arith)

  room_with : (f : ℕ) → f < faces → (at waiting f ≡ 1 → ⊥) → (all : ℕ → ℕ) → Changed row all (last - first) f → last < first + faces
  unfolding row
  room_with f l off all c = omega (arith, at_most_n faces (last - first + 1) all inside apart)
    where
      inside : (i : ℕ) → i < last - first + 1 → all i < faces
      inside i m = by (ℕ_discrete i (last - first))
        where
          by : Dec (i ≡ last - first) → all i < faces
          by (yes e) = rw (c.at i e) l
          by (no q) = rw (c.off i q) (h.inside (first + i) (omega arith) (omega arith))

      apart : (i j : ℕ) → i < j → j < last - first + 1 → all i ≡ all j → ⊥
      apart i j m n e = by (ℕ_discrete j (last - first))
        where
          i_old : all i ≡ face_at queue (first + i)
          i_old = c.off i (λ q. omega arith)

          by : Dec (j ≡ last - first) → ⊥
          by (yes q) = off (ap (at waiting) (sym (sym i_old ∙ e ∙ c.at j q)) ∙ h.flagged (first + i) (omega arith) (omega arith))
          by (no q) = h.once (first + i) (first + j) (omega arith) (omega arith) (omega arith) (sym i_old ∙ e ∙ c.off j q)

  -- where a face does not wait there is one less
  line_room : (f : ℕ) → f < faces → (at waiting f ≡ 1 → ⊥) → last < first + faces
  line_room f l off = room_with f l off (change row (last - first) f) (changed row (last - first) f)

  -- ── a face comes ──
  module _ (few : faces ≤ 1024) (waiting' queue' : List ℕ) (f : ℕ) (l : f < faces) (off : at waiting f ≡ 1 → ⊥)
      (c_waiting : Changed (at waiting) (at waiting') f 1) (c-queue : Changed (at queue) (at queue') (last % 1024) f) where
    room : last < first + faces
    room = line_room f l off

    -- the others stand where they stood
    pub push_old : (i : ℕ) → first ≤ i → i < last → face_at queue' i ≡ face_at queue i
    push_old i a b = c-queue.off (i % 1024) (λ e. omega (arith, room))

    push_new : face_at queue' last ≡ f
    push_new = c-queue.at (last % 1024) refl

    pub line_push : Line faces waiting' queue' first (last + 1)
    line_push = record {
      inside = λ i a b. inside' i a b (ℕ_discrete i last);
      once = λ i j a m b e. once' i j a m b e (ℕ_discrete j last);
      flagged = λ i a b. flagged' i a b (ℕ_discrete i last);
      stands = λ g b w. stands' g b w (ℕ_discrete g f);
    }
      where
        inside' : (i : ℕ) → first ≤ i → i < last + 1 → Dec (i ≡ last) → face_at queue' i < faces
        inside' i a b (yes e) = omega (arith, ap (face_at queue') e, push_new, l)
        inside' i a b (no q) = rw (push_old i a (omega arith)) (h.inside i a (omega arith))

        once' : (i j : ℕ) → first ≤ i → i < j → j < last + 1 → face_at queue' i ≡ face_at queue' j → Dec (j ≡ last) → ⊥
        once' i j a m b e (yes q) =
            off (ap (at waiting) (sym (sym (push_old i a (omega arith)) ∙ e ∙ ap (face_at queue') q ∙ push_new)) ∙ h.flagged i a (omega arith))
        once' i j a m b e (no q) =
            h.once i j a m (omega arith) (sym (push_old i a (omega arith)) ∙ e ∙ push_old j (omega arith) (omega arith))

        still : (g : ℕ) → at waiting g ≡ 1 → Dec (g ≡ f) → at waiting' g ≡ 1
        still g w (yes e) = c_waiting.at g e
        still g w (no q) = c_waiting.off g q ∙ w

        flagged' : (i : ℕ) → first ≤ i → i < last + 1 → Dec (i ≡ last) → at waiting' (face_at queue' i) ≡ 1
        flagged' i a b (yes e) = c_waiting.at (face_at queue' i) (ap (face_at queue') e ∙ push_new)
        flagged' i a b (no q) =
            rw (push_old i a (omega arith)) (still (face_at queue i) (h.flagged i a (omega arith)) (ℕ_discrete (face_at queue i) f))

        stands' : (g : ℕ) → g < faces → at waiting' g ≡ 1 → Dec (g ≡ f) → Stands queue' first (last + 1) g
        stands' g b w (yes e) = (last, ordered, omega arith, push_new ∙ sym e)
        stands' g b w (no q) =
            let s = h.stands g b (sym (c_waiting.off g q) ∙ w) in
            (s.0, s.1, omega (arith, s.2), push_old s.0 s.1 s.2 ∙ s.3)

    -- but for the face that comes, who stands from some place on stood there before
    pub push_stands : (stop : ℕ) → first ≤ stop → (g : ℕ) → Stands queue' stop (last + 1) g → (g ≡ f → ⊥) → Stands queue stop last g
    push_stands stop a g s c =
        (s.0, s.1, omega (arith, s.2, ne), sym (push_old s.0 (omega (arith, s.1)) (omega (arith, s.2, ne))) ∙ s.3)
      where
        ne : s.0 ≡ last → ⊥
        ne e = c (sym s.3 ∙ ap (face_at queue') e ∙ push_new)

-- ── the first face leaves ──
pub line_take : {faces : ℕ} {waiting waiting' queue : List ℕ} {first last : ℕ} → Line faces waiting queue first last → first < last
    → (x : ℕ) → x ≡ face_at queue first → Changed (at waiting) (at waiting') x 0 → Line faces waiting' queue (first + 1) last
line_take {faces} {waiting} {waiting'} {queue} {first} {last} h some x x_is c = record {
  inside = λ i a b. h.inside i (omega arith) b;
  once = λ i j a m b. h.once i j (omega arith) m b;
  flagged = λ i a b.
      c.off (face_at queue i) (λ e. h.once first i (omega arith) (omega arith) b (sym x_is ∙ sym e)) ∙ h.flagged i (omega arith) b;
  stands = λ g b w. stands' g b w (ℕ_discrete g x);
}
  where
    stands' : (g : ℕ) → g < faces → at waiting' g ≡ 1 → Dec (g ≡ x) → Stands queue (first + 1) last g
    stands' g b w (yes e) = absurd (omega (arith, c.at g e))
    stands' g b w (no q) = let s = h.stands g b (sym (c.off g q) ∙ w) in (s.0, omega (arith, s.1, ne s), s.2, s.3)
      where
        ne : (s : Stands queue first last g) → s.0 ≡ first → ⊥
        ne s e = q (sym s.3 ∙ ap (face_at queue) e ∙ sym x_is)
