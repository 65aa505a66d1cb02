-- The least forward limit of a channel in a window of records. Document 02, Job 10: "After each record, a channel seen in the last W records has the least
-- forward limit among them; an unseen one has the sheet's." The last W records are those of the capture up to the named one, of whatever channels; near the
-- beginning there are fewer.
use Rattle.std.specs.Prelude.{ℕ, zero, suc, ◌+◌, ◌-◌, ◌*◌, ◌/◌, ◌%◌, cond, List, eqb, ℤ}
use Rattle.std.specs.Int.Signed.{lt_z}
use Rattle.capture.specs.Entry.{channel_of, limit_of}

-- what the records looked at say of a channel: none is of it, or the least of their limits
pub data Seen : Type 0 where
  unseen : Seen
  least : ℤ → Seen

-- the lesser of two limits
abbrev pub lesser : ℤ → ℤ → ℤ
lesser x y = cond (lt_z x y) x y

-- with one record more, of this limit
abbrev pub with_limit : Seen → ℤ → Seen
with_limit unseen x = least x
with_limit (least y) x = least (lesser x y)

-- of channel e, the records first, .., first + k - 1
unfoldable pub seen_in : List ℕ → (e first : ℕ) → ℕ → Seen
seen_in b e first zero = unseen
seen_in b e first (suc k) = cond (eqb (channel_of b (first + k)) e) (with_limit (seen_in b e first k) (limit_of b (first + k))) (seen_in b e first k)

-- the sheet's limit where there is none
abbrev pub or_else : Seen → ℤ → ℤ
or_else unseen c = c
or_else (least x) c = x

-- the window of w records up to record n: its first record, which is 0 where fewer stand before, and how many there are
abbrev pub first_of : (w n : ℕ) → ℕ
first_of w n = (n + 1) - w

abbrev pub count_of : (w n : ℕ) → ℕ
count_of w n = (n + 1) - first_of w n

-- the forward limit of channel e after record n, where c are the capacities of the sheet: dart 2e has the forward limit of edge e
abbrev pub forward_of : (ℕ → ℤ) → List ℕ → (w n e : ℕ) → ℤ
forward_of c b w n e = or_else (seen_in b e (first_of w n) (count_of w n)) (c (2 * e))

-- the capacities found: these on the forward darts, the sheet's on the others
abbrev pub laid : (ℕ → ℤ) → List ℕ → (first k d : ℕ) → ℤ
laid c b first k d = cond (eqb (d % 2) 0) (or_else (seen_in b (d / 2) first k) (c d)) (c d)

abbrev pub found : (ℕ → ℤ) → List ℕ → (w n d : ℕ) → ℤ
found c b w n d = laid c b (first_of w n) (count_of w n) d
