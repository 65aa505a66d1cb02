-- Fields of a record ("Fields are little-endian, 16 bits unsigned or 32 bits signed"; of a tick, document 02, Job 10, 32 bits unsigned): what stands at a
-- place of the bytes, the bytes of a value,
-- and bytes put at a place. Who reads has checked the length, so the 0 past the end decides nothing.
use Rattle.std.specs.Prelude.{ℕ, ◌+◌, ◌*◌, ◌/◌, ◌%◌, List, [], ◌∷◌, ◌++◌, length, get_or, take, drop, ℤ}
use Rattle.std.specs.Int.{w32}
use Rattle.std.proofs.Common.{to_z, of_z}

-- ── read: the field at `at`, the low byte first ──
unfoldable pub u16_at : List ℕ → ℕ → ℕ
u16_at l at = get_or l at 0 + get_or l (at + 1) 0 * 256

-- 32 bits, as a number from 0
unfoldable pub u32_at : List ℕ → ℕ → ℕ
u32_at l at = get_or l at 0 + get_or l (at + 1) 0 * 256 + get_or l (at + 2) 0 * 65536 + get_or l (at + 3) 0 * 16777216

-- 32 bits, with their sign
unfoldable pub i32_at : List ℕ → ℕ → ℤ
i32_at l at = to_z w32 (u32_at l at)

-- ── write: the bytes of a value, the low one first ──
unfoldable pub le16 : ℕ → List ℕ
le16 n = n % 256 ∷ n / 256 % 256 ∷ []

unfoldable pub le_bits : ℕ → List ℕ
le_bits n = n % 256 ∷ n / 256 % 256 ∷ n / 65536 % 256 ∷ n / 16777216 % 256 ∷ []

unfoldable pub le32 : ℤ → List ℕ
le32 x = le_bits (of_z w32 x)

-- l with the bytes bs standing at `at`, and all else as it was
unfoldable pub put : ℕ → List ℕ → List ℕ → List ℕ
put at bs l = take at l ++ (bs ++ drop (at + length bs) l)
