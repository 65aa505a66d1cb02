-- Worked examples, computed: the low byte stands first, and the sign is that of two's complement.
use mathlib.Core.Path.{◌≡◌, refl}
use mathlib.Core.List.{[], ◌∷◌}
use lib.IntN.{pos, negsuc}
use Rattle.fields.specs.Fields.{u16_at, u32_at, i32_at, le16, le_bits, le32, put}

-- 513 = 1 + 2 * 256, read behind one byte of kind
read_513 : u16_at (1 ∷ 1 ∷ 2 ∷ []) 1 ≡ 513
unfolding u16_at
read_513 = refl

written_513 : le16 513 ≡ 1 ∷ 2 ∷ []
unfolding le16
written_513 = refl

-- -1 has all bits set (`negsuc k` is -1 - k)
read_minus_one : i32_at (255 ∷ 255 ∷ 255 ∷ 255 ∷ []) 0 ≡ negsuc 0
unfolding i32_at u32_at
read_minus_one = refl

written_minus_three : le32 (negsuc 2) ≡ 253 ∷ 255 ∷ 255 ∷ 255 ∷ []
unfolding le32 le_bits
written_minus_three = refl

-- 1,000,000 = 64 + 66 * 256 + 15 * 65536
written_million : le32 (pos 1000000) ≡ 64 ∷ 66 ∷ 15 ∷ 0 ∷ []
unfolding le32 le_bits
written_million = refl

-- what is put takes the place of as much as it is long
put_inside : put 1 (8 ∷ 9 ∷ []) (1 ∷ 2 ∷ 3 ∷ 4 ∷ []) ≡ 1 ∷ 8 ∷ 9 ∷ 4 ∷ []
unfolding put
put_inside = refl
