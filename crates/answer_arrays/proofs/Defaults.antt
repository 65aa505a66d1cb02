-- Within a list no default is read.
use mathlib.Core.Path.{◌≡◌, refl}
use mathlib.Core.List.{List, [], ◌∷◌}
use Prim.Native.Nat.{ℕ, zero, suc, ◌<◌}
use native.Mathlib.Nat.{not-suc-le-zero, le_of_suc-le-suc}
use lib.ListN.{length, get_or}

pub any_default : {A : Type 0} (l : List A) (i : ℕ) (x y : A) → i < length l → get_or l i x ≡ get_or l i y
any_default [] i x y h = absurd (not-suc-le-zero h)
any_default (a ∷ l) zero x y h = refl
any_default (a ∷ l) (suc i) x y h = any_default l i x y (le_of_suc-le-suc h)
