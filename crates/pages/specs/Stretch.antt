-- One buffer for a whole list of questions. Document 02, Job 1: "Each question's settings go into its own stretch of one lent buffer, as long as the channels
-- are many. Sets go likewise into another."
use Rattle.std.specs.Prelude.{ℕ, ◌*◌, ◌≡◌, List, length, take, drop}

-- stretch i: the elements from i · size on, `size` of them
abbrev pub stretch : {A : Type 0} → (size i : ℕ) → List A → List A
stretch size i l = take size (drop (i * size) l)

-- the same from element `n` on, and no longer and no shorter
abbrev pub SameFrom : {A : Type 0} → ℕ → (l l' : List A) → Type 0
SameFrom n l l' = (length l' ≡ length l) × (drop n l' ≡ drop n l)
