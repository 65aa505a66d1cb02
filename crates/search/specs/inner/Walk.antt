-- Walks over faces, from a root and round in a ring. Document 01, "The highest answer": "a ring of faces whose lengths add to less than zero".
use Rattle.std.specs.Prelude.{◌≡◌, List, [], ◌∷◌, ℕ, ◌<◌, ℤ, pos, ◌+ℤ◌, ◌<ℤ◌}
use Rattle.search.specs.Dual.{Dual}

-- z is the total length of a walk over faces from a root to f
pub data Walk (N : Dual) : ℕ → ℤ → Type 0 where
  here : {f : ℕ} (m : ℕ) → m < N.roots → N.root m ≡ f → Walk N f (pos 0)
  onward : {f : ℕ} {z w : ℤ} (d : ℕ) → d < N.darts → N.left d ≡ f → w ≡ z +ℤ N.length d → Walk N (N.right d) z → Walk N f w

-- crossing the darts of a list in turn leads from f to g: in the direction of `FaceWalk`
pub data Crossing (N : Dual) : ℕ → ℕ → List ℕ → Type 0 where
  stay : {f : ℕ} → Crossing N f f []
  cross : {f g : ℕ} {ds : List ℕ} (d : ℕ) → d < N.darts → N.right d ≡ f → Crossing N (N.left d) g ds → Crossing N f g (d ∷ ds)

unfoldable pub total : (ℕ → ℤ) → List ℕ → ℤ
total length [] = pos 0
total length (d ∷ ds) = length d +ℤ total length ds

-- a ring through the face x whose lengths add to less than zero
pub record Ring (N : Dual) (x : ℕ) : Type 0 where
  pub around : List ℕ
  pub closed : Crossing N x x around
  pub negative : total N.length around <ℤ pos 0
