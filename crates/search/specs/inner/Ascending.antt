-- What an ascent and the way down leave of the links. The array holds no marks: 1024 stands for a face that was not met, 1025 for one that is done, and on the
-- way of the ascent under way each face has the number of the face before it.
use Rattle.std.specs.Prelude.{◌≡◌, List, ℕ, ◌-◌, ◌≤◌, ◌<◌, length}
use Rattle.maps.specs.Orbit.{iter}
use Rattle.arrays.specs.At.{at}
use Rattle.search.specs.Straightening.{Ascent}

-- between two ascents the links tell which faces are marked
pub record Matched (marks links : List ℕ) : Type 0 where
  pub size : length marks ≡ 1024
  pub unmet : (x : ℕ) → x < 1024 → at marks x ≡ 1024 → at links x ≡ 1024
  pub met : (x : ℕ) → x < 1024 → (at marks x ≡ 1024 → ⊥) → at links x ≡ 1025

-- the faces of the ascent from f, which were not met, have their links; all others keep theirs
pub record Ascended (upward : ℕ → ℕ) (darts faces : ℕ) (parents : List ℕ) (f : ℕ) (marks links links' : List ℕ) (count last top : ℕ) : Type 0 where
  pub ascent : Ascent upward darts parents marks f count
  pub size_links : length links' ≡ 1024
  pub unmet : (k : ℕ) → k < count → at links (iter upward k f) ≡ 1024
  pub linked : (k : ℕ) → k < count → at links' (iter upward k f) ≡ iter upward (k - 1) f
  pub others : (x : ℕ) → ((k : ℕ) → k < count → iter upward k f ≡ x → ⊥) → at links' x ≡ at links x
  pub last_is : last ≡ iter upward (count - 1) f
  pub top_is : top ≡ iter upward count f
  pub top_in : top < faces

-- the faces of the ascent from place k on are done
pub record Unlinked (upward : ℕ → ℕ) (f k count : ℕ) (links links' : List ℕ) : Type 0 where
  pub size_links : length links' ≡ 1024
  pub gone : (j : ℕ) → k ≤ j → j < count → at links' (iter upward j f) ≡ 1025
  pub still : (j : ℕ) → j < k → at links' (iter upward j f) ≡ at links (iter upward j f)
  pub others : (x : ℕ) → ((j : ℕ) → j < count → iter upward j f ≡ x → ⊥) → at links' x ≡ at links x
