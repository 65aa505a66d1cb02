-- A map (rotation system): the drawing of document 01 without its limits. `rotation d` is the paper's turn, "the next dart clockwise with the same
-- tail" ("Records of a sheet"). Only the darts below twice the edges and the nodes below their count mean anything.
use Rattle.std.specs.Prelude.{ℕ, ◌*◌}
use Rattle.maps.specs.Dart.{rev}

pub record Map : Type 0 where
  pub nodes : ℕ
  pub edges : ℕ
  pub tail : ℕ → ℕ
  pub rotation : ℕ → ℕ

abbrev pub darts : Map → ℕ
darts 𝓜 = 2 * 𝓜.edges

abbrev pub head : Map → ℕ → ℕ
head 𝓜 d = 𝓜.tail (rev d)
