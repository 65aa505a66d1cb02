-- What a search is given: the arrays of the dual, and its darts grouped by the face right of them.
use Rattle.std.specs.Prelude.{List, ℕ, ℤ}
use Rattle.arrays.specs.At.{at}
use Rattle.arrays.specs.Maps.{right_of}
use Rattle.grouping.specs.Grouped.{end_of, Grouped}
use Rattle.search.specs.Dual.{Dual, dual_of}

pub record Given : Type 0 where
  pub lefts : List ℕ
  pub lengths : List ℤ
  pub order : List ℕ
  pub starts : List ℕ
  pub darts : ℕ
  pub faces : ℕ

abbrev pub given : (lefts : List ℕ) (lengths : List ℤ) (order starts : List ℕ) (darts faces : ℕ) → Given
given lefts lengths order starts darts faces =
    record { lefts = lefts; lengths = lengths; order = order; starts = starts; darts = darts; faces = faces }

-- the dual that it holds, with the roots of a list
abbrev pub dual : Given → (roots : List ℕ) → Dual
dual G roots = dual_of G.lefts G.lengths G.darts G.faces roots

-- its groups are those of the faces right of the darts
abbrev pub InGroups : Given → Type 0
InGroups G = Grouped (right_of G.lefts) G.darts G.faces G.order G.starts

-- where the group of a face ends
abbrev pub end_at : Given → ℕ → ℕ
end_at G i = end_of G.darts (at G.starts) i
