-- The dual graph, which is searched: its places are the faces; crossing the dart d leads from the face right of it to the face left of it and adds the length
-- of d. It has one root or several: the faces whose level is 0.
use Rattle.std.specs.Prelude.{◌≡◌, Bool, List, ℕ, ◌≤◌, ◌<◌, ◌%◌, ℤ}
use Rattle.std.proofs.Math.ListN as list
use Rattle.std.specs.Int.Signed.{mag}
use Rattle.maps.specs.Dart.{rev}
use Rattle.arrays.specs.At.{at, atℤ}
use Rattle.arrays.specs.Maps.{right_of}

pub record Dual : Type 0 where
  pub darts : ℕ
  pub faces : ℕ
  -- the roots are root 0, .., root (roots − 1)
  pub roots : ℕ
  pub root : ℕ → ℕ
  pub left : ℕ → ℕ
  pub right : ℕ → ℕ
  pub length : ℕ → ℤ

abbrev pub longest : ℕ
longest = 1000000000

-- numbers in range, and darts in pairs
pub record WellFormed (N : Dual) : Type 0 where
  pub few_darts : N.darts ≤ 1024
  pub few_faces : N.faces ≤ 1024
  pub root_in : (m : ℕ) → m < N.roots → N.root m < N.faces
  pub left_in : (d : ℕ) → d < N.darts → N.left d < N.faces
  pub right_in : (d : ℕ) → d < N.darts → N.right d < N.faces
  pub short : (d : ℕ) → d < N.darts → mag (N.length d) < longest
  -- the darts come in pairs, and what is right of one is left of the other
  pub even : N.darts % 2 ≡ 0
  pub reversed : (d : ℕ) → d < N.darts → N.right d ≡ N.left (rev d)

-- The faces hang together in parts with a root each. The part of a face is the number of its root; no dart leads from one part to another; and a set of faces
-- that no dart leaves or enters holds a face just where it holds the root of its part.
pub record Joined (N : Dual) : Type 0 where
  pub part : ℕ → ℕ
  pub part_in : (f : ℕ) → f < N.faces → part f < N.roots
  pub part_root : (m : ℕ) → m < N.roots → part (N.root m) ≡ m
  pub part_kept : (d : ℕ) → d < N.darts → part (N.left d) ≡ part (N.right d)
  pub closed : (B : ℕ → Bool) → ((d : ℕ) → d < N.darts → B (N.left d) ≡ B (N.right d))
      → (f : ℕ) → f < N.faces → B f ≡ B (N.root (part f))

-- the dual that the code's arrays hold, with the roots of a list
abbrev pub dual_of : (lefts : List ℕ) (lengths : List ℤ) (darts faces : ℕ) (roots : List ℕ) → Dual
dual_of lefts lengths darts faces roots = record {
  darts = darts;
  faces = faces;
  roots = list.length roots;
  root = at roots;
  left = at lefts;
  right = right_of lefts;
  length = atℤ lengths;
}
