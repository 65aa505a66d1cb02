-- The account of some runs, computed: both parties' flows count, a refused commit's do not, and a clear begins anew.
use mathlib.Core.Path.{◌≡◌, refl}
use mathlib.Core.List.{List, [], ◌∷◌}
use lib.IntN.{ℤ, pos, negsuc}
use Rattle.std.specs.Prelude.{Ok}
use Rattle.refusals.specs.Refused.{refused}
use Rattle.flows.specs.Settings.{on_darts}
use Rattle.parties.specs.Seen.{commits, clears}
use Rattle.parties.specs.Reached.{total, booked, since}

-- the flows of two offers on two edges
abbrev one : List ℤ
one = pos 3 ∷ negsuc 0 ∷ []

abbrev two : List ℤ
two = pos 4 ∷ pos 2 ∷ []

pub both_count : since [] (commits 0 one (Ok tt) ∷ commits 1 two (Ok tt) ∷ []) ≡ two ∷ one ∷ []
unfolding since booked
both_count = refl

pub refused_does_not : since [] (commits 0 one (Ok tt) ∷ commits 0 one (refused 30 0) ∷ []) ≡ one ∷ []
unfolding since booked
refused_does_not = refl

pub begun_anew : since [] (commits 0 one (Ok tt) ∷ clears ∷ commits 1 two (Ok tt) ∷ []) ≡ two ∷ []
unfolding since booked
begun_anew = refl

-- on the first edge 3 + 4 there and the negative back, on the second -1 + 2
pub there : total (two ∷ one ∷ []) 0 ≡ pos 7
unfolding total on_darts
there = refl

pub back : total (two ∷ one ∷ []) 1 ≡ negsuc 6
unfolding total on_darts
back = refl

pub second_edge : total (two ∷ one ∷ []) 2 ≡ pos 1
unfolding total on_darts
second_edge = refl
