use mathlib.Core.Path.{◌≡◌, sym, ◌∙◌, ap}
use mathlib.Core.List.{List, ◌++◌}
use Prim.Native.Nat.{ℕ, ◌≤◌}
use lib.IntN.{ℤ, pos}
use lib.ListN.{length, take, drop}
use Rattle.std.proofs.lemmas.List.{get_or-take, length-take-le}
use Rattle.arrays.specs.At.{atℤ}
use Rattle.arrays.specs.Filled.{tabulate}
use Rattle.arrays.proofs.Tabulate.{tabulate_get_d, tabulate_ext}
use Rattle.sessions.proofs.keep.Goals as goal

-- the first elements of a list are the table of them
table_of : (n : ℕ) (l : List ℤ) → n ≤ length l → take n l ≡ tabulate n (atℤ l)
table_of n l h = sym (tabulate_get_d n (take n l) (pos 0) (length-take-le n l h)) ∙ tabulate_ext n _ _ (λ d m. get_or-take n l d (pos 0) m)

pub returns : goal.returns
returns c =
    let a = c.args in
    ap (λ l. l ++ drop a.edges a.offer.now) (c.copy.ensures ∙ table_of a.edges a.flows.now c.requires.0)
