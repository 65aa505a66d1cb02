-- The bits below k are in place.
use mathlib.Core.Path.{◌≡◌}
use Prim.Native.Nat.{◌+◌, ◌*◌}
use Rattle.node_sets.specs.inner.Words.{word, flag}
use Rattle.node_sets.proofs.word_of.Given as goal

abbrev pub invariant-loop-k : goal.invariant-loop-k
invariant-loop-k l = l.w ≡ word (λ k. flag l.inside l.nodes (64 * l.j + k)) l.k
